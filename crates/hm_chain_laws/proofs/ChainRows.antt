-- The rows of a chain's step at a live member of a sound chain: a write at the head, a page from the member before, what was
-- acknowledged, and a new epoch.
use Rattle.std.proofs.Common.{◌≡◌, ℕ, ◌+◌, ◌-◌, ◌<◌, ◌≤◌, true, List, [], ◌∷◌, ◌++◌, length, drop, Option, Some, None, refl, sym, ap, subst, ◌∙◌, arith, inl, inr}
use Rattle.std.specs.Prelude.{not, ◌||◌, ◌==◌, nat_lt, nat_le, if◌then◌else◌, IsTrue, slice_get}
use Rattle.std.specs.List.{list_any}
use Rattle.std.proofs.lemmas.Bool.{cond_both, both_ways, not-false, false≢true, eqb-true, ltb-false, leb-false}
use Rattle.std.proofs.lemmas.List.{append-nil, drop_all, length-append}
use Rattle.std.proofs.lemmas.List.Elements.{All-nil, All-cons, All-push}
use Rattle.std.proofs.lemmas.Option.{same_Some}
use Rattle.hm_base.specs.declared.entry.Entry.{Entry}
use Rattle.hm_base.specs.declared.node.Node.{Node}
use Rattle.hm_base.specs.declared.node.Node.TheVariants as node
use Rattle.hm_base.specs.declared.verdict.Admit.{Admit}
use Rattle.hm_base.specs.declared.verdict.Admit.TheVariants as admit
use Rattle.hm_base.specs.declared.why.Why.TheVariants as why
use Rattle.hm_base.specs.Lists.{IsPrefix}
use Rattle.hm_base.specs.Logs.{is_write, read_ahead}
use Rattle.hm_base.specs.Taking.{Took, Taken, extended, grown, take_page}
use Rattle.hm_base.specs.Verdicts.{admission}
use Rattle.hm_base.proofs.ListLaws.{prefix_same, prefix_append, prefix-length, prefix_equal, taken_page, there_is, All-prefix}
use Rattle.hm_packet.specs.declared.acted.Did.TheVariants as did
use Rattle.hm_packet.specs.declared.body.Body.{Body}
use Rattle.hm_packet.specs.declared.body.Body.TheVariants as body
use Rattle.hm_packet.specs.declared.body.Put.{Put}
use Rattle.hm_packet.specs.declared.body.Feed.{Feed}
use Rattle.hm_packet.specs.declared.body.FeedAck.{FeedAck}
use Rattle.hm_packet.specs.declared.body.Config.{Config}
use Rattle.hm_packet.specs.Messages.{Message}
use Rattle.hm_order.specs.Marks.{At}
use Rattle.hm_due_law.specs.Tidy.{IsTidy}
use Rattle.hm_rules.specs.Senders.{same_node, number, replica_sends}
use Rattle.hm_rules.specs.Replica.{Replica, len, acked_by, first_member, with_acked, none_acked}
use Rattle.hm_rules.specs.ReplicaSteps.{Stepped, ignored, log_full, sends, sends_first, ack_to, declares, appends, entry_of, admits, takes_put, on_took, is_foreign}
use Rattle.hm_rules.specs.Chain.{is_head, is_tail, successor, predecessor, is_number, passes_on, chain_grew, chain_again, chain_put, chain_took, chain_taken, chain_feed, chain_feed_ack, chain_configured, chain_config, chain_takes, chain_row, chain_step}
use Rattle.hm_rules.specs.World.{World}
use Rattle.hm_core_laws.specs.Sourced.{IsSourced}
use Rattle.hm_core_laws.specs.Packets.{BodyHolds, Holds}
use Rattle.hm_core_laws.specs.Core.{ReplicaHolds}
use Rattle.hm_core_laws.specs.Epochs.{HasMember}
use Rattle.hm_chain_laws.specs.Chained.{MemberHolds, IsPageOf, PageFits, BodyFits, Fits}
use Rattle.hm_core_laws.proofs.Members.{first_least, IsBefore, before_is}
use Rattle.hm_chain_laws.proofs.ChainParts.{Acts, Becomes, Sends, IsFree, free_none, sends_none, sends_one, passing, silently, declaring, growing}
use Rattle.hm_chain_laws.proofs.ChainReads.{Fine, ignores, mine, whole, again, ask_row, normal_read_row, stamped, refuse_row}

-- ---- lists

number_is : (o : Option ℕ) (n : ℕ) → is_number o n ≡ true → o ≡ Some n
number_is None n t = absurd (false≢true t)
number_is (Some m) n t = ap Some (eqb-true m n t)

-- a page that overlaps a log extends it along each log that the page is one of
extends : (first : ℕ) (entries log along : List Entry) → IsPrefix log along → IsPageOf first entries along → first ≤ length log → IsPrefix (extended log first entries) along
extends first entries log along p x le = elim x [
  | inl none ↦ subst (λ (l : List Entry). IsPrefix l along) (sym (ap (extended log first) none ∙ ap (λ (l : List Entry). log ++ l) (drop_all (length log - first) [] (omega arith)) ∙ append-nil log)) p
  | inr slice ↦ taken_page p slice le
]

free_ack : (r : Replica) (from : ℕ) → IsFree (ack_to r from ∷ [])
free_ack r from = record {
  senders = All-cons (λ (m : Message). IsTrue (replica_sends m.body)) (ack_to r from) [] refl (All-nil (λ (m : Message). IsTrue (replica_sends m.body)));
  holds = λ history declared net. All-cons (Holds history declared net) (ack_to r from) [] tt (All-nil (Holds history declared net));
  packets = λ epochs replicas. All-cons (Fits epochs replicas) (ack_to r from) [] tt (All-nil (Fits epochs replicas));
}

module _ (w : World) (n : ℕ) (r : Replica) (a : Acts w n r) where
  abbrev FineStep : Stepped → Type 0
  FineStep s = Fine w n r a s

  own : MemberHolds a.chain.epochs w.replicas n r
  own = mine w n r a

  held : ReplicaHolds w.history w.declared w.net r
  held = a.core.replicas n r a.there

  full : FineStep (log_full r)
  full d = absurd (let e : did.LogFull ≡ did.Done = d in cc)

  -- ---- a write at the head

  module _ (put : Put) (head : is_head r ≡ true) (source : IsSourced w.history w.net (entry_of put)) where
    none_before : (i : ℕ) → HasMember r.members i → i < n → ⊥
    none_before i h below =
        let least : first_member r ≤ i = first_least 0 r.members i (a.chain.groups.rise r.view r.members own.epoch) h in
        let first : first_member r ≡ r.me = eqb-true (first_member r) r.me head in
        let place : r.me ≡ n = own.me in
        absurd (omega arith)

    appended : IsTidy (r.log ++ entry_of put ∷ []) → FineStep (appends chain_grew r (entry_of put))
    appended tidy =
        let after : Replica = record r { log = r.log ++ entry_of put ∷ [] } in
        let becomes : Becomes w n r a after = record {
          kept = prefix_append r.log (entry_of put ∷ []);
          list = record {
            sourced = All-push (IsSourced w.history w.net) r.log (entry_of put) held.log.sourced source;
            tidy = tidy;
          };
          known = refl;
          holds = record {
            me = own.me;
            unstaged = own.unstaged;
            known = (let k : r.known ≤ length r.log = own.known in omega (arith, length-append r.log (entry_of put ∷ [])));
            writes = All-push (λ (e : Entry). IsTrue (is_write e)) r.log (entry_of put) own.writes refl;
            epoch = own.epoch;
            nested = λ i earlier at h below. absurd (none_before i h below);
          };
        } in
        cond_both (nat_lt (len r) r.cap) (chain_grew after) (log_full r) FineStep (λ t d. growing w n r a after becomes [] free_none) (λ t. full)

    admitting : (x : Admit) → admission r.accepted r.log put.stamp put.client put.request ≡ x → FineStep (admits chain_grew chain_again r put x)
    admitting (admit.Drop reason) e = ignores w n r a reason
    admitting (admit.Again index) e = again w n r a index (slice_get r.log index) refl
    admitting admit.Take e = appended (a.laws.write_tidy r.accepted r.log (entry_of put) held.log.tidy refl e)

  put_row : (put : Put) → IsSourced w.history w.net (entry_of put) → FineStep (chain_put r put)
  put_row put source = cond_both (is_head r) (takes_put chain_grew chain_again r put) (ignored r why.Status) FineStep
      (λ t. admitting put t source (admission r.accepted r.log put.stamp put.client put.request) refl) (λ t. ignores w n r a why.Status)

  -- ---- a page from the member before

  module _ (from : ℕ) (feed : Feed) (fits : PageFits a.chain.epochs w.replicas from feed) (view : feed.view ≡ r.view) (source : is_number (predecessor r) from ≡ true) (within : feed.first ≤ len r) where
    abbrev longer : List Entry
    longer = extended r.log feed.first feed.entries

    before : IsBefore r.members r.me from
    before = before_is 0 r.me from r.members (a.chain.groups.rise r.view r.members own.epoch) (number_is (predecessor r) from source)

    same_members : fits.members ≡ r.members
    same_members = same_Some fits.members r.members (sym fits.epoch ∙ ap (λ (e : ℕ). slice_get a.chain.epochs e) view ∙ own.epoch)

    along : (i : ℕ) (earlier : Replica) → At w.replicas i earlier → HasMember r.members i → i < n → IsPrefix longer earlier.log
    along i earlier at h below =
        let place : r.me ≡ n = own.me in
        let le : i ≤ from = before.greatest i h (omega arith) in
        extends feed.first feed.entries r.log earlier.log (own.nested i earlier at h below) (fits.pages i earlier at (subst (λ (l : List ℕ). HasMember l i) (sym same_members) h) le) within

    sender : (x : Replica) × At w.replicas from x
    sender = there_is w.replicas from (a.chain.groups.below r.view r.members from own.epoch before.member)

    along_sender : IsPrefix longer sender.0.log
    along_sender = along from sender.0 sender.1 before.member (let l : from < r.me = before.below in let place : r.me ≡ n = own.me in omega arith)

    abbrev after : Replica
    after = record r { log = longer; staged = None }

    becomes : Becomes w n r a after
    becomes = record {
      kept = prefix_append r.log (drop (length r.log - feed.first) feed.entries);
      list = a.laws.front w.history w.net longer sender.0.log along_sender (a.core.replicas from sender.0 sender.1).log;
      known = refl;
      holds = record {
        me = own.me;
        unstaged = refl;
        known = (let k : r.known ≤ length r.log = own.known in omega (arith, prefix-length (prefix_append r.log (drop (length r.log - feed.first) feed.entries))));
        writes = All-prefix (λ (e : Entry). IsTrue (is_write e)) along_sender (a.chain.members from sender.0 sender.1).writes;
        epoch = own.epoch;
        nested = along;
      };
    }

    same_log : length r.log ≡ length longer → is_tail r ≡ true → longer ≡ w.declared
    same_log e t = sym (prefix_equal (prefix_append r.log (drop (length r.log - feed.first) feed.entries)) (omega arith)) ∙ whole w n r a t

    grows : FineStep (chain_taken r from (grown r.log None feed.start longer))
    grows = cond_both (length r.log == length longer) Took.Same Took.Grown (λ (took : Took). FineStep (on_took r took (sends_first (ack_to after from ∷ []) (chain_took after took))))
        (λ t d. silently w n r a after becomes (ack_to after from ∷ []) (same_log (eqb-true (length r.log) (length longer) t)) (sends_one w n r a after (ack_to after from) refl (λ more. tt) tt))
        (λ t d. growing w n r a after becomes (ack_to after from ∷ []) (free_ack after from))

  -- a page that changes nothing
  abbrev refused : Took → Taken
  refused took = record { log = r.log; staged = None; took = took }

  taking : (from : ℕ) (feed : Feed) → PageFits a.chain.epochs w.replicas from feed → feed.view ≡ r.view → is_number (predecessor r) from ≡ true → FineStep (chain_taken r from (take_page r.cap r.log r.staged feed.start feed.first feed.entries))
  taking from feed fits view source =
      let next : Taken = grown r.log None feed.start (extended r.log feed.first feed.entries) in
      let unstaged : FineStep (chain_taken r from (take_page r.cap r.log None feed.start feed.first feed.entries)) =
      cond_both (nat_lt (length r.log) feed.first) (refused Took.Gap) (if nat_lt r.cap (feed.first + length feed.entries) then refused Took.LogFull else next) (λ (t : Taken). FineStep (chain_taken r from t))
      (λ t. ignores w n r a why.Gap)
      (λ t. cond_both (nat_lt r.cap (feed.first + length feed.entries)) (refused Took.LogFull) next (λ (t : Taken). FineStep (chain_taken r from t))
      (λ f. full) (λ f. grows from feed fits view source (ltb-false (length r.log) feed.first t))) in
      subst (λ (s : Option (List Entry)). FineStep (chain_taken r from (take_page r.cap r.log s feed.start feed.first feed.entries))) (sym own.unstaged) unstaged

  feed_row : (from : ℕ) (feed : Feed) → PageFits a.chain.epochs w.replicas from feed → FineStep (chain_feed r from feed)
  feed_row from feed fits =
      let next : Stepped = chain_taken r from (take_page r.cap r.log r.staged feed.start feed.first feed.entries) in
      cond_both (not (feed.view == r.view)) (ignored r why.Epoch) (if not (is_number (predecessor r) from) then ignored r why.Foreign else next) FineStep (λ t. ignores w n r a why.Epoch)
      (λ t. cond_both (not (is_number (predecessor r) from)) (ignored r why.Foreign) next FineStep (λ f. ignores w n r a why.Foreign)
      (λ f. taking from feed fits (eqb-true feed.view r.view (not-false (feed.view == r.view) t)) (not-false (is_number (predecessor r) from) f)))

  -- ---- what the member behind acknowledged

  feed_ack_row : (from : ℕ) (ack : FeedAck) → FineStep (chain_feed_ack r from ack)
  feed_ack_row from ack =
      let after : Replica = with_acked r from ack.len in
      let becomes : Becomes w n r a after = record {
        kept = prefix_same r.log;
        list = held.log;
        known = refl;
        holds = record { me = own.me; unstaged = own.unstaged; known = own.known; writes = own.writes; epoch = own.epoch; nested = own.nested };
      } in
      let outs : List Message = if nat_lt ack.len (len r) then passes_on after else [] in
      let sent : Sends w n r a after outs = cond_both (nat_lt ack.len (len r)) (passes_on after) [] (Sends w n r a after) (λ t. passing w n r a after becomes) (λ t. sends_none w n r a after) in
      let next : Stepped = sends after outs in
      cond_both (not (ack.view == r.view)) (ignored r why.Epoch) (if not (is_number (successor r) from) || nat_lt (len r) ack.len then ignored r why.Foreign else if nat_le ack.len (acked_by r from) then ignored r why.Repeat else next) FineStep (λ t. ignores w n r a why.Epoch)
      (λ t. cond_both (not (is_number (successor r) from) || nat_lt (len r) ack.len) (ignored r why.Foreign) (if nat_le ack.len (acked_by r from) then ignored r why.Repeat else next) FineStep (λ f. ignores w n r a why.Foreign)
      (λ f. cond_both (nat_le ack.len (acked_by r from)) (ignored r why.Repeat) next FineStep (λ g. ignores w n r a why.Repeat) (λ g d. silently w n r a after becomes outs (whole w n r a) sent)))

  -- ---- a new epoch

  module _ (config : Config) (epoch : At a.chain.epochs config.view config.members) where
    abbrev moved : Replica
    moved = record r { view = config.view; members = config.members; acked = none_acked }

    -- its members were members of the epoch before
    moves : r.view < config.view → Becomes w n r a moved
    moves later = record {
      kept = prefix_same r.log;
      list = held.log;
      known = refl;
      holds = record {
        me = own.me;
        unstaged = own.unstaged;
        known = own.known;
        writes = own.writes;
        epoch = epoch;
        nested = λ i earlier at h below. own.nested i earlier at (a.chain.groups.fewer r.view config.view r.members config.members i own.epoch epoch (omega arith) h) below;
      };
    }

    -- a new tail declares its log, and one that was the tail has declared it
    configured : r.view < config.view → FineStep (chain_configured (is_tail r) moved)
    configured later =
        let pages : List Message = if len moved == 0 then [] else passes_on moved in
        cond_both (is_tail moved) (if is_tail r then sends moved [] else declares moved 0 (len moved)) (sends moved pages) FineStep
        (λ t. cond_both (is_tail r) (sends moved []) (declares moved 0 (len moved)) FineStep
        (λ was d. silently w n r a moved (moves later) [] (λ (is : is_tail moved ≡ true). whole w n r a was) (sends_none w n r a moved))
        (λ was d. declaring w n r a moved (moves later) t [] free_none 0))
        (λ t d. silently w n r a moved (moves later) pages (λ (is : is_tail moved ≡ true). absurd (both_ways (is_tail moved) t is))
        (cond_both (len moved == 0) [] (passes_on moved) (Sends w n r a moved) (λ f. sends_none w n r a moved) (λ f. passing w n r a moved (moves later))))

    config_row : FineStep (chain_config r config)
    config_row =
        let next : Stepped = chain_configured (is_tail r) moved in
        cond_both (nat_le config.view r.view) (ignored r why.Epoch) (if not (list_any (λ m. m == r.me) config.members) then ignored r why.Foreign else next) FineStep (λ t. ignores w n r a why.Epoch)
        (λ t. cond_both (not (list_any (λ m. m == r.me) config.members)) (ignored r why.Foreign) next FineStep (λ f. ignores w n r a why.Foreign) (λ f. configured (leb-false config.view r.view t)))

  -- ---- any packet

  row : (src dst : Node) (b : Body) → BodyHolds w.history w.declared w.net src dst b → BodyFits a.chain.epochs w.replicas (number src) b → FineStep (chain_row r (number src) b)
  row src dst (body.Put put) x c = put_row put x
  row src dst (body.FastRead read) x c = stamped w n r a read (read_ahead r.accepted r.log read.stamp read.object) refl x
  row src dst (body.NormalRead read) x c = normal_read_row w n r a read x
  row src dst (body.Feed feed) x c = feed_row (number src) feed c
  row src dst (body.FeedAck ack) x c = feed_ack_row (number src) ack
  row src dst (body.Ask ask) x c = ask_row w n r a (number src) ask
  row src dst (body.Config config) x c = config_row config c
  row src dst (body.Refuse refuse) x c = refuse_row w n r a refuse
  row src dst other x c = ignores w n r a why.Kind

  pub arrives : (m : Message) → Holds w.history w.declared w.net m → Fits a.chain.epochs w.replicas m → FineStep (chain_step r m)
  arrives m x c =
      let next : Stepped = chain_row r (number m.src) m.body in
      cond_both (not (same_node m.dst (node.Replica r.me))) (ignored r why.NotForMe) (if not (chain_takes m.body) then ignored r why.Kind else if is_foreign r m then ignored r why.Foreign else next) FineStep (λ t. ignores w n r a why.NotForMe)
      (λ t. cond_both (not (chain_takes m.body)) (ignored r why.Kind) (if is_foreign r m then ignored r why.Foreign else next) FineStep (λ f. ignores w n r a why.Kind)
      (λ f. cond_both (is_foreign r m) (ignored r why.Foreign) next FineStep (λ g. ignores w n r a why.Foreign) (λ g. row m.src m.dst m.body x c)))
