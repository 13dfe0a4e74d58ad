-- Parts of the steps of a live replica: what it sends, its state in the middle of a step, and the two ways in which a step ends, with
-- or without the commit rule.
use Rattle.std.proofs.Common.{◌≡◌, ℕ, ◌-◌, ◌<◌, ◌≤◌, true, false, List, [], ◌∷◌, ◌++◌, length, map, take, drop, refl, sym, subst}
use Rattle.std.specs.Prelude.{max, ◌&&◌, nat_lt, nat_le, IsTrue, slice_set, All}
use Rattle.std.proofs.lemmas.Bool.{cond_both, and_parts, ltb-true, leb-true}
use Rattle.std.proofs.lemmas.List.Elements.{All-nil, All-cons, All-append, All-take, All-drop, All-map}
use Rattle.hm_base.specs.declared.entry.Entry.{Entry}
use Rattle.hm_base.specs.declared.entry.Act.{Act}
use Rattle.hm_base.specs.declared.entry.Act.TheVariants as act
use Rattle.hm_base.specs.Lists.{IsPrefix, IsSlice}
use Rattle.hm_base.specs.Logs.{max_page_len, page}
use Rattle.hm_base.specs.Taking.{held}
use Rattle.hm_base.proofs.ListLaws.{prefix_same, prefix_then, slice_cut, each_from_at, set_same, set_twice}
use Rattle.hm_packet.specs.Messages.{Message}
use Rattle.hm_order.specs.Marks.{At}
use Rattle.hm_rules.specs.Numbers.{stands_in}
use Rattle.hm_rules.specs.Senders.{replica_sends}
use Rattle.hm_rules.specs.Replica.{Replica, others, acked_by}
use Rattle.hm_rules.specs.ReplicaSteps.{Stepped, sends, and_sends, page_to, pages, quorum_len, max_answered, answer_act, answer_entry, answers, declares}
use Rattle.hm_rules.specs.PrimaryBackup.{is_primary, primary_commits}
use Rattle.hm_rules.specs.Declared.{declared_after}
use Rattle.hm_rules.specs.World.{World, is_stopped}
use Rattle.hm_core_laws.specs.Sourced.{IsSourced}
use Rattle.hm_core_laws.specs.Packets.{Holds}
use Rattle.hm_core_laws.specs.Core.{ListHolds, Core}
use Rattle.hm_core_laws.specs.Epochs.{EpochsHold}
use Rattle.hm_core_laws.specs.Owed.{declared_by}
use Rattle.hm_core_laws.specs.Later.{StaysTrue}
use Rattle.hm_view_laws.specs.Leads.{Lead}
use Rattle.hm_primary_laws.specs.Led.{LeadsHold, MemberHolds, CommitHolds, Fits, IsPast, IsLivePrimary, GroupHolds, SettledHolds, PrimaryHolds}
use Rattle.hm_primary_laws.proofs.Firsts.{EpochsOf, epochs_set, one_primary}
use Rattle.hm_primary_laws.proofs.Grows.{Grew}
use Rattle.hm_primary_laws.proofs.Moves.{each_set, leads_of}
use Rattle.hm_primary_laws.proofs.Changes.{same_log}
use Rattle.hm_primary_laws.proofs.Commits.{Unsettles, declared_longer, commits_group, commits_settled, rests_settled}
use Rattle.hm_primary_laws.proofs.Laws.{StepLaws}

pub epochs_of : {w : World} {epochs : List (List ℕ)} → EpochsHold w epochs → EpochsOf epochs w.stopped w.replicas
epochs_of g = record { rise = g.rise; fewer = g.fewer; live = g.live }

-- a live replica of a sound group
pub record Acts (w : World) (n : ℕ) (r : Replica) : Type 0 where
  pub laws : StepLaws
  pub core : Core w
  pub primary : PrimaryHolds w
  pub there : At w.replicas n r
  pub live : is_stopped w n ≡ false

-- a packet that it may send
pub record Says (w : World) (epochs : List (List ℕ)) (leads : ℕ → Lead) (declared : List Entry) (m : Message) : Type 0 where
  pub sender : IsTrue (replica_sends m.body)
  pub stays : StaysTrue w declared m
  pub fits : Fits epochs leads declared m

pub record AllSaid (w : World) (epochs : List (List ℕ)) (leads : ℕ → Lead) (declared : List Entry) (outs : List Message) : Type 0 where
  pub senders : All (λ (m : Message). IsTrue (replica_sends m.body)) outs
  pub stays : All (StaysTrue w declared) outs
  pub fits : All (Fits epochs leads declared) outs

module _ (w : World) (epochs : List (List ℕ)) (leads : ℕ → Lead) (declared : List Entry) where
  pub says_none : AllSaid w epochs leads declared []
  says_none = record { senders = All-nil (λ (m : Message). IsTrue (replica_sends m.body)); stays = All-nil (StaysTrue w declared); fits = All-nil (Fits epochs leads declared) }

  pub says_more : (m : Message) (outs : List Message) → Says w epochs leads declared m → AllSaid w epochs leads declared outs → AllSaid w epochs leads declared (m ∷ outs)
  says_more m outs x xs = record {
    senders = All-cons (λ (m : Message). IsTrue (replica_sends m.body)) m outs x.sender xs.senders;
    stays = All-cons (StaysTrue w declared) m outs x.stays xs.stays;
    fits = All-cons (Fits epochs leads declared) m outs x.fits xs.fits;
  }

  pub says_one : (m : Message) → Says w epochs leads declared m → AllSaid w epochs leads declared (m ∷ [])
  says_one m x = says_more m [] x says_none

  pub says_both : (ms ns : List Message) → AllSaid w epochs leads declared ms → AllSaid w epochs leads declared ns → AllSaid w epochs leads declared (ms ++ ns)
  says_both ms ns x y = record {
    senders = All-append (λ (m : Message). IsTrue (replica_sends m.body)) ms ns x.senders y.senders;
    stays = All-append (StaysTrue w declared) ms ns x.stays y.stays;
    fits = All-append (Fits epochs leads declared) ms ns x.fits y.fits;
  }

  pub says_each : (f : ℕ → Message) (xs : List ℕ) → ((x : ℕ) → Says w epochs leads declared (f x)) → AllSaid w epochs leads declared (map f xs)
  says_each f [] h = says_none
  says_each f (x ∷ xs) h = says_more (f x) (map f xs) (h x) (says_each f xs h)

  -- what holds now stays true
  pub says_now : StepLaws → Core w → (m : Message) → IsTrue (replica_sends m.body) → Holds w.history w.declared w.net m → Fits epochs leads declared m → Says w epochs leads declared m
  says_now laws core m t x fits = record {
    sender = t;
    stays = λ h k net later front. laws.stays w.history h w.declared k w.net net m later.marks later.entries later.packets core.agree.formed x;
    fits = fits;
  }

-- what a primary has applied is a commit of its epoch
pub commit_is : {epochs : List (List ℕ)} {leads : ℕ → Lead} {declared : List Entry} {n : ℕ} (r : Replica) → MemberHolds epochs leads declared n r → is_primary r ≡ true → CommitHolds leads declared r.view r.known
commit_is {epochs} {leads} {declared} r h t =
    let x : LeadsHold leads r = leads_of h t in
    record {
      begun = x.begun;
      fits = subst (λ (l : List Entry). r.known ≤ length l) x.log h.known;
      prefix = subst (λ (l : List Entry). IsPrefix (take r.known l) declared) x.log h.applied;
    }

-- a page of a primary's log
pub page_said : StepLaws → (w : World) {epochs : List (List ℕ)} {leads : ℕ → Lead} {declared : List Entry} {n : ℕ} (r : Replica) → MemberHolds epochs leads declared n r → is_primary r ≡ true → ListHolds w.history w.net r.log → (other : ℕ) → Says w epochs leads declared (page_to r r.start r.known other)
page_said laws w {epochs} {leads} {declared} r h t list other =
    let x : LeadsHold leads r = leads_of h t in
    record {
      sender = refl;
      stays = λ hist k net later front. laws.sourced w.history hist w.net net (page r.log (acked_by r other)) later.marks later.packets
          (All-take (IsSourced w.history w.net) max_page_len (drop (acked_by r other) r.log) (All-drop (IsSourced w.history w.net) (acked_by r other) r.log list.sourced));
      fits = record {
        starts = x.start;
        slice = subst (λ (l : List Entry). IsSlice (acked_by r other) (page r.log (acked_by r other)) l) x.log (slice_cut (acked_by r other) max_page_len r.log (x.within other));
        commits = commit_is r h t;
      };
    }

-- what a step of it gives
pub record Result (w : World) (n : ℕ) (r : Replica) (a : Acts w n r) (s : Stepped) (declared : List Entry) : Type 0 where
  pub leads : ℕ → Lead
  pub grew : Grew a.primary.leads leads
  pub group : GroupHolds a.primary.epochs w.stopped (slice_set w.replicas n s.replica) leads declared
  pub settled : (i : ℕ) (x : Replica) → IsLivePrimary w.stopped (slice_set w.replicas n s.replica) i x → SettledHolds declared x
  pub longer : IsPrefix w.declared declared
  pub logs : (e : ℕ) → (leads e).begun ≡ true → ListHolds w.history w.net (leads e).log
  pub log : ListHolds w.history w.net s.replica.log
  pub staged : ListHolds w.history w.net (held [] s.replica.staged)
  pub said : AllSaid w a.primary.epochs leads declared s.outs

abbrev pub MemberStep : (w : World) (n : ℕ) (r : Replica) → Acts w n r → Stepped → Type 0
MemberStep w n r a s = Result w n r a s (declared_by w s)

-- the replica in the middle of a step, before anything is declared
pub record Becomes (w : World) (n : ℕ) (r : Replica) (a : Acts w n r) (new : Replica) (leads : ℕ → Lead) : Type 0 where
  pub grew : Grew a.primary.leads leads
  pub group : GroupHolds a.primary.epochs w.stopped (slice_set w.replicas n new) leads w.declared
  pub logs : (e : ℕ) → (leads e).begun ≡ true → ListHolds w.history w.net (leads e).log
  pub log : ListHolds w.history w.net new.log
  pub staged : ListHolds w.history w.net (held [] new.staged)

module _ (w : World) (n : ℕ) (r : Replica) (a : Acts w n r) where
  pub epochs_then : (new : Replica) → EpochsOf a.primary.epochs w.stopped (slice_set w.replicas n new)
  epochs_then new = epochs_set (epochs_of a.primary.groups) n r new a.there

  pub stands : (new : Replica) → At (slice_set w.replicas n new) n new
  stands new = set_same w.replicas n new r a.there

  module _ (new : Replica) {leads : ℕ → Lead} (b : Becomes w n r a new leads) where
    pub member_now : MemberHolds a.primary.epochs leads w.declared n new
    member_now = b.group.members n new (stands new)

    -- another change behind it, which leaves the log
    pub changed : (s : Replica) → s.log ≡ new.log → new.view ≤ s.view → (is_primary s ≡ true → (is_primary new ≡ true) × (s.view ≡ new.view)) → ((e : ℕ) → IsPast new e → IsPast s e)
        → ListHolds w.history w.net (held [] s.staged) → MemberHolds a.primary.epochs leads w.declared n s → Becomes w n r a s leads
    changed s same view primary past staged mine = record {
      grew = b.grew;
      group = subst (λ (l : List Replica). GroupHolds a.primary.epochs w.stopped l leads w.declared) (set_twice w.replicas n new s)
          (same_log a.primary.epochs w.stopped (slice_set w.replicas n new) leads w.declared (epochs_then new) b.group n new (stands new) a.live s same view primary past mine);
      logs = b.logs;
      log = subst (ListHolds w.history w.net) (sym same) b.log;
      staged = staged;
    }

    -- ---- without the commit rule

    pub silently : (outs : List Message) → (is_primary new ≡ true → SettledHolds w.declared new) → AllSaid w a.primary.epochs leads w.declared outs → MemberStep w n r a (sends new outs)
    silently outs settled said = subst (Result w n r a (sends new outs)) (sym (a.laws.rests w new outs)) (record {
      leads = leads;
      grew = b.grew;
      group = b.group;
      settled = λ i x p. each_set w.replicas n new (λ (i : ℕ) (x : Replica). stands_in i w.stopped ≡ false → is_primary x ≡ true → SettledHolds w.declared x) (λ l t. settled t)
          (λ i x ne at l t. a.primary.settled i x (record { there = at; live = l; primary = t })) i x p.there p.live p.primary;
      longer = prefix_same w.declared;
      logs = b.logs;
      log = b.log;
      staged = b.staged;
      said = said;
    })

    -- ---- with the commit rule

    module _ (t : is_primary new ≡ true) (u : Unsettles w.declared new) (more : Replica → List Message)
        (after : (declared : List Entry) (s : Replica) → MemberHolds a.primary.epochs leads declared n s → is_primary s ≡ true → ListHolds w.history w.net s.log → AllSaid w a.primary.epochs leads declared (more s)) where
      abbrev found : ℕ
      found = quorum_len new (length (others new))

      fires : (nat_le new.start found && nat_lt new.known found) ≡ true → MemberStep w n r a (and_sends (declares new new.known found) more)
      fires h =
          let from : new.start ≤ found = leb-true new.start found (and_parts (nat_le new.start found) (nat_lt new.known found) h).0 in
          let above : new.known < found = ltb-true new.known found (and_parts (nat_le new.start found) (nat_lt new.known found) h).1 in
          let k : List Entry = declared_after w.declared new.log found in
          let last : Replica = record new { known = found } in
          let o = epochs_then new in
          let group : GroupHolds a.primary.epochs w.stopped (slice_set w.replicas n last) leads k = subst (λ (l : List Replica). GroupHolds a.primary.epochs w.stopped l leads k) (set_twice w.replicas n new last)
          (commits_group a.primary.epochs w.stopped (slice_set w.replicas n new) leads w.declared o b.group n new (stands new) a.live t from above) in
          let mine : MemberHolds a.primary.epochs leads k n last = group.members n last (stands last) in
          let settles : SettledHolds k last = commits_settled a.primary.epochs w.stopped (slice_set w.replicas n new) leads w.declared o b.group n new (stands new) a.live t from above u in
          record {
            leads = leads;
            grew = b.grew;
            group = group;
            settled = λ i x p. each_set w.replicas n last (λ (i : ℕ) (x : Replica). n ≡ i → SettledHolds k x) (λ e. settles) (λ i x ne at e. absurd (ne e)) i x p.there
                (one_primary a.primary.epochs w.stopped (slice_set w.replicas n last) leads k (epochs_then last) group n i last x (record { there = stands last; live = a.live; primary = t }) p);
            longer = declared_longer a.primary.epochs w.stopped (slice_set w.replicas n new) leads w.declared o b.group n new (stands new) a.live t from above;
            logs = b.logs;
            log = b.log;
            staged = b.staged;
            said = says_both w a.primary.epochs leads k (answers last new.known found) (more last) (answered k last found mine.applied) (after k last mine t b.log);
          }
        where
          answered : (k : List Entry) (last : Replica) (m : ℕ) → IsPrefix (take m last.log) k → AllSaid w a.primary.epochs leads k (answers (record last { known = m }) new.known m)
          answered k last m p = record {
            senders = a.laws.answers_sent last new.known m;
            stays = λ i d l h k' net later front. a.laws.answers_true h k' net last new.known m later.agree (prefix_then p front) i d l;
            fits = All-map (Fits a.primary.epochs leads k) (answer_entry (record last { known = m })) (drop (max new.known (m - max_answered)) (take m last.log))
                (each_from_at (λ (e : Entry). Fits a.primary.epochs leads k (answer_entry (record last { known = m }) e)) (drop (max new.known (m - max_answered)) (take m last.log)) (λ i e at. entry_fits e e.act));
          }
            where
              entry_fits : (e : Entry) (x : Act) → Fits a.primary.epochs leads k (answer_act (record last { known = m }) e x)
              entry_fits e (act.Put value) = tt
              entry_fits e act.Look = tt

      pub growing : MemberStep w n r a (and_sends (primary_commits new) more)
      growing = cond_both (nat_le new.start found && nat_lt new.known found) (declares new new.known found) (sends new []) (λ (s : Stepped). MemberStep w n r a (and_sends s more)) fires
          (λ f. silently (more new) (λ p. rests_settled a.primary.epochs w.stopped (slice_set w.replicas n new) leads w.declared (epochs_then new) b.group n new (stands new) a.live t f u) (after w.declared new member_now t b.log))

    -- the pages of a primary to all others
    pub paging : (declared : List Entry) (s : Replica) → MemberHolds a.primary.epochs leads declared n s → is_primary s ≡ true → ListHolds w.history w.net s.log → AllSaid w a.primary.epochs leads declared (pages s)
    paging declared s h t list = says_each w a.primary.epochs leads declared (page_to s s.start s.known) (others s) (page_said a.laws w s h t list)
