-- Rows that leave the logs: completions, reads, what is told to be committed, the switch's replacement, ticks.
use Rattle.std.proofs.Common.{◌≡◌, ℕ, ◌+◌, ◌<◌, ◌≤◌, ◌⊎◌, max, Bool, true, false, List, [], ◌∷◌, ◌++◌, length, map, take, Option, Some, None, refl, sym, ap, subst, ◌∙◌, arith, inl, inr}
use Rattle.std.specs.Prelude.{not, ◌==◌, nat_lt, nat_le, is_some, if◌then◌else◌, IsTrue, slice_get}
use Rattle.std.proofs.lemmas.Bool.{cond_both, not-false, false≢true, eqb-true, ltb-true, ltb-false, leb-false}
use Rattle.std.proofs.lemmas.List.{length-take-le}
use Rattle.std.proofs.lemmas.Option.{none-some}
use Rattle.hm_base.specs.declared.stamp.Stamp.{Stamp}
use Rattle.hm_base.specs.declared.entry.Entry.{Entry}
use Rattle.hm_base.specs.declared.node.Node.TheVariants as node
use Rattle.hm_base.specs.declared.operation.Answer.{Answer}
use Rattle.hm_base.specs.declared.why.Why.{Why}
use Rattle.hm_base.specs.declared.why.Why.TheVariants as why
use Rattle.hm_base.specs.Lists.{IsPrefix}
use Rattle.hm_base.specs.Logs.{is_write, writes, latest, read_ahead}
use Rattle.hm_base.proofs.ListLaws.{prefix_same, prefix_then, prefix_take, prefix_both, prefix_is_take, prefix-length, prefix_at, prefix_at_back, set_still, last_stands, filter_at}
use Rattle.hm_packet.specs.declared.acted.Did.TheVariants as did
use Rattle.hm_packet.specs.declared.body.Body.TheVariants as body
use Rattle.hm_packet.specs.declared.body.FastRead.{FastRead}
use Rattle.hm_packet.specs.declared.body.NormalRead.{NormalRead}
use Rattle.hm_packet.specs.declared.body.Known.{Known}
use Rattle.hm_packet.specs.declared.body.Refuse.{Refuse}
use Rattle.hm_packet.specs.Messages.{Message}
use Rattle.hm_order.specs.declared.mark.Want.TheVariants as want
use Rattle.hm_order.specs.Marks.{At}
use Rattle.hm_due_law.specs.Answers.{IsDueNow, IsFresh}
use Rattle.hm_rules.specs.Senders.{replica_sends}
use Rattle.hm_rules.specs.Replica.{Replica, len, applied, first_member, others, acked_by}
use Rattle.hm_rules.specs.ReplicaSteps.{Stepped, ignored, sends, to, done_of, read_reply, page_to, known_or_page, last_of, done_if_any, last_done, answers_again, done_again, as_normal, stamped_read, last_number, on_refuse}
use Rattle.hm_rules.specs.PrimaryBackup.{is_primary, is_settled, primary_normal_read, primary_known, primary_tick}
use Rattle.hm_rules.specs.World.{World}
use Rattle.hm_core_laws.specs.Packets.{op, WasAsked, Holds}
use Rattle.hm_core_laws.specs.Core.{ReplicaHolds}
use Rattle.hm_view_laws.specs.Leads.{Lead}
use Rattle.hm_primary_laws.specs.Led.{BackupHolds, RoleHolds, MemberHolds, CommitHolds, Fits, GroupHolds, SettledHolds}
use Rattle.hm_primary_laws.proofs.Grows.{grew_same}
use Rattle.hm_primary_laws.proofs.Parts.{Acts, Says, AllSaid, MemberStep, Becomes, says_none, says_one, says_both, says_each, says_now, commit_is, page_said, changed, silently}

-- ---- more is known

-- a replica that stages nothing has a front of its epoch's log
pub front_of_lead : {epochs : List (List ℕ)} {leads : ℕ → Lead} {declared : List Entry} {n : ℕ} (r : Replica) → MemberHolds epochs leads declared n r → r.staged ≡ None → IsPrefix r.log (leads r.view).log
front_of_lead {epochs} {leads} {declared} {n} r h u = by_role (is_primary r) h.role
  where
    by_staged : (s : Option (List Entry)) → s ≡ None → BackupHolds leads declared r s → IsPrefix r.log (leads r.view).log
    by_staged None e x = x.begins
    by_staged (Some list) e x = absurd (none-some list (sym e))

    by_role : (b : Bool) → RoleHolds leads declared r b → IsPrefix r.log (leads r.view).log
    by_role true x = subst (λ (l : List Entry). IsPrefix r.log l) x.log (prefix_same r.log)
    by_role false x = by_staged r.staged u x

-- what it is told to be committed is of the declared list
pub knows_mine : {epochs : List (List ℕ)} {leads : ℕ → Lead} {declared : List Entry} {n : ℕ} (r : Replica) → MemberHolds epochs leads declared n r → r.staged ≡ None → (view commit k : ℕ) → view ≡ r.view → CommitHolds leads declared view commit → k ≤ length r.log → (k ≤ r.known) ⊎ (k ≤ commit)
    → MemberHolds epochs leads declared n (record r { known = k })
knows_mine {epochs} {leads} {declared} {n} r h u view commit k same c fits reach = record {
  me = h.me;
  epoch = h.epoch;
  known = fits;
  applied = elim reach [
    | inl old ↦ prefix_then (prefix_both (prefix_take k r.log) (prefix_take r.known r.log) (let a : length (take k r.log) ≡ k = length-take-le k r.log fits in let b : length (take r.known r.log) ≡ r.known = length-take-le r.known r.log h.known in omega arith)) h.applied
    | inr new ↦ (
        let told : CommitHolds leads declared r.view commit = subst (λ (v : ℕ). CommitHolds leads declared v commit) same c in
        let along : IsPrefix r.log (leads r.view).log = front_of_lead r h u in
        let here : IsPrefix (take k r.log) (leads r.view).log = prefix_then (prefix_take k r.log) along in
        prefix_then (prefix_both here (prefix_take commit (leads r.view).log) (let a : length (take k r.log) ≡ k = length-take-le k r.log fits in let b : length (take commit (leads r.view).log) ≡ commit = length-take-le commit (leads r.view).log told.fits in omega arith)) told.prefix)
  ];
  role = by_role (is_primary r) h.role;
  own = h.own;
  lower = h.lower;
}
  where
    by_staged : (s : Option (List Entry)) → s ≡ None → BackupHolds leads declared r s → BackupHolds leads declared (record r { known = k }) s
    by_staged None e x = record { begun = x.begun; from = x.from; begins = x.begins }
    by_staged (Some list) e x = absurd (none-some list (sym e))

    by_role : (b : Bool) → RoleHolds leads declared r b → RoleHolds leads declared (record r { known = k }) b
    by_role true x = record { begun = x.begun; log = x.log; start = x.start; unstaged = x.unstaged; within = x.within; noted = x.noted }
    by_role false x = by_staged r.staged u x

-- another switch is accepted
accepts_mine : {epochs : List (List ℕ)} {leads : ℕ → Lead} {declared : List Entry} {n : ℕ} (r : Replica) → MemberHolds epochs leads declared n r → (k : ℕ) → MemberHolds epochs leads declared n (record r { accepted = k })
accepts_mine {epochs} {leads} {declared} {n} r h k = record { me = h.me; epoch = h.epoch; known = h.known; applied = h.applied; role = by_role (is_primary r) h.role; own = h.own; lower = h.lower }
  where
    by_staged : (s : Option (List Entry)) → BackupHolds leads declared r s → BackupHolds leads declared (record r { accepted = k }) s
    by_staged None x = record { begun = x.begun; from = x.from; begins = x.begins }
    by_staged (Some list) x = record { applied_first = x.applied_first; begun = x.begun; waits = x.waits }

    by_role : (b : Bool) → RoleHolds leads declared r b → RoleHolds leads declared (record r { accepted = k }) b
    by_role true x = record { begun = x.begun; log = x.log; start = x.start; unstaged = x.unstaged; within = x.within; noted = x.noted }
    by_role false x = by_staged r.staged x

module _ (w : World) (n : ℕ) (r : Replica) (a : Acts w n r) where
  abbrev pub Fine : Stepped → Type 0
  Fine s = s.did ≡ did.Done → MemberStep w n r a s

  pub ignores : (reason : Why) → Fine (ignored r reason)
  ignores reason d = absurd (let e : did.Ignored reason ≡ did.Done = d in cc)

  pub mine : MemberHolds a.primary.epochs a.primary.leads w.declared n r
  mine = a.primary.group.members n r a.there

  pub lists : ReplicaHolds w.history w.declared w.net r
  lists = a.core.replicas n r a.there

  pub unchanged : Becomes w n r a r a.primary.leads
  unchanged = record {
    grew = grew_same a.primary.leads;
    group = subst (λ (l : List Replica). GroupHolds a.primary.epochs w.stopped l a.primary.leads w.declared) (sym (set_still w.replicas n r a.there)) a.primary.group;
    logs = a.primary.logs;
    log = lists.log;
    staged = lists.staged;
  }

  pub settled_now : is_primary r ≡ true → SettledHolds w.declared r
  settled_now t = a.primary.settled n r (record { there = a.there; live = a.live; primary = t })

  abbrev pub Said : List Message → Type 0
  Said outs = AllSaid w a.primary.epochs a.primary.leads w.declared outs

  -- a step that changes nothing and sends something
  pub says : (outs : List Message) → Said outs → MemberStep w n r a (sends r outs)
  says outs x = silently w n r a r unchanged outs settled_now x

  now : (m : Message) → IsTrue (replica_sends m.body) → Holds w.history w.declared w.net m → Fits a.primary.epochs a.primary.leads w.declared m → Said (m ∷ [])
  now m t x fits = says_one w a.primary.epochs a.primary.leads w.declared m (says_now w a.primary.epochs a.primary.leads w.declared a.laws a.core m t x fits)

  -- ---- completions

  -- of an applied write
  completes : (i : ℕ) (e : Entry) → At (applied r) i e → is_write e ≡ true → Said (done_of r e ∷ [])
  completes i e at t = now (done_of r e) refl (record { place = i; entry = e; there = prefix_at i e mine.applied at; write = t; stamp = refl; operation = refl }) tt

  pub again : (index : ℕ) (o : Option Entry) → slice_get r.log index ≡ o → Fine (answers_again done_again r index o)
  again index None e = ignores why.Repeat
  again index (Some x) e =
      cond_both (is_write x) (done_again r index x) (ignored r why.Repeat) Fine
      (λ t. cond_both (nat_lt index r.known) (sends r (done_of r x ∷ [])) (ignored r why.Repeat) Fine
      (λ l d. says (done_of r x ∷ []) (completes index x (prefix_at_back index x (prefix_take r.known r.log) (let e : length (take r.known r.log) ≡ r.known = length-take-le r.known r.log mine.known in let b : index < r.known = ltb-true index r.known l in omega arith) e) t))
      (λ l. ignores why.Repeat))
      (λ t. ignores why.Repeat)

  last_said : (o : Option Entry) → last_of (writes (applied r)) ≡ o → Said (done_if_any r o)
  last_said None e = says_none w a.primary.epochs a.primary.leads w.declared
  last_said (Some x) e =
      let there : (i : ℕ) × At (writes (applied r)) i x = last_stands (writes (applied r)) x e in
      let found : (j : ℕ) × At (applied r) j x × (is_write x ≡ true) = filter_at is_write (applied r) there.0 x there.1 in
      completes found.0 x found.1 found.2

  -- ---- reads

  -- a settled primary has applied all that is declared
  whole : is_primary r ≡ true → is_settled r ≡ true → applied r ≡ w.declared
  whole t s = ap (λ (k : ℕ). take k r.log) ((settled_now t).settled s) ∙ prefix_is_take (a.primary.group.prefix n r a.there a.live)

  answers_whole : is_primary r ≡ true → is_settled r ≡ true → (read : NormalRead) → WasAsked w.history read.client read.request (want.Read read.object) → MemberStep w n r a (sends r (read_reply r read.client read.request (latest (applied r) read.object) ∷ []))
  answers_whole t s read was =
      let reply : Message = read_reply r read.client read.request (latest (applied r) read.object) in
      says (reply ∷ []) (now reply refl (subst (λ (l : List Entry). IsDueNow w.history (op read.client read.request) (latest l read.object)) (sym (whole t s)) (a.laws.whole w.history w.declared (op read.client read.request) read.object a.core.agree.records was)) tt)

  pub normal_read_row : (read : NormalRead) → WasAsked w.history read.client read.request (want.Read read.object) → Fine (primary_normal_read r read)
  normal_read_row read was =
      let next : Stepped = sends r (read_reply r read.client read.request (latest (applied r) read.object) ∷ []) in
      cond_both (not (is_primary r)) (ignored r why.Status) (if not (is_settled r) then ignored r why.Unsettled else next) Fine (λ t. ignores why.Status)
      (λ t. cond_both (not (is_settled r)) (ignored r why.Unsettled) next Fine (λ s. ignores why.Unsettled)
      (λ s d. answers_whole (not-false (is_primary r) t) (not-false (is_settled r) s) read was))

  pub stamped : (read : FastRead) (o : Option (Stamp × Answer)) → read_ahead r.accepted r.log read.stamp read.object ≡ o → IsFresh w.history w.declared (op read.client read.request) read.object read.stamp → Fine (stamped_read o (first_member r) (primary_normal_read r) r read)
  stamped read (Some found) e fresh = λ d.
      let reply : Message = read_reply r read.client read.request found in
      says (reply ∷ []) (now reply refl (a.laws.ahead w.history w.declared r.log (op read.client read.request) read.object r.accepted read.stamp found a.core.agree.records fresh.read fresh.point (a.primary.group.prefix n r a.there a.live) lists.log.tidy e) tt)
  stamped read None e fresh =
      let passed : Message = to r (node.Replica (first_member r)) (body.NormalRead (as_normal read)) in
      cond_both (first_member r == r.me) (primary_normal_read r (as_normal read)) (sends r (passed ∷ [])) Fine (λ t. normal_read_row (as_normal read) fresh.read) (λ t d. says (passed ∷ []) (now passed refl fresh.read tt))

  -- ---- what is told to be committed

  pub known_row : (from : ℕ) (told : Known) → CommitHolds a.primary.leads w.declared told.view told.len → Fine (primary_known r from told)
  known_row from told c =
      let new : Replica = record r { known = told.len } in
      cond_both (not (told.view == r.view)) (ignored r why.Epoch) (if not (first_member r == from) then ignored r why.Foreign else if is_some r.staged then ignored r why.Status else if nat_lt (len r) told.len then ignored r why.Gap else if nat_le told.len r.known then ignored r why.Repeat else sends new []) Fine (λ t. ignores why.Epoch)
      (λ v. cond_both (not (first_member r == from)) (ignored r why.Foreign) (if is_some r.staged then ignored r why.Status else if nat_lt (len r) told.len then ignored r why.Gap else if nat_le told.len r.known then ignored r why.Repeat else sends new []) Fine (λ t. ignores why.Foreign)
      (λ f. cond_both (is_some r.staged) (ignored r why.Status) (if nat_lt (len r) told.len then ignored r why.Gap else if nat_le told.len r.known then ignored r why.Repeat else sends new []) Fine (λ t. ignores why.Status)
      (λ s. cond_both (nat_lt (len r) told.len) (ignored r why.Gap) (if nat_le told.len r.known then ignored r why.Repeat else sends new []) Fine (λ t. ignores why.Gap)
      (λ l. cond_both (nat_le told.len r.known) (ignored r why.Repeat) (sends new []) Fine (λ t. ignores why.Repeat)
      (λ k d. learned (eqb-true told.view r.view (not-false (told.view == r.view) v)) (unstaged_is r.staged s) (ltb-false (len r) told.len l) (leb-false told.len r.known k))))))
    where
      unstaged_is : (s : Option (List Entry)) → is_some s ≡ false → s ≡ None
      unstaged_is None e = refl
      unstaged_is (Some list) e = absurd (false≢true (sym e))

      learned : told.view ≡ r.view → r.staged ≡ None → told.len ≤ len r → r.known < told.len → MemberStep w n r a (sends (record r { known = told.len }) [])
      learned v u fits above =
          let new : Replica = record r { known = told.len } in
          let m : MemberHolds a.primary.epochs a.primary.leads w.declared n new = knows_mine r mine u told.view told.len told.len v c fits (inr (omega arith)) in
          silently w n r a new (changed w n r a r unchanged new refl (omega arith) (λ t. (t, refl)) (λ e p. p) lists.staged m) []
          (λ t. record {
            settled = λ s. absurd (
                let was : r.known ≡ length w.declared = (settled_now t).settled s in
                let l : length (take told.len (a.primary.leads told.view).log) ≤ length w.declared = prefix-length c.prefix in
                let e : length (take told.len (a.primary.leads told.view).log) ≡ told.len = length-take-le told.len (a.primary.leads told.view).log c.fits in
                omega arith);
            unsettled = (settled_now t).unsettled;
          })
          (says_none w a.primary.epochs a.primary.leads w.declared)

  -- ---- the switch's replacement

  pub refuse_row : (refuse : Refuse) → Fine (on_refuse r refuse)
  refuse_row refuse =
      let told : Message = to r node.Config (body.Refused (record { switch = refuse.switch })) in
      let new : Replica = record r { accepted = max r.accepted (refuse.switch + 1) } in
      cond_both (refuse.switch == last_number) (ignored r why.Foreign) (sends new (told ∷ [])) Fine (λ t. ignores why.Foreign)
      (λ t d. silently w n r a new (changed w n r a r unchanged new refl (omega arith) (λ t. (t, refl)) (λ e p. p) lists.staged (accepts_mine r mine (max r.accepted (refuse.switch + 1)))) (told ∷ [])
      (λ t. record { settled = (settled_now t).settled; unsettled = (settled_now t).unsettled })
      (now told refl tt tt))

  -- ---- ticks

  known_or_page_said : is_primary r ≡ true → (other : ℕ) → Says w a.primary.epochs a.primary.leads w.declared (known_or_page r other)
  known_or_page_said t other =
      let told : Message = to r (node.Replica other) (body.Known (record { view = r.view; len = r.known })) in
      cond_both (acked_by r other == len r) told (page_to r r.start r.known other) (Says w a.primary.epochs a.primary.leads w.declared)
      (λ e. says_now w a.primary.epochs a.primary.leads w.declared a.laws a.core told refl tt (commit_is r mine t))
      (λ e. page_said a.laws w r mine t lists.log other)

  pub ticks : MemberStep w n r a (primary_tick r)
  ticks = cond_both (is_primary r) (sends r (map (known_or_page r) (others r) ++ last_done r)) (sends r []) (MemberStep w n r a)
      (λ t. says (map (known_or_page r) (others r) ++ last_done r) (says_both w a.primary.epochs a.primary.leads w.declared (map (known_or_page r) (others r)) (last_done r)
      (says_each w a.primary.epochs a.primary.leads w.declared (known_or_page r) (others r) (known_or_page_said t)) (last_said (last_of (writes (applied r))) refl)))
      (λ t. says [] (says_none w a.primary.epochs a.primary.leads w.declared))
