-- The commit rule: where all other members hold so much of a live primary's log, that much is declared.
use Rattle.std.proofs.Common.{◌≡◌, ℕ, ◌<◌, ◌≤◌, ◌⊎◌, Bool, true, false, List, length, take, Option, Some, None, refl, sym, ap, subst, ◌∙◌, arith, inl, inr}
use Rattle.std.specs.Prelude.{◌&&◌, nat_lt, nat_le, slice_set}
use Rattle.std.proofs.lemmas.Bool.{cond_both, false≢true, and_cases, cases_Bool, ltb-true, ltb-false, leb-false}
use Rattle.std.proofs.lemmas.List.{length-take-le}
use Rattle.std.proofs.lemmas.Option.{same_Some}
use Rattle.hm_base.specs.declared.entry.Entry.{Entry}
use Rattle.hm_base.specs.Lists.{IsPrefix}
use Rattle.hm_base.proofs.ListLaws.{prefix_same, prefix_then, prefix_take, prefix_both, prefix-length}
use Rattle.hm_order.specs.Marks.{At}
use Rattle.hm_rules.specs.Numbers.{stands_in}
use Rattle.hm_rules.specs.Replica.{Replica, others, acked_by}
use Rattle.hm_rules.specs.ReplicaSteps.{quorum_len}
use Rattle.hm_rules.specs.PrimaryBackup.{is_primary, is_settled}
use Rattle.hm_rules.specs.Declared.{declared_after}
use Rattle.hm_view_laws.specs.Leads.{Lead}
use Rattle.hm_view_laws.proofs.Puts.{same_or_not}
use Rattle.hm_primary_laws.specs.Led.{IsPast, LeadsHold, BackupHolds, RoleHolds, MemberHolds, IsLivePrimary, GroupHolds, SettledHolds}
use Rattle.hm_primary_laws.proofs.Firsts.{EpochsOf, none_later}
use Rattle.hm_primary_laws.proofs.Moves.{leads_of}
use Rattle.hm_primary_laws.proofs.Changes.{same_log}
use Rattle.hm_primary_laws.proofs.Counting.{other_at, quorum_all, quorum_fits, quorum_low, settled_from}

-- ---- the declared list grows

staged_more : (leads : ℕ → Lead) {declared longer : List Entry} → IsPrefix declared longer → (r : Replica) (s : Option (List Entry)) → BackupHolds leads declared r s → BackupHolds leads longer r s
staged_more leads p r None x = x
staged_more leads p r (Some list) x = record { applied_first = x.applied_first; begun = x.begun; waits = λ f. prefix_then (x.waits f) p }

role_more : (leads : ℕ → Lead) {declared longer : List Entry} → IsPrefix declared longer → (r : Replica) (b : Bool) → RoleHolds leads declared r b → RoleHolds leads longer r b
role_more leads p r true x = x
role_more leads p r false x = staged_more leads p r r.staged x

member_more : {epochs : List (List ℕ)} {leads : ℕ → Lead} {declared longer : List Entry} → IsPrefix declared longer → (n : ℕ) (r : Replica) → MemberHolds epochs leads declared n r → MemberHolds epochs leads longer n r
member_more {epochs} {leads} p n r h = record { me = h.me; epoch = h.epoch; known = h.known; applied = prefix_then h.applied p; role = role_more leads p r (is_primary r) h.role; own = h.own; lower = h.lower }

-- in the middle of a step: what is settled, where the commit rule is still to come
pub record Unsettles (declared : List Entry) (r : Replica) : Type 0 where
  pub unsettled : is_settled r ≡ false → length declared ≤ r.start
  pub either : (r.known ≡ length declared) ⊎ (length declared ≤ r.start)

pub unsettles : {declared : List Entry} {r : Replica} → SettledHolds declared r → Unsettles declared r
unsettles {declared} {r} s = record { unsettled = s.unsettled; either = elim (cases_Bool (is_settled r)) [ inl t ↦ inl (s.settled t) | inr f ↦ inr (s.unsettled f) ] }

module _ (epochs : List (List ℕ)) (stopped : List ℕ) (replicas : List Replica) (leads : ℕ → Lead) (declared : List Entry) (o : EpochsOf epochs stopped replicas) (g : GroupHolds epochs stopped replicas leads declared) (n : ℕ) (r : Replica) (there : At replicas n r) (live : stands_in n stopped ≡ false) (t : is_primary r ≡ true) where
  own : MemberHolds epochs leads declared n r
  own = g.members n r there

  leading : LeadsHold leads r
  leading = leads_of own t

  primary : IsLivePrimary stopped replicas n r
  primary = record { there = there; live = live; primary = t }

  begins_long : r.start ≤ length r.log
  begins_long =
      let long : (leads r.view).start ≤ length (leads r.view).log = (g.begun r.view leading.begun).long in
      let start : r.start ≡ (leads r.view).start = leading.start in
      let log : length r.log ≡ length (leads r.view).log = ap (λ (l : List Entry). length l) leading.log in
      omega arith

  known_most : r.known ≤ length declared
  known_most = let l : length (take r.known r.log) ≤ length declared = prefix-length own.applied in let e : length (take r.known r.log) ≡ r.known = length-take-le r.known r.log own.known in omega arith

  abbrev pub found : ℕ
  found = quorum_len r (length (others r))

  -- ---- the rule fires

  module _ (from : r.start ≤ found) (more : r.known < found) where
    some : 0 < found
    some = omega arith

    fits : found ≤ length r.log
    fits = quorum_fits r leading.within some

    abbrev pub longer : List Entry
    longer = declared_after declared r.log found

    -- it is of both lists, whichever is longer
    either_of : (P : List Entry → Type 0) → P (take found r.log) → P declared → P (declared_after declared r.log found)
    either_of P new old = cond_both (nat_lt (length declared) found) (take found r.log) declared P (λ u. new) (λ u. old)

    front : IsPrefix (take found r.log) r.log
    front = prefix_take found r.log

    front-length : length (take found r.log) ≡ found
    front-length = length-take-le found r.log fits

    pub declared_longer : IsPrefix declared (declared_after declared r.log found)
    declared_longer = cond_both (nat_lt (length declared) found) (take found r.log) declared (λ (l : List Entry). IsPrefix declared l)
        (λ u. prefix_both (g.prefix n r there live) front (let l : length declared < found = ltb-true (length declared) found u in let e : length (take found r.log) ≡ found = front-length in omega arith))
        (λ u. prefix_same declared)

    front_declared : IsPrefix (take found r.log) (declared_after declared r.log found)
    front_declared = cond_both (nat_lt (length declared) found) (take found r.log) declared (λ (l : List Entry). IsPrefix (take found r.log) l)
        (λ u. prefix_same (take found r.log))
        (λ u. prefix_both front (g.prefix n r there live) (let l : found ≤ length declared = ltb-false (length declared) found u in let e : length (take found r.log) ≡ found = front-length in omega arith))

    -- each other live replica is a member, and holds so much
    held_others : (b : ℕ) (x : Replica) → (b ≡ n → ⊥) → At replicas b x → stands_in b stopped ≡ false → found < (leads r.view).held b
    held_others b x ne at l =
        let other : (i : ℕ) × At (others r) i b = other_at r b (o.live b x r.view r.members at l own.epoch) (λ e. ne (e ∙ own.me)) in
        let reached : found ≤ acked_by r b = quorum_all r some other.0 b other.1 in
        let noted : acked_by r b < (leads r.view).held b = leading.noted b (omega arith) (omega arith) in
        omega arith

    prefix_more : (b : ℕ) (x : Replica) → At replicas b x → stands_in b stopped ≡ false → IsPrefix (declared_after declared r.log found) x.log
    prefix_more b x at l = either_of (λ (k : List Entry). IsPrefix k x.log) (elim (same_or_not b n) [
      | inl same ↦ subst (λ (y : Replica). IsPrefix (take found r.log) y.log) (one_at b x same at) front
      | inr ne ↦ (g.kept n b r x primary at found (held_others b x ne at l)).prefix
    ]) (g.prefix b x at l)
      where
        one_at : (b : ℕ) (x : Replica) → b ≡ n → At replicas b x → r ≡ x
        one_at b x same at = same_Some r x (sym there ∙ subst (λ (j : ℕ). At replicas j x) same at)

    rests_more : (e b : ℕ) (x : Replica) → (leads e).begun ≡ true → At replicas b x → stands_in b stopped ≡ false → IsPast x e
    rests_more e b x begun at l =
        let below : e ≤ r.view = none_later epochs stopped replicas leads declared o g n r primary e begun in
        elim (same_or_not b n) [
          | inl same ↦ subst (λ (y : Replica). IsPast y e) (same_Some r x (sym there ∙ subst (λ (j : ℕ). At replicas j x) same at)) (past_here r e r.view below (inr (refl, leading.unstaged)))
          | inr ne ↦ past_here x e r.view below ((g.members b x at).lower r.view (let h : found < (leads r.view).held b = held_others b x ne at l in omega arith))
        ]
      where
        past_here : (x : Replica) (e v : ℕ) → e ≤ v → IsPast x v → IsPast x e
        past_here x e v le p = elim p [
          | inl below ↦ inl (omega arith)
          | inr here ↦ (let s : v ≡ x.view = here.0 in elim (same_or_not e x.view) [ inl same ↦ inr (same, here.1) | inr ne ↦ inl (omega arith) ])
        ]

    declared_more : GroupHolds epochs stopped replicas leads (declared_after declared r.log found)
    declared_more = record {
      begun = g.begun;
      unbegun = g.unbegun;
      members = λ i x at. member_more declared_longer i x (g.members i x at);
      kept = g.kept;
      prefix = prefix_more;
      rests = λ e b x begun at l. inl (rests_more e b x begun at l);
    }

    abbrev pub committed : Replica
    committed = record r { known = found }

    committed_mine : MemberHolds epochs leads (declared_after declared r.log found) n (record r { known = found })
    committed_mine = record {
      me = own.me;
      epoch = own.epoch;
      known = fits;
      applied = front_declared;
      role = subst (RoleHolds leads (declared_after declared r.log found) (record r { known = found })) (sym t) (record { begun = leading.begun; log = leading.log; start = leading.start; unstaged = leading.unstaged; within = leading.within; noted = leading.noted });
      own = own.own;
      lower = own.lower;
    }

    pub commits_group : GroupHolds epochs stopped (slice_set replicas n (record r { known = found })) leads (declared_after declared r.log found)
    commits_group = same_log epochs stopped replicas leads (declared_after declared r.log found) o declared_more n r there live (record r { known = found }) refl (omega arith) (λ u. (t, refl)) (λ e p. p) committed_mine

    pub commits_settled : Unsettles declared r → SettledHolds (declared_after declared r.log found) (record r { known = found })
    commits_settled u =
        let below : length declared ≤ found = elim u.either [ inl known ↦ (let k : r.known ≡ length declared = known in omega arith) | inr low ↦ omega arith ] in
        record {
          settled = λ s. cond_both (nat_lt (length declared) found) (take found r.log) declared (λ (l : List Entry). found ≡ length l) (λ v. sym front-length) (λ v. let l : found ≤ length declared = ltb-false (length declared) found v in omega arith);
          unsettled = λ s. absurd (false≢true (sym s ∙ settled_from (record r { known = found }) (λ i q a. let m : found ≤ acked_by r q = quorum_all r some i q a in omega arith)));
        }

  -- ---- the rule doesn't fire

  pub rests_settled : (nat_le r.start found && nat_lt r.known found) ≡ false → Unsettles declared r → SettledHolds declared r
  rests_settled f u = record {
    settled = λ s. elim u.either [
      | inl known ↦ known
      | inr low ↦ (
          let reached : r.start ≤ found = quorum_low r begins_long s in
          let most : r.known ≤ length declared = known_most in
          elim (and_cases (nat_le r.start found) (nat_lt r.known found) f) [
            | inl below ↦ absurd (let l : found < r.start = leb-false r.start found below in omega arith)
            | inr past ↦ (let l : found ≤ r.known = ltb-false r.known found past in omega arith)
          ])
    ];
    unsettled = u.unsettled;
  }
