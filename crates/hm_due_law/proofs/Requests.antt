-- A client's greatest request in a list, and which entries keep a list tidy.
use Rattle.std.proofs.Common.{◌≡◌, ℕ, zero, suc, ◌+◌, ◌<◌, ◌≤◌, ◌⊎◌, Bool, true, false, cond, List, [], ◌∷◌, ◌++◌, Option, Some, None, refl, sym, ap, subst, ◌∙◌, arith, inl, inr}
use Rattle.std.specs.Prelude.{nat_lt, nat_eq, ◌==◌, if◌then◌else◌, ◌&&◌}
use Rattle.std.proofs.lemmas.Bool.{cond_both, cond-true, cond-false, both_ways, and_parts, and_from, eq-eqb, eqb-true, ltb-true, false_from_ne_true}
use Rattle.std.proofs.lemmas.Bool.Decides.{nat_tests}
use Rattle.std.proofs.lemmas.Option.{none-some, same_Some}
use Rattle.hm_base.specs.declared.stamp.Stamp.{Stamp}
use Rattle.hm_base.specs.declared.entry.Entry.{Entry}
use Rattle.hm_base.specs.declared.verdict.LatestRequest.{LatestRequest}
use Rattle.hm_base.specs.declared.verdict.Verdict.{Verdict}
use Rattle.hm_base.specs.declared.verdict.Verdict.TheVariants as verdict
use Rattle.hm_base.specs.declared.verdict.Admit.TheVariants as admit
use Rattle.hm_base.specs.declared.why.Why.TheVariants as why
use Rattle.hm_base.specs.Logs.{is_write, end_stamp, is_newer, newest, greatest_from, greatest_request}
use Rattle.hm_base.specs.Verdicts.{judged, judge, admitted, admission}
use Rattle.hm_base.specs.Stamps.{stamp_lt, ◌≺◌}
use Rattle.hm_order.specs.Marks.{At}
use Rattle.hm_due_law.specs.Tidy.{IsTidy}
use Rattle.hm_due_law.proofs.Tidies.{write_may, look_may, tidy_push}

-- ---- the greatest request is none of the client's only, and at least each of them

-- the request is known, and at most the known one
abbrev Reaches : Option LatestRequest → ℕ → Type 0
Reaches None request = ⊥
Reaches (Some known) request = request ≤ known.request

newer_reaches : (known : Option LatestRequest) (request other index : ℕ) → is_newer known request ≡ true → Reaches known other → Reaches (Some (record { request = request; index = index })) other
newer_reaches None request other index n r = absurd r
newer_reaches (Some k) request other index n r = let l : k.request < request = ltb-true k.request request n in let m : other ≤ k.request = r in omega arith

older_reaches : (known : Option LatestRequest) (request : ℕ) → is_newer known request ≡ false → Reaches known request
older_reaches None request n = absurd (cc)
older_reaches (Some k) request n = grind (arith, nat_tests)

reaches_still : (index client : ℕ) (known : Option LatestRequest) (e : Entry) (other : ℕ) → Reaches known other → Reaches (newest index known client e) other
reaches_still index client known e other r =
    cond_both (nat_eq e.client client && is_newer known e.request) (Some (record { request = e.request; index = index })) known (λ (k : Option LatestRequest). Reaches k other) (λ t. newer_reaches known e.request other index (and_parts _ _ t).1 r) (λ f. r)

reaches_here : (index client : ℕ) (known : Option LatestRequest) (e : Entry) → e.client ≡ client → Reaches (newest index known client e) e.request
reaches_here index client known e c =
    cond_both (nat_eq e.client client && is_newer known e.request) (Some (record { request = e.request; index = index })) known (λ (k : Option LatestRequest). Reaches k e.request) (λ t. omega arith)
    (λ f. older_reaches known e.request (false_from_ne_true (is_newer known e.request) (λ n. both_ways (nat_eq e.client client && is_newer known e.request) f (and_from _ _ (eq-eqb e.client client c) n))))

reaches_after : (index client : ℕ) (known : Option LatestRequest) (log : List Entry) (other : ℕ) → Reaches known other → Reaches (greatest_from index known client log) other
reaches_after index client known [] other r = r
reaches_after index client known (e ∷ es) other r = reaches_after (index + 1) client (newest index known client e) es other (reaches_still index client known e other r)

reaches_at : (index client : ℕ) (known : Option LatestRequest) (log : List Entry) (i : ℕ) (e : Entry) → At log i e → e.client ≡ client → Reaches (greatest_from index known client log) e.request
reaches_at index client known [] i e a c = absurd (none-some e a)
reaches_at index client known (d ∷ ds) zero e a c =
    let s : d ≡ e = same_Some d e a in
    subst (λ (x : Entry). Reaches (greatest_from (index + 1) (newest index known client d) client ds) x.request) s
    (reaches_after (index + 1) client (newest index known client d) ds d.request (reaches_here index client known d (ap (λ (x : Entry). x.client) s ∙ c)))
reaches_at index client known (d ∷ ds) (suc i) e a c = reaches_at (index + 1) client (newest index known client d) ds i e a c

-- each request of the client in the list is at most the greatest
pub greatest_reaches : (log : List Entry) (client i : ℕ) (e : Entry) → At log i e → e.client ≡ client → (known : LatestRequest) × (greatest_request log client ≡ Some known) × (e.request ≤ known.request)
greatest_reaches log client i e a c = known (greatest_request log client) refl (reaches_at 0 client None log i e a c)
  where
    known : (o : Option LatestRequest) → greatest_request log client ≡ o → Reaches o e.request → (known : LatestRequest) × (greatest_request log client ≡ Some known) × (e.request ≤ known.request)
    known None s r = absurd r
    known (Some k) s r = (k, s, r)

-- the index is that of an entry with the greatest request
pub record StandsAt (log : List Entry) (client : ℕ) (known : LatestRequest) : Type 0 where
  pub entry : Entry
  pub there : At log known.index entry
  pub of_client : entry.client ≡ client
  pub with_request : entry.request ≡ known.request

abbrev Found : ℕ → ℕ → Option LatestRequest → List Entry → LatestRequest → Type 0
Found index client before log known = (before ≡ Some known) ⊎ ((i : ℕ) × (e : Entry) × At log i e × (known.index ≡ index + i) × (e.client ≡ client) × (e.request ≡ known.request))

found_from : (index client : ℕ) (before : Option LatestRequest) (log : List Entry) (known : LatestRequest) → greatest_from index before client log ≡ Some known → Found index client before log known
found_from index client before [] known s = inl s
found_from index client before (e ∷ es) known s = elim (found_from (index + 1) client (newest index before client e) es known s) [
  | inl here ↦ by_test (nat_eq e.client client && is_newer before e.request) refl here
  | inr later ↦ inr (suc later.0, later.1, later.2, (let n : known.index ≡ index + 1 + later.0 = later.3 in omega arith), later.4, later.5)
]
  where
    by_test : (b : Bool) → (nat_eq e.client client && is_newer before e.request) ≡ b → newest index before client e ≡ Some known → Found index client before (e ∷ es) known
    by_test true t h =
        let r : Some (record { request = e.request; index = index }) ≡ Some known = sym (cond-true (nat_eq e.client client && is_newer before e.request) (Some (record { request = e.request; index = index })) before t) ∙ h in
        let k : record { request = e.request; index = index } ≡ known = same_Some _ _ r in
        inr (0, e, refl, sym (ap (λ (x : LatestRequest). x.index) k) ∙ (omega arith), eqb-true e.client client (and_parts _ _ t).0, ap (λ (x : LatestRequest). x.request) k)
    by_test false t h = inl (sym (cond-false (nat_eq e.client client && is_newer before e.request) (Some (record { request = e.request; index = index })) before t) ∙ h)

pub greatest_stands : (log : List Entry) (client : ℕ) (known : LatestRequest) → greatest_request log client ≡ Some known → StandsAt log client known
greatest_stands log client known s = elim (found_from 0 client None log known s) [
  | inl none ↦ absurd (none-some known none)
  | inr found ↦ (let n : found.0 ≡ known.index = (let m : known.index ≡ 0 + found.0 = found.3 in omega arith) in record { entry = found.1; there = subst (λ (i : ℕ). At log i found.1) n found.2; of_client = found.4; with_request = found.5 })
]

-- ---- a new request is above each that the client has in the list

judged_new : (known : LatestRequest) (request : ℕ) → judged (Some known) request ≡ verdict.New → known.request < request
judged_new known request j = by_same (nat_eq known.request request) refl
  where
    by_old : (b : Bool) → nat_lt request known.request ≡ b → nat_eq known.request request ≡ false → known.request < request
    by_old true o s = absurd (let e : verdict.Old ≡ verdict.New = sym (cond-true (nat_lt request known.request) verdict.Old verdict.New o) ∙ sym (cond-false (nat_eq known.request request) (verdict.Again known.index) (cond (nat_lt request known.request) verdict.Old verdict.New) s) ∙ j in cc)
    by_old false o s = grind (arith, nat_tests)

    by_same : (b : Bool) → nat_eq known.request request ≡ b → known.request < request
    by_same true s = absurd (let e : verdict.Again known.index ≡ verdict.New = sym (cond-true (nat_eq known.request request) (verdict.Again known.index) (cond (nat_lt request known.request) verdict.Old verdict.New) s) ∙ j in cc)
    by_same false s = by_old (nat_lt request known.request) refl s

pub new_is_above : (log : List Entry) (client request : ℕ) → judge log client request ≡ verdict.New → (i : ℕ) (d : Entry) → At log i d → d.client ≡ client → d.request < request
new_is_above log client request j i d a c =
    let g : (known : LatestRequest) × (greatest_request log client ≡ Some known) × (d.request ≤ known.request) = greatest_reaches log client i d a c in
    let l : g.0.request < request = judged_new g.0 request (ap (λ (o : Option LatestRequest). judged o request) (sym g.1) ∙ j) in
    let m : d.request ≤ g.0.request = g.2 in
    omega arith

-- ---- what keeps a list tidy

-- a write above the end, of a new request
pub tidy_write_push : (log : List Entry) (e : Entry) → IsTidy log → is_write e ≡ true → end_stamp log ≺ e.stamp → judge log e.client e.request ≡ verdict.New → IsTidy (log ++ e ∷ [])
tidy_write_push log e h w l j = tidy_push log e h (write_may (end_stamp log) e w l) (new_is_above log e.client e.request j)

-- a logged read with the end's stamp, of a new request
pub tidy_look_push : (log : List Entry) (e : Entry) → IsTidy log → is_write e ≡ false → e.stamp ≡ end_stamp log → judge log e.client e.request ≡ verdict.New → IsTidy (log ++ e ∷ [])
tidy_look_push log e h w s j = tidy_push log e h (look_may (end_stamp log) e w s) (new_is_above log e.client e.request j)

admitted_new : (v : Verdict) → admitted v ≡ admit.Take → v ≡ verdict.New
admitted_new verdict.Old e = absurd (cc)
admitted_new (verdict.Again index) e = absurd (cc)
admitted_new verdict.New e = refl

-- what an entry node takes
pub admission_takes : (accepted : ℕ) (log : List Entry) (stamp : Stamp) (client request : ℕ) → admission accepted log stamp client request ≡ admit.Take → (accepted ≡ stamp.switch) × (end_stamp log ≺ stamp) × (judge log client request ≡ verdict.New)
admission_takes accepted log stamp client request t = by_switch (nat_eq accepted stamp.switch) refl
  where
    by_order : (b : Bool) → stamp_lt (end_stamp log) stamp ≡ b → accepted ≡ stamp.switch → cond (stamp_lt (end_stamp log) stamp) (admitted (judge log client request)) (admit.Drop why.Order) ≡ admit.Take → (accepted ≡ stamp.switch) × (end_stamp log ≺ stamp) × (judge log client request ≡ verdict.New)
    by_order true o s h = (s, o, admitted_new (judge log client request) (sym (cond-true (stamp_lt (end_stamp log) stamp) (admitted (judge log client request)) (admit.Drop why.Order) o) ∙ h))
    by_order false o s h = absurd (let e : admit.Drop why.Order ≡ admit.Take = sym (cond-false (stamp_lt (end_stamp log) stamp) (admitted (judge log client request)) (admit.Drop why.Order) o) ∙ h in cc)

    by_switch : (b : Bool) → nat_eq accepted stamp.switch ≡ b → (accepted ≡ stamp.switch) × (end_stamp log ≺ stamp) × (judge log client request ≡ verdict.New)
    by_switch true s = by_order (stamp_lt (end_stamp log) stamp) refl (eqb-true accepted stamp.switch s) (sym (cond-true (nat_eq accepted stamp.switch) (cond (stamp_lt (end_stamp log) stamp) (admitted (judge log client request)) (admit.Drop why.Order)) (admit.Drop why.OldSwitch) s) ∙ t)
    by_switch false s = absurd (let e : admit.Drop why.OldSwitch ≡ admit.Take = sym (cond-false (nat_eq accepted stamp.switch) (cond (stamp_lt (end_stamp log) stamp) (admitted (judge log client request)) (admit.Drop why.Order)) (admit.Drop why.OldSwitch) s) ∙ t in cc)

-- a request that is found again stands at that place
pub again_stands : (log : List Entry) (client request index : ℕ) → judge log client request ≡ verdict.Again index → (e : Entry) × At log index e × (e.client ≡ client) × (e.request ≡ request)
again_stands log client request index = go (greatest_request log client) refl
  where
    go : (o : Option LatestRequest) → greatest_request log client ≡ o → judged o request ≡ verdict.Again index → (e : Entry) × At log index e × (e.client ≡ client) × (e.request ≡ request)
    go None is a = absurd (cc)
    go (Some known) is a =
        let s : StandsAt log client known = greatest_stands log client known is in
        cond_both (known.request == request) (verdict.Again known.index) (if nat_lt request known.request then verdict.Old else verdict.New) (λ (v : Verdict). v ≡ verdict.Again index → (e : Entry) × At log index e × (e.client ≡ client) × (e.request ≡ request))
        (λ t b.
        let place : known.index ≡ index = cc in
        (s.entry, subst (λ (i : ℕ). At log i s.entry) place s.there, s.of_client, s.with_request ∙ eqb-true known.request request t))
        (λ t b. absurd (cond_both (nat_lt request known.request) verdict.Old verdict.New (λ (v : Verdict). v ≡ verdict.Again index → ⊥) (λ u x. cc) (λ u x. cc) b))
        a
