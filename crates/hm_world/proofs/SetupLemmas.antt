-- What a lawful setup is.
use Rattle.std.proofs.Common.{◌≡◌, ℕ, zero, suc, ◌+◌, ◌-◌, ◌*◌, ◌/◌, ◌%◌, ◌≤◌, Bool, true, false, List, length, Option, Some, None, refl, sym, ap, ◌∙◌, arith}
use Rattle.std.specs.Prelude.{nat_le, ◌==◌, not, ◌&&◌, if◌then◌else◌}
use Rattle.std.proofs.lemmas.Bool.{cond_both, and_parts, leb-true, eqb-true, false≢true}
use Rattle.std.proofs.lemmas.Option.{none-some}
use Rattle.hm_switch.specs.declared.fault.SwitchFault.{SwitchFault}
use Rattle.hm_switch.specs.declared.fault.SwitchFault.TheVariants as switch
use Rattle.hm_switch.specs.Faults.{switch_fault}
use Rattle.hm_schedule.specs.declared.event.Setup.{Setup}
use Rattle.hm_world.specs.declared.fault.WorldFault.{WorldFault}
use Rattle.hm_world.specs.declared.fault.WorldFault.TheVariants as fault
use Rattle.hm_schedule.specs.Limits.{max_stages, max_bits, max_life}
use Rattle.hm_schedule.specs.Setups.{setup_of}
use Rattle.hm_store.specs.Log.{max_log_len}
use Rattle.hm_base.specs.declared.node.GroupKind.{GroupKind}
use Rattle.hm_base.specs.declared.node.GroupKind.TheVariants as kind
use Rattle.hm_rules.specs.Numbers.{numbers_from}
use Rattle.hm_rules.specs.Service.{replicas_below, is_fixed}
use Rattle.hm_group_laws.specs.Groups.{CanForm}
use Rattle.hm_world.specs.Grouped.{forms, AreFixed}
use Rattle.hm_world.specs.Setups.{is_group, setup_fault}

pub record IsLawful (s : Setup) : Type 0 where
  pub formed : forms s.kind s.size ≡ true
  pub some : 1 ≤ s.size
  pub few : s.size ≤ 7
  pub cap : s.cap ≤ max_log_len
  pub switch : switch_fault 1 s.stages s.bits s.life ≡ None

kept : (b : Bool) → not b ≡ false → b ≡ true
kept true e = refl
kept false e = absurd (false≢true (sym e))

formed_some : (k : GroupKind) (size : ℕ) → forms k size ≡ true → 1 ≤ size
formed_some kind.Chain size formed = leb-true 1 size (and_parts (nat_le 1 size) (nat_le size 7) formed).0
formed_some kind.Primary size formed = leb-true 1 size (and_parts (nat_le 1 size) (nat_le size 7) formed).0
formed_some kind.Vr size formed = let odd : size % 2 ≡ 1 = eqb-true (size % 2) 1 (and_parts (nat_le size 7) (size % 2 == 1) formed).1 in omega (arith, odd)

formed_few : (k : GroupKind) (size : ℕ) → forms k size ≡ true → size ≤ 7
formed_few kind.Chain size formed = leb-true size 7 (and_parts (nat_le 1 size) (nat_le size 7) formed).1
formed_few kind.Primary size formed = leb-true size 7 (and_parts (nat_le 1 size) (nat_le size 7) formed).1
formed_few kind.Vr size formed = leb-true size 7 (and_parts (nat_le size 7) (size % 2 == 1) formed).0

formed_odd : (size : ℕ) → forms kind.Vr size ≡ true → size % 2 ≡ 1
formed_odd size formed = eqb-true (size % 2) 1 (and_parts (nat_le size 7) (size % 2 == 1) formed).1

fixed_is : (k : GroupKind) → is_fixed k ≡ true → k ≡ kind.Vr
fixed_is kind.Chain fixed = absurd (false≢true fixed)
fixed_is kind.Primary fixed = absurd (false≢true fixed)
fixed_is kind.Vr fixed = refl

quorums : (size : ℕ) → size % 2 ≡ 1 → size ≡ 2 * ((size - 1) / 2) + 1
quorums size odd = omega (arith, odd)

count_from : (first n : ℕ) → length (numbers_from first n) ≡ n
count_from first zero = refl
count_from first (suc n) = omega (arith, count_from (first + 1) n)

abbrev switch_by : Bool → Bool → Bool → Option SwitchFault
switch_by stages bits life = if stages then Some switch.Stages else if bits then Some switch.Bits else if life then Some switch.Life else None

switch_lawful : (stages bits life : Bool) → stages ≡ false → bits ≡ false → life ≡ false → switch_by stages bits life ≡ None
switch_lawful stages bits life s b l = ap (λ (x : Bool). switch_by x bits life) s ∙ ap (λ (x : Bool). switch_by false x life) b ∙ ap (λ (x : Bool). switch_by false false x) l

abbrev Lawful : Setup → Option WorldFault → Type 0
Lawful s o = o ≡ None → IsLawful s

pub lawful : (s : Setup) → setup_fault s ≡ None → IsLawful s
lawful s =
    cond_both (not (is_group s)) (Some fault.Group) _ (Lawful s) (λ t e. absurd (none-some fault.Group (sym e)))
    (λ group. cond_both (not (nat_le 1 s.stages && nat_le s.stages max_stages)) (Some fault.Stages) _ (Lawful s) (λ t e. absurd (none-some fault.Stages (sym e)))
    (λ stages. cond_both (not (nat_le s.bits max_bits)) (Some fault.Bits) _ (Lawful s) (λ t e. absurd (none-some fault.Bits (sym e)))
    (λ bits. cond_both (not (nat_le 1 s.life && nat_le s.life max_life)) (Some fault.Life) _ (Lawful s) (λ t e. absurd (none-some fault.Life (sym e)))
    (λ life. cond_both (not (nat_le 1 s.cap && nat_le s.cap max_log_len)) (Some fault.Cap) None (Lawful s) (λ t e. absurd (none-some fault.Cap (sym e)))
    (λ cap e.
    let of_group : forms s.kind s.size ≡ true = kept _ group in
    let of_cap = and_parts (nat_le 1 s.cap) (nat_le s.cap max_log_len) (kept _ cap) in
    record { formed = of_group; some = formed_some s.kind s.size of_group; few = formed_few s.kind s.size of_group; cap = leb-true s.cap max_log_len of_cap.1; switch = switch_lawful _ _ _ stages bits life })))))

-- a lawful group of Viewstamped Replication has an odd size
pub can_form : (s : Setup) → setup_fault s ≡ None → CanForm (setup_of s)
can_form s e vr = quorums s.size (formed_odd s.size (ap (λ (k : GroupKind). forms k s.size) (sym vr) ∙ (lawful s e).formed))

pub none_of : (found : Option WorldFault) → ((x : WorldFault) → found ≡ Some x → ⊥) → found ≡ None
none_of None other = refl
none_of (Some x) other = absurd (other x refl)

-- the members that are opened
pub few_members : (s : Setup) (members : List ℕ) → setup_fault s ≡ None → members ≡ replicas_below s.size → length members ≤ 7
few_members s members e same =
    let few : s.size ≤ 7 = (lawful s e).few in
    omega (arith, ap (λ (l : List ℕ). length l) same, count_from 0 s.size, few)

pub fixed_members : (s : Setup) (members : List ℕ) → setup_fault s ≡ None → members ≡ replicas_below s.size → is_fixed s.kind ≡ true → AreFixed members
fixed_members s members e same fixed =
    let told : IsLawful s = lawful s e in
    let count : length members ≡ s.size = ap (λ (l : List ℕ). length l) same ∙ count_from 0 s.size in
    record {
      numbered = same ∙ ap replicas_below (sym count);
      few = let few : s.size ≤ 7 = told.few in omega (arith, count, few);
      odd = ap (λ (n : ℕ). n % 2) count ∙ formed_odd s.size (ap (λ (k : GroupKind). forms k s.size) (sym (fixed_is s.kind fixed)) ∙ told.formed);
    }
