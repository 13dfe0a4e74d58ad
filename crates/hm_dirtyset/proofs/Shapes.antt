-- Where the slots of a table are.
use Rattle.std.proofs.Common.{◌≡◌, ℕ, ◌+◌, ◌-◌, ◌*◌, ◌/◌, ◌^◌, ◌<◌, ◌≤◌, refl, sym, ap, ◌∙◌, subst, arith, inl, inr}
use Rattle.std.proofs.lemmas.Bool.{cases_lt}
use Rattle.std.proofs.lemmas.Nat.{pow_pos, pow-add, div-mul-add, row_fits, div_below, pow_below}
use Rattle.hm_dirtyset.specs.Table.{slot_index}

-- a number below 2 ^ 32, without its lower bits
pub high_bits : (low bits : ℕ) → low < 2 ^ 32 → bits ≤ 12 → low / 2 ^ (32 - bits) < 2 ^ bits
high_bits low bits below few =
    let whole : bits + (32 - bits) ≡ 32 = omega arith in
    let parts : 2 ^ 32 ≡ 2 ^ bits * 2 ^ (32 - bits) = ap (λ (k : ℕ). 2 ^ k) (sym whole) ∙ pow-add 2 bits (32 - bits) in
    div_below low (2 ^ (32 - bits)) (2 ^ bits) (pow_pos (32 - bits)) (subst (λ (k : ℕ). low < k) parts below)

pub pow_few : (bits : ℕ) → bits ≤ 12 → 2 ^ bits ≤ 4096
pow_few bits few = elim (cases_lt bits 12) [
  | inl less ↦ let b : 2 ^ bits < 2 ^ 12 = pow_below bits 12 less in let e : 2 ^ 12 ≡ 4096 = refl in omega arith
  | inr more ↦ let same : bits ≡ 12 = omega arith in subst (λ (k : ℕ). 2 ^ k ≤ 4096) (sym same) (let e : 2 ^ 12 ≡ 4096 = refl in omega arith)
]

pub cells_few : (stages bits : ℕ) → stages ≤ 4 → bits ≤ 12 → stages * 2 ^ bits ≤ 16384
cells_few stages bits s b =
    let w : 2 ^ bits ≤ 4096 = pow_few bits b in
    let r : stages * 2 ^ bits + 2 ^ bits ≤ 5 * 4096 = row_fits stages (2 ^ bits) 5 4096 (omega arith) w in
    let p : stages * 2 ^ bits ≤ 4 * 2 ^ bits = at_most_four stages (2 ^ bits) s in
    omega arith
  where
    at_most_four : (stages width : ℕ) → stages ≤ 4 → stages * width ≤ 4 * width
    at_most_four stages width le = let r : stages * width + width ≤ 5 * width = row_fits stages width 5 width (omega arith) (omega arith) in omega arith

pub index_within : (stages bits stage at : ℕ) → stage < stages → at < 2 ^ bits → slot_index bits stage at < stages * 2 ^ bits
index_within stages bits stage at s a =
    let r : stage * 2 ^ bits + 2 ^ bits ≤ stages * 2 ^ bits = row_fits stage (2 ^ bits) stages (2 ^ bits) s (omega arith) in omega arith

-- no two slots are at one place
pub same_stage : (bits s a t b : ℕ) → a < 2 ^ bits → b < 2 ^ bits → slot_index bits s a ≡ slot_index bits t b → s ≡ t
same_stage bits s a t b in_a in_b e =
    sym (div-mul-add s (2 ^ bits) a in_a) ∙ ap (λ (k : ℕ). k / 2 ^ bits) e ∙ div-mul-add t (2 ^ bits) b in_b

pub same_place : (bits s a t b : ℕ) → a < 2 ^ bits → b < 2 ^ bits → slot_index bits s a ≡ slot_index bits t b → a ≡ b
same_place bits s a t b in_a in_b e =
    let rows : s * 2 ^ bits ≡ t * 2 ^ bits = ap (λ (k : ℕ). k * 2 ^ bits) (same_stage bits s a t b in_a in_b e) in omega arith
