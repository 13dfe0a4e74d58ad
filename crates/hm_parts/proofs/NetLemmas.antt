-- Packets behind a net, one after another.
use Rattle.std.proofs.Common.{◌≡◌, ℕ, ◌+◌, ◌≤◌, List, [], ◌∷◌, ◌++◌, length, take, Some, None, sym, ap, ◌∙◌, append_assoc, arith, suc, zero}
use Rattle.std.specs.Prelude.{slice_get}
use Rattle.std.proofs.lemmas.Option.{get_or_from_slice_get, slice_get_within, none-some}
use Rattle.std.proofs.lemmas.List.{take_more}
use Rattle.hm_packet.specs.Messages.{Message}
use Rattle.hm_parts.specs.Seen.{Posted}

-- one more packet behind those posted
pub posted : (old self new : Posted) (outs : List Message) (i : ℕ) (p : Message) → self ≡ record old { packets = old.packets ++ take i outs } → new ≡ record self { packets = self.packets ++ p ∷ [] } → slice_get outs i ≡ Some p
    → new ≡ record old { packets = old.packets ++ take (i + 1) outs }
posted old self new outs i p before now here =
    let longer : take i outs ++ p ∷ [] ≡ take (i + 1) outs =
    ap (λ (m : Message). take i outs ++ m ∷ []) (sym (get_or_from_slice_get outs i p p here)) ∙ sym (take_more outs i p (slice_get_within outs i p here)) in
    now ∙ ap (λ (n : Posted). record n { packets = n.packets ++ p ∷ [] }) before
    ∙ ap (λ (l : List Message). record old { packets = l }) (append_assoc old.packets (take i outs) (p ∷ []) ∙ ap (λ (l : List Message). old.packets ++ l) longer)

-- what isn't there is past the end
pub missing : {A : Type 0} (xs : List A) (i : ℕ) → slice_get xs i ≡ None → length xs ≤ i
missing [] i e = omega arith
missing (x ∷ xs) zero e = absurd (none-some x (sym e))
missing (x ∷ xs) (suc i) e = let l : length xs ≤ i = missing xs i e in omega arith
