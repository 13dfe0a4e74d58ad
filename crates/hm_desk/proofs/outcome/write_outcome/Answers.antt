use Rattle.std.proofs.Common.{◌≡◌, ℕ, List, ◌++◌, Result, Ok, Err, ap, ◌∙◌, append_assoc}
use Rattle.std.specs.Prelude.{OnOk}
use Rattle.hm_desk.proofs.outcome.write_outcome.Goals as goal

-- a text in two pieces
two_pieces : {T E : Type 0} (r : Result T E) (old mid new first second text : List ℕ) → mid ≡ old ++ first → second ≡ text → OnOk r (new ≡ mid ++ second) → OnOk r (new ≡ old ++ (first ++ text))
two_pieces (Ok done) old mid new first second text begun same more =
    more ∙ ap (λ (l : List ℕ). l ++ second) begun ∙ append_assoc old first second ∙ ap (λ (l : List ℕ). old ++ (first ++ l)) same
two_pieces (Err e) old mid new first second text begun same more = tt

pub returns-in_ok-write_bytes-in-Ignored : goal.returns-in_ok-write_bytes-in-Ignored
returns-in_ok-write_bytes-in-Ignored c =
    rw c.in-Ignored.is (two_pieces c.write_bytes-in-Ignored-2.result c.args.out.now.items c.write_bytes-in-Ignored.new.out.items _ _ _ _ c.in_ok-write_bytes-in-Ignored.ensures.ok (c.as_bytes.ensures.value ∙ c.name.ensures) c.write_bytes-in-Ignored-2.ensures.ok)

pub returns-in-Malformed : goal.returns-in-Malformed
returns-in-Malformed c = rw c.in-Malformed.is c.write_bytes-in-Malformed.ensures.ok
