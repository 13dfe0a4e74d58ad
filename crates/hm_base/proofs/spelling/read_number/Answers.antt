use Rattle.std.proofs.Common.{ℕ, List, subst, sym}
use Rattle.std.specs.Str.{IsUtf8}
use Rattle.std.proofs.lemmas.Fmt.{IsAscii-decimal}
use Rattle.std.proofs.lemmas.Str.{IsUtf8-from_ascii}
use Rattle.std.specs.Prelude.{decimal}
use Rattle.hm_base.proofs.spelling.read_number.Goals as goal

pub returns-in-Err-clause-none : goal.returns-in-Err-clause-none
returns-in-Err-clause-none c n lt e =
    let text : IsUtf8 c.args.text.now = subst (λ (l : List ℕ). IsUtf8 l) (sym e) (IsUtf8-from_ascii (decimal n) (IsAscii-decimal n lt)) in
    c.in-Err.ensures.cases.0 text
