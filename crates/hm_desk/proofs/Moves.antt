-- What was read of a source that tells its bytes, and what its bytes are where the next line is no order.
use Rattle.std.proofs.Common.{◌≡◌, ℕ, ◌+◌, ◌<◌, ◌≤◌, List, [], ◌++◌, length, Option, Some, None, refl, sym, ap, subst, ◌∙◌, inl, inr, append_assoc, arith}
use Rattle.std.specs.Io.KnownBytes.{Consumes}
use Rattle.std.proofs.lemmas.List.{length-append, take-append-le}
use Rattle.hm_schedule.specs.LineTexts.{IsLine, ended}
use Rattle.hm_schedule.specs.Lines.{Moves, IsOverlong, max_line_len}
use Rattle.hm_schedule.specs.declared.line.LineReason.{LineReason}
use Rattle.hm_schedule.specs.declared.line.LineReason.TheVariants as reason
use Rattle.hm_desk.specs.Ends.{IsRefused}
use Rattle.hm_operator.specs.Orders.{IsFirstReason, IsLawful, order_text}
use Rattle.hm_desk.specs.Steps.{ComesBadly}
use Rattle.hm_operator.specs.declared.order.Order.{Order}

-- what was told, taken from and left
pub record WasTold (bytes taken : List ℕ) (now : Option (List ℕ)) : Type 0 where
  pub rest : List ℕ
  pub left : now ≡ Some rest
  pub parts : bytes ≡ taken ++ rest

told_of : (bytes taken : List ℕ) (now : Option (List ℕ)) → Consumes (Some bytes) now taken → WasTold bytes taken now
told_of bytes taken None consumes = absurd consumes
told_of bytes taken (Some rest) consumes = record { rest = rest; left = refl; parts = consumes }

pub told : (bytes taken : List ℕ) (left now : Option (List ℕ)) → left ≡ Some bytes → Consumes left now taken → WasTold bytes taken now
told bytes taken left now is consumes = told_of bytes taken now (subst (λ (o : Option (List ℕ)). Consumes o now taken) is consumes)

-- the bytes behind those that were cut off
told_behind : (bytes ahead new cut : List ℕ) (left now : Option (List ℕ)) (m : Moves ahead new left now cut) → (t : WasTold bytes m.taken now) → ahead ++ bytes ≡ cut ++ (new ++ t.rest)
told_behind bytes ahead new cut left now m t =
    ap (λ (l : List ℕ). ahead ++ l) t.parts ∙ sym (append_assoc ahead m.taken t.rest) ∙ ap (λ (l : List ℕ). l ++ t.rest) m.parts ∙ append_assoc cut new t.rest

bad_line : (line : List ℕ) (r : LineReason) (ahead new bytes : List ℕ) (left now : Option (List ℕ)) → Moves ahead new left now (ended line) → IsLine line → length line ≤ max_line_len
    → ((o : Order) → IsLawful o → line ≡ order_text o → ⊥) → IsFirstReason line r → left ≡ Some bytes → IsRefused (ahead ++ bytes) r
bad_line line r ahead new bytes left now m is_line short none first is =
    let t = told bytes m.taken left now is m.source in
    inr (inr (record { line = line; more = new ++ t.rest; parts = told_behind bytes ahead new (ended line) left now m t; is_line = is_line; short = short; none = none; first = first }))

long_front : (new rest : List ℕ) → IsOverlong new → IsOverlong (new ++ rest)
long_front new rest over =
    let long : max_line_len < length new = over.long in
    let sizes = length-append new rest in
    record {
      long = omega arith;
      line = subst IsLine (sym (take-append-le (max_line_len + 1) new rest (omega arith))) over.line;
    }

long_line : (ahead new bytes : List ℕ) (left now : Option (List ℕ)) → Moves ahead new left now [] → IsOverlong new → left ≡ Some bytes → IsRefused (ahead ++ bytes) reason.Long
long_line ahead new bytes left now m over is =
    let t = told bytes m.taken left now is m.source in
    inl (refl, subst IsOverlong (sym (told_behind bytes ahead new [] left now m t)) (long_front new t.rest over))

-- ---- what comes

pub comes_bad : (line : List ℕ) (r : LineReason) (ahead new : List ℕ) (left now : Option (List ℕ)) (before after : ℕ) → Moves ahead new left now (ended line) → IsLine line → length line ≤ max_line_len
    → ((o : Order) → IsLawful o → line ≡ order_text o → ⊥) → IsFirstReason line r → after ≡ before → ComesBadly r ahead new (record { left = left; faults = before }) (record { left = now; faults = after })
comes_bad line r ahead new left now before after m is_line short none first sound = record {
  cut = ended line;
  moves = m;
  refused = λ bytes is. bad_line line r ahead new bytes left now m is_line short none first is;
  sound = sound;
}

pub comes_long : (ahead new : List ℕ) (left now : Option (List ℕ)) (before after : ℕ) → Moves ahead new left now [] → IsOverlong new → after ≡ before
    → ComesBadly reason.Long ahead new (record { left = left; faults = before }) (record { left = now; faults = after })
comes_long ahead new left now before after m over sound = record {
  cut = [];
  moves = m;
  refused = λ bytes is. long_line ahead new bytes left now m over is;
  sound = sound;
}
