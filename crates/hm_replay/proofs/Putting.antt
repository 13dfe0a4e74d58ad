-- Lines that are put in pieces: those not put yet stand in a text.
use Rattle.std.proofs.Common.{◌≡◌, ℕ, List, [], ◌∷◌, ◌++◌, drop, Option, Some, None, refl, sym, ap, subst, ◌∙◌, append_assoc}
use Rattle.std.specs.Prelude.{slice_get}
use Rattle.std.specs.Io.KnownBytes.{Appends}
use Rattle.std.proofs.lemmas.List.{append-nil}
use Rattle.std.proofs.lemmas.Grind.{flat_map-append}
use Rattle.hm_base.specs.Lists.{IsPrefix}
use Rattle.hm_outside.specs.Calls.{CallsAddUp}
use Rattle.hm_outside.specs.Puts.{PutsFront}
use Rattle.hm_outside.specs.Faults.{one_more}
use Rattle.hm_schedule.specs.Orders.{line_bytes, lines_text}
use Rattle.hm_schedule.specs.declared.line.Line.{Line}
use Rattle.hm_replay.specs.Written.{IsCutShort}

-- of all lines these are left; the others were put, but for this text
pub record Putting (whole left : List Line) (text : List ℕ) (held put : Option (List ℕ)) : Type 0 where
  pub done : List Line
  pub parts : whole ≡ done ++ left
  pub front : List ℕ
  pub texts : lines_text done ≡ front ++ text
  pub written : Appends held put front

same_item : {A : Type 0} (x l : A) → Some l ≡ Some x → l ≡ x
same_item x l same = cc

none_left : {A : Type 0} (x : A) → None ≡ Some x → ⊥
none_left x same = cc

pub over : (left : List Line) → None ≡ slice_get left 0 → left ≡ []
over [] none = refl
over (x ∷ xs) none = absurd (none_left x none)

some_left : (l : Line) (none : List Line) → none ≡ [] → Some l ≡ slice_get none 0 → ⊥
some_left l [] is same = cc
some_left l (x ∷ xs) is same = cc

-- lines whose text is what was put, the text that waits, and what is left
whole_text : (whole left : List Line) (text : List ℕ) (held put : Option (List ℕ)) (p : Putting whole left text held put) → lines_text whole ≡ p.front ++ (text ++ lines_text left)
whole_text whole left text held put p =
    ap lines_text p.parts ∙ flat_map-append line_bytes p.done left ∙ ap (λ (t : List ℕ). t ++ lines_text left) p.texts ∙ append_assoc p.front text (lines_text left)

module _ (sums : CallsAddUp) where
  pub starts : (whole : List Line) (text : List ℕ) (held : Option (List ℕ)) → text ≡ [] → Putting whole whole text held held
  starts whole text held none = record { done = []; parts = refl; front = []; texts = sym none; written = sums.puts_none held }

  -- one line more
  pub writes : (whole left : List Line) (l : Line) (text now : List ℕ) (held put : Option (List ℕ)) → Some l ≡ slice_get left 0 → now ≡ text ++ line_bytes l
      → Putting whole left text held put → Putting whole (drop 1 left) now held put
  writes whole [] l text now held put first more p = absurd (some_left l [] refl first)
  writes whole (x ∷ xs) l text now held put first more p =
      let here : l ≡ x = same_item x l first in
      record {
        done = p.done ++ x ∷ [];
        parts = p.parts ∙ sym (append_assoc p.done (x ∷ []) xs);
        front = p.front;
        texts = flat_map-append line_bytes p.done (x ∷ []) ∙ ap (λ (t : List ℕ). lines_text p.done ++ t) (append-nil (line_bytes x)) ∙ ap (λ (t : List ℕ). t ++ line_bytes x) p.texts
            ∙ append_assoc p.front text (line_bytes x) ∙ ap (λ (t : List ℕ). p.front ++ t) (ap (λ (y : Line). text ++ line_bytes y) (sym here) ∙ sym more);
        written = p.written;
      }

  -- the text was put
  pub puts : (whole left : List Line) (text now : List ℕ) (held mid put : Option (List ℕ)) → now ≡ [] → Appends mid put text → Putting whole left text held mid → Putting whole left now held put
  puts whole left text now held mid put none appends p =
      record { done = p.done; parts = p.parts; front = p.front ++ text; texts = p.texts ∙ sym (append-nil (p.front ++ text)) ∙ ap (λ (t : List ℕ). (p.front ++ text) ++ t) (sym none); written = sums.puts_both held mid put p.front text p.written appends }

  -- all of it was put
  pub ends : (whole left : List Line) (text : List ℕ) (held mid put : Option (List ℕ)) → None ≡ slice_get left 0 → Appends mid put text → Putting whole left text held mid → Appends held put (lines_text whole)
  ends whole left text held mid put none appends p =
      let all : lines_text whole ≡ p.front ++ text =
      whole_text whole left text held mid p ∙ ap (λ (ls : List Line). p.front ++ (text ++ lines_text ls)) (over left none) ∙ ap (λ (t : List ℕ). p.front ++ t) (append-nil text) in
      subst (Appends held put) (sym all) (sums.puts_both held mid put p.front text p.written appends)

  -- the rest isn't put
  pub cut_short : (whole left : List Line) (text : List ℕ) (held put : Option (List ℕ)) (before after : ℕ) → after ≡ before → Putting whole left text held put → IsCutShort (lines_text whole) held put before after
  cut_short whole left text held put before after quiet p =
      record { quiet = quiet; front = p.front; is_front = record { rest = text ++ lines_text left; parts = sym (whole_text whole left text held put p) }; written = p.written }

  -- the sink failed
  pub failed : (whole left : List Line) (text front : List ℕ) (held mid put : Option (List ℕ)) (before after : ℕ) → after ≡ one_more before → IsPrefix front text → Appends mid put front
      → Putting whole left text held mid → PutsFront (lines_text whole) held put before after
  failed whole left text front held mid put before after counted prefix appends p =
      record {
        counted = counted;
        front = p.front ++ front;
        is_front = record {
          rest = prefix.rest ++ lines_text left;
          parts = append_assoc p.front front (prefix.rest ++ lines_text left)
              ∙ ap (λ (t : List ℕ). p.front ++ t) (sym (append_assoc front prefix.rest (lines_text left)) ∙ ap (λ (t : List ℕ). t ++ lines_text left) prefix.parts)
              ∙ sym (whole_text whole left text held mid p);
        };
        written = sums.puts_both held mid put p.front front p.written appends;
      }
