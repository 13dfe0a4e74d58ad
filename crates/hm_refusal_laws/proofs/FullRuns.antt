-- A run that refuses at its full events refuses just where slots are full.
use Rattle.std.proofs.Common.{◌≡◌, ℕ, ◌+◌, ◌<◌, ◌≤◌, Bool, true, false, List, [], ◌∷◌, ◌++◌, length, refl, sym, ap, ◌∙◌, append_assoc, arith}
use Rattle.std.specs.Prelude.{◌||◌, if◌then◌else◌}
use Rattle.std.proofs.lemmas.Bool.{ne_eqb, eq-eqb}
use Rattle.std.proofs.lemmas.List.{append-nil}
use Rattle.hm_rules.specs.Numbers.{stands_in}
use Rattle.hm_rules.specs.Events.{Event}
use Rattle.hm_rules.specs.World.{Happened}
use Rattle.hm_rules.specs.Happens.{happens}
use Rattle.hm_rules.specs.Runs.{Slotted, finds_full, run_from, full_from, is_full_outcome}
use Rattle.hm_rules.specs.RunText.{event_text, events_text}
use Rattle.hm_refusal_laws.specs.Slotting.{slot_happens, slot_step, slot_run, slot_text}
use Rattle.hm_refusal_laws.proofs.Settled.{settled}

-- two tests of numbers agree from k on
abbrev pub AgreeFrom : ℕ → List ℕ → List ℕ → Type 0
AgreeFrom k xs ys = (n : ℕ) → k ≤ n → stands_in n xs ≡ stands_in n ys

not_below : (c : Bool) (k n : ℕ) (later : List ℕ) → n < k → stands_in n later ≡ false → stands_in n (if c then k ∷ later else later) ≡ false
not_below true k n later less none = ap (λ (b : Bool). b || stands_in n later) (ne_eqb k n (λ same. omega arith)) ∙ none
not_below false k n later less none = none

-- no event before number k is among them
full_from_above : (k : ℕ) (s : Slotted) (es : List Event) (n : ℕ) → n < k → stands_in n (full_from k s es) ≡ false
full_from_above k s [] n less = refl
full_from_above k s (e ∷ es) n less = not_below (is_full_outcome (slot_happens s e).outcome) k n (full_from (k + 1) (slot_step s e) es) less (full_from_above (k + 1) (slot_step s e) es n (omega arith))

-- whether the event itself is
here : (c : Bool) (k : ℕ) (later : List ℕ) → stands_in k later ≡ false → stands_in k (if c then k ∷ later else later) ≡ c
here true k later none = ap (λ (b : Bool). b || stands_in k later) (eq-eqb k k refl)
here false k later none = none

there : (c : Bool) (k n : ℕ) (later : List ℕ) → k < n → stands_in n (if c then k ∷ later else later) ≡ stands_in n later
there true k n later more = ap (λ (b : Bool). b || stands_in n later) (ne_eqb k n (λ same. omega arith))
there false k n later more = refl

module _ (k : ℕ) (s : Slotted) (e : Event) (es : List Event) (refused : List ℕ) (agree : AgreeFrom k refused (full_from k s (e ∷ es))) where
  h : Happened
  h = slot_happens s e

  same_choice : stands_in k refused ≡ is_full_outcome h.outcome
  unfolding h
  same_choice = agree k (omega arith) ∙ here (is_full_outcome h.outcome) k (full_from (k + 1) (slot_step s e) es) (full_from_above (k + 1) (slot_step s e) es k (omega arith))

  pub same_event : happens s.world e (stands_in k refused) ≡ slot_happens s e
  unfolding h
  same_event = ap (happens s.world e) same_choice ∙ settled s.world e (finds_full s e)

  pub agree_later : AgreeFrom (k + 1) refused (full_from (k + 1) (slot_step s e) es)
  agree_later n more = agree n (omega arith) ∙ there (is_full_outcome (slot_happens s e).outcome) k n (full_from (k + 1) (slot_step s e) es) (omega arith)

run_agrees : (k : ℕ) (s : Slotted) (es : List Event) (refused : List ℕ) → AgreeFrom k refused (full_from k s es) → run_from k s.world es refused ≡ (slot_run s es).world
run_agrees k s [] refused agree = refl
run_agrees k s (e ∷ es) refused agree =
    ap (λ (h : Happened). run_from (k + 1) h.world es refused) (same_event k s e es refused agree)
    ∙ run_agrees (k + 1) (slot_step s e) es refused (agree_later k s e es refused agree)

text_agrees : (k : ℕ) (s : Slotted) (es : List Event) (refused : List ℕ) → AgreeFrom k refused (full_from k s es) → events_text k s.world es refused ≡ slot_text k s es
text_agrees k s [] refused agree = refl
text_agrees k s (e ∷ es) refused agree =
    ap (λ (h : Happened). event_text k s.world h ++ events_text (k + 1) h.world es refused) (same_event k s e es refused agree)
    ∙ ap (λ (t : List ℕ). event_text k s.world (slot_happens s e) ++ t) (text_agrees (k + 1) (slot_step s e) es refused (agree_later k s e es refused agree))

pub run_refuses : (k : ℕ) (s : Slotted) (es : List Event) → run_from k s.world es (full_from k s es) ≡ (slot_run s es).world
run_refuses k s es = run_agrees k s es (full_from k s es) (λ n more. refl)

pub text_refuses : (k : ℕ) (s : Slotted) (es : List Event) → events_text k s.world es (full_from k s es) ≡ slot_text k s es
text_refuses k s es = text_agrees k s es (full_from k s es) (λ n more. refl)

pub run_push : (s : Slotted) (es : List Event) (e : Event) → slot_run s (es ++ e ∷ []) ≡ slot_step (slot_run s es) e
run_push s [] e = refl
run_push s (x ∷ es) e = run_push (slot_step s x) es e

pub text_push : (k : ℕ) (s : Slotted) (es : List Event) (e : Event)
    → slot_text k s (es ++ e ∷ []) ≡ slot_text k s es ++ event_text (length es + k) (slot_run s es).world (slot_happens (slot_run s es) e)
text_push k s [] e = append-nil (event_text k s.world (slot_happens s e)) ∙ ap (λ (n : ℕ). event_text n s.world (slot_happens s e)) (omega arith)
text_push k s (x ∷ es) e =
    let first = event_text k s.world (slot_happens s x) in
    let t : Slotted = slot_run (slot_step s x) es in
    let last : ℕ → List ℕ = λ n. event_text n t.world (slot_happens t e) in
    ap (λ (l : List ℕ). first ++ l) (text_push (k + 1) (slot_step s x) es e)
    ∙ sym (append_assoc first (slot_text (k + 1) (slot_step s x) es) (last (length es + (k + 1))))
    ∙ ap (λ (n : ℕ). (first ++ slot_text (k + 1) (slot_step s x) es) ++ last n) (omega arith)
