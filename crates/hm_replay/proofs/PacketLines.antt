-- The lines of packets, one after another.
use Rattle.std.proofs.Common.{◌≡◌, ℕ, ◌+◌, ◌-◌, ◌<◌, ◌≤◌, Bool, false, List, [], ◌∷◌, ◌++◌, length, get_or, take, drop, Option, Some, None, Result, Ok, Err, inl, inr, refl, sym, ap, subst, ◌∙◌, append_assoc, arith, cond, eqb}
use Rattle.std.specs.Prelude.{All, slice_get, unwrap_or, codes, decimal}
use Rattle.std.specs.Option.{option_map}
use Rattle.std.proofs.lemmas.List.{append-nil, take_more, get_or-drop, length-take, length-drop}
use Rattle.std.proofs.lemmas.Option.{none-some, slice_get_within, get_or_from_slice_get, slice_get_cases}
use Rattle.std.proofs.lemmas.Bool.Decides.{eqb_tells}
use Rattle.hm_packet.specs.Messages.{Message}
use Rattle.hm_packet.specs.Texts.{packet_text}
use Rattle.hm_wire.specs.declared.malformed.Malformed.{Malformed}
use Rattle.hm_wire.specs.Packets.{spelling, first_fault, HasSpelling}
use Rattle.hm_wire_text.specs.Worded.{Tells}
use Rattle.hm_rules.specs.World.{World, sent_at}
use Rattle.hm_rules.specs.RunText.{line_of, packet_lines}

pub packet_lines_push : (i : ℕ) (ms : List Message) (m : Message) → packet_lines i (ms ++ m ∷ []) ≡ packet_lines i ms ++ packet_lines (i + length ms) (m ∷ [])
packet_lines_push i [] m = ap (λ (k : ℕ). packet_lines k (m ∷ [])) (omega arith)
packet_lines_push i (x ∷ ms) m =
    let line = line_of (codes "packet" ∷ decimal i ∷ packet_text x ∷ []) in
    ap (λ (l : List ℕ). line ++ l) (packet_lines_push (i + 1) ms m)
    ∙ sym (append_assoc line (packet_lines (i + 1) ms) (packet_lines (i + 1 + length ms) (m ∷ [])))
    ∙ ap (λ (k : ℕ). (line ++ packet_lines (i + 1) ms) ++ packet_lines k (m ∷ [])) (omega arith)

-- a packet's line, as it is written
pub line_written : (text number words : List ℕ) → ((((text ++ codes "packet ") ++ number) ++ 32 ∷ []) ++ words) ++ 10 ∷ [] ≡ text ++ (line_of (codes "packet" ∷ number ∷ words ∷ []) ++ [])
line_written text number words = simp (append_assoc, append-nil)

-- the text of the bytes of a packet is the packet's
pub told_text : ((m : Message) → HasSpelling m → first_fault (spelling m) ≡ None) → ((m n : Message) → HasSpelling m → HasSpelling n → spelling m ≡ spelling n → m ≡ n)
    → (m : Message) (bytes text out : List ℕ) (r : Result Unit Malformed) → HasSpelling m → spelling m ≡ bytes → Tells r bytes text out → out ≡ text ++ packet_text m
told_text no_fault one m bytes text out (Ok u) lawful is told = told.3 ∙ ap (λ (x : Message). text ++ packet_text x) (one told.0 m told.1 lawful (told.2 ∙ sym is))
told_text no_fault one m bytes text out (Err fault) lawful is told = absurd (none-some fault (sym (no_fault m lawful) ∙ ap first_fault is ∙ told.0))

-- the packet at a place, by its spelling
pub sent_spelled : (net : List Message) (o : Option Message) (i : ℕ) (bytes : List ℕ) → o ≡ slice_get net i → All HasSpelling net → Some bytes ≡ option_map spelling o → (m : Message) × (o ≡ Some m) × HasSpelling m × (spelling m ≡ bytes)
sent_spelled net None i bytes here all is = absurd (none-some bytes (sym is))
sent_spelled net (Some m) i bytes here all is =
    let lt : i < length net = slice_get_within net i m (sym here) in
    let item : get_or net i m ≡ m = get_or_from_slice_get net i m m (sym here) in
    (m, refl, subst HasSpelling item (all i m lt), ap (λ (o : Option (List ℕ)). unwrap_or o []) (sym is))

pub not_copied : (o : Option Message) → None ≡ option_map spelling o → o ≡ None
not_copied None is = refl
not_copied (Some m) is = absurd (none-some (spelling m) is)

not_zero : (i : ℕ) → eqb (i + 1) 0 ≡ false
not_zero i = elim (eqb_tells (i + 1) 0) [ inl h ↦ absurd (omega (arith, h.1)) | inr h ↦ h.0 ]

-- the packet sent after so many
pub sent_next : (w : World) (i : ℕ) → sent_at w (i + 1) ≡ slice_get w.net i
sent_next w i =
    let here : (i + 1) - 1 ≡ i = omega arith in
    ap (λ (b : Bool). cond b None (slice_get w.net ((i + 1) - 1))) (not_zero i) ∙ ap (λ (k : ℕ). slice_get w.net k) here

-- one line more
pub lines_more : (w : World) (before i : ℕ) (front text : List ℕ) (m : Message) → before ≤ i → i < length w.net → sent_at w (i + 1) ≡ Some m
    → text ≡ front ++ packet_lines (before + 1) (take (i - before) (drop before w.net))
    → text ++ packet_lines (i + 1) (m ∷ []) ≡ front ++ packet_lines (before + 1) (take (i + 1 - before) (drop before w.net))
lines_more w before i front text m from within sent so_far =
    let net = w.net in
    let part = take (i - before) (drop before net) in
    let place : before + (i - before) ≡ i = omega arith in
    let item : get_or (drop before net) (i - before) m ≡ m = get_or-drop before net (i - before) m ∙ ap (λ (k : ℕ). get_or net k m) place ∙ get_or_from_slice_get net i m m (sym (sent_next w i) ∙ sent) in
    let below : i - before < length (drop before net) = omega (arith, length-drop before net) in
    let step : (i - before) + 1 ≡ i + 1 - before = omega arith in
    let size : length part ≡ i - before = omega (arith, length-take (i - before) (drop before net)) in
    let grown : take (i + 1 - before) (drop before net) ≡ part ++ m ∷ [] =
    ap (λ (k : ℕ). take k (drop before net)) (sym step) ∙ take_more (drop before net) (i - before) m below ∙ ap (λ (x : Message). part ++ x ∷ []) item in
    let number : before + 1 + length part ≡ i + 1 = omega arith in
    ap (λ (l : List ℕ). l ++ packet_lines (i + 1) (m ∷ [])) so_far
    ∙ append_assoc front (packet_lines (before + 1) part) (packet_lines (i + 1) (m ∷ []))
    ∙ ap (λ (l : List ℕ). front ++ l) (ap (λ (k : ℕ). packet_lines (before + 1) part ++ packet_lines k (m ∷ [])) (sym number) ∙ sym (packet_lines_push (before + 1) part m) ∙ ap (packet_lines (before + 1)) (sym grown))

none_some : (m : Message) (o : Option Message) → o ≡ None → o ≡ Some m → ⊥
none_some m o none some = cc

-- each number from 1 to the count is a packet's
pub some_sent : (w : World) (i : ℕ) → i < length w.net → sent_at w (i + 1) ≡ None → ⊥
some_sent w i within none =
    let here : slice_get w.net i ≡ None = sym (sent_next w i) ∙ none in
    elim (slice_get_cases w.net i).1 [ inl h ↦ none_some h.0 (slice_get w.net i) here h.2 | inr h ↦ let past : length w.net ≤ i = h.0 in omega arith ]
