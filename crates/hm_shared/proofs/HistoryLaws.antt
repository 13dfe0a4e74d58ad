-- Laws of histories: one turn more, the counts, and which lines the records give.
use Rattle.std.proofs.Common.{◌≡◌, ◌≢◌, ℕ, ◌+◌, ◌<◌, ◌≤◌, Bool, false, List, [], ◌∷◌, ◌++◌, length, Option, Some, None, refl, sym, ap, ◌∙◌, subst, inl, inr, arith}
use Rattle.std.specs.Prelude.{map, get_or, drop}
use Rattle.std.specs.Option.{option_map}
use Rattle.std.proofs.lemmas.Bool.{false≢true}
use Rattle.std.proofs.lemmas.List.{length-map, map-append}
use Rattle.std.proofs.lemmas.Option.{none-some, same_Some}
use Rattle.hm_base.specs.Slots.{Slots, is_full}
use Rattle.hm_packet.specs.declared.body.Body.{Body}
use Rattle.hm_packet.specs.declared.body.Body.TheVariants as body
use Rattle.hm_packet.specs.declared.turn.Turn.{Turn}
use Rattle.hm_packet.specs.declared.turn.Turn.TheVariants as turn
use Rattle.hm_packet.specs.Messages.{Message}
use Rattle.hm_dirtyset.specs.Table.{slots_of}
use Rattle.hm_rules.specs.Switch.{AbstractSwitch, switch_step}
use Rattle.hm_rules.specs.Switch as rule
use Rattle.hm_switch.specs.State.{SwitchState}
use Rattle.hm_switch.specs.StandsFor.{StandsFor, TurnsTo, refuses, refuses_body, slots_then}
use Rattle.hm_shared.specs.declared.book.Turned.{Turned}
use Rattle.hm_shared.specs.declared.journal.Record.{Record}
use Rattle.hm_shared.specs.declared.journal.Turned1.{Turned1}
use Rattle.hm_shared.specs.History.{SwitchSetup, SlottedSwitch, SwitchTurn, opens, finds_full, turned, after, leads_to, IsTurnOf, AreTurnsOf, IsLegalHistory}
use Rattle.hm_shared.specs.BookState.{BookState}
use Rattle.hm_shared.specs.Books.{Holds, TakesTurn}
use Rattle.hm_shared.specs.Journal.{kept_answer, record_with, record_of, IsJournalOf}
use Rattle.hm_shared.specs.JournalText.{turn_head, answer_end, answer_words, turn_line, turn_lines, count_line, journal_text}
use Rattle.hm_shared.specs.RecordText.{told_words, record_line, record_lines, records_text}
use Rattle.hm_shared.proofs.StepFacts.{is_spent, told_with, Fits, step_is}

pub leads_push : (s : SlottedSwitch) (ts : List SwitchTurn) (t : SwitchTurn) → leads_to s (ts ++ t ∷ []) ≡ after (leads_to s ts) t.packet
leads_push s [] t = refl
leads_push s (u ∷ us) t = leads_push (after s u.packet) us t

pub turns_push : (s : SlottedSwitch) (ts : List SwitchTurn) (t : SwitchTurn) → AreTurnsOf s ts → IsTurnOf (leads_to s ts) t → AreTurnsOf s (ts ++ t ∷ [])
turns_push s [] t h new = (new, tt)
turns_push s (u ∷ us) t h new = (h.0, turns_push (after s u.packet) us t h.1 new)

-- a turn fits
pub turn_fits : (s : SlottedSwitch) (t : SwitchTurn) → IsTurnOf s t
    → (s.switch.handled < s.switch.life) × Fits (record s.switch { handled = s.switch.handled + 1 }) t.packet.src t.packet.dst t.packet.body (turned s t.packet)
turn_fits s t h = elim (step_is (finds_full s t.packet.body) s.switch t.packet) [
  | inl spent ↦ absurd (h.unspent (h.answer ∙ ap (λ (u : rule.Turned). u.turn) spent.1))
  | inr fits ↦ fits
]

pub record Counted (s t : SlottedSwitch) (count : ℕ) : Type 0 where
  pub handled : t.switch.handled ≡ s.switch.handled + count
  pub life : t.switch.life ≡ s.switch.life

-- each turn counts
pub counted : (s : SlottedSwitch) (ts : List SwitchTurn) → AreTurnsOf s ts → Counted s (leads_to s ts) (length ts)
counted s [] h = record { handled = omega arith; life = refl }
counted s (t ∷ ts) h =
    let f = turn_fits s t h.0 in
    let rest = counted (after s t.packet) ts h.1 in
    record { handled = omega (arith, rest.handled, f.1.handled); life = rest.life ∙ f.1.life }

pub journal_length : (rs : List Record) (ts : List SwitchTurn) → IsJournalOf rs ts → length rs ≡ length ts
journal_length rs ts h = sym (length-map rs (λ (r : Record). Some r)) ∙ ap (λ (l : List (Option Record)). length l) (sym h) ∙ length-map ts record_of

pub journal_push : (rs : List Record) (ts : List SwitchTurn) (r : Record) (t : SwitchTurn) → IsJournalOf rs ts → record_of t ≡ Some r → IsJournalOf (rs ++ r ∷ []) (ts ++ t ∷ [])
journal_push rs ts r t h e =
    map-append record_of ts (t ∷ [])
    ∙ ap (λ (l : List (Option Record)). l ++ record_of t ∷ []) h
    ∙ ap (λ (o : Option Record). map (λ (x : Record). Some x) rs ++ o ∷ []) e
    ∙ sym (map-append (λ (x : Record). Some x) rs (r ∷ []))

-- the switch of a book finds its slots full just where the switch of the rules does
pub refuses_is : (seen : SwitchState) (s : SlottedSwitch) → slots_of seen.dirty ≡ s.slots → seen.dirty.point ≡ s.switch.point → (b : Body) → refuses_body seen b ≡ finds_full s b
refuses_is seen s slots point (body.Write write) = ap (λ (k : ℕ). is_full (slots_of seen.dirty) k write.object) point ∙ ap (λ t. is_full t s.switch.point write.object) slots
refuses_is seen s slots point b = refl

-- ---- lines

map_twice : (seat : ℕ) (packet : Message) (o : Option Turned1)
    → option_map told_words (option_map (record_with seat packet) o) ≡ option_map (told_with seat packet.src packet.dst packet.body) o
map_twice seat packet None = refl
map_twice seat packet (Some answer) = refl

-- the record of a turn tells its answer
told_is : (s : SlottedSwitch) (t : SwitchTurn) (r : Record) → IsTurnOf s t → record_of t ≡ Some r → told_words r ≡ answer_words t.answer
told_is s t r h e =
    let fits = (turn_fits s t h).1 in
    let told : Some (told_words r) ≡ Some (answer_words t.answer) =
    ap (λ (o : Option Record). option_map told_words o) (sym e)
    ∙ map_twice t.seat t.packet (kept_answer t.answer)
    ∙ ap (λ (a : Turn). option_map (told_with t.seat t.packet.src t.packet.dst t.packet.body) (kept_answer a)) h.answer
    ∙ fits.told t.seat
    ∙ ap (λ (a : Turn). Some (answer_words a)) (sym h.answer) in
    same_Some (told_words r) (answer_words t.answer) told

record_parts : (seat : ℕ) (packet : Message) (o : Option Turned1) (r : Record) → option_map (record_with seat packet) o ≡ Some r → (answer : Turned1) × (r ≡ record_with seat packet answer)
record_parts seat packet None r e = absurd (none-some r e)
record_parts seat packet (Some answer) r e = (answer, sym (same_Some (record_with seat packet answer) r e))

-- a line with these words for the answer
abbrev line_with : ℕ → Record → List (List ℕ) → List ℕ
line_with place r answer = turn_head place r.seat r.src r.dst r.call ++ answer_end answer

line_is : (s : SlottedSwitch) (t : SwitchTurn) (r : Record) (place : ℕ) → IsTurnOf s t → record_of t ≡ Some r → record_line place r ≡ turn_line place t
line_is s t r place h e =
    let parts = record_parts t.seat t.packet (kept_answer t.answer) r e in
    ap (λ (x : Record). line_with place x (told_words r)) parts.1
    ∙ ap (λ (words : List (List ℕ)). line_with place (record_with t.seat t.packet parts.0) words) (told_is s t r h e)

-- the lines of the records are those of the turns
lines_are : (s : SlottedSwitch) (ts : List SwitchTurn) (rs : List Record) (place : ℕ) → AreTurnsOf s ts → IsJournalOf rs ts → record_lines place rs ≡ turn_lines place ts
lines_are s [] [] place h j = refl
lines_are s [] (r ∷ rs) place h j = let e : length (r ∷ rs) ≡ 0 = journal_length (r ∷ rs) [] j in absurd (omega (arith, e))
lines_are s (t ∷ ts) [] place h j = let e : 0 ≡ length (t ∷ ts) = journal_length [] (t ∷ ts) j in absurd (omega (arith, e))
lines_are s (t ∷ ts) (r ∷ rs) place h j =
    let first : record_of t ≡ Some r = ap (λ (l : List (Option Record)). get_or l 0 (record_of t)) j in
    let others : IsJournalOf rs ts = ap (λ (l : List (Option Record)). drop 1 l) j in
    ap (λ (l : List ℕ). l ++ record_lines (place + 1) rs) (line_is s t r place h.0 first)
    ∙ ap (λ (l : List ℕ). turn_line place t ++ l) (lines_are (after s t.packet) ts rs (place + 1) h.1 others)

-- the text of the journal tells its history
pub text_is : (setup : SwitchSetup) (history : List SwitchTurn) (rs : List Record) → IsLegalHistory setup history → IsJournalOf rs history → records_text rs ≡ journal_text history
text_is setup history rs h j =
    ap (λ (l : List ℕ). l ++ count_line (length rs)) (lines_are (opens setup) history rs 0 h j)
    ∙ ap (λ (n : ℕ). turn_lines 0 history ++ count_line n) (journal_length rs history j)

-- ---- the turn of a book

-- what a switch makes of a packet, for each history of the book
pub record Stepped (old new : SwitchState) (made : Turn) (s : SlottedSwitch) (packet : Message) : Type 0 where
  pub answer : made ≡ (turned s packet).turn
  pub switch : StandsFor new (after s packet).switch
  pub slots : slots_of new.dirty ≡ (after s packet).slots

pub stepped : (old new : SwitchState) (made : Turn) (s : SlottedSwitch) (packet : Message) → StandsFor old s.switch → slots_of old.dirty ≡ s.slots
    → TurnsTo old new made s.switch (switch_step (refuses old packet) s.switch packet) → Stepped old new made s packet
stepped old new made s packet stands slots t =
    let u : TurnsTo old new made s.switch (turned s packet) =
    subst (λ (refuse : Bool). TurnsTo old new made s.switch (switch_step refuse s.switch packet)) (refuses_is old s slots stands.point packet.body) t in
    record {
      answer = u.turn;
      switch = u.switch;
      slots = u.slots ∙ ap (λ (l : Slots). slots_then l s.switch (turned s packet).switch) slots;
    }

not_spent : (t : Turn) → is_spent t ≡ false → t ≢ turn.Spent
not_spent t other e = false≢true (sym other ∙ ap (λ (u : Turn). is_spent u) e)

no_record : (seat : ℕ) (packet : Message) (t : Turn) → record_of (record { seat = seat; packet = packet; answer = t }) ≡ None → t ≡ turn.Spent
no_record seat packet (turn.Sent m) e = absurd (none-some _ (sym e))
no_record seat packet turn.Noted e = absurd (none-some _ (sym e))
no_record seat packet (turn.Ignored why) e = absurd (none-some _ (sym e))
no_record seat packet turn.Full e = absurd (none-some _ (sym e))
no_record seat packet turn.Spent e = refl

-- a full book
pub spent_turn : (book : BookState) (told : Turned) (seat : ℕ) (packet : Message) (setup : SwitchSetup) (history : List SwitchTurn) → Holds book setup history → length book.records ≡ book.life
    → told.turn ≡ turn.Spent → told.place ≡ length book.records → TakesTurn book book told seat packet setup history
spent_turn book told seat packet setup history h full e place =
    let count : length book.records ≡ length history = journal_length book.records history h.journal in
    let whole : length history ≡ setup.life = sym count ∙ full ∙ h.life in
    let now = counted (opens setup) history h.legal in
    let s : SlottedSwitch = leads_to (opens setup) history in
    let answer : turn.Spent ≡ (turned s packet).turn = elim (step_is (finds_full s packet.body) s.switch packet) [
      | inl spent ↦ ap (λ (u : rule.Turned). u.turn) (sym spent.1)
      | inr fits ↦ let lt : s.switch.handled < s.switch.life = fits.0 in absurd (omega (arith, lt, now.handled, now.life, whole))
    ] in
    record {
      answer = e ∙ answer;
      place = place ∙ count;
      spent = (λ is. whole, λ is. e);
      kept = λ is. refl;
      made = λ other. absurd (other e);
    }

-- a book that has room for one record more
pub record HasRoom (book : BookState) (setup : SwitchSetup) (history : List SwitchTurn) (packet : Message) : Type 0 where
  pub count : length book.records ≡ length history
  pub room : length history < setup.life
  pub unspent : (turned (leads_to (opens setup) history) packet).turn ≢ turn.Spent

has_room : (book : BookState) (setup : SwitchSetup) (history : List SwitchTurn) (packet : Message) → Holds book setup history → length book.records < book.life → HasRoom book setup history packet
has_room book setup history packet h lt =
    let count : length book.records ≡ length history = journal_length book.records history h.journal in
    let now = counted (opens setup) history h.legal in
    let s : SlottedSwitch = leads_to (opens setup) history in
    let room : length history < setup.life = omega (arith, lt, count, h.life) in
    record {
      count = count;
      room = room;
      unspent = elim (step_is (finds_full s packet.body) s.switch packet) [
        | inl spent ↦ let le : s.switch.life ≤ s.switch.handled = spent.0 in absurd (omega (arith, le, now.handled, now.life, room))
        | inr fits ↦ not_spent (turned s packet).turn fits.1.unspent
      ];
    }

pub turn_made : (old : BookState) (switch : SwitchState) (r : Record) (told : Turned) (seat : ℕ) (packet : Message) (setup : SwitchSetup) (history : List SwitchTurn) → Holds old setup history → length old.records < old.life
    → ((s : AbstractSwitch) → StandsFor old.switch s → TurnsTo old.switch switch told.turn s (switch_step (refuses old.switch packet) s packet))
    → record_of (record { seat = seat; packet = packet; answer = told.turn }) ≡ Some r → told.place ≡ length old.records
    → TakesTurn old (record { switch = switch; records = old.records ++ r ∷ []; life = old.life }) told seat packet setup history
turn_made old switch r told seat packet setup history h lt steps e place =
    let s : SlottedSwitch = leads_to (opens setup) history in
    let t : SwitchTurn = record { seat = seat; packet = packet; answer = told.turn } in
    let room = has_room old setup history packet h lt in
    let step = stepped old.switch switch told.turn s packet h.switch h.slots (steps s.switch h.switch) in
    let unspent : told.turn ≢ turn.Spent = λ is. room.unspent (sym step.answer ∙ is) in
    record {
      answer = step.answer;
      place = place ∙ room.count;
      spent = (λ is. absurd (unspent is), λ whole. absurd (let some : length history < setup.life = room.room in omega (arith, some, whole)));
      kept = λ is. absurd (unspent is);
      made = λ other. record {
        legal = turns_push (opens setup) history t h.legal (record { answer = step.answer; unspent = unspent });
        journal = journal_push old.records history r t h.journal e;
        switch = subst (λ (u : SlottedSwitch). StandsFor switch u.switch) (sym (leads_push (opens setup) history t)) step.switch;
        slots = step.slots ∙ ap (λ (u : SlottedSwitch). u.slots) (sym (leads_push (opens setup) history t));
        life = h.life;
      };
    }

pub turn_lost : (old new : BookState) (switch : SwitchState) (told : Turned) (seat : ℕ) (packet : Message) (setup : SwitchSetup) (history : List SwitchTurn) → Holds old setup history → length old.records < old.life
    → ((s : AbstractSwitch) → StandsFor old.switch s → TurnsTo old.switch switch told.turn s (switch_step (refuses old.switch packet) s packet))
    → record_of (record { seat = seat; packet = packet; answer = told.turn }) ≡ None
    → TakesTurn old new told seat packet setup history
turn_lost old new switch told seat packet setup history h lt steps e =
    let s : SlottedSwitch = leads_to (opens setup) history in
    let room = has_room old setup history packet h lt in
    let step = stepped old.switch switch told.turn s packet h.switch h.slots (steps s.switch h.switch) in
    absurd (room.unspent (sym step.answer ∙ no_record seat packet told.turn e))
