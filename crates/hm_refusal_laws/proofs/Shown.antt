-- The text of a run shows its refusals: of its lines, just those of refused writes end so.
use Rattle.std.proofs.Common.{◌≡◌, ℕ, ◌+◌, ◌-◌, ◌*◌, ◌%◌, ◌<◌, ◌^◌, Bool, true, false, List, [], ◌∷◌, ◌++◌, length, take, drop, Option, Some, None, refl, sym, ap, ◌∙◌, append_assoc, arith, length-append}
use Rattle.std.specs.Prelude.{not, ◌&&◌, ◌==◌, if◌then◌else◌, fold, flat_map, filter_map, bytes_eq, codes, decimal}
use Rattle.std.specs.List.{cons_option}
use Rattle.std.proofs.lemmas.Bool.{and_parts, eq-eqb}
use Rattle.std.proofs.lemmas.List.{append-nil, take-append-drop}
use Rattle.std.proofs.lemmas.List.Sums.{fold-append}
use Rattle.std.proofs.lemmas.Fmt.{decimal_by_steps}
use Rattle.std.proofs.lemmas.Slice.Eq.{bytes_eq-Decides}
use Rattle.std.proofs.Math.Seq.{drop-append_seam, take-append_seam}
use Rattle.hm_base.specs.declared.why.Why.{Why}
use Rattle.hm_base.specs.declared.why.Why.TheVariants as why
use Rattle.hm_base.specs.declared.operation.OpId.{OpId}
use Rattle.hm_base.specs.Spellings.{spaced, joined, op_text, why_text}
use Rattle.hm_packet.specs.declared.outcome.Outcome.{Outcome}
use Rattle.hm_packet.specs.declared.outcome.Outcome.TheVariants as outcome
use Rattle.hm_packet.specs.declared.outcome.Bar.{Bar}
use Rattle.hm_packet.specs.declared.outcome.Bar.TheVariants as bar
use Rattle.hm_packet.specs.Messages.{Message}
use Rattle.hm_packet.specs.Texts.{packet_text}
use Rattle.hm_order.specs.declared.mark.Mark.{Mark}
use Rattle.hm_order.specs.declared.mark.Mark.TheVariants as mark
use Rattle.hm_rules.specs.Events.{Setup, Event}
use Rattle.hm_rules.specs.World.{World, Happened, opens}
use Rattle.hm_rules.specs.Runs.{Slotted, slotted, full_from, full_events, is_full_outcome}
use Rattle.hm_rules.specs.RunText.{line_of, bar_text, outcome_word, outcome_reason, mark_word, mark_fields, mark_line, packet_lines, outcome_line, event_text, events_text, place_line, end_line, order_text, bad_text, too_long_text, ended_lines, number_of, refusal_in, refused_events}
use Rattle.hm_refusal_laws.specs.Slotting.{slot_happens, slot_step, slot_text}
use Rattle.hm_refusal_laws.proofs.Ends.{has_no_end, IsEndless, AreEndless, endless_decimal, endless_dotted, endless_answer, endless_joined, endless_packet}
use Rattle.hm_refusal_laws.proofs.FullRuns.{text_refuses}

-- whatever follows the text, it shows just these refusals
abbrev pub Shows : List ℕ → List ℕ → Type 0
Shows text numbers = (rest : List ℕ) → refused_events (text ++ rest) ≡ numbers ++ refused_events rest

pub shows_append : (t u ns ms : List ℕ) → Shows t ns → Shows u ms → Shows (t ++ u) (ns ++ ms)
shows_append t u ns ms p q rest =
    ap refused_events (append_assoc t u rest) ∙ p (u ++ rest) ∙ ap (λ (l : List ℕ). ns ++ l) (q rest) ∙ sym (append_assoc ns ms (refused_events rest))

-- ---- lines

line_ends : (begun line rest : List ℕ) → IsEndless line → ended_lines begun (line ++ 10 ∷ rest) ≡ (begun ++ line) ∷ ended_lines [] rest
line_ends begun [] rest p = ap (λ (l : List ℕ). l ∷ ended_lines [] rest) (sym (append-nil begun))
line_ends begun (x ∷ line) rest p =
    let parts = and_parts (not (x == 10)) (has_no_end line) p in
    goes_on (x == 10) parts.0 ∙ line_ends (begun ++ x ∷ []) line rest parts.1 ∙ ap (λ (l : List ℕ). l ∷ ended_lines [] rest) (append_assoc begun (x ∷ []) line)
  where
    later : List (List ℕ)
    later = ended_lines (begun ++ x ∷ []) (line ++ 10 ∷ rest)

    goes_on : (c : Bool) → not c ≡ true → (if c then begun ∷ ended_lines [] (line ++ 10 ∷ rest) else later) ≡ later
    goes_on true p = cc
    goes_on false p = refl

shows_line : (line : List ℕ) (found : Option ℕ) → IsEndless line → refusal_in line ≡ found → Shows (line ++ 10 ∷ []) (cons_option found [])
shows_line line found p is rest =
    ap refused_events (append_assoc line (10 ∷ []) rest)
    ∙ ap (filter_map refusal_in) (line_ends [] line rest p)
    ∙ ap (λ (o : Option ℕ). cons_option o (refused_events rest)) is
    ∙ joins found
  where
    joins : (o : Option ℕ) → cons_option o (refused_events rest) ≡ cons_option o [] ++ refused_events rest
    joins None = refl
    joins (Some n) = refl

-- a line that begins otherwise shows none
shows_other : (words : List (List ℕ)) → AreEndless words → bytes_eq (take 6 (joined words)) (codes "event ") ≡ false → Shows (line_of words) []
shows_other words p other =
    shows_line (joined words) None (endless_joined words p)
    (ap (λ (b : Bool). if b && bytes_eq (drop (length (joined words) - 5) (joined words)) (codes " full") then number_of (take (length (joined words) - 11) (drop 6 (joined words))) else None) other)

mark_endless : (m : Mark) → AreEndless (mark_word m ∷ mark_fields m)
mark_endless (mark.Invoke op asked) = (refl, (endless_dotted op.client op.request, tt))
mark_endless (mark.Commit op stamp) = (refl, (endless_dotted op.client op.request, (endless_dotted stamp.switch stamp.seq, tt)))
mark_endless (mark.Reply op version answer) = (refl, (endless_dotted op.client op.request, (endless_dotted version.switch version.seq, (endless_answer answer, tt))))

mark_other : (m : Mark) → bytes_eq (take 6 (joined (mark_word m ∷ mark_fields m))) (codes "event ") ≡ false
mark_other (mark.Invoke op asked) = refl
mark_other (mark.Commit op stamp) = refl
mark_other (mark.Reply op version answer) = refl

shows_marks : (ms : List Mark) → Shows (flat_map mark_line ms) []
shows_marks [] = λ rest. refl
shows_marks (m ∷ ms) = shows_append (mark_line m) (flat_map mark_line ms) [] [] (shows_other (mark_word m ∷ mark_fields m) (mark_endless m) (mark_other m)) (shows_marks ms)

shows_packets : (i : ℕ) (ms : List Message) → Shows (packet_lines i ms) []
shows_packets i [] = λ rest. refl
shows_packets i (m ∷ ms) =
    shows_append (line_of (codes "packet" ∷ decimal i ∷ packet_text m ∷ [])) (packet_lines (i + 1) ms) [] []
    (shows_other (codes "packet" ∷ decimal i ∷ packet_text m ∷ []) (refl, (endless_decimal i, (endless_packet m, tt))) refl) (shows_packets (i + 1) ms)

shows_places : (ops : List OpId) → Shows (flat_map place_line ops) []
shows_places [] = λ rest. refl
shows_places (op ∷ ops) = shows_append (place_line op) (flat_map place_line ops) [] [] (shows_other (codes "place" ∷ op_text op ∷ []) (refl, (endless_dotted op.client op.request, tt)) refl) (shows_places ops)

pub shows_order : (ops : List OpId) → Shows (order_text ops) []
shows_order ops =
    shows_append (line_of (codes "order" ∷ decimal (length ops) ∷ [])) (flat_map place_line ops ++ end_line) [] []
    (shows_other (codes "order" ∷ decimal (length ops) ∷ []) (refl, (endless_decimal (length ops), tt)) refl)
    (shows_append (flat_map place_line ops) end_line [] [] (shows_places ops) (shows_other (codes "end" ∷ []) (refl, tt) refl))

pub shows_bad : (line : ℕ) (reason : List ℕ) → IsEndless reason → Shows (bad_text line reason) []
shows_bad line reason p = shows_other (codes "bad" ∷ decimal line ∷ reason ∷ []) (refl, (endless_decimal line, (p, tt))) refl

pub shows_too_long : (line : ℕ) → Shows (too_long_text line) []
shows_too_long line = shows_other (codes "toolong" ∷ decimal line ∷ []) (refl, (endless_decimal line, tt)) refl

-- ---- the line of an event's outcome

-- the last byte, or the default
abbrev last_or : ℕ → List ℕ → ℕ
last_or d [] = d
last_or d (x ∷ xs) = last_or x xs

last_append : (d : ℕ) (xs ys : List ℕ) → last_or d (xs ++ ys) ≡ last_or (last_or d xs) ys
last_append d [] ys = refl
last_append d (x ∷ xs) ys = last_append x xs ys

-- the number that digits write
abbrev read_digits : List ℕ → ℕ
read_digits ds = fold (λ (m : ℕ) (digit : ℕ). m * 10 + (digit - 48)) 0 ds

read_decimal : (n : ℕ) → n < 2 ^ 64 → read_digits (decimal n) ≡ n
read_decimal n small =
    decimal_by_steps (λ n ds. read_digits ds ≡ n) (λ n few. omega arith)
    (λ n ds more is. fold-append (λ (m : ℕ) (digit : ℕ). m * 10 + (digit - 48)) 0 ds ((48 + n % 10) ∷ []) ∙ ap (λ (m : ℕ). m * 10 + (48 + n % 10 - 48)) is ∙ omega arith)
    n small

number_of_decimal : (n : ℕ) → n < 2 ^ 64 → number_of (decimal n) ≡ Some n
number_of_decimal n small =
    ap (λ (m : ℕ). if bytes_eq (decimal m) (decimal n) then Some m else None) (read_decimal n small)
    ∙ ap (λ (b : Bool). if b then Some n else None) ((bytes_eq-Decides (decimal n) (decimal n)).1 refl)

-- what stands before the last words of an event's line
abbrev event_head : ℕ → List ℕ
event_head k = codes "event " ++ decimal k

abbrev outcome_words : ℕ → Outcome → List (List ℕ)
outcome_words k o = codes "event" ∷ decimal k ∷ outcome_word o ∷ outcome_reason o

abbrev ends_full : List ℕ → Bool
ends_full line = bytes_eq (drop (length line - 5) line) (codes " full")

drop_head : (head end : List ℕ) → drop (length (head ++ end) - length end) (head ++ end) ≡ end
drop_head head end = ap (λ (i : ℕ). drop i (head ++ end)) (omega (arith, length-append head end)) ∙ drop-append_seam head end

refusal_of_full : (k : ℕ) → k < 2 ^ 64 → refusal_in (event_head k ++ codes " full") ≡ Some k
refusal_of_full k small =
    let line = event_head k ++ codes " full" in
    let long : length line - 11 ≡ length (decimal k) = omega (arith, length-append (decimal k) (codes " full")) in
    ap (λ (l : List ℕ). if bytes_eq l (codes " full") then number_of (take (length line - 11) (decimal k ++ codes " full")) else None) (drop_head (event_head k) (codes " full"))
    ∙ ap (λ (n : ℕ). number_of (take n (decimal k ++ codes " full"))) long
    ∙ ap number_of (take-append_seam (decimal k) (codes " full"))
    ∙ number_of_decimal k small

no_refusal : (a b : Bool) (n : Option ℕ) → b ≡ false → (if a && b then n else None) ≡ None
no_refusal true b n not_b = ap (λ (c : Bool). if c then n else None) not_b
no_refusal false b n not_b = refl

refusal_of_other : (line : List ℕ) → ends_full line ≡ false → refusal_in line ≡ None
refusal_of_other line other = no_refusal (bytes_eq (take 6 line) (codes "event ")) (ends_full line) (number_of (take (length line - 11) (drop 6 line))) other

false_from : (b : Bool) → (b ≡ true → ⊥) → b ≡ false
false_from true not_b = absurd (not_b refl)
false_from false not_b = refl

-- another last byte
ends_otherwise : (line : List ℕ) → (last_or 0 line == 108) ≡ false → ends_full line ≡ false
ends_otherwise line other =
    false_from (ends_full line) λ full.
    let end : drop (length line - 5) line ≡ codes " full" = (bytes_eq-Decides (drop (length line - 5) line) (codes " full")).0 full in
    let front = take (length line - 5) line in
    let last : last_or 0 line ≡ 108 = ap (last_or 0) (sym (take-append-drop (length line - 5) line)) ∙ last_append 0 front (drop (length line - 5) line) ∙ ap (last_or (last_or 0 front)) end in
    let is : (last_or 0 line == 108) ≡ true = eq-eqb (last_or 0 line) 108 last in
    cc

abbrev ending : Outcome → List ℕ
ending o = 32 ∷ (outcome_word o ++ spaced (outcome_reason o))

why_ends : (d : ℕ) (reason : Why) → (last_or d (ending (outcome.Ignored reason)) == 108) ≡ false
why_ends d why.Kind = refl
why_ends d why.NotForMe = refl
why_ends d why.Epoch = refl
why_ends d why.OldSwitch = refl
why_ends d why.Order = refl
why_ends d why.Repeat = refl
why_ends d why.Gap = refl
why_ends d why.Status = refl
why_ends d why.Foreign = refl
why_ends d why.Unsettled = refl
why_ends d why.Gone = refl

bar_ends : (d : ℕ) (reason : Bar) → (last_or d (ending (outcome.NotAllowed reason)) == 108) ≡ false
bar_ends d bar.NoPacket = refl
bar_ends d bar.NoSwitch = refl
bar_ends d bar.Busy = refl
bar_ends d bar.Idle = refl
bar_ends d bar.Stopped = refl
bar_ends d bar.Member = refl
bar_ends d bar.Live = refl
bar_ends d bar.Last = refl
bar_ends d bar.NotVr = refl
bar_ends d bar.Fixed = refl
bar_ends d bar.NotRetired = refl
bar_ends d bar.NotRefused = refl
bar_ends d bar.Forged = refl
bar_ends d bar.Malformed = refl

other_line : (k : ℕ) (o : Outcome) → ((d : ℕ) → (last_or d (ending o) == 108) ≡ false) → refusal_in (joined (outcome_words k o)) ≡ None
other_line k o ends = refusal_of_other (event_head k ++ ending o) (ends_otherwise (event_head k ++ ending o) (ap (λ (x : ℕ). x == 108) (last_append 0 (event_head k) (ending o)) ∙ ends (last_or 0 (event_head k))))

log_full_line : (k : ℕ) → refusal_in (event_head k ++ codes " logfull") ≡ None
log_full_line k =
    refusal_of_other (event_head k ++ codes " logfull")
    (ap ends_full (sym (append_assoc (event_head k) (codes " lo") (codes "gfull"))) ∙ ap (λ (l : List ℕ). bytes_eq l (codes " full")) (drop_head (event_head k ++ codes " lo") (codes "gfull")))

refusal_of : (k : ℕ) → k < 2 ^ 64 → (o : Outcome) → refusal_in (joined (outcome_words k o)) ≡ (if is_full_outcome o then Some k else None)
refusal_of k small (outcome.Ok first count) = other_line k (outcome.Ok first count) (λ d. refl)
refusal_of k small (outcome.Ignored reason) = other_line k (outcome.Ignored reason) (λ d. why_ends d reason)
refusal_of k small outcome.Full = refusal_of_full k small
refusal_of k small outcome.Spent = other_line k outcome.Spent (λ d. refl)
refusal_of k small outcome.LogFull = log_full_line k
refusal_of k small (outcome.NotAllowed reason) = other_line k (outcome.NotAllowed reason) (λ d. bar_ends d reason)

why_endless : (reason : Why) → IsEndless (why_text reason)
why_endless why.Kind = refl
why_endless why.NotForMe = refl
why_endless why.Epoch = refl
why_endless why.OldSwitch = refl
why_endless why.Order = refl
why_endless why.Repeat = refl
why_endless why.Gap = refl
why_endless why.Status = refl
why_endless why.Foreign = refl
why_endless why.Unsettled = refl
why_endless why.Gone = refl

bar_endless : (reason : Bar) → IsEndless (bar_text reason)
bar_endless bar.NoPacket = refl
bar_endless bar.NoSwitch = refl
bar_endless bar.Busy = refl
bar_endless bar.Idle = refl
bar_endless bar.Stopped = refl
bar_endless bar.Member = refl
bar_endless bar.Live = refl
bar_endless bar.Last = refl
bar_endless bar.NotVr = refl
bar_endless bar.Fixed = refl
bar_endless bar.NotRetired = refl
bar_endless bar.NotRefused = refl
bar_endless bar.Forged = refl
bar_endless bar.Malformed = refl

outcome_endless : (o : Outcome) → AreEndless (outcome_word o ∷ outcome_reason o)
outcome_endless (outcome.Ok first count) = (refl, tt)
outcome_endless (outcome.Ignored reason) = (refl, (why_endless reason, tt))
outcome_endless outcome.Full = (refl, tt)
outcome_endless outcome.Spent = (refl, tt)
outcome_endless outcome.LogFull = (refl, tt)
outcome_endless (outcome.NotAllowed reason) = (refl, (bar_endless reason, tt))

-- ---- events

-- the event's number, where its write was refused
abbrev refused_number : ℕ → Bool → List ℕ
refused_number k full = cons_option (if full then Some k else None) []

shows_more : (t u ns : List ℕ) → Shows t ns → Shows u [] → Shows (t ++ u) ns
shows_more t u ns p q rest = ap refused_events (append_assoc t u rest) ∙ p (u ++ rest) ∙ ap (λ (l : List ℕ). ns ++ l) (q rest)

shows_event : (k : ℕ) (before : World) (h : Happened) → k < 2 ^ 64 → Shows (event_text k before h) (refused_number k (is_full_outcome h.outcome))
shows_event k before h small =
    let marks = drop (length before.history) h.world.history in
    let packets = drop (length before.net) h.world.net in
    shows_more (outcome_line k h.outcome) (flat_map mark_line marks ++ packet_lines (length before.net + 1) packets) (refused_number k (is_full_outcome h.outcome))
    (shows_line (joined (outcome_words k h.outcome)) (if is_full_outcome h.outcome then Some k else None) (endless_joined (outcome_words k h.outcome) (refl, (endless_decimal k, outcome_endless h.outcome))) (refusal_of k small h.outcome))
    (shows_append (flat_map mark_line marks) (packet_lines (length before.net + 1) packets) [] [] (shows_marks marks) (shows_packets (length before.net + 1) packets))

joins_number : (k : ℕ) (full : Bool) (later : List ℕ) → refused_number k full ++ later ≡ (if full then k ∷ later else later)
joins_number k true later = refl
joins_number k false later = refl

pub shows_text : (k : ℕ) (s : Slotted) (es : List Event) → length es + k < 2 ^ 64 → Shows (slot_text k s es) (full_from k s es)
shows_text k s [] few rest = refl
shows_text k s (e ∷ es) few rest =
    let h = slot_happens s e in
    let later = full_from (k + 1) (slot_step s e) es in
    shows_append (event_text k s.world h) (slot_text (k + 1) (slot_step s e) es) (refused_number k (is_full_outcome h.outcome)) later (shows_event k s.world h (omega arith)) (shows_text (k + 1) (slot_step s e) es (omega arith)) rest
    ∙ ap (λ (l : List ℕ). l ++ refused_events rest) (joins_number k (is_full_outcome h.outcome) later)

-- a text that shows these refusals, and then another that shows none
pub shown : (t u ns : List ℕ) → Shows t ns → Shows u [] → refused_events (t ++ u) ≡ ns
shown t u ns p q = ap refused_events (sym (append-nil (t ++ u))) ∙ shows_more t u ns p q [] ∙ append-nil ns

-- the events of a run that refuses at its full events, and then a text that shows no refusals
pub events_show : (setup : Setup) (es : List Event) (end : List ℕ) → length es < 2 ^ 32 → Shows end [] → refused_events (events_text 1 (opens setup) es (full_events setup es) ++ end) ≡ full_events setup es
events_show setup es end few p =
    ap (λ (t : List ℕ). refused_events (t ++ end)) (text_refuses 1 (slotted (opens setup)) es)
    ∙ shown (slot_text 1 (slotted (opens setup)) es) end (full_events setup es) (shows_text 1 (slotted (opens setup)) es (omega arith)) p
