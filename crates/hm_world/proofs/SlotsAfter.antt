-- The slots of the switches once one of them has handled a packet, or one more is started.
use Rattle.std.proofs.Common.{◌≡◌, ℕ, zero, suc, ◌+◌, List, [], ◌∷◌, ◌++◌, length, map, Some, refl, sym, ap, ◌∙◌, arith}
use Rattle.std.specs.Prelude.{slice_get, slice_set, nat_lt}
use Rattle.std.proofs.lemmas.Bool.{cond-false, le-ltb}
use Rattle.std.proofs.lemmas.List.{drop_all, length-map}
use Rattle.std.proofs.lemmas.Option.{none-some, same_Some}
use Rattle.hm_base.specs.Slots.{Slots, live_slots, slots_raised, no_slots}
use Rattle.hm_dirtyset.specs.Table.{slots_of}
use Rattle.hm_rules.specs.Events.{Setup}
use Rattle.hm_rules.specs.Runs.{put_all, slots_after}
use Rattle.hm_rules.specs.Switch.{AbstractSwitch}
use Rattle.hm_switch.specs.StandsFor.{slots_then}
use Rattle.hm_world.specs.Running.{Running, switches_in, tables_in, slots_in}
use Rattle.hm_world.specs.Slotted.{Seen}

abbrev switches_of : List Seen → List AbstractSwitch
switches_of seen = map (λ (s : Seen). s.switch) seen

abbrev all_slots : List Seen → List Slots
all_slots seen = map slots_of (map (λ (s : Seen). s.table) seen)

-- there are slots for each switch
pub as_many : (r : Running) → length (slots_in r) ≡ length (switches_in r)
as_many r = length-map (tables_in r) slots_of ∙ length-map r.seen (λ (s : Seen). s.table) ∙ sym (length-map r.seen (λ (s : Seen). s.switch))

-- a switch that stays numbers no write
slot_stays : (t : Slots) (s : AbstractSwitch) → slots_then t s s ≡ t
slot_stays t s =
    ap (λ (l : List ℕ). slots_raised s.point s.point (put_all t s.point (length s.numbered + 1) l)) (drop_all (length s.numbered) s.numbered (omega arith))
    ∙ cond-false (nat_lt s.point s.point) (live_slots s.point t) t (le-ltb s.point s.point (omega arith))

pub slots_stay : (setup : Setup) (ts : List Slots) (ss : List AbstractSwitch) → length ts ≡ length ss → slots_after setup ts ss ss ≡ ts
slots_stay setup [] [] many = refl
slots_stay setup [] (s ∷ ss) many = absurd (omega (arith, many))
slots_stay setup (t ∷ ts) [] many = absurd (omega (arith, many))
slots_stay setup (t ∷ ts) (s ∷ ss) many =
    ap (λ (x : Slots). x ∷ slots_after setup ts ss ss) (slot_stays t s) ∙ ap (λ (l : List Slots). t ∷ l) (slots_stay setup ts ss (omega (arith, many)))

-- one more switch begins with no slots
pub slots_started : (setup : Setup) (ts : List Slots) (ss : List AbstractSwitch) (s : AbstractSwitch) → length ts ≡ length ss → slots_after setup ts ss (ss ++ s ∷ []) ≡ ts ++ no_slots setup.stages setup.bits ∷ []
slots_started setup [] [] s many = refl
slots_started setup [] (x ∷ xs) s many = absurd (omega (arith, many))
slots_started setup (t ∷ ts) [] s many = absurd (omega (arith, many))
slots_started setup (t ∷ ts) (x ∷ xs) s many =
    ap (λ (y : Slots). y ∷ slots_after setup ts xs (xs ++ s ∷ [])) (slot_stays t x) ∙ ap (λ (l : List Slots). t ∷ l) (slots_started setup ts xs s (omega (arith, many)))

as_many_of : (seen : List Seen) → length (all_slots seen) ≡ length (switches_of seen)
as_many_of seen = as_many (record { seen = seen; steps = 0 })

-- a switch's turn is in its own slots alone
pub slots_turn : (setup : Setup) (seen : List Seen) (k : ℕ) (old new : Seen) → slice_get seen k ≡ Some old → slots_of new.table ≡ slots_then (slots_of old.table) old.switch new.switch
    → all_slots (slice_set seen k new) ≡ slots_after setup (all_slots seen) (switches_of seen) (switches_of (slice_set seen k new))
slots_turn setup [] k old new here slots = absurd (none-some old here)
slots_turn setup (x ∷ xs) zero old new here slots =
    ap (λ (t : Slots). t ∷ all_slots xs) (slots ∙ ap (λ (q : Seen). slots_then (slots_of q.table) q.switch new.switch) (sym (same_Some x old here)))
    ∙ ap (λ (l : List Slots). slots_then (slots_of x.table) x.switch new.switch ∷ l) (sym (slots_stay setup (all_slots xs) (switches_of xs) (as_many_of xs)))
slots_turn setup (x ∷ xs) (suc k) old new here slots =
    ap (λ (l : List Slots). slots_of x.table ∷ l) (slots_turn setup xs k old new here slots)
    ∙ ap (λ (t : Slots). t ∷ slots_after setup (all_slots xs) (switches_of xs) (switches_of (slice_set xs k new))) (sym (slot_stays (slots_of x.table) x.switch))
