use Rattle.std.proofs.Common.{◌≡◌, ℕ, ◌+◌, List, [], ◌∷◌, ◌++◌, refl, ap, ◌∙◌}
use Rattle.hm_packet.specs.declared.outcome.Outcome.{Outcome}
use Rattle.hm_rules.specs.Events.{Event}
use Rattle.hm_rules.specs.World.{Happened, opens}
use Rattle.hm_rules.specs.Runs.{Slotted, slotted, outcomes_from, full_from}
use Rattle.hm_refusal_laws.specs.Outcomes.{slot_outcomes}
use Rattle.hm_refusal_laws.specs.Slotting.{slot_happens, slot_step, slot_run}
use Rattle.hm_refusal_laws.proofs.FullRuns.{AgreeFrom, same_event, agree_later}
use Rattle.hm_refusal_laws.proofs.outcomes.outcomes_are_the_slotted_runs.Goals as goal

agree : (k : ℕ) (s : Slotted) (es : List Event) (refused : List ℕ) → AgreeFrom k refused (full_from k s es) → outcomes_from k s.world es refused ≡ slot_outcomes s es
agree k s [] refused same = refl
agree k s (e ∷ es) refused same =
    ap (λ (h : Happened). h.outcome ∷ outcomes_from (k + 1) h.world es refused) (same_event k s e es refused same)
    ∙ ap (λ (later : List Outcome). (slot_happens s e).outcome ∷ later) (agree (k + 1) (slot_step s e) es refused (agree_later k s e es refused same))

push : (s : Slotted) (es : List Event) (e : Event) → slot_outcomes s (es ++ e ∷ []) ≡ slot_outcomes s es ++ (slot_happens (slot_run s es) e).outcome ∷ []
push s [] e = refl
push s (x ∷ es) e = ap (λ (later : List Outcome). (slot_happens s x).outcome ∷ later) (push (slot_step s x) es e)

pub returns-clause-same : goal.returns-clause-same
returns-clause-same c = λ setup es. agree 1 (slotted (opens setup)) es (full_from 1 (slotted (opens setup)) es) (λ n more. refl)

pub returns-clause-more : goal.returns-clause-more
returns-clause-more c = push
