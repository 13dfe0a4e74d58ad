-- Bytes that are outside the grammar, and that a schedule's bytes never are.
use Rattle.std.proofs.Common.{◌≡◌, ◌≢◌, ℕ, ◌+◌, List, [], ◌∷◌, ◌++◌, length, refl, sym, ap, subst, ◌∙◌, append_assoc, arith}
use Rattle.std.specs.Prelude.{fold}
use Rattle.hm_base.specs.Spellings.{spaced}
use Rattle.hm_schedule.specs.declared.event.Event.TheVariants as event
use Rattle.hm_schedule.specs.LineWords.{SplitsWord}
use Rattle.hm_schedule.specs.Names.{keyword_text}
use Rattle.hm_schedule.specs.Orders.{Stage, IsNext, ComeFrom, IsBegun, IsSchedule, IsOutside, after, stage_of, events_at, line_bytes, lines_text}
use Rattle.hm_schedule.specs.Schedules.{line_text, keyword_in, field_words}
use Rattle.hm_schedule.specs.declared.keyword.Keyword.{Keyword}
use Rattle.hm_schedule.specs.declared.keyword.Keyword.TheVariants as keyword
use Rattle.hm_schedule.specs.declared.line.Line.{Line}
use Rattle.hm_schedule.specs.declared.line.Line.TheVariants as line
use Rattle.hm_schedule.specs.declared.refusal.Refusal.{Refusal}
use Rattle.hm_schedule.specs.Refusals.{BreaksOff, IsRefused}
use Rattle.hm_schedule.proofs.FieldTexts.{word_from_visible}
use Rattle.hm_schedule.proofs.LineLemmas.{lawful_line}
use Rattle.hm_schedule.proofs.Names.{named_keyword, visible_keyword, keyword_is, spaced_ends}
use Rattle.hm_schedule.proofs.Refused.{one_refusal, refused_outside}
use Rattle.hm_schedule.proofs.LineFronts.{one_line, ended_some}

-- ---- a schedule's bytes

-- the stage behind a line with this keyword
abbrev behind : Stage → Keyword → Stage
behind stage keyword.Group = Stage.Setting 0
behind stage keyword.Table = Stage.Setting 1
behind stage keyword.Life = Stage.Setting 2
behind stage keyword.Log = Stage.Setting 3
behind stage other = Stage.Running (events_at stage + 1)

after_is_behind : (stage : Stage) (l : Line) → after stage l ≡ behind stage (keyword_in l)
after_is_behind stage (line.Group kind size) = refl
after_is_behind stage (line.Table stages bits) = refl
after_is_behind stage (line.Life life) = refl
after_is_behind stage (line.Log entries) = refl
after_is_behind stage (line.Event (event.Write client object value switch)) = refl
after_is_behind stage (line.Event (event.Read client object switch)) = refl
after_is_behind stage (line.Event (event.Resend client switch)) = refl
after_is_behind stage (line.Event (event.Deliver packet)) = refl
after_is_behind stage (line.Event event.Next) = refl
after_is_behind stage (line.Event event.Drop) = refl
after_is_behind stage (line.Event (event.Tick replica)) = refl
after_is_behind stage (line.Event (event.Stop replica)) = refl
after_is_behind stage (line.Event (event.Remove replica)) = refl
after_is_behind stage (line.Event (event.Timeout replica)) = refl
after_is_behind stage (line.Event event.Retire) = refl
after_is_behind stage (line.Event event.Start) = refl

behind_is_fresh : (stage : Stage) (k : Keyword) → behind stage k ≢ Stage.Fresh
behind_is_fresh stage keyword.Group same = cc
behind_is_fresh stage keyword.Table same = cc
behind_is_fresh stage keyword.Life same = cc
behind_is_fresh stage keyword.Log same = cc
behind_is_fresh stage keyword.Write same = cc
behind_is_fresh stage keyword.Read same = cc
behind_is_fresh stage keyword.Resend same = cc
behind_is_fresh stage keyword.Deliver same = cc
behind_is_fresh stage keyword.Next same = cc
behind_is_fresh stage keyword.Drop same = cc
behind_is_fresh stage keyword.Tick same = cc
behind_is_fresh stage keyword.Stop same = cc
behind_is_fresh stage keyword.Remove same = cc
behind_is_fresh stage keyword.Timeout same = cc
behind_is_fresh stage keyword.Retire same = cc
behind_is_fresh stage keyword.Start same = cc

splits : (l : Line) → SplitsWord (line_text l) (keyword_text (keyword_in l)) (spaced (field_words l))
splits l = record {
  parts = refl;
  whole = word_from_visible (keyword_text (keyword_in l)) (visible_keyword (keyword_in l));
  ends = spaced_ends (field_words l);
}

-- lines with one text have one stage behind them
one_stage : (stage : Stage) (a b : Line) → line_text a ≡ line_text b → after stage a ≡ after stage b
one_stage stage a b same =
    let one : keyword_in b ≡ keyword_in a = keyword_is (line_text a) (keyword_text (keyword_in a)) (spaced (field_words a)) (keyword_in a) b (splits a) (named_keyword (keyword_in a)) same in
    after_is_behind stage a ∙ ap (behind stage) (sym one) ∙ sym (after_is_behind stage b)

ends_here : (stage : Stage) (rest : List ℕ) → stage ≢ Stage.Fresh → IsOutside stage rest → rest ≢ []
ends_here Stage.Fresh rest begun outside none = begun refl
ends_here (Stage.Setting place) rest begun outside none = outside.0 none
ends_here (Stage.Running events) rest begun outside none = outside.0 none

goes_on : (stage : Stage) (rest more : List ℕ) (l : Line) → IsNext stage l → IsOutside stage rest → rest ≢ line_bytes l ++ more
goes_on Stage.Fresh rest more l may outside same = outside l more may same
goes_on (Stage.Setting place) rest more l may outside same = outside.1 l more may same
goes_on (Stage.Running events) rest more l may outside same = outside.1 l more may same

-- the bytes of lines that may come are nowhere outside the grammar
nowhere : (stage : Stage) (begun lines : List Line) (rest : List ℕ) → ComeFrom stage begun → ComeFrom stage lines → (stage ≡ Stage.Fresh → lines ≢ [])
    → lines_text lines ≡ lines_text begun ++ rest → IsOutside (fold after stage begun) rest → ⊥
nowhere stage [] [] rest come comes some same outside = ends_here stage rest (λ fresh. some fresh refl) outside (sym same)
nowhere stage [] (l ∷ ls) rest come comes some same outside = goes_on stage rest (lines_text ls) l comes.0 outside (sym same)
nowhere stage (x ∷ xs) [] rest come comes some same outside = ended_some (line_text x) (lines_text xs ++ rest) (sym (same ∙ append_assoc (line_bytes x) (lines_text xs) rest))
nowhere stage (x ∷ xs) (l ∷ ls) rest come comes some same outside =
    let parts =
    one_line (line_text l) (line_text x) (lines_text ls) (lines_text xs ++ rest) (lawful_line l comes.0.0) (lawful_line x come.0.0)
    (same ∙ append_assoc (line_bytes x) (lines_text xs) rest) in
    nowhere (after stage x) xs ls rest come.1 (subst (λ (t : Stage). ComeFrom t ls) (one_stage stage l x parts.0) comes.1)
    (λ fresh. absurd (behind_is_fresh stage (keyword_in x) (sym (after_is_behind stage x) ∙ fresh))) parts.1 outside

-- where bytes are lines that may come, and then outside the grammar
record Apart (stage : Stage) (begun others : List Line) (rest more : List ℕ) : Type 0 where
  count : length begun ≡ length others
  rest_is : rest ≡ more
  stage_is : fold after stage begun ≡ fold after stage others

-- they are so in one way
behind_one : (stage : Stage) (begun others : List Line) (rest more : List ℕ) → ComeFrom stage begun → ComeFrom stage others → lines_text begun ++ rest ≡ lines_text others ++ more
    → IsOutside (fold after stage begun) rest → IsOutside (fold after stage others) more → Apart stage begun others rest more
behind_one stage [] [] rest more come comes same outside also = record { count = refl; rest_is = same; stage_is = refl }
behind_one stage [] (l ∷ ls) rest more come comes same outside also =
    absurd (goes_on stage rest (lines_text ls ++ more) l comes.0 outside (same ∙ append_assoc (line_bytes l) (lines_text ls) more))
behind_one stage (x ∷ xs) [] rest more come comes same outside also =
    absurd (goes_on stage more (lines_text xs ++ rest) x come.0 also (sym same ∙ append_assoc (line_bytes x) (lines_text xs) rest))
behind_one stage (x ∷ xs) (l ∷ ls) rest more come comes same outside also =
    let parts =
    one_line (line_text x) (line_text l) (lines_text xs ++ rest) (lines_text ls ++ more) (lawful_line x come.0.0) (lawful_line l comes.0.0)
    (sym (append_assoc (line_bytes x) (lines_text xs) rest) ∙ same ∙ append_assoc (line_bytes l) (lines_text ls) more) in
    let here : after stage l ≡ after stage x = sym (one_stage stage x l parts.0) in
    let apart = behind_one (after stage x) xs ls rest more come.1 (subst (λ (t : Stage). ComeFrom t ls) here comes.1) parts.1 outside (subst (λ (t : Stage). IsOutside (fold after t ls) more) here also) in
    let count : length xs ≡ length ls = apart.count in
    record { count = omega arith; rest_is = apart.rest_is; stage_is = apart.stage_is ∙ ap (λ (t : Stage). fold after t ls) (sym here) }

-- bytes break off behind one number of lines and for one reason
pub breaks_once : (begun others : List Line) (why other : Refusal) (bytes : List ℕ) → IsBegun begun → IsBegun others → BreaksOff begun why bytes → BreaksOff others other bytes
    → (length begun ≡ length others) × (why ≡ other)
breaks_once begun others why other bytes lawful also breaks off =
    let apart =
    behind_one Stage.Fresh begun others breaks.rest off.rest lawful also (sym breaks.parts ∙ off.parts) (refused_outside (stage_of begun) breaks.rest why breaks.refused)
    (refused_outside (stage_of others) off.rest other off.refused) in
    let here : IsRefused (stage_of others) off.rest why =
    subst (λ (t : Stage). IsRefused t off.rest why) apart.stage_is (subst (λ (l : List ℕ). IsRefused (stage_of begun) l why) apart.rest_is breaks.refused) in
    (apart.count, one_refusal (stage_of others) off.rest why other here off.refused)

-- bytes that are outside the grammar behind lines break off there
pub breaks_there : (begun others : List Line) (why : Refusal) (rest : List ℕ) → IsBegun begun → IsBegun others → BreaksOff begun why (lines_text others ++ rest) → IsOutside (stage_of others) rest
    → (length begun ≡ length others) × IsRefused (stage_of others) rest why
breaks_there begun others why rest lawful also breaks outside =
    let apart = behind_one Stage.Fresh begun others breaks.rest rest lawful also (sym breaks.parts) (refused_outside (stage_of begun) breaks.rest why breaks.refused) outside in
    (apart.count, subst (λ (t : Stage). IsRefused t rest why) apart.stage_is (subst (λ (l : List ℕ). IsRefused (stage_of begun) l why) apart.rest_is breaks.refused))

-- a schedule's bytes are nowhere outside the grammar
pub never_outside : (begun lines : List Line) (rest : List ℕ) → IsBegun begun → IsSchedule lines → lines_text lines ≡ lines_text begun ++ rest → IsOutside (stage_of begun) rest → ⊥
never_outside begun lines rest lawful schedule same outside = nowhere Stage.Fresh begun lines rest lawful schedule.begun (λ fresh. schedule.group) same outside
