use Rattle.std.proofs.Common.{◌≡◌, true, subst, []}
use Rattle.hm_schedule.specs.Nexts.{IsSpelledBy}
use Rattle.hm_schedule.specs.Stages.{stage_at}
use Rattle.hm_schedule.proofs.Refused.{line_comes, told_long}
use Rattle.hm_schedule.proofs.reading.next_line.Goals as goal

pub returns-in-Ok-Line-clause-next : goal.returns-in-Ok-Line-clause-next
returns-in-Ok-Line-clause-next g c =
    let found = rw c.in-Ok-Line.field-0-is at c.in-Ok-Line.ensures.found in
    line_comes (stage_at c.args.stage) c.spelled_by.result _ _ c.next.new.self.line _ _ (subst (IsSpelledBy (stage_at c.args.stage) c.spelled_by.result) c.line.ensures c.spelled_by.ensures)
    (λ full. let yes : c.is_full.result ≡ true = c.is_full.ensures.1 full in cc (yes, c.if-is_full.false)) found.moves found.line found.short

pub returns-in-Ok-Long-clause-next : goal.returns-in-Ok-Long-clause-next
returns-in-Ok-Long-clause-next g c =
    let found = rw c.in-Ok-Long.field-0-is at c.in-Ok-Long.ensures.found in
    record { cut = []; moves = found.moves; refused = λ bytes is. told_long (stage_at c.args.stage) _ _ bytes _ _ is found.moves found.why }
