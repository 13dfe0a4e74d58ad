use Rattle.std.proofs.Common.{ℕ, [], refl, subst}
use Rattle.hm_replay.specs.Statuses.{Ends}
use Rattle.hm_replay.proofs.Progress.{ends_cut_opening, ends_empty, ends_opening}
use Rattle.hm_replay.proofs.replay.replay.Goals as goal

pub returns-in_default : goal.returns-in_default
returns-in_default g c = (
  record { read = refl; put = refl },
  ends_empty c.calls_add_up.ensures c.schedules_run_lawfully.ensures c.schedules_grow_by_lines.ensures.grow [] [] _ _ _ _ tt (c.calls_add_up.ensures.takes_none _) (c.calls_add_up.ensures.puts_none _),
)

pub returns-in_default-open : goal.returns-in_default-open
returns-in_default-open g c = (record { read = c.in-Ok-read_opening.ensures.counted; put = refl }, ends_opening c.calls_add_up.ensures c.schedules_run_lawfully.ensures c.schedules_grow_by_lines.ensures.grow _ _ _ _ _ _ c.in-Ok-read_opening.ensures.opens)

pub returns-in-Err : goal.returns-in-Err
returns-in-Err g c = (record { read = c.in-Err.ensures.counted; put = refl }, ends_cut_opening c.calls_add_up.ensures c.schedules_run_lawfully.ensures c.schedules_grow_by_lines.ensures.grow _ _ _ _ c.in-Err.ensures.opens)

pub play-requires : goal.play-requires
play-requires g c = record { opens = (_, c.in-Ok-read_opening.ensures.opens); opened = c.in-Ok-open.ensures.opened; events = c.in-Ok-open.ensures.events }

pub returns : goal.returns
returns g c =
    subst
    (λ (n : ℕ). Ends c.play.result (g.S.Source.left c.args.source.now) (g.S.Source.left c.play.new.source) (g.K.Sink.held c.args.sink.now) (g.K.Sink.held c.play.new.sink)
    (record { read_before = n; read_after = g.S.Source.faults c.play.new.source; put_before = g.K.Sink.faults c.args.sink.now; put_after = g.K.Sink.faults c.play.new.sink }))
    c.in-Ok-read_opening.ensures.counted (c.play.ensures _ c.in-Ok-read_opening.ensures.opens)
