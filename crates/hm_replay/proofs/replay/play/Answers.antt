use Rattle.std.proofs.Common.{◌≡◌, ◌+◌, ◌<◌, ◌≤◌, ℕ, refl, ap, subst, ◌∙◌, arith}
use Rattle.hm_schedule.specs.Limits.{max_events}
use Rattle.hm_schedule.specs.Openings.{max_opening}
use Rattle.hm_schedule.specs.Orders.{Stage}
use Rattle.hm_outside.specs.Faults.{one_more}
use Rattle.hm_schedule.specs.Nexts.{EventComes}
use Rattle.hm_replay.proofs.Progress.{few_more, progress_more, ahead_start, ahead_more, ends_refused_ahead, ends_whole, ends_cut_ahead, ends_ahead, ends_event}
use Rattle.hm_replay.proofs.replay.play.Goals as goal

pub loop-next-init : goal.loop-next-init
loop-next-init g c = record {
  run = λ left opens. ahead_start c.calls_add_up.ensures c.schedules_run_lawfully.ensures c.schedules_grow_by_lines.ensures.grow _ _ _ _ _ _ _ opens c.requires.opened c.requires.events;
  read = refl;
  put = refl;
}

pub write_event-requires : goal.write_event-requires
write_event-requires g c =
    let run = rw c.in-Event.is at (c.loop-next.invariant.run c.requires.opens.0 c.requires.opens.1) in
    few_more c.calls_add_up.ensures c.schedules_run_lawfully.ensures c.schedules_grow_by_lines.ensures.grow _ _ _ _ _ _ _ _ run

pub returns-in-Err : goal.returns-in-Err
returns-in-Err g c left opens = (
  record { read = c.loop-next.invariant.read; put = c.loop-next.invariant.put },
  ends_ahead c.calls_add_up.ensures c.schedules_run_lawfully.ensures c.schedules_grow_by_lines.ensures.grow _ _ _ _ _ _ _ _ (c.loop-next.invariant.run left opens),
)

pub returns-in-Err-put_all : goal.returns-in-Err-put_all
returns-in-Err-put_all g c left opens =
    let run = rw c.in-Event.is at (c.loop-next.invariant.run left opens) in
    let failed = c.in-Err-put_all.ensures.err in (
      record { read = c.loop-next.invariant.read; put = c.in-Err-put_all.ensures.counted ∙ ap one_more c.loop-next.invariant.put },
      ends_event c.calls_add_up.ensures c.schedules_run_lawfully.ensures c.schedules_grow_by_lines.ensures.grow _ _ _ failed.0 _ _ _ _ _ _ _ run (c.as_slice.ensures ∙ c.in-Ok.ensures.text) failed.1 failed.2,
    )

pub returns-in-End : goal.returns-in-End
returns-in-End g c left opens =
    let run = rw c.in-End.is at (c.loop-next.invariant.run left opens) in
    rw c.ended.ensures (ends_whole c.calls_add_up.ensures c.schedules_run_lawfully.ensures c.schedules_grow_by_lines.ensures.grow _ _ _ _ _ _ _ _ _ _ _ run c.loop-next.invariant.read c.loop-next.invariant.put c.finish.ensures)

pub overflow_add-line : goal.overflow_add-line
overflow_add-line g c =
    let run = c.loop-next.invariant.run c.requires.opens.0 c.requires.opens.1 in
    let few : c.loop-next.world.events ≤ max_events = run.progress.few in
    let opened : c.args.opening.now.lines ≤ max_opening = run.progress.opening in
    let events : c.events.result ≡ c.loop-next.world.events = c.events.ensures in
    omega arith

pub overflow_add-line-in-Refused : goal.overflow_add-line-in-Refused
overflow_add-line-in-Refused g c =
    let run = c.loop-next.invariant.run c.requires.opens.0 c.requires.opens.1 in
    let few : c.loop-next.world.events ≤ max_events = run.progress.few in
    let opened : c.args.opening.now.lines ≤ max_opening = run.progress.opening in
    let events : c.events.result ≡ c.loop-next.world.events = c.events.ensures in
    omega arith

pub returns-in-Refused : goal.returns-in-Refused
returns-in-Refused g c left opens =
    let run = rw c.in-Refused.is at (c.loop-next.invariant.run left opens) in
    let events : c.events.result ≡ c.loop-next.world.events = c.events.ensures in
    rw c.ended-in-Refused.ensures
    (rw c.refused.ensures
    (ends_refused_ahead c.calls_add_up.ensures c.schedules_run_lawfully.ensures c.schedules_grow_by_lines.ensures.grow _ _ c.args.opening.now.lines _ _ _ _ _ _ _ _ _ _ run c.loop-next.invariant.read c.loop-next.invariant.put (omega arith)
    c.refuse-closed.ensures))

pub returns-in-Err-next_event : goal.returns-in-Err-next_event
returns-in-Err-next_event g c left opens =
    let run = rw c.in-Event.is at (c.loop-next.invariant.run left opens) in
    let failed = c.in-Err-next_event.ensures.next in (
      record {
        read = c.in-Err-next_event.ensures.counted ∙ ap one_more c.loop-next.invariant.read;
        put = c.in-Ok-put_all.ensures.counted ∙ c.loop-next.invariant.put;
      },
      ends_cut_ahead c.calls_add_up.ensures c.schedules_run_lawfully.ensures c.schedules_grow_by_lines.ensures.grow _ _ _ _ _ _ _ _ _ _ _ _ _ run c.in-Ok.ensures.world c.in-Ok.ensures.events
          (c.as_slice.ensures ∙ c.in-Ok.ensures.text) c.in-Ok-put_all.ensures.ok failed.0 failed.1,
    )

pub loop-next-smaller : goal.loop-next-smaller
loop-next-smaller g c =
    let run = rw c.in-Event.is at (c.loop-next.invariant.run c.requires.opens.0 c.requires.opens.1) in
    let few : c.loop-next.world.events < max_events = few_more c.calls_add_up.ensures c.schedules_run_lawfully.ensures c.schedules_grow_by_lines.ensures.grow _ _ _ _ _ _ _ _ run in
    let more : c.write_event.new.world.events ≡ c.loop-next.world.events + 1 = c.in-Ok.ensures.events in
    omega arith

pub loop-next-preserved : goal.loop-next-preserved
loop-next-preserved g c =
    let came_here =
    subst
    (λ (n : ℕ). EventComes (Stage.Running n) c.in-Ok-next_event.next c.loop-next.reader.ahead c.next_event.new.reader.ahead (g.S.Source.left c.loop-next.source) (g.S.Source.left c.next_event.new.source))
    c.events-in-loop-next.ensures c.in-Ok-next_event.ensures.next in
    record {
      run = λ left opens.
          let run = rw c.in-Event.is at (c.loop-next.invariant.run left opens) in
          let progress =
          progress_more c.calls_add_up.ensures c.schedules_run_lawfully.ensures c.schedules_grow_by_lines.ensures.grow _ _ _ _ _ _ _ _ _ _ _ _ c.in-Event.event _ run.progress run.comes c.in-Ok.ensures.world c.in-Ok.ensures.events
          (c.as_slice.ensures ∙ c.in-Ok.ensures.text) c.in-Ok-put_all.ensures.ok in
          ahead_more c.calls_add_up.ensures c.schedules_run_lawfully.ensures c.schedules_grow_by_lines.ensures.grow _ _ run.lines c.in-Event.event _ _ _ _ _ _ _ _ progress came_here;
      read = c.in-Ok-next_event.ensures.counted ∙ c.loop-next.invariant.read;
      put = c.in-Ok-put_all.ensures.counted ∙ c.loop-next.invariant.put;
    }
