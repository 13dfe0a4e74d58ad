use Rattle.std.proofs.Common.{◌+◌, ◌<◌, length, ◌∙◌, arith}
use Rattle.hm_rules.specs.World.{sent_at}
use Rattle.hm_replay.proofs.PacketLines.{lines_more, some_sent, sent_next, sent_spelled, not_copied}
use Rattle.hm_replay.proofs.events.write_sent_from.Goals as goal
use Rattle.hm_replay.proofs.events.write_sent_from.Goals.{in-Some+in_ok-write_sent, in_default}

pub loop-i-preserved : goal.loop-i-preserved
loop-i-preserved c =
    let w = c.args.world.now.world in
    let few : c.loop-i.i < length w.net = omega (arith, c.sent_count-i-end.ensures.count) in
    elim c.match-sent.branch [
      | in-Some+in_ok-write_sent k ↦
          (let m = sent_spelled w.net (sent_at w (c.loop-i.i + 1)) c.loop-i.i k.in-Some.bytes.now (sent_next w c.loop-i.i) k.in-Some.ensures.lawful k.in-Some.ensures.spelled in
          (cc (k.in_ok-write_sent.ensures m.0 m.2 m.3)) ∙ lines_more w c.args.before c.loop-i.i _ c.loop-i.text.items m.0 c.loop-i.auto.i few m.1 c.loop-i.invariant)
      | in_default k ↦ absurd (some_sent w c.loop-i.i few (not_copied (sent_at w (c.loop-i.i + 1)) k.in_default.ensures.spelled))
    ]
