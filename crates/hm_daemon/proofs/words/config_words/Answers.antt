use Rattle.std.proofs.Common.{arith}
use Rattle.hm_daemon.proofs.words.config_words.Goals as goal

pub returns-in_err-turns-clause-only : goal.returns-in_err-turns-clause-only
returns-in_err-turns-clause-only c w p =
    let s0 = c.in_ok-words.ensures.only _ p.spelled in
    let s1 = c.in_ok-kind.ensures.only w.kind w.size _ p.of_group s0 in
    absurd (c.in_err-turns.ensures.only w.turns _ p.of_turns.some (omega (arith, p.of_turns.fits)) s1.2)

pub returns-clause-only : goal.returns-clause-only
returns-clause-only c w p =
    let s0 = c.in_ok-words.ensures.only _ p.spelled in
    let s1 = c.in_ok-kind.ensures.only w.kind w.size _ p.of_group s0 in
    let s2 = c.in_ok-turns.ensures.only w.turns _ p.of_turns.some (omega (arith, p.of_turns.fits)) s1.2 in
    rw (s1.0, s1.1, s2.0)
