use Rattle.std.proofs.Common.{arith}
use Rattle.hm_daemon.proofs.words.switch_words.Goals as goal

pub returns-in_err-workers-clause-only : goal.returns-in_err-workers-clause-only
returns-in_err-workers-clause-only c w p =
    let s0 = c.in_ok-words.ensures.only _ p.spelled in
    let s1 = c.in_ok-id.ensures.only w.id _ p.of_id.some (omega (arith, p.of_id.fits)) s0 in
    absurd (c.in_err-workers.ensures.only w.workers _ p.some_workers p.few_workers s1.1)

pub returns-in_err-stages-clause-only : goal.returns-in_err-stages-clause-only
returns-in_err-stages-clause-only c w p =
    let s0 = c.in_ok-words.ensures.only _ p.spelled in
    let s1 = c.in_ok-id.ensures.only w.id _ p.of_id.some (omega (arith, p.of_id.fits)) s0 in
    let s2 = c.in_ok-workers.ensures.only w.workers _ p.some_workers p.few_workers s1.1 in
    absurd (c.in_err-stages.ensures.only w.stages _ p.of_table.some p.of_table.few s2.1)

pub returns-in_err-bits-clause-only : goal.returns-in_err-bits-clause-only
returns-in_err-bits-clause-only c w p =
    let s0 = c.in_ok-words.ensures.only _ p.spelled in
    let s1 = c.in_ok-id.ensures.only w.id _ p.of_id.some (omega (arith, p.of_id.fits)) s0 in
    let s2 = c.in_ok-workers.ensures.only w.workers _ p.some_workers p.few_workers s1.1 in
    let s3 = c.in_ok-stages.ensures.only w.stages _ p.of_table.some p.of_table.few s2.1 in
    absurd (c.in_err-bits.ensures.only w.bits _ (omega arith) p.of_table.of_bits s3.1)

pub returns-in_err-life-clause-only : goal.returns-in_err-life-clause-only
returns-in_err-life-clause-only c w p =
    let s0 = c.in_ok-words.ensures.only _ p.spelled in
    let s1 = c.in_ok-id.ensures.only w.id _ p.of_id.some (omega (arith, p.of_id.fits)) s0 in
    let s2 = c.in_ok-workers.ensures.only w.workers _ p.some_workers p.few_workers s1.1 in
    let s3 = c.in_ok-stages.ensures.only w.stages _ p.of_table.some p.of_table.few s2.1 in
    let s4 = c.in_ok-bits.ensures.only w.bits _ (omega arith) p.of_table.of_bits s3.1 in
    absurd (c.in_err-life.ensures.only w.life _ p.some_life p.short_life s4.1)

pub returns-in_err-turns-clause-only : goal.returns-in_err-turns-clause-only
returns-in_err-turns-clause-only c w p =
    let s0 = c.in_ok-words.ensures.only _ p.spelled in
    let s1 = c.in_ok-id.ensures.only w.id _ p.of_id.some (omega (arith, p.of_id.fits)) s0 in
    let s2 = c.in_ok-workers.ensures.only w.workers _ p.some_workers p.few_workers s1.1 in
    let s3 = c.in_ok-stages.ensures.only w.stages _ p.of_table.some p.of_table.few s2.1 in
    let s4 = c.in_ok-bits.ensures.only w.bits _ (omega arith) p.of_table.of_bits s3.1 in
    let s5 = c.in_ok-life.ensures.only w.life _ p.some_life p.short_life s4.1 in
    absurd (c.in_err-turns.ensures.only w.turns _ p.of_turns.some (omega (arith, p.of_turns.fits)) s5.1)

pub returns-clause-only : goal.returns-clause-only
returns-clause-only c w p =
    let s0 = c.in_ok-words.ensures.only _ p.spelled in
    let s1 = c.in_ok-id.ensures.only w.id _ p.of_id.some (omega (arith, p.of_id.fits)) s0 in
    let s2 = c.in_ok-workers.ensures.only w.workers _ p.some_workers p.few_workers s1.1 in
    let s3 = c.in_ok-stages.ensures.only w.stages _ p.of_table.some p.of_table.few s2.1 in
    let s4 = c.in_ok-bits.ensures.only w.bits _ (omega arith) p.of_table.of_bits s3.1 in
    let s5 = c.in_ok-life.ensures.only w.life _ p.some_life p.short_life s4.1 in
    let s6 = c.in_ok-turns.ensures.only w.turns _ p.of_turns.some (omega (arith, p.of_turns.fits)) s5.1 in
    let s7 = c.in_ok-kind.ensures.only w.kind w.size _ p.of_group s6.1 in
    rw (s1.0, s2.0, s3.0, s4.0, s5.0, s6.0, s7.0, s7.1)
