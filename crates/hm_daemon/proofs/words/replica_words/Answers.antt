use Rattle.std.proofs.Common.{arith}
use Rattle.hm_daemon.proofs.WordTexts.{few_replicas}
use Rattle.hm_daemon.proofs.words.replica_words.Goals as goal

pub returns-in_err-cap-clause-only : goal.returns-in_err-cap-clause-only
returns-in_err-cap-clause-only c w p =
    let s0 = c.in_ok-words.ensures.only _ p.spelled in
    let s1 = c.in_ok-me.ensures.only w.me _ (omega arith) (few_replicas w.kind w.size w.me p.of_me p.of_group) s0 in
    let s2 = c.in_ok-kind.ensures.only w.kind w.size _ p.of_group s1.1 in
    absurd (c.in_err-cap.ensures.only w.cap _ p.of_cap.some p.of_cap.few s2.2)

pub returns-in_err-turns-clause-only : goal.returns-in_err-turns-clause-only
returns-in_err-turns-clause-only c w p =
    let s0 = c.in_ok-words.ensures.only _ p.spelled in
    let s1 = c.in_ok-me.ensures.only w.me _ (omega arith) (few_replicas w.kind w.size w.me p.of_me p.of_group) s0 in
    let s2 = c.in_ok-kind.ensures.only w.kind w.size _ p.of_group s1.1 in
    let s3 = c.in_ok-cap.ensures.only w.cap _ p.of_cap.some p.of_cap.few s2.2 in
    absurd (c.in_err-turns.ensures.only w.turns _ p.of_turns.some (omega (arith, p.of_turns.fits)) s3.1)

pub returns-in_err-patience-clause-only : goal.returns-in_err-patience-clause-only
returns-in_err-patience-clause-only c w p =
    let s0 = c.in_ok-words.ensures.only _ p.spelled in
    let s1 = c.in_ok-me.ensures.only w.me _ (omega arith) (few_replicas w.kind w.size w.me p.of_me p.of_group) s0 in
    let s2 = c.in_ok-kind.ensures.only w.kind w.size _ p.of_group s1.1 in
    let s3 = c.in_ok-cap.ensures.only w.cap _ p.of_cap.some p.of_cap.few s2.2 in
    let s4 = c.in_ok-turns.ensures.only w.turns _ p.of_turns.some (omega (arith, p.of_turns.fits)) s3.1 in
    absurd (c.in_err-patience.ensures.only w.patience _ (omega arith) (omega (arith, p.of_patience)) s4.1)

pub returns-clause-only : goal.returns-clause-only
returns-clause-only c w p =
    let s0 = c.in_ok-words.ensures.only _ p.spelled in
    let s1 = c.in_ok-me.ensures.only w.me _ (omega arith) (few_replicas w.kind w.size w.me p.of_me p.of_group) s0 in
    let s2 = c.in_ok-kind.ensures.only w.kind w.size _ p.of_group s1.1 in
    let s3 = c.in_ok-cap.ensures.only w.cap _ p.of_cap.some p.of_cap.few s2.2 in
    let s4 = c.in_ok-turns.ensures.only w.turns _ p.of_turns.some (omega (arith, p.of_turns.fits)) s3.1 in
    let s5 = c.in_ok-patience.ensures.only w.patience _ (omega arith) (omega (arith, p.of_patience)) s4.1 in
    rw (s1.0, s2.0, s2.1, s3.0, s4.0, s5.0)

pub returns-then-me-size-clause-only : goal.returns-then-me-size-clause-only
returns-then-me-size-clause-only c w p =
    let s0 = c.in_ok-words.ensures.only _ p.spelled in
    let s1 = c.in_ok-me.ensures.only w.me _ (omega arith) (few_replicas w.kind w.size w.me p.of_me p.of_group) s0 in
    let s2 = c.in_ok-kind.ensures.only w.kind w.size _ p.of_group s1.1 in
    absurd (omega (arith, s1.0, s2.1, p.of_me))
