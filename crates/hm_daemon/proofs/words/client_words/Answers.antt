use Rattle.std.proofs.Common.{◌≡◌, arith, sym, ◌∙◌}
use Rattle.std.proofs.lemmas.Option.{same_Some}
use Rattle.hm_daemon.specs.Words.{object_of}
use Rattle.hm_daemon.proofs.WordTexts.{heads, small_object}
use Rattle.hm_daemon.proofs.words.client_words.Goals as goal

pub returns-in_err-request-clause-only : goal.returns-in_err-request-clause-only
returns-in_err-request-clause-only c w p =
    let s0 = c.in_ok-words.ensures.only _ p.spelled in
    let s1 = c.in_ok-client.ensures.only w.op.client _ (omega arith) (omega (arith, p.of_client)) s0 in
    absurd (c.in_err-request.ensures.only w.op.request _ p.some_request (omega (arith, p.of_request)) s1.1)

pub returns-in_err-switch-clause-only : goal.returns-in_err-switch-clause-only
returns-in_err-switch-clause-only c w p =
    let s0 = c.in_ok-words.ensures.only _ p.spelled in
    let s1 = c.in_ok-client.ensures.only w.op.client _ (omega arith) (omega (arith, p.of_client)) s0 in
    let s2 = c.in_ok-request.ensures.only w.op.request _ p.some_request (omega (arith, p.of_request)) s1.1 in
    absurd (c.in_err-switch.ensures.only w.switch _ p.of_switch.some (omega (arith, p.of_switch.fits)) s2.1)

pub returns-in_err-turns-clause-only : goal.returns-in_err-turns-clause-only
returns-in_err-turns-clause-only c w p =
    let s0 = c.in_ok-words.ensures.only _ p.spelled in
    let s1 = c.in_ok-client.ensures.only w.op.client _ (omega arith) (omega (arith, p.of_client)) s0 in
    let s2 = c.in_ok-request.ensures.only w.op.request _ p.some_request (omega (arith, p.of_request)) s1.1 in
    let s3 = c.in_ok-switch.ensures.only w.switch _ p.of_switch.some (omega (arith, p.of_switch.fits)) s2.1 in
    absurd (c.in_err-turns.ensures.only w.turns _ p.of_turns.some (omega (arith, p.of_turns.fits)) s3.1)

pub returns-in_err-object-clause-only : goal.returns-in_err-object-clause-only
returns-in_err-object-clause-only c w p =
    let s0 = c.in_ok-words.ensures.only _ p.spelled in
    let s1 = c.in_ok-client.ensures.only w.op.client _ (omega arith) (omega (arith, p.of_client)) s0 in
    let s2 = c.in_ok-request.ensures.only w.op.request _ p.some_request (omega (arith, p.of_request)) s1.1 in
    let s3 = c.in_ok-switch.ensures.only w.switch _ p.of_switch.some (omega (arith, p.of_switch.fits)) s2.1 in
    let s4 = c.in_ok-turns.ensures.only w.turns _ p.of_turns.some (omega (arith, p.of_turns.fits)) s3.1 in
    absurd (c.in_err-object.ensures.only (object_of w.want) _ (omega arith) (small_object w.want p.of_want) s4.1)

pub returns-clause-only : goal.returns-clause-only
returns-clause-only c w p =
    let s0 = c.in_ok-words.ensures.only _ p.spelled in
    let s1 = c.in_ok-client.ensures.only w.op.client _ (omega arith) (omega (arith, p.of_client)) s0 in
    let s2 = c.in_ok-request.ensures.only w.op.request _ p.some_request (omega (arith, p.of_request)) s1.1 in
    let s3 = c.in_ok-switch.ensures.only w.switch _ p.of_switch.some (omega (arith, p.of_switch.fits)) s2.1 in
    let s4 = c.in_ok-turns.ensures.only w.turns _ p.of_turns.some (omega (arith, p.of_turns.fits)) s3.1 in
    let s5 = c.in_ok-object.ensures.only (object_of w.want) _ (omega arith) (small_object w.want p.of_want) s4.1 in
    let front = heads _ _ _ _ (sym c.in_ok-word.ensures.some ∙ s5.1) in
    let s6 = c.in_ok-want.ensures.only w.want p.of_want (sym s5.0) front.0 in
    let s7 : c.in_ok-want.want ≡ w.want = same_Some _ _ s6 in
    rw (s1.0, s2.0, s3.0, s4.0, s7)

pub returns-in_err-want-clause-only : goal.returns-in_err-want-clause-only
returns-in_err-want-clause-only c w p =
    let s0 = c.in_ok-words.ensures.only _ p.spelled in
    let s1 = c.in_ok-client.ensures.only w.op.client _ (omega arith) (omega (arith, p.of_client)) s0 in
    let s2 = c.in_ok-request.ensures.only w.op.request _ p.some_request (omega (arith, p.of_request)) s1.1 in
    let s3 = c.in_ok-switch.ensures.only w.switch _ p.of_switch.some (omega (arith, p.of_switch.fits)) s2.1 in
    let s4 = c.in_ok-turns.ensures.only w.turns _ p.of_turns.some (omega (arith, p.of_turns.fits)) s3.1 in
    let s5 = c.in_ok-object.ensures.only (object_of w.want) _ (omega arith) (small_object w.want p.of_want) s4.1 in
    let front = heads _ _ _ _ (sym c.in_ok-word.ensures.some ∙ s5.1) in
    let s6 = c.in_err-want.ensures.only w.want p.of_want (sym s5.0) front.0 in
    cc
