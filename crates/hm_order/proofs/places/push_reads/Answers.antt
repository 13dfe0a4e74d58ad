use Rattle.std.proofs.Common.{◌≡◌, ◌+◌, ℕ, get_or, sym, subst, arith}
use Rattle.std.proofs.lemmas.List.{get_or_read}
use Rattle.hm_order.specs.Order.{reads_after}
use Rattle.hm_order.specs.Places.{Leads}
use Rattle.hm_order.proofs.Chains.{follows_none, follows_more, follows_all}
use Rattle.hm_order.proofs.places.push_reads.Goals as goal

pub loop-init : goal.loop-init
loop-init c =
    let h = c.args.marks.now in
    let b = c.args.behind.now in
    let is : c.index-read.result.now ≡ get_or b.heads.items c.args.i 0 = get_or_read b.heads.items _ _ (omega (arith, c.requires.behind.heads, c.requires.within)) c.index-read.ensures 0 in
    follows_none h b.nexts.items _ _ _ (subst (λ (k : ℕ). Leads h b.nexts.items 0 k (reads_after h (c.args.i + 1))) (sym is) (c.requires.behind.reads c.args.i c.requires.within))

pub loop-preserved : goal.loop-preserved
loop-preserved c =
    let b = c.args.behind.now in
    let is : c.index-read-in-loop.result.now ≡ get_or b.nexts.items c.loop.read 0 = get_or_read b.nexts.items _ _ (omega (arith, c.requires.behind.nexts, c.if-read-marks.false)) c.index-read-in-loop.ensures 0 in
    follows_more c.args.marks.now b.nexts.items c.loop.counter c.loop.read _ _ _ _ _ (omega arith) is (λ op want at. c.in_ok-push_invoked.ensures op want at) c.loop.invariant

pub returns-after-loop : goal.returns-after-loop
returns-after-loop c = follows_all c.args.marks.now c.args.behind.now.nexts.items c.loop.counter c.loop.read _ _ _ (λ below. omega arith) c.loop.invariant

pub returns-then-read-marks : goal.returns-then-read-marks
returns-then-read-marks c = follows_all c.args.marks.now c.args.behind.now.nexts.items c.loop.counter c.loop.read _ _ _ (λ below. omega arith) c.loop.invariant
