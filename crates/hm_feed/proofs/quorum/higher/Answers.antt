use Rattle.std.proofs.Common.{ℕ, ◌+◌, ◌-◌, List, ap, length, arith}
use Rattle.std.specs.Prelude.{slice_index}
use Rattle.hm_feed.specs.Sending.{Sending, others_acked}
use Rattle.hm_feed.proofs.Quorums.{votes_counted, votes_most, votes_within, votes_behind, one_more, no_more}
use Rattle.hm_feed.proofs.Reached.{held_below, held_reaches}
use Rattle.hm_feed.proofs.quorum.higher.Goals as goal

pub returns-then-i-wanted-clause-none : goal.returns-then-i-wanted-clause-none
returns-then-i-wanted-clause-none c =
    let s : Sending = c.args.sender.now in
    let members : List ℕ = c.args.members.now in
    let all = votes_counted s c.args.me (c.args.floor + 1) members in
    let few = votes_most s c.args.me (c.args.floor + 1) members in
    let long = ap (λ (l : List ℕ). length l) c.as_slice-list.ensures.same in
    held_below c.args.k c.args.floor (others_acked s c.args.me members) (omega (arith, all, few, long))

pub bounds-list-i : goal.bounds-list-i
bounds-list-i c = omega (arith, ap (λ (l : List ℕ). length l) c.as_slice-list.ensures.same, c.loop-least.invariant.within, c.loop-least.invariant.some, c.loop-least.invariant.left)

pub returns-then-wanted-eq0-clause-held : goal.returns-then-wanted-eq0-clause-held
returns-then-wanted-eq0-clause-held c =
    let s : Sending = c.args.sender.now in
    let members : List ℕ = c.args.members.now in
    let i : ℕ = c.loop-least.i in
    let least : ℕ = c.min-least.result in
    let known = c.loop-least.invariant in
    let is = ap (λ (l : List ℕ). slice_index l (i - 1)) c.as_slice-list.ensures.same in
    let more = one_more s c.args.me c.args.floor c.loop-least.least c.acked-len.result least members i _ (omega (arith, known.some, known.left)) known.within is c.if-member-me.true c.acked-len.ensures c.if-floor-len.true c.min-least.ensures known.reached in
    let all = votes_counted s c.args.me least members in
    let some = votes_behind s c.args.me least members (i - 1) in
    held_reaches c.args.k least (others_acked s c.args.me members) (omega (arith, all, some, more.0, more.1, known.counted, known.some, c.if-wanted-eq0.true))

pub loop-least-preserved-then-floor-len : goal.loop-least-preserved-then-floor-len
loop-least-preserved-then-floor-len c =
    let i : ℕ = c.loop-least.i in
    let known = c.loop-least.invariant in
    let is = ap (λ (l : List ℕ). slice_index l (i - 1)) c.as_slice-list.ensures.same in
    let more = one_more c.args.sender.now c.args.me c.args.floor c.loop-least.least c.acked-len.result c.min-least.result c.args.members.now i _ (omega (arith, known.some, known.left)) known.within is c.if-member-me.true c.acked-len.ensures c.if-floor-len.true c.min-least.ensures known.reached in
    record {
      some = omega (arith, known.some, c.if-wanted-eq0.false);
      left = omega (arith, known.left, known.some);
      within = omega (arith, known.within);
      counted = omega (arith, known.counted, known.some, more.0);
      reached = more.1;
      above = λ room. omega (arith, known.above room, c.min-least.ensures, c.if-floor-len.true);
    }

pub returns-then-i-wanted-2-clause-none : goal.returns-then-i-wanted-2-clause-none
returns-then-i-wanted-2-clause-none c =
    let s : Sending = c.args.sender.now in
    let members : List ℕ = c.args.members.now in
    let i : ℕ = c.loop-least.i in
    let known = c.loop-least.invariant in
    let is = ap (λ (l : List ℕ). slice_index l (i - 1)) c.as_slice-list.ensures.same in
    let same = no_more s c.args.me c.args.floor c.loop-least.least c.acked-len.result members i _ (omega (arith, known.some, known.left)) known.within is c.else-member-me.either c.acked-len.ensures known.reached in
    let all = votes_counted s c.args.me (c.args.floor + 1) members in
    let few = votes_within s c.args.me (c.args.floor + 1) members (i - 1) (omega (arith, known.within)) in
    held_below c.args.k c.args.floor (others_acked s c.args.me members) (omega (arith, all, few, same.0, known.counted, c.if-i-wanted-2.true))

pub loop-least-preserved : goal.loop-least-preserved
loop-least-preserved c =
    let i : ℕ = c.loop-least.i in
    let known = c.loop-least.invariant in
    let is = ap (λ (l : List ℕ). slice_index l (i - 1)) c.as_slice-list.ensures.same in
    let same = no_more c.args.sender.now c.args.me c.args.floor c.loop-least.least c.acked-len.result c.args.members.now i _ (omega (arith, known.some, known.left)) known.within is c.else-member-me.either c.acked-len.ensures known.reached in
    record {
      some = known.some;
      left = omega (arith, c.if-i-wanted-2.false);
      within = omega (arith, known.within);
      counted = omega (arith, known.counted, same.0);
      reached = same.1;
      above = known.above;
    }
