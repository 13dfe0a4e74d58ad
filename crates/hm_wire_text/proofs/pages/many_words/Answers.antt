use Rattle.std.proofs.Common.{sym}
use Rattle.hm_base.proofs.ListLaws.{begins_sooner}
use Rattle.hm_wire_text.proofs.PageWords.{words_go_on, words_stop, words_done}
use Rattle.hm_wire_text.proofs.pages.many_words.Goals as goal

pub returns-in-Err-clause-words : goal.returns-in-Err-clause-words
returns-in-Err-clause-words c =
    words_stop c.in-Err.fault c.loop.out.items c.loop.rest.now c.args.count c.loop.counter _ c.loop-test.true (rw c.in-Err.is at c.in_ok-after.ensures.words) c.loop.invariant.so_far

pub loop-preserved : goal.loop-preserved
loop-preserved c = record {
  so_far = words_go_on c.loop.out.items c.entry_words.new.out.items c.loop.rest.now c.in-Ok.after.now c.args.count c.loop.counter _ c.loop-test.true (rw c.in-Ok.is at c.in_ok-after.ensures.words) c.loop.invariant.so_far;
  front = begins_sooner c.args.out.now.items c.loop.invariant.front.rest c.loop.out.items c.entry_words.new.out.items (sym c.loop.invariant.front.parts) c.in_ok-after.ensures.front;
}

pub returns-clause-words : goal.returns-clause-words
returns-clause-words c = words_done c.loop.out.items c.loop.rest.now c.args.count c.loop.counter _ c.loop-test.false c.loop.invariant.so_far
