use Rattle.hm_schedule.proofs.Words.{count_more, count_none}
use Rattle.hm_schedule.proofs.reason.+has_words.Goals as goal

pub returns-then-count-gt0 : goal.returns-then-count-gt0
returns-then-count-gt0 t c words are =
    let found = c.in-Some.ensures.some in
    count_more _ _ _ words c.args.count c.has_words.result found.0 found.1 found.2 c.if-count-gt0.true c.has_words.ensures are

pub returns-in-None : goal.returns-in-None
returns-in-None t c words are = count_none _ words c.args.count c.in-None.ensures.none are
