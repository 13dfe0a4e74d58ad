use Rattle.hm_wire_text.proofs.PageWords.{feed_from_entries, no_feed}
use Rattle.hm_wire_text.proofs.words.feed_words.Goals as goal

pub returns-in_ok-push_feed_head-in-Ok-clause-words : goal.returns-in_ok-push_feed_head-in-Ok-clause-words
returns-in_ok-push_feed_head-in-Ok-clause-words c =
    rw (feed_from_entries c.args.out.now.items c.push_feed_head.new.out.items c.args.bytes.now c.in-Ok.rest.now c.in-Ok.fields c.in-Ok.ensures c.in_ok-push_feed_head-in-Ok.ensures.ok) at c.entries_words.ensures.words

pub returns-in-Err-clause-words : goal.returns-in-Err-clause-words
returns-in-Err-clause-words c = no_feed c.args.out.now.items c.args.bytes.now c.in-Err.fault c.in-Err.ensures
