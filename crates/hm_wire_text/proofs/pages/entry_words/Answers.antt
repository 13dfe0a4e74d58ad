use Rattle.hm_wire_text.proofs.PageWords.{entry_from_act, no_entry}
use Rattle.hm_wire_text.proofs.pages.entry_words.Goals as goal

pub returns-in_ok-push_entry_head-in-Ok-clause-words : goal.returns-in_ok-push_entry_head-in-Ok-clause-words
returns-in_ok-push_entry_head-in-Ok-clause-words c =
    rw (entry_from_act c.args.out.now.items c.push_entry_head.new.out.items c.args.bytes.now c.in-Ok.rest.now c.in-Ok.head c.in-Ok.ensures c.in_ok-push_entry_head-in-Ok.ensures.ok) at c.act_words.ensures.words

pub returns-in-Err-clause-words : goal.returns-in-Err-clause-words
returns-in-Err-clause-words c = no_entry c.args.out.now.items c.args.bytes.now c.in-Err.fault c.in-Err.ensures
