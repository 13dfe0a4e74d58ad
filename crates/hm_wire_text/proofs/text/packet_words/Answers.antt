use Rattle.hm_wire_text.proofs.Told.{told_whole, told_rest, told_fault, told_headless}
use Rattle.hm_wire_text.proofs.text.packet_words.Goals as goal

pub returns-in-Ok-empty-clause-text : goal.returns-in-Ok-empty-clause-text
returns-in-Ok-empty-clause-text c =
    told_whole c.args.out.now.items _ _ _ _ c.in-Ok.ensures.given c.in_ok-write_ends-in-Ok.ensures.ok _ c.in-Ok-empty.field-0.now (rw c.in-Ok-empty.is at c.in_ok-body_words-in-Ok.ensures.words) c.in-Ok-empty.len_below

pub returns-in-Ok-2-clause-text : goal.returns-in-Ok-2-clause-text
returns-in-Ok-2-clause-text c =
    told_rest c.args.out.now.items _ _ _ _ c.in-Ok.ensures.given c.in_ok-write_ends-in-Ok.ensures.ok _ c.in-Ok-2.rest.now (rw c.in-Ok-2.is at c.in_ok-body_words-in-Ok.ensures.words) c.in-Ok-2.len_at_least

pub returns-in-Err-2-clause-text : goal.returns-in-Err-2-clause-text
returns-in-Err-2-clause-text c =
    told_fault c.args.out.now.items _ _ _ _ c.in-Ok.ensures.given c.in_ok-write_ends-in-Ok.ensures.ok _ (rw c.in-Err-2.is at c.in_ok-body_words-in-Ok.ensures.words)

pub returns-in-Err-clause-text : goal.returns-in-Err-clause-text
returns-in-Err-clause-text c = told_headless c.args.out.now.items _ _ c.in-Err.ensures.given
