use Rattle.hm_packet.proofs.words.write_start_view_change.Goals as goal

-- src/words.rt:149:1
pub returns-clause-ok : goal.returns-clause-ok
returns-clause-ok c = rw (← c.from.ensures) c.push_kind.ensures.ok
