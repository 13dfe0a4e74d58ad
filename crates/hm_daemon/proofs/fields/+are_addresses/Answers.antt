use Rattle.hm_daemon.proofs.WordTexts.{one_more_word, parts_of_words}
use Rattle.hm_daemon.proofs.fields.+are_addresses.Goals as goal

pub returns-then-is_address : goal.returns-then-is_address
returns-then-is_address t c = (
  λ met. one_more_word _ _ _ c.in-Some.ensures.some (c.is_address.ensures.0 c.if-is_address.true) (c.are_addresses.ensures.0 met),
  λ all. c.are_addresses.ensures.1 (parts_of_words _ _ _ c.in-Some.ensures.some all).1,
)
