use Rattle.hm_frame.proofs.LinkCalls.{loses_none, loses_both, loses_kept, gets_none, gets_both, gets_kept}
use Rattle.hm_frame.proofs.link_law.link_calls_add_up.Goals as goal

pub returns : goal.returns
returns c = record { takes_none = loses_none; takes_both = loses_both; takes_kept = loses_kept; sends_none = gets_none; sends_both = gets_both; sends_kept = gets_kept }
