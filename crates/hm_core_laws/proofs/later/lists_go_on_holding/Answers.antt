use Rattle.hm_base.proofs.ListLaws.{All-prefix}
use Rattle.hm_core_laws.specs.Sourced.{IsSourced}
use Rattle.hm_core_laws.proofs.Sources.{all_sourced_later}
use Rattle.hm_core_laws.proofs.later.lists_go_on_holding.Goals as goal

pub returns-clause-sources : goal.returns-clause-sources
returns-clause-sources c = λ h h' net net' log f q all. all_sourced_later log f q all

pub returns-clause-later : goal.returns-clause-later
returns-clause-later c = λ h h' net net' log f q list. record { sourced = all_sourced_later log f q list.sourced; tidy = list.tidy }

pub returns-clause-front : goal.returns-clause-front
returns-clause-front c = λ h net front whole p list. record { sourced = All-prefix (IsSourced h net) p list.sourced; tidy = c.prefix_is_tidy.ensures front whole p list.tidy }
