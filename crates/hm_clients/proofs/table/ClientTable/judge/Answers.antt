use Rattle.std.proofs.Common.{Option, ap, ◌∙◌}
use Rattle.hm_base.specs.declared.verdict.LatestRequest.{LatestRequest}
use Rattle.hm_base.specs.Verdicts.{judged}
use Rattle.hm_clients.proofs.Noted.{latest_is_greatest}
use Rattle.hm_clients.proofs.table.ClientTable.judge.Goals as goal

pub returns-in-None : goal.returns-in-None
returns-in-None c log h = ap (λ (k : Option LatestRequest). judged k c.args.request) (c.in-None.ensures ∙ latest_is_greatest c.args.self.now log h c.args.client)

pub returns-in-Some : goal.returns-in-Some
returns-in-Some c log h = c.judge_latest.ensures ∙ ap (λ (k : Option LatestRequest). judged k c.args.request) (c.in-Some.ensures ∙ latest_is_greatest c.args.self.now log h c.args.client)
