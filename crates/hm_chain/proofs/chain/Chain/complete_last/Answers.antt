use Rattle.std.proofs.Common.{ℕ, ◌-◌, length, Option, ap, ◌∙◌}
use Rattle.std.specs.Prelude.{slice_get}
use Rattle.hm_base.specs.declared.entry.Entry.{Entry}
use Rattle.hm_store.specs.Log.{Log}
use Rattle.hm_rules.specs.Replica.{Replica}
use Rattle.hm_rules.specs.ReplicaSteps.{sends, done_if_any}
use Rattle.hm_chain.proofs.Lasts.{last_is}
use Rattle.hm_chain.proofs.chain.Chain.complete_last.Goals as goal

pub returns : goal.returns
returns c =
    let r : Replica = c.args.self.now in
    let len = c.len.ensures.len ∙ ap (λ (l : Log). length l.entries) c.log.ensures ∙ ap (λ (q : Replica). length q.log) c.self.view_is in
    let place = c.saturating_sub.ensures ∙ ap (λ (n : ℕ). n - 1) len in
    c.complete.ensures ∙ ap (λ (o : Option Entry). sends r (done_if_any r o)) (ap (λ (n : ℕ). slice_get r.log n) place ∙ last_is r.log)
