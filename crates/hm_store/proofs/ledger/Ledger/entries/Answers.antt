use Rattle.std.proofs.Common.{◌-◌, List, take, drop, ap, ◌∙◌}
use Rattle.hm_base.specs.declared.entry.Entry.{Entry}
use Rattle.hm_store.specs.Log.{Log}
use Rattle.hm_store.proofs.Parts.{part_is}
use Rattle.hm_store.proofs.ledger.Ledger.entries.Goals as goal

pub returns : goal.returns
returns c =
    let from = c.args.from in
    let to = c.args.to in
    ap (λ (l : List Entry). take (to - from) (drop from l)) c.deref.ensures.value
    ∙ part_is c.self.inside.entries.items from to c.requires.rises
    ∙ ap (λ (l : Log). drop from (take to l.entries)) c.self.view_is
