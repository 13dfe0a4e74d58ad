use Rattle.std.proofs.Common.{◌≡◌, ℕ, List, ap, subst, ◌∙◌}
use Rattle.hm_shared.specs.declared.journal.Record.{Record}
use Rattle.hm_shared.specs.BookState.{BookState}
use Rattle.hm_shared.specs.RecordText.{records_text}
use Rattle.hm_shared.specs.JournalText.{journal_text}
use Rattle.hm_shared.specs.Written.{PutsPieces}
use Rattle.hm_shared.proofs.HistoryLaws.{text_is}
use Rattle.hm_shared.proofs.book.Book.write_journal.Goals as goal

pub returns : goal.returns
returns g c = λ setup history h.
    let records : c.deref.result.now ≡ c.args.self.now.records = c.deref.ensures.value ∙ ap (λ (b : BookState). b.records) c.self.view_is in
    let text : records_text c.deref.result.now ≡ journal_text history = ap (λ (l : List Record). records_text l) records ∙ text_is setup history c.args.self.now.records h.legal h.journal in
    subst (λ (l : List ℕ). PutsPieces c.put_journal.result l (g.K.Sink.held c.args.sink.now) (g.K.Sink.held c.put_journal.new.sink) (g.K.Sink.faults c.args.sink.now) (g.K.Sink.faults c.put_journal.new.sink)) text c.put_journal.ensures
