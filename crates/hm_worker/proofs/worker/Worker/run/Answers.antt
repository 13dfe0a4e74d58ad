use Rattle.hm_worker.proofs.worker.Worker.run.Goals as goal

pub returns : goal.returns
returns g c = λ setup holds.
    let done = c.work.ensures setup holds in
    (done.0, done.2, c.write_journal.ensures setup done.0 done.1)
