use Rattle.hm_worker.proofs.worker.Worker.work.Goals as goal

pub returns : goal.returns
returns g c = λ setup holds. c.take_turns-self.ensures setup holds
