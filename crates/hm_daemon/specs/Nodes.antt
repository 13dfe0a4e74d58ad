-- How a switch's daemon ends, and what its worker took and sent and what was put by then.
use Rattle.std.specs.Prelude.{◌≡◌, ℕ, ◌⊎◌, List, [], ◌∷◌}
use Rattle.std.specs.Io.KnownBytes.{Appends}
use Rattle.hm_base.specs.Lists.{IsPrefix}
use Rattle.hm_outside.specs.Puts.{PutsFront}
use Rattle.hm_rules.specs.Service.{served, service_route}
use Rattle.hm_shared.specs.History.{SwitchSetup, SwitchTurn}
use Rattle.hm_shared.specs.JournalText.{journal_text}
use Rattle.hm_worker.specs.Working.{Work, Ends}
use Rattle.hm_worker.specs.declared.worker_end.WorkerEnd.{WorkerEnd}
use Rattle.hm_worker.specs.declared.worker_end.WorkerEnd.TheVariants as end
use Rattle.hm_daemon.specs.Asks.{Putting, IsUnput}
use Rattle.hm_daemon.specs.Words.{IsSwitchWords}
use Rattle.hm_daemon.specs.declared.status.NodeStatus.{NodeStatus}
use Rattle.hm_daemon.specs.declared.status.NodeStatus.TheVariants as status
use Rattle.hm_daemon.specs.declared.words.SwitchWords.{SwitchWords}

-- the words of a switch with one worker, and as many workers at hand
pub record IsNodeWords (words : List (List ℕ)) (workers : ℕ) (w : SwitchWords) : Type 0 where
  pub of_words : IsSwitchWords words w
  pub one : w.workers ≡ 1
  pub there : workers ≡ w.workers

-- this holds of the one element of each list
abbrev pub OfOne : {A : Type 0} → (A → A → Type 0) → List A → List A → Type 0
OfOne P (old ∷ []) (new ∷ []) = P old new
OfOne P olds news = ⊥

-- with what the switch of these words is opened
abbrev pub setup_of : SwitchWords → SwitchSetup
setup_of w = record { id = w.id; stages = w.stages; bits = w.bits; life = w.life; route = service_route (served w.kind w.size) }

-- a worker: how it ended, its counts, and what its link tells
pub record Standing : Type 0 where
  pub ended : WorkerEnd
  pub work : Work

-- with both counts at 0
abbrev pub afresh : Work → Work
afresh work = record work { took = 0; sent = 0 }

abbrev pub status_of : WorkerEnd → NodeStatus
status_of end.Ended = status.Done
status_of end.TurnsSpent = status.TurnsSpent
status_of end.SwitchSpent = status.SwitchSpent
status_of end.LinkFault = status.LinkFault

-- the worker worked from a new switch on, and made these turns
abbrev pub Works : SwitchWords → Standing → Standing → List SwitchTurn → Type 0
Works w old new turns = Ends new.ended (setup_of w) (afresh old.work) new.work turns w.turns

-- the journal of the turns was put
pub record PutsJournal (w : SwitchWords) (old new : Standing) (k : Putting) : Type 0 where
  pub turns : List SwitchTurn
  pub works : Works w old new turns
  pub written : Appends k.held k.put (journal_text turns)
  pub sound : k.after ≡ k.before

-- the sink failed: a front of the journal was put
pub record FailsJournal (w : SwitchWords) (old new : Standing) (k : Putting) : Type 0 where
  pub turns : List SwitchTurn
  pub works : Works w old new turns
  pub failed : PutsFront (journal_text turns) k.held k.put k.before k.after

-- memory for the text was wanting: a front of the journal was put
pub record CutsJournal (w : SwitchWords) (old new : Standing) (k : Putting) : Type 0 where
  pub turns : List SwitchTurn
  pub works : Works w old new turns
  pub front : List ℕ
  pub is_front : IsPrefix front (journal_text turns)
  pub written : Appends k.held k.put front
  pub sound : k.after ≡ k.before

-- the worker is as before, and nothing was put
pub record IsIdleNode (old new : Standing) (k : Putting) : Type 0 where
  pub same : new ≡ old
  pub unput : IsUnput k

abbrev pub Runs : NodeStatus → SwitchWords → Standing → Standing → Putting → Type 0
Runs status.WriteFault w old new k = FailsJournal w old new k
Runs status.NoMemory w old new k = IsIdleNode old new k ⊎ CutsJournal w old new k
Runs other w old new k = (other ≡ status_of new.ended) × PutsJournal w old new k
