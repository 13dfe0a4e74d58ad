-- What a worker of a switch takes, what turns the switch makes of it, and what the worker sends.
use Rattle.std.specs.Prelude.{◌≡◌, ℕ, ◌+◌, ◌<◌, ◌≤◌, ◌⊎◌, List, [], ◌∷◌, ◌++◌, length, map, Option, Result, Ok, Err}
use Rattle.std.specs.List.{AllByRecursion}
use Rattle.hm_frame.specs.Links.{Loses, Gets, IsDry}
use Rattle.hm_frame.specs.declared.datagram.Item.{Item}
use Rattle.hm_frame.specs.declared.datagram.Posted.{Posted}
use Rattle.hm_outside.specs.Faults.{one_more}
use Rattle.hm_packet.specs.declared.turn.Turn.{Turn}
use Rattle.hm_packet.specs.declared.turn.Turn.TheVariants as turn
use Rattle.hm_packet.specs.Messages.{Message}
use Rattle.hm_shared.specs.BookState.{BookState}
use Rattle.hm_shared.specs.Books.{Holds}
use Rattle.hm_shared.specs.History.{SwitchSetup, SwitchTurn, IsLegalHistory}
use Rattle.hm_worker.specs.Heard.{Heard}
use Rattle.hm_worker.specs.Posts.{posts_of, AreHeard}
use Rattle.hm_worker.specs.declared.worker_end.WorkerEnd.{WorkerEnd}
use Rattle.hm_worker.specs.declared.worker_end.WorkerEnd.TheVariants as end

-- the packets among what was heard
abbrev pub packets_in : List Heard → List Message
packets_in [] = []
packets_in (Heard.Packet m ∷ others) = m ∷ packets_in others
packets_in (Heard.Malformed ∷ others) = packets_in others
packets_in (Heard.Quiet ∷ others) = packets_in others

-- the packets of turns
abbrev pub packets_of : List SwitchTurn → List Message
packets_of ts = map (λ (t : SwitchTurn). t.packet) ts

-- what the switch sent by a turn
abbrev pub sent_by : Turn → List Message
sent_by (turn.Sent m) = m ∷ []
sent_by turn.Noted = []
sent_by (turn.Ignored why) = []
sent_by turn.Full = []
sent_by turn.Spent = []

-- what the switch sent by turns, in order
abbrev pub sent_in : List SwitchTurn → List Message
sent_in [] = []
sent_in (t ∷ ts) = sent_by t.answer ++ sent_in ts

-- a worker at work: its counts, what its link tells, and the link's count of faults
pub record Work : Type 0 where
  pub took : ℕ
  pub sent : ℕ
  pub came : Option (List Item)
  pub posted : Option (List Posted)
  pub faults : ℕ

-- From the start on so many items were taken. The packets among them are those of the turns, all of seat 0, and of these `over`, which
-- were no turn; and the packets `out` were sent.
pub record HasWorked (setup : SwitchSetup) (start now : Work) (turns : List SwitchTurn) (over out : List Message) (count : ℕ) : Type 0 where
  pub legal : IsLegalHistory setup turns
  pub seats : AllByRecursion (λ (t : SwitchTurn). t.seat ≡ 0) turns
  pub items : List Item
  pub heard : List Heard
  pub are_heard : AreHeard items heard
  pub counted : length items ≡ count
  pub taken : Loses start.came now.came items
  pub packets : packets_in heard ≡ packets_of turns ++ over
  pub posted : Gets start.posted now.posted (posts_of out)
  pub took : now.took ≡ length turns
  pub sent : now.sent ≡ length out

-- each packet that came was a turn, and what the switch sent went out
pub record HasTurned (setup : SwitchSetup) (start now : Work) (turns : List SwitchTurn) (count : ℕ) : Type 0 where
  pub worked : HasWorked setup start now turns [] (sent_in turns) count
  pub sound : now.faults ≡ start.faults

-- a take failed
pub record HasNotTaken (setup : SwitchSetup) (start now : Work) (turns : List SwitchTurn) (count : ℕ) : Type 0 where
  pub worked : HasWorked setup start now turns [] (sent_in turns) count
  pub failed : now.faults ≡ one_more start.faults

-- the packet of the last turn couldn't be sent
pub record HasNotSent (setup : SwitchSetup) (start now : Work) (turns : List SwitchTurn) (count : ℕ) : Type 0 where
  pub earlier : List SwitchTurn
  pub last : SwitchTurn
  pub packet : Message
  pub last_is : turns ≡ earlier ++ last ∷ []
  pub sends : last.answer ≡ turn.Sent packet
  pub worked : HasWorked setup start now turns [] (sent_in earlier) count
  pub failed : now.faults ≡ one_more start.faults

-- the last packet found the switch spent
pub record HasSpent (setup : SwitchSetup) (start now : Work) (turns : List SwitchTurn) (count : ℕ) : Type 0 where
  pub last : Message
  pub whole : length turns ≡ setup.life
  pub worked : HasWorked setup start now turns (last ∷ []) (sent_in turns) count
  pub sound : now.faults ≡ start.faults

-- how a worker ends that takes at most so often
abbrev pub Ends : WorkerEnd → SwitchSetup → Work → Work → List SwitchTurn → ℕ → Type 0
Ends end.Ended setup start now turns most = IsDry now.came × (count : ℕ) × (count < most) × HasTurned setup start now turns count
Ends end.TurnsSpent setup start now turns most = HasTurned setup start now turns most
Ends end.SwitchSpent setup start now turns most = (count : ℕ) × (count ≤ most) × HasSpent setup start now turns count
Ends end.LinkFault setup start now turns most =
    ((count : ℕ) × (count < most) × HasNotTaken setup start now turns count) ⊎ ((count : ℕ) × (count ≤ most) × HasNotSent setup start now turns count)

-- ---- one take

-- what one take more leads to, with the book afterwards
abbrev pub Goes : {T : Type 0} → Result T WorkerEnd → BookState → SwitchSetup → Work → Work → ℕ → Type 0
Goes (Ok done) book setup start now count = (turns : List SwitchTurn) × Holds book setup turns × HasTurned setup start now turns (count + 1)
Goes (Err end.Ended) book setup start now count = (turns : List SwitchTurn) × Holds book setup turns × IsDry now.came × HasTurned setup start now turns count
Goes (Err end.TurnsSpent) book setup start now count = ⊥
Goes (Err end.SwitchSpent) book setup start now count = (turns : List SwitchTurn) × Holds book setup turns × HasSpent setup start now turns (count + 1)
Goes (Err end.LinkFault) book setup start now count =
    (turns : List SwitchTurn) × Holds book setup turns × (HasNotTaken setup start now turns count ⊎ HasNotSent setup start now turns (count + 1))
