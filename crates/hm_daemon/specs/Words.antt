-- The words that the daemons are started with.
use Rattle.std.specs.Prelude.{◌≡◌, ℕ, ◌^◌, ◌<◌, ◌≤◌, List, ◌∷◌, All, codes, decimal}
use Rattle.hm_base.specs.Spellings.{value_text}
use Rattle.hm_base.specs.declared.node.Node.{Node}
use Rattle.hm_base.specs.declared.node.Node.TheVariants as node
use Rattle.hm_order.specs.declared.mark.Want.{Want}
use Rattle.hm_order.specs.declared.mark.Want.TheVariants as want
use Rattle.hm_schedule.specs.Names.{kind_text}
use Rattle.hm_schedule.specs.Ranges.{IsCapacity, IsSwitch, IsTable, IsValue}
use Rattle.hm_schedule.specs.Schedules.{IsLawfulGroup}
use Rattle.hm_daemon.specs.Addresses.{IsAddress}
use Rattle.hm_daemon.specs.declared.words.TheConstants.{MAX_WORKERS, MAX_JOURNAL}
use Rattle.hm_daemon.specs.declared.words.SwitchWords.{SwitchWords}
use Rattle.hm_daemon.specs.declared.words.ReplicaWords.{ReplicaWords}
use Rattle.hm_daemon.specs.declared.words.ConfigWords.{ConfigWords}
use Rattle.hm_daemon.specs.declared.words.ClientWords.{ClientWords}

-- how often a daemon takes, or how many orders it takes
pub record AreTurns (turns : ℕ) : Type 0 where
  pub some : 1 ≤ turns
  pub fits : turns < 2 ^ 64

-- `switch ID WORKERS STAGES BITS LIFE TURNS KIND SIZE ADDR ..`
pub record IsSwitchWords (words : List (List ℕ)) (w : SwitchWords) : Type 0 where
  pub addresses : List (List ℕ)
  pub spelled :
      words ≡ codes "switch" ∷ decimal w.id ∷ decimal w.workers ∷ decimal w.stages ∷ decimal w.bits ∷ decimal w.life ∷ decimal w.turns ∷ kind_text w.kind
      ∷ decimal w.size ∷ addresses
  pub of_id : IsSwitch w.id
  pub some_workers : 1 ≤ w.workers
  pub few_workers : w.workers ≤ MAX_WORKERS
  pub of_table : IsTable w.stages w.bits
  pub some_life : 1 ≤ w.life
  pub short_life : w.life ≤ MAX_JOURNAL
  pub of_turns : AreTurns w.turns
  pub of_group : IsLawfulGroup w.kind w.size
  pub of_addresses : All IsAddress addresses

-- `replica R KIND SIZE CAP TURNS PATIENCE ADDR ..`
pub record IsReplicaWords (words : List (List ℕ)) (w : ReplicaWords) : Type 0 where
  pub addresses : List (List ℕ)
  pub spelled :
      words ≡ codes "replica" ∷ decimal w.me ∷ kind_text w.kind ∷ decimal w.size ∷ decimal w.cap ∷ decimal w.turns ∷ decimal w.patience ∷ addresses
  pub of_me : w.me < w.size
  pub of_group : IsLawfulGroup w.kind w.size
  pub of_cap : IsCapacity w.cap
  pub of_turns : AreTurns w.turns
  pub of_patience : w.patience < 2 ^ 64
  pub of_addresses : All IsAddress addresses

-- `config KIND SIZE TURNS ADDR ..`
pub record IsConfigWords (words : List (List ℕ)) (w : ConfigWords) : Type 0 where
  pub addresses : List (List ℕ)
  pub spelled : words ≡ codes "config" ∷ kind_text w.kind ∷ decimal w.size ∷ decimal w.turns ∷ addresses
  pub of_group : IsLawfulGroup w.kind w.size
  pub of_turns : AreTurns w.turns
  pub of_addresses : All IsAddress addresses

-- what a client wants of an object: `read`, or the value to write
abbrev pub want_text : Want → List ℕ
want_text (want.Read object) = codes "read"
want_text (want.Write object value) = value_text value

abbrev pub object_of : Want → ℕ
object_of (want.Read object) = object
object_of (want.Write object value) = object

abbrev pub IsWant : Want → Type 0
IsWant (want.Read object) = object < 2 ^ 32
IsWant (want.Write object value) = (object < 2 ^ 32) × IsValue value

-- `client C REQUEST SWITCH TURNS OBJECT WHAT ADDR ..`
pub record IsClientWords (words : List (List ℕ)) (w : ClientWords) : Type 0 where
  pub addresses : List (List ℕ)
  pub spelled :
      words ≡ codes "client" ∷ decimal w.op.client ∷ decimal w.op.request ∷ decimal w.switch ∷ decimal w.turns ∷ decimal (object_of w.want) ∷ want_text w.want
      ∷ addresses
  pub of_client : w.op.client < 2 ^ 32
  pub some_request : 1 ≤ w.op.request
  pub of_request : w.op.request < 2 ^ 64
  pub of_switch : IsSwitch w.switch
  pub of_turns : AreTurns w.turns
  pub of_want : IsWant w.want
  pub of_addresses : All IsAddress addresses

-- whether words start this node
abbrev pub Starts : List (List ℕ) → Node → Type 0
Starts words (node.Switch id) = (w : SwitchWords) × IsSwitchWords words w × (w.id ≡ id)
Starts words (node.Replica me) = (w : ReplicaWords) × IsReplicaWords words w × (w.me ≡ me)
Starts words node.Config = (w : ConfigWords) × IsConfigWords words w
Starts words (node.Client client) = (w : ClientWords) × IsClientWords words w × (w.op.client ≡ client)
