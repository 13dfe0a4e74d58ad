-- The lines of a schedule, and their one spelling.
use Rattle.std.specs.Prelude.{◌≡◌, ℕ, ◌^◌, ◌%◌, ◌<◌, ◌≤◌, List, [], ◌∷◌, decimal}
use Rattle.hm_base.specs.Spellings.{joined, value_text}
use Rattle.hm_base.specs.declared.node.GroupKind.{GroupKind}
use Rattle.hm_base.specs.declared.node.GroupKind.TheVariants as kind
use Rattle.hm_schedule.specs.declared.event.Event.{Event}
use Rattle.hm_schedule.specs.declared.event.Event.TheVariants as event
use Rattle.hm_schedule.specs.Ranges.{IsSwitch, IsValue, IsTable, IsLife, IsCapacity}
use Rattle.hm_schedule.specs.Names.{keyword_text, kind_text}
use Rattle.hm_schedule.specs.declared.keyword.Keyword.{Keyword}
use Rattle.hm_schedule.specs.declared.keyword.Keyword.TheVariants as keyword
use Rattle.hm_schedule.specs.declared.line.Line.{Line}
use Rattle.hm_schedule.specs.declared.line.Line.TheVariants as line

abbrev pub event_keyword : Event → Keyword
event_keyword (event.Write client object value switch) = keyword.Write
event_keyword (event.Read client object switch) = keyword.Read
event_keyword (event.Resend client switch) = keyword.Resend
event_keyword (event.Deliver packet) = keyword.Deliver
event_keyword event.Next = keyword.Next
event_keyword event.Drop = keyword.Drop
event_keyword (event.Tick replica) = keyword.Tick
event_keyword (event.Stop replica) = keyword.Stop
event_keyword (event.Remove replica) = keyword.Remove
event_keyword (event.Timeout replica) = keyword.Timeout
event_keyword event.Retire = keyword.Retire
event_keyword event.Start = keyword.Start

abbrev pub event_fields : Event → List (List ℕ)
event_fields (event.Write client object value switch) = decimal client ∷ decimal object ∷ value_text value ∷ decimal switch ∷ []
event_fields (event.Read client object switch) = decimal client ∷ decimal object ∷ decimal switch ∷ []
event_fields (event.Resend client switch) = decimal client ∷ decimal switch ∷ []
event_fields (event.Deliver packet) = decimal packet ∷ []
event_fields event.Next = []
event_fields event.Drop = []
event_fields (event.Tick replica) = decimal replica ∷ []
event_fields (event.Stop replica) = decimal replica ∷ []
event_fields (event.Remove replica) = decimal replica ∷ []
event_fields (event.Timeout replica) = decimal replica ∷ []
event_fields event.Retire = []
event_fields event.Start = []

abbrev pub keyword_in : Line → Keyword
keyword_in (line.Group kind size) = keyword.Group
keyword_in (line.Table stages bits) = keyword.Table
keyword_in (line.Life life) = keyword.Life
keyword_in (line.Log cap) = keyword.Log
keyword_in (line.Event e) = event_keyword e

abbrev pub field_words : Line → List (List ℕ)
field_words (line.Group kind size) = kind_text kind ∷ decimal size ∷ []
field_words (line.Table stages bits) = decimal stages ∷ decimal bits ∷ []
field_words (line.Life life) = decimal life ∷ []
field_words (line.Log cap) = decimal cap ∷ []
field_words (line.Event e) = event_fields e

abbrev pub line_words : Line → List (List ℕ)
line_words l = keyword_text (keyword_in l) ∷ field_words l

-- a line's one spelling, without its end
abbrev pub line_text : Line → List ℕ
line_text l = joined (line_words l)

-- ---- the ranges of the fields

pub record IsWrite (client object : ℕ) (value : List ℕ) (switch : ℕ) : Type 0 where
  pub of_client : client < 2 ^ 32
  pub of_object : object < 2 ^ 32
  pub of_value : IsValue value
  pub of_switch : IsSwitch switch

pub record IsRead (client object switch : ℕ) : Type 0 where
  pub of_client : client < 2 ^ 32
  pub of_object : object < 2 ^ 32
  pub of_switch : IsSwitch switch

pub record IsResend (client switch : ℕ) : Type 0 where
  pub of_client : client < 2 ^ 32
  pub of_switch : IsSwitch switch

abbrev pub IsLawfulEvent : Event → Type 0
IsLawfulEvent (event.Write client object value switch) = IsWrite client object value switch
IsLawfulEvent (event.Read client object switch) = IsRead client object switch
IsLawfulEvent (event.Resend client switch) = IsResend client switch
IsLawfulEvent (event.Deliver packet) = packet < 2 ^ 32
IsLawfulEvent event.Next = Unit {0}
IsLawfulEvent event.Drop = Unit {0}
IsLawfulEvent (event.Tick replica) = replica ≤ 6
IsLawfulEvent (event.Stop replica) = replica ≤ 6
IsLawfulEvent (event.Remove replica) = replica ≤ 6
IsLawfulEvent (event.Timeout replica) = replica ≤ 6
IsLawfulEvent event.Retire = Unit {0}
IsLawfulEvent event.Start = Unit {0}

-- a group of one to seven; one of Viewstamped Replication has an odd size
abbrev pub IsLawfulGroup : GroupKind → ℕ → Type 0
IsLawfulGroup kind.Chain size = (1 ≤ size) × (size ≤ 7)
IsLawfulGroup kind.Primary size = (1 ≤ size) × (size ≤ 7)
IsLawfulGroup kind.Vr size = (size % 2 ≡ 1) × (size ≤ 7)

abbrev pub IsLawful : Line → Type 0
IsLawful (line.Group kind size) = IsLawfulGroup kind size
IsLawful (line.Table stages bits) = IsTable stages bits
IsLawful (line.Life life) = IsLife life
IsLawful (line.Log cap) = IsCapacity cap
IsLawful (line.Event e) = IsLawfulEvent e
