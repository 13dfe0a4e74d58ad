-- The orders of an operator to the configuration service: the one spelling of each, and the first reason for which a line is none.
use Rattle.std.specs.Prelude.{◌≡◌, ◌≢◌, ℕ, ◌≤◌, ◌^◌, ◌⊎◌, List, [], ◌∷◌, ◌++◌, map, flat_map, All, bytes_eq, codes, decimal, Option, Some, None, if◌then◌else◌}
use Rattle.hm_base.specs.Rising.{IsMembers, CanFollow}
use Rattle.hm_base.specs.Spellings.{spaced, joined}
use Rattle.hm_schedule.specs.FirstReasons.{Needs, FieldNeeds, IsNumber, IsPrintable, replica_field}
use Rattle.hm_schedule.specs.LineTexts.{ended}
use Rattle.hm_schedule.specs.LineWords.{IsWord, IsWordEnd}
use Rattle.hm_schedule.specs.declared.line.LineReason.{LineReason}
use Rattle.hm_schedule.specs.declared.line.LineReason.TheVariants as reason
use Rattle.hm_operator.specs.declared.order.Order.{Order}
use Rattle.hm_operator.specs.declared.order.Order.TheVariants as order
use Rattle.hm_operator.specs.declared.order.Verb.{Verb}
use Rattle.hm_operator.specs.declared.order.Verb.TheVariants as verb

-- ---- orders

-- the first word of an order
abbrev pub verb_text : Verb → List ℕ
verb_text verb.Remove = codes "remove"
verb_text verb.Retire = codes "retire"
verb_text verb.Take = codes "take"
verb_text verb.Start = codes "start"

-- the verb that is this word
abbrev pub verb_named : List ℕ → Option Verb
verb_named word =
    if bytes_eq word (codes "remove") then Some verb.Remove
    else if bytes_eq word (codes "retire") then Some verb.Retire
    else if bytes_eq word (codes "take") then Some verb.Take
    else if bytes_eq word (codes "start") then Some verb.Start
    else None

abbrev pub verb_in : Order → Verb
verb_in (order.Remove replica) = verb.Remove
verb_in order.Retire = verb.Retire
verb_in order.Take = verb.Take
verb_in (order.Start live) = verb.Start

-- the replicas that an order names
abbrev pub replicas_in : Order → List ℕ
replicas_in (order.Remove replica) = replica ∷ []
replicas_in order.Retire = []
replicas_in order.Take = []
replicas_in (order.Start live) = live

-- replicas with rising numbers, or none
abbrev pub IsLive : List ℕ → Type 0
IsLive [] = Unit {0}
IsLive (replica ∷ others) = IsMembers (replica ∷ others)

-- replicas are numbered from 0 to 6
abbrev pub IsLawful : Order → Type 0
IsLawful (order.Remove replica) = replica ≤ 6
IsLawful order.Retire = Unit {0}
IsLawful order.Take = Unit {0}
IsLawful (order.Start live) = IsLive live

-- the replicas' numbers, each behind a space
abbrev pub replicas_text : List ℕ → List ℕ
replicas_text replicas = spaced (map decimal replicas)

-- the one spelling of an order: `remove R`, `retire`, `take`, or `start R ..`
abbrev pub order_text : Order → List ℕ
order_text o = joined (verb_text (verb_in o) ∷ map decimal (replicas_in o))

abbrev pub order_line : Order → List ℕ
order_line o = ended (order_text o)

abbrev pub orders_text : List Order → List ℕ
orders_text orders = flat_map order_line orders

-- an order with this verb, which these fields spell
pub record IsSpelledBy (v : Verb) (fields : List ℕ) (o : Order) : Type 0 where
  pub lawful : IsLawful o
  pub verb_is : verb_in o ≡ v
  pub fields_are : fields ≡ replicas_text (replicas_in o)

-- ---- the first reason

-- a line with this first word, and what is behind that
pub record IsLineOf (bytes : List ℕ) (v : Verb) (fields : List ℕ) : Type 0 where
  pub parts : bytes ≡ verb_text v ++ fields
  pub ends : IsWordEnd fields

-- its first word is none of an order
abbrev pub HasNoVerb : List ℕ → Type 0
HasNoVerb bytes = (v : Verb) → (fields : List ℕ) → IsLineOf bytes v fields → ⊥

-- one word, behind a space
pub record IsOneWord (fields word : List ℕ) : Type 0 where
  pub parts : fields ≡ 32 ∷ word
  pub whole : IsWord word

-- one word has to stand there, and it has to be the number of a replica
abbrev pub ReplicaNeeded : List ℕ → LineReason → Type 0
ReplicaNeeded fields r =
    (((word : List ℕ) → IsOneWord fields word → ⊥) × (r ≡ reason.Count)) ⊎ ((word : List ℕ) × IsOneWord fields word × FieldNeeds replica_field word (λ later. ⊥) r)

-- nothing may stand there
abbrev pub NothingNeeded : List ℕ → LineReason → Type 0
NothingNeeded fields r = (fields ≢ []) × (r ≡ reason.Count)

-- a word that is the number of a replica above these
abbrev pub Follows : List ℕ → List ℕ → Type 0
Follows live word = (replica : ℕ) × CanFollow live replica × (word ≡ decimal replica)

-- what the first word behind these replicas needs
abbrev pub FollowerNeeded : List ℕ → List ℕ → LineReason → Type 0
FollowerNeeded live word r = Needs (IsNumber (2 ^ 8) word) reason.Number (Needs (Follows live word) reason.Range (λ later. ⊥)) r

-- behind rising numbers of replicas stands a word that isn't the number of a replica above them
pub record StopsRising (fields : List ℕ) (r : LineReason) : Type 0 where
  pub live : List ℕ
  pub word : List ℕ
  pub more : List ℕ
  pub parts : fields ≡ replicas_text live ++ 32 ∷ (word ++ more)
  pub rising : IsLive live
  pub whole : IsWord word
  pub ends : IsWordEnd more
  pub needed : FollowerNeeded live word r

-- what is needed behind the first word
abbrev pub BehindNeeded : Verb → List ℕ → LineReason → Type 0
BehindNeeded verb.Remove fields r = ReplicaNeeded fields r
BehindNeeded verb.Retire fields r = NothingNeeded fields r
BehindNeeded verb.Take fields r = NothingNeeded fields r
BehindNeeded verb.Start fields r = StopsRising fields r

abbrev pub VerbNeeded : List ℕ → LineReason → Type 0
VerbNeeded bytes r = (HasNoVerb bytes × (r ≡ reason.Word)) ⊎ ((v : Verb) × (fields : List ℕ) × IsLineOf bytes v fields × BehindNeeded v fields r)

-- the first reason for which bytes are no order
abbrev pub IsFirstReason : List ℕ → LineReason → Type 0
IsFirstReason bytes r = Needs (All IsPrintable bytes) reason.Byte (VerbNeeded bytes) r
