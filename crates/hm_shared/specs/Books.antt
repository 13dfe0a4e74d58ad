-- What contracts see of a book, and which history it holds.
use Rattle.std.specs.Prelude.{◌≡◌, ◌≢◌, ◌↔◌, ℕ, List, [], ◌∷◌, ◌++◌, length, nat_le, if◌then◌else◌, Option, Some, None}
use Rattle.hm_packet.specs.declared.turn.Turn.TheVariants as turn
use Rattle.hm_packet.specs.Messages.{Message}
use Rattle.hm_dirtyset.specs.Table.{slots_of}
use Rattle.hm_switch.specs.declared.fault.SwitchFault.{SwitchFault}
use Rattle.hm_switch.specs.declared.fault.SwitchFault.TheVariants as fault
use Rattle.hm_switch.specs.Faults.{switch_fault}
use Rattle.hm_switch.specs.StandsFor.{StandsFor}
use Rattle.hm_shared.specs.declared.book.TheConstants.{MAX_BOOK_LIFE}
use Rattle.hm_shared.specs.declared.book.Turned.{Turned}
use Rattle.hm_shared.specs.History.{SwitchSetup, SwitchTurn, opens, turned, leads_to, IsLegalHistory}
use Rattle.hm_shared.specs.Journal.{IsJournalOf}
use Rattle.hm_shared.specs.BookState.{BookState}

abbrev pub too_long : ℕ → Option SwitchFault
too_long life = if nat_le life MAX_BOOK_LIFE then None else Some fault.Life

abbrev pub fault_or : Option SwitchFault → Option SwitchFault → Option SwitchFault
fault_or None later = later
fault_or (Some first) later = Some first

-- the first argument that is out of its range, if any is: besides a switch's ranges, a book has a shorter life
abbrev pub book_fault : ℕ → ℕ → ℕ → ℕ → Option SwitchFault
book_fault id stages bits life = fault_or (switch_fault id stages bits life) (too_long life)

-- The book's journal stands for a legal history of the switch that was opened so, and its switch is where that history leads.
pub record Holds (book : BookState) (setup : SwitchSetup) (history : List SwitchTurn) : Type 0 where
  pub legal : IsLegalHistory setup history
  pub journal : IsJournalOf book.records history
  pub switch : StandsFor book.switch (leads_to (opens setup) history).switch
  pub slots : slots_of book.switch.dirty ≡ (leads_to (opens setup) history).slots
  pub life : book.life ≡ setup.life

-- A turn: the answer is what the rules say of the switch where the history led, and the history has the turn at its end. Once there
-- are as many turns as the switch's life the answer is that it is spent, and nothing changes.
pub record TakesTurn (old new : BookState) (told : Turned) (seat : ℕ) (packet : Message) (setup : SwitchSetup) (history : List SwitchTurn) : Type 0 where
  pub answer : told.turn ≡ (turned (leads_to (opens setup) history) packet).turn
  pub place : told.place ≡ length history
  pub spent : (told.turn ≡ turn.Spent) ↔ (length history ≡ setup.life)
  pub kept : told.turn ≡ turn.Spent → new ≡ old
  pub made : told.turn ≢ turn.Spent → Holds new setup (history ++ record { seat = seat; packet = packet; answer = told.turn } ∷ [])
