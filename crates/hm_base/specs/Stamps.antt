-- Stamps: a switch's number and its sequence number, in lexicographic order (Harmonia).
use Rattle.std.specs.Prelude.{Bool, ◌&&◌, ◌||◌, ◌==◌, nat_lt, nat_le, IsTrue}
use Rattle.hm_base.specs.declared.stamp.Stamp.{Stamp}

-- the least stamp; no write carries it
abbrev pub least : Stamp
least = record { switch = 0; seq = 0 }

abbrev pub same_stamp : Stamp → Stamp → Bool
same_stamp a b = (a.switch == b.switch) && (a.seq == b.seq)

abbrev pub stamp_le : Stamp → Stamp → Bool
stamp_le a b = nat_lt a.switch b.switch || (a.switch == b.switch && nat_le a.seq b.seq)

abbrev pub stamp_lt : Stamp → Stamp → Bool
stamp_lt a b = nat_lt a.switch b.switch || (a.switch == b.switch && nat_lt a.seq b.seq)

infix 20 ◌≼◌
-- at most
abbrev pub ◌≼◌ : Stamp → Stamp → Type 0
a ≼ b = IsTrue (stamp_le a b)

infix 20 ◌≺◌
-- below
abbrev pub ◌≺◌ : Stamp → Stamp → Type 0
a ≺ b = IsTrue (stamp_lt a b)
