-- How numbers, values, stamps, operations, answers, nodes, reasons and entries are spelled in lines of text.
use Rattle.std.specs.Prelude.{ℕ, List, [], ◌∷◌, ◌++◌, length, map, flat_map, codes, decimal}
use Rattle.hex.specs.Hex.{encode_lower}
use Rattle.hm_base.specs.declared.node.Node.{Node}
use Rattle.hm_base.specs.declared.node.Node.TheVariants.{Client, Switch, Replica, Config}
use Rattle.hm_base.specs.declared.stamp.Stamp.{Stamp}
use Rattle.hm_base.specs.declared.operation.OpId.{OpId}
use Rattle.hm_base.specs.declared.operation.Answer.{Answer}
use Rattle.hm_base.specs.declared.operation.Answer.TheVariants.{Wrote, Nothing, Found}
use Rattle.hm_base.specs.declared.why.Why.{Why}
use Rattle.hm_base.specs.declared.why.Why.TheVariants as why
use Rattle.hm_base.specs.declared.entry.Entry.{Entry}
use Rattle.hm_base.specs.declared.entry.Act.{Act}
use Rattle.hm_base.specs.declared.entry.Act.TheVariants.{Put, Look}

-- words, each with a space before it
abbrev pub spaced : List (List ℕ) → List ℕ
spaced [] = []
spaced (word ∷ words) = 32 ∷ (word ++ spaced words)

-- words, with single spaces between them
abbrev pub joined : List (List ℕ) → List ℕ
joined [] = []
joined (word ∷ words) = word ++ spaced words

-- `empty`, or lower-case hexadecimal
abbrev pub value_text : List ℕ → List ℕ
value_text [] = codes "empty"
value_text (byte ∷ bytes) = encode_lower (byte ∷ bytes)

-- two numbers in decimal, as `1.9`
abbrev pub dotted : ℕ → ℕ → List ℕ
dotted first second = decimal first ++ (codes "." ++ decimal second)

-- `SWITCH.SEQ`
abbrev pub stamp_text : Stamp → List ℕ
stamp_text s = dotted s.switch s.seq

-- `CLIENT.REQUEST`
abbrev pub op_text : OpId → List ℕ
op_text op = dotted op.client op.request

-- `wrote`, `none` or a value
abbrev pub answer_text : Answer → List ℕ
answer_text Wrote = codes "wrote"
answer_text Nothing = codes "none"
answer_text (Found value) = value_text value

-- `c7`, `s1`, `r0` or `cfg`
abbrev pub node_text : Node → List ℕ
node_text (Client c) = codes "c" ++ decimal c
node_text (Switch s) = codes "s" ++ decimal s
node_text (Replica r) = codes "r" ++ decimal r
node_text Config = codes "cfg"

-- why a node takes no notice of a packet
abbrev pub why_text : Why → List ℕ
why_text why.Kind = codes "Kind"
why_text why.NotForMe = codes "NotForMe"
why_text why.Epoch = codes "Epoch"
why_text why.OldSwitch = codes "OldSwitch"
why_text why.Order = codes "Order"
why_text why.Repeat = codes "Repeat"
why_text why.Gap = codes "Gap"
why_text why.Status = codes "Status"
why_text why.Foreign = codes "Foreign"
why_text why.Unsettled = codes "Unsettled"
why_text why.Gone = codes "Gone"

-- a value or `look`
abbrev pub act_text : Act → List ℕ
act_text (Put value) = value_text value
act_text Look = codes "look"

abbrev pub entry_words : Entry → List (List ℕ)
entry_words e = stamp_text e.stamp ∷ decimal e.client ∷ decimal e.request ∷ decimal e.object ∷ act_text e.act ∷ []

-- their count, then each
abbrev pub entries_words : List Entry → List (List ℕ)
entries_words es = decimal (length es) ∷ flat_map entry_words es

-- their count, then each
abbrev pub members_words : List ℕ → List (List ℕ)
members_words ms = decimal (length ms) ∷ map decimal ms

abbrev pub entry_text : Entry → List ℕ
entry_text e = joined (entry_words e)

abbrev pub entries_text : List Entry → List ℕ
entries_text es = joined (entries_words es)

abbrev pub members_text : List ℕ → List ℕ
members_text ms = joined (members_words ms)
