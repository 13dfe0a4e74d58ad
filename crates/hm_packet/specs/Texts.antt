-- The text of a packet: source, destination, kind and fields in order, with single spaces between them.
use Rattle.std.specs.Prelude.{ℕ, List, [], ◌∷◌, ◌++◌, map, decimal}
use Rattle.hm_base.specs.Spellings.{joined, node_text, stamp_text, answer_text, act_text, value_text, entries_words, members_words}
use Rattle.hm_packet.specs.declared.body.Body.{Body}
use Rattle.hm_packet.specs.declared.field.Field.{Field}
use Rattle.hm_packet.specs.declared.field.Field.TheVariants.{Node, U32, U64, Replica, Stamp, Value, Answer, Act}
use Rattle.hm_packet.specs.Fields.{kind_name, fields, tail, Tail}
use Rattle.hm_packet.specs.Messages.{Message}

-- numbers are in decimal
abbrev pub field_text : Field → List ℕ
field_text (Node n) = node_text n
field_text (U32 n) = decimal n
field_text (U64 n) = decimal n
field_text (Replica n) = decimal n
field_text (Stamp s) = stamp_text s
field_text (Value v) = value_text v
field_text (Answer a) = answer_text a
field_text (Act a) = act_text a

abbrev pub tail_words : Tail → List (List ℕ)
tail_words Tail.none = []
tail_words (Tail.entries es) = entries_words es
tail_words (Tail.members ms) = members_words ms

-- the kind's name, then the fields
abbrev pub body_words : Body → List (List ℕ)
body_words b = kind_name b ∷ (map field_text (fields b) ++ tail_words (tail b))

abbrev pub packet_words : Message → List (List ℕ)
packet_words m = node_text m.src ∷ node_text m.dst ∷ body_words m.body

abbrev pub packet_text : Message → List ℕ
packet_text m = joined (packet_words m)
