-- What writing a part adds to a buffer.
use Rattle.std.specs.Prelude.{◌≡◌, ℕ, ◌≤◌, List, [], ◌∷◌, ◌++◌, length, flat_map}
use Rattle.hm_packet.specs.declared.field.Field.{Field}
use Rattle.hm_packet.specs.declared.field.Field.TheVariants as value
use Rattle.hm_packet.specs.declared.body.Body.{Body}
use Rattle.hm_packet.specs.Fields.{Tail, fields}
use Rattle.hm_wire.specs.Grammar.{Grammar, spell, Leads, number}
use Rattle.hm_wire.specs.Grammar.Size.{U32, U64}
use Rattle.hm_wire.specs.Packets.{node_fields, stamp_fields, value_fields, answer_fields, act_fields, replica_field, page_fields, members_fields, value_numbers, field_numbers}

-- the bytes stand behind the others, where a buffer of so many bytes has room for them
abbrev pub Adds : ℕ → List ℕ → List ℕ → List ℕ → Type 0
Adds limit old new bytes = length (old ++ bytes) ≤ limit → new ≡ old ++ bytes

-- the numbers may stand in the part, and their bytes are added
pub record Writes (limit : ℕ) (part : Grammar → Grammar) (numbers old new : List ℕ) : Type 0 where
  pub leads : (rest : Grammar) → Leads (part rest) numbers rest
  pub adds : (rest : Grammar) → Adds limit old new (spell (part rest) numbers)

-- a tag and a value are added
abbrev pub TagsValue : ℕ → ℕ → List ℕ → List ℕ → List ℕ → Type 0
TagsValue limit tag v old new = (mid : List ℕ) × Adds limit old mid (tag ∷ []) × Writes limit value_fields (value_numbers v) mid new

-- the fields of a field, of some, and of the list at a body's end
abbrev pub field_fields : Field → Grammar → Grammar
field_fields (value.Node n) rest = node_fields rest
field_fields (value.U32 n) rest = number U32 rest
field_fields (value.U64 n) rest = number U64 rest
field_fields (value.Replica r) rest = replica_field rest
field_fields (value.Stamp s) rest = stamp_fields rest
field_fields (value.Value v) rest = value_fields rest
field_fields (value.Answer a) rest = answer_fields rest
field_fields (value.Act a) rest = act_fields rest

abbrev pub all_fields : List Field → Grammar → Grammar
all_fields [] rest = rest
all_fields (f ∷ fs) rest = field_fields f (all_fields fs rest)

abbrev pub tail_fields : Tail → Grammar → Grammar
tail_fields Tail.none rest = rest
tail_fields (Tail.entries es) rest = page_fields rest
tail_fields (Tail.members ms) rest = members_fields rest

-- a body's fields are added, but for the list that some end with
abbrev pub WritesFields : ℕ → Body → List ℕ → List ℕ → Type 0
WritesFields limit b old new = Writes limit (all_fields (fields b)) (flat_map field_numbers (fields b)) old new
