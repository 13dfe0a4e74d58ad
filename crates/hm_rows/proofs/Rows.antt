-- What the rows share.
use Rattle.std.specs.Prelude.{ℕ, List, [], ◌∷◌, ◌++◌, flat_map}
use Rattle.hm_base.specs.declared.node.GroupKind.{GroupKind}
use Rattle.hm_rules.specs.Events.{Setup}

-- a group with a dirty table of three stages of 1,024 slots
abbrev pub group : GroupKind → ℕ → Setup
group kind size = record { kind = kind; size = size; stages = 3; bits = 10; life = 4194304; cap = 16384 }

abbrev pub lines : List (List ℕ) → List ℕ
lines = flat_map (λ line. line ++ 10 ∷ [])
