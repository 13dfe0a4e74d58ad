-- Words that tell where a node is, as `r0=127.0.0.1:7000`.
use Rattle.std.specs.Prelude.{◌≡◌, ℕ, ◌^◌, ◌<◌, ◌≤◌, List, ◌∷◌, ◌++◌, length}
use Rattle.hm_base.specs.Spellings.{node_text}
use Rattle.hm_base.specs.declared.node.Node.{Node}
use Rattle.hm_base.specs.declared.node.Node.TheVariants as node

-- a node that there can be: clients and switches have numbers of 32 bits, and replicas are numbered from 0 to 6
abbrev pub IsNode : Node → Type 0
IsNode (node.Client c) = c < 2 ^ 32
IsNode (node.Switch s) = s < 2 ^ 32
IsNode (node.Replica r) = r ≤ 6
IsNode node.Config = Unit {0}

-- a node's text, the sign `=`, and some text
pub record IsAddress (word : List ℕ) : Type 0 where
  pub node : Node
  pub of_node : IsNode node
  pub address : List ℕ
  pub some : 0 < length address
  pub spelled : word ≡ node_text node ++ 61 ∷ address
