-- Words start one node at most: the second letter of the first word tells the kind of node.
use Rattle.std.proofs.Common.{◌≡◌, ℕ, List, [], get_or, ap, sym, ◌∙◌}
use Rattle.hm_base.specs.declared.node.Node.{Node}
use Rattle.hm_base.specs.declared.node.Node.TheVariants as node
use Rattle.hm_daemon.specs.Words.{Starts}

abbrev pub letter_of : Node → ℕ
letter_of (node.Client client) = 108
letter_of (node.Switch id) = 119
letter_of (node.Replica me) = 101
letter_of node.Config = 111

abbrev second_letter : List (List ℕ) → ℕ
second_letter words = get_or (get_or words 0 []) 1 0

has_letter : (words : List (List ℕ)) (n : Node) → Starts words n → second_letter words ≡ letter_of n
has_letter words (node.Client client) starts = ap second_letter starts.1.spelled
has_letter words (node.Switch id) starts = ap second_letter starts.1.spelled
has_letter words (node.Replica me) starts = ap second_letter starts.1.spelled
has_letter words node.Config starts = ap second_letter starts.1.spelled

pub same_letter : (words : List (List ℕ)) (n m : Node) → Starts words n → Starts words m → letter_of n ≡ letter_of m
same_letter words n m starts others = sym (has_letter words n starts) ∙ has_letter words m others
