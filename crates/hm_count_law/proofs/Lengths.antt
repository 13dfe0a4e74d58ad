-- The order of a history has each operation that has a Commit or a reply to a read, and no other one, and none twice.
use Rattle.std.proofs.Common.{◌≡◌, List, length, ◌∙◌}
use Rattle.std.specs.Prelude.{Contains, count_by}
use Rattle.hm_order.specs.declared.mark.Mark.{Mark}
use Rattle.hm_order.specs.Order.{order}
use Rattle.hm_order.specs.Legal.{IsLegal, IsWellFormed, AllDue}
use Rattle.hm_count_law.specs.Ends.{ends_one}
use Rattle.hm_count_law.proofs.Distinct.{distinct_from_once, same_members_length}
use Rattle.hm_count_law.proofs.Ended.{ended, ended_length, ended_each, ended_distinct}
use Rattle.hm_count_law.proofs.Standing.{order_ended}

pub order_length : (h : List Mark) → IsWellFormed h → AllDue h → IsLegal h (order h) → length (order h) ≡ count_by ends_one h
order_length h formed due legal =
    same_members_length (order h) (ended h) (distinct_from_once (order h) legal.once) (ended_distinct h formed due) (order_ended h due)
    (ended_each h (Contains (order h)) legal.committed legal.replied)
    ∙ ended_length h
