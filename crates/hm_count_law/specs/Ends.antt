-- For which marks of a history its order has an operation.
use Rattle.std.specs.Prelude.{Bool, true, false}
use Rattle.hm_base.specs.declared.operation.Answer.{Answer}
use Rattle.hm_base.specs.declared.operation.Answer.TheVariants.{Wrote, Nothing, Found}
use Rattle.hm_order.specs.declared.mark.Mark.{Mark}
use Rattle.hm_order.specs.declared.mark.Mark.TheVariants.{Invoke, Commit, Reply}

-- a read is answered so, and no write
abbrev pub answers_read : Answer → Bool
answers_read Wrote = false
answers_read Nothing = true
answers_read (Found value) = true

-- the mark is the Commit of a write, or the reply to a read
abbrev pub ends_one : Mark → Bool
ends_one (Invoke op want) = false
ends_one (Commit op stamp) = true
ends_one (Reply op version answer) = answers_read answer
