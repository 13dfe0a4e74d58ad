-- What several calls of a link come to, where it tells what is to come and what was sent.
use Rattle.std.specs.Prelude.{List, [], ◌++◌, Option}
use Rattle.hm_frame.specs.Links.{Loses, Gets, Keeps}
use Rattle.hm_frame.specs.declared.datagram.Item.{Item}
use Rattle.hm_frame.specs.declared.datagram.Posted.{Posted}

-- without a call nothing is taken or sent, and what two take or send is what one does
pub record LinkCallsAddUp : Type 0 where
  pub takes_none : (coming : Option (List Item)) → Loses coming coming []
  pub takes_both : (coming now later : Option (List Item)) (first second : List Item) → Loses coming now first → Loses now later second → Loses coming later (first ++ second)
  pub takes_kept : (coming now later : Option (List Item)) (items : List Item) → Loses coming now items → Keeps now later → Loses coming later items
  pub sends_none : (sent : Option (List Posted)) → Gets sent sent []
  pub sends_both : (sent now later : Option (List Posted)) (first second : List Posted) → Gets sent now first → Gets now later second → Gets sent later (first ++ second)
  pub sends_kept : (sent now later : Option (List Posted)) (posts : List Posted) → Gets sent now posts → Keeps now later → Gets sent later posts
