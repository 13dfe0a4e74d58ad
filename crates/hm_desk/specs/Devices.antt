-- What a source, a link and a sink tell at a moment, and what orders did to them.
use Rattle.std.specs.Prelude.{◌≡◌, ℕ, List, ◌++◌, Option}
use Rattle.std.specs.Io.KnownBytes.{Appends, Consumes}
use Rattle.std.specs.List.{AllByRecursion}
use Rattle.hm_frame.specs.Links.{Gets}
use Rattle.hm_frame.specs.declared.datagram.Item.{Item}
use Rattle.hm_frame.specs.declared.datagram.Posted.{Posted}
use Rattle.hm_packet.specs.Messages.{Message}
use Rattle.hm_worker.specs.Posts.{posts_of}
use Rattle.hm_desk.specs.Deeds.{Deed, Takes}
use Rattle.hm_operator.specs.Orders.{IsLawful, orders_text}
use Rattle.hm_operator.specs.declared.order.Order.{Order}

-- each with its count of faults
pub record SourceState : Type 0 where
  pub left : Option (List ℕ)
  pub faults : ℕ

pub record LinkState : Type 0 where
  pub coming : Option (List Item)
  pub sent : Option (List Posted)
  pub faults : ℕ

pub record SinkState : Type 0 where
  pub held : Option (List ℕ)
  pub faults : ℕ

pub record Devices : Type 0 where
  pub source : SourceState
  pub link : LinkState
  pub sink : SinkState

-- The lines of these orders were read, and bytes ahead of them. These deeds were done, these packets were sent, and this text was put.
pub record HasDone (orders : List Order) (ahead : List ℕ) (deeds : List Deed) (outs : List Message) (text : List ℕ) (old new : Devices) : Type 0 where
  pub lawful : AllByRecursion IsLawful orders
  pub read : Consumes old.source.left new.source.left (orders_text orders ++ ahead)
  pub taken : Takes deeds old.link.coming new.link.coming
  pub sent : Gets old.link.sent new.link.sent (posts_of outs)
  pub written : Appends old.sink.held new.sink.held text

-- no call failed
pub record IsSound (old new : Devices) : Type 0 where
  pub source : new.source.faults ≡ old.source.faults
  pub link : new.link.faults ≡ old.link.faults
  pub sink : new.sink.faults ≡ old.sink.faults
