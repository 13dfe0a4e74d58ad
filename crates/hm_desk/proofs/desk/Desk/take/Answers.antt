use Rattle.std.proofs.Common.{◌≡◌, length, refl, arith}
use Rattle.hm_frame.specs.Links.{max_datagram_len}
use Rattle.hm_frame.specs.declared.datagram.Item.TheVariants as item
use Rattle.hm_worker.specs.Heard.{Heard}
use Rattle.hm_desk.specs.Deeds.{Deed}
use Rattle.hm_desk.proofs.Takes.{finds_end, hears_datagram, hears_next}
use Rattle.hm_desk.proofs.desk.Desk.take.Goals as goal

pub returns-in-Datagram-clause-ok : goal.returns-in-Datagram-clause-ok
returns-in-Datagram-clause-ok g c =
    let heard = c.hear.ensures in
    let size : length c.take.new.buf ≡ max_datagram_len = omega arith in
    record {
      deed = Deed.Hears heard.0;
      order_is = refl;
      done = heard.2;
      taken = hears_datagram _ c.take.new.buf c.in-Datagram.len _ _ heard.0 c.in-Datagram.ensures.next size refl heard.1;
    }

pub returns-in-Quiet-clause-ok : goal.returns-in-Quiet-clause-ok
returns-in-Quiet-clause-ok g c = record {
  deed = Deed.Hears Heard.Quiet;
  order_is = refl;
  done = rw c.requires refl;
  taken = hears_next Heard.Quiet item.Quiet _ _ tt c.in-Quiet.ensures.next;
}

pub returns-in-Ended-clause-ok : goal.returns-in-Ended-clause-ok
returns-in-Ended-clause-ok g c = record {
  deed = Deed.FindsEnd;
  order_is = refl;
  done = rw c.requires refl;
  taken = finds_end _ _ c.in-Ended.ensures.next.0 c.in-Ended.ensures.next.1;
}
