use Rattle.std.proofs.Common.{refl, ◌∙◌, arith}
use Rattle.hm_desk.proofs.Served.{come_start, order_read, order_served, order_ends, reading_ends, unread_there}
use Rattle.hm_desk.proofs.config.serve_orders.Goals as goal

pub loop-served-init : goal.loop-served-init
loop-served-init g c = record { come = come_start c.calls_add_up.ensures c.link_calls_add_up.ensures _ _ _ c.requires; sound = record { source = refl; link = refl; sink = refl } }

pub returns-in-Err : goal.returns-in-Err
returns-in-Err g c =
    let here = c.loop-served.invariant in
    reading_ends c.calls_add_up.ensures c.link_calls_add_up.ensures _ _ _ _ _ _ _ _ (omega arith) here.sound c.in-Err.status _ _ _ here.come c.in-Err.ensures

pub returns-in-Err-serve : goal.returns-in-Err-serve
returns-in-Err-serve g c =
    let here = c.loop-served.invariant in
    let read = order_read c.calls_add_up.ensures c.link_calls_add_up.ensures _ _ _ _ _ _ _ _ _ _ _ here.come c.in-Ok.ensures in
    order_ends c.calls_add_up.ensures c.link_calls_add_up.ensures _ _ _ _ _ _ _ _ (omega arith) (record { source = c.in-Ok.ensures.sound ∙ here.sound.source; link = here.sound.link; sink = here.sound.sink }) (Unit {0}) c.in-Err-serve.status _ _ _ _ _ read c.in-Err-serve.ensures

pub loop-served-preserved : goal.loop-served-preserved
loop-served-preserved g c =
    let here = c.loop-served.invariant in
    let goes = c.in-Ok-serve.ensures in
    let read = order_read c.calls_add_up.ensures c.link_calls_add_up.ensures _ _ _ _ _ _ _ _ _ _ _ here.come c.in-Ok.ensures in
    record {
      come = order_served c.calls_add_up.ensures c.link_calls_add_up.ensures _ _ _ _ _ _ _ _ _ _ _ _ read goes;
      sound = record {
        source = c.in-Ok.ensures.sound ∙ here.sound.source;
        link = goes.acted.sound ∙ here.sound.link;
        sink = goes.told.1.sound ∙ here.sound.sink;
      };
    }

pub returns-in-Err-has_more : goal.returns-in-Err-has_more
returns-in-Err-has_more g c =
    let here = c.loop-served.invariant in
    unread_there c.calls_add_up.ensures c.link_calls_add_up.ensures _ _ _ _ _ _ _ _ (omega arith) here.sound _ _ _ here.come c.in-Err-has_more.ensures.more.0 c.in-Err-has_more.ensures.more.1 c.in-Err-has_more.ensures.counted
