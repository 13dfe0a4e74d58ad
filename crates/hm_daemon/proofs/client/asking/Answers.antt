use Rattle.std.proofs.Common.{◌≡◌, List, ℕ, length, refl, sym, ap, subst, ◌∙◌, inl, inr, arith, rules}
use Rattle.std.specs.Io.KnownBytes.{Appends}
use Rattle.hm_base.specs.Lists.{IsPrefix}
use Rattle.hm_frame.specs.Links.{max_datagram_len}
use Rattle.hm_frame.specs.declared.datagram.Item.TheVariants as item
use Rattle.hm_outside.specs.Faults.{one_more}
use Rattle.hm_daemon.specs.Asking.{reply_line}
use Rattle.hm_daemon.proofs.AskLemmas.{asked_start, asked_more, asked_again, cut_start, cut_again, not_heard, replied, unput_along, put_along, request_post, none_if}
use Rattle.hm_daemon.proofs.ServeLemmas.{datagram_heard}
use Rattle.hm_daemon.proofs.client.asking.Goals as goal
use Rattle.hm_daemon.proofs.client.asking.Goals.{in-Datagram+in_default, in-Quiet+in-Ok-send}

pub returns-in-Err : goal.returns-in-Err
returns-in-Err g c = (
  inr (cut_start c.link_calls_add_up.ensures _ _ _ _ _ _ _ c.in-Err.ensures.untaken c.in-Err.ensures.sent c.in-Err.ensures.counted),
  unput_along g.K.Sink.held g.K.Sink.faults _ _ refl,
)

pub loop-init : goal.loop-init
loop-init g c = record {
  asked = asked_start c.link_calls_add_up.ensures _ _ _ _ _ _ _ _ _ (request_post c.args.words.now c.args.request.now c.requires.request) c.in-Ok.ensures.sent c.in-Ok.ensures.untaken;
  sound = c.in-Ok.ensures.counted;
  room = search rules;
  unput = refl;
}

pub returns-in-Ok-put_reply : goal.returns-in-Ok-put_reply
returns-in-Ok-put_reply g c =
    let heard = c.in-Some.ensures in
    let room : length c.loop.buf ≡ max_datagram_len = c.loop.invariant.room in
    let size : length c.take.new.buf ≡ max_datagram_len = omega (arith, c.take.auto.buf) in
    let next = c.in-Datagram.ensures.next in
    let one = datagram_heard _ c.take.new.buf c.in-Datagram.len _ _ heard.0 next size refl heard.1 in
    record {
      reply = c.in-Some.reply;
      has_reply =
          replied c.link_calls_add_up.ensures _ c.in-Some.reply _ _ _ _ _ _ _ _ _ _ _ (item.Datagram next.whole) heard.0 c.loop.invariant.asked one (sym heard.2) next.first c.in-Datagram.ensures.unsent (omega arith)
          (c.in-Datagram.ensures.counted ∙ c.loop.invariant.sound);
      written =
          put_along g.K.Sink.held _ _ _ _ c.loop.invariant.unput
          (subst (λ (h : List ℕ). Appends (g.K.Sink.held c.loop.sink) (g.K.Sink.held c.put_reply.new.sink) (reply_line h c.in-Some.reply)) c.requires.head c.in-Ok-put_reply.ensures.ok);
      sound = c.in-Ok-put_reply.ensures.counted ∙ ap g.K.Sink.faults c.loop.invariant.unput;
    }

pub returns-in-Err-put_reply : goal.returns-in-Err-put_reply
returns-in-Err-put_reply g c =
    let heard = c.in-Some.ensures in
    let room : length c.loop.buf ≡ max_datagram_len = c.loop.invariant.room in
    let size : length c.take.new.buf ≡ max_datagram_len = omega (arith, c.take.auto.buf) in
    let next = c.in-Datagram.ensures.next in
    let one = datagram_heard _ c.take.new.buf c.in-Datagram.len _ _ heard.0 next size refl heard.1 in
    let front = c.in-Err-put_reply.ensures.err in
    record {
      reply = c.in-Some.reply;
      has_reply =
          replied c.link_calls_add_up.ensures _ c.in-Some.reply _ _ _ _ _ _ _ _ _ _ _ (item.Datagram next.whole) heard.0 c.loop.invariant.asked one (sym heard.2) next.first c.in-Datagram.ensures.unsent (omega arith)
          (c.in-Datagram.ensures.counted ∙ c.loop.invariant.sound);
      front = front.0;
      is_front = subst (λ (h : List ℕ). IsPrefix front.0 (reply_line h c.in-Some.reply)) c.requires.head front.1;
      written = put_along g.K.Sink.held _ _ _ _ c.loop.invariant.unput front.2;
      failed = c.in-Err-put_reply.ensures.counted ∙ ap one_more (ap g.K.Sink.faults c.loop.invariant.unput);
    }

pub returns-in-Err-send : goal.returns-in-Err-send
returns-in-Err-send g c = (
  inr (cut_again c.link_calls_add_up.ensures _ _ _ _ _ _ _ _ _ _ _ _ _ _ c.loop.invariant.asked c.in-Quiet.ensures.next c.in-Quiet.ensures.unsent c.in-Err-send.ensures.untaken c.in-Err-send.ensures.sent (omega arith)
      (c.in-Err-send.ensures.counted ∙ ap one_more (c.in-Quiet.ensures.counted ∙ c.loop.invariant.sound))),
  unput_along g.K.Sink.held g.K.Sink.faults _ _ c.loop.invariant.unput,
)

pub returns-in-Failed : goal.returns-in-Failed
returns-in-Failed g c = (
  inl (not_heard c.link_calls_add_up.ensures _ _ _ _ _ _ _ _ _ _ _ _ c.loop.invariant.asked c.in-Failed.ensures.next c.in-Failed.ensures.unsent (omega arith) (c.in-Failed.ensures.counted ∙ ap one_more c.loop.invariant.sound)),
  unput_along g.K.Sink.held g.K.Sink.faults _ _ c.loop.invariant.unput,
)

pub loop-preserved : goal.loop-preserved
loop-preserved g c =
    let room : length c.loop.buf ≡ max_datagram_len = c.loop.invariant.room in
    let size : length c.take.new.buf ≡ max_datagram_len = omega (arith, c.take.auto.buf) in
    elim c.match-take.branch [
      | in-Datagram+in_default w ↦
          let heard = w.reply_in.ensures in
          let next = w.in-Datagram.ensures.next in
          let one = datagram_heard _ c.take.new.buf w.in-Datagram.len _ _ heard.0 next size refl heard.1 in
          rw w.link-is (record {
            asked = asked_more c.link_calls_add_up.ensures _ _ _ _ _ _ _ _ _ _ _ _ (item.Datagram next.whole) _ heard.0 c.loop.invariant.asked one heard.1 (sym heard.2 ∙ none_if _ w.in_default.not-Some) next.first w.in-Datagram.ensures.unsent;
            sound = w.in-Datagram.ensures.counted ∙ c.loop.invariant.sound;
            room = size;
            unput = c.loop.invariant.unput;
          })
      | in-Quiet+in-Ok-send w ↦
          rw w.link-is (record {
            asked =
                asked_again c.link_calls_add_up.ensures _ _ _ _ _ _ _ _ _ _ _ _ _ _ _ _ c.loop.invariant.asked w.in-Quiet.ensures.next w.in-Quiet.ensures.unsent w.in-Ok-send.ensures.untaken
                (request_post c.args.words.now c.args.request.now c.requires.request) w.in-Ok-send.ensures.sent;
            sound = w.in-Ok-send.ensures.counted ∙ w.in-Quiet.ensures.counted ∙ c.loop.invariant.sound;
            room = size;
            unput = c.loop.invariant.unput;
          })
    ]
