use Rattle.std.proofs.Common.{◌≡◌, ◌≢◌, ◌≤◌, ◌+◌, List, [], ◌∷◌, ◌++◌, length, refl, sym, ap, subst, ◌∙◌, inr, arith}
use Rattle.std.specs.Prelude.{IsSome}
use Rattle.hm_frame.specs.Links.{Gets, max_datagram_len}
use Rattle.hm_frame.specs.declared.datagram.Item.TheVariants as item
use Rattle.hm_outside.specs.Faults.{one_more}
use Rattle.hm_packet.specs.declared.turn.Turn.{Turn}
use Rattle.hm_packet.specs.declared.turn.Turn.TheVariants as turn
use Rattle.hm_packet.specs.Messages.{Message}
use Rattle.hm_shared.specs.BookState.{BookState}
use Rattle.hm_shared.specs.Books.{Holds}
use Rattle.hm_worker.specs.Heard.{Heard}
use Rattle.hm_worker.specs.Posts.{posts_of}
use Rattle.hm_worker.specs.Working.{sent_by}
use Rattle.hm_worker.proofs.WorkLemmas.{silent, said, more_idle, more_spent, more_sent, more_cut, sent_few, no_send, posted_one, kept_twice}
use Rattle.hm_worker.proofs.worker.Worker.turn.Goals as goal

pub returns-in-Quiet : goal.returns-in-Quiet
returns-in-Quiet g c = λ setup start turns count holds t. (
  turns,
  holds,
  more_idle c.link_calls_add_up.ensures setup start _ _ turns count item.Quiet Heard.Quiet t tt refl c.in-Quiet.ensures.next c.in-Quiet.ensures.unsent refl refl c.in-Quiet.ensures.counted,
)

pub returns-in-Err : goal.returns-in-Err
returns-in-Err g c = λ setup start turns count holds t.
    let d = c.in-Datagram.ensures.next in
    let size : length c.take.new.buf ≡ max_datagram_len = omega (arith, c.take.auto.buf, c.requires) in (
      turns,
      holds,
      more_idle c.link_calls_add_up.ensures setup start _ _ turns count (item.Datagram d.whole) Heard.Malformed t
          (said _ _ _ _ Heard.Malformed d size (subst (λ o. IsSome o) (sym c.in-Err.ensures.err) refl)) refl d.first c.in-Datagram.ensures.unsent refl refl c.in-Datagram.ensures.counted,
    )

pub returns-in-Spent : goal.returns-in-Spent
returns-in-Spent g c = λ setup start turns count holds t.
    let d = c.in-Datagram.ensures.next in
    let size : length c.take.new.buf ≡ max_datagram_len = omega (arith, c.take.auto.buf, c.requires) in
    let step = c.turn-turn.ensures setup turns holds in (
      turns,
      subst (λ (b : BookState). Holds b setup turns) (sym (step.kept c.in-Spent.is)) holds,
      more_spent c.link_calls_add_up.ensures _ _ setup start _ _ turns count (item.Datagram d.whole) c.decode.new.packet c.turn-turn.result t
          (said _ _ _ _ (Heard.Packet c.decode.new.packet) d size (c.in-Ok.ensures.lawful, c.in-Ok.ensures.ok)) d.first c.in-Datagram.ensures.unsent refl refl c.in-Datagram.ensures.counted step c.in-Spent.is,
    )

pub returns-in_default-turn : goal.returns-in_default-turn
returns-in_default-turn g c = λ setup start turns count holds t.
    let d = c.in-Datagram.ensures.next in
    let size : length c.take.new.buf ≡ max_datagram_len = omega (arith, c.take.auto.buf, c.requires) in
    let step = c.turn-turn.ensures setup turns holds in
    let unspent : c.turn-turn.result.turn ≢ turn.Spent = c.in_default.not-Spent in
    let heard = said _ _ _ _ (Heard.Packet c.decode.new.packet) d size (c.in-Ok.ensures.lawful, c.in-Ok.ensures.ok) in
    let took : c.from.result + 1 ≡ c.args.self.now.took + 1 = omega (arith, c.from.ensures, step.place, t.worked.took) in
    let none : sent_by c.turn-turn.result.turn ≡ [] = no_send c.turn-turn.result.turn c.in_default-turn.not-Sent in
    let same : c.args.self.now.sent ≡ c.args.self.now.sent + 0 = omega arith in (
      turns ++ record { seat = 0; packet = c.decode.new.packet; answer = c.turn-turn.result.turn } ∷ [],
      step.made unspent,
      more_sent c.link_calls_add_up.ensures _ _ setup start _ _ turns count (item.Datagram d.whole) c.decode.new.packet c.turn-turn.result t heard d.first
          (subst (λ (l : List Message). Gets (g.L.Link.sent c.args.self.now.link) (g.L.Link.sent c.take.new.self) (posts_of l)) (sym none) (silent c.link_calls_add_up.ensures _ _ c.in-Datagram.ensures.unsent)) took
          (same ∙ ap (λ (l : List Message). c.args.self.now.sent + length l) (sym none)) c.in-Datagram.ensures.counted step unspent,
    )

pub returns-in-Err-send : goal.returns-in-Err-send
returns-in-Err-send g c = λ setup start turns count holds t.
    let d = c.in-Datagram.ensures.next in
    let size : length c.take.new.buf ≡ max_datagram_len = omega (arith, c.take.auto.buf, c.requires) in
    let step = c.turn-turn.ensures setup turns holds in
    let unspent : c.turn-turn.result.turn ≢ turn.Spent = c.in_default.not-Spent in
    let heard = said _ _ _ _ (Heard.Packet c.decode.new.packet) d size (c.in-Ok.ensures.lawful, c.in-Ok.ensures.ok) in
    let took : c.from.result + 1 ≡ c.args.self.now.took + 1 = omega (arith, c.from.ensures, step.place, t.worked.took) in (
      turns ++ record { seat = 0; packet = c.decode.new.packet; answer = c.turn-turn.result.turn } ∷ [],
      step.made unspent,
      inr (more_cut c.link_calls_add_up.ensures _ _ setup start _ _ turns count (item.Datagram d.whole) c.decode.new.packet c.turn-turn.result c.in-Sent.packet t heard
          (c.link_calls_add_up.ensures.takes_kept _ _ _ _ d.first c.in-Err-send.ensures.untaken)
          (kept_twice _ _ _ c.in-Datagram.ensures.unsent c.in-Err-send.ensures.sent) took refl (c.in-Err-send.ensures.counted ∙ ap one_more c.in-Datagram.ensures.counted) step c.in-Sent.is unspent),
    )

pub returns-in-Ok-send : goal.returns-in-Ok-send
returns-in-Ok-send g c = λ setup start turns count holds t.
    let d = c.in-Datagram.ensures.next in
    let size : length c.take.new.buf ≡ max_datagram_len = omega (arith, c.take.auto.buf, c.requires) in
    let step = c.turn-turn.ensures setup turns holds in
    let unspent : c.turn-turn.result.turn ≢ turn.Spent = c.in_default.not-Spent in
    let heard = said _ _ _ _ (Heard.Packet c.decode.new.packet) d size (c.in-Ok.ensures.lawful, c.in-Ok.ensures.ok) in
    let took : c.from.result + 1 ≡ c.args.self.now.took + 1 = omega (arith, c.from.ensures, step.place, t.worked.took) in
    let few : c.args.self.now.sent ≤ c.turn-turn.result.place = omega (arith, t.worked.sent, sent_few turns, step.place) in
    let sends : c.sent_after-self.result ≡ c.args.self.now.sent + 1 = c.sent_after-self.ensures few in (
      turns ++ record { seat = 0; packet = c.decode.new.packet; answer = c.turn-turn.result.turn } ∷ [],
      step.made unspent,
      more_sent c.link_calls_add_up.ensures _ _ setup start _ _ turns count (item.Datagram d.whole) c.decode.new.packet c.turn-turn.result t heard
          (c.link_calls_add_up.ensures.takes_kept _ _ _ _ d.first c.in-Ok-send.ensures.untaken)
          (posted_one c.link_calls_add_up.ensures _ _ _ c.turn-turn.result.turn c.in-Sent.packet _ _ c.in-Sent.is c.in-Datagram.ensures.unsent c.in-Ok-send.ensures.sent
          (ap (λ (m : Message). m.dst) c.packet.view_is) (c.as_slice.ensures.same ∙ c.encode.ensures.spelled)) took
          (sends ∙ ap (λ (l : List Message). c.args.self.now.sent + length l) (sym (ap (λ (a : Turn). sent_by a) c.in-Sent.is)))
          (c.in-Ok-send.ensures.counted ∙ c.in-Datagram.ensures.counted) step unspent,
    )
