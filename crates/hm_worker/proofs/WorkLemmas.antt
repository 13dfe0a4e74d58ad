-- What one take adds to a worker's work.
use Rattle.std.proofs.Common.{◌≡◌, ◌≢◌, ℕ, ◌+◌, ◌<◌, ◌≤◌, List, [], ◌∷◌, ◌++◌, length, take, Option, Some, None, Err, refl, sym, ap, ◌∙◌, subst, inl, inr, arith}
use Rattle.std.specs.List.{AllByRecursion}
use Rattle.std.proofs.lemmas.List.{append_assoc, append-nil, length-append, map-append}
use Rattle.hm_base.specs.declared.node.Node.{Node}
use Rattle.hm_frame.specs.LinkCalls.{LinkCallsAddUp}
use Rattle.hm_frame.specs.Links.{Loses, Gets, Keeps, TakesDatagram, max_datagram_len}
use Rattle.hm_frame.specs.declared.datagram.Item.{Item}
use Rattle.hm_frame.specs.declared.datagram.Item.TheVariants as item
use Rattle.hm_frame.specs.declared.datagram.Posted.{Posted}
use Rattle.hm_outside.specs.Faults.{one_more}
use Rattle.hm_packet.specs.declared.turn.Turn.{Turn}
use Rattle.hm_packet.specs.declared.turn.Turn.TheVariants as turn
use Rattle.hm_packet.specs.Messages.{Message}
use Rattle.hm_wire.specs.Packets.{spelling}
use Rattle.hm_shared.specs.declared.book.Turned.{Turned}
use Rattle.hm_shared.specs.BookState.{BookState}
use Rattle.hm_shared.specs.Books.{Holds, TakesTurn}
use Rattle.hm_shared.specs.History.{SwitchSetup, SwitchTurn, IsLegalHistory}
use Rattle.hm_worker.specs.Heard.{Heard}
use Rattle.hm_worker.specs.declared.worker_end.WorkerEnd.{WorkerEnd}
use Rattle.hm_worker.specs.declared.worker_end.WorkerEnd.TheVariants as end
use Rattle.hm_worker.specs.Posts.{post_of, posts_of, Says, IsHeard, AreHeard}
use Rattle.hm_worker.specs.Working.{packets_in, packets_of, sent_by, sent_in, Work, HasWorked, HasTurned, HasNotSent, HasSpent, Ends, Goes}

packets_push : (hs : List Heard) (h : Heard) → packets_in (hs ++ h ∷ []) ≡ packets_in hs ++ packets_in (h ∷ [])
packets_push [] h = refl
packets_push (Heard.Packet m ∷ hs) h = ap (λ (l : List Message). m ∷ l) (packets_push hs h)
packets_push (Heard.Malformed ∷ hs) h = packets_push hs h
packets_push (Heard.Quiet ∷ hs) h = packets_push hs h

sent_push : (ts : List SwitchTurn) (t : SwitchTurn) → sent_in (ts ++ t ∷ []) ≡ sent_in ts ++ sent_by t.answer
sent_push [] t = append-nil (sent_by t.answer)
sent_push (u ∷ us) t = ap (λ (l : List Message). sent_by u.answer ++ l) (sent_push us t) ∙ sym (append_assoc (sent_by u.answer) (sent_in us) (sent_by t.answer))

heard_push : (items : List Item) (hs : List Heard) (i : Item) (h : Heard) → AreHeard items hs → IsHeard i h → AreHeard (items ++ i ∷ []) (hs ++ h ∷ [])
heard_push [] [] i h all one = (one, tt)
heard_push [] (x ∷ xs) i h all one = absurd all
heard_push (x ∷ xs) [] i h all one = absurd all
heard_push (x ∷ xs) (y ∷ ys) i h all one = (all.0, heard_push xs ys i h all.1 one)

seats_push : (ts : List SwitchTurn) (t : SwitchTurn) → AllByRecursion (λ (u : SwitchTurn). u.seat ≡ 0) ts → t.seat ≡ 0 → AllByRecursion (λ (u : SwitchTurn). u.seat ≡ 0) (ts ++ t ∷ [])
seats_push [] t all one = (one, tt)
seats_push (u ∷ us) t all one = (all.0, seats_push us t all.1 one)

-- without a take
pub kept : (calls : LinkCallsAddUp) (setup : SwitchSetup) (start mid now : Work) (turns : List SwitchTurn) (over out : List Message) (count : ℕ) → HasWorked setup start mid turns over out count
    → now.took ≡ mid.took → now.sent ≡ mid.sent → Keeps mid.came now.came → Keeps mid.posted now.posted → HasWorked setup start now turns over out count
kept calls setup start mid now turns over out count w took sent came posted = record {
  legal = w.legal;
  seats = w.seats;
  items = w.items;
  heard = w.heard;
  are_heard = w.are_heard;
  counted = w.counted;
  taken = calls.takes_kept start.came mid.came now.came w.items w.taken came;
  packets = w.packets;
  posted = calls.sends_kept start.posted mid.posted now.posted (posts_of out) w.posted posted;
  took = took ∙ w.took;
  sent = sent ∙ w.sent;
}

-- one item more
pub more : (calls : LinkCallsAddUp) (setup : SwitchSetup) (start mid now : Work) (turns after : List SwitchTurn) (over out sends all : List Message) (count : ℕ) (i : Item) (h : Heard) → HasWorked setup start mid turns [] out count
    → IsHeard i h → Loses mid.came now.came (i ∷ []) → Gets mid.posted now.posted (posts_of sends) → all ≡ out ++ sends
    → IsLegalHistory setup after → AllByRecursion (λ (t : SwitchTurn). t.seat ≡ 0) after → packets_of turns ++ packets_in (h ∷ []) ≡ packets_of after ++ over
    → now.took ≡ length after → now.sent ≡ length all → HasWorked setup start now after over all (count + 1)
more calls setup start mid now turns after over out sends all count i h w one came posted whole legal seats packets took sent = record {
  legal = legal;
  seats = seats;
  items = w.items ++ i ∷ [];
  heard = w.heard ++ h ∷ [];
  are_heard = heard_push w.items w.heard i h w.are_heard one;
  counted = length-append w.items (i ∷ []) ∙ ap (λ (n : ℕ). n + 1) w.counted;
  taken = calls.takes_both start.came mid.came now.came w.items (i ∷ []) w.taken came;
  packets = packets_push w.heard h ∙ ap (λ (l : List Message). l ++ packets_in (h ∷ [])) (w.packets ∙ append-nil (packets_of turns)) ∙ packets;
  posted = subst (λ (l : List Posted). Gets start.posted now.posted l) (sym (ap (λ (l : List Message). posts_of l) whole ∙ map-append post_of out sends))
      (calls.sends_both start.posted mid.posted now.posted (posts_of out) (posts_of sends) w.posted posted);
  took = took;
  sent = sent;
}

-- nothing was sent
pub silent : (calls : LinkCallsAddUp) (sent now : Option (List Posted)) → Keeps sent now → Gets sent now []
silent calls sent now same = calls.sends_kept sent sent now [] (calls.sends_none sent) same

-- one item that is no turn
pub more_idle : (calls : LinkCallsAddUp) (setup : SwitchSetup) (start mid now : Work) (turns : List SwitchTurn) (count : ℕ) (i : Item) (h : Heard) → HasTurned setup start mid turns count
    → IsHeard i h → packets_in (h ∷ []) ≡ [] → Loses mid.came now.came (i ∷ []) → Keeps mid.posted now.posted → now.took ≡ mid.took → now.sent ≡ mid.sent → now.faults ≡ mid.faults
    → HasTurned setup start now turns (count + 1)
more_idle calls setup start mid now turns count i h t one none came posted took sent sound = record {
  worked = more calls setup start mid now turns turns [] (sent_in turns) [] (sent_in turns) count i h t.worked one came (silent calls mid.posted now.posted posted) (sym (append-nil (sent_in turns)))
      t.worked.legal t.worked.seats (ap (λ (l : List Message). packets_of turns ++ l) none) (took ∙ t.worked.took) (sent ∙ t.worked.sent);
  sound = sound ∙ t.sound;
}

-- what comes in a datagram, as the buffer's front tells it
pub said : (bytes : List ℕ) (room : ℕ) (coming came : Option (List Item)) (h : Heard) → (d : TakesDatagram bytes room coming came) → room ≡ max_datagram_len → Says bytes h → IsHeard (item.Datagram d.whole) h
said bytes room coming came h d size says = subst (λ (l : List ℕ). Says l h) (d.cut ∙ ap (λ (n : ℕ). take n d.whole) size) says

-- a packet that found the switch spent
pub more_spent : (calls : LinkCallsAddUp) (old new : BookState) (setup : SwitchSetup) (start mid now : Work) (turns : List SwitchTurn) (count : ℕ) (i : Item) (packet : Message) (told : Turned) → HasTurned setup start mid turns count
    → IsHeard i (Heard.Packet packet) → Loses mid.came now.came (i ∷ []) → Keeps mid.posted now.posted → now.took ≡ mid.took → now.sent ≡ mid.sent → now.faults ≡ mid.faults
    → TakesTurn old new told 0 packet setup turns → told.turn ≡ turn.Spent → HasSpent setup start now turns (count + 1)
more_spent calls old new setup start mid now turns count i packet told t one came posted took sent sound step spent = record {
  last = packet;
  whole = step.spent.0 spent;
  worked = more calls setup start mid now turns turns (packet ∷ []) (sent_in turns) [] (sent_in turns) count i (Heard.Packet packet) t.worked one came (silent calls mid.posted now.posted posted)
      (sym (append-nil (sent_in turns))) t.worked.legal t.worked.seats refl (took ∙ t.worked.took) (sent ∙ t.worked.sent);
  sound = sound ∙ t.sound;
}

-- a packet that was a turn
pub more_turn : (calls : LinkCallsAddUp) (old new : BookState) (setup : SwitchSetup) (start mid now : Work) (turns : List SwitchTurn) (count : ℕ) (i : Item) (packet : Message) (told : Turned) (sends : List Message) → HasTurned setup start mid turns count
    → IsHeard i (Heard.Packet packet) → Loses mid.came now.came (i ∷ []) → Gets mid.posted now.posted (posts_of sends)
    → now.took ≡ mid.took + 1 → now.sent ≡ mid.sent + length sends
    → TakesTurn old new told 0 packet setup turns → told.turn ≢ turn.Spent
    → (all : List Message) → all ≡ sent_in turns ++ sends
    → HasWorked setup start now (turns ++ record { seat = 0; packet = packet; answer = told.turn } ∷ []) [] all (count + 1)
more_turn calls old new setup start mid now turns count i packet told sends t one came posted took sent step unspent all whole =
    let last : SwitchTurn = record { seat = 0; packet = packet; answer = told.turn } in
    more calls setup start mid now turns (turns ++ last ∷ []) [] (sent_in turns) sends all count i (Heard.Packet packet) t.worked one came posted whole (step.made unspent).legal (seats_push turns last t.worked.seats refl)
    (sym (map-append (λ (u : SwitchTurn). u.packet) turns (last ∷ [])) ∙ sym (append-nil (packets_of (turns ++ last ∷ []))))
    (took ∙ ap (λ (n : ℕ). n + 1) t.worked.took ∙ sym (length-append turns (last ∷ [])))
    (sent ∙ ap (λ (n : ℕ). n + length sends) t.worked.sent ∙ sym (length-append (sent_in turns) sends) ∙ ap (λ (l : List Message). length l) (sym whole))

-- it was sent, if the switch sent something
pub more_sent : (calls : LinkCallsAddUp) (old new : BookState) (setup : SwitchSetup) (start mid now : Work) (turns : List SwitchTurn) (count : ℕ) (i : Item) (packet : Message) (told : Turned) → HasTurned setup start mid turns count
    → IsHeard i (Heard.Packet packet) → Loses mid.came now.came (i ∷ []) → Gets mid.posted now.posted (posts_of (sent_by told.turn))
    → now.took ≡ mid.took + 1 → now.sent ≡ mid.sent + length (sent_by told.turn) → now.faults ≡ mid.faults
    → TakesTurn old new told 0 packet setup turns → told.turn ≢ turn.Spent
    → HasTurned setup start now (turns ++ record { seat = 0; packet = packet; answer = told.turn } ∷ []) (count + 1)
more_sent calls old new setup start mid now turns count i packet told t one came posted took sent sound step unspent = record {
  worked = more_turn calls old new setup start mid now turns count i packet told (sent_by told.turn) t one came posted took sent step unspent _ (sent_push turns (record { seat = 0; packet = packet; answer = told.turn }));
  sound = sound ∙ t.sound;
}

-- it couldn't be sent
pub more_cut : (calls : LinkCallsAddUp) (old new : BookState) (setup : SwitchSetup) (start mid now : Work) (turns : List SwitchTurn) (count : ℕ) (i : Item) (packet : Message) (told : Turned) (lost : Message) → HasTurned setup start mid turns count
    → IsHeard i (Heard.Packet packet) → Loses mid.came now.came (i ∷ []) → Keeps mid.posted now.posted
    → now.took ≡ mid.took + 1 → now.sent ≡ mid.sent → now.faults ≡ one_more mid.faults
    → TakesTurn old new told 0 packet setup turns → told.turn ≡ turn.Sent lost → told.turn ≢ turn.Spent
    → HasNotSent setup start now (turns ++ record { seat = 0; packet = packet; answer = told.turn } ∷ []) (count + 1)
more_cut calls old new setup start mid now turns count i packet told lost t one came posted took sent failed step sends unspent = record {
  earlier = turns;
  last = record { seat = 0; packet = packet; answer = told.turn };
  packet = lost;
  last_is = refl;
  sends = sends;
  worked = more_turn calls old new setup start mid now turns count i packet told [] t one came (silent calls mid.posted now.posted posted) took (sent ∙ (let e : mid.sent ≡ mid.sent + 0 = omega arith in e)) step unspent (sent_in turns) (sym (append-nil (sent_in turns)));
  failed = failed ∙ ap one_more t.sound;
}

pub start_turned : (calls : LinkCallsAddUp) (setup : SwitchSetup) (start : Work) → start.took ≡ 0 → start.sent ≡ 0 → HasTurned setup start start [] 0
start_turned calls setup start took sent = record {
  worked = record {
    legal = tt;
    seats = tt;
    items = [];
    heard = [];
    are_heard = tt;
    counted = refl;
    taken = calls.takes_none start.came;
    packets = refl;
    posted = calls.sends_none start.posted;
    took = took;
    sent = sent;
  };
  sound = refl;
}

sends_one : (answer : Turn) → length (sent_by answer) ≤ 1
sends_one (turn.Sent m) = omega arith
sends_one turn.Noted = omega arith
sends_one (turn.Ignored why) = omega arith
sends_one turn.Full = omega arith
sends_one turn.Spent = omega arith

-- a turn sends one packet at most
pub sent_few : (turns : List SwitchTurn) → length (sent_in turns) ≤ length turns
sent_few [] = omega arith
sent_few (t ∷ ts) = omega (arith, length-append (sent_by t.answer) (sent_in ts), sends_one t.answer, sent_few ts)

-- a take that ended the work
pub ends : (T : Type 0) (e : WorkerEnd) (book : BookState) (setup : SwitchSetup) (start now : Work) (count most : ℕ) → count < most → Goes {T = T} (Err e) book setup start now count
    → (turns : List SwitchTurn) × Holds book setup turns × Ends e setup start now turns most
ends T end.Ended book setup start now count most lt g = (g.0, g.1, (g.2, count, lt, g.3))
ends T end.TurnsSpent book setup start now count most lt g = absurd g
ends T end.SwitchSpent book setup start now count most lt g = let le : count + 1 ≤ most = omega (arith, lt) in (g.0, g.1, (count + 1, le, g.2))
ends T end.LinkFault book setup start now count most lt g =
    let le : count + 1 ≤ most = omega (arith, lt) in (
      g.0,
      g.1,
      elim g.2 [
        | inl failed ↦ inl (count, lt, failed)
        | inr failed ↦ inr (count + 1, le, failed)
      ],
    )

-- a turn that sent nothing
pub no_send : (answer : Turn) → ((m : Message) → answer ≡ turn.Sent m → ⊥) → sent_by answer ≡ []
no_send (turn.Sent m) h = absurd (h m refl)
no_send turn.Noted h = refl
no_send (turn.Ignored why) h = refl
no_send turn.Full h = refl
no_send turn.Spent h = refl

abbrev post_at : Node → List ℕ → Posted
post_at dst bytes = record { dst = dst; bytes = bytes }

-- a turn whose packet was sent
pub posted_one : (calls : LinkCallsAddUp) (sent now later : Option (List Posted)) (answer : Turn) (m : Message) (dst : Node) (bytes : List ℕ) → answer ≡ turn.Sent m → Keeps sent now
    → Gets now later (record { dst = dst; bytes = bytes } ∷ []) → dst ≡ m.dst → bytes ≡ spelling m → Gets sent later (posts_of (sent_by answer))
posted_one calls sent now later answer m dst bytes is unsent one to spelled =
    let post : Posted = record { dst = dst; bytes = bytes } in
    let same : post ≡ post_of m = ap (λ (n : Node). post_at n bytes) to ∙ ap (λ (l : List ℕ). post_at m.dst l) spelled in
    let sends : posts_of (sent_by answer) ≡ post_of m ∷ [] = ap (λ (a : Turn). posts_of (sent_by a)) is in
    subst (λ (l : List Posted). Gets sent later l) (ap (λ (p : Posted). p ∷ []) same ∙ sym sends)
    (calls.sends_both sent now later [] (post ∷ []) (silent calls sent now unsent) one)

-- what stays in two calls
pub kept_twice : (sent now later : Option (List Posted)) → Keeps sent now → Keeps now later → Keeps sent later
kept_twice None now later a b = tt
kept_twice (Some old) None later a b = absurd a
kept_twice (Some old) (Some now) None a b = absurd b
kept_twice (Some old) (Some now) (Some later) a b = b ∙ a
