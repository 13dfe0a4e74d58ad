-- How far a client's daemon has come.
use Rattle.std.proofs.Common.{◌≡◌, ℕ, ◌+◌, ◌<◌, List, [], ◌∷◌, ◌++◌, length, get_or, take, drop, Option, Some, None, Result, Ok, Err, refl, sym, ap, subst, ◌∙◌, append_assoc, arith}
use Rattle.std.specs.Prelude.{flat_map, OnErr}
use Rattle.std.specs.Io.KnownBytes.{Appends}
use Rattle.std.specs.List.{AllByRecursion}
use Rattle.std.proofs.lemmas.List.{append-nil, length-append, map-append, take_more, take-append-drop}
use Rattle.std.proofs.lemmas.Grind.{flat_map-append}
use Rattle.hm_base.specs.Lists.{IsPrefix}
use Rattle.hm_base.specs.declared.node.Node.{Node}
use Rattle.hm_base.specs.declared.node.Node.TheVariants as node
use Rattle.hm_wire.specs.Packets.{spelling}
use Rattle.hm_packet.specs.Messages.{Message}
use Rattle.hm_packet.specs.declared.body.Body.{Body}
use Rattle.hm_packet.specs.declared.body.Body.TheVariants as body
use Rattle.hm_outside.specs.Faults.{one_more}
use Rattle.hm_frame.specs.LinkCalls.{LinkCallsAddUp}
use Rattle.hm_frame.specs.Links.{Loses, Gets, Keeps}
use Rattle.hm_frame.specs.declared.datagram.Item.{Item}
use Rattle.hm_frame.specs.declared.datagram.Item.TheVariants as item
use Rattle.hm_frame.specs.declared.datagram.Posted.{Posted}
use Rattle.hm_daemon.specs.Asking.{request_of, reply_of, reply_in, again, sends}
use Rattle.hm_daemon.specs.Asks.{HasWaited, HasAsked, HasReply, HasNotHeard, IsCutAsking, IsUnput}
use Rattle.hm_worker.specs.Posts.{post_of, posts_of, Says, IsHeard}
use Rattle.hm_worker.specs.Heard.{Heard}
use Rattle.hm_daemon.specs.declared.words.ClientWords.{ClientWords}
use Rattle.hm_daemon.proofs.ServeLemmas.{heard_more, gets_none, gets_after, loses_none}
use Rattle.hm_packet.specs.declared.body.Reply.{Reply}

-- ---- what is sent again

quiet_more : (w : ClientWords) (heard : List Heard) → again w (heard ++ Heard.Quiet ∷ []) ≡ again w heard ++ request_of w ∷ []
quiet_more w [] = refl
quiet_more w (Heard.Quiet ∷ heard) = ap (λ (ms : List Message). request_of w ∷ ms) (quiet_more w heard)
quiet_more w (Heard.Malformed ∷ heard) = quiet_more w heard
quiet_more w (Heard.Packet m ∷ heard) = quiet_more w heard

packet_more : (w : ClientWords) (heard : List Heard) (m : Message) → again w (heard ++ Heard.Packet m ∷ []) ≡ again w heard
packet_more w [] m = refl
packet_more w (Heard.Quiet ∷ heard) m = ap (λ (ms : List Message). request_of w ∷ ms) (packet_more w heard m)
packet_more w (Heard.Malformed ∷ heard) m = packet_more w heard m
packet_more w (Heard.Packet n ∷ heard) m = packet_more w heard m

malformed_more : (w : ClientWords) (heard : List Heard) → again w (heard ++ Heard.Malformed ∷ []) ≡ again w heard
malformed_more w [] = refl
malformed_more w (Heard.Quiet ∷ heard) = ap (λ (ms : List Message). request_of w ∷ ms) (malformed_more w heard)
malformed_more w (Heard.Malformed ∷ heard) = malformed_more w heard
malformed_more w (Heard.Packet n ∷ heard) = malformed_more w heard

datagram_more : (w : ClientWords) (heard : List Heard) (bytes : List ℕ) (h : Heard) → Says bytes h → again w (heard ++ h ∷ []) ≡ again w heard
datagram_more w heard bytes (Heard.Packet m) says = packet_more w heard m
datagram_more w heard bytes Heard.Malformed says = malformed_more w heard
datagram_more w heard bytes Heard.Quiet says = absurd says

none_more : (w : ClientWords) (heard : List Heard) (h : Heard) → AllByRecursion (λ x. reply_in w x ≡ None) heard → reply_in w h ≡ None → AllByRecursion (λ x. reply_in w x ≡ None) (heard ++ h ∷ [])
none_more w [] h all one = (one, tt)
none_more w (x ∷ heard) h all one = (all.0, none_more w heard h all.1 one)

waited_more : (w : ClientWords) (items : List Item) (heard : List Heard) (came : Item) (h : Heard) → HasWaited w items heard → IsHeard came h → reply_in w h ≡ None → HasWaited w (items ++ came ∷ []) (heard ++ h ∷ [])
waited_more w items heard came h waited one none = record {
  are_heard = heard_more items heard came h waited.are_heard one;
  none = none_more w heard h waited.none none;
}

-- ---- the request

-- it was sent first
pub asked_start : LinkCallsAddUp → (w : ClientWords) (dst : Node) (bytes : List ℕ) (coming came : Option (List Item)) (sent posted : Option (List Posted)) (a b : ℕ)
    → record { dst = dst; bytes = bytes } ≡ post_of (request_of w) → Gets sent posted (record { dst = dst; bytes = bytes } ∷ []) → Keeps coming came
    → HasAsked w 0 (record { coming = coming; came = came; sent = sent; posted = posted; before = a; after = b })
asked_start calls w dst bytes coming came sent posted a b is gets kept = record {
  items = [];
  heard = [];
  waited = record { are_heard = tt; none = tt };
  counted = refl;
  taken = loses_none calls coming came kept;
  sent = subst (λ (p : Posted). Gets sent posted (p ∷ [])) is gets;
}

pub cut_start : LinkCallsAddUp → (w : ClientWords) (coming came : Option (List Item)) (sent posted : Option (List Posted)) (a b : ℕ) → Keeps coming came → Keeps sent posted → b ≡ one_more a
    → IsCutAsking w (record { coming = coming; came = came; sent = sent; posted = posted; before = a; after = b })
cut_start calls w coming came sent posted a b untaken unsent failed = record {
  items = [];
  heard = [];
  waited = record { are_heard = tt; none = tt };
  within = omega arith;
  taken = loses_none calls coming came untaken;
  earlier = [];
  last = refl;
  sent = gets_none calls sent posted unsent;
  failed = failed;
}

-- ---- a datagram that is no reply, and one that is

pub asked_more : LinkCallsAddUp → (w : ClientWords) (count : ℕ) (coming mid came : Option (List Item)) (sent between posted : Option (List Posted)) (a b e f : ℕ) (came_now : Item) (bytes : List ℕ) (h : Heard)
    → HasAsked w count (record { coming = coming; came = mid; sent = sent; posted = between; before = a; after = b })
    → IsHeard came_now h → Says bytes h → reply_in w h ≡ None → Loses mid came (came_now ∷ []) → Keeps between posted
    → HasAsked w (count + 1) (record { coming = coming; came = came; sent = sent; posted = posted; before = e; after = f })
asked_more calls w count coming mid came sent between posted a b e f came_now bytes h asked one says none taken kept = record {
  items = asked.items ++ came_now ∷ [];
  heard = asked.heard ++ h ∷ [];
  waited = waited_more w asked.items asked.heard came_now h asked.waited one none;
  counted = omega (arith, length-append asked.items (came_now ∷ []), asked.counted);
  taken = calls.takes_both coming mid came asked.items (came_now ∷ []) asked.taken taken;
  sent =
      subst (λ (ms : List Message). Gets sent posted (posts_of (request_of w ∷ ms))) (sym (datagram_more w asked.heard bytes h says))
      (calls.sends_kept sent between posted (posts_of (sends w asked.heard)) asked.sent kept);
}

pub replied : LinkCallsAddUp → (w : ClientWords) (reply : Reply) (count : ℕ) (coming mid came : Option (List Item)) (sent between posted : Option (List Posted)) (a b e f : ℕ) (came_now : Item) (h : Heard)
    → HasAsked w count (record { coming = coming; came = mid; sent = sent; posted = between; before = a; after = b })
    → IsHeard came_now h → reply_in w h ≡ Some reply → Loses mid came (came_now ∷ []) → Keeps between posted → count < w.turns → f ≡ e
    → HasReply w reply (record { coming = coming; came = came; sent = sent; posted = posted; before = e; after = f })
replied calls w reply count coming mid came sent between posted a b e f came_now h asked one is taken kept few sound = record {
  items = asked.items;
  heard = asked.heard;
  waited = asked.waited;
  item = came_now;
  last = h;
  is_heard = heard_more asked.items asked.heard came_now h asked.waited.are_heard one;
  reply_is = is;
  within = omega (arith, asked.counted, few);
  taken = calls.takes_both coming mid came asked.items (came_now ∷ []) asked.taken taken;
  sent = calls.sends_kept sent between posted (posts_of (sends w asked.heard)) asked.sent kept;
  sound = sound;
}

-- ---- nothing came

pub asked_again : LinkCallsAddUp → (w : ClientWords) (dst : Node) (bytes : List ℕ) (count : ℕ) (coming mid come came : Option (List Item)) (sent between mid_sent posted : Option (List Posted)) (a b e f : ℕ)
    → HasAsked w count (record { coming = coming; came = mid; sent = sent; posted = between; before = a; after = b })
    → Loses mid come (item.Quiet ∷ []) → Keeps between mid_sent → Keeps come came → record { dst = dst; bytes = bytes } ≡ post_of (request_of w) → Gets mid_sent posted (record { dst = dst; bytes = bytes } ∷ [])
    → HasAsked w (count + 1) (record { coming = coming; came = came; sent = sent; posted = posted; before = e; after = f })
asked_again calls w dst bytes count coming mid come came sent between mid_sent posted a b e f asked taken kept untaken is gets =
    let more : sends w (asked.heard ++ Heard.Quiet ∷ []) ≡ sends w asked.heard ++ request_of w ∷ [] = ap (λ (ms : List Message). request_of w ∷ ms) (quiet_more w asked.heard) in
    record {
      items = asked.items ++ item.Quiet ∷ [];
      heard = asked.heard ++ Heard.Quiet ∷ [];
      waited = waited_more w asked.items asked.heard item.Quiet Heard.Quiet asked.waited tt refl;
      counted = omega (arith, length-append asked.items (item.Quiet ∷ []), asked.counted);
      taken = calls.takes_kept coming come came (asked.items ++ item.Quiet ∷ []) (calls.takes_both coming mid come asked.items (item.Quiet ∷ []) asked.taken taken) untaken;
      sent =
          subst (λ (ps : List Posted). Gets sent posted ps) (sym (ap posts_of more ∙ map-append post_of (sends w asked.heard) (request_of w ∷ [])))
          (calls.sends_both sent between posted (posts_of (sends w asked.heard)) (post_of (request_of w) ∷ []) asked.sent
          (gets_after calls between mid_sent posted (post_of (request_of w) ∷ []) kept (subst (λ (p : Posted). Gets mid_sent posted (p ∷ [])) is gets)));
    }

-- the request wasn't sent again
pub cut_again : LinkCallsAddUp → (w : ClientWords) (count : ℕ) (coming mid come came : Option (List Item)) (sent between mid_sent posted : Option (List Posted)) (a b e f : ℕ)
    → HasAsked w count (record { coming = coming; came = mid; sent = sent; posted = between; before = a; after = b })
    → Loses mid come (item.Quiet ∷ []) → Keeps between mid_sent → Keeps come came → Keeps mid_sent posted → count < w.turns → f ≡ one_more e
    → IsCutAsking w (record { coming = coming; came = came; sent = sent; posted = posted; before = e; after = f })
cut_again calls w count coming mid come came sent between mid_sent posted a b e f asked taken kept untaken unsent few failed =
    let more : sends w (asked.heard ++ Heard.Quiet ∷ []) ≡ sends w asked.heard ++ request_of w ∷ [] = ap (λ (ms : List Message). request_of w ∷ ms) (quiet_more w asked.heard) in
    record {
      items = asked.items ++ item.Quiet ∷ [];
      heard = asked.heard ++ Heard.Quiet ∷ [];
      waited = waited_more w asked.items asked.heard item.Quiet Heard.Quiet asked.waited tt refl;
      within = omega (arith, length-append asked.items (item.Quiet ∷ []), asked.counted, few);
      taken = calls.takes_kept coming come came (asked.items ++ item.Quiet ∷ []) (calls.takes_both coming mid come asked.items (item.Quiet ∷ []) asked.taken taken) untaken;
      earlier = sends w asked.heard;
      last = more;
      sent = calls.sends_kept sent mid_sent posted (posts_of (sends w asked.heard)) (calls.sends_kept sent between mid_sent (posts_of (sends w asked.heard)) asked.sent kept) unsent;
      failed = failed;
    }

-- a take failed
pub not_heard : LinkCallsAddUp → (w : ClientWords) (count : ℕ) (coming mid came : Option (List Item)) (sent between posted : Option (List Posted)) (a b e f : ℕ)
    → HasAsked w count (record { coming = coming; came = mid; sent = sent; posted = between; before = a; after = b }) → Keeps mid came → Keeps between posted → count < w.turns → f ≡ one_more e
    → HasNotHeard w (record { coming = coming; came = came; sent = sent; posted = posted; before = e; after = f })
not_heard calls w count coming mid came sent between posted a b e f asked untaken unsent few failed = record {
  count = count;
  within = few;
  has_asked = record {
    items = asked.items;
    heard = asked.heard;
    waited = asked.waited;
    counted = asked.counted;
    taken = calls.takes_kept coming mid came asked.items asked.taken untaken;
    sent = calls.sends_kept sent between posted (posts_of (sends w asked.heard)) asked.sent unsent;
  };
  failed = failed;
}

-- ---- which packet is the reply

-- a body that is no reply
pub no_reply_body : (w : ClientWords) (b : Body) → ((x : Reply) → b ≡ body.Reply x → ⊥) → reply_of w b ≡ None
no_reply_body w (body.Read x) other = refl
no_reply_body w (body.Write x) other = refl
no_reply_body w (body.Put x) other = refl
no_reply_body w (body.FastRead x) other = refl
no_reply_body w (body.NormalRead x) other = refl
no_reply_body w (body.Done x) other = refl
no_reply_body w (body.Reply x) other = absurd (other x refl)
no_reply_body w (body.Feed x) other = refl
no_reply_body w (body.FeedAck x) other = refl
no_reply_body w (body.Ask x) other = refl
no_reply_body w (body.Known x) other = refl
no_reply_body w (body.StartViewChange x) other = refl
no_reply_body w (body.Vote x) other = refl
no_reply_body w (body.Pull x) other = refl
no_reply_body w (body.Page x) other = refl
no_reply_body w (body.Config x) other = refl
no_reply_body w (body.Route x) other = refl
no_reply_body w (body.Refuse x) other = refl
no_reply_body w (body.Refused x) other = refl

-- ---- pieces of a text

pub more_pieces : {A : Type 0} (f : A → List ℕ) (ps : List A) (i : ℕ) (d : A) → i < length ps → flat_map f (take (i + 1) ps) ≡ flat_map f (take i ps) ++ f (get_or ps i d)
more_pieces f ps i d there =
    ap (flat_map f) (take_more ps i d there) ∙ flat_map-append f (take i ps) (get_or ps i d ∷ []) ∙ ap (λ (l : List ℕ). flat_map f (take i ps) ++ l) (append-nil (f (get_or ps i d)))

pub front_of_pieces : {A : Type 0} (f : A → List ℕ) (ps : List A) (i : ℕ) (d : A) (front : List ℕ) → i < length ps → IsPrefix front (f (get_or ps i d)) → IsPrefix (flat_map f (take i ps) ++ front) (flat_map f ps)
front_of_pieces f ps i d front there p = record {
  rest = p.rest ++ flat_map f (drop (i + 1) ps);
  parts =
      append_assoc (flat_map f (take i ps)) front (p.rest ++ flat_map f (drop (i + 1) ps))
      ∙ ap (λ (l : List ℕ). flat_map f (take i ps) ++ l) (sym (append_assoc front p.rest (flat_map f (drop (i + 1) ps))) ∙ ap (λ (l : List ℕ). l ++ flat_map f (drop (i + 1) ps)) p.parts)
      ∙ sym (append_assoc (flat_map f (take i ps)) (f (get_or ps i d)) (flat_map f (drop (i + 1) ps)))
      ∙ ap (λ (l : List ℕ). l ++ flat_map f (drop (i + 1) ps)) (sym (more_pieces f ps i d there))
      ∙ sym (flat_map-append f (take (i + 1) ps) (drop (i + 1) ps))
      ∙ ap (flat_map f) (take-append-drop (i + 1) ps);
}

pub on_err : {T E : Type 0} (r : Result T E) (P : Type 0) → P → OnErr r P
on_err (Ok x) P p = tt
on_err (Err e) P p = p

pub err_along : {T E : Type 0} (r : Result T E) (held put : Option (List ℕ)) (a b : List ℕ) → a ≡ b
    → OnErr r ((x : List ℕ) × IsPrefix x a × Appends held put x) → OnErr r ((x : List ℕ) × IsPrefix x b × Appends held put x)
err_along r held put a b same failed = subst (λ (l : List ℕ). OnErr r ((x : List ℕ) × IsPrefix x l × Appends held put x)) same failed

-- ---- what isn't done

pub appends_none : (held : Option (List ℕ)) → Appends held held []
appends_none None = tt
appends_none (Some bytes) = sym (append-nil bytes)

pub unput_along : {A : Type 0} (held : A → Option (List ℕ)) (count : A → ℕ) (old new : A) → new ≡ old → IsUnput (record { held = held old; put = held new; before = count old; after = count new })
unput_along held count old new same = record {
  same = subst (λ (put : Option (List ℕ)). Appends (held old) put []) (sym (ap held same)) (appends_none (held old));
  sound = ap count same;
}

pub request_post : (w : ClientWords) (bytes : List ℕ) → bytes ≡ spelling (request_of w) → record { dst = node.Switch w.switch; bytes = bytes } ≡ post_of (request_of w)
request_post w bytes is = rw is refl

-- a line goes to the sink as it was
pub put_along : {A : Type 0} (held : A → Option (List ℕ)) (old mid : A) (put : Option (List ℕ)) (bytes : List ℕ) → mid ≡ old → Appends (held mid) put bytes → Appends (held old) put bytes
put_along held old mid put bytes same written = subst (λ (before : Option (List ℕ)). Appends before put bytes) (ap held same) written

pub none_if : (o : Option Reply) → ((r : Reply) → o ≡ Some r → ⊥) → o ≡ None
none_if None other = refl
none_if (Some r) other = absurd (other r refl)
