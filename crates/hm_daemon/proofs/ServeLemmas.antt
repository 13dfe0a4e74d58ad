-- How far a replica's daemon has come, turn by turn.
use Rattle.std.proofs.Common.{◌≡◌, ℕ, ◌+◌, ◌<◌, List, [], ◌∷◌, ◌++◌, length, take, Option, Result, Ok, Err, refl, sym, ap, subst, ◌∙◌, inl, inr, append_assoc, arith}
use Rattle.std.specs.Prelude.{OnOk, IfErr}
use Rattle.std.proofs.lemmas.List.{append-nil, length-append, map-append}
use Rattle.hm_base.specs.Lists.{IsPrefix}
use Rattle.hm_packet.specs.Messages.{Message}
use Rattle.hm_outside.specs.Faults.{one_more, Counts}
use Rattle.hm_frame.specs.LinkCalls.{LinkCallsAddUp}
use Rattle.hm_frame.specs.Links.{Loses, Gets, Keeps, TakesDatagram, max_datagram_len}
use Rattle.hm_frame.specs.declared.datagram.Item.{Item}
use Rattle.hm_frame.specs.declared.datagram.Item.TheVariants as item
use Rattle.hm_frame.specs.declared.datagram.Posted.{Posted}
use Rattle.hm_base.specs.declared.node.GroupKind.{GroupKind}
use Rattle.hm_codec.specs.declared.acted.Acted.{Acted}
use Rattle.hm_replica.specs.Given.{Gives}
use Rattle.hm_rules.specs.Replica.{Replica}
use Rattle.hm_rules.specs.ReplicaSteps.{Stepped}
use Rattle.hm_worker.specs.Posts.{post_of, posts_of, Says, IsHeard, AreHeard}
use Rattle.hm_daemon.specs.Serves.{Passing, HasServed, IsServing, IsCutServing, Serves, TakesOne, HasTurned, HasNotSent, Turns}
use Rattle.hm_worker.specs.Heard.{Heard}
use Rattle.hm_daemon.specs.Serving.{Serving, stepped, hears, after, outs_of}
use Rattle.hm_daemon.specs.declared.status.NodeStatus.{NodeStatus}
use Rattle.hm_daemon.specs.declared.status.NodeStatus.TheVariants as status

-- ---- links

pub loses_none : LinkCallsAddUp → (coming came : Option (List Item)) → Keeps coming came → Loses coming came []
loses_none calls coming came kept = calls.takes_kept coming coming came [] (calls.takes_none coming) kept

pub gets_none : LinkCallsAddUp → (sent posted : Option (List Posted)) → Keeps sent posted → Gets sent posted []
gets_none calls sent posted kept = calls.sends_kept sent sent posted [] (calls.sends_none sent) kept

-- what is sent after a call that sends nothing
pub gets_after : LinkCallsAddUp → (sent mid posted : Option (List Posted)) (posts : List Posted) → Keeps sent mid → Gets mid posted posts → Gets sent posted posts
gets_after calls sent mid posted posts kept gets = calls.sends_both sent mid posted [] posts (gets_none calls sent mid kept) gets

-- ---- what was heard

pub heard_more : (items : List Item) (heard : List Heard) (came : Item) (h : Heard) → AreHeard items heard → IsHeard came h → AreHeard (items ++ came ∷ []) (heard ++ h ∷ [])
heard_more [] [] came h all one = (one, tt)
heard_more [] (x ∷ heard) came h all one = absurd all
heard_more (i ∷ items) [] came h all one = absurd all
heard_more (i ∷ items) (x ∷ heard) came h all one = (all.0, heard_more items heard came h all.1 one)

pub after_more : (s : Serving) (heard : List Heard) (h : Heard) → after s (heard ++ h ∷ []) ≡ (hears (after s heard) h).serving
after_more s [] h = refl
after_more s (x ∷ heard) h = after_more (hears s x).serving heard h

pub outs_more : (s : Serving) (heard : List Heard) (h : Heard) → outs_of s (heard ++ h ∷ []) ≡ outs_of s heard ++ (hears (after s heard) h).outs
outs_more s [] h = append-nil (hears s h).outs
outs_more s (x ∷ heard) h =
    ap (λ (ms : List Message). (hears s x).outs ++ ms) (outs_more (hears s x).serving heard h)
    ∙ sym (append_assoc (hears s x).outs (outs_of (hears s x).serving heard) (hears (after (hears s x).serving heard) h).outs)

-- a datagram's bytes, as they stand in the buffer, are those that count
pub datagram_heard : (bytes buf : List ℕ) (count : ℕ) (coming mid : Option (List Item)) (h : Heard) → (t : TakesDatagram (take count buf) (length buf) coming mid)
    → length buf ≡ max_datagram_len → bytes ≡ take count buf → Says bytes h → IsHeard (item.Datagram t.whole) h
datagram_heard bytes buf count coming mid h t size is says =
    subst (λ (b : List ℕ). Says b h) (is ∙ t.cut ∙ ap (λ (n : ℕ). take n t.whole) size) says

-- ---- one turn

pub takes_datagram : LinkCallsAddUp → (s now : Serving) (outs : List Message) (bytes buf : List ℕ) (count : ℕ) (coming mid came : Option (List Item)) (h : Heard)
    → TakesDatagram (take count buf) (length buf) coming mid → length buf ≡ max_datagram_len → bytes ≡ take count buf → Says bytes h
    → hears s h ≡ record { serving = now; outs = outs } → Keeps mid came → TakesOne s now outs coming came
takes_datagram calls s now outs bytes buf count coming mid came h t size is says served kept = record {
  item = item.Datagram t.whole;
  heard = h;
  is_heard = datagram_heard bytes buf count coming mid h t size is says;
  taken = calls.takes_kept coming mid came (item.Datagram t.whole ∷ []) t.first kept;
  served = served;
}

pub takes_quiet : LinkCallsAddUp → (s now : Serving) (outs : List Message) (coming mid came : Option (List Item)) → Loses coming mid (item.Quiet ∷ [])
    → hears s Heard.Quiet ≡ record { serving = now; outs = outs } → Keeps mid came → TakesOne s now outs coming came
takes_quiet calls s now outs coming mid came taken served kept = record {
  item = item.Quiet;
  heard = Heard.Quiet;
  is_heard = tt;
  taken = calls.takes_kept coming mid came (item.Quiet ∷ []) taken kept;
  served = served;
}

pub turned : {U : Type 0} → LinkCallsAddUp → (r : Result U NodeStatus) (s now : Serving) (p : Passing) (outs : List Message) (mid : Option (List Posted)) (between : ℕ)
    → TakesOne s now outs p.coming p.came → Keeps p.sent mid → between ≡ p.before
    → OnOk r (Gets mid p.posted (posts_of outs))
    → IfErr r (λ e. (e ≡ status.LinkFault) × ((front : List Message) × IsPrefix front outs × Gets mid p.posted (posts_of front)))
    → Counts between p.after r → Turns r s now p
turned {U} calls (Ok done) s now p outs mid between takes kept same ok err counts =
    record { outs = outs; takes = takes; sent = gets_after calls p.sent mid p.posted (posts_of outs) kept ok; sound = counts ∙ same }
turned {U} calls (Err e) s now p outs mid between takes kept same ok err counts =
    let front = err.1.0 in
    let not_sent : HasNotSent s now p = record { outs = outs; takes = takes; front = front; is_front = err.1.1; sent = gets_after calls p.sent mid p.posted (posts_of front) kept err.1.2 } in
    subst (λ (x : NodeStatus). Turns {T = U} (Err x) s now p) (sym err.0) (inr not_sent, counts ∙ ap one_more same)

-- a step, and what it leaves
pub heard_step : (s : Serving) (left : ℕ) (kind : GroupKind) (replica : Replica) (acted : Acted) (step : Stepped) → kind ≡ s.kind → Gives replica acted step
    → stepped s left step ≡ record { serving = record { kind = kind; patience = s.patience; left = left; replica = replica }; outs = acted.outs }
heard_step s left kind replica acted step of_kind gives = rw (of_kind, gives.replica, gives.outs) refl

-- ---- turn by turn

pub served_start : LinkCallsAddUp → (s : Serving) (coming : Option (List Item)) (sent : Option (List Posted)) (before : ℕ)
    → HasServed s s 0 (record { coming = coming; came = coming; sent = sent; posted = sent; before = before; after = before })
served_start calls s coming sent before = record {
  items = [];
  heard = [];
  are_heard = tt;
  counted = refl;
  taken = calls.takes_none coming;
  sent = calls.sends_none sent;
  standing = refl;
}

pub served_more : LinkCallsAddUp → (s at now : Serving) (count : ℕ) (coming mid came : Option (List Item)) (sent between posted : Option (List Posted)) (a b c d e f : ℕ)
    → HasServed s at count (record { coming = coming; came = mid; sent = sent; posted = between; before = a; after = b })
    → HasTurned at now (record { coming = mid; came = came; sent = between; posted = posted; before = c; after = d })
    → HasServed s now (count + 1) (record { coming = coming; came = came; sent = sent; posted = posted; before = e; after = f })
served_more calls s at now count coming mid came sent between posted a b c d e f h t =
    let one = t.takes in
    let served : hears (after s h.heard) one.heard ≡ record { serving = now; outs = t.outs } = subst (λ (x : Serving). hears x one.heard ≡ record { serving = now; outs = t.outs }) h.standing one.served in
    let outs_are : outs_of s (h.heard ++ one.heard ∷ []) ≡ outs_of s h.heard ++ t.outs = outs_more s h.heard one.heard ∙ ap (λ x. outs_of s h.heard ++ x.outs) served in
    record {
      items = h.items ++ one.item ∷ [];
      heard = h.heard ++ one.heard ∷ [];
      are_heard = heard_more h.items h.heard one.item one.heard h.are_heard one.is_heard;
      counted = omega (arith, length-append h.items (one.item ∷ []), h.counted);
      taken = calls.takes_both coming mid came h.items (one.item ∷ []) h.taken one.taken;
      sent =
          subst (λ (ps : List Posted). Gets sent posted ps) (sym (ap posts_of outs_are ∙ map-append post_of (outs_of s h.heard) t.outs))
          (calls.sends_both sent between posted (posts_of (outs_of s h.heard)) (posts_of t.outs) h.sent t.sent);
      standing = sym (after_more s h.heard one.heard ∙ ap (λ x. x.serving) served);
    }

pub served_kept : LinkCallsAddUp → (s at : Serving) (count : ℕ) (coming mid came : Option (List Item)) (sent between posted : Option (List Posted)) (a b e f : ℕ)
    → HasServed s at count (record { coming = coming; came = mid; sent = sent; posted = between; before = a; after = b }) → Keeps mid came → Keeps between posted
    → HasServed s at count (record { coming = coming; came = came; sent = sent; posted = posted; before = e; after = f })
served_kept calls s at count coming mid came sent between posted a b e f h untaken unsent = record {
  items = h.items;
  heard = h.heard;
  are_heard = h.are_heard;
  counted = h.counted;
  taken = calls.takes_kept coming mid came h.items h.taken untaken;
  sent = calls.sends_kept sent between posted (posts_of (outs_of s h.heard)) h.sent unsent;
  standing = h.standing;
}

pub served_cut : LinkCallsAddUp → (s at now : Serving) (count turns : ℕ) (coming mid came : Option (List Item)) (sent between posted : Option (List Posted)) (a b c d e f : ℕ)
    → HasServed s at count (record { coming = coming; came = mid; sent = sent; posted = between; before = a; after = b })
    → HasNotSent at now (record { coming = mid; came = came; sent = between; posted = posted; before = c; after = d }) → count < turns
    → IsCutServing s turns (record { coming = coming; came = came; sent = sent; posted = posted; before = e; after = f })
served_cut calls s at now count turns coming mid came sent between posted a b c d e f h t few =
    let one = t.takes in
    let served : hears (after s h.heard) one.heard ≡ record { serving = now; outs = t.outs } = subst (λ (x : Serving). hears x one.heard ≡ record { serving = now; outs = t.outs }) h.standing one.served in
    record {
      items = h.items ++ one.item ∷ [];
      earlier = h.heard;
      last = one.heard;
      are_heard = heard_more h.items h.heard one.item one.heard h.are_heard one.is_heard;
      within = omega (arith, length-append h.items (one.item ∷ []), h.counted, few);
      taken = calls.takes_both coming mid came h.items (one.item ∷ []) h.taken one.taken;
      front = t.front;
      is_front = subst (λ (ms : List Message). IsPrefix t.front ms) (sym (ap (λ x. x.outs) served)) t.is_front;
      sent =
          subst (λ (ps : List Posted). Gets sent posted ps) (sym (map-append post_of (outs_of s h.heard) t.front))
          (calls.sends_both sent between posted (posts_of (outs_of s h.heard)) (posts_of t.front) h.sent t.sent);
    }

-- the call ends with the status of a turn
pub served_end : LinkCallsAddUp → (ended : NodeStatus) (s at now : Serving) (count turns : ℕ) (coming mid came : Option (List Item)) (sent between posted : Option (List Posted)) (a b c : ℕ)
    → HasServed s at count (record { coming = coming; came = mid; sent = sent; posted = between; before = a; after = b }) → b ≡ a → count < turns
    → Turns {T = ℕ} (Err ended) at now (record { coming = mid; came = came; sent = between; posted = posted; before = b; after = c })
    → Serves ended s turns (record { coming = coming; came = came; sent = sent; posted = posted; before = a; after = c })
served_end calls ended s at now count turns coming mid came sent between posted a b c h same few = ends_by ended
  where
    serving : Keeps mid came → Keeps between posted → IsServing s turns (record { coming = coming; came = came; sent = sent; posted = posted; before = a; after = c })
    serving untaken unsent = record { last = at; count = count; within = few; has_served = served_kept calls s at count coming mid came sent between posted a b a c h untaken unsent }

    ends_by : (y : NodeStatus) → Turns {T = ℕ} (Err y) at now (record { coming = mid; came = came; sent = between; posted = posted; before = b; after = c })
        → Serves y s turns (record { coming = coming; came = came; sent = sent; posted = posted; before = a; after = c })
    ends_by status.Done t = (serving t.untaken t.unsent, t.dry, t.sound ∙ same)
    ends_by status.NoReply t = absurd t
    ends_by status.BadWords t = absurd t
    ends_by (status.BadLine line reason) t = absurd t
    ends_by status.ReadFault t = absurd t
    ends_by status.WriteFault t = absurd t
    ends_by status.TurnsSpent t = absurd t
    ends_by status.NoMemory t = absurd t
    ends_by status.SwitchSpent t = absurd t
    ends_by status.LinkFault t = (
      elim t.0 [ inl idle ↦ inl (serving idle.untaken idle.unsent) | inr cut ↦ inr (served_cut calls s at now count turns coming mid came sent between posted a b b c a c h cut few) ],
      t.1 ∙ ap one_more same,
    )
