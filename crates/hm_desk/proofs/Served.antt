-- How far the service's daemon has come, order by order.
use Rattle.std.proofs.Common.{◌≡◌, ◌≢◌, ℕ, ◌+◌, ◌<◌, List, [], ◌∷◌, ◌++◌, length, Option, Some, Err, refl, sym, ap, subst, ◌∙◌, inl, inr, append_assoc, arith}
use Rattle.std.specs.Io.KnownBytes.{Appends, Consumes}
use Rattle.std.specs.List.{AllByRecursion}
use Rattle.std.proofs.lemmas.Grind.{flat_map-append}
use Rattle.std.proofs.lemmas.List.{append-nil, length-append, map-append}
use Rattle.std.proofs.lemmas.List.Elements.{All-nil}
use Rattle.hm_base.specs.Lists.{IsPrefix}
use Rattle.hm_frame.specs.LinkCalls.{LinkCallsAddUp}
use Rattle.hm_frame.specs.Links.{Gets, Keeps}
use Rattle.hm_frame.specs.declared.datagram.Posted.{Posted}
use Rattle.hm_outside.specs.Calls.{CallsAddUp}
use Rattle.hm_outside.specs.Faults.{one_more}
use Rattle.hm_packet.specs.Messages.{Message}
use Rattle.hm_rules.specs.Service.{Service}
use Rattle.hm_schedule.specs.Lines.{Moves}
use Rattle.hm_schedule.specs.declared.line.LineReason.{LineReason}
use Rattle.hm_worker.specs.Posts.{post_of, posts_of}
use Rattle.hm_daemon.specs.declared.status.NodeStatus.{NodeStatus}
use Rattle.hm_daemon.specs.declared.status.NodeStatus.TheVariants as status
use Rattle.hm_desk.specs.Deeds.{Deed, Takes, after, does, lines_of, order_of, orders_of, outcome_line, outs_of}
use Rattle.hm_desk.specs.Devices.{Devices, HasDone, IsSound, LinkState, SinkState, SourceState}
use Rattle.hm_desk.specs.Ends.{Ends, BreaksOff, EndsUntaken, EndsUnsent, HasServed}
use Rattle.hm_operator.specs.Orders.{IsLawful, order_line, orders_text}
use Rattle.hm_desk.specs.Steps.{Acts, Comes, ComesBadly, ComesOrder, Goes, HasActed, HasNotSent, HasNotTaken, HasPut}
use Rattle.hm_operator.specs.declared.order.Order.{Order}
use Rattle.hm_operator.specs.declared.order.Order.TheVariants as order
use Rattle.hm_desk.proofs.Moves.{told}
use Rattle.hm_desk.proofs.Takes.{takes_both, takes_kept, takes_nothing}

-- ---- one deed more

after_push : (s : Service) (ds : List Deed) (d : Deed) → after s (ds ++ d ∷ []) ≡ (does (after s ds) d).service
after_push s [] d = refl
after_push s (x ∷ ds) d = after_push (does s x).service ds d

outs_push : (s : Service) (ds : List Deed) (d : Deed) → outs_of s (ds ++ d ∷ []) ≡ outs_of s ds ++ (does (after s ds) d).outs
outs_push s [] d = append-nil (does s d).outs
outs_push s (x ∷ ds) d =
    ap (λ (ms : List Message). (does s x).outs ++ ms) (outs_push (does s x).service ds d)
    ∙ sym (append_assoc (does s x).outs (outs_of (does s x).service ds) (does (after (does s x).service ds) d).outs)

lines_push : (s : Service) (ds : List Deed) (d : Deed) → lines_of s (ds ++ d ∷ []) ≡ lines_of s ds ++ outcome_line (does (after s ds) d).came_to
lines_push s [] d = append-nil (outcome_line (does s d).came_to)
lines_push s (x ∷ ds) d =
    ap (λ (l : List ℕ). outcome_line (does s x).came_to ++ l) (lines_push (does s x).service ds d)
    ∙ sym (append_assoc (outcome_line (does s x).came_to) (lines_of (does s x).service ds) (outcome_line (does (after (does s x).service ds) d).came_to))

orders_push : (ds : List Deed) (d : Deed) → orders_of (ds ++ d ∷ []) ≡ orders_of ds ++ order_of d ∷ []
orders_push ds d = map-append order_of ds (d ∷ [])

text_push : (orders : List Order) (o : Order) → orders_text (orders ++ o ∷ []) ≡ orders_text orders ++ order_line o
text_push orders o = flat_map-append order_line orders (o ∷ []) ∙ ap (λ (l : List ℕ). orders_text orders ++ l) (append-nil (order_line o))

lawful_push : (orders : List Order) (o : Order) → AllByRecursion IsLawful orders → IsLawful o → AllByRecursion IsLawful (orders ++ o ∷ [])
lawful_push [] o all one = (one, tt)
lawful_push (x ∷ orders) o all one = (all.0, lawful_push orders o all.1 one)

-- the devices at a moment
abbrev moment : SourceState → LinkState → SinkState → Devices
moment a l j = record { source = a; link = l; sink = j }

-- ---- what is done

-- the same, said otherwise
done_is : (orders others : List Order) (ahead : List ℕ) (ds es : List Deed) (outs sent : List Message) (text put : List ℕ) (old new : Devices) → orders ≡ others → ds ≡ es → outs ≡ sent → text ≡ put
    → HasDone orders ahead ds outs text old new → HasDone others ahead es sent put old new
done_is orders others ahead ds es outs sent text put old new same_orders same_deeds same_outs same_text done = record {
  lawful = subst (λ (os : List Order). AllByRecursion IsLawful os) same_orders done.lawful;
  read = subst (λ (os : List Order). Consumes old.source.left new.source.left (orders_text os ++ ahead)) same_orders done.read;
  taken = subst (λ (xs : List Deed). Takes xs old.link.coming new.link.coming) same_deeds done.taken;
  sent = subst (λ (ms : List Message). Gets old.link.sent new.link.sent (posts_of ms)) same_outs done.sent;
  written = subst (λ (l : List ℕ). Appends old.sink.held new.sink.held l) same_text done.written;
}

-- bytes were read, of which some were cut off
read_cut : CallsAddUp → (orders : List Order) (ahead later cut : List ℕ) (left between now : Option (List ℕ)) → Consumes left between (orders_text orders ++ ahead) → Moves ahead later between now cut
    → Consumes left now (orders_text orders ++ (cut ++ later))
read_cut calls orders ahead later cut left between now read m =
    subst (λ (l : List ℕ). Consumes left now l) (append_assoc (orders_text orders) ahead m.taken ∙ ap (λ (l : List ℕ). orders_text orders ++ l) m.parts)
    (calls.takes_both left between now (orders_text orders ++ ahead) m.taken read m.source)

done_cut : CallsAddUp → (orders : List Order) (ahead later cut : List ℕ) (ds : List Deed) (outs : List Message) (text : List ℕ) (old : Devices) (a b : SourceState) (l : LinkState) (j : SinkState)
    → HasDone orders ahead ds outs text old (moment a l j) → Moves ahead later a.left b.left cut → HasDone orders (cut ++ later) ds outs text old (moment b l j)
done_cut calls orders ahead later cut ds outs text old a b l j done m = record {
  lawful = done.lawful;
  read = read_cut calls orders ahead later cut old.source.left a.left b.left done.read m;
  taken = done.taken;
  sent = done.sent;
  written = done.written;
}

-- the line of one more order was read
done_order : CallsAddUp → (orders : List Order) (o : Order) (ahead later : List ℕ) (ds : List Deed) (outs : List Message) (text : List ℕ) (old : Devices) (a b : SourceState) (l : LinkState) (j : SinkState)
    → HasDone orders ahead ds outs text old (moment a l j) → ComesOrder o ahead later a b → HasDone (orders ++ o ∷ []) later ds outs text old (moment b l j)
done_order calls orders o ahead later ds outs text old a b l j done comes = record {
  lawful = lawful_push orders o done.lawful comes.lawful;
  read =
      subst (λ (l : List ℕ). Consumes old.source.left b.left l) (sym (ap (λ (l : List ℕ). l ++ later) (text_push orders o) ∙ append_assoc (orders_text orders) (order_line o) later))
      (read_cut calls orders ahead later (order_line o) old.source.left a.left b.left done.read comes.moves);
  taken = done.taken;
  sent = done.sent;
  written = done.written;
}

-- more was taken, sent and put
done_more : CallsAddUp → LinkCallsAddUp → (orders : List Order) (ahead : List ℕ) (ds more : List Deed) (outs sent : List Message) (text put : List ℕ) (old : Devices) (a : SourceState) (l m : LinkState) (j k : SinkState)
    → HasDone orders ahead ds outs text old (moment a l j) → Takes more l.coming m.coming → Gets l.sent m.sent (posts_of sent) → Appends j.held k.held put
    → HasDone orders ahead (ds ++ more) (outs ++ sent) (text ++ put) old (moment a m k)
done_more calls links orders ahead ds more outs sent text put old a l m j k done takes gets puts = record {
  lawful = done.lawful;
  read = done.read;
  taken = takes_both ds more old.link.coming l.coming m.coming done.taken takes;
  sent =
      subst (λ (ps : List Posted). Gets old.link.sent m.sent ps) (sym (map-append post_of outs sent))
      (links.sends_both old.link.sent l.sent m.sent (posts_of outs) (posts_of sent) done.sent gets);
  written = calls.puts_both old.sink.held j.held k.held text put done.written puts;
}

-- nothing more was
done_same : CallsAddUp → LinkCallsAddUp → (orders : List Order) (ahead : List ℕ) (ds : List Deed) (outs : List Message) (text : List ℕ) (old : Devices) (a : SourceState) (l m : LinkState) (j k : SinkState)
    → HasDone orders ahead ds outs text old (moment a l j) → Keeps l.coming m.coming → Keeps l.sent m.sent → Appends j.held k.held [] → HasDone orders ahead ds outs text old (moment a m k)
done_same calls links orders ahead ds outs text old a l m j k done untaken unsent unput = record {
  lawful = done.lawful;
  read = done.read;
  taken = takes_kept ds old.link.coming l.coming m.coming done.taken untaken;
  sent = links.sends_kept old.link.sent l.sent m.sent (posts_of outs) done.sent unsent;
  written = subst (λ (t : List ℕ). Appends old.sink.held k.held t) (append-nil text) (calls.puts_both old.sink.held j.held k.held text [] done.written unput);
}

-- ---- order by order

-- so many orders were served, and the service is this one now
pub record HasCome (s now : Service) (count : ℕ) (ahead : List ℕ) (old new : Devices) : Type 0 where
  pub deeds : List Deed
  pub counted : length deeds ≡ count
  pub standing : now ≡ after s deeds
  pub done : HasServed s deeds ahead old new

-- and one more was read
pub record HasOrder (s now : Service) (count : ℕ) (o : Order) (ahead : List ℕ) (old new : Devices) : Type 0 where
  pub deeds : List Deed
  pub counted : length deeds ≡ count
  pub standing : now ≡ after s deeds
  pub done : HasDone (orders_of deeds ++ o ∷ []) ahead deeds (outs_of s deeds) (lines_of s deeds) old new

module _ (calls : CallsAddUp) (links : LinkCallsAddUp) (s : Service) (old : Devices) where
  come_first : HasCome s s 0 [] old old
  come_first = record {
    deeds = [];
    counted = refl;
    standing = refl;
    done = record {
      lawful = tt;
      read = calls.takes_none old.source.left;
      taken = takes_nothing old.link.coming;
      sent = links.sends_none old.link.sent;
      written = calls.puts_none old.sink.held;
    };
  }

  pub come_start : (ahead : List ℕ) → ahead ≡ [] → HasCome s s 0 ahead old old
  come_start ahead none = subst (λ (f : List ℕ). HasCome s s 0 f old old) (sym none) come_first

  module _ (now : Service) (count : ℕ) (a : SourceState) (l : LinkState) (j : SinkState) where
    pub order_read : (o : Order) (ahead later : List ℕ) (b : SourceState) → HasCome s now count ahead old (moment a l j) → ComesOrder o ahead later a b → HasOrder s now count o later old (moment b l j)
    order_read o ahead later b come comes = record {
      deeds = come.deeds;
      counted = come.counted;
      standing = come.standing;
      done = done_order calls (orders_of come.deeds) o ahead later come.deeds (outs_of s come.deeds) (lines_of s come.deeds) old a b l j come.done comes;
    }

    -- what one more deed makes of what was done
    deed_done : (o : Order) (ahead : List ℕ) (m : LinkState) (k : SinkState) (deed : Deed) (sent : List Message) (put : List ℕ) (h : HasOrder s now count o ahead old (moment a l j))
        → order_of deed ≡ o → Takes (deed ∷ []) l.coming m.coming → Gets l.sent m.sent (posts_of sent) → Appends j.held k.held put
        → HasDone (orders_of (h.deeds ++ deed ∷ [])) ahead (h.deeds ++ deed ∷ []) (outs_of s h.deeds ++ sent) (lines_of s h.deeds ++ put) old (moment a m k)
    deed_done o ahead m k deed sent put h is takes gets puts =
        done_is _ _ ahead _ _ _ _ _ _ old (moment a m k) (ap (λ (x : Order). orders_of h.deeds ++ x ∷ []) (sym is) ∙ sym (orders_push h.deeds deed)) refl refl refl
        (done_more calls links (orders_of h.deeds ++ o ∷ []) ahead h.deeds (deed ∷ []) (outs_of s h.deeds) sent (lines_of s h.deeds) put old a l m j k h.done takes gets puts)

    -- all that the deed sends was sent
    acted_done : (o : Order) (ahead : List ℕ) (m : LinkState) (k : SinkState) (deed : Deed) (put : List ℕ) (h : HasOrder s now count o ahead old (moment a l j)) → HasActed o deed now l m → Appends j.held k.held put
        → HasDone (orders_of (h.deeds ++ deed ∷ [])) ahead (h.deeds ++ deed ∷ []) (outs_of s (h.deeds ++ deed ∷ [])) (lines_of s h.deeds ++ put) old (moment a m k)
    acted_done o ahead m k deed put h acted puts =
        done_is _ _ ahead _ _ _ _ _ _ old (moment a m k) refl refl (ap (λ (x : Service). outs_of s h.deeds ++ (does x deed).outs) h.standing ∙ sym (outs_push s h.deeds deed)) refl
        (deed_done o ahead m k deed (does now deed).outs put h acted.order_is acted.taken acted.sent puts)

    longer : (ds : List Deed) (d : Deed) → length ds ≡ count → length (ds ++ d ∷ []) ≡ count + 1
    longer ds d counted = omega (arith, length-append ds (d ∷ []), counted)

    pub order_served : (o : Order) (ahead : List ℕ) (next : Service) (m : LinkState) (k : SinkState) → HasOrder s now count o ahead old (moment a l j) → Acts o now l m (λ deed. (next ≡ (does now deed).service) × HasPut (outcome_line (does now deed).came_to) j k)
        → HasCome s next (count + 1) ahead old (moment a m k)
    order_served o ahead next m k h goes =
        let deed = goes.deed in
        record {
          deeds = h.deeds ++ deed ∷ [];
          counted = longer h.deeds deed h.counted;
          standing = goes.told.0 ∙ ap (λ (x : Service). (does x deed).service) h.standing ∙ sym (after_push s h.deeds deed);
          done =
              done_is _ _ ahead _ _ _ _ _ _ old (moment a m k) refl refl refl
              (ap (λ (x : Service). lines_of s h.deeds ++ outcome_line (does x deed).came_to) h.standing ∙ sym (lines_push s h.deeds deed))
              (acted_done o ahead m k deed (outcome_line (does now deed).came_to) h goes.acted goes.told.1.written);
        }

    -- ---- how it ends

    module _ (turns : ℕ) (few : count < turns) (sound : IsSound old (moment a l j)) where
      untaken_end : (o : Order) (ahead : List ℕ) (m : LinkState) (k : SinkState) → HasOrder s now count o ahead old (moment a l j) → HasNotTaken o l m → Appends j.held k.held [] → EndsUntaken s turns old (moment a m k)
      untaken_end o ahead m k h cut unput = record {
        deeds = h.deeds;
        ahead = ahead;
        few = omega (arith, h.counted, few);
        done =
            done_same calls links (orders_of h.deeds ++ order.Take ∷ []) ahead h.deeds (outs_of s h.deeds) (lines_of s h.deeds) old a l m j k
            (subst (λ (x : Order). HasDone (orders_of h.deeds ++ x ∷ []) ahead h.deeds (outs_of s h.deeds) (lines_of s h.deeds) old (moment a l j)) cut.order_is h.done) cut.untaken cut.unsent unput;
      }

      unsent_end : (o : Order) (ahead : List ℕ) (m : LinkState) (k : SinkState) → HasOrder s now count o ahead old (moment a l j) → HasNotSent o now l m → Appends j.held k.held [] → EndsUnsent s turns old (moment a m k)
      unsent_end o ahead m k h cut unput = record {
        deeds = h.deeds;
        last = cut.deed;
        ahead = ahead;
        few = omega (arith, h.counted, few);
        front = cut.front;
        is_front = subst (λ (x : Service). IsPrefix cut.front (does x cut.deed).outs) h.standing cut.is_front;
        done =
            done_is _ _ ahead _ _ _ _ _ _ old (moment a m k) refl refl refl (append-nil (lines_of s h.deeds))
            (deed_done o ahead m k cut.deed cut.front [] h cut.order_is cut.taken cut.sent unput);
      }

      -- the call ends with the status of an order
      pub order_ends : (T : Type 0) (e : NodeStatus) (o : Order) (ahead : List ℕ) (next : Service) (m : LinkState) (k : SinkState) → HasOrder s now count o ahead old (moment a l j) → Goes {T = T} (Err e) o now next l m j k
          → Ends e s turns old (moment a m k)
      order_ends T status.Done o ahead next m k h goes = absurd goes
      order_ends T status.NoReply o ahead next m k h goes = absurd goes
      order_ends T status.BadWords o ahead next m k h goes = absurd goes
      order_ends T (status.BadLine line r) o ahead next m k h goes = absurd goes
      order_ends T status.ReadFault o ahead next m k h goes = absurd goes
      order_ends T status.WriteFault o ahead next m k h goes = record {
        deeds = h.deeds;
        last = goes.deed;
        ahead = ahead;
        few = omega (arith, h.counted, few);
        front = goes.told.front;
        is_front = subst (λ (x : Service). IsPrefix goes.told.front (outcome_line (does x goes.deed).came_to)) h.standing goes.told.is_front;
        done = acted_done o ahead m k goes.deed goes.told.front h goes.acted goes.told.written;
        source = sound.source;
        link = goes.acted.sound ∙ sound.link;
        failed = goes.told.counted ∙ ap one_more sound.sink;
      }
      order_ends T status.TurnsSpent o ahead next m k h goes = absurd goes
      order_ends T status.NoMemory o ahead next m k h goes =
          inr (record {
            deeds = h.deeds;
            last = goes.deed;
            ahead = ahead;
            few = omega (arith, h.counted, few);
            done = done_is _ _ ahead _ _ _ _ _ _ old (moment a m k) refl refl refl (append-nil (lines_of s h.deeds)) (acted_done o ahead m k goes.deed [] h goes.acted goes.told.written);
            sound = record { source = sound.source; link = goes.acted.sound ∙ sound.link; sink = goes.told.sound ∙ sound.sink };
          })
      order_ends T status.SwitchSpent o ahead next m k h goes = absurd goes
      order_ends T status.LinkFault o ahead next m k h goes = record {
        by_then = elim goes.0 [ inl failed ↦ inl (untaken_end o ahead m k h failed goes.2.written) | inr failed ↦ inr (unsent_end o ahead m k h failed goes.2.written) ];
        source = sound.source;
        failed = goes.1 ∙ ap one_more sound.link;
        sink = goes.2.sound ∙ sound.sink;
      }

      -- the bytes behind the orders so far are refused
      breaks_off : (ds : List Deed) (r : LineReason) (ahead later bytes : List ℕ) (b : SourceState) → HasServed s ds ahead old (moment a l j) → ComesBadly r ahead later a b → old.source.left ≡ Some bytes
          → BreaksOff (orders_of ds) r bytes
      breaks_off ds r ahead later bytes b done badly is =
          let t = told bytes (orders_text (orders_of ds) ++ ahead) old.source.left a.left is done.read in
          record { rest = ahead ++ t.rest; parts = t.parts ∙ append_assoc (orders_text (orders_of ds)) ahead t.rest; refused = badly.refused t.rest t.left }

      -- the call ends with the status of reading
      pub reading_ends : (e : NodeStatus) (ahead later : List ℕ) (b : SourceState) → HasCome s now count ahead old (moment a l j) → Comes (Err e) (count + 1) ahead later a b → Ends e s turns old (moment b l j)
      reading_ends status.Done ahead later b come comes = record {
        deeds = come.deeds;
        few = omega (arith, come.counted, few);
        done =
            subst (λ (f : List ℕ). HasServed s come.deeds f old (moment b l j)) comes.finished.none
            (done_cut calls (orders_of come.deeds) ahead later [] come.deeds (outs_of s come.deeds) (lines_of s come.deeds) old a b l j come.done comes.moves);
        end = comes.finished.end;
        sound = record { source = comes.sound ∙ sound.source; link = sound.link; sink = sound.sink };
      }
      reading_ends status.NoReply ahead later b come comes = absurd comes
      reading_ends status.BadWords ahead later b come comes = absurd comes
      reading_ends (status.BadLine line r) ahead later b come comes = record {
        deeds = come.deeds;
        ahead = comes.1.cut ++ later;
        few = omega (arith, come.counted, few);
        line_is = omega (arith, comes.0, come.counted);
        done = done_cut calls (orders_of come.deeds) ahead later comes.1.cut come.deeds (outs_of s come.deeds) (lines_of s come.deeds) old a b l j come.done comes.1.moves;
        breaks = λ bytes is. breaks_off come.deeds r ahead later bytes b come.done comes.1 is;
        sound = record { source = comes.1.sound ∙ sound.source; link = sound.link; sink = sound.sink };
      }
      reading_ends status.ReadFault ahead later b come comes = record {
        deeds = come.deeds;
        part = later;
        few = omega (arith, come.counted, few);
        done = done_cut calls (orders_of come.deeds) ahead later [] come.deeds (outs_of s come.deeds) (lines_of s come.deeds) old a b l j come.done comes.moves;
        within = comes.within;
        failed = comes.failed ∙ ap one_more sound.source;
        link = sound.link;
        sink = sound.sink;
      }
      reading_ends status.WriteFault ahead later b come comes = absurd comes
      reading_ends status.TurnsSpent ahead later b come comes = absurd comes
      reading_ends status.NoMemory ahead later b come comes = absurd comes
      reading_ends status.SwitchSpent ahead later b come comes = absurd comes
      reading_ends status.LinkFault ahead later b come comes = absurd comes

    -- all orders that may be read were
    module _ (turns : ℕ) (all : count ≡ turns) (sound : IsSound old (moment a l j)) where
      pub unread_there : (ahead later : List ℕ) (b : SourceState) → HasCome s now count ahead old (moment a l j) → Moves ahead later a.left b.left [] → later ≡ [] → b.faults ≡ one_more a.faults → Ends status.ReadFault s turns old (moment b l j)
      unread_there ahead later b come moves none failed = record {
        deeds = come.deeds;
        part = [];
        few = omega (arith, come.counted, all);
        done =
            subst (λ (f : List ℕ). HasServed s come.deeds f old (moment b l j)) none
            (done_cut calls (orders_of come.deeds) ahead later [] come.deeds (outs_of s come.deeds) (lines_of s come.deeds) old a b l j come.done moves);
        within = All-nil (λ byte. byte ≢ 10);
        failed = failed ∙ ap one_more sound.source;
        link = sound.link;
        sink = sound.sink;
      }
