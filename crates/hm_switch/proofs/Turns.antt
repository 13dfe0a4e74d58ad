-- What a switch does, for each abstract switch that it stands for.
use Rattle.std.proofs.Common.{◌≡◌, ℕ, ◌+◌, ◌-◌, ◌<◌, ◌≤◌, Bool, true, false, List, [], ◌∷◌, ◌++◌, length, drop, max, Option, Some, None, refl, sym, ap, ◌∙◌, arith, length-append}
use Rattle.std.specs.Prelude.{not, ◌&&◌, ◌||◌, ◌==◌, nat_lt, nat_le, if◌then◌else◌, is_some, is_none}
use Rattle.std.specs.List.{AllByRecursion}
use Rattle.std.proofs.lemmas.Bool.{both_ways, false≢true, not-true, not-false, and_parts, and_from, lt-ltb, le-ltb, le-leb, eq-eqb, ne_eqb, or_from, not_from_true, not_from_false, cond_both, cond-false}
use Rattle.std.proofs.lemmas.List.{drop_all, drop-append-le, length-drop}
use Rattle.hm_base.specs.Slots.{Slots, live_slots, slots_raised, is_full, put}
use Rattle.hm_base.specs.declared.node.Node.{Node}
use Rattle.hm_base.specs.declared.node.Node.TheVariants as node
use Rattle.hm_base.specs.declared.why.Why.TheVariants as why
use Rattle.hm_packet.specs.declared.body.Body.{Body}
use Rattle.hm_packet.specs.declared.body.Body.TheVariants as body
use Rattle.hm_packet.specs.declared.body.Read.{Read}
use Rattle.hm_packet.specs.declared.body.Write.{Write}
use Rattle.hm_packet.specs.declared.body.Done.{Done}
use Rattle.hm_packet.specs.declared.turn.Turn.{Turn}
use Rattle.hm_packet.specs.declared.turn.Turn.TheVariants as turn
use Rattle.hm_packet.specs.Messages.{Message}
use Rattle.hm_packet.specs.Routing.{Routing}
use Rattle.hm_rules.specs.Numbers.{stands_in, count_distinct}
use Rattle.hm_rules.specs.Senders.{same_node, may_send}
use Rattle.hm_rules.specs.Switch.{AbstractSwitch, Turned, outstanding, is_dirty, may_refuse, switch_takes, on_write, on_done, on_packet, switch_step}
use Rattle.hm_rules.specs.Runs.{put_all}
use Rattle.hm_dirtyset.specs.Table.{Table, slots_of, number_in, number_of, number_above, live_number, IsCrowd}
use Rattle.hm_switch.specs.State.{SwitchState, put_from, answer_from}
use Rattle.hm_switch.specs.StandsFor.{StandsFor, TurnsTo, last_number, slots_then, refuses}
use Rattle.hm_switch.proofs.Lists.{equal_turned, last_some, last-push, last-drop, drop_twice, others_few}

pub dirty_is : (seen : SwitchState) (s : AbstractSwitch) → StandsFor seen s → (object : ℕ) → is_some (live_number seen.dirty object) ≡ is_dirty s object
dirty_is seen s h object = ap (λ (o : Option ℕ). is_some o) (h.numbers object) ∙ last_some (s.point + 1) object (outstanding s)

-- a step that numbers no write
keeps : (old new : SwitchState) (made : Turn) (s : AbstractSwitch) (t : Turned) → StandsFor new t.switch → made ≡ t.turn → slots_of new.dirty ≡ slots_raised s.point t.switch.point (slots_of old.dirty) → t.switch.numbered ≡ s.numbered → TurnsTo old new made s t
keeps old new made s t h e slots numbered =
    let none : drop (length s.numbered) t.switch.numbered ≡ [] = ap (λ (l : List ℕ). drop (length s.numbered) l) numbered ∙ drop_all (length s.numbered) s.numbered (omega arith) in
    record { switch = h; turn = e; slots = slots ∙ sym (ap (λ (l : List ℕ). slots_raised s.point t.switch.point (put_all (slots_of old.dirty) s.point (length s.numbered + 1) l)) none) }

-- a point that stays leaves the slots as they are
not_raised : (slots : Slots) (point : ℕ) → slots_raised point point slots ≡ slots
not_raised slots point = cond-false (nat_lt point point) (live_slots point slots) slots (le-ltb point point (omega arith))

-- a step that changes nothing
pub still : (old : SwitchState) (made : Turn) (s : AbstractSwitch) (t : Turn) → StandsFor old s → made ≡ t → TurnsTo old old made s (record { switch = s; turn = t })
still old made s t h e = keeps old old made s (record { switch = s; turn = t }) h e (sym (not_raised (slots_of old.dirty) s.point)) refl

-- ---- writes

all_dirty : (seen : SwitchState) (s : AbstractSwitch) → StandsFor seen s → (os : List ℕ) → AllByRecursion (λ o. is_some (live_number seen.dirty o) ≡ true) os → AllByRecursion (λ o. stands_in o (outstanding s) ≡ true) os
all_dirty seen s h [] live = tt
all_dirty seen s h (o ∷ os) live = (sym (dirty_is seen s h o) ∙ live.0, all_dirty seen s h os live.1)

-- full slots are a reason to refuse
may_refuse_full : (seen : SwitchState) (s : AbstractSwitch) (object : ℕ) → StandsFor seen s → IsCrowd seen.dirty object → may_refuse s object ≡ true
may_refuse_full seen s object h crowd =
    let few : length crowd.objects ≤ count_distinct (outstanding s) = others_few object (outstanding s) crowd.objects crowd.others (all_dirty seen s h crowd.objects crowd.live) in
    let many : length crowd.objects ≡ s.stages = crowd.many ∙ h.stages in
    and_from (not (is_dirty s object)) (nat_le s.stages (count_distinct (outstanding s)))
    (not_from_false (is_dirty s object) (sym (dirty_is seen s h object) ∙ ap (λ (o : Option ℕ). is_some o) crowd.clean))
    (le-leb s.stages (count_distinct (outstanding s)) (omega arith))

pub write_refused : (old : SwitchState) (made : Turn) (s : AbstractSwitch) (client : ℕ) (write : Write) → StandsFor old s → is_full (slots_of old.dirty) old.dirty.point write.object ≡ true → IsCrowd old.dirty write.object
    → made ≡ turn.Full → TurnsTo old old made s (on_write (is_full (slots_of old.dirty) old.dirty.point write.object) s client write)
write_refused old made s client write h full crowd e =
    let test : (is_full (slots_of old.dirty) old.dirty.point write.object && may_refuse s write.object) ≡ true = and_from (is_full (slots_of old.dirty) old.dirty.point write.object) (may_refuse s write.object) full (may_refuse_full old s write.object h crowd) in
    cond_both (is_full (slots_of old.dirty) old.dirty.point write.object && may_refuse s write.object) _ _ (λ (u : Turned). TurnsTo old old made s u)
    (λ is. still old made s _ h e)
    (λ other. absurd (both_ways (is_full (slots_of old.dirty) old.dirty.point write.object && may_refuse s write.object) other test))

-- the dirty set after a put
pub record IsPut (old new : Table) (object : ℕ) : Type 0 where
  pub greatest : new.greatest ≡ old.greatest + 1
  pub point : new.point ≡ old.point
  pub stages : new.stages ≡ old.stages
  pub numbers : (o : ℕ) → live_number new o ≡ (if o == object then Some (old.greatest + 1) else live_number old o)
  pub slots : slots_of new ≡ put (slots_of old) old.point object (old.greatest + 1)

stands_after_put : (old : SwitchState) (table : Table) (s : AbstractSwitch) (object : ℕ) → StandsFor old s → old.dirty.point ≤ old.dirty.greatest → IsPut old.dirty table object
    → StandsFor (record old { dirty = table }) (record s { numbered = s.numbered ++ object ∷ [] })
stands_after_put old table s object h le p =
    let within : s.point ≤ length s.numbered = omega (arith, h.point, h.counter) in
    let rest : drop s.point (s.numbered ++ object ∷ []) ≡ outstanding s ++ object ∷ [] = drop-append-le s.point s.numbered (object ∷ []) within in
    let number : s.point + 1 + length (outstanding s) ≡ old.dirty.greatest + 1 = omega (arith, length-drop s.point s.numbered, h.counter) in
    record {
      id = h.id;
      counter = p.greatest ∙ (let e : old.dirty.greatest + 1 ≡ length (s.numbered ++ object ∷ []) = omega (arith, h.counter, length-append s.numbered (object ∷ [])) in e);
      point = p.point ∙ h.point;
      numbers = λ o. p.numbers o
          ∙ ap (λ (b : Bool). if b then Some (old.dirty.greatest + 1) else live_number old.dirty o) (equal_turned o object)
          ∙ ap (λ (x : Option ℕ). if object == o then Some (old.dirty.greatest + 1) else x) (h.numbers o)
          ∙ ap (λ (k : ℕ). if object == o then Some k else last_number (s.point + 1) o (outstanding s)) (sym number)
          ∙ sym (last-push (s.point + 1) o (outstanding s) object)
          ∙ ap (λ (l : List ℕ). last_number (s.point + 1) o l) (sym rest);
      stamped = h.stamped;
      handled = h.handled;
      route = h.route;
      stages = p.stages ∙ h.stages;
      life = h.life;
    }

slots_after_put : (old : SwitchState) (table : Table) (s : AbstractSwitch) (object : ℕ) → StandsFor old s → IsPut old.dirty table object
    → slots_of table ≡ slots_then (slots_of old.dirty) s (record s { numbered = s.numbered ++ object ∷ [] })
slots_after_put old table s object h p =
    let last : drop (length s.numbered) (s.numbered ++ object ∷ []) ≡ object ∷ [] =
    drop-append-le (length s.numbered) s.numbered (object ∷ []) (omega arith) ∙ ap (λ (l : List ℕ). l ++ object ∷ []) (drop_all (length s.numbered) s.numbered (omega arith)) in
    p.slots
    ∙ ap (λ (k : ℕ). put (slots_of old.dirty) k object (old.dirty.greatest + 1)) h.point
    ∙ ap (λ (k : ℕ). put (slots_of old.dirty) s.point object (k + 1)) h.counter
    ∙ ap (λ (l : List ℕ). put_all (slots_of old.dirty) s.point (length s.numbered + 1) l) (sym last)
    ∙ sym (not_raised _ s.point)

pub write_taken : (old : SwitchState) (table : Table) (made : Turn) (s : AbstractSwitch) (client : ℕ) (write : Write) → StandsFor old s → old.dirty.point ≤ old.dirty.greatest → IsPut old.dirty table write.object
    → is_full (slots_of old.dirty) old.dirty.point write.object ≡ false → made ≡ put_from old.id (old.dirty.greatest + 1) old.route client write
    → TurnsTo old (record old { dirty = table }) made s (on_write (is_full (slots_of old.dirty) old.dirty.point write.object) s client write)
write_taken old table made s client write h le p room e =
    let refuse : Bool = is_full (slots_of old.dirty) old.dirty.point write.object in
    let same : put_from old.id (old.dirty.greatest + 1) old.route client write ≡ put_from s.id (length s.numbered + 1) s.route client write =
    ap (λ (k : ℕ). put_from k (old.dirty.greatest + 1) old.route client write) h.id ∙ ap (λ (k : ℕ). put_from s.id (k + 1) old.route client write) h.counter ∙ ap (λ (r : Routing). put_from s.id (length s.numbered + 1) r client write) h.route in
    cond_both (refuse && may_refuse s write.object) _ _ (λ (t : Turned). TurnsTo old (record old { dirty = table }) made s t)
    (λ is. absurd (both_ways refuse room (and_parts refuse (may_refuse s write.object) is).0))
    (λ other. record { switch = stands_after_put old table s write.object h le p; turn = e ∙ same; slots = slots_after_put old table s write.object h p })

-- ---- completions

-- the dirty set after the point was raised
pub record IsCleaned (old new : Table) (later : ℕ) : Type 0 where
  pub greatest : new.greatest ≡ old.greatest
  pub point : new.point ≡ later
  pub stages : new.stages ≡ old.stages
  pub numbers : (o : ℕ) → live_number new o ≡ number_above later (live_number old o)
  pub slots : slots_of new ≡ slots_raised old.point later (slots_of old)

stands_after_clean : (old : SwitchState) (table : Table) (s : AbstractSwitch) (seq : ℕ) → StandsFor old s → IsCleaned old.dirty table (max old.dirty.point seq) → StandsFor (record old { dirty = table }) (record s { point = max s.point seq })
stands_after_clean old table s seq h p =
    let point : ℕ = max s.point seq in
    let k : ℕ = point - s.point in
    let whole : s.point + k ≡ point = omega arith in
    let same : max old.dirty.point seq ≡ point = ap (λ (n : ℕ). max n seq) h.point in
    record {
      id = h.id;
      counter = p.greatest ∙ h.counter;
      point = p.point ∙ same;
      numbers = λ o. p.numbers o
          ∙ ap (λ (n : ℕ). number_above n (live_number old.dirty o)) (same ∙ sym whole)
          ∙ ap (λ (x : Option ℕ). number_above (s.point + k) x) (h.numbers o)
          ∙ sym (last-drop s.point k o (outstanding s))
          ∙ ap (λ (l : List ℕ). last_number (s.point + k + 1) o l) (drop_twice s.point k s.numbered)
          ∙ ap (λ (n : ℕ). last_number (n + 1) o (drop n s.numbered)) whole;
      stamped = h.stamped;
      handled = h.handled;
      route = h.route;
      stages = p.stages ∙ h.stages;
      life = h.life;
    }

pub done_raised : (old : SwitchState) (table : Table) (made : Turn) (s : AbstractSwitch) (done : Done) → StandsFor old s → done.stamp.switch ≡ old.id → (done.stamp.seq ≡ 0 → ⊥) → done.stamp.seq ≤ old.dirty.greatest
    → IsCleaned old.dirty table (max old.dirty.point done.stamp.seq) → made ≡ answer_from old.id done → TurnsTo old (record old { dirty = table }) made s (on_done s done)
done_raised old table made s done h own some within p e =
    let first : not (done.stamp.switch == s.id) ≡ false = not_from_true (done.stamp.switch == s.id) (eq-eqb done.stamp.switch s.id (own ∙ h.id)) in
    let second : ((done.stamp.seq == 0) || nat_lt (length s.numbered) done.stamp.seq) ≡ false =
    or_from (done.stamp.seq == 0) (nat_lt (length s.numbered) done.stamp.seq) (ne_eqb done.stamp.seq 0 some) (le-ltb (length s.numbered) done.stamp.seq (omega (arith, h.counter))) in
    cond_both (not (done.stamp.switch == s.id)) _ _ (λ (t : Turned). TurnsTo old (record old { dirty = table }) made s t)
    (λ is. absurd (both_ways (not (done.stamp.switch == s.id)) first is))
    (λ differs. cond_both ((done.stamp.seq == 0) || nat_lt (length s.numbered) done.stamp.seq) _ _ (λ (t : Turned). TurnsTo old (record old { dirty = table }) made s t)
    (λ is. absurd (both_ways ((done.stamp.seq == 0) || nat_lt (length s.numbered) done.stamp.seq) second is))
    (λ other. keeps old (record old { dirty = table }) made s _ (stands_after_clean old table s done.stamp.seq h p) (e ∙ ap (λ (k : ℕ). answer_from k done) h.id) (p.slots ∙ ap (λ (k : ℕ). slots_raised k (max k done.stamp.seq) (slots_of old.dirty)) h.point) refl))

-- ---- the step

pub raised : (old : SwitchState) (s : AbstractSwitch) → StandsFor old s → StandsFor (record old { handled = old.handled + 1 }) (record s { handled = s.handled + 1 })
raised old s h = record { id = h.id; counter = h.counter; point = h.point; numbers = h.numbers; stamped = h.stamped; handled = ap (λ (k : ℕ). k + 1) h.handled; route = h.route; stages = h.stages; life = h.life }

pub step_taken : (old new : SwitchState) (made : Turn) (s : AbstractSwitch) (m : Message) → StandsFor old s → old.handled < old.life
    → ((t : AbstractSwitch) → StandsFor (record old { handled = old.handled + 1 }) t → TurnsTo (record old { handled = old.handled + 1 }) new made t (on_packet (refuses old m) t m))
    → TurnsTo old new made s (switch_step (refuses old m) s m)
step_taken old new made s m h lt f =
    let test : nat_lt s.handled s.life ≡ true = ap (λ (k : ℕ). nat_lt k s.life) (sym h.handled) ∙ ap (λ (k : ℕ). nat_lt old.handled k) (sym h.life) ∙ lt-ltb old.handled old.life lt in
    let x : TurnsTo (record old { handled = old.handled + 1 }) new made (record s { handled = s.handled + 1 }) (on_packet (refuses old m) (record s { handled = s.handled + 1 }) m) = f (record s { handled = s.handled + 1 }) (raised old s h) in
    cond_both (nat_lt s.handled s.life) _ _ (λ (t : Turned). TurnsTo old new made s t)
    (λ is. record { switch = x.switch; turn = x.turn; slots = x.slots })
    (λ other. absurd (both_ways (nat_lt s.handled s.life) other test))

-- ---- packets that are taken no notice of

pub packet_kind : (old : SwitchState) (s : AbstractSwitch) (refuse : Bool) (m : Message) → StandsFor old s → same_node m.dst (node.Switch s.id) ≡ true → switch_takes m.body ≡ false
    → TurnsTo old old (turn.Ignored why.Kind) s (on_packet refuse s m)
packet_kind old s refuse m h mine kind =
    cond_both (not (same_node m.dst (node.Switch s.id))) _ _ (λ (u : Turned). TurnsTo old old (turn.Ignored why.Kind) s u)
    (λ is. absurd (both_ways (same_node m.dst (node.Switch s.id)) (not-true (same_node m.dst (node.Switch s.id)) is) mine))
    (λ own. cond_both (not (switch_takes m.body)) _ _ (λ (u : Turned). TurnsTo old old (turn.Ignored why.Kind) s u)
    (λ is. still old (turn.Ignored why.Kind) s (turn.Ignored why.Kind) h refl)
    (λ is. absurd (both_ways (switch_takes m.body) kind (not-false (switch_takes m.body) is))))

pub packet_foreign : (old : SwitchState) (s : AbstractSwitch) (refuse : Bool) (m : Message) → StandsFor old s → same_node m.dst (node.Switch s.id) ≡ true → switch_takes m.body ≡ true → may_send m.src m.body ≡ false
    → TurnsTo old old (turn.Ignored why.Foreign) s (on_packet refuse s m)
packet_foreign old s refuse m h mine kind foreign =
    cond_both (not (same_node m.dst (node.Switch s.id))) _ _ (λ (u : Turned). TurnsTo old old (turn.Ignored why.Foreign) s u)
    (λ is. absurd (both_ways (same_node m.dst (node.Switch s.id)) (not-true (same_node m.dst (node.Switch s.id)) is) mine))
    (λ own. cond_both (not (switch_takes m.body)) _ _ (λ (u : Turned). TurnsTo old old (turn.Ignored why.Foreign) s u)
    (λ is. absurd (both_ways (switch_takes m.body) (not-true (switch_takes m.body) is) kind))
    (λ taken. cond_both (not (may_send m.src m.body)) _ _ (λ (u : Turned). TurnsTo old old (turn.Ignored why.Foreign) s u)
    (λ is. still old (turn.Ignored why.Foreign) s (turn.Ignored why.Foreign) h refl)
    (λ is. absurd (both_ways (may_send m.src m.body) foreign (not-false (may_send m.src m.body) is)))))

pub reads_from_clients : (src : Node) (read : Read) → ((client : ℕ) → src ≡ node.Client client → ⊥) → may_send src (body.Read read) ≡ false
reads_from_clients (node.Client c) read no_client = absurd (no_client c refl)
reads_from_clients (node.Switch s) read no_client = refl
reads_from_clients (node.Replica r) read no_client = refl
reads_from_clients node.Config read no_client = refl

pub takes_others : (b : Body) → ((x : Read) → b ≡ body.Read x → ⊥) → ((x : Write) → b ≡ body.Write x → ⊥) → ((x : Done) → b ≡ body.Done x → ⊥) → ((x : Routing) → b ≡ body.Route x → ⊥) → switch_takes b ≡ false
takes_others (body.Read x) r w d o = absurd (r x refl)
takes_others (body.Write x) r w d o = absurd (w x refl)
takes_others (body.Done x) r w d o = absurd (d x refl)
takes_others (body.Route x) r w d o = absurd (o x refl)
takes_others b r w d o = refl
