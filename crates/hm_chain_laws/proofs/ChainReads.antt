-- Answers of a chain's member: completions, reads, and what is asked of the tail.
use Rattle.std.proofs.Common.{◌≡◌, ℕ, ◌+◌, max, true, List, [], ◌∷◌, Option, Some, None, refl, sym, ap, subst, ◌∙◌}
use Rattle.std.specs.Prelude.{not, ◌==◌, if◌then◌else◌, IsTrue, slice_get}
use Rattle.std.proofs.lemmas.Bool.{cond_both, not-false, false≢true}
use Rattle.hm_base.specs.declared.stamp.Stamp.{Stamp}
use Rattle.hm_base.specs.declared.entry.Entry.{Entry}
use Rattle.hm_base.specs.declared.entry.Act.{Act}
use Rattle.hm_base.specs.declared.entry.Act.TheVariants as act
use Rattle.hm_base.specs.declared.node.Node.TheVariants as node
use Rattle.hm_base.specs.declared.operation.Answer.{Answer}
use Rattle.hm_base.specs.declared.verdict.Verdict.{Verdict}
use Rattle.hm_base.specs.declared.verdict.Verdict.TheVariants as verdict
use Rattle.hm_base.specs.declared.why.Why.{Why}
use Rattle.hm_base.specs.declared.why.Why.TheVariants as why
use Rattle.hm_base.specs.Logs.{is_put, is_write, latest, read_ahead}
use Rattle.hm_base.specs.Verdicts.{judge}
use Rattle.hm_base.proofs.ListLaws.{prefix_same, each_at, last_stands}
use Rattle.hm_packet.specs.declared.acted.Did.TheVariants as did
use Rattle.hm_packet.specs.declared.body.Body.TheVariants as body
use Rattle.hm_packet.specs.declared.body.FastRead.{FastRead}
use Rattle.hm_packet.specs.declared.body.NormalRead.{NormalRead}
use Rattle.hm_packet.specs.declared.body.Ask.{Ask}
use Rattle.hm_packet.specs.declared.body.Refuse.{Refuse}
use Rattle.hm_packet.specs.Messages.{Message}
use Rattle.hm_order.specs.declared.mark.Want.TheVariants as want
use Rattle.hm_order.specs.Marks.{At, want_of, op_of}
use Rattle.hm_due_law.specs.Declared.{wanted}
use Rattle.hm_due_law.specs.Answers.{IsDueNow, IsFresh}
use Rattle.hm_rules.specs.Replica.{Replica, first_member, last_member}
use Rattle.hm_rules.specs.ReplicaSteps.{Stepped, ignored, sends, to, done_of, read_reply, last_of, done_if_any, answers_again, as_normal, stamped_read, last_number, on_refuse}
use Rattle.hm_rules.specs.Chain.{is_tail, successor, passes_on, chain_again, chain_normal_read, chain_asked, chain_ask, is_behind, chain_tick}
use Rattle.hm_rules.specs.World.{World}
use Rattle.hm_core_laws.specs.Sourced.{IsSourced}
use Rattle.hm_core_laws.specs.Packets.{op, WasAsked, WasAskedToWrite}
use Rattle.hm_chain_laws.specs.Chained.{MemberHolds}
use Rattle.hm_chain_laws.proofs.ChainParts.{Acts, MemberStep, Becomes, Sends, sends_none, sends_one, passing, silently}

module _ (w : World) (n : ℕ) (r : Replica) (a : Acts w n r) where
  abbrev pub Fine : Stepped → Type 0
  Fine s = s.did ≡ did.Done → MemberStep w n r a s

  pub ignores : (reason : Why) → Fine (ignored r reason)
  ignores reason d = absurd (let e : did.Ignored reason ≡ did.Done = d in cc)

  pub mine : MemberHolds a.chain.epochs w.replicas n r
  mine = a.chain.members n r a.there

  pub unchanged : Becomes w n r a r
  unchanged = record { kept = prefix_same r.log; list = (a.core.replicas n r a.there).log; known = refl; holds = mine }

  -- the tail's log is the declared list
  pub whole : is_tail r ≡ true → r.log ≡ w.declared
  whole t = a.chain.tail n r a.there a.live t

  -- a step that changes nothing and sends something
  pub says : (outs : List Message) → Sends w n r a r outs → MemberStep w n r a (sends r outs)
  says outs x = silently w n r a r unchanged outs whole x

  silent : MemberStep w n r a (sends r [])
  silent = says [] (sends_none w n r a r)

  -- ---- completions

  -- of an entry of the tail's log
  completes : (t : is_tail r ≡ true) (i : ℕ) (e : Entry) → At r.log i e → MemberStep w n r a (sends r (done_of r e ∷ []))
  completes t i e at = says (done_of r e ∷ []) (sends_one w n r a r (done_of r e) refl (λ more. record {
    place = i;
    entry = e;
    there = subst (λ (l : List Entry). At l i e) (whole t) at;
    write = each_at (λ (e : Entry). IsTrue (is_write e)) r.log i e mine.writes at;
    stamp = refl;
    operation = refl;
  }) tt)

  -- whoever made an entry of the log asked to write
  asked_to_write : (i : ℕ) (e : Entry) → At r.log i e → is_write e ≡ true → WasAskedToWrite w.history e.client e.request
  asked_to_write i e at t = by_act e.act refl
    where
      invoked : want_of w.history (op_of e) ≡ Some (wanted e.object e.act)
      invoked = (each_at (IsSourced w.history w.net) r.log i e (a.core.replicas n r a.there).log.sourced at).invoked

      by_act : (x : Act) → e.act ≡ x → WasAskedToWrite w.history e.client e.request
      by_act (act.Put value) s = record { object = e.object; value = value; asked = invoked ∙ ap (λ (x : Act). Some (wanted e.object x)) s }
      by_act act.Look s = absurd (false≢true (sym (ap is_put s) ∙ t))

  -- the tail completes an entry again, and another member asks it to
  pub again : (index : ℕ) (o : Option Entry) → slice_get r.log index ≡ o → Fine (answers_again chain_again r index o)
  again index None e = ignores why.Repeat
  again index (Some x) e =
      let ask : Message = to r (node.Replica (last_member r)) (body.Ask (record { view = r.view; client = x.client; request = x.request })) in
      cond_both (is_write x) (chain_again r index x) (ignored r why.Repeat) Fine
      (λ t. cond_both (is_tail r) (sends r (done_of r x ∷ [])) (sends r (ask ∷ [])) Fine (λ f d. completes f index x e)
      (λ f d. says (ask ∷ []) (sends_one w n r a r ask refl (λ more. asked_to_write index x e t) tt)))
      (λ t. ignores why.Repeat)

  one_if_any : is_tail r ≡ true → (index : ℕ) (o : Option Entry) → slice_get r.log index ≡ o → MemberStep w n r a (sends r (done_if_any r o))
  one_if_any t index None e = silent
  one_if_any t index (Some x) e = completes t index x e

  asked : is_tail r ≡ true → (v : Verdict) → Fine (chain_asked r v)
  asked t verdict.Old = ignores why.Repeat
  asked t verdict.New = ignores why.Gap
  asked t (verdict.Again index) = λ d. one_if_any t index (slice_get r.log index) refl

  pub ask_row : (from : ℕ) (ask : Ask) → Fine (chain_ask r from ask)
  ask_row from ask =
      let next : Stepped = chain_asked r (judge r.log ask.client ask.request) in
      cond_both (not (ask.view == r.view)) (ignored r why.Epoch) (if not (is_tail r) then ignored r why.Status else if not (first_member r == from) then ignored r why.Foreign else next) Fine (λ t. ignores why.Epoch)
      (λ t. cond_both (not (is_tail r)) (ignored r why.Status) (if not (first_member r == from) then ignored r why.Foreign else next) Fine (λ f. ignores why.Status)
      (λ f. cond_both (not (first_member r == from)) (ignored r why.Foreign) next Fine (λ g. ignores why.Foreign) (λ g. asked (not-false (is_tail r) f) (judge r.log ask.client ask.request))))

  -- ---- reads

  -- an answer of the tail, from the whole declared list
  answers_whole : is_tail r ≡ true → (read : NormalRead) → WasAsked w.history read.client read.request (want.Read read.object) → MemberStep w n r a (sends r (read_reply r read.client read.request (latest r.log read.object) ∷ []))
  answers_whole t read was =
      let reply : Message = read_reply r read.client read.request (latest r.log read.object) in
      says (reply ∷ []) (sends_one w n r a r reply refl (λ more. subst (λ (l : List Entry). IsDueNow w.history (op read.client read.request) (latest l read.object)) (sym (whole t)) (a.laws.whole w.history w.declared (op read.client read.request) read.object a.core.agree.records was)) tt)

  pub normal_read_row : (read : NormalRead) → WasAsked w.history read.client read.request (want.Read read.object) → Fine (chain_normal_read r read)
  normal_read_row read was = cond_both (is_tail r) (sends r (read_reply r read.client read.request (latest r.log read.object) ∷ [])) (ignored r why.Status) Fine (λ t d. answers_whole t read was) (λ t. ignores why.Status)

  -- an answer of any member, where its log isn't too far ahead for the stamp; else the tail is asked
  pub stamped : (read : FastRead) (o : Option (Stamp × Answer)) → read_ahead r.accepted r.log read.stamp read.object ≡ o → IsFresh w.history w.declared (op read.client read.request) read.object read.stamp → Fine (stamped_read o (last_member r) (chain_normal_read r) r read)
  stamped read (Some found) e fresh = λ d.
      let reply : Message = read_reply r read.client read.request found in
      says (reply ∷ []) (sends_one w n r a r reply refl (λ more. a.laws.ahead w.history w.declared r.log (op read.client read.request) read.object r.accepted read.stamp found a.core.agree.records fresh.read fresh.point (a.chain.prefix n r a.there a.live) (a.core.replicas n r a.there).log.tidy e) tt)
  stamped read None e fresh =
      let passed : Message = to r (node.Replica (last_member r)) (body.NormalRead (as_normal read)) in
      cond_both (last_member r == r.me) (chain_normal_read r (as_normal read)) (sends r (passed ∷ [])) Fine (λ t. normal_read_row (as_normal read) fresh.read) (λ t d. says (passed ∷ []) (sends_one w n r a r passed refl (λ more. fresh.read) tt))

  -- ---- the switch's replacement

  pub refuse_row : (refuse : Refuse) → Fine (on_refuse r refuse)
  refuse_row refuse =
      let told : Message = to r node.Config (body.Refused (record { switch = refuse.switch })) in
      let after : Replica = record r { accepted = max r.accepted (refuse.switch + 1) } in
      let becomes : Becomes w n r a after = record {
        kept = prefix_same r.log;
        list = unchanged.list;
        known = refl;
        holds = record { me = mine.me; unstaged = mine.unstaged; known = mine.known; writes = mine.writes; epoch = mine.epoch; nested = mine.nested };
      } in
      cond_both (refuse.switch == last_number) (ignored r why.Foreign) (sends after (told ∷ [])) Fine (λ t. ignores why.Foreign)
      (λ t d. silently w n r a after becomes (told ∷ []) whole (sends_one w n r a after told refl (λ more. tt) tt))

  -- ---- ticks

  last_if_any : is_tail r ≡ true → (o : Option Entry) → last_of r.log ≡ o → MemberStep w n r a (sends r (done_if_any r o))
  last_if_any t None e = silent
  last_if_any t (Some x) e = let there : (i : ℕ) × At r.log i x = last_stands r.log x e in completes t there.0 x there.1

  pub ticks : MemberStep w n r a (chain_tick r)
  ticks = cond_both (is_tail r) (sends r (done_if_any r (last_of r.log))) (sends r (if is_behind r (successor r) then passes_on r else [])) (MemberStep w n r a)
      (λ t. last_if_any t (last_of r.log) refl)
      (λ t. says (if is_behind r (successor r) then passes_on r else []) (cond_both (is_behind r (successor r)) (passes_on r) [] (Sends w n r a r) (λ f. passing w n r a r unchanged) (λ f. sends_none w n r a r)))
