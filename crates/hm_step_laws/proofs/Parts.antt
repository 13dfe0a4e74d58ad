-- Parts of steps that the protocols share: what each does by the number, room and switch of the replica that it begins with.
use Rattle.std.proofs.Common.{◌≡◌, ℕ, ◌-◌, Bool, get_or, List, [], ◌∷◌, ◌++◌, take, drop, Option, Some, None, refl, sym, ap, subst, ◌∙◌, arith}
use Rattle.std.specs.Prelude.{map, max, ◌+◌, not, ◌==◌, ◌&&◌, if◌then◌else◌, nat_lt, nat_le, slice_get, IsTrue, All}
use Rattle.std.proofs.lemmas.Bool.{cond_both}
use Rattle.std.proofs.lemmas.List.Elements.{All-nil, All-cons, All-append, All-weaker, All-map}
use Rattle.hm_base.specs.declared.stamp.Stamp.{Stamp}
use Rattle.hm_base.specs.declared.entry.Entry.{Entry}
use Rattle.hm_base.specs.declared.entry.Act.{Act}
use Rattle.hm_base.specs.declared.entry.Act.TheVariants as act
use Rattle.hm_base.specs.declared.node.Node.{Node}
use Rattle.hm_base.specs.declared.node.Node.TheVariants as node
use Rattle.hm_base.specs.declared.operation.Answer.{Answer}
use Rattle.hm_base.specs.declared.verdict.Admit.{Admit}
use Rattle.hm_base.specs.declared.verdict.Admit.TheVariants as admit
use Rattle.hm_base.specs.declared.why.Why.{Why}
use Rattle.hm_base.specs.declared.why.Why.TheVariants as why
use Rattle.hm_base.specs.Logs.{is_write}
use Rattle.hm_base.specs.Verdicts.{admission}
use Rattle.hm_base.specs.Taking.{Took}
use Rattle.hm_packet.specs.declared.acted.Did.TheVariants as did
use Rattle.hm_packet.specs.declared.body.Body.{Body}
use Rattle.hm_packet.specs.declared.body.Body.TheVariants as body
use Rattle.hm_packet.specs.declared.body.Put.{Put}
use Rattle.hm_packet.specs.declared.body.FastRead.{FastRead}
use Rattle.hm_packet.specs.declared.body.NormalRead.{NormalRead}
use Rattle.hm_packet.specs.declared.body.Refuse.{Refuse}
use Rattle.hm_packet.specs.Messages.{Message}
use Rattle.hm_rules.specs.Senders.{same_node, number, replica_sends}
use Rattle.hm_rules.specs.Replica.{Replica, len, others, acked_by}
use Rattle.hm_rules.specs.ReplicaSteps.{Stepped, ignored, log_full, sends, sends_first, and_sends, to, done_of, read_reply, page_to, ack_to, pages, known_or_page, done_if_any, answer_act, answer_entry, max_answered, declares, quorum_len, commits, appends, entry_of, answers_again, admits, takes_put, done_again, as_normal, stamped_read, on_took, last_number, on_refuse, is_foreign, receives}
use Rattle.hm_step_laws.specs.Keeps.{TellsOf, IsSentBy, Keeps}

-- ---- packets

-- a packet of the replica of this number, which tells of no refused switch
pub record IsFrom (n : ℕ) (m : Message) : Type 0 where
  pub src : m.src ≡ node.Replica n
  pub kind : IsTrue (replica_sends m.body)
  pub tells : (accepted : ℕ) → TellsOf accepted m.body

pub none_from : (n : ℕ) → All (IsFrom n) []
none_from n = All-nil (IsFrom n)

pub one_from : (n : ℕ) (m : Message) → IsFrom n m → All (IsFrom n) (m ∷ [])
one_from n m x = All-cons (IsFrom n) m [] x (none_from n)

pub sent_to : (r : Replica) (dst : Node) (b : Body) → IsTrue (replica_sends b) → ((accepted : ℕ) → TellsOf accepted b) → All (IsFrom r.me) (to r dst b ∷ [])
sent_to r dst b kind tells = one_from r.me (to r dst b) (record { src = refl; kind = kind; tells = tells })

module _ (r : Replica) where
  pub done_from : (e : Entry) → IsFrom r.me (done_of r e)
  done_from e = record { src = refl; kind = refl; tells = λ a. tt }

  pub reply_from : (client request : ℕ) (found : Stamp × Answer) → All (IsFrom r.me) (read_reply r client request found ∷ [])
  reply_from client request found = sent_to r (node.Client client) (body.Reply (record { request = request; version = found.0; answer = found.1 })) refl (λ a. tt)

  pub page_from : (start commit other : ℕ) → IsFrom r.me (page_to r start commit other)
  page_from start commit other = record { src = refl; kind = refl; tells = λ a. tt }

  pub ack_from : (other : ℕ) → All (IsFrom r.me) (ack_to r other ∷ [])
  ack_from other = one_from r.me (ack_to r other) (record { src = refl; kind = refl; tells = λ a. tt })

  pub pages_from : All (IsFrom r.me) (pages r)
  pages_from = All-map (IsFrom r.me) (page_to r r.start r.known) (others r) (λ k d l. page_from r.start r.known _)

  pub known_from : (other : ℕ) → IsFrom r.me (known_or_page r other)
  known_from other = cond_both (acked_by r other == len r) (to r (node.Replica other) (body.Known (record { view = r.view; len = r.known }))) (page_to r r.start r.known other) (IsFrom r.me)
      (λ t. record { src = refl; kind = refl; tells = λ a. tt }) (λ t. page_from r.start r.known other)

  pub if_any_from : (o : Option Entry) → All (IsFrom r.me) (done_if_any r o)
  if_any_from None = none_from r.me
  if_any_from (Some e) = one_from r.me (done_of r e) (done_from e)

  answer_from : (e : Entry) (a : Act) → IsFrom r.me (answer_act r e a)
  answer_from e (act.Put value) = done_from e
  answer_from e act.Look = record { src = refl; kind = refl; tells = λ a. tt }

  pub answers_from : (entries : List Entry) → All (IsFrom r.me) (map (answer_entry r) entries)
  answers_from entries = All-map (IsFrom r.me) (answer_entry r) entries (λ k d l. answer_from (get_or entries k d) (get_or entries k d).act)

-- ---- steps that are done

-- a step that is done, by the replica of this number, room and switch
pub record Does (n room switch : ℕ) (s : Stepped) : Type 0 where
  pub me : s.replica.me ≡ n
  pub cap : s.replica.cap ≡ room
  pub accepted : s.replica.accepted ≡ switch
  pub sent : All (IsFrom n) s.outs
  pub done : s.did ≡ did.Done

abbrev pub DoesAs : Replica → Stepped → Type 0
DoesAs r s = Does r.me r.cap r.accepted s

pub does_send : (r : Replica) (outs : List Message) → All (IsFrom r.me) outs → DoesAs r (sends r outs)
does_send r outs from = record { me = refl; cap = refl; accepted = refl; sent = from; done = refl }

pub does_declare : (r : Replica) (from to : ℕ) → DoesAs r (declares r from to)
does_declare r from to = record { me = refl; cap = refl; accepted = refl; sent = answers_from (record r { known = to }) (drop (max from (to - max_answered)) (take to r.log)); done = refl }

pub does_commit : (k : ℕ) (r : Replica) → DoesAs r (commits k r)
does_commit k r =
    let m : ℕ = quorum_len r k in
    cond_both (nat_le r.start m && nat_lt r.known m) (declares r r.known m) (sends r []) (DoesAs r) (λ t. does_declare r r.known m) (λ t. does_send r [] (none_from r.me))

module _ (n room switch : ℕ) (s : Stepped) (d : Does n room switch s) where
  pub does_first : (outs : List Message) → All (IsFrom n) outs → Does n room switch (sends_first outs s)
  does_first outs from = record { me = d.me; cap = d.cap; accepted = d.accepted; sent = All-append (IsFrom n) outs s.outs from d.sent; done = d.done }

  pub does_and : (outs : Replica → List Message) → ((r : Replica) → All (IsFrom r.me) (outs r)) → Does n room switch (and_sends s outs)
  does_and outs from = record { me = d.me; cap = d.cap; accepted = d.accepted; sent = All-append (IsFrom n) s.outs (outs s.replica) d.sent (subst (λ (n : ℕ). All (IsFrom n) (outs s.replica)) d.me (from s.replica)); done = d.done }

  -- what goes on from where the step ends
  pub does_then : (next : Stepped) → DoesAs s.replica next → Does n room switch next
  does_then next x = record { me = x.me ∙ d.me; cap = x.cap ∙ d.cap; accepted = x.accepted ∙ d.accepted; sent = subst (λ (n : ℕ). All (IsFrom n) next.outs) d.me x.sent; done = x.done }

-- ---- rows: they are done, or change nothing

pub data Row (r : Replica) (s : Stepped) : Type 0 where
  Acts : DoesAs r s → Row r s
  Rests : s.outs ≡ [] → s.replica ≡ r → Row r s

pub row_keeps : (r : Replica) (s : Stepped) → Row r s → Keeps r s
row_keeps r s (Row.Acts d) = record {
  me = d.me;
  cap = d.cap;
  accepted = let e : s.replica.accepted ≡ r.accepted = d.accepted in omega arith;
  sent = All-weaker (IsFrom r.me) (IsSentBy s.replica) (λ m x. record { src = x.src ∙ ap node.Replica (sym d.me); kind = x.kind; tells = x.tells s.replica.accepted }) s.outs d.sent;
  idle = λ ne. absurd (ne d.done);
}
row_keeps r s (Row.Rests none same) = record {
  me = ap (λ (q : Replica). q.me) same;
  cap = ap (λ (q : Replica). q.cap) same;
  accepted = let e : s.replica.accepted ≡ r.accepted = ap (λ (q : Replica). q.accepted) same in omega arith;
  sent = subst (All (IsSentBy s.replica)) (sym none) (All-nil (IsSentBy s.replica));
  idle = λ ne. same;
}

module _ (r : Replica) where
  -- a page that leaves a gap or doesn't fit changes nothing
  pub row_took : (took : Took) (next : Stepped) → DoesAs r next → Row r (on_took r took next)
  row_took Took.Gap next d = Row.Rests refl refl
  row_took Took.LogFull next d = Row.Rests refl refl
  row_took Took.Adopted next d = Row.Acts d
  row_took Took.Staged next d = Row.Acts d
  row_took Took.Grown next d = Row.Acts d
  row_took Took.Same next d = Row.Acts d

  pub row_stamped : (found : Option (Stamp × Answer)) (normal : ℕ) (here : NormalRead → Stepped) → ((read : NormalRead) → Row r (here read)) → (read : FastRead) → Row r (stamped_read found normal here r read)
  row_stamped (Some found) normal here f read = Row.Acts (does_send r (read_reply r read.client read.request found ∷ []) (reply_from r read.client read.request found))
  row_stamped None normal here f read =
      let passed : List Message = to r (node.Replica normal) (body.NormalRead (as_normal read)) ∷ [] in
      cond_both (normal == r.me) (here (as_normal read)) (sends r passed) (Row r) (λ t. f (as_normal read))
      (λ t. Row.Acts (does_send r passed (sent_to r (node.Replica normal) (body.NormalRead (as_normal read)) refl (λ a. tt))))

  pub row_done_again : (index : ℕ) (e : Entry) → Row r (done_again r index e)
  row_done_again index e = cond_both (nat_lt index r.known) (sends r (done_of r e ∷ [])) (ignored r why.Repeat) (Row r)
      (λ t. Row.Acts (does_send r (done_of r e ∷ []) (one_from r.me (done_of r e) (done_from r e)))) (λ t. Row.Rests refl refl)

  module _ (next : Replica → Stepped) (grows : (q : Replica) → DoesAs q (next q)) where
    pub row_appends : (e : Entry) → Row r (appends next r e)
    row_appends e = cond_both (nat_lt (len r) r.cap) (next (record r { log = r.log ++ e ∷ [] })) (log_full r) (Row r) (λ t. Row.Acts (grows (record r { log = r.log ++ e ∷ [] }))) (λ t. Row.Rests refl refl)

    module _ (again : Replica → ℕ → Entry → Stepped) (repeats : (index : ℕ) (e : Entry) → Row r (again r index e)) where
      row_answers_again : (index : ℕ) (o : Option Entry) → Row r (answers_again again r index o)
      row_answers_again index None = Row.Rests refl refl
      row_answers_again index (Some e) = cond_both (is_write e) (again r index e) (ignored r why.Repeat) (Row r) (λ t. repeats index e) (λ t. Row.Rests refl refl)

      row_admits : (put : Put) (a : Admit) → Row r (admits next again r put a)
      row_admits put (admit.Drop reason) = Row.Rests refl refl
      row_admits put (admit.Again index) = row_answers_again index (slice_get r.log index)
      row_admits put admit.Take = row_appends (entry_of put)

      pub row_takes_put : (put : Put) → Row r (takes_put next again r put)
      row_takes_put put = row_admits put (admission r.accepted r.log put.stamp put.client put.request)

  -- ---- what keeps

  pub ignored_keeps : (reason : Why) → Keeps r (ignored r reason)
  ignored_keeps reason = row_keeps r (ignored r reason) (Row.Rests refl refl)

  pub refuse_keeps : (refuse : Refuse) → Keeps r (on_refuse r refuse)
  refuse_keeps refuse =
      let after : Replica = record r { accepted = max r.accepted (refuse.switch + 1) } in
      let told : Message = to r node.Config (body.Refused (record { switch = refuse.switch })) in
      cond_both (refuse.switch == last_number) (ignored r why.Foreign) (sends after (told ∷ [])) (Keeps r) (λ t. ignored_keeps why.Foreign)
      (λ t. record {
        me = refl;
        cap = refl;
        accepted = omega arith;
        sent = All-cons (IsSentBy after) told [] (record { src = refl; kind = refl; tells = omega arith }) (All-nil (IsSentBy after));
        idle = λ ne. absurd (ne refl);
      })

  pub receives_keeps : (takes : Body → Bool) (row : Replica → ℕ → Body → Stepped) → ((from : ℕ) (b : Body) → Keeps r (row r from b)) → (m : Message) → Keeps r (receives takes row r m)
  receives_keeps takes row f m =
      cond_both (not (same_node m.dst (node.Replica r.me))) (ignored r why.NotForMe) (if not (takes m.body) then ignored r why.Kind else if is_foreign r m then ignored r why.Foreign else row r (number m.src) m.body) (Keeps r) (λ t. ignored_keeps why.NotForMe)
      (λ t. cond_both (not (takes m.body)) (ignored r why.Kind) (if is_foreign r m then ignored r why.Foreign else row r (number m.src) m.body) (Keeps r) (λ u. ignored_keeps why.Kind)
      (λ u. cond_both (is_foreign r m) (ignored r why.Foreign) (row r (number m.src) m.body) (Keeps r) (λ v. ignored_keeps why.Foreign) (λ v. f (number m.src) m.body)))
