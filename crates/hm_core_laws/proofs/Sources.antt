-- The writes that a switch numbered, as the net grows.
use Rattle.std.proofs.Common.{◌≡◌, ℕ, ◌-◌, List, [], ◌∷◌, ◌++◌, refl, sym, ap, ◌∙◌, append_assoc}
use Rattle.std.specs.Prelude.{IsTrue, All}
use Rattle.std.proofs.lemmas.Bool.{false≢true}
use Rattle.std.proofs.lemmas.List.{append-nil}
use Rattle.std.proofs.lemmas.List.Elements.{All-weaker, All-head, All-tail}
use Rattle.hm_base.specs.declared.entry.Entry.{Entry}
use Rattle.hm_base.specs.Lists.{IsPrefix}
use Rattle.hm_base.proofs.ListLaws.{prefix_at}
use Rattle.hm_packet.specs.declared.body.Body.{Body}
use Rattle.hm_packet.specs.declared.body.Body.TheVariants as body
use Rattle.hm_packet.specs.Messages.{Message}
use Rattle.hm_order.specs.declared.mark.Mark.{Mark}
use Rattle.hm_order.proofs.Positions.{want_later}
use Rattle.hm_order.specs.Marks.{op_of}
use Rattle.hm_due_law.specs.Declared.{wanted}
use Rattle.hm_rules.specs.Senders.{replica_sends}
use Rattle.hm_core_laws.specs.Sourced.{numbered_by, puts, IsNumbered, IsSourced}

pub puts_append : (switch : ℕ) (xs ys : List Message) → puts switch (xs ++ ys) ≡ puts switch xs ++ puts switch ys
puts_append switch [] ys = refl
puts_append switch (x ∷ xs) ys = ap (λ (l : List Entry). numbered_by switch x.body ++ l) (puts_append switch xs ys) ∙ sym (append_assoc (numbered_by switch x.body) (puts switch xs) (puts switch ys))

pub puts_prefix : (switch : ℕ) {xs ys : List Message} → IsPrefix xs ys → IsPrefix (puts switch xs) (puts switch ys)
puts_prefix switch {xs} {ys} p = record { rest = puts switch p.rest; parts = sym (puts_append switch xs p.rest) ∙ ap (puts switch) p.parts }

-- a packet that carries no number
abbrev pub IsUnnumbered : Body → Type 0
IsUnnumbered (body.Put put) = ⊥
IsUnnumbered other = Unit {0}

pub unnumbered : (switch : ℕ) (b : Body) → IsUnnumbered b → numbered_by switch b ≡ []
unnumbered switch (body.Put put) u = absurd u
unnumbered switch (body.Read b) u = refl
unnumbered switch (body.Write b) u = refl
unnumbered switch (body.FastRead b) u = refl
unnumbered switch (body.NormalRead b) u = refl
unnumbered switch (body.Done b) u = refl
unnumbered switch (body.Reply b) u = refl
unnumbered switch (body.Feed b) u = refl
unnumbered switch (body.FeedAck b) u = refl
unnumbered switch (body.Ask b) u = refl
unnumbered switch (body.Known b) u = refl
unnumbered switch (body.StartViewChange b) u = refl
unnumbered switch (body.Vote b) u = refl
unnumbered switch (body.Pull b) u = refl
unnumbered switch (body.Page b) u = refl
unnumbered switch (body.Config b) u = refl
unnumbered switch (body.Route b) u = refl
unnumbered switch (body.Refuse b) u = refl
unnumbered switch (body.Refused b) u = refl

pub no_puts : (switch : ℕ) (ms : List Message) → All (λ (m : Message). IsUnnumbered m.body) ms → puts switch ms ≡ []
no_puts switch [] u = refl
no_puts switch (m ∷ ms) u =
    ap (λ (l : List Entry). l ++ puts switch ms) (unnumbered switch m.body (All-head (λ (m : Message). IsUnnumbered m.body) m ms u))
    ∙ no_puts switch ms (All-tail (λ (m : Message). IsUnnumbered m.body) m ms u)

-- what has no numbers leaves the writes that were numbered
pub puts_rest : (switch : ℕ) (net outs : List Message) → All (λ (m : Message). IsUnnumbered m.body) outs → puts switch (net ++ outs) ≡ puts switch net
puts_rest switch net outs u = puts_append switch net outs ∙ ap (λ (l : List Entry). puts switch net ++ l) (no_puts switch outs u) ∙ append-nil (puts switch net)

replica_unnumbered : (b : Body) → IsTrue (replica_sends b) → IsUnnumbered b
replica_unnumbered (body.Put put) t = absurd (false≢true t)
replica_unnumbered (body.Read b) t = tt
replica_unnumbered (body.Write b) t = tt
replica_unnumbered (body.FastRead b) t = tt
replica_unnumbered (body.NormalRead b) t = tt
replica_unnumbered (body.Done b) t = tt
replica_unnumbered (body.Reply b) t = tt
replica_unnumbered (body.Feed b) t = tt
replica_unnumbered (body.FeedAck b) t = tt
replica_unnumbered (body.Ask b) t = tt
replica_unnumbered (body.Known b) t = tt
replica_unnumbered (body.StartViewChange b) t = tt
replica_unnumbered (body.Vote b) t = tt
replica_unnumbered (body.Pull b) t = tt
replica_unnumbered (body.Page b) t = tt
replica_unnumbered (body.Config b) t = tt
replica_unnumbered (body.Route b) t = tt
replica_unnumbered (body.Refuse b) t = tt
replica_unnumbered (body.Refused b) t = tt

pub replicas_unnumbered : (outs : List Message) → All (λ (m : Message). IsTrue (replica_sends m.body)) outs → All (λ (m : Message). IsUnnumbered m.body) outs
replicas_unnumbered outs all = All-weaker (λ (m : Message). IsTrue (replica_sends m.body)) (λ (m : Message). IsUnnumbered m.body) (λ m t. replica_unnumbered m.body t) outs all

-- ---- sources stay

pub numbered_later : {net net' : List Message} (e : Entry) → IsPrefix net net' → IsNumbered net e → IsNumbered net' e
numbered_later e q n = record { above = n.above; place = prefix_at (e.stamp.seq - 1) e (puts_prefix e.stamp.switch q) n.place }

pub sourced_later : {h h' : List Mark} {net net' : List Message} (e : Entry) → IsPrefix h h' → IsPrefix net net' → IsSourced h net e → IsSourced h' net' e
sourced_later e f q s = record { invoked = want_later (op_of e) (wanted e.object e.act) f s.invoked; numbered = λ w. numbered_later e q (s.numbered w) }

pub all_sourced_later : {h h' : List Mark} {net net' : List Message} (log : List Entry) → IsPrefix h h' → IsPrefix net net' → All (IsSourced h net) log → All (IsSourced h' net') log
all_sourced_later {h} {h'} {net} {net'} log f q all = All-weaker (IsSourced h net) (IsSourced h' net') (λ e s. sourced_later e f q s) log all
