use Rattle.std.proofs.Common.{◌≡◌, ℕ, ◌<◌, List, length, take, map, ◌++◌, ap, ◌∙◌, arith, subst, sym, rules}
use Rattle.std.specs.Prelude.{min, vec_len}
use Rattle.hm_base.specs.Logs.{writes}
use Rattle.hm_base.specs.declared.entry.Entry.{Entry}
use Rattle.hm_order.specs.Marks.{commit_of}
use Rattle.hm_rules.specs.Declared.{declared_after, commits_since}
use Rattle.hm_parts.specs.Seen.{Noted}
use Rattle.hm_parts.specs.ObserverFields.{noted_of}
use Rattle.hm_parts.proofs.DeclareLemmas.{declares}
use Rattle.hm_parts.proofs.observer.Observer.declare.Goals as goal

pub returns-then-len-to : goal.returns-then-len-to
returns-then-len-to c =
    let w = c.self.inside in
    let log : List Entry = c.args.log.now.entries in
    let new = c.declare_all.new in
    let n : vec_len w.declared ≡ length w.declared.items = search rules in
    let more : length w.declared.items < c.args.to = omega (arith, n, c.len.ensures, c.if-len-to.true) in
    let front = subst (λ (x : Noted). length x.declared < c.args.to → take (length x.declared) log ≡ x.declared) (sym c.self.view_is) c.requires.front in
    let from : c.len-from.result ≡ length w.declared.items = c.len-from.ensures ∙ n in
    let end : c.min-end.result ≡ min c.args.to (length log) = c.min-end.ensures ∙ ap (λ (k : ℕ). min c.args.to k) c.len-then-len-to.ensures.len in
    let marks = c.declare_all.ensures.history ∙ ap (λ (l : List Entry). w.history.marks ++ map commit_of (writes l)) c.entries.ensures in
    let items = c.declare_all.ensures.declared ∙ ap (λ (l : List Entry). w.declared.items ++ l) c.entries.ensures in
    declares (noted_of w) log new.declared.items new.history.marks c.len-from.result c.min-end.result c.args.to more (front more) from end items marks
    ∙ ap (λ (x : Noted). record x { declared = declared_after x.declared log c.args.to; history = x.history ++ commits_since x.declared (declared_after x.declared log c.args.to) }) c.self.view_is
