use Rattle.std.proofs.Common.{◌≡◌, ℕ, true, false, refl, ap, ◌∙◌, arith, Some}
use Rattle.std.specs.Option.{is_some}
use Rattle.std.proofs.lemmas.Option.{same_Some}
use Rattle.hm_base.specs.declared.node.Node.TheVariants as node
use Rattle.hm_daemon.specs.declared.words.ReplicaWords.{ReplicaWords}
use Rattle.hm_daemon.specs.declared.words.SwitchWords.{SwitchWords}
use Rattle.hm_daemon.specs.declared.words.ClientWords.{ClientWords}
use Rattle.hm_daemon.proofs.StartLemmas.{same_letter}
use Rattle.hm_daemon.proofs.words.node_of.Goals as goal

pub returns-in-Some-clause-only : goal.returns-in-Some-clause-only
returns-in-Some-clause-only c (node.Switch id) starts =
    ap (λ (w : SwitchWords). Some (node.Switch w.id)) (same_Some _ _ (c.in-Some.ensures.only starts.0 starts.1)) ∙ ap (λ (k : ℕ). Some (node.Switch k)) starts.2
returns-in-Some-clause-only c (node.Replica me) starts =
    let e : 119 ≡ 101 = same_letter _ (node.Switch c.in-Some.words.id) (node.Replica me) (c.in-Some.words, c.in-Some.ensures.some, refl) starts in
    absurd (omega (arith, e))
returns-in-Some-clause-only c node.Config starts =
    let e : 119 ≡ 111 = same_letter _ (node.Switch c.in-Some.words.id) node.Config (c.in-Some.words, c.in-Some.ensures.some, refl) starts in
    absurd (omega (arith, e))
returns-in-Some-clause-only c (node.Client client) starts =
    let e : 119 ≡ 108 = same_letter _ (node.Switch c.in-Some.words.id) (node.Client client) (c.in-Some.words, c.in-Some.ensures.some, refl) starts in
    absurd (omega (arith, e))

pub returns-in-Some-replica_words-clause-only : goal.returns-in-Some-replica_words-clause-only
returns-in-Some-replica_words-clause-only c (node.Switch id) starts = absurd (c.in_default.not-Some starts.0 (c.switch_words.ensures.only starts.0 starts.1))
returns-in-Some-replica_words-clause-only c (node.Replica me) starts =
    ap (λ (w : ReplicaWords). Some (node.Replica w.me)) (same_Some _ _ (c.in-Some-replica_words.ensures.only starts.0 starts.1)) ∙ ap (λ (k : ℕ). Some (node.Replica k)) starts.2
returns-in-Some-replica_words-clause-only c node.Config starts =
    let e : 101 ≡ 111 = same_letter _ (node.Replica c.in-Some-replica_words.words.me) node.Config (c.in-Some-replica_words.words, c.in-Some-replica_words.ensures.some, refl) starts in
    absurd (omega (arith, e))
returns-in-Some-replica_words-clause-only c (node.Client client) starts =
    let e : 101 ≡ 108 = same_letter _ (node.Replica c.in-Some-replica_words.words.me) (node.Client client) (c.in-Some-replica_words.words, c.in-Some-replica_words.ensures.some, refl) starts in
    absurd (omega (arith, e))

pub returns-in-Some-client_words-clause-only : goal.returns-in-Some-client_words-clause-only
returns-in-Some-client_words-clause-only c (node.Switch id) starts = absurd (c.in_default.not-Some starts.0 (c.switch_words.ensures.only starts.0 starts.1))
returns-in-Some-client_words-clause-only c (node.Replica me) starts = absurd (c.in_default-replica_words.not-Some starts.0 (c.replica_words.ensures.only starts.0 starts.1))
returns-in-Some-client_words-clause-only c node.Config starts =
    let e : 108 ≡ 111 = same_letter _ (node.Client c.in-Some-client_words.words.op.client) node.Config (c.in-Some-client_words.words, c.in-Some-client_words.ensures.some, refl) starts in
    absurd (omega (arith, e))
returns-in-Some-client_words-clause-only c (node.Client client) starts =
    ap (λ (w : ClientWords). Some (node.Client w.op.client)) (same_Some _ _ (c.in-Some-client_words.ensures.only starts.0 starts.1)) ∙ ap (λ (k : ℕ). Some (node.Client k)) starts.2

pub returns-in_default-client_words-clause-only : goal.returns-in_default-client_words-clause-only
returns-in_default-client_words-clause-only c (node.Switch id) starts = absurd (c.in_default.not-Some starts.0 (c.switch_words.ensures.only starts.0 starts.1))
returns-in_default-client_words-clause-only c (node.Replica me) starts = absurd (c.in_default-replica_words.not-Some starts.0 (c.replica_words.ensures.only starts.0 starts.1))
returns-in_default-client_words-clause-only c node.Config starts =
    let yes : c.is_some.result ≡ true = c.is_some.ensures ∙ ap is_some (c.config_words.ensures.only starts.0 starts.1) in
    let no : c.is_some.result ≡ false = c.if-is_some.false in
    cc (yes, no)
returns-in_default-client_words-clause-only c (node.Client client) starts = absurd (c.in_default-client_words.not-Some starts.0 (c.client_words.ensures.only starts.0 starts.1))
