use Rattle.std.proofs.Common.{◌∷◌, [], ◌++◌, ap, ◌∙◌, arith}
use Rattle.hm_packet.specs.Messages.{Message}
use Rattle.hm_rules.specs.Replica.{Replica}
use Rattle.hm_rules.specs.ReplicaSteps.{page_to}
use Rattle.hm_vr.proofs.Others.{pushed, pushed_all, pushes, skips}
use Rattle.hm_vr.proofs.vr.Vr.push_pages.Goals.{then-member-self, else-member-self}
use Rattle.hm_vr.proofs.vr.Vr.push_pages.Goals as goal

pub push-requires : goal.push-requires
push-requires c =
    let v = c.self.inside in
    let fits = c.self.invariant.fits in
    let told =
    pushed c.args.self.now v.core.me v.core.size c.loop-member.member-index c.as_slice-member-items.result.now c.loop-member.outs c.args.outs.now (page_to c.args.self.now c.args.self.now.start c.args.self.now.known)
    (ap (λ (r : Replica). r.me) c.self.view_is) (c.as_slice-member-items.ensures.same ∙ c.self.invariant.members ∙ ap (λ (r : Replica). r.members) c.self.view_is) (ap (λ (r : Replica). r.members) c.self.view_is)
    fits.me fits.size c.loop-member-test.true c.if-member-self.true c.loop-member.invariant in
    omega (arith, told, c.requires.few)

pub returns-clause-few : goal.returns-clause-few
returns-clause-few c =
    let v = c.self.inside in
    let fits = c.self.invariant.fits in
    pushed_all c.args.self.now v.core.me v.core.size c.loop-member.member-index c.as_slice-member-items.result.now c.loop-member.outs c.args.outs.now (page_to c.args.self.now c.args.self.now.start c.args.self.now.known)
    (ap (λ (r : Replica). r.me) c.self.view_is) (c.as_slice-member-items.ensures.same ∙ c.self.invariant.members ∙ ap (λ (r : Replica). r.members) c.self.view_is) (ap (λ (r : Replica). r.members) c.self.view_is)
    fits.me fits.size c.loop-member.invariant

pub loop-member-preserved : goal.loop-member-preserved
loop-member-preserved c =
    let same = ap (λ (r : Replica). r.me) c.self.view_is in
    let listed = c.as_slice-member-items.ensures.same ∙ c.self.invariant.members ∙ ap (λ (r : Replica). r.members) c.self.view_is in
    let page = page_to c.args.self.now c.args.self.now.start c.args.self.now.known in
    elim c.if-member-self.branch [
      | then-member-self w ↦
          pushes c.args.self.now c.self.inside.core.me c.loop-member.member-index c.as_slice-member-items.result.now c.loop-member.outs c.args.outs.now c.if-member-self.outs page
          same listed c.loop-member-test.true w.if-member-self.true c.loop-member.invariant (w.outs-is ∙ w.push.ensures ∙ ap (λ (m : Message). c.loop-member.outs ++ m ∷ []) w.page_to.ensures)
      | else-member-self w ↦
          skips c.args.self.now c.self.inside.core.me c.loop-member.member-index c.as_slice-member-items.result.now c.loop-member.outs c.args.outs.now c.if-member-self.outs page
          same listed c.loop-member-test.true w.if-member-self.false c.loop-member.invariant w.outs-is
    ]
