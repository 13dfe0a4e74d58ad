use Rattle.std.proofs.Common.{rules, ◌≤◌, length, sym, ap, subst, arith}
use Rattle.std.specs.Prelude.{All}
use Rattle.std.proofs.lemmas.List.Elements.{All-replicate}
use Rattle.hm_feed.specs.Answers.{Following}
use Rattle.hm_feed.specs.Sending.{Sending}
use Rattle.hm_primary_backup.proofs.primary.Primary.open.Goals as goal

pub invariant_of-result : goal.invariant_of-result
invariant_of-result c =
    let shim = c.in_ok-open.field-0 in
    record {
      me = c.requires.me;
      caps = search rules;
      room = search rules;
      leads = λ first. record {
        staged = ap (λ (f : Following). f.behind) c.in_ok-open-2.ensures;
        within = subst (λ (s : Sending). All (λ n. n ≤ length shim.entries) s.acked) (sym c.open-2.ensures) (All-replicate (λ n. n ≤ length shim.entries) 7 0 (omega arith));
      };
    }
