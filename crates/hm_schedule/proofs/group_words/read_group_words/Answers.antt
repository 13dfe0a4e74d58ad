use Rattle.std.proofs.Common.{◌≡◌, ℕ, ◌^◌, ◌<◌, ◌≤◌, List, Some, sym, ap, subst, ◌∙◌, arith}
use Rattle.std.specs.Prelude.{decimal}
use Rattle.std.proofs.lemmas.Fmt.{decimal_injective}
use Rattle.hm_base.specs.declared.node.GroupKind.{GroupKind}
use Rattle.hm_schedule.specs.Names.{kind_text, kind_named}
use Rattle.hm_schedule.specs.Schedules.{IsLawfulGroup}
use Rattle.hm_schedule.proofs.GeneratedLines.{group_members}
use Rattle.hm_schedule.proofs.Names.{named_kind}
use Rattle.hm_schedule.proofs.group_words.read_group_words.Goals as goal

same_kind : (k l : GroupKind) → Some k ≡ Some l → k ≡ l
same_kind k l same = cc

-- the words of one protocol and of one size alone
one_kind : (word : List ℕ) (found k : GroupKind) → Some found ≡ kind_named word → word ≡ kind_text k → found ≡ k
one_kind word found k named is = same_kind found k (named ∙ ap kind_named is ∙ named_kind k)

one_size : (word : List ℕ) (found n : ℕ) (k : GroupKind) → found < 2 ^ 64 → IsLawfulGroup k n → word ≡ decimal found → word ≡ decimal n → found ≡ n
one_size word found n k fits lawful spelled is =
    let few : n ≤ 7 = (group_members k n lawful).few in
    decimal_injective found n fits (omega arith) (sym spelled ∙ is)

pub returns-then-not-has_size-clause-only : goal.returns-then-not-has_size-clause-only
returns-then-not-has_size-clause-only c k n lawful word number =
    let few : c.in_ok-size.size ≤ 7 = c.in_ok-size.ensures.some.1 in
    let spelled : c.args.size.now ≡ decimal c.in_ok-size.size = c.in_ok-read_number.ensures.some ∙ ap decimal (sym c.in_ok-size.ensures.some.0) in
    let size : c.in_ok-size.size ≡ n = one_size c.args.size.now c.in_ok-size.size n k (omega arith) lawful spelled number in
    let kind : c.in_ok-kind.kind ≡ k = one_kind c.args.kind.now c.in_ok-kind.kind k (sym c.in_ok-kind.was ∙ c.kind_of.ensures) word in
    let has = c.if-not-has_size.ensures.1 (subst (λ (found : GroupKind). IsLawfulGroup found c.in_ok-size.size) (sym kind) (subst (IsLawfulGroup k) (sym size) lawful)) in
    cc

pub returns-clause-only : goal.returns-clause-only
returns-clause-only c k n lawful word number =
    let few : c.in_ok-size.size ≤ 7 = c.in_ok-size.ensures.some.1 in
    let spelled : c.args.size.now ≡ decimal c.in_ok-size.size = c.in_ok-read_number.ensures.some ∙ ap decimal (sym c.in_ok-size.ensures.some.0) in
    let size : c.in_ok-size.size ≡ n = one_size c.args.size.now c.in_ok-size.size n k (omega arith) lawful spelled number in
    let kind : c.in_ok-kind.kind ≡ k = one_kind c.args.kind.now c.in_ok-kind.kind k (sym c.in_ok-kind.was ∙ c.kind_of.ensures) word in
    ap (λ (found : GroupKind). Some (found, c.in_ok-size.size)) kind ∙ ap (λ (m : ℕ). Some (k, m)) size
