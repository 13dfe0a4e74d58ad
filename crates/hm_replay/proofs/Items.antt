-- The words of commands.
use Rattle.std.proofs.Common.{◌≡◌, ◌≤◌, ◌<◌, ℕ, List, [], ◌∷◌, length, get_or, Some, refl, sym, ap, ◌∙◌, arith}
use Rattle.std.specs.Prelude.{map, codes, decimal}
use Rattle.std.proofs.lemmas.Fmt.{decimal_injective}
use Rattle.hm_base.specs.declared.node.GroupKind.{GroupKind}
use Rattle.hm_base.specs.declared.node.GroupKind.TheVariants as kind
use Rattle.hm_schedule.specs.Names.{kind_text}
use Rattle.hm_schedule.specs.Schedules.{IsLawfulGroup}
use Rattle.hm_replay.specs.Commands.{IsMade, IsCommand, made_words, command_words}
use Rattle.hm_replay.specs.declared.words.Made.{Made}
use Rattle.hm_replay.specs.declared.words.Command.{Command}
use Rattle.hm_replay.specs.declared.words.Command.TheVariants as command

head_is : {A : Type 0} (x y : A) (xs ys : List A) → x ∷ xs ≡ y ∷ ys → x ≡ y
head_is x y xs ys same = cc

tail_is : {A : Type 0} (x y : A) (xs ys : List A) → x ∷ xs ≡ y ∷ ys → xs ≡ ys
tail_is x y xs ys same = cc

-- the words of four items
pub four_texts : {A : Type 0} (f : A → List ℕ) (xs : List A) (a b c d : A) → 4 ≤ length xs → length xs < 5
    → a ≡ get_or xs 0 a → b ≡ get_or xs 1 b → c ≡ get_or xs 2 c → d ≡ get_or xs 3 d → map f xs ≡ f a ∷ f b ∷ f c ∷ f d ∷ []
four_texts f [] a b c d some few p q r s = absurd (omega (arith, some))
four_texts f (x ∷ []) a b c d some few p q r s = absurd (omega (arith, some))
four_texts f (x ∷ y ∷ []) a b c d some few p q r s = absurd (omega (arith, some))
four_texts f (x ∷ y ∷ z ∷ []) a b c d some few p q r s = absurd (omega (arith, some))
four_texts f (x ∷ y ∷ z ∷ w ∷ []) a b c d some few p q r s =
    let one : a ≡ x = p in
    let two : b ≡ y = q in
    let three : c ≡ z = r in
    let four : d ≡ w = s in
    cc
four_texts f (x ∷ y ∷ z ∷ w ∷ v ∷ vs) a b c d some few p q r s = absurd (omega (arith, few))

pub cons_same : (x y : List ℕ) (xs ys : List (List ℕ)) → x ≡ y → xs ≡ ys → x ∷ xs ≡ y ∷ ys
cons_same x y xs ys p q = cc

pub three_same : (a b c x y z : List ℕ) → a ≡ x → b ≡ y → c ≡ z → a ∷ b ∷ c ∷ [] ≡ x ∷ y ∷ z ∷ []
three_same a b c x y z p q r = cc

-- ---- a made schedule is told by its words

kind_injective : (k l : GroupKind) → kind_text k ≡ kind_text l → k ≡ l
kind_injective kind.Chain kind.Chain same = refl
kind_injective kind.Chain kind.Primary same = cc
kind_injective kind.Chain kind.Vr same = cc
kind_injective kind.Primary kind.Chain same = cc
kind_injective kind.Primary kind.Primary same = refl
kind_injective kind.Primary kind.Vr same = cc
kind_injective kind.Vr kind.Chain same = cc
kind_injective kind.Vr kind.Primary same = cc
kind_injective kind.Vr kind.Vr same = refl

small : (k : GroupKind) (size : ℕ) → IsLawfulGroup k size → size ≤ 7
small kind.Chain size lawful = lawful.1
small kind.Primary size lawful = lawful.1
small kind.Vr size lawful = lawful.1

pub made_same : (a b : Made) → IsMade a → IsMade b → made_words a ≡ made_words b → a ≡ b
made_same a b is also same =
    let rest = tail_is (decimal a.number) (decimal b.number) _ _ same in
    let last = tail_is (kind_text a.kind) (kind_text b.kind) _ _ rest in
    let few : a.size ≤ 7 = small a.kind a.size is.of_group in
    let fewer : b.size ≤ 7 = small b.kind b.size also.of_group in
    let number : a.number ≡ b.number = decimal_injective a.number b.number is.of_number also.of_number (head_is (decimal a.number) (decimal b.number) _ _ same) in
    let group : a.kind ≡ b.kind = kind_injective a.kind b.kind (head_is (kind_text a.kind) (kind_text b.kind) _ _ rest) in
    let size : a.size ≡ b.size = decimal_injective a.size b.size (omega arith) (omega arith) (head_is (decimal a.size) (decimal b.size) [] [] last) in
    ap (λ (n : ℕ). record { number = n; kind = a.kind; size = a.size }) number
    ∙ ap (λ (k : GroupKind). record { number = b.number; kind = k; size = a.size }) group
    ∙ ap (λ (n : ℕ). record { number = b.number; kind = b.kind; size = n }) size

-- ---- a command is told by its words

differ : codes "schedule" ≡ codes "generate" → ⊥
differ same = let first : 115 ≡ 103 = ap (λ (l : List ℕ). get_or l 0 0) same in omega (arith, first)

pub is_schedule : (made : Made) (word : List ℕ) (c : Command) → IsMade made → word ≡ codes "schedule" → IsCommand c → word ∷ made_words made ≡ command_words c → Some (command.Schedule made) ≡ Some c
is_schedule made word command.Replay is named lawful same = absurd (let none = tail_is word (codes "replay") (made_words made) [] same in cc)
is_schedule made word command.Show is named lawful same = absurd (let none = tail_is word (codes "show") (made_words made) [] same in cc)
is_schedule made word (command.Schedule other) is named lawful same =
    ap (λ (m : Made). Some (command.Schedule m)) (made_same made other is lawful (tail_is word (codes "schedule") (made_words made) (made_words other) same))
is_schedule made word (command.Generate other) is named lawful same = absurd (differ (sym named ∙ head_is word (codes "generate") (made_words made) (made_words other) same))

pub is_generate : (made : Made) (word : List ℕ) (c : Command) → IsMade made → word ≡ codes "generate" → IsCommand c → word ∷ made_words made ≡ command_words c → Some (command.Generate made) ≡ Some c
is_generate made word command.Replay is named lawful same = absurd (let none = tail_is word (codes "replay") (made_words made) [] same in cc)
is_generate made word command.Show is named lawful same = absurd (let none = tail_is word (codes "show") (made_words made) [] same in cc)
is_generate made word (command.Schedule other) is named lawful same = absurd (differ (sym (head_is word (codes "schedule") (made_words made) (made_words other) same) ∙ named))
is_generate made word (command.Generate other) is named lawful same =
    ap (λ (m : Made). Some (command.Generate m)) (made_same made other is lawful (tail_is word (codes "generate") (made_words made) (made_words other) same))

-- the four words of a command are one, and those of a made schedule
pub record IsOfFour (word : List ℕ) (rest : List (List ℕ)) (c : Command) : Type 0 where
  pub made : Made
  pub lawful : IsMade made
  pub rest_is : rest ≡ made_words made

pub of_four : (word number kind size : List ℕ) (c : Command) → IsCommand c → word ∷ number ∷ kind ∷ size ∷ [] ≡ command_words c → IsOfFour word (number ∷ kind ∷ size ∷ []) c
of_four word number kind size command.Replay lawful same = absurd (let none = tail_is word (codes "replay") (number ∷ kind ∷ size ∷ []) [] same in cc)
of_four word number kind size command.Show lawful same = absurd (let none = tail_is word (codes "show") (number ∷ kind ∷ size ∷ []) [] same in cc)
of_four word number kind size (command.Schedule made) lawful same = record { made = made; lawful = lawful; rest_is = tail_is word (codes "schedule") (number ∷ kind ∷ size ∷ []) (made_words made) same }
of_four word number kind size (command.Generate made) lawful same = record { made = made; lawful = lawful; rest_is = tail_is word (codes "generate") (number ∷ kind ∷ size ∷ []) (made_words made) same }

pub schedule_same : (a b : Made) → Some (command.Schedule a) ≡ Some (command.Schedule b) → a ≡ b
schedule_same a b same = cc

pub generate_same : (a b : Made) → Some (command.Generate a) ≡ Some (command.Generate b) → a ≡ b
generate_same a b same = cc
