-- Worked histories, by computation.
use Rattle.std.proofs.Common.{◌≡◌, ℕ, ◌<◌, ◌≤◌, ◌++◌, List, [], ◌∷◌, Some, refl, subst, zero, suc, arith}
use Rattle.std.proofs.lemmas.Option.{none-some, same_Some}
use Rattle.hm_base.specs.declared.stamp.Stamp.{Stamp}
use Rattle.hm_order.specs.declared.mark.Mark.{Mark}
use Rattle.hm_order.specs.declared.mark.Mark.TheVariants.{Invoke, Commit, Reply}
use Rattle.hm_base.specs.declared.operation.OpId.{OpId}
use Rattle.hm_order.specs.declared.mark.Want.TheVariants.{Read, Write}
use Rattle.hm_base.specs.declared.operation.Answer.{Answer}
use Rattle.hm_base.specs.declared.operation.Answer.TheVariants.{Nothing, Found}
use Rattle.hm_base.specs.Stamps.{least}
use Rattle.hm_order.specs.Marks.{At}
use Rattle.hm_order.specs.Order.{order}
use Rattle.hm_order.specs.Legal.{stored, IsWellFormed, AllDue, IsDue, IsSeen, WritesAt, IsLegal}
use Rattle.hm_order.proofs.Growth.{formed_nil, formed_invoke, formed_commit, formed_reply, all_due_nil, all_due_push}
use Rattle.hm_order.proofs.Explained.{order_explains}

abbrev op : ℕ → ℕ → OpId
op client request = record { client = client; request = request }

abbrev stamp : ℕ → ℕ → Stamp
stamp switch seq = record { switch = switch; seq = seq }

-- A read of the first value is answered after a second write was committed, and stands before it.
abbrev late : List Mark
late =
    Invoke (op 7 1) (Write 5 (97 ∷ []))
    ∷ Commit (op 7 1) (stamp 1 1)
    ∷ Invoke (op 8 1) (Read 5)
    ∷ Invoke (op 9 1) (Read 5)
    ∷ Invoke (op 7 2) (Write 5 (98 ∷ []))
    ∷ Commit (op 7 2) (stamp 1 2)
    ∷ Reply (op 9 1) (stamp 1 1) (Found (97 ∷ []))
    ∷ []

late_order : order late ≡ op 7 1 ∷ op 9 1 ∷ op 7 2 ∷ []
late_order = refl

late_answer : stored late 5 Nothing (op 7 1 ∷ []) ≡ Found (97 ∷ [])
late_answer = refl

-- at its Reply the read would be answered otherwise
late_other : stored late 5 Nothing (op 7 1 ∷ op 7 2 ∷ []) ≡ Found (98 ∷ [])
late_other = refl

-- ---- it is well formed and its reply is due, so its order explains it

abbrev late1 : List Mark
late1 = Invoke (op 7 1) (Write 5 (97 ∷ [])) ∷ []

abbrev late2 : List Mark
late2 = late1 ++ Commit (op 7 1) (stamp 1 1) ∷ []

abbrev late3 : List Mark
late3 = late2 ++ Invoke (op 8 1) (Read 5) ∷ []

abbrev late4 : List Mark
late4 = late3 ++ Invoke (op 9 1) (Read 5) ∷ []

abbrev late5 : List Mark
late5 = late4 ++ Invoke (op 7 2) (Write 5 (98 ∷ [])) ∷ []

abbrev late6 : List Mark
late6 = late5 ++ Commit (op 7 2) (stamp 1 2) ∷ []

new_stamp1 : (k : ℕ) (a : OpId) → At late1 k (Commit a (stamp 1 1)) → ⊥
new_stamp1 zero a e = cc
new_stamp1 (suc k) a e = none-some _ e

new_stamp5 : (k : ℕ) (a : OpId) → At late5 k (Commit a (stamp 1 2)) → ⊥
new_stamp5 zero a e = cc
new_stamp5 (suc zero) a e = grind arith
new_stamp5 (suc (suc zero)) a e = cc
new_stamp5 (suc (suc (suc zero))) a e = cc
new_stamp5 (suc (suc (suc (suc zero)))) a e = cc
new_stamp5 (suc (suc (suc (suc (suc k))))) a e = none-some _ e

formed1 : IsWellFormed late1
formed1 = formed_invoke [] formed_nil (op 7 1) (Write 5 (97 ∷ [])) (omega arith)

formed2 : IsWellFormed late2
formed2 = formed_commit late1 formed1 (op 7 1) (stamp 1 1) 5 (97 ∷ []) refl (omega arith) (λ e. grind arith) new_stamp1

formed3 : IsWellFormed late3
formed3 = formed_invoke late2 formed2 (op 8 1) (Read 5) (omega arith)

formed4 : IsWellFormed late4
formed4 = formed_invoke late3 formed3 (op 9 1) (Read 5) (omega arith)

formed5 : IsWellFormed late5
formed5 = formed_invoke late4 formed4 (op 7 2) (Write 5 (98 ∷ [])) (omega arith)

formed6 : IsWellFormed late6
formed6 = formed_commit late5 formed5 (op 7 2) (stamp 1 2) 5 (98 ∷ []) refl (omega arith) (λ e. grind arith) new_stamp5

late_formed : IsWellFormed late
late_formed = formed_reply late6 formed6 (op 9 1) (stamp 1 1) (Found (97 ∷ [])) (omega arith) (omega arith)

-- no other write of the object between
none_between : (k : ℕ) → WritesAt late6 5 k → 1 < k → 3 ≤ k
none_between zero w l = absurd (omega arith)
none_between (suc zero) w l = absurd (omega arith)
none_between (suc (suc zero)) w l = absurd (let e : At late6 2 (Commit w.writer w.stamp) = w.commit in cc)
none_between (suc (suc (suc k))) w l = omega arith

late_seen : IsSeen late6 6 5 (op 9 1) (stamp 1 1) (Found (97 ∷ []))
late_seen = record {
  place = 1;
  write = record { writer = op 7 1; stamp = stamp 1 1; value = 97 ∷ []; commit = refl; want = refl };
  earlier = omega arith;
  same = refl;
  answered = refl;
  last = none_between;
}

late_due : IsDue late6 6 (op 9 1) (stamp 1 1) (Found (97 ∷ []))
late_due = record {
  invoked = omega arith;
  wrote = λ object value w. absurd (cc);
  committed = λ object value w. absurd (cc);
  nothing = λ object w z. absurd (grind arith);
  unwritten = λ object w z. absurd (grind arith);
  seen = λ object w z. subst (λ (o : ℕ). IsSeen late6 6 o (op 9 1) (stamp 1 1) (Found (97 ∷ []))) (let o : 5 ≡ object = cc in o) late_seen;
}

due1 : AllDue late1
due1 = all_due_push [] (Invoke (op 7 1) (Write 5 (97 ∷ []))) formed_nil all_due_nil (λ o v a t. absurd (cc))

due2 : AllDue late2
due2 = all_due_push late1 (Commit (op 7 1) (stamp 1 1)) formed1 due1 (λ o v a t. absurd (cc))

due3 : AllDue late3
due3 = all_due_push late2 (Invoke (op 8 1) (Read 5)) formed2 due2 (λ o v a t. absurd (cc))

due4 : AllDue late4
due4 = all_due_push late3 (Invoke (op 9 1) (Read 5)) formed3 due3 (λ o v a t. absurd (cc))

due5 : AllDue late5
due5 = all_due_push late4 (Invoke (op 7 2) (Write 5 (98 ∷ []))) formed4 due4 (λ o v a t. absurd (cc))

due6 : AllDue late6
due6 = all_due_push late5 (Commit (op 7 2) (stamp 1 2)) formed5 due5 (λ o v a t. absurd (cc))

replied : (o : OpId) (v : Stamp) (a : Answer) → Some (Reply (op 9 1) (stamp 1 1) (Found (97 ∷ []))) ≡ Some (Reply o v a) → IsDue late6 6 o v a
replied o v a t = subst (λ (m : Mark). Due_of m) (same_Some _ _ t) late_due
  where
    Due_of : Mark → Type 0
    Due_of (Invoke o w) = Unit {0}
    Due_of (Commit o s) = Unit {0}
    Due_of (Reply o v a) = IsDue late6 6 o v a

all_due : AllDue late
all_due = all_due_push late6 (Reply (op 9 1) (stamp 1 1) (Found (97 ∷ []))) formed6 due6 replied

late_legal : IsLegal late (op 7 1 ∷ op 9 1 ∷ op 7 2 ∷ [])
late_legal = order_explains late late_formed all_due

-- Two reads of one version that are answered in the other order stand in the order of their Invokes, at the Commit that they saw.
abbrev equals : List Mark
equals =
    Invoke (op 7 1) (Write 5 (97 ∷ []))
    ∷ Commit (op 7 1) (stamp 1 1)
    ∷ Invoke (op 7 2) (Write 5 (98 ∷ []))
    ∷ Invoke (op 9 1) (Read 5)
    ∷ Invoke (op 8 1) (Read 5)
    ∷ Commit (op 7 2) (stamp 1 2)
    ∷ Reply (op 8 1) (stamp 1 2) (Found (98 ∷ []))
    ∷ Reply (op 9 1) (stamp 1 2) (Found (98 ∷ []))
    ∷ []

equals_order : order equals ≡ op 7 1 ∷ op 7 2 ∷ op 9 1 ∷ op 8 1 ∷ []
equals_order = refl

-- A read that saw no write stands at its Invoke, also where its object is written before its Reply.
abbrev unwritten : List Mark
unwritten =
    Invoke (op 8 1) (Read 5)
    ∷ Invoke (op 7 1) (Write 5 (97 ∷ []))
    ∷ Commit (op 7 1) (stamp 1 1)
    ∷ Reply (op 8 1) least Nothing
    ∷ []

unwritten_order : order unwritten ≡ op 8 1 ∷ op 7 1 ∷ []
unwritten_order = refl

-- The order is defined for every history: a second Commit and a second Invoke change nothing, a Commit without an Invoke counts,
-- and a read of a version that never committed is left out.
abbrev odd : List Mark
odd =
    Reply (op 8 1) least Nothing
    ∷ Invoke (op 8 1) (Read 5)
    ∷ Commit (op 7 1) (stamp 1 1)
    ∷ Invoke (op 9 1) (Read 5)
    ∷ Commit (op 7 1) (stamp 1 2)
    ∷ Invoke (op 9 1) (Write 5 [])
    ∷ Reply (op 9 1) (stamp 1 2) Nothing
    ∷ Invoke (op 9 2) (Read 5)
    ∷ Reply (op 9 2) (stamp 2 1) Nothing
    ∷ []

odd_order : order odd ≡ op 8 1 ∷ op 7 1 ∷ op 9 1 ∷ []
odd_order = refl
