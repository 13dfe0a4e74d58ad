-- A worked history: a replica that has applied one of two declared writes answers a stamped read from the first.
use Rattle.std.proofs.Common.{◌≡◌, ℕ, zero, suc, ◌≤◌, true, List, [], ◌∷◌, ◌++◌, Some, refl, arith}
use Rattle.std.proofs.lemmas.List.Elements.{All-nil, All-cons}
use Rattle.std.proofs.lemmas.Option.{none-some}
use Rattle.hm_base.specs.declared.stamp.Stamp.{Stamp}
use Rattle.hm_base.specs.declared.entry.Entry.{Entry}
use Rattle.hm_base.specs.declared.entry.Act.TheVariants.{Put}
use Rattle.hm_base.specs.declared.operation.Answer.TheVariants.{Found}
use Rattle.hm_base.specs.declared.operation.OpId.{OpId}
use Rattle.hm_base.specs.Logs.{is_write, read_behind}
use Rattle.hm_base.proofs.ListLaws.{prefix_append}
use Rattle.hm_order.specs.declared.mark.Mark.{Mark}
use Rattle.hm_order.specs.declared.mark.Mark.TheVariants.{Invoke, Commit}
use Rattle.hm_order.specs.declared.mark.Want.TheVariants.{Read, Write}
use Rattle.hm_order.specs.Marks.{At}
use Rattle.hm_due_law.specs.Tidy.{IsTidy}
use Rattle.hm_due_law.specs.Declared.{WasInvoked}
use Rattle.hm_due_law.specs.Answers.{IsDueNow, IsFresh, IsClean}
use Rattle.hm_due_law.specs.Agreed.{Agree}
use Rattle.hm_due_law.proofs.Agreeing.{agree_nil, agree_invoke, agree_declare}
use Rattle.hm_due_law.proofs.Fresh.{clean_is_fresh, none_above}
use Rattle.hm_due_law.proofs.Later.{fresh_later}
use Rattle.hm_due_law.proofs.ReadAnswers.{behind_due}

abbrev op : ℕ → ℕ → OpId
op client request = record { client = client; request = request }

abbrev stamp : ℕ → ℕ → Stamp
stamp switch seq = record { switch = switch; seq = seq }

abbrev first : Entry
first = record { stamp = stamp 1 1; client = 7; request = 1; object = 5; act = Put (97 ∷ []) }

abbrev second : Entry
second = record { stamp = stamp 1 2; client = 7; request = 2; object = 5; act = Put (98 ∷ []) }

-- the first write, then a read, which the switch stamps with the first write's stamp
abbrev stamped : List Mark
stamped =
    Invoke (op 7 1) (Write 5 (97 ∷ []))
    ∷ Commit (op 7 1) (stamp 1 1)
    ∷ Invoke (op 9 1) (Read 5)
    ∷ []

-- then the second write
abbrev answered : List Mark
answered = stamped ++ Invoke (op 7 2) (Write 5 (98 ∷ [])) ∷ Commit (op 7 2) (stamp 1 2) ∷ []

tidy_one : IsTidy (first ∷ [])
tidy_one = record { stamps = (refl, tt); requests = (tt, tt) }

tidy_both : IsTidy (first ∷ second ∷ [])
tidy_both = record { stamps = (refl, (refl, tt)); requests = ((refl, tt), (tt, tt)) }

abbrev asked : List Mark
asked = Invoke (op 7 1) (Write 5 (97 ∷ [])) ∷ []

abbrev asked_again : List Mark
asked_again = stamped ++ Invoke (op 7 2) (Write 5 (98 ∷ [])) ∷ []

agree_asked : Agree asked []
agree_asked = agree_invoke [] [] (op 7 1) (Write 5 (97 ∷ [])) agree_nil (omega arith)

agree_one : Agree (asked ++ Commit (op 7 1) (stamp 1 1) ∷ []) (first ∷ [])
agree_one = agree_declare asked [] (first ∷ []) agree_asked tidy_one (All-cons (WasInvoked asked) first [] refl (All-nil (WasInvoked asked)))

agree_stamped : Agree stamped (first ∷ [])
agree_stamped = agree_invoke (asked ++ Commit (op 7 1) (stamp 1 1) ∷ []) (first ∷ []) (op 9 1) (Read 5) agree_one (omega arith)

agree_again : Agree asked_again (first ∷ [])
agree_again = agree_invoke stamped (first ∷ []) (op 7 2) (Write 5 (98 ∷ [])) agree_stamped (omega arith)

agree_answered : Agree answered (first ∷ second ∷ [])
agree_answered = agree_declare asked_again (first ∷ []) (second ∷ []) agree_again tidy_both (All-cons (WasInvoked asked_again) second [] refl (All-nil (WasInvoked asked_again)))

clean : IsClean (first ∷ []) 5 (stamp 1 1)
clean zero e a w o s = grind arith
clean (suc i) e a w o s = absurd (none-some e a)

fresh_stamped : IsFresh stamped (first ∷ []) (op 9 1) 5 (stamp 1 1)
fresh_stamped = clean_is_fresh stamped (first ∷ []) (op 9 1) 5 (stamp 1 1) agree_stamped.records (omega arith) refl (record { place = 0; entry = first; there = refl; write = refl; same = refl }) clean

fresh_answered : IsFresh answered (first ∷ second ∷ []) (op 9 1) 5 (stamp 1 1)
fresh_answered = fresh_later (op 9 1) 5 (stamp 1 1) (prefix_append stamped _) (prefix_append (first ∷ []) (second ∷ [])) agree_stamped.formed fresh_stamped

first_switch : (i : ℕ) (e : Entry) → At (first ∷ second ∷ []) i e → is_write e ≡ true → e.stamp.switch ≤ 1
first_switch zero e a w = grind arith
first_switch (suc zero) e a w = grind arith
first_switch (suc (suc i)) e a w = absurd (none-some e a)

-- the replica has applied the first write alone
lagging : read_behind 1 (first ∷ []) (stamp 1 1) 5 ≡ Some (stamp 1 1, Found (97 ∷ []))
lagging = refl

lagging_is_due : IsDueNow answered (op 9 1) (stamp 1 1, Found (97 ∷ []))
lagging_is_due =
    behind_due answered (first ∷ second ∷ []) (first ∷ []) (op 9 1) 5 1 (stamp 1 1) (stamp 1 1, Found (97 ∷ [])) agree_answered.records (prefix_append (first ∷ []) (second ∷ [])) fresh_answered
    (none_above answered (first ∷ second ∷ []) 1 agree_answered.records first_switch) lagging
