-- A schedule is replayed whole, and other bytes to where they break off.
use Rattle.std.proofs.Common.{◌≡◌, ℕ, ◌+◌, List, ◌++◌, length, Option, Some, None, ◌⊎◌, inl, inr, refl, sym, ap, subst, ◌∙◌, arith}
use Rattle.std.specs.Prelude.{IfSome}
use Rattle.std.specs.Io.KnownBytes.{Consumes, IsAtEnd}
use Rattle.std.proofs.lemmas.List.{append-nil}
use Rattle.hm_outside.specs.Faults.{Faults, one_more, Rose}
use Rattle.hm_schedule.specs.Orders.{Stage, IsBegun, IsSchedule, IsOutside, lines_text, stage_of}
use Rattle.hm_schedule.specs.Refusals.{BreaksOff, IsRefused}
use Rattle.hm_schedule.specs.declared.line.Line.{Line}
use Rattle.hm_schedule.specs.declared.refusal.Refusal.{Refusal}
use Rattle.hm_schedule.specs.declared.refusal.Refusal.TheVariants as refusal
use Rattle.hm_replay.specs.Replays.{IsRefusedRun}
use Rattle.hm_replay.specs.Statuses.{Ends, refused}
use Rattle.hm_replay.specs.declared.status.Status.{Status}
use Rattle.hm_replay.specs.declared.status.Status.TheVariants as status

-- a count that was raised by one rose
rose : (before after : ℕ) → after ≡ one_more before → Rose before after
rose before after raised = omega arith

some_same : (xs ys : List ℕ) → Some xs ≡ Some ys → xs ≡ ys
some_same xs ys same = cc

-- all that a source told was read
read_whole : (bytes text : List ℕ) (now : Option (List ℕ)) → Consumes (Some bytes) now text → IsAtEnd now → Some bytes ≡ Some text
read_whole bytes text None read end = absurd read
read_whole bytes text (Some rest) read end = ap Some (read ∙ ap (λ (l : List ℕ). text ++ l) end ∙ append-nil text)

-- from what is known of bytes that break off: they do so behind one number of lines and for one reason, and a schedule's bytes nowhere
module _ (outside : (stage : Stage) (bytes : List ℕ) (why : Refusal) → IsRefused stage bytes why → IsOutside stage bytes)
    (nowhere : (begun lines : List Line) (rest : List ℕ) → IsBegun begun → IsSchedule lines → lines_text lines ≡ lines_text begun ++ rest → IsOutside (stage_of begun) rest → ⊥) where
  told_nowhere : (begun lines : List Line) (why : Refusal) (left : Option (List ℕ)) → IsBegun begun → IsSchedule lines → left ≡ Some (lines_text lines) → IfSome left (BreaksOff begun why) → ⊥
  told_nowhere begun lines why None lawful schedule is breaks = cc
  told_nowhere begun lines why (Some bytes) lawful schedule is breaks =
      nowhere begun lines breaks.rest lawful schedule (sym (some_same bytes (lines_text lines) is) ∙ breaks.parts) (outside (stage_of begun) breaks.rest why breaks.refused)

  pub ends_complete : (result : Status) (lines : List Line) (left now held put : Option (List ℕ)) (f : Faults) → IsSchedule lines → left ≡ Some (lines_text lines)
      → (Rose f.read_before f.read_after → ⊥) → (Rose f.put_before f.put_after → ⊥) → Ends result left now held put f
      → (result ≡ status.Done) ⊎ (result ≡ status.NoMemory)
  ends_complete status.Done lines left now held put f schedule is read written ends = inl refl
  ends_complete status.BadWords lines left now held put f schedule is read written ends = absurd ends
  ends_complete (status.BadLine line reason) lines left now held put f schedule is read written ends =
      absurd (told_nowhere ends.1.begun lines (refusal.Bad reason) left ends.1.lawful schedule is ends.1.breaks)
  ends_complete (status.BadFrame frame at reason) lines left now held put f schedule is read written ends = absurd ends
  ends_complete status.ReadFault lines left now held put f schedule is read written ends = absurd (read (rose f.read_before f.read_after ends.0.read))
  ends_complete status.WriteFault lines left now held put f schedule is read written ends = absurd (written (rose f.put_before f.put_after ends.0.put))
  ends_complete (status.TooLong line) lines left now held put f schedule is read written ends = absurd (told_nowhere ends.1.begun lines refusal.TooLong left ends.1.lawful schedule is ends.1.breaks)
  ends_complete status.NoMemory lines left now held put f schedule is read written ends = inr refl

  module _ (there : (begun others : List Line) (why : Refusal) (rest : List ℕ) → IsBegun begun → IsBegun others → BreaksOff begun why (lines_text others ++ rest) → IsOutside (stage_of others) rest
      → (length begun ≡ length others) × IsRefused (stage_of others) rest why) where
    refused_there : (number : ℕ) (found : Refusal) (begun : List Line) (rest bytes : List ℕ) (held put : Option (List ℕ)) → IsBegun begun → IsOutside (stage_of begun) rest → bytes ≡ lines_text begun ++ rest
        → IsRefusedRun (Some bytes) held put number found → (why : Refusal) × IsRefused (stage_of begun) rest why × (refused number found ≡ refused (length begun + 1) why)
    refused_there number found begun rest bytes held put lawful out is run =
        let here = there run.begun begun found rest run.lawful lawful (subst (BreaksOff run.begun found) is run.breaks) out in
        let count : number ≡ length begun + 1 = run.number_is ∙ ap (λ (n : ℕ). n + 1) here.0 in
        (found, here.1, ap (λ (n : ℕ). refused n found) count)

    -- bytes that are outside the grammar behind lines end with the number of the line there, and with a reason for which they are refused
    pub ends_outside : (result : Status) (begun : List Line) (rest : List ℕ) (left now held put : Option (List ℕ)) (f : Faults) → IsBegun begun → IsOutside (stage_of begun) rest → left ≡ Some (lines_text begun ++ rest)
        → (Rose f.read_before f.read_after → ⊥) → (Rose f.put_before f.put_after → ⊥) → Ends result left now held put f
        → ((why : Refusal) × IsRefused (stage_of begun) rest why × (result ≡ refused (length begun + 1) why)) ⊎ (result ≡ status.NoMemory)
    ends_outside result begun rest None now held put f lawful out is read written ends = cc
    ends_outside status.Done begun rest (Some told) now held put f lawful out is read written ends =
        absurd
        (nowhere begun ends.1.schedule rest lawful ends.1.lawful
        (sym (some_same told (lines_text ends.1.schedule) (read_whole told (lines_text ends.1.schedule) now ends.1.read ends.1.end)) ∙ some_same told (lines_text begun ++ rest) is) out)
    ends_outside status.BadWords begun rest (Some told) now held put f lawful out is read written ends = absurd ends
    ends_outside (status.BadLine line reason) begun rest (Some told) now held put f lawful out is read written ends =
        inl (refused_there line (refusal.Bad reason) begun rest told held put lawful out (some_same told (lines_text begun ++ rest) is) ends.1)
    ends_outside (status.BadFrame frame at reason) begun rest (Some told) now held put f lawful out is read written ends = absurd ends
    ends_outside status.ReadFault begun rest (Some told) now held put f lawful out is read written ends = absurd (read (rose f.read_before f.read_after ends.0.read))
    ends_outside status.WriteFault begun rest (Some told) now held put f lawful out is read written ends = absurd (written (rose f.put_before f.put_after ends.0.put))
    ends_outside (status.TooLong line) begun rest (Some told) now held put f lawful out is read written ends =
        inl (refused_there line refusal.TooLong begun rest told held put lawful out (some_same told (lines_text begun ++ rest) is) ends.1)
    ends_outside status.NoMemory begun rest (Some told) now held put f lawful out is read written ends = inr refl

  module _ (once : (begun others : List Line) (why other : Refusal) (bytes : List ℕ) → IsBegun begun → IsBegun others → BreaksOff begun why bytes → BreaksOff others other bytes
      → (length begun ≡ length others) × (why ≡ other)) where
    refused_once : (number : ℕ) (found why : Refusal) (begun : List Line) (bytes told : List ℕ) (held put : Option (List ℕ)) → IsBegun begun → BreaksOff begun why bytes → told ≡ bytes
        → IsRefusedRun (Some told) held put number found → refused number found ≡ refused (length begun + 1) why
    refused_once number found why begun bytes told held put lawful breaks is run =
        let same = once run.begun begun found why bytes run.lawful lawful (subst (BreaksOff run.begun found) is run.breaks) breaks in
        let count : number ≡ length begun + 1 = run.number_is ∙ ap (λ (n : ℕ). n + 1) same.0 in
        ap (λ (n : ℕ). refused n found) count ∙ ap (refused (length begun + 1)) same.1

    -- bytes that break off end with the number of the line behind those that may come, and with the reason
    pub ends_broken : (result : Status) (begun : List Line) (why : Refusal) (bytes : List ℕ) (left now held put : Option (List ℕ)) (f : Faults) → IsBegun begun → BreaksOff begun why bytes → left ≡ Some bytes
        → (Rose f.read_before f.read_after → ⊥) → (Rose f.put_before f.put_after → ⊥) → Ends result left now held put f
        → (result ≡ refused (length begun + 1) why) ⊎ (result ≡ status.NoMemory)
    ends_broken result begun why bytes None now held put f lawful breaks is read written ends = cc
    ends_broken status.Done begun why bytes (Some told) now held put f lawful breaks is read written ends =
        absurd
        (told_nowhere begun ends.1.schedule why (Some told) lawful ends.1.lawful (read_whole told (lines_text ends.1.schedule) now ends.1.read ends.1.end)
        (subst (BreaksOff begun why) (sym (some_same told bytes is)) breaks))
    ends_broken status.BadWords begun why bytes (Some told) now held put f lawful breaks is read written ends = absurd ends
    ends_broken (status.BadLine line reason) begun why bytes (Some told) now held put f lawful breaks is read written ends =
        inl (refused_once line (refusal.Bad reason) why begun bytes told held put lawful breaks (some_same told bytes is) ends.1)
    ends_broken (status.BadFrame frame at reason) begun why bytes (Some told) now held put f lawful breaks is read written ends = absurd ends
    ends_broken status.ReadFault begun why bytes (Some told) now held put f lawful breaks is read written ends = absurd (read (rose f.read_before f.read_after ends.0.read))
    ends_broken status.WriteFault begun why bytes (Some told) now held put f lawful breaks is read written ends = absurd (written (rose f.put_before f.put_after ends.0.put))
    ends_broken (status.TooLong line) begun why bytes (Some told) now held put f lawful breaks is read written ends =
        inl (refused_once line refusal.TooLong why begun bytes told held put lawful breaks (some_same told bytes is) ends.1)
    ends_broken status.NoMemory begun why bytes (Some told) now held put f lawful breaks is read written ends = inr refl
