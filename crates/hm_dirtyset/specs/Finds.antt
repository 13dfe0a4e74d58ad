-- What a look at an object's slots finds.
use Rattle.std.specs.Prelude.{◌≡◌, ℕ, Some, None}
use Rattle.hm_base.specs.Slots.{Slots, live_stage, free_stage}
use Rattle.hm_dirtyset.specs.declared.find.Found.{Found}
use Rattle.hm_dirtyset.specs.declared.find.Found.TheVariants as found
use Rattle.hm_dirtyset.specs.Table.{number_of}

abbrev pub IsFound : Slots → ℕ → ℕ → Found → Type 0
IsFound slots point object (found.Live stage number) = (live_stage slots point object ≡ Some stage) × (number_of slots point object ≡ Some number)
IsFound slots point object (found.Free stage) = (live_stage slots point object ≡ None) × (free_stage slots point object ≡ Some stage)
IsFound slots point object found.Full = (live_stage slots point object ≡ None) × (free_stage slots point object ≡ None)
