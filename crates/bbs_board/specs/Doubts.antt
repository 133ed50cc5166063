-- How many doubts a log has, what each of them comes from, and what a count of faults tells of a call.
use Rattle.std.specs.Prelude.{◌≡◌, ℕ, ◌+◌, ◌-◌, ◌^◌, ◌≤◌, min, Bool, true, false, List, [], ◌∷◌}
use Rattle.byte_ports.specs.Cause.{HasCause}
use Rattle.bbs_model.specs.declared.item.Item.{Item}
use Rattle.bbs_model.specs.declared.item.Item.TheVariants.{Done, Doubt}

-- how many items of a log are doubts
abbrev pub doubts_in : List Item → ℕ
doubts_in [] = 0
doubts_in (Done by command ∷ items) = doubts_in items
doubts_in (Doubt by command ∷ items) = doubts_in items + 1

-- a count of faults has risen once at least for each doubt, or stands at its last value
abbrev pub RoseForEach : ℕ → ℕ → ℕ → Type 0
RoseForEach doubts before now = min (before + doubts) (2 ^ 64 - 1) ≤ now

-- it has risen where the disk failed, and stands where it didn't; and it has risen twice where something waits after
-- a call before which nothing did
pub record CountsFaults (failed waited waits : Bool) (before after : ℕ) : Type 0 where
  pub cause : HasCause failed before after
  pub closes : waited ≡ false → waits ≡ true → RoseForEach 2 before after
