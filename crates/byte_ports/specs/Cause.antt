-- The cause of a fault: the count of faults of the port that answers it.
use Rattle.std.specs.Prelude.{◌≡◌, ℕ, ◌+◌, ◌-◌, ◌^◌, ◌≤◌, min, Bool, true, false}

-- the count has risen, or stands at its type's last value
abbrev pub Rose : ℕ → ℕ → Type 0
Rose before now = min (before + 1) (2 ^ 64 - 1) ≤ now

-- the count never falls, stands where no fault is answered, and has risen where one is
pub record HasCause (failed : Bool) (before now : ℕ) : Type 0 where
  pub later : before ≤ now
  pub stood : failed ≡ false → now ≡ before
  pub rose : failed ≡ true → Rose before now
