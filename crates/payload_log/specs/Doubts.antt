-- What a count of faults tells of doubts.
use Rattle.std.specs.Prelude.{ℕ, ◌+◌, ◌-◌, ◌^◌, ◌≤◌, min}

-- the count has risen by so many at least, or stands at its last value
abbrev pub RoseBy : ℕ → ℕ → ℕ → Type 0
RoseBy faults before now = min (before + faults) (2 ^ 64 - 1) ≤ now
