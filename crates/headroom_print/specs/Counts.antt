-- How many losses were tried.
use Rattle.std.specs.Prelude.{ℕ, ◌+◌, ◌-◌, ◌^◌, min}
use Rattle.forecast_records.specs.declared.cases.EachLost.{EachLost}

-- how many losses were tried, of all verdicts; the count ends at the most that 64 bits have
abbrev pub tried : EachLost → ℕ
tried e = min (e.room + e.unplaced + e.short) (2 ^ 64 - 1)
