-- The wait after a crash, and the count of crashes. The numbers are this project's own, after Diego's rule that waits grow.
use Rattle.std.specs.Prelude.{ℕ, ◌+◌, ◌-◌, ◌*◌, ◌^◌, ◌≤◌, Bool, false, Option, Some, None, nat_le, min, if◌then◌else◌, IsSomeAnd}
use Rattle.crash_backoff.specs.declared.delay.Wait.{Wait}
use Rattle.crash_backoff.specs.declared.delay.Wait.TheVariants.{Now, After, Never}
use Rattle.crash_backoff.specs.declared.moment.Moment.{Moment}

-- the wait after the nth crash: none up to the third, doubled from the fourth to the ninth, no restart past 200
abbrev pub wait_of : ℕ → Wait
wait_of n =
    if nat_le n 3 then Now else (if nat_le n 9 then After (30 * 2 ^ (n - 4)) else (if nat_le n 200 then After 960 else Never))

-- the second at which a wait from that moment ends
abbrev pub end_of : Moment → Wait → Option ℕ
end_of since Now = Some since.0
end_of since (After seconds) = Some (since.0 + seconds)
end_of since Never = None

-- the second from which a row with that count of crashes, the last at that moment, may be restarted
abbrev pub due_from : Moment → ℕ → Option ℕ
due_from since count = end_of since (wait_of count)

-- the wait has an end, and it is reached
abbrev pub IsDue : Moment → ℕ → Moment → Type 0
IsDue since count now = IsSomeAnd (due_from since count) (λ at. at ≤ now.0)

-- whether it ran for the five minutes that make the next crash a first one
abbrev pub ran_steadily : Option ℕ → Bool
ran_steadily (Some seconds) = nat_le 300 seconds
ran_steadily None = false

-- the count of crashes after one more
abbrev pub count_after : ℕ → Option ℕ → ℕ
count_after count ran = if ran_steadily ran then 1 else min (count + 1) (2 ^ 32 - 1)
