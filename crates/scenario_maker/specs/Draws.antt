-- The numbers that a scenario draws, each from the one before it: a linear congruential generator modulo 2 ^ 31.
use Rattle.std.specs.Prelude.{ℕ, zero, suc, ◌+◌, ◌*◌, ◌/◌, ◌%◌}

-- the number that the first draw is made from
abbrev pub first_number : ℕ → ℕ
first_number number = number % 2147483648

-- the number that follows this one
abbrev pub next_number : ℕ → ℕ
next_number x = (x * 1103515245 + 12345) % 2147483648

-- the number behind so many draws from this one
unfoldable pub behind : ℕ → ℕ → ℕ
behind zero x = x
behind (suc draws) x = next_number (behind draws x)

-- what the draw of this place behind a number gives below a bound; the first draw is in place 1
abbrev pub drawn : ℕ → ℕ → ℕ → ℕ
drawn place bound x = (behind place x / 65536) % bound
