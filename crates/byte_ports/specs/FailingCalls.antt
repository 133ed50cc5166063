-- Which calls of an object in memory fail: their numbers are listed, from 1.
use Rattle.std.specs.Prelude.{◌≡◌, ◌↔◌, ℕ, ◌+◌, ◌-◌, ◌^◌, min, Bool, true, Contains, List}
use Rattle.byte_ports.specs.declared.failing_calls.FailingCalls.{FailingCalls}
use Rattle.byte_ports.specs.Cause.{HasCause}

-- the number of the next call, which stands at its type's last value
abbrev pub next_call : FailingCalls → ℕ
next_call failing = min (failing.calls + 1) (2 ^ 64 - 1)

-- the next call is one of those listed
abbrev pub NextFails : FailingCalls → Type 0
NextFails failing = Contains failing.listed.items (next_call failing)

-- there was no call yet, and these will fail
pub record IsNew (numbers : List ℕ) (failing : FailingCalls) : Type 0 where
  pub calls : failing.calls ≡ 0
  pub listed : failing.listed.items ≡ numbers

-- one more call was counted, and the list stays
pub record CountsCall (old new : FailingCalls) : Type 0 where
  pub calls : new.calls ≡ next_call old
  pub listed : new.listed.items ≡ old.listed.items

-- a call was counted, which failed exactly where it was listed
pub record FailsAsListed (failed : Bool) (old new : FailingCalls) : Type 0 where
  pub listed : (failed ≡ true) ↔ NextFails old
  pub counted : CountsCall old new

-- a call was counted, which failed where it was listed, and else only where want of memory rose
pub record FailsOrStarves (failed : Bool) (old new : FailingCalls) (starved starved' : ℕ)
    : Type 0 where
  pub listed : NextFails old → failed ≡ true
  pub spared : NextFails old → starved' ≡ starved
  pub unlisted : (NextFails old → ⊥) → HasCause failed starved starved'
  pub counted : CountsCall old new
