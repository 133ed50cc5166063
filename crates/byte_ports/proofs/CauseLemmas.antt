-- How the causes of several calls of one port join.
use Rattle.std.specs.Prelude.{◌≡◌, ℕ, ◌+◌, ◌-◌, ◌^◌, ◌<◌, ◌≤◌, min, Bool, true, false, ◌||◌, refl}
use Rattle.std.proofs.Common.{arith}
use Rattle.byte_ports.specs.Cause.{HasCause, Rose}

-- where nothing was called, no fault is answered
pub cause_uncalled : (n : ℕ) → HasCause false n n
cause_uncalled n = record { later = omega arith; stood = λ _. refl; rose = λ h. absurd (cc) }

-- a fault that was counted by one, up to the type's last value
pub cause_counted : (n : ℕ) → n < 2 ^ 64 → HasCause true n (min (n + 1) (2 ^ 64 - 1))
cause_counted n small =
    record { later = omega arith; stood = λ h. absurd (cc); rose = λ _. omega arith }

-- a count that had risen goes on standing or rising
pub rose_later : (a b c : ℕ) → Rose a b → b ≤ c → Rose a c
rose_later a b c rose later = omega arith

-- a count that rises later has risen since an earlier value
pub later_rose : (a b c : ℕ) → a ≤ b → Rose b c → Rose a c
later_rose a b c later rose = omega arith

-- two calls: a fault is answered where one of them answers it
pub cause_both : (p q : Bool) (a b c : ℕ) → HasCause p a b → HasCause q b c → HasCause (p || q) a c
cause_both true q a b c first second = record {
  later = omega arith;
  stood = λ h. absurd (cc);
  rose = λ _. rose_later a b c (first.rose refl) second.later;
}
cause_both false q a b c first second = record {
  later = omega arith;
  stood = λ h. let e : b ≡ a = first.stood refl in let f : c ≡ b = second.stood h in cc;
  rose = λ h. later_rose a b c first.later (second.rose h);
}

-- a call without a fault, and then a run of calls: the fault is the run's
pub cause_after : (q : Bool) (a b c : ℕ) → HasCause false a b → HasCause q b c → HasCause q a c
cause_after q a b c first second = cause_both false q a b c first second

-- a run without a fault, and then a last call that fails
pub cause_last : (a b c : ℕ) → HasCause false a b → HasCause true b c → HasCause true a c
cause_last a b c first second = cause_both false true a b c first second
