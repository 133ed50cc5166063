-- What a new lease of a cell, or a new end of a domain, changes of the ends of terms.
use Rattle.std.specs.Prelude.{◌≡◌, ◌≢◌, ℕ, List, Option, Some, None}
use Rattle.work_causes.specs.Causes.{Ends, end_under}
use Rattle.work_causes.specs.declared.cause.Lease.{Lease}
use Rattle.work_causes.specs.declared.cause.Term.{Term}
use Rattle.work_causes.specs.declared.cause.Term.TheVariants.{OfEpoch}

-- the ends of terms are as before, but for the cell's lease under the epoch of this one, which ends by the new lease
abbrev pub IsShiftedEpoch : List ℕ → Option Lease → Option Lease → Option Lease → (Term → Option ℕ) → (Term → Option ℕ)
    → Type 0
IsShiftedEpoch cell None before after old new = (t : Term) → new t ≡ old t
IsShiftedEpoch cell (Some l) before after old new = ((t : Term) → OfEpoch cell l.epoch ≢ t → new t ≡ old t)
    × (new (OfEpoch cell l.epoch) ≡ Some (end_under after l.epoch))

-- leases and domains end as before, but for the lease of a cell, which was one and is another
pub record IsNewLease (cell : List ℕ) (before after : Option Lease) (old new : Ends) : Type 0 where
  pub was : old.cells cell ≡ before
  pub is : new.cells cell ≡ after
  pub cells : (other : List ℕ) → cell ≢ other → new.cells other ≡ old.cells other
  pub domains : (name : List ℕ) → new.domains name ≡ old.domains name

-- leases and domains end as before, but for a domain, which has another end
pub record IsNewEnd (name : List ℕ) (after : Option (Option ℕ)) (old new : Ends) : Type 0 where
  pub is : new.domains name ≡ after
  pub domains : (other : List ℕ) → name ≢ other → new.domains other ≡ old.domains other
  pub cells : (cell : List ℕ) → new.cells cell ≡ old.cells cell
