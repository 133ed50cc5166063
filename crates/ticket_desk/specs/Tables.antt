-- What the steps of a turn ask of the table and of the seat.
use Rattle.std.specs.Prelude.{◌≡◌, ℕ, true, false, List, [], ◌∷◌, Option, Some}
use Rattle.atomic_table.specs.Table.{Me}
use Rattle.atomic_table.specs.Seated.{TableId}
use Rattle.ticket_desk.specs.declared.view.View.{View}
use Rattle.ticket_desk.specs.Turns.{Adds}

-- the table is a desk's, and the seat is of this table
abbrev pub IsDesk : TableId → TableId → Type 0
IsDesk z of = (of ≡ z) × (z.words ≡ 2) × (z.slots ≡ 1)

module _ {V T O : Type 0} where
  -- the seat holds this ticket, and its turn is not on
  abbrev pub IsWaiting : ℕ → ℕ → Me (Option V) (View T O) → Type 0
  IsWaiting n t m = (m.0.number ≡ Some n) × (m.0.ticket ≡ Some t) × (m.0.turn ≡ false) × (m.1 ≡ [])

  -- the turn is on, and the value that is out with the seat may be shown to all
  abbrev pub IsDone : (V → List T) → (V → O) → (T → ℕ) → ℕ → ℕ → Me (Option V) (View T O) → Type 0
  IsDone items origin by n t m = (m.0.number ≡ Some n) × (m.0.ticket ≡ Some t) × (m.0.turn ≡ true)
      × ((x : V) × (m.1 ≡ (0, Some x) ∷ []) × Adds by n m.0.seen (items x) × (m.0.origin ≡ Some (origin x)))
