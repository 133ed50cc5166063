-- What the steps of `start` and `close` say of seats and passes.
use Rattle.std.specs.Prelude.{◌≡◌, ℕ, suc, ◌<◌, ◌≤◌, false, List, [], ◌++◌, length, map, Option, Some}
use mathlib.Core.Option.{some}
use lib.ListN.{get_elem?}
use Rattle.atomic_table.specs.Table.{Me}
use Rattle.atomic_table.specs.Seated.{TableId}
use Rattle.ticket_desk.specs.declared.view.View.{View}
use Rattle.ticket_desk.specs.declared.view.Told.{Told}
use Rattle.ticket_desk.specs.declared.pass.Pass.{Pass}
use Rattle.ticket_desk.specs.Views.{EachAt, Begins, by_number}
use Rattle.ticket_desk.specs.Rule.{first_view}
use Rattle.ticket_desk.specs.Steps.{as_told, newly_given}
use Rattle.ticket_desk.specs.Passes.{view_of}

module _ {V T O : Type 0} where
  -- the seat of number 0, which gave so many numbers and has done nothing else
  abbrev pub IsFirst : (V → List T) → (V → O) → V → ℕ → Me (Option V) (View T O) → Type 0
  IsFirst items origin value many m = m ≡ (record (first_view (items value) (origin value)) { given = many }, [])

  -- the passes of the numbers from 1 on, as the first view gave them
  abbrev pub AreGiven : TableId → View T O → ℕ → List (Pass V T O) → Type 0
  AreGiven z v many passes = (suc (length passes) ≡ many)
      × EachAt (λ k (p : Pass V T O). (p.place.table_id ≡ z) × (p.number ≡ suc k)
      × (view_of p ≡ newly_given (record v { given = suc k }))) passes

  -- passes of the desk z
  abbrev pub AreOf : TableId → List (Pass V T O) → Type 0
  AreOf z passes = EachAt (λ _ (p : Pass V T O). p.place.table_id ≡ z) passes

  -- what is told of a pass
  abbrev pub told_of : Pass V T O → Told T
  told_of p = as_told (view_of p)

  -- the passes at the end of the list were joined into the seat, and these are left
  abbrev pub HasGathered : List (Pass V T O) → List (Pass V T O) → Me (Option V) (View T O) → Me (Option V) (View T O)
      → Type 0
  HasGathered passes rest m m' = (done : List (Pass V T O)) × (passes ≡ rest ++ done)
      × (m' ≡ (record m.0 { joined = map told_of done ++ m.0.joined }, m.1))

module _ {T O : Type 0} where
  -- the view of number 0, into which each other number that it gave was joined
  pub record HasAll (v : View T O) : Type 0 where
    pub number_is : v.number ≡ Some 0
    pub no_turn : v.turn ≡ false
    pub all : (n : ℕ) → 0 < n → n < v.given → (k : ℕ) × (e : Told T) × (get_elem? v.joined k ≡ some e) × (e.number ≡ n)

  -- the value that is left behind such a view
  pub record IsLeft {V : Type 0} (items : V → List T) (origin : V → O) (by : T → ℕ) (start : V) (v : View T O)
      (left : V) : Type 0 where
    pub fresh : List T
    pub history : items left ≡ items start ++ fresh
    pub source : origin left ≡ origin start
    pub own : v.mine ≡ by_number by 0 fresh
    pub seen : Begins v.seen (items left)
    pub told : EachAt (λ _ (e : Told T). (e.mine ≡ by_number by e.number fresh) × Begins e.seen (items left)) v.joined
    pub no_others : (n : ℕ) → v.given ≤ n → by_number by n fresh ≡ []
