-- Words on lists, and on what a view counts.
use Rattle.std.specs.Prelude.{◌≡◌, ℕ, List, ◌++◌, ◌+◌, ◌-◌, ◌%◌, ◌==◌, filter, count_by, is_some, Some}
use mathlib.Core.Option.{some}
use lib.ListN.{get_elem?}
use Rattle.ticket_desk.specs.declared.view.View.{View}

module _ {A : Type 0} where
  -- P holds of each element, at its place
  abbrev pub EachAt : (ℕ → A → Type 0) → List A → Type 0
  EachAt P xs = (i : ℕ) (x : A) → get_elem? xs i ≡ some x → P i x

  -- the longer list goes on from what was seen
  abbrev pub Begins : List A → List A → Type 0
  Begins seen longer = (rest : List A) × (longer ≡ seen ++ rest)

  -- the items that this number made
  abbrev pub by_number : (A → ℕ) → ℕ → List A → List A
  by_number by n xs = filter (λ x. by x == n) xs

module _ {T O : Type 0} where
  -- how many views hold a ticket
  abbrev pub waiting : List (View T O) → ℕ
  waiting views = count_by (λ (v : View T O). is_some v.ticket) views

  -- how many views have a number
  abbrev pub numbers : List (View T O) → ℕ
  numbers views = count_by (λ (v : View T O). is_some v.number) views

  -- no ticket is held twice
  abbrev pub Apart : List (View T O) → Type 0
  Apart views = (i j t : ℕ) (v w : View T O) → get_elem? views i ≡ some v → get_elem? views j ≡ some w
      → v.ticket ≡ Some t → w.ticket ≡ Some t → i ≡ j

-- how many turns come before a ticket's, where the words wrap at 2 ^ 64
abbrev pub behind : ℕ → ℕ → ℕ
behind served ticket = (ticket + (18446744073709551616 - served)) % 18446744073709551616
