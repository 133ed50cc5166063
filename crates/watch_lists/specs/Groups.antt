-- Items in groups, each with a number, and items that are noted under moments.
use Rattle.std.specs.Prelude.{◌≡◌, ℕ, ◌<◌, ◌&&◌, Bool, true, List, nat_eq, nat_lt, Option, Some, is_some}
use Rattle.std.specs.List.{Contains}
use Rattle.std.specs.Map.{lookup}
use Rattle.std.specs.Option.{unwrap_or}

-- how many items each group has, the item of each number, and the number of each item; and for how many more there
-- is room
pub record Grouped (C S : Type 0) : Type 0 where
  pub counts : List (C × ℕ)
  pub items : List ((C × ℕ) × S)
  pub numbers : List ((C × S) × ℕ)
  pub spare : ℕ

-- the moments under which items are noted, and the items in groups by moments; and for how many more there is room
pub record Dated (S : Type 0) : Type 0 where
  pub moments : List ℕ
  pub items : Grouped ℕ S
  pub spare : ℕ

module _ {C : Type 0} (eq : C → C → Bool) where
  -- the two are one number of one group
  abbrev pub is_number : C × ℕ → C × ℕ → Bool
  is_number a b = eq a.0 b.0 && nat_eq a.1 b.1

  -- the count beside a group, 0 where there is none
  abbrev pub count_by : List (C × ℕ) → C → ℕ
  count_by counts c = unwrap_or (lookup (eq c) counts) 0

  -- the item beside a number
  abbrev pub item_by : {S : Type 0} → List ((C × ℕ) × S) → C → ℕ → Option S
  item_by items c n = lookup (is_number (c, n)) items

  -- how many items a group has
  abbrev pub len_of : {S : Type 0} → Grouped C S → C → ℕ
  len_of g c = count_by g.counts c

  -- the item of a group with a number
  abbrev pub item_at : {S : Type 0} → Grouped C S → C → ℕ → Option S
  item_at g c n = item_by g.items c n

module _ {C S : Type 0} (eq : C → C → Bool) (same : S → S → Bool) where
  -- the two are one item in one group
  abbrev pub is_pair : C × S → C × S → Bool
  is_pair a b = eq a.0 b.0 && same a.1 b.1

  -- the number beside an item
  abbrev pub number_by : List ((C × S) × ℕ) → C → S → Option ℕ
  number_by numbers c s = lookup (is_pair (c, s)) numbers

  -- the item is in the group
  abbrev pub is_in : Grouped C S → C → S → Bool
  is_in g c s = is_some (number_by g.numbers c s)

  -- each item of a group has a number below the count of the group
  abbrev pub IsListed : Grouped C S → C → Type 0
  IsListed g c = (s : S) → is_in g c s ≡ true → (n : ℕ) × (n < len_of eq g c) × (item_at eq g c n ≡ Some s)

  -- items and numbers tell of each other, and the numbers of a group are those below its count
  pub record IsNumbered (counts : List (C × ℕ)) (items : List ((C × ℕ) × S)) (numbers : List ((C × S) × ℕ)) : Type 0 where
    pub told : (c : C) (s : S) (n : ℕ) → number_by numbers c s ≡ Some n → item_by eq items c n ≡ Some s
    pub back : (c : C) (n : ℕ) (s : S) → item_by eq items c n ≡ Some s → number_by numbers c s ≡ Some n
    pub filled : (c : C) (n : ℕ) → is_some (item_by eq items c n) ≡ nat_lt n (count_by eq counts c)

-- each moment under which an item is noted is there
abbrev pub IsDated : {S : Type 0} → (S → S → Bool) → List ℕ → Grouped ℕ S → Type 0
IsDated {S} same moments items = (m : ℕ) (s : S) → is_in nat_eq same items m s ≡ true → Contains moments m
