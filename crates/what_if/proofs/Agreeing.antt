-- What is made by tests that agree is the same, and how the definitions are looked up.
use Rattle.std.proofs.Common.{◌≡◌, ℕ, ◌+◌, Bool, true, false, ◌&&◌, ◌||◌, cond, List, [], ◌∷◌, map, filter, Option, None, refl, ap, ◌∙◌}
use Rattle.std.specs.List.{count_by, filter_map, list_any}
use Rattle.std.specs.Option.{option_and_then, option_map}
use Rattle.std.proofs.lemmas.List.Folds.{fold-map}
use Rattle.diego_names.specs.declared.key.Key.{Key}
use Rattle.dump_lines.specs.declared.cell_state.CellState.{CellState}
use Rattle.dump_lines.specs.declared.cell_state.Place.{Place}
use Rattle.dump_lines.specs.declared.rows.ActualRow.{ActualRow}
use Rattle.what_if.specs.Places.{place_by, silent_stay_by, IsPlaces}
use Rattle.what_if.specs.Sites.{has_crashed, has_started, has_told, is_crashed, place_in, silent_stay, stay_on}
use Rattle.what_if.specs.Stays.{is_lost, same_key}
use Rattle.what_if.specs.declared.silence.Places.{Places}
use Rattle.what_if.proofs.Names.{keys_turned, names_turned}

-- tests, and what is made of each, that agree everywhere
pub filter-same : {X : Type 0} (p q : X → Bool) → ((x : X) → p x ≡ q x) → (xs : List X) → filter p xs ≡ filter q xs
filter-same {X} p q same xs = ap (λ (f : X → Bool). filter f xs) (λ i x. same x i)

pub any-same : {X : Type 0} (p q : X → Bool) → ((x : X) → p x ≡ q x) → (xs : List X) → list_any p xs ≡ list_any q xs
any-same {X} p q same xs = ap (λ (f : X → Bool). list_any f xs) (λ i x. same x i)

pub count-same : {X : Type 0} (p q : X → Bool) → ((x : X) → p x ≡ q x) → (xs : List X) → count_by p xs ≡ count_by q xs
count-same {X} p q same xs = ap (λ (f : X → Bool). count_by f xs) (λ i x. same x i)

pub map-same : {X Y : Type 0} (f g : X → Y) → ((x : X) → f x ≡ g x) → (xs : List X) → map f xs ≡ map g xs
map-same {X} {Y} f g same xs = ap (λ (h : X → Y). map h xs) (λ i x. same x i)

pub filter_map-same : {X Y : Type 0} (f g : X → Option Y) → ((x : X) → f x ≡ g x) → (xs : List X)
    → filter_map f xs ≡ filter_map g xs
filter_map-same {X} {Y} f g same xs = ap (λ (h : X → Option Y). filter_map h xs) (λ i x. same x i)

pub and_then-same : {X Y : Type 0} (f g : X → Option Y) → ((x : X) → f x ≡ g x) → (o : Option X)
    → option_and_then f o ≡ option_and_then g o
and_then-same {X} {Y} f g same o = ap (λ (h : X → Option Y). option_and_then h o) (λ i x. same x i)

-- a count of what is made
pub count-map : {X Y : Type 0} (p : Y → Bool) (f : X → Y) (xs : List X)
    → count_by p (map f xs) ≡ count_by (λ x. p (f x)) xs
count-map p f xs = fold-map (λ (n : ℕ) y. n + cond (p y) 1 0) f 0 xs

pub any-map : {X Y : Type 0} (p : Y → Bool) (f : X → Y) (xs : List X)
    → list_any p (map f xs) ≡ list_any (λ x. p (f x)) xs
any-map p f [] = refl
any-map p f (x ∷ xs) = ap (λ (b : Bool). p (f x) || b) (any-map p f xs)

pub and_true : (b : Bool) → (b && true) ≡ b
and_true true = refl
and_true false = refl

-- a test that comes first
pub any-filter : {X : Type 0} (p q : X → Bool) (xs : List X) → list_any p (filter q xs) ≡ list_any (λ x. q x && p x) xs
any-filter p q [] = refl
any-filter p q (x ∷ xs) =
    elim (q x) as (λ b. list_any p (cond b (x ∷ filter q xs) (filter q xs))
    ≡ (b && p x || list_any (λ y. q y && p y) xs)) [
      | true ↦ ap (λ (c : Bool). p x || c) (any-filter p q xs)
      | false ↦ any-filter p q xs
    ]

-- the cells that told their state
pub told-from_lost : (states : List CellState) (cell : List ℕ)
    → is_lost (map (λ s. s.place.cell) states) cell ≡ has_told states cell
told-from_lost [] cell = refl
told-from_lost (s ∷ ss) cell = λ i. names_turned s.place.cell cell i || told-from_lost ss cell i

-- the crashed instances
pub crashed-from_keys : (rows : List ActualRow) (key : Key)
    → list_any (λ k. same_key k key) (map (λ r. r.instance) (filter (λ r. has_crashed r.state) rows))
    ≡ is_crashed rows key
crashed-from_keys rows key =
    any-map (λ k. same_key k key) (λ (r : ActualRow). r.instance) (filter (λ r. has_crashed r.state) rows)
    ∙ any-filter (λ (r : ActualRow). same_key r.instance key) (λ r. has_crashed r.state) rows
    ∙ any-same (λ (r : ActualRow). has_crashed r.state && same_key r.instance key)
    (λ r. has_crashed r.state && same_key key r.instance)
    (λ r. ap (λ (b : Bool). has_crashed r.state && b) (keys_turned r.instance key)) rows

-- where rows say that instances stand
pub silent_stays-by_places : (silent : List Place) (places : Places) → IsPlaces silent places → (r : ActualRow)
    → silent_stay_by places r ≡ silent_stay silent r
silent_stays-by_places silent places is r =
    ap (λ (o : Option Place). cond (has_started r.state) (option_map (stay_on r.instance) o) None)
    (and_then-same (place_by places) (place_in silent) is r.cell)
