-- Where no subject is due, nothing of any kind is.
use Rattle.std.proofs.Common.{◌≡◌, ◌+◌, ◌≤◌, List, [], ◌∷◌, ◌++◌, length, length-append, map, refl, arith}
use Rattle.std.proofs.lemmas.List.{length-map}
use Rattle.std.specs.FinMap.Entries.{by_order}
use Rattle.std.specs.declared.cmp.Ordering.{Ordering}
use Rattle.std.specs.declared.cmp.Ordering.TheVariants.{Less, Equal, Greater}
use Rattle.row_tables.specs.Table.{put_row, table}
use Rattle.convergence.specs.Subjects.{OfCell, OfDomain, OfPlace, OfTask}
use Rattle.crash_backoff.specs.declared.moment.Moment.{Moment}
use Rattle.diego_names.specs.Order.{name_order}
use Rattle.lrp_records.specs.Place.{place_order}
use Rattle.work_causes.specs.Causes.{listed}
use Rattle.differences.specs.Due.{DueKeys, causes_of_end, causes_of_lease, due_in, keys_due, one_cause, subjects_in}
use Rattle.differences.specs.Noted.{Noted, ends_by}

module _ {K : Type 0} (R : K → K → Ordering) where
  put_there : (x : K) (xs : List K) → put_row R (λ k. k) x xs ≡ [] → ⊥
  put_there x [] e = cc
  put_there x (y ∷ ys) e =
      elim (R x y) as (λ (o : Ordering). by_order o (x ∷ y ∷ ys) (x ∷ ys) (y ∷ put_row R (λ k. k) x ys) ≡ [] → ⊥) [
        | Less ↦ λ h. cc
        | Equal ↦ λ h. cc
        | Greater ↦ λ h. cc
      ] e

  -- only the table of nothing is empty
  pub table_empty : (xs : List K) → table R (λ k. k) xs ≡ [] → xs ≡ []
  table_empty [] e = refl
  table_empty (x ∷ xs) e = absurd (put_there x (table R (λ k. k) xs) e)

map_empty : {X Y : Type 0} (f : X → Y) (xs : List X) → map f xs ≡ [] → xs ≡ []
map_empty f [] e = refl
map_empty f (x ∷ xs) e = absurd cc

first_empty : {X : Type 0} (xs ys : List X) → xs ++ ys ≡ [] → xs ≡ []
first_empty [] ys e = refl
first_empty (x ∷ xs) ys e = absurd cc

rest_empty : {X : Type 0} (xs ys : List X) → xs ++ ys ≡ [] → ys ≡ []
rest_empty [] ys e = e
rest_empty (x ∷ xs) ys e = absurd cc

-- nothing of any kind
pub record AreNone (due : DueKeys) : Type 0 where
  pub cells : due.cells ≡ []
  pub domains : due.domains ≡ []
  pub places : due.places ≡ []
  pub tasks : due.tasks ≡ []

pub none_due : (due : DueKeys) → subjects_in due ≡ [] → AreNone due
none_due due e =
    let cells = map OfCell due.cells in
    let domains = map OfDomain due.domains in
    let places = map OfPlace due.places in
    let tasks = map OfTask due.tasks in
    let one : domains ++ (places ++ tasks) ≡ [] = rest_empty cells (domains ++ (places ++ tasks)) e in
    let two : places ++ tasks ≡ [] = rest_empty domains (places ++ tasks) one in
    record {
      cells = map_empty OfCell due.cells (first_empty cells (domains ++ (places ++ tasks)) e);
      domains = map_empty OfDomain due.domains (first_empty domains (places ++ tasks) one);
      places = map_empty OfPlace due.places (first_empty places tasks two);
      tasks = map_empty OfTask due.tasks (rest_empty places tasks two);
    }

-- places and tasks are among the subjects
pub readings_within : (due : DueKeys) → length due.places + length due.tasks ≤ length (subjects_in due)
readings_within due =
    let cells = map OfCell due.cells in
    let domains = map OfDomain due.domains in
    let places = map OfPlace due.places in
    let tasks = map OfTask due.tasks in
    omega (
      arith,
      length-append cells (domains ++ (places ++ tasks)),
      length-append domains (places ++ tasks),
      length-append places tasks,
      length-map due.places OfPlace,
      length-map due.tasks OfTask,
    )

-- no entry is due
pub record AreNoneDue (d : Noted) (now : Moment) : Type 0 where
  pub cells : keys_due causes_of_lease (ends_by d.cells d.domains) now d.cells ≡ []
  pub domains : keys_due causes_of_end (ends_by d.cells d.domains) now d.domains ≡ []
  pub places : keys_due listed (ends_by d.cells d.domains) now d.places ≡ []
  pub tasks : keys_due one_cause (ends_by d.cells d.domains) now d.tasks ≡ []

pub none_of : (d : Noted) (now : Moment) → subjects_in (due_in d now) ≡ [] → AreNoneDue d now
none_of d now e =
    let none : AreNone (due_in d now) = none_due (due_in d now) e in
    record {
      cells = table_empty name_order (keys_due causes_of_lease (ends_by d.cells d.domains) now d.cells) none.cells;
      domains = table_empty name_order (keys_due causes_of_end (ends_by d.cells d.domains) now d.domains) none.domains;
      places = table_empty place_order (keys_due listed (ends_by d.cells d.domains) now d.places) none.places;
      tasks = table_empty name_order (keys_due one_cause (ends_by d.cells d.domains) now d.tasks) none.tasks;
    }
