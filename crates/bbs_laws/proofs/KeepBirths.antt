-- A task that has its outcome never waits for one again.
use Rattle.std.proofs.Common.{◌≡◌, ℕ, ◌<◌, ◌==◌, Bool, true, false, cond, List, [], ◌∷◌, map, find, Option, Some, None, nat_eq, refl, ap, sym, subst, ◌∙◌, arith}
use Rattle.std.specs.List.{AllByRecursion, IsDistinct}
use Rattle.std.specs.Option.{option_map_or, unwrap_or}
use Rattle.std.specs.FinMap.Entries.{by_order}
use Rattle.std.specs.Ordering.{is_eq, eq_by_cmp}
use Rattle.std.specs.declared.cmp.Ordering.TheVariants.{Less, Equal, Greater}
use Rattle.std.proofs.lemmas.Bool.Decides.{nat_tests}
use Rattle.diego_names.specs.Order.{name_order}
use Rattle.diego_names.proofs.Public.{IsKeyOrder-name_order}
use Rattle.row_tables.specs.Table.{find_row, put_row, without_row, IsRising}
use Rattle.row_tables.proofs.Public.{below_rest, IsRising-tail, find_row-below_first}
use Rattle.task_records.specs.States.{is_unfinished}
use Rattle.task_records.specs.declared.task.Task.{Task}
use Rattle.bbs_model.specs.Tables.{task_name_of}
use Rattle.bbs_laws.proofs.KeepEach.{differs-without_row}
use Rattle.bbs_laws.proofs.KeepSteps.{same_from}

-- the first task of a search is there and waits
abbrev waits_first : Option Task → Bool
waits_first found = option_map_or (λ (t : Task). is_unfinished t.state) found false

-- one more row in front changes nothing that a search for others says
behind : (test : Bool) (y : Task) (one other : Option Task) → (waits_first one ≡ false → waits_first other ≡ false)
    → waits_first (cond test (Some y) one) ≡ false → waits_first (cond test (Some y) other) ≡ false
behind true y one other h is = is
behind false y one other h is = h is

passed_over : (test : Bool) (y : Task) (rest : Option Task) → test ≡ false → waits_first rest ≡ false
    → waits_first (cond test (Some y) rest) ≡ false
passed_over true y rest e is = cc
passed_over false y rest e is = is

rest_of : (test : Bool) (y : Task) (rest : Option Task) → test ≡ false → waits_first (cond test (Some y) rest) ≡ false
    → waits_first rest ≡ false
rest_of true y rest e is = cc
rest_of false y rest e is = is

not_more : (a b : Bool) → (a ≡ true → b ≡ true) → b ≡ false → a ≡ false
not_more true b h e = cc (h refl)
not_more false b h e = refl

in_place : (test : Bool) (new y : Task) (rest : Option Task)
    → (is_unfinished new.state ≡ true → is_unfinished y.state ≡ true)
    → waits_first (cond test (Some y) rest) ≡ false → waits_first (cond test (Some new) rest) ≡ false
in_place true new y rest back is = not_more (is_unfinished new.state) (is_unfinished y.state) back is
in_place false new y rest back is = is

module _ (b : ℕ) where
  -- the task of the birth is in the list, and waits for its outcome
  abbrev pub waits : List Task → Bool
  waits tasks = waits_first (find (λ (t : Task). t.birth == b) tasks)

  -- it waits no more after a put of a row of the same birth that never turns back
  pub waits-put_known : (new old : Task) (tasks : List Task) → IsRising name_order task_name_of tasks
      → find_row name_order task_name_of new.name tasks ≡ Some old
      → new.birth ≡ old.birth → (is_unfinished new.state ≡ true → is_unfinished old.state ≡ true)
      → waits tasks ≡ false → waits (put_row name_order task_name_of new tasks) ≡ false
  waits-put_known new old [] rises known same back is = cc
  waits-put_known new old (y ∷ ys) rises known same back is =
      elim (name_order new.name y.name) as (λ c. name_order new.name y.name ≡ c
      → cond (is_eq c) (Some y) (find_row name_order task_name_of new.name ys) ≡ Some old
      → waits (by_order c (new ∷ y ∷ ys) (new ∷ ys) (y ∷ put_row name_order task_name_of new ys)) ≡ false) [
        | Less ↦ λ p found.
            let none : find_row name_order task_name_of new.name ys ≡ None =
            find_row-below_first name_order task_name_of IsKeyOrder-name_order new.name y ys p
            (below_rest name_order task_name_of y ys rises) in cc
        | Equal ↦ λ p found.
            let one : y ≡ old = ap (λ s. unwrap_or s old) found in
            let test : y.birth == b ≡ new.birth == b = ap (λ (n : ℕ). n == b)
            (ap (λ (t : Task). t.birth) one ∙ sym same) in
            let rest = find (λ (t : Task). t.birth == b) ys in
            let was : waits_first (cond (new.birth == b) (Some y) rest) ≡ false =
            subst (λ (t : Bool). waits_first (cond t (Some y) rest) ≡ false) test is in
            in_place (new.birth == b) new y rest (λ u. ap (λ (t : Task). is_unfinished t.state) one ∙ back u) was
        | Greater ↦ λ p found.
            behind (y.birth == b) y (find (λ (t : Task). t.birth == b) ys)
            (find (λ (t : Task). t.birth == b) (put_row name_order task_name_of new ys))
            (waits-put_known new old ys (IsRising-tail name_order task_name_of y ys rises) found same back) is
      ] refl known

  -- nor after a put of a new row of another birth
  pub waits-put_new : (new : Task) (tasks : List Task) → find_row name_order task_name_of new.name tasks ≡ None
      → new.birth == b ≡ false
      → waits tasks ≡ false → waits (put_row name_order task_name_of new tasks) ≡ false
  waits-put_new new [] none other is = passed_over (new.birth == b) new None other refl
  waits-put_new new (y ∷ ys) none other is =
      elim (name_order new.name y.name) as (λ c. cond (is_eq c) (Some y) (find_row name_order task_name_of new.name ys)
      ≡ None
      → waits (by_order c (new ∷ y ∷ ys) (new ∷ ys) (y ∷ put_row name_order task_name_of new ys)) ≡ false) [
        | Less ↦ λ found. passed_over (new.birth == b) new (find (λ (t : Task). t.birth == b) (y ∷ ys)) other is
        | Equal ↦ λ found. cc
        | Greater ↦ λ found.
            behind (y.birth == b) y (find (λ (t : Task). t.birth == b) ys)
            (find (λ (t : Task). t.birth == b) (put_row name_order task_name_of new ys))
            (waits-put_new new ys found other) is
      ] none

  -- where each birth is another, it isn't there
  waits-none : (n : ℕ) (tasks : List Task) → n ≡ b → AllByRecursion (λ m. nat_eq n m ≡ false)
      (map (λ (t : Task). t.birth) tasks) → waits tasks ≡ false
  waits-none n [] is h = refl
  waits-none n (y ∷ ys) is h =
      let differs : nat_eq n y.birth ≡ false = h.0 in
      let apart : y.birth == b ≡ false = grind (arith, nat_tests) in
      passed_over (y.birth == b) y (find (λ (t : Task). t.birth == b) ys) apart (waits-none n ys is h.1)

  -- nor after a removal, where births differ
  pub waits-without : (name : List ℕ) (tasks : List Task) → IsDistinct nat_eq (map (λ (t : Task). t.birth) tasks)
      → waits tasks ≡ false → waits (without_row name_order task_name_of name tasks) ≡ false
  unfolding IsDistinct
  waits-without name [] distinct is = refl
  waits-without name (y ∷ ys) distinct is =
      let rest = find (λ (t : Task). t.birth == b) ys in
      elim (eq_by_cmp name_order name y.name) as (λ c. waits
      (cond c (without_row name_order task_name_of name ys) (y ∷ without_row name_order task_name_of name ys))
      ≡ false) [
        | true ↦ elim (y.birth == b) as (λ t. y.birth == b ≡ t
            → waits (without_row name_order task_name_of name ys) ≡ false) [
              | true ↦ λ e. waits-none y.birth (without_row name_order task_name_of name ys) (same_from y.birth b e)
                  (differs-without_row name_order task_name_of (λ (t : Task). t.birth) y.birth name ys distinct.0)
              | false ↦ λ e. waits-without name ys distinct.1 (rest_of (y.birth == b) y rest e is)
            ] refl
        | false ↦ behind (y.birth == b) y rest (find (λ (t : Task). t.birth == b)
            (without_row name_order task_name_of name ys)) (waits-without name ys distinct.1) is
      ]

  -- a task that waits was born before
  pub waits-below : (next : ℕ) (tasks : List Task) → AllByRecursion (λ (t : Task). t.birth < next) tasks
      → waits tasks ≡ true → b < next
  waits-below next [] below is = cc
  waits-below next (y ∷ ys) below is =
      let rest = find (λ (t : Task). t.birth == b) ys in
      elim (y.birth == b) as (λ t. y.birth == b ≡ t → waits_first (cond t (Some y) rest) ≡ true → b < next) [
        | true ↦ λ e was. let same : y.birth ≡ b = same_from y.birth b e in let past : y.birth < next = below.0 in
            omega arith
        | false ↦ λ e was. waits-below next ys below.1 was
      ] refl is
