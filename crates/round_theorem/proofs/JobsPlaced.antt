-- Each job that waits goes to one cell, and no two commands are about one.
use Rattle.std.proofs.Common.{◌≡◌, ℕ, zero, suc, Bool, true, false, cond, List, [], ◌∷◌, map, Some, refl, sym, ap, subst, ◌∙◌, arith}
use Rattle.std.specs.Cmp.{tied_itself}
use Rattle.std.specs.List.{All, Contains}
use Rattle.std.specs.Ordering.{eq_by_cmp}
use Rattle.std.specs.declared.cmp.Ordering.{Ordering}
use Rattle.std.specs.declared.cmp.Ordering.TheVariants.{Less, Equal}
use Rattle.std.proofs.lemmas.List.Elements.{All-contains, All-contains_itself, All-head, All-tail}
use Rattle.auctioneer.specs.Asked.{AreJobs}
use Rattle.auctioneer.specs.Auction.{auction}
use Rattle.auctioneer.specs.Laws.{job_in, NamesAnswer}
use Rattle.auctioneer.specs.Order.{turn_of, turn_order, in_order}
use Rattle.auctioneer.specs.Stands.{stands_of}
use Rattle.auctioneer.specs.declared.placement.Placement.{Placement}
use Rattle.auctioneer.specs.declared.placement.Placement.TheVariants.{On}
use Rattle.auctioneer.proofs.Public.{jobs_placed, names_answers, IsKeyOrder-turn_order, same_turn}
use Rattle.cell_records.specs.declared.answer.Answer.{Answer}
use Rattle.cell_records.specs.declared.job.Job.{Job}
use Rattle.cell_records.specs.declared.job_name.JobName.{JobName}
use Rattle.row_tables.specs.Table.{IsKeyOrder, IsRising, find_row, table}
use Rattle.row_tables.proofs.Public.{All-above, All-put_row, below_rest, IsRising-tail, IsRising-table, find_row-table, Contains-find_row, key-find_row, ties_itself}
use Rattle.converge_laws.proofs.Public.{inside_first, inside_rest, inside_map, from_map}
use Rattle.round_theorem.proofs.Lists.{Differ, differ_pairs, one_of_name}

module _ {K X : Type 0} (R : K → K → Ordering) (key : X → K) (o : IsKeyOrder R) where
  all_of_table : (P : X → Type 0) (xs : List X) → All P xs → All P (table R key xs)
  all_of_table P [] h = h
  all_of_table P (x ∷ xs) h = All-put_row R key P x (table R key xs) (All-head P x xs h)
      (all_of_table P xs (All-tail P x xs h))

  -- rows of a table are among those that it was made of
  pub from_table : (xs : List X) (x : X) → Contains (table R key xs) x → Contains xs x
  from_table xs x inside = All-contains (Contains xs) (table R key xs) x
      (all_of_table (Contains xs) xs (All-contains_itself xs)) inside

  found_some : (xs : List X) (x : X) → Contains xs x → (y : X) × (find_row R key (key x) xs ≡ Some y)
  found_some [] x (k, lt, at) = absurd (omega arith)
  found_some (y ∷ xs) x (zero, lt, at) = (
    y,
    ap (λ (b : Bool). cond b (Some y) (find_row R key (key x) xs))
        (ap (λ (z : X). eq_by_cmp R (key x) (key z)) at ∙ ties_itself R o (key x)),
  )
  found_some (y ∷ xs) x (suc k, lt, at) =
      elim (eq_by_cmp R (key x) (key y)) as (λ (b : Bool). (z : X)
      × (cond b (Some y) (find_row R key (key x) xs) ≡ Some z)) [
        | true ↦ (y, refl)
        | false ↦ found_some xs x (k, omega arith, at)
      ]

  -- each leads to one of its key
  into_table : (xs : List X) (x : X) → Contains xs x → (y : X) × Contains (table R key xs) y × (key y ≡ key x)
  into_table xs x inside =
      let f = found_some xs x inside in
      let there : find_row R key (key x) (table R key xs) ≡ Some f.0 = find_row-table R key o (key x) xs ∙ f.1 in (
        f.0,
        Contains-find_row R key (key x) f.0 (table R key xs) there,
        key-find_row R key o (key x) f.0 (table R key xs) there,
      )

abbrev names_of_jobs : List Job → List JobName
names_of_jobs js = map (λ (j : Job). j.job) js

-- jobs in order, of which each is one of those that wait
order_differs : (js ts : List Job) → Differ (names_of_jobs js) → ((t : Job) → Contains ts t → Contains js t)
    → IsRising turn_order turn_of ts → Differ (names_of_jobs ts)
order_differs js [] h from rises = tt
order_differs js (t ∷ ts) h from rises = (
  λ n inside same.
      let m = from_map (λ (j : Job). j.job) ts n inside in
      let one : m.0 ≡ t = one_of_name (λ (j : Job). j.job) js h m.0 t (from m.0 (inside_rest m.0 t ts m.1))
      (from t (inside_first t ts)) (m.2 ∙ same) in
      let less : turn_order (turn_of t) (turn_of m.0) ≡ Less =
      All-contains (λ (x : Job). turn_order (turn_of t) (turn_of x) ≡ Less) ts m.0
      (All-above turn_order turn_of (turn_of t) ts (below_rest turn_order turn_of t ts rises)) m.1 in
      let tie : turn_order (turn_of t) (turn_of m.0) ≡ Equal =
      ap (λ (x : Job). turn_order (turn_of t) (turn_of x)) one ∙ tied_itself IsKeyOrder-turn_order.total
      (turn_of t) in
      cc,
  order_differs js ts h (λ x inside. from x (inside_rest x t ts inside)) (IsRising-tail turn_order turn_of t ts rises),
)

module _ (cells : List Answer) (js : List Job) (differ : AreJobs js) where
  abbrev placed : List Placement
  placed = auction cells (in_order js)

  names : Differ (names_of_jobs js)
  names = differ_pairs (names_of_jobs js) differ

  placed_names : map job_in placed ≡ names_of_jobs (in_order js)
  placed_names = jobs_placed (stands_of cells) (in_order js)

  -- no job has two placements
  pub placed-differ : Differ (map job_in placed)
  placed-differ = subst Differ (sym placed_names)
      (order_differs js (in_order js) names (λ t inside. from_table turn_order turn_of IsKeyOrder-turn_order js t
      inside) (IsRising-table turn_order turn_of IsKeyOrder-turn_order js))

  -- each placement is of one of the jobs
  pub placed-of : (n : JobName) → Contains (map job_in placed) n → (j : Job) × Contains js j × (j.job ≡ n)
  placed-of n inside =
      let m = from_map (λ (x : Job). x.job) (in_order js) n (subst (λ ns. Contains ns n) placed_names inside) in
      (m.0, from_table turn_order turn_of IsKeyOrder-turn_order js m.0 m.1, m.2)

  -- each job has one
  pub placed-each : (j : Job) → Contains js j → (p : Placement) × Contains placed p × (job_in p ≡ j.job)
  placed-each j inside =
      let t = into_table turn_order turn_of IsKeyOrder-turn_order js j inside in
      let same : t.0.job ≡ j.job = same_turn t.0 j t.2 in
      let named : Contains (map job_in placed) j.job =
      subst (λ ns. Contains ns j.job) (sym placed_names) (subst (Contains (names_of_jobs (in_order js))) same
      (inside_map (λ (x : Job). x.job) (in_order js) t.0 t.1)) in
      from_map job_in placed j.job named

  -- on a cell that answered
  pub placed-there : (n : JobName) (cell : List ℕ) → Contains placed (On n cell)
      → (x : Answer) × Contains cells x × (x.cell ≡ cell)
  placed-there n cell inside =
      from_map (λ (a : Answer). a.cell) cells cell (All-contains (NamesAnswer cells) placed (On n cell)
      (names_answers cells (in_order js)) inside)
