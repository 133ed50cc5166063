-- What an event renews, by the kind of its row.
use Rattle.std.proofs.Common.{◌≡◌, ◌≢◌, ◌⊎◌, ℕ, ◌≤◌, Bool, true, false, cond, List, [], ◌∷◌, Option, Some, None, inl, inr, refl, ap, sym, subst, arith}
use Rattle.std.specs.List.{AllByRecursion}
use Rattle.std.specs.Option.{option_map, unwrap_or}
use Rattle.std.specs.Ordering.{eq_by_cmp}
use Rattle.std.specs.declared.cmp.Ordering.{Ordering}
use Rattle.cell_records.specs.declared.cell_row.CellRow.{CellRow}
use Rattle.diego_names.specs.Order.{name_order}
use Rattle.diego_names.specs.declared.key.Key.{Key}
use Rattle.lrp_records.specs.declared.actual.Actual.{Actual}
use Rattle.lrp_records.specs.declared.desired.Desired.{Desired}
use Rattle.lrp_records.specs.declared.presence.Presence.{Presence}
use Rattle.row_tables.specs.Table.{find_row}
use Rattle.task_records.specs.declared.task.Task.{Task}
use Rattle.bbs_model.specs.Limits.{most_instances}
use Rattle.bbs_model.specs.Tables.{process_of, find_desired, find_task}
use Rattle.bbs_model.specs.Valid.{HasFewInstances, IsValid}
use Rattle.bbs_model.specs.declared.domain_row.DomainRow.{DomainRow}
use Rattle.bbs_model.specs.declared.event.Row.{Row}
use Rattle.bbs_model.specs.declared.event.Row.TheVariants as row
use Rattle.bbs_model.specs.declared.rows.Rows.{Rows}
use Rattle.convergence.specs.Subjects.{OfPlace}
use Rattle.work_causes.specs.Causes.{causes_of, end_in, lease_in, task_cause}
use Rattle.differences.specs.Noted.{Keeping, causes_at, is_counted, named, noted_of}
use Rattle.differences.specs.Renewal.{AreFew, IsBlank, IsPlaceApart, IsRenewed, Renews}
use Rattle.differences.specs.Standing.{StandsFor, count_in}
use Rattle.differences.proofs.Touched.{Entries, apart_of_one, named_renewed}

-- what holds of each row holds of the one that is found
each_found : {K X : Type 0} (R : K → K → Ordering) (key : X → K) (P : X → Type 0) (q : K) (x : X) (xs : List X)
    → AllByRecursion P xs → find_row R key q xs ≡ Some x → P x
each_found R key P q x [] h e = absurd cc
each_found R key P q x (y ∷ ys) h e =
    elim (eq_by_cmp R q (key y)) as (λ (b : Bool). cond b (Some y) (find_row R key q ys) ≡ Some x → P x) [
      | true ↦ λ is. let one : y ≡ x = ap (λ s. unwrap_or s x) is in subst P one h.0
      | false ↦ λ is. each_found R key P q x ys h.1 is
    ] e

-- no process of valid rows wants more instances than one may
pub few_in : (rows : Rows) → IsValid rows → (q : List ℕ) → unwrap_or (count_in rows q) 0 ≤ most_instances
few_in rows v q =
    elim (find_desired rows q) as (λ (s : Option Desired). find_desired rows q ≡ s
    → unwrap_or (option_map (λ (x : Desired). x.instances) s) 0 ≤ most_instances) [
      | None ↦ λ is. omega arith
      | (Some d) ↦ λ is. each_found name_order process_of HasFewInstances q d rows.desired v.desired.each is
    ] refl

-- counts that are renewed stay few
pub few_renewed : {P : List ℕ → Type 0} (rows : Rows) → IsValid rows → (m n : List (List ℕ × ℕ))
    → ((q : List ℕ) → unwrap_or (named m q) 0 ≤ most_instances)
    → ((q : List ℕ) → IsRenewed (count_in rows q) (named m q) (named n q) (P q)) → (q : List ℕ)
    → unwrap_or (named n q) 0 ≤ most_instances
few_renewed rows v m n few renews q =
    elim (renews q) as (λ _. unwrap_or (named n q) 0 ≤ most_instances) [
      | (inl e) ↦ subst (λ (x : Option ℕ). unwrap_or x 0 ≤ most_instances) (sym e) (few_in rows v q)
      | (inr h) ↦ subst (λ (x : Option ℕ). unwrap_or x 0 ≤ most_instances) (sym h.0) (few q)
    ]

-- what is renewed of a row, by another name of the row and of what was kept
pub renews_at : (rows : Rows) (r s : Row) (a k b : Keeping) → s ≡ r → a ≡ k → Renews rows (r ∷ []) a b
    → Renews rows (s ∷ []) k b
renews_at rows r s a k b is same h =
    subst (λ (x : Keeping). Renews rows (s ∷ []) x b) same (subst (λ (x : Row). Renews rows (x ∷ []) a b) (sym is) h)

-- entries that are the same
kept_same : {V P : Type 0} (fresh : Option V) (m n : List (List ℕ × V)) (q : List ℕ) → n ≡ m → P
    → IsRenewed fresh (named m q) (named n q) P
kept_same fresh m n q e p = inr (ap (λ es. named es q) e, p)

module _ (rows : Rows) (a b : Keeping) where
  -- a desired row
  pub renews_desired : (d : Desired) → b.tasks ≡ a.tasks → b.cells ≡ a.cells → b.domains ≡ a.domains
      → ((p : Key × Presence) → IsRenewed (causes_of rows (OfPlace p)) (causes_at a.places p) (causes_at b.places p)
      ((is_counted b.wanted p.0 ≡ is_counted a.wanted p.0) ⊎ IsBlank a.places p))
      → ((q : List ℕ) → IsRenewed (count_in rows q) (named a.wanted q) (named b.wanted q) (d.process ≢ q))
      → Renews rows (row.Desired d ∷ []) a b
  renews_desired d tasks cells domains places counts = record {
    places = λ p. elim (places p) as (λ _. IsRenewed (causes_of rows (OfPlace p)) (causes_at a.places p)
        (causes_at b.places p) (IsPlaceApart (row.Desired d ∷ []) a b p)) [
          | (inl e) ↦ inl e
          | (inr h) ↦ inr (h.0, record { apart = (tt, tt); wanted = h.1 })
        ];
    tasks = λ q. kept_same (option_map task_cause (find_task rows q)) a.tasks b.tasks q tasks (tt, tt);
    wanted = λ q. apart_of_one (count_in rows q) (named a.wanted q) (named b.wanted q) (counts q);
    cells = λ q. kept_same (lease_in rows q) a.cells b.cells q cells (tt, tt);
    domains = λ q. kept_same (end_in rows q) a.domains b.domains q domains (tt, tt);
  }

  -- an actual row
  pub renews_actual : (r : Actual) → b.tasks ≡ a.tasks → b.wanted ≡ a.wanted → b.cells ≡ a.cells → b.domains ≡ a.domains
      → ((p : Key × Presence) → IsRenewed (causes_of rows (OfPlace p)) (causes_at a.places p) (causes_at b.places p)
      (r.key ≢ p.0))
      → Renews rows (row.Actual r ∷ []) a b
  renews_actual r tasks wanted cells domains places = record {
    places = λ p. elim (places p) as (λ _. IsRenewed (causes_of rows (OfPlace p)) (causes_at a.places p)
        (causes_at b.places p) (IsPlaceApart (row.Actual r ∷ []) a b p)) [
          | (inl e) ↦ inl e
          | (inr h) ↦ inr (
            h.0,
            record {
              apart = (h.1, tt);
              wanted =
                  inl (ap (λ (es : List (List ℕ × ℕ)). is_counted es p.0) wanted);
            },
          )
        ];
    tasks = λ q. kept_same (option_map task_cause (find_task rows q)) a.tasks b.tasks q tasks (tt, tt);
    wanted = λ q. kept_same (count_in rows q) a.wanted b.wanted q wanted (tt, tt);
    cells = λ q. kept_same (lease_in rows q) a.cells b.cells q cells (tt, tt);
    domains = λ q. kept_same (end_in rows q) a.domains b.domains q domains (tt, tt);
  }

  -- the places are the same, and so are the counts
  place_same : (p : Key × Presence) → b.places ≡ a.places → b.wanted ≡ a.wanted
      → (causes_at b.places p ≡ causes_at a.places p) × (is_counted b.wanted p.0 ≡ is_counted a.wanted p.0)
  place_same p e f = (ap (λ (es : Entries). causes_at es p) e, ap (λ (es : List (List ℕ × ℕ)). is_counted es p.0) f)

  -- a task
  pub renews_task : (t : Task) → b.places ≡ a.places → b.wanted ≡ a.wanted → b.cells ≡ a.cells → b.domains ≡ a.domains
      → named b.tasks t.name ≡ option_map task_cause (find_task rows t.name)
      → ((q : List ℕ) → t.name ≢ q → named b.tasks q ≡ named a.tasks q)
      → Renews rows (row.Task t ∷ []) a b
  renews_task t places wanted cells domains there others = record {
    places = λ p. let same = place_same p places wanted in
        inr (same.0, record { apart = (tt, tt); wanted = inl same.1 });
    tasks = λ q. apart_of_one (option_map task_cause (find_task rows q)) (named a.tasks q) (named b.tasks q)
        (named_renewed t.name (λ n. option_map task_cause (find_task rows n)) a.tasks b.tasks there others q);
    wanted = λ q. kept_same (count_in rows q) a.wanted b.wanted q wanted (tt, tt);
    cells = λ q. kept_same (lease_in rows q) a.cells b.cells q cells (tt, tt);
    domains = λ q. kept_same (end_in rows q) a.domains b.domains q domains (tt, tt);
  }

  -- a cell
  pub renews_cell : (c : CellRow) → b.places ≡ a.places → b.tasks ≡ a.tasks → b.wanted ≡ a.wanted
      → b.domains ≡ a.domains
      → named b.cells c.cell ≡ lease_in rows c.cell → ((q : List ℕ) → c.cell ≢ q → named b.cells q ≡ named a.cells q)
      → Renews rows (row.Cell c ∷ []) a b
  renews_cell c places tasks wanted domains there others = record {
    places = λ p. let same = place_same p places wanted in
        inr (same.0, record { apart = (tt, tt); wanted = inl same.1 });
    tasks = λ q. kept_same (option_map task_cause (find_task rows q)) a.tasks b.tasks q tasks (tt, tt);
    wanted = λ q. kept_same (count_in rows q) a.wanted b.wanted q wanted (tt, tt);
    cells = λ q. apart_of_one (lease_in rows q) (named a.cells q) (named b.cells q)
        (named_renewed c.cell (lease_in rows) a.cells b.cells there others q);
    domains = λ q. kept_same (end_in rows q) a.domains b.domains q domains (tt, tt);
  }

  -- a domain
  pub renews_domain : (d : DomainRow) → b.places ≡ a.places → b.tasks ≡ a.tasks → b.wanted ≡ a.wanted
      → b.cells ≡ a.cells
      → named b.domains d.domain ≡ end_in rows d.domain → ((q : List ℕ) → d.domain ≢ q
      → named b.domains q ≡ named a.domains q)
      → Renews rows (row.Domain d ∷ []) a b
  renews_domain d places tasks wanted cells there others = record {
    places = λ p. let same = place_same p places wanted in
        inr (same.0, record { apart = (tt, tt); wanted = inl same.1 });
    tasks = λ q. kept_same (option_map task_cause (find_task rows q)) a.tasks b.tasks q tasks (tt, tt);
    wanted = λ q. kept_same (count_in rows q) a.wanted b.wanted q wanted (tt, tt);
    cells = λ q. kept_same (lease_in rows q) a.cells b.cells q cells (tt, tt);
    domains = λ q. apart_of_one (end_in rows q) (named a.domains q) (named b.domains q)
        (named_renewed d.domain (end_in rows) a.domains b.domains there others q);
  }

-- counts that stand for valid rows are few
pub few_stands : (rows : Rows) → IsValid rows → (k : Keeping) → StandsFor (noted_of k) rows → AreFew k
few_stands rows v k stands q = subst (λ (n : Option ℕ). unwrap_or n 0 ≤ most_instances) (sym (stands.wanted q))
    (few_in rows v q)
