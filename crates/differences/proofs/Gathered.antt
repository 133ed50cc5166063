-- What is gathered row by row.
use Rattle.std.proofs.Common.{◌≡◌, ℕ, zero, suc, ◌+◌, ◌<◌, Bool, true, false, cond, List, [], ◌∷◌, length, take, get_or, nat_lt, option_to_list, Option, Some, None, inl, inr, refl, ap, sym, subst, ◌∙◌, ⊎_elim, arith}
use Rattle.std.proofs.lemmas.Bool.Decides.{nat_tests}
use Rattle.std.proofs.lemmas.List.Elements.{All-contains, Contains-append_cases}
use Rattle.std.specs.Cmp.{eq_by_cmp_equiv}
use Rattle.std.specs.List.{Contains}
use Rattle.std.specs.Option.{option_map, option_map_or}
use Rattle.std.specs.Ordering.{eq_by_cmp, is_eq}
use Rattle.std.specs.declared.cmp.Ordering.{Ordering}
use Rattle.std.specs.declared.cmp.Ordering.TheVariants.{Less}
use Rattle.diego_names.proofs.Public.{IsKeyOrder-name_order}
use Rattle.diego_names.specs.Order.{name_order}
use Rattle.diego_names.specs.declared.key.Key.{Key}
use Rattle.lrp_records.proofs.Public.{IsKeyOrder-place_order}
use Rattle.lrp_records.specs.Place.{place_of, place_order}
use Rattle.lrp_records.specs.declared.actual.Actual.{Actual}
use Rattle.lrp_records.specs.declared.desired.Desired.{Desired}
use Rattle.lrp_records.specs.declared.presence.Presence.{Presence}
use Rattle.lrp_records.specs.declared.presence.Presence.TheVariants.{Ordinary, Evacuating, Suspect}
use Rattle.row_tables.specs.Table.{IsKeyOrder, IsRising, find_row}
use Rattle.row_tables.proofs.Public.{All-above, Contains-find_row, below_rest, IsRising-tail, key-find_row, same_from_tie, ties_itself}
use Rattle.bbs_model.specs.Lrps.{is_wanted}
use Rattle.bbs_model.specs.Tables.{process_of, find_actual, find_desired, find_task}
use Rattle.bbs_model.specs.Valid.{IsValid}
use Rattle.bbs_model.specs.Work.{wants}
use Rattle.bbs_model.specs.declared.rows.Rows.{Rows}
use Rattle.convergence.specs.Subjects.{Subject, OfCell, OfDomain, OfPlace, OfTask, OfProcess}
use Rattle.convergence.proofs.Public.{one_more}
use Rattle.work_causes.specs.Causes.{causes_of, end_causes, end_in, evacuating_causes, lease_causes, lease_in, listed, ordinary_causes, suspect_causes, task_cause}
use Rattle.work_causes.specs.declared.cause.Causes.{Causes}
use Rattle.differences.specs.Gathering.{AreInstancesSettled, AreRowsSettled, AreWantedSettled, GoesOn, IsBegun, IsSettled}
use Rattle.differences.specs.Noted.{Noted, causes_at, named, noted}
use Rattle.differences.specs.Standing.{StandsFor, count_in}
use Rattle.differences.proofs.Touched.{Entries, PutsAt, place_renewed}

module _ {K X : Type 0} (R : K → K → Ordering) (key : X → K) (o : IsKeyOrder R) where
  -- keys that one key ties with are one
  both_tie : (q a b : K) → eq_by_cmp R q a ≡ true → eq_by_cmp R q b ≡ true → R a b ≡ Less → ⊥
  both_tie q a b f g less =
      let one : a ≡ b = sym (same_from_tie R o q a f) ∙ same_from_tie R o q b g in
      let tie : is_eq (R a b) ≡ true = ap (λ (k : K). is_eq (R a k)) (sym one) ∙ ties_itself R o a in
      let less_is : is_eq (R a b) ≡ false = ap is_eq less in
      absurd cc

  -- what is found with one row more
  pub found_next : (x : X) (xs : List X) (i : ℕ) → IsRising R key xs → i < length xs → x ≡ get_or xs i x → (q : K)
      → find_row R key q (take (suc i) xs) ≡ cond (eq_by_cmp R q (key x)) (Some x) (find_row R key q (take i xs))
  found_next x [] i h lt at q = absurd (omega arith)
  found_next x (y ∷ ys) zero h lt at q = ap (λ (z : X). cond (eq_by_cmp R q (key z)) (Some z) None) (sym at)
  found_next x (y ∷ ys) (suc i) h lt at q =
      let inside : Contains ys x = (i, omega arith, sym at) in
      let below : R (key y) (key x) ≡ Less = All-contains (λ z. R (key y) (key z) ≡ Less) ys x
      (All-above R key (key y) ys (below_rest R key y ys h)) inside in
      let rest = find_row R key q (take i ys) in
      ap (cond (eq_by_cmp R q (key y)) (Some y)) (found_next x ys i (IsRising-tail R key y ys h) (omega arith) at q)
      ∙ elim (eq_by_cmp R q (key y)) as (λ (b : Bool). eq_by_cmp R q (key y) ≡ b
      → cond b (Some y) (cond (eq_by_cmp R q (key x)) (Some x) rest)
      ≡ cond (eq_by_cmp R q (key x)) (Some x) (cond b (Some y) rest)) [
        | true ↦ λ f. elim (eq_by_cmp R q (key x)) as (λ (c : Bool). eq_by_cmp R q (key x) ≡ c
            → Some y ≡ cond c (Some x) (Some y)) [
              | true ↦ λ g. absurd (both_tie q (key y) (key x) f g below)
              | false ↦ λ g. refl
            ] refl
        | false ↦ λ f. refl
      ] refl

  told_cond : {V : Type 0} (told : X → V) (b : Bool) (x : X) (s : Option X)
      → option_map told (cond b (Some x) s) ≡ cond b (Some (told x)) (option_map told s)
  told_cond told true x s = refl
  told_cond told false x s = refl

  module _ {eq : K → K → Bool} (ties : (x y : K) → eq x y ≡ eq_by_cmp R x y) where
    -- what is told of one row more
    pub row_noted : {V : Type 0} (told : X → V) (x : X) (xs : List X) (i n : ℕ) → IsRising R key xs → i < length xs
        → n ≡ suc i → x ≡ get_or xs i x → (q : K)
        (old new : Option V) → old ≡ option_map told (find_row R key q (take i xs))
        → new ≡ cond (eq (key x) q) (Some (told x)) old
        → new ≡ option_map told (find_row R key q (take n xs))
    row_noted told x xs i n h lt next at q old new was is =
        is ∙ (λ k. cond ((ties (key x) q ∙ (eq_by_cmp_equiv o.total).symm (key x) q) k) (Some (told x)) (was k))
        ∙ sym (told_cond told (eq_by_cmp R q (key x)) x (find_row R key q (take i xs)))
        ∙ ap (option_map told) (sym (found_next x xs i h lt at q) ∙ ap (λ m. find_row R key q (take m xs)) (sym next))

-- what stands in a list of one
only : {X : Type 0} (x y : X) → Contains (x ∷ []) y → x ≡ y
only x y (zero, lt, at) = at
only x y (suc k, lt, at) = absurd (omega arith)

module _ (rows : Rows) where
  -- a place whose causes were put stands
  pub settled_here : (place : Key × Presence) (w : Option Causes) (m n : Entries) → PutsAt place w m n
      → option_map_or listed w [] ≡ causes_of rows (OfPlace place) → IsSettled rows n place
  settled_here place w m n puts now =
      elim (place_renewed rows place w m n puts now place) as
      (λ _. IsSettled rows n place) [ (inl e) ↦ e | (inr h) ↦ absurd (h.1 refl) ]

  -- and what stood still does
  pub goes_on_past : (place : Key × Presence) (w : Option Causes) (m n : Entries) → PutsAt place w m n
      → option_map_or listed w [] ≡ causes_of rows (OfPlace place) → GoesOn rows m n
  goes_on_past place w m n puts now =
      let settled : (p : Key × Presence) → IsSettled rows m p → IsSettled rows n p =
      λ p h. elim (place_renewed rows place w m n puts now p) as
      (λ _. IsSettled rows n p) [ (inl e) ↦ e | (inr f) ↦ f.0 ∙ h ] in
      let blank : (p : Key × Presence) → causes_at m p ≡ [] → IsBegun rows n p =
      λ p h. elim (place_renewed rows place w m n puts now p) as
      (λ _. IsBegun rows n p) [ (inl e) ↦ inl e | (inr f) ↦ inr (f.0 ∙ h) ] in
      record { settled = settled; begun = λ p. ⊎_elim (λ h. inl (settled p h)) (blank p) }

  pub goes_on_same : (m : Entries) → GoesOn rows m m
  goes_on_same m = record { settled = λ p h. h; begun = λ p h. h }

  pub goes_on_then : (a b c : Entries) → GoesOn rows a b → GoesOn rows b c → GoesOn rows a c
  goes_on_then a b c f g = record {
    settled = λ p h. g.settled p (f.settled p h);
    begun = λ p h.
        g.begun p (f.begun p h);
  }

  -- one index more
  pub instances_more : (m n : Entries) (process : List ℕ) (i j : ℕ) → j ≡ i + 1 → AreInstancesSettled rows m process i
      → GoesOn rows m n
      → IsSettled rows n (record { process = process; index = i }, Ordinary) → AreInstancesSettled rows n process j
  instances_more m n process i j next before on here k lt =
      elim (nat_lt k i) as (λ (b : Bool). nat_lt k i ≡ b → IsSettled rows n
      (record { process = process; index = k }, Ordinary)) [
        | true ↦ λ is. on.settled (record { process = process; index = k }, Ordinary)
            (before k (grind (arith, nat_tests)))
        | false ↦ λ is.
            let one : i ≡ k = grind (arith, nat_tests) in
            subst (λ (x : ℕ). IsSettled rows n (record { process = process; index = x }, Ordinary)) one here
      ] refl

  -- one process more
  pub wanted_more : (m n : Entries) (xs : List Desired) (i : ℕ) (x : Desired) → i < length xs → x ≡ get_or xs i x
      → AreWantedSettled rows m (take i xs) → GoesOn rows m n
      → AreInstancesSettled rows n x.process x.instances → AreWantedSettled rows n (take (i + 1) xs)
  wanted_more m n xs i x lt at before on here d inside =
      ⊎_elim (λ (h : Contains (take i xs) d) k less. on.settled (record { process = d.process; index = k }, Ordinary)
      (before d h k less))
      (λ (h : Contains (x ∷ []) d). subst (λ (y : Desired). AreInstancesSettled rows n y.process y.instances)
      (only x d h) here)
      (Contains-append_cases (take i xs) (x ∷ []) d (subst (λ (ys : List Desired). Contains ys d)
      (one_more xs i x lt at) inside))

  -- one row more
  pub rows_more : (m n : Entries) (xs : List Actual) (i : ℕ) (x : Actual) → i < length xs → x ≡ get_or xs i x
      → AreRowsSettled rows m (take i xs) → GoesOn rows m n
      → IsSettled rows n (place_of x) → AreRowsSettled rows n (take (i + 1) xs)
  rows_more m n xs i x lt at before on here a inside =
      ⊎_elim (λ (h : Contains (take i xs) a). on.settled (place_of a) (before a h))
      (λ (h : Contains (x ∷ []) a). subst (λ (y : Actual). IsSettled rows n (place_of y)) (only x a h) here)
      (Contains-append_cases (take i xs) (x ∷ []) a (subst (λ (ys : List Actual). Contains ys a)
      (one_more xs i x lt at) inside))

  -- the instance of a process that is desired with more instances than its index
  wanted_row : (key : Key) → wants rows key ≡ true → (d : Desired) × (find_desired rows key.process ≡ Some d)
      × (key.index < d.instances)
  wanted_row key w =
      elim (find_desired rows key.process) as (λ (s : Option Desired). find_desired rows key.process ≡ s
      → is_wanted s key.index ≡ true
      → (d : Desired) × (find_desired rows key.process ≡ Some d) × (key.index < d.instances)) [
        | None ↦ λ is e. absurd cc
        | (Some d) ↦ λ is e. (d, is, grind (arith, nat_tests))
      ] refl w

  module _ (v : IsValid rows) (es : Entries) (desired : AreWantedSettled rows es rows.desired)
      (actual : AreRowsSettled rows es rows.actual) where
    -- the place of a row stands
    row_settled : (p : Key × Presence) (a : Actual) → find_actual rows p.0 p.1 ≡ Some a → IsSettled rows es p
    row_settled p a is =
        subst (IsSettled rows es) (key-find_row place_order place_of IsKeyOrder-place_order p a rows.actual is)
        (actual a (Contains-find_row place_order place_of p a rows.actual is))

    -- and that of an instance that is wanted
    wanted_settled : (key : Key) → wants rows key ≡ true → IsSettled rows es (key, Ordinary)
    wanted_settled key w =
        let r = wanted_row key w in
        let same : r.0.process ≡ key.process = key-find_row name_order process_of IsKeyOrder-name_order key.process r.0
        rows.desired r.1 in
        subst (λ (q : List ℕ). IsSettled rows es (record { process = q; index = key.index }, Ordinary)) same
        (desired r.0 (Contains-find_row name_order process_of key.process r.0 rows.desired r.1) key.index r.2)

    -- a place with neither has no causes
    bare_settled : (p : Key × Presence) → find_actual rows p.0 p.1 ≡ None → causes_at es p ≡ [] → IsSettled rows es p
    bare_settled (key, Ordinary) is none =
        elim (wants rows key) as (λ (w : Bool). wants rows key ≡ w → IsSettled rows es (key, Ordinary)) [
          | true ↦ λ w. wanted_settled key w
          | false ↦ λ w. none ∙ sym (λ i. ordinary_causes (w i) (is i))
        ] refl
    bare_settled (key, Evacuating) is none = none ∙ sym (ap
        (evacuating_causes (wants rows key) (find_actual rows key Ordinary)) is)
    bare_settled (key, Suspect) is none = none ∙ sym (ap (suspect_causes (wants rows key)
        (find_actual rows key Ordinary)) is)

    -- all places stand
    pub all_settled : (p : Key × Presence) → IsBegun rows es p → IsSettled rows es p
    all_settled p begun =
        elim (find_actual rows p.0 p.1) as (λ (s : Option Actual). find_actual rows p.0 p.1 ≡ s → IsSettled rows es p) [
          | None ↦ λ is. ⊎_elim (λ (h : IsSettled rows es p). h)
              (λ (h : causes_at es p ≡ []). bare_settled p is h) begun
          | (Some a) ↦ λ is. row_settled p a is
        ] refl

module _ (rows : Rows) (d : Noted) (places : (p : Key × Presence) → IsSettled rows d.places p)
    (tasks : (q : List ℕ) → named d.tasks q ≡ option_map task_cause (find_task rows q))
    (cells : (q : List ℕ) → named d.cells q ≡ lease_in rows q)
    (domains : (q : List ℕ) → named d.domains q ≡ end_in rows q) where
  causes_stand : (s : Subject) → noted d s ≡ causes_of rows s
  causes_stand (OfCell q) = ap lease_causes (cells q)
  causes_stand (OfDomain q) = ap end_causes (domains q)
  causes_stand (OfPlace p) = places p
  causes_stand (OfTask q) = ap option_to_list (tasks q)
  causes_stand (OfProcess q) = refl

  -- all that is kept stands
  pub all_stand : ((q : List ℕ) → named d.wanted q ≡ count_in rows q) → StandsFor d rows
  all_stand wanted = record { causes = causes_stand; wanted = wanted; cells = cells; domains = domains }
