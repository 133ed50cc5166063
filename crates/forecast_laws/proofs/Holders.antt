-- Which cells hold an instance of the site.
use Rattle.std.proofs.Common.{◌≡◌, ℕ, zero, suc, Bool, true, false, cond, not, List, [], ◌∷◌, filter, filter_map, Some, is_some, refl, ap, subst, ◌∙◌, arith, ⊎_elim}
use Rattle.std.specs.List.{Contains, flat_map}
use Rattle.std.proofs.lemmas.List.Elements.{Contains-append_cases, Contains-append_left}
use Rattle.auctioneer.specs.Stands.{jobs_of}
use Rattle.cell_records.specs.declared.answer.Answer.{Answer}
use Rattle.cell_records.specs.declared.job_name.JobName.{JobName}
use Rattle.cell_records.specs.declared.job_name.JobName.TheVariants.{Lrp, Task}
use Rattle.converge_laws.proofs.Public.{from_filter, from_flat_map, from_map, inside_filter, inside_first, inside_flat_map, inside_map, inside_rest, job_itself, same_job}
use Rattle.converge_round.proofs.Public.{from_kept}
use Rattle.diego_names.specs.declared.key.Key.{Key}
use Rattle.what_if.specs.Stays.{holder_in, instance_in, is_held, is_lost, is_open, open_cells, same_key, silent_stays, stay_at, stays, stays_on}
use Rattle.what_if.specs.declared.site.Site.{Site}
use Rattle.what_if.specs.declared.site.Stay.{Stay}
use Rattle.forecast_laws.proofs.Alike.{kept_inside, some_one}
use Rattle.forecast_laws.proofs.CellsRead.{both_true}

key_from_test : (a b : Key) → same_key a b ≡ true → a ≡ b
key_from_test a b e = let jobs : Lrp a ≡ Lrp b = same_job (Lrp a) (Lrp b) e in cc

-- an instance that stands somewhere has a holder
stands_held : (ss : List Stay) (s : Stay) → Contains ss s → is_some (holder_in ss s.key) ≡ true
stands_held [] s (k, lt, at) = absurd (omega arith)
stands_held (x ∷ ss) s (zero, lt, at) =
    let same : same_key x.key s.key ≡ true = ap (λ (y : Stay). same_key y.key s.key) at ∙ job_itself (Lrp s.key) in
    ap (λ (b : Bool). is_some (cond b (Some x.cell) (holder_in ss s.key))) same
stands_held (x ∷ ss) s (suc k, lt, at) =
    let rest = stands_held ss s (k, omega arith, at) in
    elim (same_key x.key s.key) as (λ (b : Bool). is_some (cond b (Some x.cell) (holder_in ss s.key)) ≡ true) [
      | true ↦ refl
      | false ↦ rest
    ]

-- and one that has a holder stands there
held_stands : (ss : List Stay) (key : Key) → is_some (holder_in ss key) ≡ true
    → (s : Stay) × Contains ss s × (s.key ≡ key)
held_stands [] key e = absurd cc
held_stands (x ∷ ss) key e =
    elim (same_key x.key key) as (λ (b : Bool). same_key x.key key ≡ b
    → is_some (cond b (Some x.cell) (holder_in ss key)) ≡ true
    → (s : Stay) × Contains (x ∷ ss) s × (s.key ≡ key)) [
      | true ↦ λ is f. (x, inside_first x ss, key_from_test x.key key is)
      | false ↦ λ is f. let r = held_stands ss key f in (r.0, inside_rest r.0 x ss r.1, r.2)
    ] refl e

job_of_instance : (n : JobName) (key : Key) → instance_in n ≡ Some key → n ≡ Lrp key
job_of_instance (Lrp a) key e = ap (λ (k : Key). Lrp k) (some_one a key e)
job_of_instance (Task t) key e = absurd cc

nothing_there : {X : Type 0} (x : X) (xs : List X) → xs ≡ [] → Contains xs x → ⊥
nothing_there x [] e (k, lt, at) = omega arith
nothing_there x (y ∷ xs) e inside = absurd cc

module _ (site : Site) (lost : List (List ℕ)) (key : Key) where
  -- an open cell with a container of an instance holds it
  pub held_on : (c : Answer) → Contains (open_cells site lost) c → Contains (jobs_of c.containers) (Lrp key)
      → is_held site lost key ≡ true
  held_on c among inside =
      let keys = filter_map instance_in (jobs_of c.containers) in
      let s = stay_at c.cell c.zone key in
      let here : Contains (stays_on c) s = inside_map (stay_at c.cell c.zone) keys key
      (kept_inside instance_in (jobs_of c.containers) (Lrp key) key inside refl) in
      stands_held (stays site lost) s
      (Contains-append_left (flat_map stays_on (open_cells site lost)) (silent_stays site lost) s
      (inside_flat_map stays_on (open_cells site lost) c s among here))

  -- an instance that is held has a container on an open cell, where no cell is silent
  pub held_by : site.silent_stays ≡ [] → is_held site lost key ≡ true
      → (c : Answer) × Contains (open_cells site lost) c × Contains (jobs_of c.containers) (Lrp key)
  held_by none held =
      let s = held_stands (stays site lost) key held in
      ⊎_elim
      (λ (here : Contains (flat_map stays_on (open_cells site lost)) s.0).
      let c = from_flat_map stays_on (open_cells site lost) s.0 here in
      let k = from_map (stay_at c.0.cell c.0.zone) (filter_map instance_in (jobs_of c.0.containers)) s.0 c.2 in
      let n = from_kept instance_in (jobs_of c.0.containers) k.0 k.1 in
      let same : k.0 ≡ key = ap (λ (t : Stay). t.key) k.2 ∙ s.2 in (
        c.0,
        c.1,
        subst (Contains (jobs_of c.0.containers)) (job_of_instance n.0 k.0 n.2
            ∙ ap (λ (x : Key). Lrp x) same) n.1,
      ))
      (λ (silent : Contains (silent_stays site lost) s.0).
      absurd (nothing_there s.0 (silent_stays site lost)
      (ap (filter (λ (t : Stay). not (is_lost lost t.cell))) none) silent))
      (Contains-append_cases (flat_map stays_on (open_cells site lost)) (silent_stays site lost) s.0 s.1)

  -- what is held with cells lost is held with none lost
  pub held_before : site.silent_stays ≡ [] → is_held site lost key ≡ true
      → (c : Answer) × Contains (open_cells site []) c × Contains (jobs_of c.containers) (Lrp key)
  held_before none held =
      let c = held_by none held in
      let f = from_filter (is_open lost) site.cells c.0 c.1 in
      let both = both_true (not (is_lost lost c.0.cell)) (not c.0.evacuating) f.1 in
      (c.0, inside_filter (is_open []) site.cells c.0 f.0 both.1, c.2)
