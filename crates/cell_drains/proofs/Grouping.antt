-- The jobs on each cell, with one placement more.
use Rattle.std.proofs.Common.{◌≡◌, ℕ, Bool, true, false, cond, List, [], ◌∷◌, ◌++◌, map, filter, Option, Some, None, refl, sym, ap, ◌∙◌}
use Rattle.std.specs.List.{zip}
use Rattle.std.specs.Option.{unwrap_or}
use Rattle.std.proofs.lemmas.List.{append-nil, append_assoc}
use Rattle.cell_records.specs.declared.job.Job.{Job}
use Rattle.auctioneer.specs.Stands.{same_name}
use Rattle.auctioneer.specs.declared.placement.Placement.{Placement}
use Rattle.what_if.proofs.Names.{name_from_test, names_turned}
use Rattle.cell_drains.specs.Steps.{is_on, jobs_on}

-- what is taken is gone
pub taken_or : {X : Type 0} (b : Bool) (o : Option X) (d : X) → unwrap_or (cond b None o) d ≡ cond b d (unwrap_or o d)
taken_or true o d = refl
taken_or false o d = refl

-- what is put there is found
pub put_or : {X : Type 0} (b : Bool) (x : X) (o : Option X) (d : X)
    → unwrap_or (cond b (Some x) o) d ≡ cond b x (unwrap_or o d)
put_or true x o d = refl
put_or false x o d = refl

-- a job behind those of its cell, and none behind those of the others
pub one_behind : (at : List ℕ → List Job) (cell other : List ℕ) (job : Job)
    → cond (same_name cell other) (at cell ++ job ∷ []) (cond (same_name cell other) [] (at other)) ≡ at other
    ++ cond (same_name cell other) (job ∷ []) []
one_behind at cell other job =
    elim (same_name cell other) as (λ b. same_name cell other ≡ b
    → cond b (at cell ++ job ∷ []) (cond b [] (at other)) ≡ at other ++ cond b (job ∷ []) []) [
      | true ↦ λ e. ap (λ (name : List ℕ). at name ++ job ∷ []) (name_from_test cell other e)
      | false ↦ λ e. sym (append-nil (at other))
    ] refl

-- the cell of a placement, turned round
pub behind_turned : (cell other : List ℕ) (job : Job) → cond (same_name cell other) (job ∷ []) []
    ≡ cond (same_name other cell) (job ∷ []) []
behind_turned cell other job = ap (λ (b : Bool). cond b (job ∷ []) []) (names_turned cell other)

-- the jobs on a cell, with one more before the others
pub on_next : (cell : List ℕ) (j : Job) (p : Placement) (js : List Job) (ps : List Placement)
    → jobs_on cell (j ∷ js) (p ∷ ps) ≡ cond (is_on cell p) (j ∷ []) [] ++ jobs_on cell js ps
on_next cell j p js ps =
    elim (is_on cell p) as (λ b. map (λ (q : Job × Placement). q.0)
    (cond b ((j, p) ∷ filter (λ (q : Job × Placement). is_on cell q.1) (zip js ps))
    (filter (λ (q : Job × Placement). is_on cell q.1) (zip js ps))) ≡ cond b (j ∷ []) [] ++ jobs_on cell js ps) [
      | true ↦ refl
      | false ↦ refl
    ]

-- those that were placed so far and those that follow
pub grouped_next : (cell : List ℕ) (j : Job) (p : Placement) (js all : List Job) (ps : List Placement)
    (done more : List Job) → more ≡ done ++ cond (is_on cell p) (j ∷ []) []
    → done ++ jobs_on cell (j ∷ js) (p ∷ ps) ≡ all → more ++ jobs_on cell js ps ≡ all
grouped_next cell j p js all ps done more one rest =
    ap (λ (xs : List Job). xs ++ jobs_on cell js ps) one
    ∙ append_assoc done (cond (is_on cell p) (j ∷ []) []) (jobs_on cell js ps)
    ∙ ap (λ (xs : List Job). done ++ xs) (sym (on_next cell j p js ps))
    ∙ rest
