-- An auction puts no more jobs on a cell than the cell has containers free.
use Rattle.std.proofs.Common.{◌≡◌, ℕ, zero, suc, ◌+◌, ◌-◌, ◌<◌, ◌≤◌, Bool, true, false, cond, leb, ltb, ◌&&◌, List, [], ◌∷◌, length, map, filter, refl, sym, subst, ◌∙◌, arith}
use Rattle.std.specs.List.{Contains, sum_by, zip}
use Rattle.std.specs.Option.{option_eq}
use Rattle.std.proofs.lemmas.Bool.{and_parts, ltb-true}
use Rattle.std.proofs.lemmas.List.Folds.{fold-map}
use Rattle.std.proofs.lemmas.List.Sums.{sum_by-cons, sum_by-le-sum_by}
use Rattle.diego_names.specs.Order.{name_order}
use Rattle.cell_records.specs.declared.answer.Answer.{Answer}
use Rattle.cell_records.specs.declared.job.Job.{Job}
use Rattle.auctioneer.specs.Laws.{AtEachTurn, UsesRoom}
use Rattle.auctioneer.specs.Stands.{can_take, placed, same_name, stand_of, stands_of, with_job}
use Rattle.auctioneer.specs.declared.placement.Placement.{Placement}
use Rattle.auctioneer.specs.declared.placement.Placement.TheVariants.{On, NoRoom}
use Rattle.auctioneer.specs.declared.stand.Stand.{Stand}
use Rattle.auctioneer.proofs.Public.{takes_room}
use Rattle.room_facts.proofs.Lists.{sum_by-filter}
use Rattle.what_if.specs.Plans.{jobs_of_loss, plan}
use Rattle.what_if.specs.Sites.{IsSite}
use Rattle.what_if.specs.Stays.{is_open, open_cells}
use Rattle.what_if.specs.declared.site.Site.{Site}
use Rattle.what_if.proofs.Differing.{sum-table}
use Rattle.what_if.proofs.Names.{name_from_test, test_from_name}
use Rattle.cell_drains.specs.Steps.{is_on, jobs_on}
use Rattle.cell_drains.proofs.Sums.{sum_at}

-- the free containers of the cell, if it has that name
abbrev own : List ℕ → Stand → ℕ
own cell s = cond (same_name s.cell cell) s.free.containers 0

-- those of all cells of that name
abbrev slots : List ℕ → List Stand → ℕ
slots cell ss = sum_by (own cell) ss

-- the cell with the job, if it has that name
abbrev put : Job → List ℕ → Stand → Stand
put job name s = cond (same_name s.cell name) (with_job job s) s

has_slot : (job : Job) (s : Stand) → can_take job s ≡ true → 0 < s.free.containers
has_slot job s e =
    let first = and_parts (option_eq same_name job.tag s.tag)
    (leb job.memory s.free.memory && (leb job.disk s.free.disk && ltb 0 s.free.containers)) e in
    let second = and_parts (leb job.memory s.free.memory)
    (leb job.disk s.free.disk && ltb 0 s.free.containers) first.1 in
    let third = and_parts (leb job.disk s.free.disk) (ltb 0 s.free.containers) second.1 in
    ltb-true 0 s.free.containers third.1

less_or_same : (b : Bool) (n : ℕ) → cond b (n - 1) 0 ≤ cond b n 0
less_or_same true n = omega arith
less_or_same false n = omega arith

-- a job takes no container from another cell
no_more : (cell : List ℕ) (job : Job) (name : List ℕ) (s : Stand) → own cell (put job name s) ≤ own cell s
no_more cell job name s =
    elim (same_name s.cell name) as (λ b. own cell (cond b (with_job job s) s) ≤ own cell s) [
      | true ↦ less_or_same (same_name s.cell cell) s.free.containers
      | false ↦ omega arith
    ]

fewer : (cell : List ℕ) (job : Job) (name : List ℕ) (ss : List Stand) → slots cell (placed job name ss) ≤ slots cell ss
fewer cell job name [] = omega arith
fewer cell job name (s ∷ ss) =
    let before : slots cell (s ∷ ss) ≡ own cell s + slots cell ss = sum_by-cons (own cell) s ss in
    let after : slots cell (placed job name (s ∷ ss)) ≡ own cell (put job name s) + slots cell (placed job name ss) =
    sum_by-cons (own cell) (put job name s) (placed job name ss) in
    let here : own cell (put job name s) ≤ own cell s = no_more cell job name s in
    let rest : slots cell (placed job name ss) ≤ slots cell ss = fewer cell job name ss in
    omega (arith, before, after, here, rest)

-- and one from its own
takes_one : (cell : List ℕ) (job : Job) (s : Stand) → s.cell ≡ cell → 0 < s.free.containers
    → own cell (put job cell s) + 1 ≤ own cell s
takes_one cell job s is some =
    let test : same_name s.cell cell ≡ true = test_from_name s.cell cell is in
    subst (λ b. own cell (cond b (with_job job s) s) + 1 ≤ own cell s) (sym test)
    (subst (λ b. cond b (s.free.containers - 1) 0 + 1 ≤ cond b s.free.containers 0) (sym test) (omega (arith, some)))

one_fewer : (cell : List ℕ) (job : Job) (ss : List Stand) (s : Stand) → Contains ss s → s.cell ≡ cell
    → 0 < s.free.containers → slots cell (placed job cell ss) + 1 ≤ slots cell ss
one_fewer cell job [] s (k, lt, at) is some = absurd (omega arith)
one_fewer cell job (x ∷ xs) s (zero, lt, at) is some =
    let before : slots cell (x ∷ xs) ≡ own cell x + slots cell xs = sum_by-cons (own cell) x xs in
    let after : slots cell (placed job cell (x ∷ xs)) ≡ own cell (put job cell x) + slots cell (placed job cell xs) =
    sum_by-cons (own cell) (put job cell x) (placed job cell xs) in
    let here : own cell (put job cell x) + 1 ≤ own cell x =
    subst (λ (y : Stand). own cell (put job cell y) + 1 ≤ own cell y) (sym at) (takes_one cell job s is some) in
    let rest : slots cell (placed job cell xs) ≤ slots cell xs = fewer cell job cell xs in
    omega (arith, before, after, here, rest)
one_fewer cell job (x ∷ xs) s (suc k, lt, at) is some =
    let before : slots cell (x ∷ xs) ≡ own cell x + slots cell xs = sum_by-cons (own cell) x xs in
    let after : slots cell (placed job cell (x ∷ xs)) ≡ own cell (put job cell x) + slots cell (placed job cell xs) =
    sum_by-cons (own cell) (put job cell x) (placed job cell xs) in
    let here : own cell (put job cell x) ≤ own cell x = no_more cell job cell x in
    let rest : slots cell (placed job cell xs) + 1 ≤ slots cell xs =
    one_fewer cell job xs s (k, omega arith, at) is some in
    omega (arith, before, after, here, rest)

-- the jobs on a cell that follow a placement
abbrev rest_on : List ℕ → List Job → List Placement → List (Job × Placement)
rest_on cell js ps = filter (λ (q : Job × Placement). is_on cell q.1) (zip js ps)

taken : (cell : List ℕ) (ss : List Stand) (js : List Job) (ps : List Placement) → AtEachTurn UsesRoom ss js ps
    → length (jobs_on cell js ps) ≤ slots cell ss
taken cell ss [] ps h = omega arith
taken cell ss (j ∷ js) [] h = omega arith
taken cell ss (j ∷ js) (NoRoom name ∷ ps) h = taken cell ss js ps h.1
taken cell ss (j ∷ js) (On name c ∷ ps) h =
    let rest : length (jobs_on cell js ps) ≤ slots cell (placed j c ss) = taken cell (placed j c ss) js ps h.1 in
    elim (same_name cell c) as (λ b. same_name cell c ≡ b
    → length (map (λ (q : Job × Placement). q.0) (cond b ((j, On name c) ∷ rest_on cell js ps)
    (rest_on cell js ps))) ≤ slots cell ss) [
      | true ↦ λ e.
          let same : cell ≡ c = name_from_test cell c e in
          let one : slots cell (placed j cell ss) + 1 ≤ slots cell ss =
          one_fewer cell j ss h.0.0 h.0.1 (h.0.2 ∙ sym same) (has_slot j h.0.0 h.0.3) in
          let here : length (jobs_on cell js ps) ≤ slots cell (placed j cell ss) =
          subst (λ (n : List ℕ). length (jobs_on cell js ps) ≤ slots cell (placed j n ss)) (sym same) rest in
          omega (arith, one, here)
      | false ↦ λ e. omega (arith, rest, fewer cell j c ss)
    ] refl

-- of the cells that answered
abbrev free_of : List ℕ → Answer → ℕ
free_of cell a = cond (same_name a.cell cell) a.free.containers 0

slots-answers : (cell : List ℕ) (cs : List Answer) → slots cell (stands_of cs) ≤ sum_by (free_of cell) cs
slots-answers cell cs =
    let all : slots cell (stands_of cs) ≤ slots cell (map stand_of cs) =
    sum-table name_order (λ (s : Stand). s.cell) (own cell) (map stand_of cs) in
    let same : slots cell (map stand_of cs) ≡ sum_by (free_of cell) cs =
    fold-map (λ (n : ℕ) (s : Stand). n + own cell s) stand_of 0 cs in
    omega (arith, all, same)

at_most : (b : Bool) (n : ℕ) → cond b n 0 ≤ n
at_most true n = omega arith
at_most false n = omega arith

-- so a step puts no more on a cell than that
pub few_on : (site : Site) (batch : List (List ℕ)) → IsSite site → (c : Answer) → Contains site.cells c
    → length (jobs_on c.cell (jobs_of_loss site batch) (plan site batch)) ≤ c.free.containers
few_on site batch h c inside =
    let cs : List Answer = open_cells site batch in
    let jobs : List Job = jobs_of_loss site batch in
    let within : length (jobs_on c.cell jobs (plan site batch)) ≤ slots c.cell (stands_of cs) =
    taken c.cell (stands_of cs) jobs (plan site batch) (takes_room (stands_of cs) jobs) in
    let told : slots c.cell (stands_of cs) ≤ sum_by (free_of c.cell) cs = slots-answers c.cell cs in
    let filtered : sum_by (free_of c.cell) cs ≡ sum_by (λ a. cond (is_open batch a) (free_of c.cell a) 0) site.cells =
    sum_by-filter (free_of c.cell) (is_open batch) site.cells in
    let fewer_open : sum_by (λ a. cond (is_open batch a) (free_of c.cell a) 0) site.cells
    ≤ sum_by (free_of c.cell) site.cells =
    sum_by-le-sum_by (λ a. cond (is_open batch a) (free_of c.cell a) 0) (free_of c.cell) site.cells
    (λ a. at_most (is_open batch a) (free_of c.cell a)) in
    let alone : sum_by (free_of c.cell) site.cells ≡ c.free.containers =
    sum_at (λ (a : Answer). a.cell) (λ a. a.free.containers) site.cells c h.cells.differ inside in
    omega (arith, within, told, filtered, fewer_open, alone)
