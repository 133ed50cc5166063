-- Each job that the auction gives to a cell finds room there.
use Rattle.std.proofs.Common.{◌≡◌, ℕ, ◌≤◌, Bool, true, false, cond, ◌&&◌, nat_eq, nat_le, nat_lt, List, [], ◌∷◌, map, filter_map, Option, Some, None, refl, sym, ap, subst, ◌∙◌, arith, ⊎_elim}
use Rattle.std.specs.Cmp.Lexicographic.{pointwise, same_text}
use Rattle.std.specs.List.{Contains, cons_option}
use Rattle.std.specs.Option.{option_eq, option_map, option_map_or}
use Rattle.std.proofs.lemmas.Bool.{leb-true}
use Rattle.std.proofs.lemmas.Cmp.{nat_list_eq_equiv}
use Rattle.std.proofs.lemmas.List.Elements.{Contains-append_cases}
use Rattle.auctioneer.specs.Asked.{AreAnswers}
use Rattle.auctioneer.specs.Laws.{job_in, AtEachTurn, UsesRoom}
use Rattle.auctioneer.specs.Order.{turn_of, turn_order, in_order}
use Rattle.auctioneer.specs.Stands.{same_name, can_take, less, with_job, placed, stand_of, stands_of}
use Rattle.auctioneer.specs.declared.placement.Placement.{Placement}
use Rattle.auctioneer.specs.declared.placement.Placement.TheVariants.{On, NoRoom}
use Rattle.auctioneer.specs.declared.stand.Stand.{Stand}
use Rattle.auctioneer.proofs.Public.{jobs_placed, takes_room, IsKeyOrder-turn_order}
use Rattle.bbs_model.specs.Tables.{find_desired, find_task, task_name_of}
use Rattle.bbs_model.specs.Valid.{IsValid}
use Rattle.bbs_model.specs.declared.rows.Rows.{Rows}
use Rattle.cell_records.specs.declared.amounts.Amounts.{Amounts}
use Rattle.cell_records.specs.declared.answer.Answer.{Answer}
use Rattle.cell_records.specs.declared.job.Job.{Job}
use Rattle.cell_records.specs.declared.job_name.JobName.{JobName}
use Rattle.converge_laws.proofs.Public.{inside_first, inside_rest, from_map}
use Rattle.converge_round.specs.Jobs.{instance_job, waiting_job, row_job, job_of_task, pending_job, task_job, jobs, named_job}
use Rattle.converge_round.specs.Places.{jobs_on, placements}
use Rattle.converge_round.proofs.Public.{from_kept}
use Rattle.diego_names.proofs.Public.{IsKeyOrder-name_order}
use Rattle.diego_names.specs.Order.{name_order}
use Rattle.diego_names.specs.declared.key.Key.{Key}
use Rattle.lrp_records.specs.declared.presence.Presence.{Presence}
use Rattle.lrp_records.specs.declared.presence.Presence.TheVariants.{Ordinary, Evacuating, Suspect}
use Rattle.lrp_records.specs.declared.state.LrpState.{LrpState}
use Rattle.lrp_records.specs.declared.state.LrpState.TheVariants as lrp
use Rattle.round_theorem.proofs.Public.{from_table, differ_pairs, one_of_name, instance_named}
use Rattle.row_tables.proofs.Public.{find_row-Contains}
use Rattle.task_records.specs.declared.state.TaskState.{TaskState}
use Rattle.task_records.specs.declared.state.TaskState.TheVariants as task
use Rattle.task_records.specs.declared.task.Task.{Task}
use Rattle.round_completeness.specs.Rooms.{FindsRoom, AllFindRoom, PlacementsHaveRoom}

-- a job that waits is found by its name
lrp_found : (rows : Rows) (key : Key) (j : Job) → instance_job rows key ≡ Some j → named_job rows j.job ≡ Some j
lrp_found rows key j e = subst (λ (n : JobName). named_job rows n ≡ Some j)
    (sym (instance_named key (find_desired rows key.process) j e)) e

row_found : (rows : Rows) (key : Key) (p : Presence) (state : LrpState) (j : Job)
    → waiting_job rows key p state ≡ Some j
    → named_job rows j.job ≡ Some j
row_found rows key Ordinary lrp.Unclaimed j e = lrp_found rows key j e
row_found rows key Ordinary (lrp.Claimed i c) j e = absurd cc
row_found rows key Ordinary (lrp.Running i c) j e = absurd cc
row_found rows key Ordinary lrp.Crashed j e = absurd cc
row_found rows key Evacuating state j e = absurd cc
row_found rows key Suspect state j e = absurd cc

task_found : (rows : Rows) (t : Task) (state : TaskState) (j : Job) → IsValid rows → Contains rows.tasks t
    → pending_job t state ≡ Some j
    → named_job rows j.job ≡ Some j
task_found rows t task.Pending j valid inside e =
    let is : job_of_task t ≡ j = ap (λ (o : Option Job). option_map_or (λ (x : Job). x) o (job_of_task t)) e in
    let found : find_task rows t.name ≡ Some t = find_row-Contains name_order task_name_of IsKeyOrder-name_order t
    rows.tasks
    valid.tasks.rising inside in
    subst (λ (x : Job). named_job rows x.job ≡ Some x) is (ap (option_map job_of_task) found)
task_found rows t (task.Running i c) j valid inside e = absurd cc
task_found rows t (task.Completed failed) j valid inside e = absurd cc
task_found rows t (task.Resolving failed) j valid inside e = absurd cc

pub job_found : (rows : Rows) → IsValid rows → (j : Job) → Contains (jobs rows) j → named_job rows j.job ≡ Some j
job_found rows valid j inside = ⊎_elim
    (λ (here : Contains (filter_map (row_job rows) rows.actual) j).
    let a = from_kept (row_job rows) rows.actual j here in
    row_found rows a.0.key a.0.presence a.0.state j a.2)
    (λ (there : Contains (filter_map task_job rows.tasks) j).
    let t = from_kept task_job rows.tasks j there in
    task_found rows t.0 t.0.state j valid t.1 t.2)
    (Contains-append_cases (filter_map (row_job rows) rows.actual) (filter_map task_job rows.tasks) j inside)

-- a cell that can take a job has room for it
both : (a b : Bool) → (a && b) ≡ true → (a ≡ true) × (b ≡ true)
both true b e = (refl, e)
both false b e = absurd cc

some_left : (n : ℕ) → nat_lt 0 n ≡ true → 1 ≤ n
some_left n e = grind arith

takes_so : (job : Job) (s : Stand) → can_take job s ≡ true → FindsRoom s.free job
takes_so job s e =
    let tags = both (option_eq (pointwise nat_eq) job.tag s.tag)
    (nat_le job.memory s.free.memory && (nat_le job.disk s.free.disk && nat_lt 0 s.free.containers)) e in
    let first = both (nat_le job.memory s.free.memory) (nat_le job.disk s.free.disk && nat_lt 0 s.free.containers)
    tags.1 in
    let second = both (nat_le job.disk s.free.disk) (nat_lt 0 s.free.containers) first.1 in
    record {
      memory = leb-true job.memory s.free.memory first.0;
      disk = leb-true job.disk s.free.disk second.0;
      container = some_left s.free.containers second.1;
    }

-- a cell of that name has so much free
abbrev HasFree : List ℕ → Amounts → List Stand → Type 0
HasFree cell free stands = (t : Stand) → Contains stands t → t.cell ≡ cell → t.free ≡ free

abbrev placed_one : Job → List ℕ → Stand → Stand
placed_one job other s = cond (same_name s.cell other) (with_job job s) s

free_here : (job : Job) (u : Stand) (free : Amounts) (b : Bool) → b ≡ true → u.free ≡ free
    → (cond b (with_job job u) u).free ≡ less free job
free_here job u free true e is = ap (λ (f : Amounts). less f job) is
free_here job u free false e is = absurd cc

free_there : (job : Job) (u : Stand) (free : Amounts) (b : Bool) → b ≡ false → u.free ≡ free
    → (cond b (with_job job u) u).free ≡ free
free_there job u free true e is = absurd cc
free_there job u free false e is = is

cell_of_placed : (job : Job) (u : Stand) (b : Bool) → (cond b (with_job job u) u).cell ≡ u.cell
cell_of_placed job u true = refl
cell_of_placed job u false = refl

-- after a job was placed there, and elsewhere
less_there : (job : Job) (cell other : List ℕ) (free : Amounts) (stands : List Stand) → same_name other cell ≡ true
    → HasFree cell free stands → HasFree cell (less free job) (placed job other stands)
less_there job cell other free stands same h t inside is =
    let u = from_map (placed_one job other) stands t inside in
    let names : u.0.cell ≡ cell = sym (cell_of_placed job u.0 (same_name u.0.cell other)) ∙ ap
    (λ (x : Stand). x.cell) u.2 ∙ is in
    let here : u.0.cell ≡ other = names ∙ sym (same_text other cell (sym same)) in
    sym (ap (λ (x : Stand). x.free) u.2)
    ∙ free_here job u.0 free (same_name u.0.cell other) (ap
    (λ (n : List ℕ). same_name n other) here ∙ nat_list_eq_equiv.refl other)
    (h u.0 u.1 names)

same_there : (job : Job) (cell other : List ℕ) (free : Amounts) (stands : List Stand) → same_name other cell ≡ false
    → HasFree cell free stands → HasFree cell free (placed job other stands)
same_there job cell other free stands differs h t inside is =
    let u = from_map (placed_one job other) stands t inside in
    let names : u.0.cell ≡ cell = sym (cell_of_placed job u.0 (same_name u.0.cell other)) ∙ ap
    (λ (x : Stand). x.cell) u.2 ∙ is in
    let apart : same_name u.0.cell other ≡ false =
    elim (same_name u.0.cell other) as (λ (b : Bool). same_name u.0.cell other ≡ b → b ≡ false) [
      | true ↦ λ e.
          let here : other ≡ cell = sym (same_text u.0.cell other (sym e)) ∙ names in
          let bad : true ≡ false = sym (ap (λ (n : List ℕ). same_name n cell) here ∙ nat_list_eq_equiv.refl cell) ∙
          differs in absurd cc
      | false ↦ λ e. refl
    ] refl in
    sym (ap (λ (x : Stand). x.free) u.2) ∙ free_there job u.0 free (same_name u.0.cell other) apart (h u.0 u.1 names)

first_is : {X : Type 0} (x y : X) (xs ys : List X) → x ∷ xs ≡ y ∷ ys → x ≡ y
first_is x y xs ys e = cc

rest_is : {X : Type 0} (x y : X) (xs ys : List X) → x ∷ xs ≡ y ∷ ys → xs ≡ ys
rest_is x y xs ys e = cc

-- the jobs that go to one cell, turn by turn
room_from : (cell : List ℕ) (free : Amounts) (rows : Rows) (stands : List Stand) (js : List Job) (ps : List Placement)
    → ((j : Job) → Contains js j → named_job rows j.job ≡ Some j)
    → map job_in ps ≡ map (λ (j : Job). j.job) js → HasFree cell free stands → AtEachTurn UsesRoom stands js ps
    → AllFindRoom free (jobs_on rows ps cell)
room_from cell free rows stands [] [] found same h turns = tt
room_from cell free rows stands [] (p ∷ ps) found same h turns = absurd turns
room_from cell free rows stands (j ∷ js) [] found same h turns = absurd turns
room_from cell free rows stands (j ∷ js) (On n other ∷ ps) found same h turns =
    let names : n ≡ j.job = first_is n j.job (map job_in ps) (map (λ (x : Job). x.job) js) same in
    let more = rest_is n j.job (map job_in ps) (map (λ (x : Job). x.job) js) same in
    let later : (x : Job) → Contains js x → named_job rows x.job ≡ Some x = λ x inside.
    found x (inside_rest x j js inside) in
    let named : named_job rows n ≡ Some j = ap (named_job rows) names ∙ found j (inside_first j js) in
    elim (same_name other cell) as
    (λ (b : Bool). same_name other cell ≡ b → AllFindRoom free
    (cons_option (cond b (named_job rows n) None) (jobs_on rows ps cell))) [
      | true ↦ λ e.
          let s = turns.0 in
          let is : s.0.free ≡ free = h s.0 s.1 (s.2 ∙ same_text other cell (sym e)) in
          subst (λ (o : Option Job). AllFindRoom free (cons_option o (jobs_on rows ps cell))) (sym named) (
            subst (λ (f : Amounts). FindsRoom f j) is (takes_so j s.0 s.3),
            room_from cell (less free j) rows (placed j other stands) js ps later more
                (less_there j cell other free stands e h) turns.1,
          )
      | false ↦ λ e. room_from cell free rows (placed j other stands) js ps later more
          (same_there j cell other free stands e h) turns.1
    ] refl
room_from cell free rows stands (j ∷ js) (NoRoom n ∷ ps) found same h turns =
    room_from cell free rows stands js ps (λ x inside. found x (inside_rest x j js inside))
    (rest_is n j.job (map job_in ps) (map (λ (x : Job). x.job) js) same) h turns.1

-- what is free at the start is what was answered
free_first : (cells : List Answer) → AreAnswers cells → (x : Answer) → Contains cells x
    → HasFree x.cell x.free (stands_of cells)
free_first cells are x inside t among is =
    let in_map = from_table name_order (λ (s : Stand). s.cell) IsKeyOrder-name_order (map stand_of cells) t among in
    let y = from_map stand_of cells t in_map in
    let names : y.0.cell ≡ x.cell = ap (λ (s : Stand). s.cell) y.2 ∙ is in
    let one : y.0 ≡ x = one_of_name (λ (a : Answer). a.cell) cells
    (differ_pairs (map (λ (a : Answer). a.cell) cells) are.differ) y.0 x y.1
    inside names in
    sym (ap (λ (s : Stand). s.free) y.2) ∙ ap (λ (a : Answer). a.free) one

pub have-room : PlacementsHaveRoom
have-room rows cells valid are x inside =
    room_from x.cell x.free rows (stands_of cells) (in_order (jobs rows)) (placements rows cells)
    (λ j among. job_found rows valid j (from_table turn_order turn_of IsKeyOrder-turn_order (jobs rows) j among))
    (jobs_placed (stands_of cells) (in_order (jobs rows)))
    (free_first cells are x inside)
    (takes_room (stands_of cells) (in_order (jobs rows)))
