-- The site of a dump that was read is one on which plans may be made.
use Rattle.std.proofs.Common.{◌≡◌, ◌≢◌, ℕ, zero, suc, ◌+◌, ◌<◌, ◌≤◌, ◌^◌, Bool, true, ◌&&◌, leb, not, List, [], ◌∷◌, ◌++◌, length, map, filter, refl, sym, ap, subst, arith}
use Rattle.std.specs.List.{All, flat_map, sum_by}
use Rattle.std.specs.List.Sorted.{IsPermutation, IsSortedByKey}
use Rattle.std.proofs.lemmas.Bool.{and_parts, leb-true}
use Rattle.std.proofs.lemmas.List.{length-append, length-map, map-append}
use Rattle.std.proofs.lemmas.List.Concat.{length-flat_map}
use Rattle.std.proofs.lemmas.List.Elements.{All-map, All-weaker, All-nil, All-cons}
use Rattle.std.proofs.lemmas.List.Sums.{sum_by-le-sum_by}
use Rattle.diego_names.specs.Key.{key_order}
use Rattle.diego_names.specs.Order.{name_order}
use Rattle.diego_names.proofs.Public.{IsKeyOrder-key_order, IsKeyOrder-name_order}
use Rattle.row_tables.specs.Table.{table}
use Rattle.row_tables.proofs.Public.{table-from_sorted, IsRising-table}
use Rattle.cell_records.specs.declared.answer.Answer.{Answer}
use Rattle.cell_records.specs.declared.container.Container.{Container}
use Rattle.cell_records.specs.declared.job.Job.{Job}
use Rattle.cell_records.specs.declared.job_name.JobName.{JobName}
use Rattle.cell_records.specs.declared.job_name.JobName.TheVariants.{Lrp, Task}
use Rattle.auctioneer.specs.Asked.{AreAnswers, AreJobs, IsSoundAnswer}
use Rattle.dump_lines.specs.declared.cell_state.CellState.{CellState}
use Rattle.dump_lines.specs.declared.rows.DesiredRow.{DesiredRow}
use Rattle.dump_lines.specs.declared.rows.TaskRow.{TaskRow}
use Rattle.dump_reader.specs.Facts.{IsCellState, IsDump}
use Rattle.dump_reader.specs.declared.dump.Dump.{Dump}
use Rattle.what_if.specs.Sites.{answer_of, cells_of, desired_instance, each_below, instance_container, instance_there, instances_there, instances_wanted, numbered, site_of, task_container, task_job, wanted_of, IsSite}
use Rattle.what_if.specs.Waiting.{instance_job}
use Rattle.what_if.specs.declared.site.Wanted.{Wanted}
use Rattle.what_if.proofs.Differing.{All-table, Differ, differ-append, differ-by, differ-from_rising, sum-table}
use Rattle.what_if.proofs.Few.{table_few}
use Rattle.what_if.proofs.Lists.{filter_differs, shorter}

length-numbered : {X : Type 0} (c : ℕ → X → Container) (n : ℕ) (xs : List X) → length (numbered c n xs) ≡ length xs
length-numbered c n [] = refl
length-numbered c n (x ∷ xs) = ap suc (length-numbered c (n + 1) xs)

-- the four facts of sound amounts
four : (a b c d : Bool) → (a && (b && (c && d))) ≡ true → (a ≡ true) × (b ≡ true) × (c ≡ true) × (d ≡ true)
four a b c d e =
    let one = and_parts a (b && (c && d)) e in
    let two = and_parts b (c && d) one.1 in
    let three = and_parts c d two.1 in
    (one.0, two.0, three.0, three.1)

amounts_of : (s : CellState) → IsCellState s → (leb s.free.memory s.totals.memory ≡ true)
    × (leb s.free.disk s.totals.disk ≡ true) × (leb s.free.containers s.totals.containers ≡ true)
    × (leb (length s.instances + length s.tasks) s.totals.containers ≡ true)
amounts_of s h =
    four (leb s.free.memory s.totals.memory) (leb s.free.disk s.totals.disk) (leb s.free.containers s.totals.containers)
    (leb (length s.instances + length s.tasks) s.totals.containers) h.amounts

pub few_containers : (s : CellState) → IsCellState s → s.totals.containers < 2 ^ 32
    → length s.instances + length s.tasks < 2 ^ 32
few_containers s h small =
    let room : length s.instances + length s.tasks ≤ s.totals.containers =
    leb-true (length s.instances + length s.tasks) s.totals.containers (amounts_of s h).3 in
    omega arith

-- a cell that told its state has no more free than in all, and no more containers than it may have
sound_cell : (s : CellState) → IsCellState s → IsSoundAnswer (answer_of s)
sound_cell s h =
    let parts = amounts_of s h in
    let room : length s.instances + length s.tasks ≤ s.totals.containers =
    leb-true (length s.instances + length s.tasks) s.totals.containers parts.3 in
    record {
      within = record {
        memory = leb-true s.free.memory s.totals.memory parts.0;
        disk = leb-true s.free.disk s.totals.disk parts.1;
        containers = leb-true s.free.containers s.totals.containers parts.2;
      };
      containers =
          omega (
            arith,
            length-append (numbered instance_container 1 s.instances)
                (numbered task_container (length s.instances + 1) s.tasks),
            length-numbered instance_container 1 s.instances,
            length-numbered task_container (length s.instances + 1) s.tasks,
            room,
          );
    }

-- its cells may be an auction's
sound_cells : (dump : Dump) → IsDump dump → AreAnswers (cells_of dump.states)
sound_cells dump h = record {
  few = omega (
    arith,
    table_few name_order (λ (c : Answer). c.cell) IsKeyOrder-name_order (map answer_of dump.states),
    length-map dump.states answer_of,
    h.limits.states,
  );
  differ = differ-from_rising name_order (λ (c : Answer). c.cell) IsKeyOrder-name_order (cells_of dump.states)
      (IsRising-table name_order (λ (c : Answer). c.cell) IsKeyOrder-name_order (map answer_of dump.states));
  each = All-table name_order (λ (c : Answer). c.cell) IsSoundAnswer (map answer_of dump.states)
      (All-map IsSoundAnswer answer_of dump.states (All-weaker IsCellState
      (λ s. IsSoundAnswer (answer_of s)) sound_cell dump.states h.cells));
}

-- an instance isn't a task
apart_from_tasks : (ws : List Wanted) (ts : List TaskRow)
    → All (λ a. All (λ b. a ≢ b) (map (λ j. j.job) (map task_job ts))) (map (λ j. j.job) (map instance_job ws))
apart_from_tasks [] ts = All-nil (λ a. All (λ b. a ≢ b) (map (λ j. j.job) (map task_job ts)))
apart_from_tasks (w ∷ ws) ts =
    All-cons (λ a. All (λ b. a ≢ b) (map (λ j. j.job) (map task_job ts))) (Lrp w.key)
    (map (λ j. j.job) (map instance_job ws)) (no_task ts) (apart_from_tasks ws ts)
  where
    no_task : (ts : List TaskRow) → All (λ b. Lrp w.key ≢ b) (map (λ j. j.job) (map task_job ts))
    no_task [] = All-nil (λ b. Lrp w.key ≢ b)
    no_task (t ∷ ts) = All-cons (λ b. Lrp w.key ≢ b) (Task t.task) (map (λ j. j.job) (map task_job ts)) (λ e. cc)
        (no_task ts)

instances_differ : (ws : List Wanted) → Differ (map (λ w. w.key) ws) → Differ (map (λ j. j.job) (map instance_job ws))
instances_differ ws h = subst Differ (twice ws) (differ-by (λ (w : Wanted). w.key) (λ (w : Wanted). Lrp w.key)
    (λ x y e. cc) ws h)
  where
    twice : (ws : List Wanted) → map (λ (w : Wanted). Lrp w.key) ws ≡ map (λ j. j.job) (map instance_job ws)
    twice [] = refl
    twice (w ∷ ws) = ap (λ (js : List JobName). Lrp w.key ∷ js) (twice ws)

tasks_differ : (ts : List TaskRow) → Differ (map (λ t. t.task) ts) → Differ (map (λ j. j.job) (map task_job ts))
tasks_differ ts h = subst Differ (twice ts) (differ-by (λ (t : TaskRow). t.task) (λ (t : TaskRow). Task t.task)
    (λ x y e. cc) ts h)
  where
    twice : (ts : List TaskRow) → map (λ (t : TaskRow). Task t.task) ts ≡ map (λ j. j.job) (map task_job ts)
    twice [] = refl
    twice (t ∷ ts) = ap (λ (js : List JobName). Task t.task ∷ js) (twice ts)

-- no two jobs have one name
sound_jobs : (ws : List Wanted) (ts : List TaskRow) → Differ (map (λ w. w.key) ws) → Differ (map (λ t. t.task) ts)
    → AreJobs (map instance_job ws ++ map task_job ts)
sound_jobs ws ts hw ht =
    subst Differ (sym (map-append (λ (j : Job). j.job) (map instance_job ws) (map task_job ts)))
    (differ-append (map (λ j. j.job) (map instance_job ws)) (map (λ j. j.job) (map task_job ts))
    (instances_differ ws hw) (tasks_differ ts ht) (apart_from_tasks ws ts))

length-each_below : {X : Type 0} (make : ℕ → X) (n : ℕ) → length (each_below make n) ≡ n
length-each_below make zero = refl
length-each_below make (suc n) = omega (
  arith,
  length-append (each_below make n) (make n ∷ []),
  length-each_below make n,
)

-- how many instances are wanted at most
few_desired : (dump : Dump) (ds : List DesiredRow) → length
    (flat_map (λ r. each_below (desired_instance dump r) r.instances) ds) ≤ sum_by (λ r. r.instances) ds
few_desired dump ds =
    omega (
      arith,
      length-flat_map (λ (r : DesiredRow). each_below (desired_instance dump r) r.instances) ds,
      sum_by-le-sum_by (λ (r : DesiredRow). length (each_below (desired_instance dump r) r.instances))
          (λ r. r.instances) ds (λ r. omega (arith, length-each_below (desired_instance dump r) r.instances)),
    )

few_there : (dump : Dump) (ss : List CellState) → length (flat_map (instances_there dump) ss)
    ≤ sum_by (λ s. length s.instances) ss
few_there dump ss =
    omega (
      arith,
      length-flat_map (instances_there dump) ss,
      sum_by-le-sum_by (λ (s : CellState). length (instances_there dump s)) (λ s. length s.instances) ss
          (λ s. omega (
            arith,
            length-map (filter (λ i. not i.ended) s.instances) (instance_there dump),
            shorter (λ i. not i.ended) s.instances,
          )),
    )

few_wanted : (dump : Dump) (ds : List DesiredRow) → sum_by (λ r. r.instances) ds ≤ 250000
    → sum_by (λ s. length s.instances) dump.states ≤ 250000 → length (instances_wanted dump ds) ≤ 250000
few_wanted dump [] wanted told =
    let states : List CellState = table name_order (λ (s : CellState). s.place.cell) dump.states in
    omega (
      arith,
      few_there dump states,
      sum-table name_order (λ (s : CellState). s.place.cell)
          (λ s. length s.instances) dump.states,
      told,
    )
few_wanted dump (d ∷ ds) wanted told = omega (arith, few_desired dump (d ∷ ds), wanted)

pub few_of_site : (dump : Dump) → IsDump dump → length (site_of dump).wanted + length (site_of dump).pending ≤ 300000
few_of_site dump h =
    let wanted = few_wanted dump dump.desired h.limits.wanted h.limits.told in
    omega (
      arith,
      wanted,
      table_few key_order (λ (w : Wanted). w.key) IsKeyOrder-key_order (instances_wanted dump dump.desired),
      length-map (filter (λ t. t.waits) dump.tasks) task_job,
      shorter (λ t. t.waits) dump.tasks,
      h.limits.tasks,
    )

pub cells-sorted : (states : List CellState) (cs : List Answer) → Differ (map (λ s. s.place.cell) states)
    → IsSortedByKey (λ c. c.cell) name_order cs → IsPermutation (map answer_of states) cs → cs ≡ cells_of states
cells-sorted states cs differ sorted moved =
    table-from_sorted name_order (λ (c : Answer). c.cell) IsKeyOrder-name_order (map answer_of states) cs
    (subst Differ (same_names states) differ) sorted moved
  where
    same_names : (ss : List CellState) → map (λ (s : CellState). s.place.cell) ss
        ≡ map (λ (c : Answer). c.cell) (map answer_of ss)
    same_names [] = refl
    same_names (s ∷ ss) = ap (λ (ns : List (List ℕ)). s.place.cell ∷ ns) (same_names ss)

pub IsSite-site_of : (dump : Dump) → IsDump dump → IsSite (site_of dump)
IsSite-site_of dump h =
    let rising = IsRising-table key_order (λ (w : Wanted). w.key) IsKeyOrder-key_order
    (instances_wanted dump dump.desired) in
    let keys : Differ (map (λ (w : Wanted). w.key) (wanted_of dump)) =
    differ-from_rising key_order (λ (w : Wanted). w.key) IsKeyOrder-key_order (wanted_of dump) rising in
    record {
      cells = sound_cells dump h;
      jobs = λ p.
          sound_jobs (filter p (wanted_of dump)) (filter (λ t. t.waits) dump.tasks)
          (filter_differs (λ (w : Wanted). w.key) p (wanted_of dump) keys)
          (filter_differs (λ (t : TaskRow). t.task) (λ t. t.waits) dump.tasks h.once.tasks);
      few = omega (arith, few_of_site dump h);
    }
