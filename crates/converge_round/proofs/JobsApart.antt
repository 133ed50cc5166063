-- The jobs that wait have names that differ.
use Rattle.std.proofs.Common.{◌≡◌, ◌≢◌, ℕ, suc, Bool, true, false, cond, List, [], ◌∷◌, ◌++◌, map, Option, Some, None, refl, sym, ap, subst, ◌∙◌, arith, inl, inr, ◌⊎◌, ⊎_elim}
use Rattle.std.specs.Prelude.{nat_lt}
use Rattle.std.specs.Cmp.{tied_itself}
use Rattle.std.specs.List.{All, AllPairs, Contains, filter_map, cons_option}
use Rattle.std.specs.Option.{option_map_or, option_and_then}
use Rattle.std.specs.declared.cmp.Ordering.TheVariants.{Less, Equal}
use Rattle.std.proofs.lemmas.List.Elements.{All-head, All-tail}
use Rattle.row_tables.specs.Table.{IsRising}
use Rattle.row_tables.proofs.Public.{All-above, IsRising-tail, below_rest}
use Rattle.diego_names.specs.Order.{name_order}
use Rattle.diego_names.specs.declared.key.Key.{Key}
use Rattle.diego_names.proofs.Public.{IsKeyOrder-name_order}
use Rattle.lrp_records.specs.Place.{place_of, place_order}
use Rattle.lrp_records.specs.declared.actual.Actual.{Actual}
use Rattle.lrp_records.specs.declared.desired.Desired.{Desired}
use Rattle.lrp_records.specs.declared.presence.Presence.{Presence}
use Rattle.lrp_records.specs.declared.presence.Presence.TheVariants.{Ordinary, Evacuating, Suspect}
use Rattle.lrp_records.specs.declared.state.LrpState.{LrpState}
use Rattle.lrp_records.specs.declared.state.LrpState.TheVariants as lrp
use Rattle.lrp_records.proofs.Public.{IsKeyOrder-place_order}
use Rattle.task_records.specs.declared.state.TaskState.{TaskState}
use Rattle.task_records.specs.declared.state.TaskState.TheVariants as task
use Rattle.task_records.specs.declared.task.Task.{Task}
use Rattle.cell_records.specs.declared.job.Job.{Job}
use Rattle.cell_records.specs.declared.job_name.JobName.{JobName}
use Rattle.cell_records.specs.declared.job_name.JobName.TheVariants as name
use Rattle.auctioneer.specs.Asked.{AreJobs}
use Rattle.bbs_model.specs.Tables.{find_desired}
use Rattle.bbs_model.specs.Valid.{IsValid}
use Rattle.bbs_model.specs.declared.rows.Rows.{Rows}
use Rattle.converge_round.specs.Jobs.{job_of_place, waiting_job, row_job, pending_job, task_job, jobs}
use Rattle.converge_round.proofs.Apart.{pairs_first}
use Rattle.converge_round.proofs.Lists.{first_or_rest}

-- the name of a job that is told, or another one
abbrev name_or : JobName → Option Job → JobName
name_or other o = option_map_or (λ (j : Job). j.job) o other

same_name_of : (x j : Job) → Some x ≡ Some j → x.job ≡ j.job
same_name_of x j e = ap (name_or x.job) e

placed_named : (key : Key) (d : Desired) (b : Bool) (j : Job)
    → cond b (Some (record { job = name.Lrp key; memory = d.memory; disk = d.disk; tag = d.tag })) None ≡ Some j
    → name.Lrp key ≡ j.job
placed_named key d true j e = ap (name_or (name.Lrp key)) e
placed_named key d false j e = absurd cc

instance_named : (key : Key) (o : Option Desired) (j : Job) → option_and_then (job_of_place key) o ≡ Some j
    → name.Lrp key ≡ j.job
instance_named key None j e = absurd cc
instance_named key (Some d) j e = placed_named key d (nat_lt key.index d.instances) j e

-- a job of a row is named by its key, and the row is ORDINARY
waiting_named : (rows : Rows) (key : Key) (p : Presence) (s : LrpState) (j : Job) → waiting_job rows key p s ≡ Some j
    → (p ≡ Ordinary) × (name.Lrp key ≡ j.job)
waiting_named rows key Ordinary lrp.Unclaimed j e = (refl, instance_named key (find_desired rows key.process) j e)
waiting_named rows key Ordinary (lrp.Claimed i c) j e = absurd cc
waiting_named rows key Ordinary (lrp.Running i c) j e = absurd cc
waiting_named rows key Ordinary lrp.Crashed j e = absurd cc
waiting_named rows key Evacuating s j e = absurd cc
waiting_named rows key Suspect s j e = absurd cc

pending_named : (t : Task) (s : TaskState) (j : Job) → pending_job t s ≡ Some j → name.Task t.name ≡ j.job
pending_named t task.Pending j e = ap (name_or (name.Task t.name)) e
pending_named t (task.Running i c) j e = absurd cc
pending_named t (task.Completed failed) j e = absurd cc
pending_named t (task.Resolving failed) j e = absurd cc

-- the name is that of an ORDINARY row of these, or of a task
abbrev IsNameOf : List Actual → JobName → Type 0
IsNameOf xs n = ((a : Actual) × Contains xs a × (a.presence ≡ Ordinary) × (name.Lrp a.key ≡ n))
    ⊎ ((t : List ℕ) × (name.Task t ≡ n))

abbrev IsTaskName : List Task → JobName → Type 0
IsTaskName ts n = (t : Task) × Contains ts t × (name.Task t.name ≡ n)

later_row : (x : Actual) (xs : List Actual) (n : JobName) → IsNameOf xs n → IsNameOf (x ∷ xs) n
later_row x xs n h = ⊎_elim (λ a. inl (a.0, (suc a.1.0, omega (arith, a.1.1), a.1.2), a.2, a.3)) (λ t. inr t) h

later_task : (x : Task) (xs : List Task) (n : JobName) → IsTaskName xs n → IsTaskName (x ∷ xs) n
later_task x xs n h = (h.0, (suc h.1.0, omega (arith, h.1.1), h.1.2), h.2)

abbrev key_in : JobName → Key → Key
key_in (name.Lrp key) other = key
key_in (name.Task t) other = other

abbrev task_in : JobName → List ℕ → List ℕ
task_in (name.Lrp key) other = other
task_in (name.Task t) other = t

same_place : (a b : Actual) → a.presence ≡ Ordinary → b.presence ≡ Ordinary → a.key ≡ b.key → place_of a ≡ place_of b
same_place a b p q e = ap (λ k. (k, a.presence)) e ∙ ap (λ r. (b.key, r)) (p ∙ sym q)

all_at : {X : Type 0} (P : X → Type 0) (xs : List X) (x : X) → All P xs → Contains xs x → P x
all_at P [] x h here = absurd (omega (arith, here.1))
all_at P (y ∷ ys) x h here = ⊎_elim (λ e. subst P e (All-head P y ys h))
    (λ rest. all_at P ys x (All-tail P y ys h) rest) (first_or_rest y ys x here)

-- no name of the rows above is that of this one
row_differs : (x : Actual) (xs : List Actual) (j : Job) (n : JobName) → x.presence ≡ Ordinary → name.Lrp x.key ≡ j.job
    → All (λ (a : Actual). place_order (place_of x) (place_of a) ≡ Less) xs → IsNameOf xs n → j.job ≡ n → ⊥
row_differs x xs j n p is above h e = ⊎_elim
    (λ a. let keys : name.Lrp x.key ≡ name.Lrp a.0.key = is ∙ e ∙ sym a.3 in
    let same : x.key ≡ a.0.key = ap (λ m. key_in m x.key) keys in
    let places : place_of x ≡ place_of a.0 = same_place x a.0 p a.2 same in
    let less : place_order (place_of x) (place_of a.0) ≡ Less =
    all_at (λ (b : Actual). place_order (place_of x) (place_of b) ≡ Less) xs a.0 above a.1 in
    let tie : place_order (place_of x) (place_of a.0) ≡ Equal =
    subst (λ q. place_order (place_of x) q ≡ Equal) places
    (tied_itself IsKeyOrder-place_order.total (place_of x)) in
    let bad : Less ≡ Equal = sym less ∙ tie in absurd cc)
    (λ t. let bad : name.Lrp x.key ≡ name.Task t.0 = is ∙ e ∙ sym t.1 in absurd cc)
    h

task_differs : (x : Task) (xs : List Task) (j : Job) (n : JobName) → name.Task x.name ≡ j.job
    → All (λ (t : Task). name_order x.name t.name ≡ Less) xs → IsTaskName xs n → j.job ≡ n → ⊥
task_differs x xs j n is above h e =
    let names : name.Task x.name ≡ name.Task h.0.name = is ∙ e ∙ sym h.2 in
    let same : x.name ≡ h.0.name = ap (λ m. task_in m x.name) names in
    let less : name_order x.name h.0.name ≡ Less = all_at
    (λ (t : Task). name_order x.name t.name ≡ Less) xs h.0 above h.1 in
    let tie : name_order x.name h.0.name ≡ Equal = subst (λ q. name_order x.name q ≡ Equal) same
    (tied_itself IsKeyOrder-name_order.total x.name) in
    let bad : Less ≡ Equal = sym less ∙ tie in absurd cc

-- names that differ, each told so
record AreNamed (P : JobName → Type 0) (names : List JobName) : Type 0 where
  differ : AllPairs (λ a b. a ≢ b) names
  each : (n : JobName) → Contains names n → P n

named_more : (P Q : JobName → Type 0) (n : JobName) (names : List JobName) → ((m : JobName) → P m → Q m) → Q n
    → ((m : JobName) → P m → n ≡ m → ⊥) → AreNamed P names → AreNamed Q (n ∷ names)
named_more P Q n names weaker here ne h = record {
  differ = pairs_first n names (λ y at. ne y (h.each y at)) h.differ;
  each = λ m at. ⊎_elim (λ e. subst Q e here) (λ rest. weaker m (h.each m rest)) (first_or_rest n names m at);
}

named_weaker : (P Q : JobName → Type 0) (names : List JobName) → ((m : JobName) → P m → Q m) → AreNamed P names
    → AreNamed Q names
named_weaker P Q names weaker h = record { differ = h.differ; each = λ m at. weaker m (h.each m at) }

abbrev names_of_jobs : List Job → List JobName
names_of_jobs js = map (λ (j : Job). j.job) js

task_step : (t : Task) (ts : List Task) (o : Option Job) → task_job t ≡ o
    → All (λ (x : Task). name_order t.name x.name ≡ Less) ts
    → AreNamed (IsTaskName ts) (names_of_jobs (filter_map task_job ts))
    → AreNamed (IsTaskName (t ∷ ts)) (names_of_jobs (cons_option o (filter_map task_job ts)))
task_step t ts None e above h = named_weaker (IsTaskName ts) (IsTaskName (t ∷ ts))
    (names_of_jobs (filter_map task_job ts)) (later_task t ts) h
task_step t ts (Some j) e above h =
    let is : name.Task t.name ≡ j.job = pending_named t t.state j e in
    named_more (IsTaskName ts) (IsTaskName (t ∷ ts)) j.job (names_of_jobs (filter_map task_job ts)) (later_task t ts)
    (t, (0, omega arith, refl), is)
    (λ m p same. task_differs t ts j m is above p same) h

tasks_named : (ts : List Task) → IsRising name_order (λ (t : Task). t.name) ts
    → AreNamed (IsTaskName ts) (names_of_jobs (filter_map task_job ts))
tasks_named [] h = record {
  differ = λ i j d lt below. absurd (omega arith);
  each = λ n at.
      absurd (omega (arith, at.1));
}
tasks_named (t ∷ ts) h = task_step t ts (task_job t) refl
    (All-above name_order (λ (x : Task). x.name) t.name ts (below_rest name_order (λ (x : Task). x.name) t ts h))
    (tasks_named ts (IsRising-tail name_order (λ (x : Task). x.name) t ts h))

row_step : (rows : Rows) (a : Actual) (xs : List Actual) (zs : List Job) (o : Option Job) → row_job rows a ≡ o
    → All (λ (x : Actual). place_order (place_of a) (place_of x) ≡ Less) xs
    → AreNamed (IsNameOf xs) (names_of_jobs (filter_map (row_job rows) xs ++ zs))
    → AreNamed (IsNameOf (a ∷ xs)) (names_of_jobs (cons_option o (filter_map (row_job rows) xs) ++ zs))
row_step rows a xs zs None e above h = named_weaker (IsNameOf xs) (IsNameOf (a ∷ xs))
    (names_of_jobs (filter_map (row_job rows) xs ++ zs)) (later_row a xs) h
row_step rows a xs zs (Some j) e above h =
    let is = waiting_named rows a.key a.presence a.state j e in
    named_more (IsNameOf xs) (IsNameOf (a ∷ xs)) j.job (names_of_jobs (filter_map (row_job rows) xs ++ zs))
    (later_row a xs) (inl (a, (0, omega arith, refl), is.0, is.1))
    (λ m p same. row_differs a xs j m is.0 is.1 above p same) h

rows_named : (rows : Rows) (xs : List Actual) (zs : List Job) → IsRising place_order place_of xs
    → AreNamed (IsNameOf []) (names_of_jobs zs)
    → AreNamed (IsNameOf xs) (names_of_jobs (filter_map (row_job rows) xs ++ zs))
rows_named rows [] zs h base = base
rows_named rows (a ∷ xs) zs h base = row_step rows a xs zs (row_job rows a) refl
    (All-above place_order place_of (place_of a) xs (below_rest place_order place_of a xs h))
    (rows_named rows xs zs (IsRising-tail place_order place_of a xs h) base)

-- no two jobs that wait have one name
pub jobs_differ : (rows : Rows) → IsValid rows → AreJobs (jobs rows)
jobs_differ rows valid =
    let tasks = tasks_named rows.tasks valid.tasks.rising in
    let base : AreNamed (IsNameOf []) (names_of_jobs (filter_map task_job rows.tasks)) =
    named_weaker (IsTaskName rows.tasks) (IsNameOf []) (names_of_jobs (filter_map task_job rows.tasks))
    (λ m p. inr (p.0.name, p.2)) tasks in
    (rows_named rows rows.actual (filter_map task_job rows.tasks) valid.actual.rising base).differ
