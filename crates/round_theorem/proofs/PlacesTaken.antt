-- What the commands of all cells are about: each job that waits, once.
use Rattle.std.proofs.Common.{◌≡◌, ℕ, Bool, true, false, cond, List, [], ◌∷◌, map, Option, Some, None, refl, sym, ap, subst, ◌∙◌}
use Rattle.std.specs.Prelude.{nat_lt}
use Rattle.std.specs.Cmp.Lexicographic.{same_text}
use Rattle.std.specs.List.{Contains, cons_option, flat_map}
use Rattle.std.specs.Option.{option_map, option_map_or, option_and_then}
use Rattle.std.proofs.lemmas.Cmp.{nat_list_eq_equiv}
use Rattle.auctioneer.specs.Laws.{job_in}
use Rattle.auctioneer.specs.Stands.{same_name}
use Rattle.auctioneer.specs.declared.placement.Placement.{Placement}
use Rattle.auctioneer.specs.declared.placement.Placement.TheVariants.{On, NoRoom}
use Rattle.cell_records.specs.declared.answer.Answer.{Answer}
use Rattle.cell_records.specs.declared.job.Job.{Job}
use Rattle.cell_records.specs.declared.job_name.JobName.{JobName}
use Rattle.cell_records.specs.declared.job_name.JobName.TheVariants as name
use Rattle.diego_names.proofs.Public.{IsKeyOrder-name_order}
use Rattle.diego_names.specs.Order.{name_order}
use Rattle.diego_names.specs.declared.key.Key.{Key}
use Rattle.lrp_records.specs.declared.desired.Desired.{Desired}
use Rattle.row_tables.proofs.Public.{key-find_row}
use Rattle.task_records.specs.declared.task.Task.{Task}
use Rattle.bbs_model.specs.Found.{suspect_in}
use Rattle.bbs_model.specs.Tables.{find_desired, find_task, task_name_of}
use Rattle.bbs_model.specs.declared.command.Command.{Command}
use Rattle.bbs_model.specs.declared.rows.Rows.{Rows}
use Rattle.convergence.specs.Subjects.{subject_in}
use Rattle.converge_laws.specs.Accepted.{AreApart}
use Rattle.converge_laws.proofs.Public.{inside_first, inside_rest, inside_map, from_map, from_flat_map, subject_for, same_job_as, same_task_as}
use Rattle.converge_round.specs.Jobs.{job_of_place, job_of_task, named_job}
use Rattle.converge_round.specs.Places.{job_on, jobs_on}
use Rattle.converge_round.proofs.Public.{from_kept}
use Rattle.round_theorem.proofs.ClaimsMade.{about_job}
use Rattle.round_theorem.proofs.Lists.{Differ, differ_append, one_of_name, kept_inside}

-- commands whose subjects differ are apart, where none changes a SUSPECT row
pub apart_by_subjects : (cs : List Command) → Differ (map subject_in cs)
    → ((c : Command) → Contains cs c → suspect_in c.op ≡ None) → AreApart cs
apart_by_subjects [] h plain = tt
apart_by_subjects (c ∷ cs) h plain = (
  λ d inside. record {
    subject = λ same. h.0 (subject_in d) (inside_map subject_in cs d inside) same;
    suspect = λ key changes about. let none : suspect_in c.op ≡ None = plain c (inside_first c cs) in absurd cc;
  },
  apart_by_subjects cs h.1 (λ d inside. plain d (inside_rest d c cs inside)),
)

-- names that lead to one row are one
pub one_subject : (a b : JobName) → subject_for a ≡ subject_for b → a ≡ b
one_subject a (name.Lrp key) e = same_job_as a key e
one_subject a (name.Task n) e = same_task_as a n e

abbrev name_or : JobName → Option Job → JobName
name_or other o = option_map_or (λ (j : Job). j.job) o other

place_named : (key : Key) (d : Desired) (b : Bool) (j : Job)
    → cond b (Some (record { job = name.Lrp key; memory = d.memory; disk = d.disk; tag = d.tag })) None ≡ Some j
    → j.job ≡ name.Lrp key
place_named key d true j e = sym (ap (name_or (name.Lrp key)) e)
place_named key d false j e = absurd cc

pub instance_named : (key : Key) (o : Option Desired) (j : Job) → option_and_then (job_of_place key) o ≡ Some j
    → j.job ≡ name.Lrp key
instance_named key None j e = absurd cc
instance_named key (Some d) j e = place_named key d (nat_lt key.index d.instances) j e

task_named : (rows : Rows) (n : List ℕ) (o : Option Task) (j : Job) → find_task rows n ≡ o
    → option_map job_of_task o ≡ Some j → j.job ≡ name.Task n
task_named rows n None j is e = absurd cc
task_named rows n (Some t) j is e =
    sym (ap (name_or (name.Task t.name)) e) ∙ ap (λ m. name.Task m)
    (key-find_row name_order task_name_of IsKeyOrder-name_order n t rows.tasks is)

-- a job that is found by a name has it
pub named_so : (rows : Rows) (n : JobName) (j : Job) → named_job rows n ≡ Some j → j.job ≡ n
named_so rows (name.Lrp key) j e = instance_named key (find_desired rows key.process) j e
named_so rows (name.Task n) j e = task_named rows n (find_task rows n) j refl e

-- where a job that goes to a cell was placed
on_cell_if : (rows : Rows) (cell other : List ℕ) (n : JobName) (j : Job) (b : Bool) → same_name other cell ≡ b
    → cond b (named_job rows n) None ≡ Some j → (On n other ≡ On j.job cell)
on_cell_if rows cell other n j true same e = λ i. On (sym (named_so rows n j e) i) (same_text other cell (sym same) i)
on_cell_if rows cell other n j false same e = absurd cc

on_cell : (rows : Rows) (cell : List ℕ) (p : Placement) (j : Job) → job_on rows cell p ≡ Some j → p ≡ On j.job cell
on_cell rows cell (On n other) j e = on_cell_if rows cell other n j (same_name other cell) refl e
on_cell rows cell (NoRoom n) j e = absurd cc

pub placed_on : (rows : Rows) (list : List Placement) (cell : List ℕ) (j : Job) → Contains (jobs_on rows list cell) j
    → Contains list (On j.job cell)
placed_on rows list cell j inside =
    let k = from_kept (job_on rows cell) list j inside in
    subst (Contains list) (on_cell rows cell k.0 j k.2) k.1

-- a placement on a cell leads to its job there
pub goes_there : (rows : Rows) (list : List Placement) (cell : List ℕ) (n : JobName) (j : Job)
    → Contains list (On n cell) → named_job rows n ≡ Some j → Contains (jobs_on rows list cell) j
goes_there rows list cell n j inside named =
    kept_inside (job_on rows cell) list (On n cell) j inside
    (ap (λ (b : Bool). cond b (named_job rows n) None) (nat_list_eq_equiv.refl cell) ∙ named)

module _ (rows : Rows) where
  -- the jobs of one cell differ
  one_cell : (cell : List ℕ) (list : List Placement) → Differ (map job_in list)
      → Differ (map about_job (jobs_on rows list cell))
  one_cell cell [] h = tt
  one_cell cell (p ∷ list) h =
      elim (job_on rows cell p) as (λ (o : Option Job). job_on rows cell p ≡ o
      → Differ (map about_job (cons_option o (jobs_on rows list cell)))) [
        | None ↦ λ is. one_cell cell list h.1
        | (Some j) ↦ λ is. (
          λ s inside same.
              let m = from_map about_job (jobs_on rows list cell) s inside in
              let at = placed_on rows list cell m.0 m.1 in
              let names : m.0.job ≡ j.job = one_subject m.0.job j.job (m.2 ∙ same) in
              let first : job_in p ≡ j.job = ap job_in (on_cell rows cell p j is) in
              h.0 m.0.job (inside_map job_in list (On m.0.job cell) at) (names ∙ sym first),
          one_cell cell list h.1,
        )
      ] refl

abbrev cell_or : List ℕ → Placement → List ℕ
cell_or other (On n cell) = cell
cell_or other (NoRoom n) = other

module _ (rows : Rows) (list : List Placement) (differ : Differ (map job_in list)) where
  -- the jobs of all cells differ
  pub all_cells : (xs : List Answer) → Differ (map (λ (x : Answer). x.cell) xs)
      → Differ (flat_map (λ (x : Answer). map about_job (jobs_on rows list x.cell)) xs)
  all_cells [] h = tt
  all_cells (x ∷ xs) h =
      differ_append (map about_job (jobs_on rows list x.cell))
      (flat_map (λ (y : Answer). map about_job (jobs_on rows list y.cell)) xs)
      (one_cell rows x.cell list differ) (all_cells xs h.1)
      (λ s t in_s in_t same.
      let a = from_map about_job (jobs_on rows list x.cell) s in_s in
      let y = from_flat_map (λ (z : Answer). map about_job (jobs_on rows list z.cell)) xs t in_t in
      let b = from_map about_job (jobs_on rows list y.0.cell) t y.2 in
      let names : a.0.job ≡ b.0.job = one_subject a.0.job b.0.job (a.2 ∙ sym same ∙ sym b.2) in
      let one : On a.0.job x.cell ≡ On b.0.job y.0.cell =
      one_of_name job_in list differ (On a.0.job x.cell) (On b.0.job y.0.cell) (placed_on rows list x.cell a.0 a.1)
      (placed_on rows list y.0.cell b.0 b.1) names in
      h.0 y.0.cell (inside_map (λ (z : Answer). z.cell) xs y.0 y.1) (sym (ap (cell_or x.cell) one)))
