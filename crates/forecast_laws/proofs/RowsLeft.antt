-- The rows that a loss leaves are those of the site with the cells lost.
use Rattle.std.proofs.Common.{◌≡◌, ℕ, Bool, true, false, List, [], filter_map, Option, Some, None, refl, sym, ap, subst, ◌∙◌}
use Rattle.std.specs.List.{Contains}
use Rattle.bbs_model.specs.Lrps.{is_wanted}
use Rattle.bbs_model.specs.Tables.{find_actual, find_task, task_name_of}
use Rattle.bbs_model.specs.Valid.{IsValid}
use Rattle.bbs_model.specs.Work.{is_there, work}
use Rattle.bbs_model.specs.declared.rows.Rows.{Rows}
use Rattle.cell_records.specs.declared.answer.Answer.{Answer}
use Rattle.cell_records.specs.declared.job.Job.{Job}
use Rattle.convergence.specs.Containers.{site_of}
use Rattle.converge_laws.specs.Accepted.{AreAccepted}
use Rattle.converge_laws.specs.Laws.{after_plan}
use Rattle.converge_round.specs.Jobs.{pending_job, task_job}
use Rattle.converge_round.proofs.Public.{from_kept}
use Rattle.crash_backoff.specs.declared.moment.Moment.{Moment}
use Rattle.diego_names.proofs.Public.{IsKeyOrder-name_order}
use Rattle.diego_names.specs.Order.{name_order}
use Rattle.diego_names.specs.declared.instance.Instance.{Instance}
use Rattle.lrp_records.specs.declared.actual.Actual.{Actual}
use Rattle.lrp_records.specs.declared.desired.Desired.{Desired}
use Rattle.lrp_records.specs.declared.presence.Presence.TheVariants.{Ordinary}
use Rattle.lrp_records.specs.declared.state.LrpState.{LrpState}
use Rattle.lrp_records.specs.declared.state.LrpState.TheVariants as lrp
use Rattle.row_tables.proofs.Public.{Contains-find_row, find_row-Contains}
use Rattle.task_records.specs.declared.state.TaskState.{TaskState}
use Rattle.task_records.specs.declared.state.TaskState.TheVariants as task
use Rattle.task_records.specs.declared.task.Task.{Task}
use Rattle.what_if.specs.Stays.{is_held, is_lost}
use Rattle.what_if.specs.declared.site.Site.{Site}
use Rattle.what_if.specs.declared.site.Wanted.{Wanted}
use Rattle.forecast_laws.specs.Losses.{AreThoseThere, IsBehindALoss}
use Rattle.forecast_laws.specs.Plans.{HaveTheSame}
use Rattle.forecast_laws.specs.Records.{AreRowsOf, HasItsRow, IsDesired, SuitsState}
use Rattle.forecast_laws.proofs.Alike.{kept_inside, some_one}
use Rattle.forecast_laws.proofs.Ground.{still_there}
use Rattle.forecast_laws.proofs.Holders.{held_before, held_on}
use Rattle.forecast_laws.proofs.HoldersLeft.{held_still, not_held, there_before}
use Rattle.forecast_laws.proofs.OrdinaryLeft.{ordinary_given, ordinary_stays}
use Rattle.forecast_laws.proofs.OthersLeft.{desired_stays, pending_back, pending_stays}
use Rattle.forecast_laws.proofs.Untouched.{valid-plan}

-- a state with a container suits an instance that is held
suits_held : (held crashed : Bool) (s : LrpState) (p : Instance × List ℕ) → site_of s ≡ Some p → held ≡ true
    → SuitsState held crashed s
suits_held held crashed lrp.Unclaimed p on e = absurd cc
suits_held held crashed (lrp.Claimed i c) p on e = e
suits_held held crashed (lrp.Running i c) p on e = e
suits_held held crashed lrp.Crashed p on e = absurd cc

waits_pending : (t : Task) (s : TaskState) (j : Job) → pending_job t s ≡ Some j → s ≡ task.Pending
waits_pending t task.Pending j e = refl
waits_pending t (task.Running i c) j e = absurd cc
waits_pending t (task.Completed failed) j e = absurd cc
waits_pending t (task.Resolving failed) j e = absurd cc

module _ {site : Site} {lost : List (List ℕ)} {rows : Rows} {got stores : List Answer} {old now : Moment}
    (valid : IsValid rows) (taken : AreAccepted rows (work rows now)) (those : AreThoseThere rows got now)
    (loss : IsBehindALoss site lost rows got stores old now) where
  abbrev after : Rows
  after = after_plan rows got now

  module _ (w : Wanted) (inside : Contains site.wanted w) where
    abbrev Suits : LrpState → Type 0
    Suits s = SuitsState (is_held site lost w.key) w.crashed s

    stays_so : (a : Actual) → find_actual after w.key Ordinary ≡ Some a → Suits a.state → HasItsRow site lost after w
    stays_so a is suits = record { row = a; there = is; state = suits }

    not_crashed : (a : Actual) (p : Instance × List ℕ) → find_actual rows w.key Ordinary ≡ Some a
        → site_of a.state ≡ Some p
        → w.crashed ≡ false
    not_crashed a p is on =
        elim w.crashed as (λ (b : Bool). w.crashed ≡ b → b ≡ false) [
          | true ↦ λ e.
              let none : None ≡ Some p = sym (ap site_of (loss.crashed w inside e a is)) ∙ on in absurd cc
          | false ↦ λ e. refl
        ] refl

    -- a row with a container stays with it, or is UNCLAIMED
    placed_row : (a : Actual) (instance : Instance) (cell : List ℕ) → find_actual rows w.key Ordinary ≡ Some a
        → site_of a.state ≡ Some (instance, cell) → HasItsRow site lost after w
    placed_row a instance cell is on =
        elim (is_lost lost cell) as (λ (b : Bool). is_lost lost cell ≡ b → HasItsRow site lost after w) [
          | true ↦ λ gone.
              let u = ordinary_given valid taken those loss w.key a is instance cell on gone in
              let held : is_held site lost w.key ≡ false =
              elim (is_held site lost w.key) as (λ (b : Bool). is_held site lost w.key ≡ b → b ≡ false) [
                | true ↦ λ e. absurd (not_held valid those loss w.key a is instance cell on gone e)
                | false ↦ λ e. refl
              ] refl in
              stays_so u.0 u.1 (subst Suits (sym u.2) (held, not_crashed a (instance, cell) is on))
          | false ↦ λ kept.
              let there = still_there rows lost old now loss.ended cell instance.epoch (there_before valid those loss
              w.key a is instance cell on) kept in
              stays_so a
              (ordinary_stays valid taken those loss w.key a is (λ i d e.
              subst (λ (p : Instance × List ℕ). is_there rows now p.1 p.0.epoch ≡ true)
              (some_one (instance, cell) (i, d) (sym on ∙ e)) there))
              (suits_held (is_held site lost w.key) w.crashed a.state (instance, cell) on
              (held_still valid those loss w.key a is instance cell on kept))
        ] refl

    -- one without stays
    idle_row : (a : Actual) → find_actual rows w.key Ordinary ≡ Some a → site_of a.state ≡ None → Suits a.state
        → HasItsRow site lost after w
    idle_row a is none suits =
        stays_so a (ordinary_stays valid taken those loss w.key a is (λ i d e.
        let bad : None ≡ Some (i, d) = sym none ∙ e in absurd cc)) suits

    unheld : is_held site [] w.key ≡ false → is_held site lost w.key ≡ false
    unheld e =
        elim (is_held site lost w.key) as (λ (b : Bool). is_held site lost w.key ≡ b → b ≡ false) [
          | true ↦ λ held.
              let c = held_before site lost w.key loss.none_silent held in
              let bad : false ≡ true = sym e ∙ held_on site [] w.key c.0 c.1 c.2 in absurd cc
          | false ↦ λ held. refl
        ] refl

    row_left : (a : Actual) (s : LrpState) → find_actual rows w.key Ordinary ≡ Some a → a.state ≡ s
        → SuitsState (is_held site [] w.key) w.crashed s → HasItsRow site lost after w
    row_left a lrp.Unclaimed is state suits =
        idle_row a is (ap site_of state) (subst Suits (sym state) (unheld suits.0, suits.1))
    row_left a (lrp.Claimed i c) is state suits = placed_row a i c is (ap site_of state)
    row_left a (lrp.Running i c) is state suits = placed_row a i c is (ap site_of state)
    row_left a lrp.Crashed is state suits = idle_row a is (ap site_of state) (subst Suits (sym state) suits)

  desired_so : (w : Wanted) → IsDesired rows w → IsDesired after w
  desired_so w h = record {
    desired = h.desired;
    there = desired_stays rows got now valid w.key.process ∙ h.there;
    within = h.within;
    memory = h.memory;
    disk = h.disk;
    tag = h.tag;
  }

  task_found : (r : Rows) → IsValid r → (t : Task) → Contains r.tasks t → find_task r t.name ≡ Some t
  task_found r v t inside =
      find_row-Contains name_order task_name_of IsKeyOrder-name_order t r.tasks v.tasks.rising inside

  found_inside : (r : Rows) (t : Task) → find_task r t.name ≡ Some t → Contains r.tasks t
  found_inside r t is = Contains-find_row name_order task_name_of t.name t r.tasks is

  pending_same : HaveTheSame (filter_map task_job rows.tasks) (filter_map task_job after.tasks)
  pending_same = record {
    there = λ j inside.
        let t = from_kept task_job rows.tasks j inside in
        let is = task_found rows valid t.0 t.1 in
        kept_inside task_job after.tasks t.0 j
        (found_inside after t.0 (pending_stays valid those loss t.0.name t.0 is (waits_pending t.0 t.0.state j t.2)))
        t.2;
    back = λ j inside.
        let t = from_kept task_job after.tasks j inside in
        let is = task_found after (valid-plan rows got now valid) t.0 t.1 in
        kept_inside task_job rows.tasks t.0 j
        (found_inside rows t.0 (pending_back valid those loss t.0.name taken t.0 is (waits_pending t.0 t.0.state j
        t.2))) t.2;
  }

  pub rows_left : AreRowsOf site lost after
  rows_left = record {
    desired = λ w inside. desired_so w (loss.rows_are.desired w inside);
    wanted = λ key e. loss.rows_are.wanted key
        (ap (λ (d : Option Desired). is_wanted d key.index) (sym (desired_stays rows got now valid key.process)) ∙ e);
    actual = λ w inside.
        let row = loss.rows_are.actual w inside in
        row_left w inside row.row row.row.state row.there refl row.state;
    pending = record {
      there = λ j inside. pending_same.there j (loss.rows_are.pending.there j inside);
      back = λ j inside. loss.rows_are.pending.back j (pending_same.back j inside);
    };
  }
