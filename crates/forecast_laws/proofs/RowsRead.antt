-- The jobs that rows ask for are those that wait in the site.
use Rattle.std.proofs.Common.{◌≡◌, ℕ, ◌<◌, Bool, true, false, cond, not, ◌&&◌, nat_lt, List, map, filter, filter_map, Option, Some, None, refl, sym, ap, subst, ◌∙◌, arith, ⊎_elim}
use Rattle.std.specs.List.{Contains}
use Rattle.std.specs.Option.{option_and_then, option_map_or}
use Rattle.std.proofs.lemmas.List.Elements.{Contains-append_cases, Contains-append_left, Contains-append_right}
use Rattle.bbs_model.specs.Tables.{find_actual, find_desired}
use Rattle.bbs_model.specs.Valid.{IsValid}
use Rattle.bbs_model.specs.declared.rows.Rows.{Rows}
use Rattle.cell_records.specs.declared.job.Job.{Job}
use Rattle.cell_records.specs.declared.job_name.JobName.TheVariants as name
use Rattle.converge_laws.proofs.Public.{from_filter, from_map, inside_filter, inside_map}
use Rattle.converge_round.specs.Jobs.{instance_job as asked_job, job_of_place, row_job, task_job, waiting_job, jobs}
use Rattle.converge_round.proofs.Public.{from_kept}
use Rattle.diego_names.specs.declared.key.Key.{Key}
use Rattle.lrp_records.proofs.Public.{IsKeyOrder-place_order}
use Rattle.lrp_records.specs.Place.{place_of, place_order}
use Rattle.lrp_records.specs.declared.actual.Actual.{Actual}
use Rattle.lrp_records.specs.declared.desired.Desired.{Desired}
use Rattle.lrp_records.specs.declared.presence.Presence.{Presence}
use Rattle.lrp_records.specs.declared.presence.Presence.TheVariants.{Ordinary, Evacuating, Suspect}
use Rattle.lrp_records.specs.declared.state.LrpState.{LrpState}
use Rattle.lrp_records.specs.declared.state.LrpState.TheVariants.{Unclaimed, Claimed, Running, Crashed}
use Rattle.row_tables.proofs.Public.{Contains-find_row, find_row-Contains, key-find_row}
use Rattle.what_if.specs.Stays.{is_held}
use Rattle.what_if.specs.Waiting.{does_wait, instance_job, waits}
use Rattle.what_if.specs.declared.site.Site.{Site}
use Rattle.what_if.specs.declared.site.Wanted.{Wanted}
use Rattle.forecast_laws.specs.Plans.{HaveTheSame}
use Rattle.forecast_laws.specs.Records.{AreRowsOf, IsDesired, SuitsState}
use Rattle.forecast_laws.proofs.Alike.{kept_inside, some_one}

abbrev asked : Key → Desired → Job
asked key d = record { job = name.Lrp key; memory = d.memory; disk = d.disk; tag = d.tag }

-- a process that is desired with so many instances asks for the instance
asked_for : (key : Key) (d : Desired) → key.index < d.instances → job_of_place key d ≡ Some (asked key d)
asked_for key d within =
    let test : nat_lt key.index d.instances ≡ true = grind arith in
    ap (λ (b : Bool). cond b (Some (asked key d)) None) test

-- what the site wants is asked for as it is in the site
desired_job : (rows : Rows) (w : Wanted) → IsDesired rows w → asked_job rows w.key ≡ Some (instance_job w)
desired_job rows w h =
    let amounts : asked w.key h.desired ≡ instance_job w = λ i. record {
      job = name.Lrp w.key;
      memory = h.memory i;
      disk = h.disk i;
      tag = h.tag i;
    } in
    ap (option_and_then (job_of_place w.key)) h.there ∙ asked_for w.key h.desired h.within ∙ ap Some amounts

-- what is asked for is wanted
wanted_if : (key : Key) (o : Option Desired) (j : Job) → option_and_then (job_of_place key) o ≡ Some j
    → option_map_or (λ (d : Desired). nat_lt key.index d.instances) o false ≡ true
wanted_if key None j e = absurd cc
wanted_if key (Some d) j e =
    elim (nat_lt key.index d.instances) as (λ (b : Bool). cond b (Some (asked key d)) None ≡ Some j → b ≡ true) [
      | true ↦ λ is. refl
      | false ↦ λ is. absurd cc
    ] e

held_waits_not : (held crashed : Bool) → held ≡ true → (not held && not crashed) ≡ true → ⊥
held_waits_not true crashed h e = cc
held_waits_not false crashed h e = cc

crashed_waits_not : (held crashed : Bool) → crashed ≡ true → (not held && not crashed) ≡ true → ⊥
crashed_waits_not true crashed h e = cc
crashed_waits_not false true h e = cc
crashed_waits_not false false h e = cc

-- the row of an instance that waits is UNCLAIMED
waits_unclaimed : (held crashed : Bool) (state : LrpState) → SuitsState held crashed state
    → (not held && not crashed) ≡ true → state ≡ Unclaimed
waits_unclaimed held crashed Unclaimed h e = refl
waits_unclaimed held crashed (Claimed i c) h e = absurd (held_waits_not held crashed h e)
waits_unclaimed held crashed (Running i c) h e = absurd (held_waits_not held crashed h e)
waits_unclaimed held crashed Crashed h e = absurd (crashed_waits_not held crashed h e)

-- an UNCLAIMED row asks for its instance
row_waits : (rows : Rows) (key : Key) (a : Actual) (j : Job) → find_actual rows key Ordinary ≡ Some a
    → a.state ≡ Unclaimed → asked_job rows key ≡ Some j
    → Contains (filter_map (row_job rows) rows.actual) j
row_waits rows key a j is state named =
    let place : place_of a ≡ (key, Ordinary) = key-find_row place_order place_of IsKeyOrder-place_order
    (key, Ordinary) a rows.actual is in
    let keys : a.key ≡ key = ap (λ (p : Key × Presence). p.0) place in
    let kinds : a.presence ≡ Ordinary = ap (λ (p : Key × Presence). p.1) place in
    let waiting : row_job rows a ≡ Some j =
    ap (λ (s : LrpState). waiting_job rows a.key a.presence s) state ∙ ap
    (λ (p : Presence). waiting_job rows a.key p Unclaimed) kinds
    ∙ ap (λ (k : Key). asked_job rows k) keys ∙ named in
    kept_inside (row_job rows) rows.actual a j (Contains-find_row place_order place_of (key, Ordinary) a rows.actual is)
    waiting

-- and a row that asks for one is ORDINARY and UNCLAIMED
asked_row : (rows : Rows) (key : Key) (p : Presence) (state : LrpState) (j : Job)
    → waiting_job rows key p state ≡ Some j
    → (p ≡ Ordinary) × (state ≡ Unclaimed) × (asked_job rows key ≡ Some j)
asked_row rows key Ordinary Unclaimed j e = (refl, refl, e)
asked_row rows key Ordinary (Claimed i c) j e = absurd cc
asked_row rows key Ordinary (Running i c) j e = absurd cc
asked_row rows key Ordinary Crashed j e = absurd cc
asked_row rows key Evacuating state j e = absurd cc
asked_row rows key Suspect state j e = absurd cc

module _ (site : Site) (lost : List (List ℕ)) (rows : Rows) (are : AreRowsOf site lost rows) where
  abbrev waiting_ones : List Wanted
  waiting_ones = filter (does_wait site lost) site.wanted

  instance_there : (j : Job) → Contains (map instance_job waiting_ones) j
      → Contains (filter_map (row_job rows) rows.actual) j
  instance_there j here =
      let w = from_map instance_job waiting_ones j here in
      let f = from_filter (does_wait site lost) site.wanted w.0 w.1 in
      let row = are.actual w.0 f.0 in
      row_waits rows w.0.key row.row j row.there (waits_unclaimed
      (is_held site lost w.0.key) w.0.crashed row.row.state row.state f.1)
      (desired_job rows w.0 (are.desired w.0 f.0) ∙ ap Some w.2)

  instance_back : IsValid rows → (j : Job) → Contains (filter_map (row_job rows) rows.actual) j
      → Contains (map instance_job waiting_ones) j
  instance_back valid j here =
      let a = from_kept (row_job rows) rows.actual j here in
      let asks = asked_row rows a.0.key a.0.presence a.0.state j a.2 in
      let w = are.wanted a.0.key (wanted_if a.0.key (find_desired rows a.0.key.process) j asks.2) in
      let row = are.actual w.0 w.1 in
      let found : find_actual rows a.0.key a.0.presence ≡ Some a.0 =
      find_row-Contains place_order place_of IsKeyOrder-place_order a.0 rows.actual valid.actual.rising a.1 in
      let at : find_actual rows w.0.key Ordinary ≡ Some a.0 = (λ i. find_actual rows (w.2 i) (sym asks.0 i)) ∙ found in
      let one : row.row ≡ a.0 = some_one row.row a.0 (sym row.there ∙ at) in
      let suits : SuitsState (is_held site lost w.0.key) w.0.crashed Unclaimed =
      subst (SuitsState (is_held site lost w.0.key) w.0.crashed)
      (ap (λ (x : Actual). x.state) one ∙ asks.1) row.state in
      let waits_so : does_wait site lost w.0 ≡ true = λ i. not (suits.0 i) && not (suits.1 i) in
      let is : instance_job w.0 ≡ j =
      some_one (instance_job w.0) j (sym (desired_job rows w.0 (are.desired w.0 w.1)) ∙ ap
      (λ (k : Key). asked_job rows k) w.2 ∙ asks.2) in
      subst (Contains (map instance_job waiting_ones)) is
      (inside_map instance_job waiting_ones w.0 (inside_filter (does_wait site lost) site.wanted w.0 w.1 waits_so))

  pub jobs_read : IsValid rows → HaveTheSame (waits site lost) (jobs rows)
  jobs_read valid = record {
    there = λ j inside. ⊎_elim
        (λ (here : Contains (map instance_job waiting_ones) j).
        Contains-append_left (filter_map (row_job rows) rows.actual) (filter_map task_job rows.tasks) j
        (instance_there j here))
        (λ (here : Contains site.pending j).
        Contains-append_right (filter_map (row_job rows) rows.actual) (filter_map task_job rows.tasks) j
        (are.pending.there j here))
        (Contains-append_cases (map instance_job waiting_ones) site.pending j inside);
    back = λ j inside. ⊎_elim
        (λ (here : Contains (filter_map (row_job rows) rows.actual) j).
        Contains-append_left (map instance_job waiting_ones) site.pending j (instance_back valid j here))
        (λ (here : Contains (filter_map task_job rows.tasks) j).
        Contains-append_right (map instance_job waiting_ones) site.pending j (are.pending.back j here))
        (Contains-append_cases (filter_map (row_job rows) rows.actual) (filter_map task_job rows.tasks) j inside);
  }
