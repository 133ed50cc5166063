-- What a loss leaves of an ORDINARY row: it stays if the cell of its container is there, and else it is UNCLAIMED.
use Rattle.std.proofs.Common.{◌≡◌, ◌≢◌, ℕ, Bool, true, false, cond, not, List, Option, Some, None, refl, sym, ap, subst, ◌∙◌, ⊎_elim, inl, inr}
use Rattle.std.specs.Option.{option_and_then}
use Rattle.bbs_model.specs.Lrps.{is_running_as, left_row}
use Rattle.bbs_model.specs.Runs.{state_after}
use Rattle.bbs_model.specs.Step.{verdict_of}
use Rattle.bbs_model.specs.Tables.{find_actual}
use Rattle.bbs_model.specs.Valid.{IsValid}
use Rattle.bbs_model.specs.Work as told
use Rattle.bbs_model.specs.declared.command.Command.{Command}
use Rattle.bbs_model.specs.declared.command.Op.{Op}
use Rattle.bbs_model.specs.declared.command.Op.TheVariants as op
use Rattle.bbs_model.specs.declared.rows.Rows.{Rows}
use Rattle.cell_records.specs.declared.answer.Answer.{Answer}
use Rattle.convergence.specs.Containers.{site_of}
use Rattle.convergence.specs.PlanLaws.{plan_on}
use Rattle.convergence.specs.Plans.{actual_plan}
use Rattle.convergence.specs.Subjects.{ordinary_of, subject_in, work_on}
use Rattle.converge_laws.specs.Accepted.{AreAccepted, IsAccepted, IsOfRound}
use Rattle.converge_laws.specs.Converged.{IsUnwantedKept}
use Rattle.converge_laws.specs.Laws.{after_plan, after_work}
use Rattle.converge_laws.specs.Stages.{IsPlaceable, MayBePlaced}
use Rattle.converge_laws.proofs.Public.{IsUnclaimed, after-suspect, after-unclaim, instance_itself, stays-ordinary, unclaimed}
use Rattle.crash_backoff.specs.declared.moment.Moment.{Moment}
use Rattle.diego_names.specs.declared.instance.Instance.{Instance}
use Rattle.diego_names.specs.declared.key.Key.{Key}
use Rattle.lrp_records.specs.States.{holder_of}
use Rattle.lrp_records.specs.declared.actual.Actual.{Actual}
use Rattle.lrp_records.specs.declared.presence.Presence.TheVariants.{Ordinary}
use Rattle.lrp_records.specs.declared.state.LrpState.{LrpState}
use Rattle.lrp_records.specs.declared.state.LrpState.TheVariants as lrp
use Rattle.what_if.specs.Stays.{is_lost}
use Rattle.what_if.specs.declared.site.Site.{Site}
use Rattle.forecast_laws.specs.Losses.{AreThoseThere, IsBehindALoss}
use Rattle.forecast_laws.proofs.Alike.{some_one}
use Rattle.forecast_laws.proofs.Ground.{gone_now, not_retired}
use Rattle.forecast_laws.proofs.HeldStill.{actual_idle, actual_rests, ordinary_held}
use Rattle.forecast_laws.proofs.Untouched.{leaves-plan, leaves-work, takes-work}

-- an accepted command that gives a row's container up leaves the row UNCLAIMED
module _ (before : Rows) (now : Moment) (key : Key) where
  abbrev Leaves : Op → Type 0
  Leaves o = IsAccepted (verdict_of before (told.at now o))
      → IsUnclaimed (find_actual (state_after before (told.at now o)) key Ordinary)

  unclaim_leaves : (instance : Instance) → Leaves (op.Unclaim key instance)
  unclaim_leaves instance h =
      let m = after-unclaim before now key instance h in
      let u = unclaimed m.old now instance m.taken in
      (u.0, m.after ∙ u.1, u.2)

  suspect_leaves : (a : Actual) (instance : Instance) (cell : List ℕ) → find_actual before key Ordinary ≡ Some a
      → a.state ≡ lrp.Running instance cell → Leaves (op.Suspect key instance)
  suspect_leaves a instance cell is state h =
      let runs : is_running_as a.state instance ≡ true =
      ap (λ (s : LrpState). is_running_as s instance) state ∙ instance_itself instance in
      (left_row a now, after-suspect before now key instance a is runs h, refl)

  given_leaves : (wanted : Bool) (a : Actual) (s : LrpState) (o : Op) → find_actual before key Ordinary ≡ Some a
      → a.state ≡ s → told.given_up wanted key s ≡ Some o → Leaves o
  given_leaves wanted a lrp.Unclaimed o is state e = absurd cc
  given_leaves wanted a (lrp.Claimed instance cell) o is state e =
      subst Leaves (some_one (op.Unclaim key instance) o e) (unclaim_leaves instance)
  given_leaves true a (lrp.Running instance cell) o is state e =
      subst Leaves (some_one (op.Suspect key instance) o e) (suspect_leaves a instance cell is state)
  given_leaves false a (lrp.Running instance cell) o is state e =
      subst Leaves (some_one (op.Unclaim key instance) o e) (unclaim_leaves instance)
  given_leaves wanted a lrp.Crashed o is state e = absurd cc

none_either : (b : Bool) → cond b (let none : Option Op = None in none) None ≡ None
none_either true = refl
none_either false = refl

-- a state with a container gives it up
gives_up : (wanted : Bool) (key : Key) (s : LrpState) (p : Instance × List ℕ) → site_of s ≡ Some p
    → (o : Op) × (told.given_up wanted key s ≡ Some o)
gives_up wanted key lrp.Unclaimed p on = absurd cc
gives_up wanted key (lrp.Claimed i c) p on = (op.Unclaim key i, refl)
gives_up wanted key (lrp.Running i c) p on = (cond wanted (op.Suspect key i) (op.Unclaim key i), refl)
gives_up wanted key lrp.Crashed p on = absurd cc

module _ (rows : Rows) (now : Moment) where
  abbrev Lost : Bool → Instance × List ℕ → Type 0
  Lost b p = not (told.is_there rows now p.1 p.0.epoch) ≡ b

  -- whether a state is lost is whether the cell of its container is there
  pub state_lost : (b : Bool) (s : LrpState) (p : Instance × List ℕ) → site_of s ≡ Some p → Lost b p
      → told.is_lost rows now s ≡ b
  state_lost b lrp.Unclaimed p on h = absurd cc
  state_lost b (lrp.Claimed i c) p on h = subst (Lost b) (sym (some_one (i, c) p on)) h
  state_lost b (lrp.Running i c) p on h = subst (Lost b) (sym (some_one (i, c) p on)) h
  state_lost b lrp.Crashed p on h = absurd cc

module _ {site : Site} {lost : List (List ℕ)} {rows : Rows} {got stores : List Answer} {old now : Moment}
    (valid : IsValid rows) (taken : AreAccepted rows (told.work rows now)) (those : AreThoseThere rows got now)
    (loss : IsBehindALoss site lost rows got stores old now) (key : Key) (a : Actual)
    (is : find_actual rows key Ordinary ≡ Some a) where
  abbrev row : Rows → Option Actual
  row r = find_actual r key Ordinary

  stays_here : (r : Rows) (c : Command) → IsOfRound c.op → subject_in c ≢ ordinary_of key
      → row (state_after r c) ≡ row r
  stays_here r c h other = stays-ordinary r c h key other

  placeable : IsPlaceable rows stores old key (Some a)
  placeable = subst (IsPlaceable rows stores old key) is (loss.cleared.planned.ordinary key)

  -- the row isn't to be retired
  kept : told.is_retirable rows now key a ≡ false
  kept =
      not_retired rows lost old now loss.ended key a
      (⊎_elim
      (λ (w : (told.wants rows key ≡ true) × MayBePlaced rows stores old a a.state). inl w.0)
      (λ (u : IsUnwantedKept rows stores old key a). inr u.1)
      placeable)

  -- so what is asked of it goes by its state
  abbrev asked : LrpState → Option Op
  asked s = cond (told.is_lost rows now s) (told.given_up (told.wants rows key) key s)
      (cond (told.wants rows key) (told.restart_if_due key a now s) None)

  asks : told.ordinary_work rows now key (Some a) ≡ asked a.state
  asks = ap (λ (b : Bool). cond b (Some (op.Remove key (holder_of a.state))) (asked a.state)) kept

  -- the container of the row, if it has one, is on a cell that is there
  abbrev pub StandsStill : Type 0
  StandsStill = (instance : Instance) (cell : List ℕ) → site_of a.state ≡ Some (instance, cell)
      → told.is_there rows now cell instance.epoch ≡ true

  crashed_rests : a.state ≡ lrp.Crashed → asked lrp.Crashed ≡ None
  crashed_rests state =
      elim (told.wants rows key) as (λ (w : Bool). told.wants rows key ≡ w
      → cond w (told.asked_if (told.is_due a now) (op.Restart key)) None ≡ None) [
        | true ↦ λ w. ap (λ (b : Bool). told.asked_if b (op.Restart key)) (loss.ended.crashed key a is state w)
        | false ↦ λ w. refl
      ] refl

  placed_rests : (s : LrpState) (p : Instance × List ℕ) → site_of s ≡ Some p
      → told.is_there rows now p.1 p.0.epoch ≡ true → asked s ≡ None
  placed_rests lrp.Unclaimed p on there = absurd cc
  placed_rests (lrp.Claimed i c) p on there =
      ap (λ (b : Bool). cond b (told.given_up (told.wants rows key) key (lrp.Claimed i c))
      (cond (told.wants rows key) None None))
      (state_lost rows now false (lrp.Claimed i c) p on (ap not there)) ∙ none_either (told.wants rows key)
  placed_rests (lrp.Running i c) p on there =
      ap (λ (b : Bool). cond b (told.given_up (told.wants rows key) key (lrp.Running i c))
      (cond (told.wants rows key) None None))
      (state_lost rows now false (lrp.Running i c) p on (ap not there)) ∙ none_either (told.wants rows key)
  placed_rests lrp.Crashed p on there = absurd cc

  state_rests : (s : LrpState) → a.state ≡ s → StandsStill → told.ordinary_work rows now key (Some a) ≡ None
  state_rests lrp.Unclaimed state stands = asks ∙ ap asked state ∙ none_either (told.wants rows key)
  state_rests (lrp.Claimed i c) state stands =
      asks ∙ ap asked state ∙ placed_rests (lrp.Claimed i c) (i, c) refl (stands i c (ap site_of state))
  state_rests (lrp.Running i c) state stands =
      asks ∙ ap asked state ∙ placed_rests (lrp.Running i c) (i, c) refl (stands i c (ap site_of state))
  state_rests lrp.Crashed state stands = asks ∙ ap asked state ∙ crashed_rests state

  plan_rests : StandsStill → actual_plan got a ≡ None
  plan_rests stands =
      elim (site_of a.state) as (λ (o : Option (Instance × List ℕ)). site_of a.state ≡ o → actual_plan got a ≡ None) [
        | None ↦ λ e. actual_idle got a e
        | (Some p) ↦ λ e. actual_rests those loss a p.0 p.1 e (ordinary_held those loss key a p.0 p.1 is e)
            (stands p.0 p.1 e)
      ] refl

  -- such a row stays
  pub ordinary_stays : StandsStill → find_actual (after_plan rows got now) key Ordinary ≡ Some a
  ordinary_stays stands =
      let none : work_on rows now (ordinary_of key) ≡ None =
      ap (told.ordinary_work rows now key) is ∙ state_rests a.state refl stands in
      let mid : row (after_work rows now) ≡ Some a =
      leaves-work rows got now valid row (ordinary_of key) stays_here none ∙ is in
      let rests : plan_on (after_work rows now) got (ordinary_of key) ≡ None =
      ap (option_and_then (actual_plan got)) mid ∙ plan_rests stands in
      leaves-plan rows got now valid row (ordinary_of key) stays_here rests ∙ mid

  -- one whose container's cell is lost is UNCLAIMED
  pub ordinary_given : (instance : Instance) (cell : List ℕ) → site_of a.state ≡ Some (instance, cell)
      → is_lost lost cell ≡ true → IsUnclaimed (find_actual (after_plan rows got now) key Ordinary)
  ordinary_given instance cell on gone =
      let away = state_lost rows now true a.state (instance, cell) on
      (ap not (gone_now rows lost old now loss.ended cell instance.epoch gone)) in
      let o = gives_up (told.wants rows key) key a.state (instance, cell) on in
      let asks_it : work_on rows now (ordinary_of key) ≡ Some o.0 =
      ap (told.ordinary_work rows now key) is ∙ asks
      ∙ ap (λ (b : Bool). cond b (told.given_up (told.wants rows key) key a.state)
      (cond (told.wants rows key) (told.restart_if_due key a now a.state) None)) away ∙ o.1 in
      let mid : IsUnclaimed (row (after_work rows now)) =
      takes-work rows got now valid row (ordinary_of key) stays_here taken IsUnclaimed o.0 asks_it
      (λ before same h. given_leaves before now key (told.wants rows key) a a.state o.0 (same ∙ is) refl o.1 h) in
      let rests : plan_on (after_work rows now) got (ordinary_of key) ≡ None =
      ap (option_and_then (actual_plan got)) mid.1 ∙ actual_idle got mid.0 (ap site_of mid.2) in
      subst IsUnclaimed (sym (leaves-plan rows got now valid row (ordinary_of key) stays_here rests)) mid
