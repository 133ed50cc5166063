-- What rows come to of which nothing is asked.
use Rattle.std.proofs.Common.{◌≡◌, ◌⊎◌, ℕ, Bool, true, false, cond, not, ◌&&◌, ◌||◌, List, Option, Some, None, refl, ap, sym, subst, ◌∙◌, inl, inr}
use Rattle.std.specs.Option.{option_map_or}
use Rattle.crash_backoff.specs.declared.moment.Moment.{Moment}
use Rattle.diego_names.specs.declared.instance.Instance.{Instance}
use Rattle.diego_names.specs.declared.key.Key.{Key}
use Rattle.lrp_records.proofs.Public.{IsKeyOrder-place_order}
use Rattle.lrp_records.specs.Place.{place_of, place_order}
use Rattle.lrp_records.specs.States.{holder_of}
use Rattle.lrp_records.specs.declared.actual.Actual.{Actual}
use Rattle.lrp_records.specs.declared.presence.Presence.{Presence}
use Rattle.lrp_records.specs.declared.presence.Presence.TheVariants.{Ordinary}
use Rattle.lrp_records.specs.declared.state.LrpState.{LrpState}
use Rattle.lrp_records.specs.declared.state.LrpState.TheVariants as lrp
use Rattle.row_tables.proofs.Public.{key-find_row}
use Rattle.bbs_model.specs.Tables.{find_actual}
use Rattle.bbs_model.specs.Valid.{IsValid, IsActualRow, IsRunning, SuitsPresence}
use Rattle.bbs_model.specs.Work as told
use Rattle.bbs_model.specs.declared.command.Op.{Op}
use Rattle.bbs_model.specs.declared.command.Op.TheVariants as op
use Rattle.bbs_model.specs.declared.rows.Rows.{Rows}
use Rattle.converge_laws.proofs.Frames.{and_false}
use Rattle.converge_laws.proofs.Held.{find_row-each}

pub not_false : (b : Bool) → not b ≡ false → b ≡ true
not_false true e = refl
not_false false e = absurd cc

pub all_false : (w l r : Bool) → ((w || l) || r) ≡ false → (w ≡ false) × (l ≡ false) × (r ≡ false)
all_false true l r e = absurd cc
all_false false true r e = absurd cc
all_false false false true e = absurd cc
all_false false false false e = (refl, refl, refl)

-- why a row in that domain stands: its instance is wanted, or it isn't and the domain isn't fresh
abbrev pub MayStand : Rows → Moment → Key → Option (List ℕ) → Type 0
MayStand rows now key domain = (told.wants rows key ≡ true)
    ⊎ ((told.wants rows key ≡ false) × (option_map_or (told.fresh_in rows now) domain true ≡ false))

pub may_stand : (rows : Rows) (now : Moment) (key : Key) (a : Actual) → told.is_retirable rows now key a ≡ false
    → MayStand rows now key a.domain
may_stand rows now key a e =
    elim (told.wants rows key) as (λ (b : Bool). (not b && told.may_go rows now a) ≡ false
    → (b ≡ true) ⊎ ((b ≡ false) × (told.may_go rows now a ≡ false))) [
      | true ↦ λ f. inl refl
      | false ↦ λ f. inr (refl, f)
    ] e

-- its container, if it has one, is on a cell that is there
abbrev pub StandsIn : Rows → Moment → LrpState → Type 0
StandsIn rows now lrp.Unclaimed = Unit {0}
StandsIn rows now (lrp.Claimed instance cell) = told.is_there rows now cell instance.epoch ≡ true
StandsIn rows now (lrp.Running instance cell) = told.is_there rows now cell instance.epoch ≡ true
StandsIn rows now lrp.Crashed = Unit {0}

-- and where it is CRASHED, it isn't due, if its instance is wanted
abbrev pub WaitsIfCrashed : Rows → Moment → Key → Actual → LrpState → Type 0
WaitsIfCrashed rows now key a lrp.Unclaimed = Unit {0}
WaitsIfCrashed rows now key a (lrp.Claimed instance cell) = Unit {0}
WaitsIfCrashed rows now key a (lrp.Running instance cell) = Unit {0}
WaitsIfCrashed rows now key a lrp.Crashed = told.wants rows key ≡ true → told.is_due a now ≡ false

-- a row of which nothing is asked
pub record IsAtRest (rows : Rows) (now : Moment) (key : Key) (a : Actual) : Type 0 where
  pub reason : MayStand rows now key a.domain
  pub stands : StandsIn rows now a.state
  pub waits : WaitsIfCrashed rows now key a a.state

module _ (rows : Rows) (now : Moment) (key : Key) where
  there-unless_lost : (b : Bool) (o : Op) (again : Option Op) → cond (not b) (Some o) again ≡ None → b ≡ true
  there-unless_lost true o again e = refl
  there-unless_lost false o again e = absurd cc

  -- what is asked of a row that isn't to be retired
  abbrev kept_work : Actual → LrpState → Option Op
  kept_work a s = cond (told.is_lost rows now s) (told.given_up (told.wants rows key) key s)
      (cond (told.wants rows key) (told.restart_if_due key a now s) None)

  stands-state : (a : Actual) (s : LrpState) → kept_work a s ≡ None → StandsIn rows now s
  stands-state a lrp.Unclaimed e = tt
  stands-state a (lrp.Claimed instance cell) e = there-unless_lost (told.is_there rows now cell instance.epoch)
      (op.Unclaim key instance) (cond (told.wants rows key) None None) e
  stands-state a (lrp.Running instance cell) e =
      there-unless_lost (told.is_there rows now cell instance.epoch)
      (cond (told.wants rows key) (op.Suspect key instance) (op.Unclaim key instance))
      (cond (told.wants rows key) None None) e
  stands-state a lrp.Crashed e = tt

  waits-due : (a : Actual) → told.restart_if_due key a now lrp.Crashed ≡ None → told.is_due a now ≡ false
  waits-due a e = elim (told.is_due a now) as (λ (b : Bool). told.asked_if b (op.Restart key) ≡ None → b ≡ false)
      [ true ↦ λ f. absurd cc | false ↦ λ f. refl ] e

  waits-state : (a : Actual) (s : LrpState) → kept_work a s ≡ None → WaitsIfCrashed rows now key a s
  waits-state a lrp.Unclaimed e = tt
  waits-state a (lrp.Claimed instance cell) e = tt
  waits-state a (lrp.Running instance cell) e = tt
  waits-state a lrp.Crashed e = λ wanted. waits-due a (ap
      (λ (b : Bool). cond b (told.restart_if_due key a now lrp.Crashed) None) (sym wanted) ∙ e)

  pub rests-row : (a : Actual) → told.ordinary_work rows now key (Some a) ≡ None → IsAtRest rows now key a
  rests-row a e =
      elim (told.is_retirable rows now key a) as (λ (b : Bool). told.is_retirable rows now key a ≡ b
      → cond b (Some (op.Remove key (holder_of a.state))) (kept_work a a.state) ≡ None → IsAtRest rows now key a) [
        | true ↦ λ is f. absurd cc
        | false ↦ λ is f. record {
          reason = may_stand rows now key a is;
          stands = stands-state a a.state f;
          waits =
              waits-state a a.state f;
        }
      ] refl e

  pub rests-none : told.ordinary_work rows now key None ≡ None → told.wants rows key ≡ false
  rests-none e = elim (told.wants rows key) as (λ (b : Bool). told.asked_if b (op.Make key) ≡ None → b ≡ false)
      [ true ↦ λ f. absurd cc | false ↦ λ f. refl ] e

  -- a row that rests and isn't RUNNING on a cell that is there isn't RUNNING
  idle-state : (s : LrpState) → StandsIn rows now s → told.runs_in rows now s ≡ false → told.is_running s ≡ false
  idle-state lrp.Unclaimed h e = refl
  idle-state (lrp.Claimed instance cell) h e = refl
  idle-state (lrp.Running instance cell) h e = sym h ∙ e
  idle-state lrp.Crashed h e = refl

  pub idle-row : (r : Option Actual) → told.ordinary_work rows now key r ≡ None → told.runs_there rows now r ≡ false
      → told.runs r ≡ false
  idle-row None e rests = refl
  idle-row (Some a) e rests = idle-state a.state (rests-row a e).stands rests

  -- what is known of a row that is suspected
  pub record IsSuspectedRow (r : Option Actual) : Type 0 where
    pub wanted : told.wants rows key ≡ true
    pub lost : told.runs_there rows now r ≡ false
    pub runs : told.runs r ≡ true

  given-suspects : (b : Bool) (s : LrpState) (instance : Instance)
      → told.given_up b key s ≡ Some (op.Suspect key instance) → (b ≡ true) × (told.is_running s ≡ true)
  given-suspects b lrp.Unclaimed instance e = absurd cc
  given-suspects b (lrp.Claimed held cell) instance e = absurd cc
  given-suspects true (lrp.Running held cell) instance e = (refl, refl)
  given-suspects false (lrp.Running held cell) instance e = absurd cc
  given-suspects b lrp.Crashed instance e = absurd cc

  again-suspects : (a : Actual) (s : LrpState) (instance : Instance)
      → told.restart_if_due key a now s ≡ Some (op.Suspect key instance) → ⊥
  again-suspects a lrp.Unclaimed instance e = absurd cc
  again-suspects a (lrp.Claimed held cell) instance e = absurd cc
  again-suspects a (lrp.Running held cell) instance e = absurd cc
  again-suspects a lrp.Crashed instance e = elim (told.is_due a now) as
      (λ (b : Bool). told.asked_if b (op.Restart key) ≡ Some (op.Suspect key instance) → ⊥)
      [ true ↦ λ f. absurd cc | false ↦ λ f. absurd cc ] e

  lost-runs : (s : LrpState) → told.is_lost rows now s ≡ true → told.runs_in rows now s ≡ false
  lost-runs lrp.Unclaimed e = absurd cc
  lost-runs (lrp.Claimed instance cell) e = refl
  lost-runs (lrp.Running instance cell) e = elim (told.is_there rows now cell instance.epoch) as
      (λ (b : Bool). not b ≡ true → b ≡ false) [ true ↦ λ f. absurd cc | false ↦ λ f. refl ] e
  lost-runs lrp.Crashed e = absurd cc

  -- an instance is suspected where it is wanted, and its row is RUNNING on a cell that isn't there
  pub suspected-row : (r : Option Actual) (instance : Instance)
      → told.ordinary_work rows now key r ≡ Some (op.Suspect key instance) → IsSuspectedRow r
  suspected-row None instance e =
      elim (told.wants rows key) as (λ (b : Bool). told.asked_if b (op.Make key) ≡ Some (op.Suspect key instance)
      → IsSuspectedRow None) [ true ↦ λ f. absurd cc | false ↦ λ f. absurd cc ] e
  suspected-row (Some a) instance e =
      elim (told.is_retirable rows now key a) as (λ (b : Bool).
      cond b (Some (op.Remove key (holder_of a.state))) (kept_work a a.state) ≡ Some (op.Suspect key instance)
      → IsSuspectedRow (Some a)) [
        | true ↦ λ f. absurd cc
        | false ↦ λ f. elim (told.is_lost rows now a.state) as (λ (b : Bool). told.is_lost rows now a.state ≡ b
            → cond b (told.given_up (told.wants rows key) key a.state)
            (cond (told.wants rows key) (told.restart_if_due key a now a.state) None)
            ≡ Some (op.Suspect key instance) → IsSuspectedRow (Some a)) [
              | true ↦ λ lost g. let p = given-suspects (told.wants rows key) a.state instance g in
                  record { wanted = p.0; lost = lost-runs a.state lost; runs = p.1 }
              | false ↦ λ lost g. absurd (elim (told.wants rows key) as
                  (λ (b : Bool). cond b (told.restart_if_due key a now a.state) None ≡ Some (op.Suspect key instance)
                  → ⊥) [
                    | true ↦ λ k. again-suspects a a.state instance k
                    | false ↦ λ k. absurd cc
                  ] g)
            ] refl f
      ] e

  -- then nothing is asked of its SUSPECT row
  pub suspect-rests : (instance : Instance) (q : Option Actual)
      → told.ordinary_work rows now key (find_actual rows key Ordinary) ≡ Some (op.Suspect key instance)
      → told.suspect_work rows now key q ≡ None
  suspect-rests instance None e = refl
  suspect-rests instance (Some a) e =
      let row = find_actual rows key Ordinary in
      let is = suspected-row (find_actual rows key Ordinary) instance e in
      let past : told.is_past rows now key a ≡ false =
      ap (λ (b : Bool). (not b || told.runs_there rows now row) ||
      (told.has_joined_anew rows a.state && not (told.runs row))) is.wanted
      ∙ ap (λ (b : Bool). b || (told.has_joined_anew rows a.state && not (told.runs row))) is.lost
      ∙ ap (λ (b : Bool). told.has_joined_anew rows a.state && not b) is.runs ∙ and_false
      (told.has_joined_anew rows a.state) in
      ap (λ (b : Bool). cond b (told.drop_suspect_of key a.state) None) past

-- the state of a row that is kept aside
pub running-holder : (s : LrpState) → IsRunning s → (instance : Instance) × (cell : List ℕ)
    × (s ≡ lrp.Running instance cell)
running-holder lrp.Unclaimed h = absurd h
running-holder (lrp.Claimed instance cell) h = absurd h
running-holder (lrp.Running instance cell) h = (instance, cell, refl)
running-holder lrp.Crashed h = absurd h

-- a row of valid rows suits its presence
pub suits-presence : (rows : Rows) (key : Key) (presence : Presence) (a : Actual) → IsValid rows
    → find_actual rows key presence ≡ Some a → SuitsPresence presence a
suits-presence rows key presence a valid is =
    let place : place_of a ≡ (key, presence) = key-find_row place_order place_of IsKeyOrder-place_order
    (key, presence) a rows.actual is in
    let fine : IsActualRow rows.next a = find_row-each place_order place_of (IsActualRow rows.next)
    (key, presence) a rows.actual valid.actual.each is in
    subst (λ (p : Key × Presence). SuitsPresence p.1 a) place fine.suits

module _ (rows : Rows) (now : Moment) (key : Key) where
  -- what an EVACUATING row that rests comes to
  pub unspent-row : (a : Actual) (instance : Instance) (cell : List ℕ) → a.state ≡ lrp.Running instance cell
      → told.evacuating_work rows now key (Some a) ≡ None → told.is_spent rows now key a ≡ false
  unspent-row a instance cell is e =
      elim (told.is_spent rows now key a) as (λ (b : Bool). cond b (told.drop_row_of key a.state) None ≡ None
      → b ≡ false) [
        | true ↦ λ f. let some : told.drop_row_of key a.state ≡ Some (op.DropEvacuating key instance) =
            ap (told.drop_row_of key) is in absurd cc
        | false ↦ λ f. refl
      ] e

  -- and a SUSPECT one
  pub unpast-row : (a : Actual) (instance : Instance) (cell : List ℕ) → a.state ≡ lrp.Running instance cell
      → told.suspect_work rows now key (Some a) ≡ None → told.is_past rows now key a ≡ false
  unpast-row a instance cell is e =
      elim (told.is_past rows now key a) as (λ (b : Bool). cond b (told.drop_suspect_of key a.state) None ≡ None
      → b ≡ false) [
        | true ↦ λ f. let some : told.drop_suspect_of key a.state ≡ Some (op.DropSuspect key instance) =
            ap (told.drop_suspect_of key) is in absurd cc
        | false ↦ λ f. refl
      ] e
