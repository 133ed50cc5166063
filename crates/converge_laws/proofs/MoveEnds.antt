-- What the end of an accepted move is, by the move.
use Rattle.std.proofs.Common.{◌≡◌, ◌⊎◌, ℕ, ◌+◌, ◌*◌, ◌^◌, ◌-◌, ◌<◌, Bool, true, false, cond, List, Option, Some, None, nat_le, refl, ap, ◌∙◌, inl, inr, arith}
use Rattle.std.proofs.lemmas.Bool.Decides.{nat_tests}
use Rattle.std.proofs.lemmas.Nat.{pow_pos}
use Rattle.std.specs.Option.{option_map_or}
use Rattle.crash_backoff.specs.Backoff.{due_from, end_of, wait_of, count_after}
use Rattle.crash_backoff.specs.declared.delay.Wait.{Wait}
use Rattle.crash_backoff.specs.declared.delay.Wait.TheVariants.{Now, After, Never}
use Rattle.crash_backoff.specs.declared.moment.Moment.{Moment}
use Rattle.diego_names.specs.declared.instance.Instance.{Instance}
use Rattle.lrp_records.specs.Moves.{lrp_move, from_state}
use Rattle.lrp_records.specs.States.{holder_of, is_same_instance}
use Rattle.lrp_records.specs.Steps.{restarted_from, state_after_crash, crashed, turned, wrong_state, if_own}
use Rattle.lrp_records.specs.declared.actual.Actual.{Actual}
use Rattle.lrp_records.specs.declared.lrp_move.LrpMove.TheVariants as lrp
use Rattle.lrp_records.specs.declared.move_end.MoveEnd.{MoveEnd}
use Rattle.lrp_records.specs.declared.move_end.MoveEnd.TheVariants as end
use Rattle.lrp_records.specs.declared.refusal.LrpRefusal.{LrpRefusal}
use Rattle.lrp_records.specs.declared.refusal.LrpRefusal.TheVariants as why
use Rattle.lrp_records.specs.declared.state.LrpState.{LrpState}
use Rattle.lrp_records.specs.declared.state.LrpState.TheVariants as state
use Rattle.bbs_model.specs.Work.{at, is_due}
use Rattle.converge_laws.proofs.Moves.{left_by, IsTaken}

-- the row is there, and UNCLAIMED
abbrev pub IsUnclaimed : Option Actual → Type 0
IsUnclaimed row = (a : Actual) × (row ≡ Some a) × (a.state ≡ state.Unclaimed)

own-or : (instance held : Instance) (e : MoveEnd) (refusal : LrpRefusal) (Q : MoveEnd → Type 0) → (IsTaken e → Q e)
    → IsTaken (if_own instance held e refusal) → Q (if_own instance held e refusal)
own-or instance held e refusal Q f h =
    elim (is_same_instance instance held) as (λ (b : Bool). IsTaken (cond b e (end.Refused refusal))
    → Q (cond b e (end.Refused refusal))) [ true ↦ f | false ↦ λ g. absurd g ] h

module _ (old : Actual) (now : Moment) where
  removed-state : (s : LrpState) → IsTaken (from_state s old (lrp.Remove (holder_of s)) now)
      → left_by old (from_state s old (lrp.Remove (holder_of s)) now) ≡ None
  removed-state state.Unclaimed h = refl
  removed-state (state.Claimed instance cell) h = own-or instance instance end.Gone (why.WrongInstance instance)
      (λ e. left_by old e ≡ None) (λ f. refl) h
  removed-state (state.Running instance cell) h = own-or instance instance end.Gone (why.WrongInstance instance)
      (λ e. left_by old e ≡ None) (λ f. refl) h
  removed-state state.Crashed h = refl

  -- a removal that is accepted leaves no row
  pub removed : IsTaken (lrp_move old (lrp.Remove (holder_of old.state)) now)
      → left_by old (lrp_move old (lrp.Remove (holder_of old.state)) now) ≡ None
  removed h = removed-state old.state h

  unclaimed-row : IsUnclaimed (left_by old (turned old state.Unclaimed now))
  unclaimed-row = (record old { state = state.Unclaimed; since = now }, refl, refl)

  unclaimed-state : (instance : Instance) (s : LrpState) → IsTaken (from_state s old (lrp.Unclaim instance) now)
      → IsUnclaimed (left_by old (from_state s old (lrp.Unclaim instance) now))
  unclaimed-state instance state.Unclaimed h = absurd h
  unclaimed-state instance (state.Claimed held cell) h =
      own-or instance held (turned old state.Unclaimed now) (why.WrongInstance held) (λ e. IsUnclaimed (left_by old e))
      (λ f. unclaimed-row) h
  unclaimed-state instance (state.Running held cell) h =
      own-or instance held (turned old state.Unclaimed now) (why.WrongInstance held) (λ e. IsUnclaimed (left_by old e))
      (λ f. unclaimed-row) h
  unclaimed-state instance state.Crashed h = absurd h

  -- an unclaim that is accepted leaves an UNCLAIMED row
  pub unclaimed : (instance : Instance) → IsTaken (lrp_move old (lrp.Unclaim instance) now)
      → IsUnclaimed (left_by old (lrp_move old (lrp.Unclaim instance) now))
  unclaimed instance h = unclaimed-state instance old.state h

  restarted-due : (due : Option ℕ) → IsTaken (restarted_from due old now)
      → IsUnclaimed (left_by old (restarted_from due old now))
  restarted-due None h = absurd h
  restarted-due (Some at) h =
      elim (nat_le at now.0) as (λ (b : Bool). IsTaken (cond b (turned old state.Unclaimed now)
      (end.Refused (why.NotDue at))) → IsUnclaimed (left_by old
      (cond b (turned old state.Unclaimed now) (end.Refused (why.NotDue at))))) [
        | true ↦ λ f. unclaimed-row
        | false ↦ λ f. absurd f
      ] h

  restarted-state : (s : LrpState) → IsTaken (from_state s old lrp.Restart now)
      → IsUnclaimed (left_by old (from_state s old lrp.Restart now))
  restarted-state state.Unclaimed h = absurd h
  restarted-state (state.Claimed held cell) h = absurd h
  restarted-state (state.Running held cell) h = absurd h
  restarted-state state.Crashed h = restarted-due (due_from old.since old.count) h

  -- so does a restart
  pub restarted : IsTaken (lrp_move old lrp.Restart now) → IsUnclaimed (left_by old (lrp_move old lrp.Restart now))
  restarted h = restarted-state old.state h

-- a row that crashed just now isn't due where it has to wait
pub late : (now wait : ℕ) → 0 < wait → nat_le (now + wait) now ≡ false
late now wait h = grind (arith, nat_tests)

power-positive : (n : ℕ) → 0 < 30 * 2 ^ n
power-positive n = let p : 0 < 2 ^ n = pow_pos n in omega arith

not_due-yet : (count : ℕ) (now : Moment) → nat_le count 3 ≡ false
    → option_map_or (λ (at : ℕ). nat_le at now.0) (due_from now count) false ≡ false
not_due-yet count now past =
    let waits : wait_of count ≡ cond (nat_le count 9) (After (30 * 2 ^ (count - 4)))
    (cond (nat_le count 200) (After 960) Never) =
    ap (λ (b : Bool). cond b Now (cond (nat_le count 9) (After (30 * 2 ^ (count - 4)))
    (cond (nat_le count 200) (After 960) Never))) past in
    ap (λ (w : Wait). option_map_or (λ (at : ℕ). nat_le at now.0) (end_of now w) false) waits
    ∙ elim (nat_le count 9) as (λ (b : Bool). option_map_or (λ (at : ℕ). nat_le at now.0)
    (end_of now (cond b (After (30 * 2 ^ (count - 4))) (cond (nat_le count 200) (After 960) Never))) false ≡ false) [
      | true ↦ late now.0 (30 * 2 ^ (count - 4)) (power-positive (count - 4))
      | false ↦ elim (nat_le count 200) as (λ (b : Bool). option_map_or (λ (at : ℕ). nat_le at now.0)
          (end_of now (cond b (After 960) Never)) false ≡ false) [
            | true ↦ late now.0 960 (omega arith)
            | false ↦ refl
          ]
    ]

-- the row is there, and UNCLAIMED, or CRASHED and not due
abbrev pub IsToWait : Moment → Option Actual → Type 0
IsToWait now row = (a : Actual) × (row ≡ Some a) × ((a.state ≡ state.Unclaimed)
    ⊎ ((a.state ≡ state.Crashed) × (is_due a now ≡ false)))

module _ (old : Actual) (now : Moment) where
  crashed-row : (ran : Option ℕ) → IsToWait now (left_by old (crashed old ran now))
  crashed-row ran =
      let count = count_after old.count ran in
      let new : Actual = record old {
        state = state_after_crash (count_after old.count ran);
        count =
            count_after old.count ran;
        since = now;
      } in (
        new,
        refl,
        elim (nat_le (count_after old.count ran) 3) as (λ (b : Bool). nat_le (count_after old.count ran) 3 ≡ b
            → (cond b state.Unclaimed state.Crashed ≡ state.Unclaimed)
            ⊎ ((cond b state.Unclaimed state.Crashed ≡ state.Crashed) × (is_due new now ≡ false))) [
              | true ↦ λ e. inl refl
              | false ↦ λ e. inr (refl, not_due-yet (count_after old.count ran) now e)
            ] refl,
      )

  crashed-state : (instance : Instance) (s : LrpState) → IsTaken (from_state s old (lrp.Crash instance) now)
      → IsToWait now (left_by old (from_state s old (lrp.Crash instance) now))
  crashed-state instance state.Unclaimed h = absurd h
  crashed-state instance (state.Claimed held cell) h =
      own-or instance held (crashed old None now) (why.WrongInstance held) (λ e. IsToWait now (left_by old e))
      (λ f. crashed-row None) h
  crashed-state instance (state.Running held cell) h =
      own-or instance held (crashed old (Some (now.0 - old.since.0)) now) (why.WrongInstance held)
      (λ e. IsToWait now (left_by old e)) (λ f. crashed-row (Some (now.0 - old.since.0))) h
  crashed-state instance state.Crashed h = absurd h

  -- a crash that is accepted leaves a row that waits
  pub has-crashed : (instance : Instance) → IsTaken (lrp_move old (lrp.Crash instance) now)
      → IsToWait now (left_by old (lrp_move old (lrp.Crash instance) now))
  has-crashed instance h = crashed-state instance old.state h

-- a claimed row: UNCLAIMED before, or held by that container already
pub record IsNowClaimed (old : Actual) (instance : Instance) (cell : List ℕ) (row : Option Actual) : Type 0 where
  pub new : Actual
  pub is : row ≡ Some new
  pub how : ((old.state ≡ state.Unclaimed) × (new.state ≡ state.Claimed instance cell) × (new.key ≡ old.key)
      × (new.domain ≡ old.domain))
      ⊎ ((new ≡ old) × (held : Instance) × (where' : List ℕ) × (old.state ≡ state.Claimed held where')
      × (is_same_instance instance held ≡ true))

module _ (old : Actual) (now : Moment) (instance : Instance) (cell : List ℕ) where
  claimed-own : (held : Instance) (where' : List ℕ) → old.state ≡ state.Claimed held where'
      → IsTaken (if_own instance held end.Same (why.Held held))
      → IsNowClaimed old instance cell (left_by old (if_own instance held end.Same (why.Held held)))
  claimed-own held where' is h =
      elim (is_same_instance instance held) as (λ (b : Bool). is_same_instance instance held ≡ b
      → IsTaken (cond b end.Same (end.Refused (why.Held held)))
      → IsNowClaimed old instance cell (left_by old (cond b end.Same (end.Refused (why.Held held))))) [
        | true ↦ λ e f. record { new = old; is = refl; how = inr (refl, held, where', is, e) }
        | false ↦ λ e f. absurd f
      ] refl h

  claimed-other : (held : Instance) → IsTaken (if_own instance held (wrong_state old) (why.Held held)) → ⊥
  claimed-other held h = elim (is_same_instance instance held) as
      (λ (b : Bool). IsTaken (cond b (wrong_state old) (end.Refused (why.Held held))) → ⊥)
      [ true ↦ λ f. f | false ↦ λ f. f ] h

  claimed-state : (s : LrpState) → old.state ≡ s → IsTaken (from_state s old (lrp.Claim instance cell) now)
      → IsNowClaimed old instance cell (left_by old (from_state s old (lrp.Claim instance cell) now))
  claimed-state state.Unclaimed is h = record {
    new = record old { state = state.Claimed instance cell; since = now; error = false };
    is = refl;
    how = inl (is, refl, refl, refl);
  }
  claimed-state (state.Claimed held where') is h = claimed-own held where' is h
  claimed-state (state.Running held where') is h = absurd (claimed-other held h)
  claimed-state state.Crashed is h = absurd h

  -- a claim that is accepted leaves the row with its container, or had done so before
  pub claimed : IsTaken (lrp_move old (lrp.Claim instance cell) now)
      → IsNowClaimed old instance cell (left_by old (lrp_move old (lrp.Claim instance cell) now))
  claimed h = claimed-state old.state refl h
