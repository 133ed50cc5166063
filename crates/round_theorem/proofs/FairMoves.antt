-- What a round asks of a row is refused for nothing but want of room, while the row is as it was.
use Rattle.std.proofs.Common.{◌≡◌, ◌⊎◌, ℕ, ◌+◌, ◌-◌, Bool, true, false, cond, not, ◌&&◌, ◌==◌, ◌++◌, nat_lt, nat_le, is_some, is_none, List, Option, Some, None, refl, sym, ap, subst, ◌∙◌, arith, inl, inr}
use Rattle.std.specs.Option.{option_map_or, option_and_then}
use Rattle.cell_records.specs.Presence.{is_present}
use Rattle.cell_records.specs.declared.cell_row.CellRow.{CellRow}
use Rattle.crash_backoff.specs.Backoff.{due_from}
use Rattle.crash_backoff.specs.declared.moment.Moment.{Moment}
use Rattle.diego_names.specs.declared.instance.Instance.{Instance}
use Rattle.diego_names.specs.declared.key.Key.{Key}
use Rattle.lrp_records.specs.Moves.{lrp_move, from_state}
use Rattle.lrp_records.specs.States.{holder_of, cell_of, is_same_instance}
use Rattle.lrp_records.specs.Steps.{turned, crashed, restarted_from}
use Rattle.lrp_records.specs.declared.actual.Actual.{Actual}
use Rattle.lrp_records.specs.declared.lrp_move.LrpMove.{LrpMove}
use Rattle.lrp_records.specs.declared.lrp_move.LrpMove.TheVariants as move
use Rattle.lrp_records.specs.declared.move_end.MoveEnd.{MoveEnd}
use Rattle.lrp_records.specs.declared.move_end.MoveEnd.TheVariants as end
use Rattle.lrp_records.specs.declared.presence.Presence.TheVariants.{Ordinary, Evacuating, Suspect}
use Rattle.lrp_records.specs.declared.refusal.LrpRefusal.{LrpRefusal}
use Rattle.lrp_records.specs.declared.refusal.LrpRefusal.TheVariants.{NotDue, WrongInstance}
use Rattle.lrp_records.specs.declared.state.LrpState.{LrpState}
use Rattle.lrp_records.specs.declared.state.LrpState.TheVariants as lrp
use Rattle.task_records.specs.Moves.{task_move, task_from_state}
use Rattle.task_records.specs.Steps.{task_turned}
use Rattle.task_records.specs.declared.state.TaskState.{TaskState}
use Rattle.task_records.specs.declared.state.TaskState.TheVariants as state
use Rattle.task_records.specs.declared.task.Task.{Task}
use Rattle.task_records.specs.declared.move_end.TaskEnd.TheVariants as task_end
use Rattle.task_records.specs.declared.refusal.TaskRefusal.TheVariants as task_why
use Rattle.task_records.specs.declared.move_kind.TaskMove.{TaskMove}
use Rattle.task_records.specs.declared.move_kind.TaskMove.TheVariants as task
use Rattle.bbs_model.specs.Attempts.{Refusals, unless_refused, if_known, put, drop_row}
use Rattle.bbs_model.specs.Cells.{vanish}
use Rattle.bbs_model.specs.Domains.{holds_at, told_end}
use Rattle.bbs_model.specs.Found.{found_by}
use Rattle.bbs_model.specs.Limits.{most_actual}
use Rattle.bbs_model.specs.Lrps.{moved_to, is_running_as, runs_as, stays_because, new_row, domain_of, lease_refusals, aside_refusals, set_aside}
use Rattle.bbs_model.specs.Step.{attempt_at}
use Rattle.bbs_model.specs.Tables.{find_actual, find_cell, find_domain, find_task}
use Rattle.bbs_model.specs.Tasks.{task_moved_to}
use Rattle.bbs_model.specs.Work.{wants, is_there, is_due}
use Rattle.bbs_model.specs.declared.attempt.Attempt.{Attempt}
use Rattle.bbs_model.specs.declared.attempt.Attempt.TheVariants.{Refuse, Keep, Change}
use Rattle.bbs_model.specs.declared.command.Op.{Op}
use Rattle.bbs_model.specs.declared.command.Op.TheVariants as op
use Rattle.bbs_model.specs.declared.domain_row.DomainRow.{DomainRow}
use Rattle.bbs_model.specs.declared.event.Row.TheVariants as row
use Rattle.bbs_model.specs.declared.rows.Rows.{Rows}
use Rattle.bbs_model.specs.declared.verdict.BoardRefusal.TheVariants as why
use Rattle.converge_laws.proofs.Public.{instance_itself}
use Rattle.round_theorem.specs.Lacks.{IsLack}

-- an attempt is refused for want of room at most
abbrev pub IsFair : Attempt → Type 0
IsFair (Refuse because) = IsLack because
IsFair Keep = Unit {0}
IsFair (Change first second) = Unit {0}

-- so is what is asked of these rows, if anything is
abbrev pub FairIf : Rows → Moment → Option Op → Type 0
FairIf rows now None = Unit {0}
FairIf rows now (Some o) = IsFair (attempt_at (found_by rows o) now o)

pub fair_either : (rows : Rows) (now : Moment) (b : Bool) (x y : Option Op) → FairIf rows now x → FairIf rows now y
    → FairIf rows now (cond b x y)
fair_either rows now true x y f g = f
fair_either rows now false x y f g = g

-- a move on a row that is found
pub fair_known : (find : Option Actual) (a : Actual) (m : LrpMove) (now : Moment) → find ≡ Some a
    → IsFair (moved_to a (from_state a.state a m now))
    → IsFair (if_known find (λ old. moved_to old (lrp_move old m now)))
fair_known find a m now is h = subst (λ (o : Option Actual).
    IsFair (if_known o (λ old. moved_to old (lrp_move old m now)))) (sym is) h

own_end : (a : Actual) (i : Instance) (e : MoveEnd) (because : LrpRefusal) → IsFair (moved_to a e)
    → IsFair (moved_to a (cond (is_same_instance i i) e (end.Refused because)))
own_end a i e because h = subst (λ (b : Bool). IsFair (moved_to a (cond b e (end.Refused because))))
    (sym (instance_itself i)) h

fair_remove : (a : Actual) (s : LrpState) (now : Moment)
    → IsFair (moved_to a (from_state s a (move.Remove (holder_of s)) now))
fair_remove a lrp.Unclaimed now = tt
fair_remove a (lrp.Claimed i cell) now = own_end a i end.Gone (WrongInstance i) tt
fair_remove a (lrp.Running i cell) now = own_end a i end.Gone (WrongInstance i) tt
fair_remove a lrp.Crashed now = tt

fair_restarted : (a : Actual) (now : Moment) (o : Option ℕ) → option_map_or (λ (at : ℕ). nat_le at now.0) o false ≡ true
    → IsFair (moved_to a (restarted_from o a now))
fair_restarted a now None e = absurd cc
fair_restarted a now (Some at) e = subst (λ (b : Bool).
    IsFair (moved_to a (cond b (turned a lrp.Unclaimed now) (end.Refused (NotDue at))))) (sym e) tt

module _ (rows : Rows) (now : Moment) (key : Key) (a : Actual) (is : find_actual rows key Ordinary ≡ Some a) where
  pub removes : FairIf rows now (Some (op.Remove key (holder_of a.state)))
  removes = fair_known (find_actual rows key Ordinary) a (move.Remove (holder_of a.state)) now is
      (fair_remove a a.state now)

  module _ (i : Instance) (cell : List ℕ) where
    pub unclaims : (a.state ≡ lrp.Claimed i cell) ⊎ (a.state ≡ lrp.Running i cell)
        → FairIf rows now (Some (op.Unclaim key i))
    unclaims (inl e) = fair_known (find_actual rows key Ordinary) a (move.Unclaim i) now is
        (subst (λ (s : LrpState). IsFair (moved_to a (from_state s a (move.Unclaim i) now))) (sym e)
        (own_end a i (turned a lrp.Unclaimed now) (WrongInstance i) tt))
    unclaims (inr e) = fair_known (find_actual rows key Ordinary) a (move.Unclaim i) now is
        (subst (λ (s : LrpState). IsFair (moved_to a (from_state s a (move.Unclaim i) now))) (sym e)
        (own_end a i (turned a lrp.Unclaimed now) (WrongInstance i) tt))

    pub crashes : (a.state ≡ lrp.Claimed i cell) ⊎ (a.state ≡ lrp.Running i cell)
        → FairIf rows now (Some (op.Crash key i))
    crashes (inl e) = fair_known (find_actual rows key Ordinary) a (move.Crash i) now is
        (subst (λ (s : LrpState). IsFair (moved_to a (from_state s a (move.Crash i) now))) (sym e)
        (own_end a i (crashed a None now) (WrongInstance i) tt))
    crashes (inr e) = fair_known (find_actual rows key Ordinary) a (move.Crash i) now is
        (subst (λ (s : LrpState). IsFair (moved_to a (from_state s a (move.Crash i) now))) (sym e)
        (own_end a i (crashed a (Some (now.0 - a.since.0)) now) (WrongInstance i) tt))

  pub restarts : a.state ≡ lrp.Crashed → is_due a now ≡ true → FairIf rows now (Some (op.Restart key))
  restarts e due = fair_known (find_actual rows key Ordinary) a move.Restart now is
      (subst (λ (s : LrpState). IsFair (moved_to a (from_state s a move.Restart now))) (sym e)
      (fair_restarted a now (due_from a.since a.count) due))

-- a wanted instance without a row
made_if : (key : Key) (now : Moment) (x : Attempt) (a b c : Bool) → a ≡ true → b ≡ false → IsFair x
    → IsFair (cond (not a) (Refuse why.NotWanted) (cond b (Refuse why.Exists)
    (cond c (Refuse (why.TooMany most_actual)) x)))
made_if key now x true true c e f h = absurd cc
made_if key now x true false true e f h = inr refl
made_if key now x true false false e f h = h
made_if key now x false b c e f h = absurd cc

pub makes : (rows : Rows) (now : Moment) (key : Key) → wants rows key ≡ true → find_actual rows key Ordinary ≡ None
    → FairIf rows now (Some (op.Make key))
makes rows now key wanted none =
    made_if key now (put (row.Actual (new_row key (domain_of (found_by rows (op.Make key)).desired) now)))
    (wants rows key) (is_some (find_actual rows key Ordinary))
    (nat_le most_actual (found_by rows (op.Make key)).counts.actual) wanted
    (ap (λ (o : Option Actual). is_some o) none) tt

-- an EVACUATING row that runs
pub drops : (rows : Rows) (now : Moment) (key : Key) (a : Actual) (i : Instance) (cell : List ℕ)
    → find_actual rows key Evacuating ≡ Some a → a.state ≡ lrp.Running i cell
    → FairIf rows now (Some (op.DropEvacuating key i))
drops rows now key a i cell is e =
    subst (λ (o : Option Actual). IsFair (if_known o (λ old.
    cond (is_running_as old.state i) (drop_row (row.Actual old)) (Refuse (stays_because old.state i))))) (sym is)
    (subst (λ (b : Bool). IsFair (cond b (drop_row (row.Actual a)) (Refuse (stays_because a.state i))))
    (sym (ap (λ (s : LrpState). is_running_as s i) e ∙ instance_itself i)) tt)

-- a SUSPECT row, which runs too
pub drops_suspect : (rows : Rows) (now : Moment) (key : Key) (a : Actual) (i : Instance) (cell : List ℕ)
    → find_actual rows key Suspect ≡ Some a → a.state ≡ lrp.Running i cell
    → FairIf rows now (Some (op.DropSuspect key i))
drops_suspect rows now key a i cell is e =
    subst (λ (o : Option Actual). IsFair (if_known o (λ old.
    cond (is_running_as old.state i) (drop_row (row.Actual old)) (Refuse (stays_because old.state i))))) (sym is)
    (subst (λ (b : Bool). IsFair (cond b (drop_row (row.Actual a)) (Refuse (stays_because a.state i))))
    (sym (ap (λ (s : LrpState). is_running_as s i) e ∙ instance_itself i)) tt)

-- the lease of a cell that isn't there is no cause to refuse
no_lease : (c : Option CellRow) (epoch : ℕ) (now : Moment) (rest : Refusals) (x : Attempt)
    → option_map_or (λ (r : CellRow). r.epoch == epoch && is_present r now) c false ≡ false
    → IsFair (unless_refused rest x) → IsFair (unless_refused (lease_refusals c epoch now ++ rest) x)
no_lease None epoch now rest x gone h = h
no_lease (Some c) epoch now rest x gone h = subst (λ (b : Bool).
    IsFair (cond b (Refuse (why.LeaseHolds c.until)) (unless_refused rest x))) (sym gone) h

room_aside : (b : Bool) (x : Attempt) → IsFair x → IsFair (cond b (Refuse (why.TooMany most_actual)) x)
room_aside true x h = inr refl
room_aside false x h = h

kept_or : (b : Bool) (x : Attempt) → IsFair x → IsFair (cond b Keep x)
kept_or true x h = tt
kept_or false x h = h

-- an instance that runs on a cell that isn't there
pub suspects : (rows : Rows) (now : Moment) (key : Key) (a : Actual) (i : Instance) (cell : List ℕ)
    → find_actual rows key Ordinary ≡ Some a → a.state ≡ lrp.Running i cell
    → is_there rows now cell i.epoch ≡ false → FairIf rows now (Some (op.Suspect key i))
suspects rows now key a i cell is e gone =
    let f = found_by rows (op.Suspect key i) in
    let aside : Refusals = aside_refusals f.suspect f in
    let refusals = λ (c : Option (List ℕ)). lease_refusals (option_and_then (find_cell rows) c) i.epoch now ++ aside in
    let step = λ (c : Option (List ℕ)) (old : Actual). cond (is_running_as old.state i)
    (unless_refused (refusals c) (set_aside Suspect old now)) (Refuse (stays_because old.state i)) in
    let set : IsFair (unless_refused (refusals (Some cell)) (set_aside Suspect a now)) =
    no_lease (find_cell rows cell) i.epoch now aside (set_aside Suspect a now) gone
    (room_aside (is_none f.suspect && nat_le most_actual f.counts.actual) (set_aside Suspect a now) tt) in
    let runs : is_running_as a.state i ≡ true = ap (λ (s : LrpState). is_running_as s i) e ∙ instance_itself i in
    let on_cell : IsFair (step (cell_of a.state) a) =
    subst (λ (c : Option (List ℕ)). IsFair (step c a)) (sym (ap cell_of e))
    (subst (λ (b : Bool). IsFair (cond b (unless_refused (refusals (Some cell)) (set_aside Suspect a now))
    (Refuse (stays_because a.state i)))) (sym runs) set) in
    let found : IsFair (if_known (find_actual rows key Ordinary)
    (step (option_and_then (λ (x : Actual). cell_of x.state) (find_actual rows key Ordinary)))) =
    subst (λ (o : Option Actual). IsFair (if_known o (step (option_and_then (λ (x : Actual). cell_of x.state) o))))
    (sym is) on_cell in
    kept_or (runs_as f.suspect i && not (runs_as f.ordinary i))
    (if_known (find_actual rows key Ordinary) (step (option_and_then (λ (x : Actual). cell_of x.state)
    (find_actual rows key Ordinary)))) found

-- a task that is found
known_task : (find : Option Task) (t : Task) (m : TaskMove) (now : Moment) → find ≡ Some t
    → IsFair (task_moved_to t (task_from_state t.state t m now))
    → IsFair (if_known find (λ old. task_moved_to old (task_move old m now)))
known_task find t m now is h = subst (λ (o : Option Task).
    IsFair (if_known o (λ old. task_moved_to old (task_move old m now)))) (sym is) h

module _ (rows : Rows) (now : Moment) (n : List ℕ) (t : Task) (is : find_task rows n ≡ Some t) where
  pub cancels : (s : TaskState) → t.state ≡ s → (s ≡ state.Pending)
      ⊎ ((i : Instance) × (cell : List ℕ) × (s ≡ state.Running i cell)) → FairIf rows now (Some (op.CancelTask n))
  cancels s e (inl p) = known_task (find_task rows n) t task.Cancel now is
      (subst (λ (x : TaskState). IsFair (task_moved_to t (task_from_state x t task.Cancel now))) (sym (e ∙ p)) tt)
  cancels s e (inr p) = known_task (find_task rows n) t task.Cancel now is
      (subst (λ (x : TaskState). IsFair (task_moved_to t (task_from_state x t task.Cancel now))) (sym (e ∙ p.2)) tt)

  pub expires : (failed : Bool) → t.state ≡ state.Completed failed → nat_le (t.since.0 + 120) now.0 ≡ true
      → FairIf rows now (Some (op.ExpireTask n))
  expires failed e due = known_task (find_task rows n) t task.Expire now is
      (subst (λ (x : TaskState). IsFair (task_moved_to t (task_from_state x t task.Expire now))) (sym e)
      (subst (λ (b : Bool). IsFair (task_moved_to t (cond b task_end.Gone
      (task_end.Refused (task_why.NotDue (t.since.0 + 120)))))) (sym due) tt))

  pub kicks : (failed : Bool) → t.state ≡ state.Resolving failed → nat_le (t.since.0 + 30) now.0 ≡ true
      → FairIf rows now (Some (op.KickTask n))
  kicks failed e due = known_task (find_task rows n) t task.Kick now is
      (subst (λ (x : TaskState). IsFair (task_moved_to t (task_from_state x t task.Kick now))) (sym e)
      (subst (λ (b : Bool). IsFair (task_moved_to t (cond b (task_turned t (state.Completed failed) now)
      (task_end.Refused (task_why.NotDue (t.since.0 + 30)))))) (sym due) tt))

  pub completes : (i : Instance) (cell : List ℕ) (failed : Bool) → t.state ≡ state.Running i cell
      → FairIf rows now (Some (op.CompleteTask n i failed))
  completes i cell failed e = known_task (find_task rows n) t (task.Complete i failed) now is
      (subst (λ (x : TaskState). IsFair (task_moved_to t (task_from_state x t (task.Complete i failed) now))) (sym e)
      (subst (λ (b : Bool). IsFair (task_moved_to t (cond b (task_turned t (state.Completed failed) now)
      (task_end.Refused (task_why.WrongInstance i))))) (sym (instance_itself i)) tt))

-- a cell whose lease has ended
ended_lease : (until at : ℕ) → nat_le until at ≡ true → nat_lt at until ≡ false
ended_lease until at e = grind arith

pub vanishes : (rows : Rows) (now : Moment) (c : CellRow) (n : List ℕ) → find_cell rows n ≡ Some c
    → nat_le c.until now.0 ≡ true → FairIf rows now (Some (op.Vanish n))
vanishes rows now c n is ended =
    subst (λ (o : Option CellRow). IsFair (vanish o now)) (sym is)
    (subst (λ (b : Bool). IsFair (cond b (Refuse (why.LeaseHolds c.until)) (drop_row (row.Cell c))))
    (sym (ended_lease c.until now.0 ended)) tt)

-- a domain whose time has ended
pub forgets : (rows : Rows) (now : Moment) (d : DomainRow) (n : List ℕ) (until : ℕ) → find_domain rows n ≡ Some d
    → d.until ≡ Some until → nat_le until now.0 ≡ true
    → FairIf rows now (Some (op.Forget n))
forgets rows now d n until is ends ended =
    let stale : holds_at d now ≡ false = ap (λ (u : Option ℕ). option_map_or (λ (at : ℕ). nat_lt now.0 at) u true) ends
    ∙ ended_lease until now.0 ended in
    subst (λ (o : Option DomainRow). IsFair (if_known o (λ old.
    cond (holds_at old now) (Refuse (why.LeaseHolds (told_end old.until))) (drop_row (row.Domain old))))) (sym is)
    (subst (λ (b : Bool). IsFair (cond b (Refuse (why.LeaseHolds (told_end d.until))) (drop_row (row.Domain d))))
    (sym stale) tt)
