-- What claims of a round, accepted one after another and apart, do to the rows that they are about.
use Rattle.std.proofs.Common.{◌≡◌, ◌≢◌, ℕ, List, Option, Some, sym, ap, subst, ◌∙◌}
use Rattle.std.specs.List.{Contains}
use Rattle.crash_backoff.specs.declared.moment.Moment.{Moment}
use Rattle.diego_names.specs.declared.instance.Instance.{Instance}
use Rattle.diego_names.specs.declared.key.Key.{Key}
use Rattle.lrp_records.specs.declared.actual.Actual.{Actual}
use Rattle.lrp_records.specs.declared.presence.Presence.TheVariants.{Ordinary}
use Rattle.task_records.specs.declared.task.Task.{Task}
use Rattle.bbs_model.specs.Runs.{state_after, state_after_all}
use Rattle.bbs_model.specs.Step.{verdict_of}
use Rattle.bbs_model.specs.Tables.{find_actual, find_task}
use Rattle.bbs_model.specs.Work.{at}
use Rattle.bbs_model.specs.declared.command.Command.{Command}
use Rattle.bbs_model.specs.declared.command.Op.{Op}
use Rattle.bbs_model.specs.declared.command.Op.TheVariants as op
use Rattle.bbs_model.specs.declared.rows.Rows.{Rows}
use Rattle.convergence.specs.Subjects.{OfTask, subject_of, subject_in, ordinary_of}
use Rattle.converge_laws.specs.Accepted.{AreAccepted, AreApart, IsAccepted}
use Rattle.converge_laws.specs.Laws.{AreOfRound}
use Rattle.converge_laws.proofs.Frames.{stays-ordinary, stays-task}
use Rattle.converge_laws.proofs.MoveEnds.{IsNowClaimed, claimed}
use Rattle.converge_laws.proofs.Moves.{after-claim}
use Rattle.converge_laws.proofs.Runs.{run-took}
use Rattle.converge_laws.proofs.TaskMoves.{IsNowRunning, after-start, started}

module _ (rows : Rows) (now : Moment) (cs : List Command) (of_round : AreOfRound now cs) (apart : AreApart cs)
    (taken : AreAccepted rows cs) where
  abbrev new : Rows
  new = state_after_all rows cs

  -- the command is the claim at that moment
  command_is : (c : Command) (o : Op) → Contains cs c → c.op ≡ o → c ≡ at now o
  command_is c o inside is = λ i. record { now = of_round.moments c inside i; op = is i }

  -- the row of a claim of an instance
  pub row-taken : (key : Key) (c : Command) (instance : Instance) (cell : List ℕ) → Contains cs c
      → c.op ≡ op.Claim key instance cell
      → (old : Actual) × (find_actual rows key Ordinary ≡ Some old)
      × IsNowClaimed old instance cell (find_actual new key Ordinary)
  row-taken key c instance cell inside claims =
      run-took (λ (r : Rows). find_actual r key Ordinary) (λ (d : Command). subject_in d ≢ ordinary_of key)
      (λ r d h other. stays-ordinary r d h key other)
      (λ (r : Option Actual). (old : Actual) × (find_actual rows key Ordinary ≡ Some old)
      × IsNowClaimed old instance cell r) c rows cs of_round.ops apart taken inside
      (λ d in_d other same. other (same ∙ sym (ap subject_of claims)))
      (λ start same h.
      let command : c ≡ at now (op.Claim key instance cell) =
      command_is c (op.Claim key instance cell) inside claims in
      let accepted : IsAccepted (verdict_of start (at now (op.Claim key instance cell))) =
      subst (λ (d : Command). IsAccepted (verdict_of start d)) command h in
      let m = after-claim start now key instance cell accepted in (
        m.old,
        sym same ∙ m.found,
        subst (λ (d : Command). IsNowClaimed m.old instance cell (find_actual (state_after start d) key Ordinary))
            (sym command)
            (subst (IsNowClaimed m.old instance cell) (sym m.after) (claimed m.old now instance cell m.taken)),
      ))

  -- and a task that is started
  pub task-taken : (name : List ℕ) (c : Command) (instance : Instance) (cell : List ℕ) → Contains cs c
      → c.op ≡ op.StartTask name instance cell
      → (old : Task) × (find_task rows name ≡ Some old) × IsNowRunning old instance cell (find_task new name)
  task-taken name c instance cell inside claims =
      run-took (λ (r : Rows). find_task r name) (λ (d : Command). subject_in d ≢ OfTask name)
      (λ r d h other. stays-task r d h name other)
      (λ (r : Option Task). (old : Task) × (find_task rows name ≡ Some old) × IsNowRunning old instance cell r) c rows
      cs of_round.ops apart taken inside
      (λ d in_d other same. other (same ∙ sym (ap subject_of claims)))
      (λ start same h.
      let command : c ≡ at now (op.StartTask name instance cell) =
      command_is c (op.StartTask name instance cell) inside claims in
      let accepted : IsAccepted (verdict_of start (at now (op.StartTask name instance cell))) =
      subst (λ (d : Command). IsAccepted (verdict_of start d)) command h in
      let m = after-start start now name instance cell accepted in (
        m.old,
        sym same ∙ m.found,
        subst (λ (d : Command). IsNowRunning m.old instance cell (find_task (state_after start d) name)) (sym command)
            (subst (IsNowRunning m.old instance cell) (sym m.after) (started m.old now instance cell m.taken)),
      ))
