-- What the commands of a round leave of a row: nothing changes it where they aren't about it.
use Rattle.std.proofs.Common.{◌≡◌, ◌≢◌, List, Some, None, refl, sym, subst, ◌∙◌}
use Rattle.std.specs.List.{Contains}
use Rattle.bbs_model.specs.Runs.{state_after}
use Rattle.bbs_model.specs.Step.{verdict_of}
use Rattle.bbs_model.specs.Valid.{IsValid}
use Rattle.bbs_model.specs.Work.{at, work}
use Rattle.bbs_model.specs.declared.command.Command.{Command}
use Rattle.bbs_model.specs.declared.command.Op.{Op}
use Rattle.bbs_model.specs.declared.rows.Rows.{Rows}
use Rattle.cell_records.specs.declared.answer.Answer.{Answer}
use Rattle.convergence.specs.PlanLaws.{plan_on}
use Rattle.convergence.specs.Plans.{plan_of_answers}
use Rattle.convergence.specs.Subjects.{Subject, subject_in, subject_of, work_on}
use Rattle.convergence.proofs.Public.{about_is, about_work, plan_is_by_subject, work_is_by_subject}
use Rattle.converge_laws.specs.Accepted.{IsAccepted, AreAccepted, IsOfRound}
use Rattle.converge_laws.specs.Laws.{after_work, after_plan}
use Rattle.converge_laws.proofs.Public.{plan_of_round, run-other, run-took, run-valid, work-apart, work_of_round}
use Rattle.crash_backoff.specs.declared.moment.Moment.{Moment}

module _ (rows : Rows) (got : List Answer) (now : Moment) (valid : IsValid rows) where
  pub valid-work : IsValid (after_work rows now)
  valid-work = run-valid rows (work rows now) valid

  pub valid-plan : IsValid (after_plan rows got now)
  valid-plan = run-valid (after_work rows now) (plan_of_answers (after_work rows now) got now) valid-work

  not_asked : (s : Subject) → work_on rows now s ≡ None → (c : Command) → Contains (work rows now) c → subject_in c ≢ s
  not_asked s none c inside same =
      let asked : work_on rows now s ≡ Some c.op = subst (λ (t : Subject). work_on rows now t ≡ Some c.op) same
      ((work_is_by_subject rows now c valid).0 inside).1 in
      cc

  not_planned : (s : Subject) → plan_on (after_work rows now) got s ≡ None → (c : Command)
      → Contains (plan_of_answers (after_work rows now) got now) c → subject_in c ≢ s
  not_planned s none c inside same =
      let asked : plan_on (after_work rows now) got s ≡ Some c.op =
      subst (λ (t : Subject). plan_on (after_work rows now) got t ≡ Some c.op) same
      ((plan_is_by_subject (after_work rows now) got now c valid-work).0 inside).1 in
      cc

  module _ {A : Type 0} (view : Rows → A) (s : Subject)
      (stays : (r : Rows) (c : Command) → IsOfRound c.op → subject_in c ≢ s → view (state_after r c) ≡ view r) where
    pub leaves-work : work_on rows now s ≡ None → view (after_work rows now) ≡ view rows
    leaves-work none =
        run-other view (λ (c : Command). subject_in c ≢ s) stays rows (work rows now)
        (work_of_round rows now valid).ops (not_asked s none)

    pub leaves-plan : plan_on (after_work rows now) got s ≡ None → view (after_plan rows got now) ≡ view
        (after_work rows now)
    leaves-plan none =
        run-other view (λ (c : Command). subject_in c ≢ s) stays (after_work rows now)
        (plan_of_answers (after_work rows now) got now)
        (plan_of_round (after_work rows now) got now valid-work).ops (not_planned s none)

    -- what work asks of a subject is done to it
    pub takes-work : AreAccepted rows (work rows now) → (Q : A → Type 0) (o : Op) → work_on rows now s ≡ Some o
        → ((before : Rows) → view before ≡ view rows → IsAccepted (verdict_of before (at now o))
        → Q (view (state_after before (at now o)))) → Q (view (after_work rows now))
    takes-work taken Q o e own =
        let about : subject_of o ≡ s = about_is s (work_on rows now s) o (about_work rows now s) e in
        run-took view (λ (c : Command). subject_in c ≢ s) stays Q (at now o) rows (work rows now)
        (work_of_round rows now valid).ops (work-apart rows now valid) taken
        ((work_is_by_subject rows now (at now o) valid).1
        (refl, subst (λ (t : Subject). work_on rows now t ≡ Some o) (sym about) e))
        (λ d inside other same. other (same ∙ sym about)) own
