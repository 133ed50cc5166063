use Rattle.std.proofs.Common.{◌≡◌, true, false, ap, length, sym, subst, ◌∙◌, arith}
use Rattle.bbs_model.specs.Work.{work}
use Rattle.differences.specs.Commands.{commands_of}
use Rattle.differences.specs.Due.{DueKeys, due_in, subjects_in}
use Rattle.differences.specs.Noted.{Noted, noted_of}
use Rattle.differences.specs.Standing.{StandsFor}
use Rattle.differences.proofs.Agreeing.{commands_are_work}
use Rattle.differences.proofs.DueLists.{empty-length}
use Rattle.differences.proofs.DueWork.{length-work}
use Rattle.differences.proofs.differences.Differences.list.Goals as goal

pub returns-clause-work : goal.returns-clause-work
returns-clause-work g c =
    let d : Noted = noted_of c.self.inside.kept in
    let rows = g.C.CountedRows.rows c.args.rows.now in
    let stands : StandsFor d rows = subst (λ (n : Noted). StandsFor n rows) (sym c.self.view_is) c.requires.stands in
    c.in_ok-list.ensures.list ∙ ap (commands_of d rows c.args.now) c.in_ok-due.ensures.due
    ∙ commands_are_work d rows c.args.now c.requires.valid stands c.due.ensures.unique

pub returns-clause-steps : goal.returns-clause-steps
returns-clause-steps g c =
    let d : Noted = noted_of c.self.inside.kept in
    let rows = g.C.CountedRows.rows c.args.rows.now in
    let stands : StandsFor d rows = subst (λ (n : Noted). StandsFor n rows) (sym c.self.view_is) c.requires.stands in
    let count : length (subjects_in c.in_ok-due.due) ≡ length (work rows c.args.now) =
    ap (λ (x : DueKeys). length (subjects_in x)) c.in_ok-due.ensures.due
    ∙ sym (length-work d rows c.args.now c.requires.valid stands c.due.ensures.unique) in
    omega (arith, c.commands.ensures.steps, count)

pub returns-in_err-list-clause-steps : goal.returns-in_err-list-clause-steps
returns-in_err-list-clause-steps g c =
    let d : Noted = noted_of c.self.inside.kept in
    let rows = g.C.CountedRows.rows c.args.rows.now in
    let stands : StandsFor d rows = subst (λ (n : Noted). StandsFor n rows) (sym c.self.view_is) c.requires.stands in
    let count : length (subjects_in c.in_ok-due.due) ≡ length (work rows c.args.now) =
    ap (λ (x : DueKeys). length (subjects_in x)) c.in_ok-due.ensures.due
    ∙ sym (length-work d rows c.args.now c.requires.valid stands c.due.ensures.unique) in
    omega (arith, c.commands.ensures.steps, count)

pub returns-in_err-list-clause-free : goal.returns-in_err-list-clause-free
returns-in_err-list-clause-free g c none =
    let d : Noted = noted_of c.self.inside.kept in
    let rows = g.C.CountedRows.rows c.args.rows.now in
    let stands : StandsFor d rows = subst (λ (n : Noted). StandsFor n rows) (sym c.self.view_is) c.requires.stands in
    let never : false ≡ true = c.in_err-list.ensures.free (empty-length (subjects_in c.in_ok-due.due)
    (ap (λ (x : DueKeys). length (subjects_in x)) c.in_ok-due.ensures.due
    ∙ sym (length-work d rows c.args.now c.requires.valid stands c.due.ensures.unique) ∙ ap length none)) in
    absurd cc

pub returns-in_err-due-clause-free : goal.returns-in_err-due-clause-free
returns-in_err-due-clause-free g c none =
    let d : Noted = noted_of c.self.inside.kept in
    let rows = g.C.CountedRows.rows c.args.rows.now in
    let stands : StandsFor d rows = subst (λ (n : Noted). StandsFor n rows) (sym c.self.view_is) c.requires.stands in
    let never : false ≡ true = c.in_err-due.ensures.free (empty-length (subjects_in (due_in d c.args.now))
    (sym (length-work d rows c.args.now c.requires.valid stands c.due.ensures.unique) ∙ ap length none)) in
    absurd cc

pub returns-in_err-due-clause-keeps : goal.returns-in_err-due-clause-keeps
returns-in_err-due-clause-keeps g c = g.met.C.CountedRows.same c.args.rows.now
