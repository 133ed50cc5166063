use Rattle.std.proofs.Common.{◌≡◌, ◌∙◌, ap, sym, subst}
use Rattle.bbs_model.specs.Step.{attempt_at, attempt_of, changed_by}
use Rattle.bbs_model.specs.Valid.{IsValid}
use Rattle.bbs_model.specs.declared.attempt.Attempt.TheVariants.{Change}
use Rattle.bbs_model.specs.declared.found.Found.{Found}
use Rattle.bbs_laws.proofs.Public.{IsValid-rows_after}
use Rattle.plain_step.proofs.Running.{either_end}
use Rattle.plain_step.proofs.step.apply.Goals as goal

pub returns-clause-valid : goal.returns-clause-valid
returns-clause-valid c =
    let rows = c.args.rows.now in
    let command = c.args.command.now in
    let is : Change c.in-Change.first c.in-Change.second ≡ attempt_of rows command =
    c.in-Change.ensures ∙ ap (λ (f : Found). attempt_at f command.now command.op) c.found.ensures in
    either_end IsValid c.change.result c.change.new.rows (changed_by rows (Change c.in-Change.first c.in-Change.second))
    rows
    c.change.ensures.ok c.change.ensures.err
    (subst IsValid (sym (ap (changed_by rows) is)) (IsValid-rows_after rows command c.requires.valid c.requires.legal))
    c.requires.valid
