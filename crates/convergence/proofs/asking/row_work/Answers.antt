use Rattle.std.proofs.Common.{◌≡◌, ◌∙◌, ap, sym, subst, refl, Option}
use Rattle.lrp_records.specs.declared.actual.Actual.{Actual}
use Rattle.lrp_records.specs.declared.presence.Presence.{Presence}
use Rattle.bbs_model.specs.Tables.{find_actual}
use Rattle.bbs_model.specs.Work.{ordinary_work, evacuating_work, suspect_work, row_work}
use Rattle.convergence.proofs.asking.row_work.Goals as goal

pub returns-in-Ordinary : goal.returns-in-Ordinary
returns-in-Ordinary c =
    let rows = c.args.rows.now in
    let key = c.args.key.now in
    c.ordinary_work.ensures ∙ ap (λ (o : Option Actual). ordinary_work rows c.args.now key o) c.actual_of-row.ensures
    ∙ subst (λ (p : Presence). ordinary_work rows c.args.now key (find_actual rows key p)
    ≡ row_work rows c.args.now key p) (sym c.in-Ordinary.is) refl

pub returns-in-Evacuating : goal.returns-in-Evacuating
returns-in-Evacuating c =
    let rows = c.args.rows.now in
    let key = c.args.key.now in
    c.evacuating_work.ensures ∙ ap (λ (o : Option Actual). evacuating_work rows c.args.now key o)
    c.actual_of-row.ensures
    ∙ subst (λ (p : Presence). evacuating_work rows c.args.now key (find_actual rows key p)
    ≡ row_work rows c.args.now key p) (sym c.in-Evacuating.is) refl

pub returns-in-Suspect : goal.returns-in-Suspect
returns-in-Suspect c =
    let rows = c.args.rows.now in
    let key = c.args.key.now in
    c.suspect_work.ensures ∙ ap (λ (o : Option Actual). suspect_work rows c.args.now key o) c.actual_of-row.ensures
    ∙ subst (λ (p : Presence). suspect_work rows c.args.now key (find_actual rows key p)
    ≡ row_work rows c.args.now key p) (sym c.in-Suspect.is) refl
