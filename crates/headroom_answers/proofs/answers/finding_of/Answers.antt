use Rattle.std.proofs.Common.{sym, ap, ◌∙◌}
use Rattle.forecast_records.specs.declared.finding.Finding.TheVariants.{Lose as Loses}
use Rattle.headroom_answers.specs.Findings.{finding_of}
use Rattle.headroom_answers.proofs.answers.finding_of.Goals as goal

pub returns-in_ok-lost-in-Lose : goal.returns-in_ok-lost-in-Lose
returns-in_ok-lost-in-Lose c =
    ap Loses c.in_ok-lost-in-Lose.ensures
    ∙ sym (ap (finding_of c.args.site.now c.args.proxy) c.in-Lose.is)
