use Rattle.std.proofs.Common.{◌∙◌}
use Rattle.site_answers.proofs.Taking.{dark_found}
use Rattle.site_answers.proofs.going_dark.dark_with.Goals as goal

pub returns : goal.returns
returns c =
    c.in_ok-dark.ensures
    ∙ dark_found c.args.base.now.site.now c.args.lost.now c.args.taken.now c.requires.taken c.args.processes.now
    c.requires.processes c.in_ok-counts.counts c.in_ok-counts.ensures
