use Rattle.std.proofs.Common.{map, filter, ap, ◌∙◌}
use Rattle.site_answers.specs.Dark.{is_dark_by}
use Rattle.site_answers.specs.Losses.{is_dark, process_of}
use Rattle.site_answers.proofs.Darkness.{dark-by_shares}
use Rattle.site_spread.specs.Spread.{processes}
use Rattle.what_if.proofs.Agreeing.{filter-same}
use Rattle.site_answers.proofs.dark.dark_of.Goals as goal

pub returns : goal.returns
returns c =
    let scene = c.args.scene.now in
    let told = is_dark_by c.in_ok-shares.shares in
    c.in_ok-dark.ensures
    ∙ ap (filter told) (c.deref.ensures.value ∙ c.in_ok-names.ensures)
    ∙ filter-same told (is_dark scene.site.now scene.lost.now) (dark-by_shares c.in_ok-shares.ensures)
    (map process_of (processes scene.site.now))
