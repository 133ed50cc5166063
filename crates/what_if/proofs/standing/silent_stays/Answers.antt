use Rattle.std.proofs.Common.{not, ap, filter, ◌∙◌}
use Rattle.std.specs.HashSet.{contains}
use Rattle.std.proofs.lemmas.List.Elements.{filter_agree}
use Rattle.auctioneer.specs.Stands.{same_name}
use Rattle.what_if.specs.Stays.{is_lost}
use Rattle.what_if.specs.declared.site.Stay.{Stay}
use Rattle.what_if.proofs.standing.silent_stays.Goals as goal

pub returns : goal.returns
returns c =
    c.in_ok-list.ensures
    ∙ filter_agree (λ (s : Stay). not (contains same_name c.in_ok-gone.gone s.cell))
    (λ s. not (is_lost c.args.lost.now s.cell))
    (λ s. ap not (c.in_ok-gone.ensures s.cell)) c.items.result.now
    ∙ ap (filter (λ (s : Stay). not (is_lost c.args.lost.now s.cell))) c.items.ensures
