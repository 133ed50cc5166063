use Rattle.std.proofs.Common.{◌≡◌, ◌<◌, length, get_or, subst, ◌∙◌}
use Rattle.bbs_index.proofs.Numbering.{keys_compare}
use Rattle.bbs_index.proofs.shelf.Shelf.compare.Goals as goal

pub returns : goal.returns
returns g c =
    subst (λ v. c.args.first < length v.numbered → c.args.second < length v.numbered → (x : _)
    → c.compare_at.result ≡ g.X.Key.Ord.cmp (g.X.Rowed.key (get_or v.numbered c.args.first x))
    (g.X.Rowed.key (get_or v.numbered c.args.second x))) c.self.view_is
    (λ low high x. c.compare_at.ensures ∙ keys_compare g.met.X.Rowed.ordered g.met.X.Key.Eq.laws
    g.met.X.Key.Ord.matches_eq g.X.Rowed.key c.self.inside.map.entries c.self.invariant c.keys.ensures.unique
    c.as_slice-keys.result.now (c.as_slice-keys.ensures ∙ c.keys.ensures.rest) c.args.first c.args.second x low
    high)
    c.requires.first c.requires.second
