use Rattle.site_spread.proofs.tallies.tallies_of.Goals as goal

pub returns : goal.returns
returns c = record {
  standing = c.in_ok-standing.ensures;
  on_cell = c.in_ok-on_cell.ensures;
  in_zone = c.in_ok-in_zone.ensures;
  first = c.in_ok-first.ensures;
}
