use Rattle.std.proofs.Common.{◌≡◌, true, false, sym, ◌∙◌}
use Rattle.watch_lists.proofs.watched.Watched.new.Goals as goal

pub returns-clause-timed : goal.returns-clause-timed
returns-clause-timed g c u = record {
  starts = λ d k there. let never : true ≡ false = sym there ∙ c.new-2.ensures d k in absurd cc;
  stops = λ d k there. let never : true ≡ false = sym there ∙ c.new-2.ensures d k in absurd cc;
}
