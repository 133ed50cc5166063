-- The open cells may be an auction's.
use Rattle.std.proofs.Common.{List, ℕ, arith}
use Rattle.std.proofs.lemmas.List.Elements.{All-filter}
use Rattle.cell_records.specs.declared.answer.Answer.{Answer}
use Rattle.auctioneer.specs.Asked.{AreAnswers, IsSoundAnswer}
use Rattle.what_if.specs.Stays.{is_open, open_cells}
use Rattle.what_if.specs.declared.site.Site.{Site}
use Rattle.what_if.proofs.Lists.{filter_differs, shorter}

pub AreAnswers-open : (site : Site) (lost : List (List ℕ)) → AreAnswers site.cells → AreAnswers (open_cells site lost)
AreAnswers-open site lost h = record {
  few = omega (arith, shorter (is_open lost) site.cells, h.few);
  differ = filter_differs (λ (a : Answer). a.cell) (is_open lost) site.cells h.differ;
  each = All-filter (is_open lost) IsSoundAnswer site.cells h.each;
}
