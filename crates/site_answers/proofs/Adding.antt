-- Amounts added up, with one more.
use Rattle.std.proofs.Common.{◌≡◌, ℕ, ◌+◌, ◌<◌, ◌≤◌, ◌^◌, List, length, map, take, get_or, sym, arith}
use Rattle.std.proofs.lemmas.List.{length-map}
use Rattle.std.proofs.lemmas.List.Sums.{sum_by_more}
use Rattle.auctioneer.specs.Asked.{AreAnswers}
use Rattle.auctioneer.specs.declared.stand.Stand.{Stand}
use Rattle.cell_records.specs.declared.amounts.Amounts.{Amounts}
use Rattle.cell_records.specs.declared.answer.Answer.{Answer}
use Rattle.site_answers.specs.Sums.{sums_of, with_more}
use Rattle.site_answers.specs.Zones.{cells_in, stands_in}
use Rattle.site_spread.specs.Groups.{is_in}
use Rattle.site_spread.specs.declared.group.Group.{Group}
use Rattle.what_if.specs.declared.site.Site.{Site}
use Rattle.what_if.proofs.Lists.{shorter}

pub sums_next : (xs : List Amounts) (i : ℕ) (d : Amounts) → i < length xs
    → with_more (sums_of (take i xs)) (get_or xs i d) ≡ sums_of (take (i + 1) xs)
sums_next xs i d lt = λ j. record {
  memory = sym (sum_by_more (λ (a : Amounts). a.memory) xs i d lt) j;
  disk = sym (sum_by_more (λ (a : Amounts). a.disk) xs i d lt) j;
  containers = sym (sum_by_more (λ (a : Amounts). a.containers) xs i d lt) j;
}

-- the cells of a zone and tag are few
pub few_amounts : (f : Answer → Amounts) (site : Site) (g : Group) → AreAnswers site.cells
    → length (map f (cells_in site g)) ≤ 2 ^ 32
few_amounts f site g h =
    omega (arith, length-map (cells_in site g) f, shorter (λ (a : Answer). is_in g a.zone a.tag) site.cells, h.few)

pub few_left_amounts : (stands : List Stand) (g : Group) → length stands ≤ 2 ^ 32
    → length (map (λ (s : Stand). s.free) (stands_in stands g)) ≤ 2 ^ 32
few_left_amounts stands g few =
    omega (
      arith,
      length-map (stands_in stands g) (λ (s : Stand). s.free),
      shorter (λ (s : Stand). is_in g s.zone s.tag) stands,
      few,
    )
