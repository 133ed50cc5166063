-- The site with which a drain begins may be planned for.
use Rattle.std.proofs.Common.{◌≡◌, ℕ, ◌+◌, ◌-◌, ◌≤◌, List, [], ◌∷◌, length, map, refl, ap, subst, arith}
use Rattle.std.proofs.Math.Nat.{min-le_left, min-le_right}
use Rattle.std.proofs.lemmas.List.{length-map}
use Rattle.std.proofs.lemmas.List.Elements.{All-map, All-weaker}
use Rattle.cell_records.specs.declared.answer.Answer.{Answer}
use Rattle.auctioneer.specs.Asked.{IsSoundAnswer}
use Rattle.what_if.specs.Sites.{IsSite}
use Rattle.what_if.specs.declared.site.Site.{Site}
use Rattle.what_if.proofs.Differing.{Differ}
use Rattle.cell_drains.specs.Steps.{levelled, levelled_cell, IsLevel}

same_names : (cs : List Answer) → map (λ (c : Answer). c.cell) cs ≡ map (λ (c : Answer). c.cell) (map levelled_cell cs)
same_names [] = refl
same_names (c ∷ cs) = ap (λ (ns : List (List ℕ)). c.cell ∷ ns) (same_names cs)

sound_cell : (c : Answer) → IsSoundAnswer c → IsSoundAnswer (levelled_cell c)
sound_cell c h = record {
  within = record {
    memory = h.within.memory;
    disk = h.within.disk;
    containers = omega (
      arith,
      h.within.containers,
      min-le_left c.free.containers
          (c.totals.containers - length c.containers),
    );
  };
  containers = h.containers;
}

level_cell : (c : Answer) → IsSoundAnswer c → length c.containers + (levelled_cell c).free.containers
    ≤ c.totals.containers
level_cell c h = omega (arith, h.containers, min-le_right c.free.containers (c.totals.containers - length c.containers))

pub IsSite-levelled : (site : Site) → IsSite site → IsSite (levelled site)
IsSite-levelled site h = record {
  cells = record {
    few = omega (arith, h.cells.few, length-map site.cells levelled_cell);
    differ = subst Differ (same_names site.cells) h.cells.differ;
    each = All-map IsSoundAnswer levelled_cell site.cells
        (All-weaker IsSoundAnswer (λ c. IsSoundAnswer (levelled_cell c)) sound_cell site.cells h.cells.each);
  };
  jobs = h.jobs;
  few = h.few;
}

pub IsLevel-levelled : (site : Site) → IsSite site → IsLevel (levelled site)
IsLevel-levelled site h =
    All-map (λ (c : Answer). length c.containers + c.free.containers ≤ c.totals.containers) levelled_cell site.cells
    (All-weaker IsSoundAnswer (λ c. length c.containers + (levelled_cell c).free.containers ≤ c.totals.containers)
    level_cell site.cells h.cells.each)
