-- Whole answers, from a plan and what is told beside it.
use Rattle.std.proofs.Common.{◌≡◌, ℕ, ◌-◌, List, [], length, Some, refl, ap, ◌∙◌}
use Rattle.auctioneer.specs.declared.placement.Placement.{Placement}
use Rattle.auctioneer.specs.declared.placement.Placement.TheVariants.{On, NoRoom}
use Rattle.site_answers.specs.Losses.{lost_of, move_of}
use Rattle.site_answers.specs.Parts.{HasLossParts, HasShownParts, lost_from, move_by, shown_from}
use Rattle.site_answers.specs.Shows.{shown_of}
use Rattle.site_answers.specs.declared.losing.LossParts.{LossParts}
use Rattle.site_answers.specs.declared.showing.ShownParts.{ShownParts}
use Rattle.site_answers.proofs.Told.{all_in_order}
use Rattle.what_if.specs.Holders.{IsHolders}
use Rattle.what_if.specs.Plans.{planned}
use Rattle.what_if.specs.Sites.{IsSite}
use Rattle.what_if.specs.Stays.{stays}
use Rattle.what_if.specs.declared.plan.Plan.{Plan}
use Rattle.what_if.specs.declared.site.Site.{Site}
use Rattle.what_if.specs.declared.standing.Holders.{Holders}
use Rattle.what_if.proofs.Holding.{held-by_holders}

-- a move, where the holders are those of the site
pub move-by_holders : (site : Site) (before : Holders) → IsHolders (stays site []) before → (p : Placement)
    → move_by before p ≡ move_of site p
move-by_holders site before h (On job cell) = λ i. Some
    (record { job = job; from = held-by_holders site before h job i; to = cell })
move-by_holders site before h (NoRoom job) = refl

pub whole_loss : (site : Site) (lost : List (List ℕ)) → IsSite site → (plan : Plan) → plan ≡ planned site lost
    → (parts : LossParts) → HasLossParts site lost parts → lost_from (length lost) plan parts ≡ lost_of site lost
whole_loss site lost sound plan is parts h =
    ap (λ (p : Plan). lost_from (length lost) p parts) is
    ∙ (λ i. record {
      cells = length lost;
      displaced = (planned site lost).displaced;
      unplaced = length (h.counting i);
      waiting = all_in_order site lost sound i - (planned site lost).displaced;
      waiting_unplaced = length (planned site lost).left - length (h.counting i);
      tasks = h.tasks i;
      dark = length (h.dark i);
      dark_of_many = h.dark_of_many i;
      uneven = length (h.uneven i);
      tags = h.tags i;
      without_room = (planned site lost).without_room;
      zones = h.zones i;
      moves = h.moves i;
      verdict = (planned site lost).verdict;
    })

pub whole_show : (site : Site) → IsSite site → (plan : Plan) → plan ≡ planned site [] → (parts : ShownParts)
    → HasShownParts site parts → shown_from site plan parts ≡ shown_of site
whole_show site sound plan is parts h =
    ap (λ (p : Plan). shown_from site p parts) is
    ∙ (λ i. record {
      cells = (shown_of site).cells;
      evacuating = (shown_of site).evacuating;
      silent = (shown_of site).silent;
      instances = h.instances i;
      processes = length (h.processes i);
      tasks = h.tasks i;
      crashed = (shown_of site).crashed;
      waiting = all_in_order site [] sound i;
      tags = h.tags i;
      unplaced = (planned site []).without_room;
      zones = h.zones i;
      uneven = h.uneven i;
      one_cell = h.one_cell i;
      one_zone = h.one_zone i;
      verdict = h.verdict i;
    })
