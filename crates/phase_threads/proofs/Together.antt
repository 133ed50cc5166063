-- The round of a phase was held by the first of the passes.
use Rattle.std.proofs.Common.{◌≡◌, inr, ◌==◌, ℕ, List, ◌∷◌, Option, Some, Ok, IfOk, refl, sym, ap, subst, ◌∙◌}
use Rattle.std.specs.List.{slice_get, Contains}
use Rattle.std.proofs.lemmas.List.Elements.{All-contains, All-contains_itself, All-filter}
use Rattle.bbs_board.specs.View.{View}
use Rattle.bbs_model.specs.Calls.{by_number, by_of}
use Rattle.bbs_model.specs.PortView.{PortView}
use Rattle.bbs_model.specs.declared.item.Item.{Item}
use Rattle.bbs_shared.specs.Passes.{seen_by, IsSame}
use Rattle.bbs_shared.specs.Sharings.{whole_view}
use Rattle.bbs_shared.specs.declared.origin.Origin.{Origin}
use Rattle.cell_rep.specs.declared.rep.CellRep.{CellRep}
use Rattle.convergence.specs.declared.report.Report.{Report}
use Rattle.converge_round.specs.Items.{HasItems}
use Rattle.crash_backoff.specs.declared.moment.Moment.{Moment}
use Rattle.phase_runs.proofs.Public.{one_of}
use Rattle.scenario_lines.specs.declared.script.RoundLine.{RoundLine}
use Rattle.ticket_desk.specs.declared.pass.Pass.{Pass}
use Rattle.phase_threads.specs.Holding.{IsHeld, ReportsRound, WasBegun, WasHeld}
use Rattle.phase_threads.specs.declared.holding.Held.{Held}

-- an item of one caller is one of all
pub among_all : (by : ℕ) (items : List Item) (i : Item) → Contains (by_number by items) i → Contains items i
among_all by items i inside =
    All-contains (Contains items) (by_number by items) i
    (All-filter (λ (x : Item). by_of x == by) (Contains items) items (All-contains_itself items)) inside

module _ {V S D P : Type 0} (pass_of : P → Pass V Item (Origin S)) (board : View D) (now : Moment) (line : RoundLine)
    (way : P) (reps : List CellRep)
    (x : Held P) (seen : seen_by (pass_of way) ≡ whole_view board)
    (held : IsHeld (λ p. seen_by (pass_of p)) (λ p q. IsSame (pass_of p) (pass_of q)) now line way reps x)
    (passes rest : List (Pass V Item (Origin S))) (passes_are : passes ≡ pass_of x.port ∷ rest) where
  is_first : (p : Pass V Item (Origin S)) → slice_get passes 0 ≡ Some p → pass_of x.port ≡ p
  is_first p is = one_of (Some (pass_of x.port)) (pass_of x.port) p refl (sym (ap (λ l. slice_get l 0) passes_are) ∙ is)

  its_items : (p : Pass V Item (Origin S)) → slice_get passes 0 ≡ Some p
      → HasItems 0 now reps (whole_view board) (seen_by p)
  its_items p is =
      subst (λ (q : Pass V Item (Origin S)). HasItems 0 now reps (whole_view board) (seen_by q)) (is_first p is)
      (subst (λ (v : PortView). HasItems 0 now reps v (seen_by (pass_of x.port))) seen held.items)

  -- it was held up to its end
  pub was_held : (report : Option Report) → x.end ≡ Ok report → WasHeld board now line reps x.cells.items report passes
  was_held report ended = record {
    same = held.same;
    items = its_items;
    reported = λ p is.
        subst (λ (q : Pass V Item (Origin S)). ReportsRound now line reps x.cells.items (whole_view board)
        (seen_by q) report) (is_first p is)
        (subst (λ (v : PortView). ReportsRound now line reps x.cells.items v (seen_by (pass_of x.port)) report) seen
        (subst (λ end. IfOk end (ReportsRound now line reps x.cells.items (seen_by (pass_of way))
        (seen_by (pass_of x.port)))) ended held.reported));
  }

  -- it was held up to some item
  pub was_begun : WasBegun board now reps passes
  was_begun p is = inr (its_items p is)
