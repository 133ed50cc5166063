-- What a pass of a shared board knows, and what calls and looks leave of it.
use Rattle.std.specs.Prelude.{◌≡◌, List, refl}
use Rattle.std.proofs.Common.{◌∙◌}
use Rattle.bbs_model.specs.PortView.{PortView, after_others}
use Rattle.bbs_model.specs.declared.item.Item.{Item}
use Rattle.ticket_desk.specs.Passes.{view_of, IsSamePass}
use Rattle.ticket_desk.specs.Views.{Begins}
use Rattle.ticket_desk.specs.declared.pass.Pass.{Pass}
use Rattle.ticket_desk.specs.declared.view.View.{View}
use Rattle.ticket_desk.proofs.Public.{same_pass, same_then}
use Rattle.bbs_shared.specs.Boards.{base_of}
use Rattle.bbs_shared.specs.declared.origin.Origin.{Origin}

-- what a view of the desk has seen of the board, and has done there
abbrev pub port_view_of : {S : Type 0} → View Item (Origin S) → PortView
port_view_of v = record { base = base_of v.origin; seen = v.seen; mine = v.mine }

-- the hearer has seen all that it had seen and all that it was told; nothing else changed
pub record HearsAll (told : List Item) (v w : PortView) : Type 0 where
  pub others : List Item
  pub is : w ≡ after_others v others
  pub all : Begins told w.seen

module _ {V S : Type 0} where
  -- what the holder of a pass has seen of the board, and has done there
  abbrev pub seen_by : Pass V Item (Origin S) → PortView
  seen_by p = port_view_of (view_of p)

  -- still the same pass of the same board
  pub record IsSame (p q : Pass V Item (Origin S)) : Type 0 where
    pub pass : IsSamePass p q
    pub origin : (view_of q).origin ≡ (view_of p).origin

  pub pass_same : (p : Pass V Item (Origin S)) → IsSame p p
  pass_same p = record { pass = same_pass p; origin = refl }

  pub pass_same_then : (p q r : Pass V Item (Origin S)) → IsSame p q → IsSame q r → IsSame p r
  pass_same_then p q r first second = record {
    pass = same_then p q r first.pass second.pass;
    origin = second.origin ∙ first.origin;
  }
