-- How a board is given to its callers, and how it comes back.
use Rattle.std.specs.Prelude.{◌≡◌, ◌≤◌, ℕ, List, [], length, Option}
use Rattle.atomic_table.specs.Seated.{TableId}
use Rattle.disk_trait.specs.Past.{Past}
use Rattle.bbs_board.specs.View.{View}
use Rattle.bbs_model.specs.Calls.{by_number}
use Rattle.bbs_model.specs.PortView.{PortView}
use Rattle.bbs_model.specs.declared.item.Item.{Item}
use Rattle.board_port.specs.Going.{BoardGoesOn}
use Rattle.ticket_desk.specs.Passes.{AreAll}
use Rattle.ticket_desk.specs.Views.{Begins, EachAt}
use Rattle.ticket_desk.specs.declared.pass.Pass.{Pass}
use Rattle.bbs_shared.specs.Passes.{seen_by}
use Rattle.bbs_shared.specs.declared.origin.Origin.{Origin}

-- all of the board was seen and nothing was done
abbrev pub whole_view : {D : Type 0} → View D → PortView
whole_view board = record { base = board.base; seen = board.log; mine = [] }

module _ {V S D : Type 0} where
  -- these many passes, all that the desk z has; each has seen the board as it is and has done nothing
  abbrev pub AreHanded : View D → TableId → ℕ → List (Pass V Item (Origin S)) → Type 0
  AreHanded board z many passes = (length passes ≡ many) × AreAll z passes × EachAt (λ _ p. seen_by p ≡ whole_view board) passes

  -- the board went on from its start by fresh items: each pass's own are those with its number, there are no others,
  -- and what a pass has seen is a beginning of the log
  pub record CameBack (told : D → Option Past) (start left : View D) (passes : List (Pass V Item (Origin S))) : Type 0 where
    pub fresh : List Item
    pub goes : BoardGoesOn told fresh start left
    pub own : EachAt (λ k p. (seen_by p).mine ≡ by_number k fresh) passes
    pub seen : EachAt (λ _ p. Begins (seen_by p).seen left.log) passes
    pub no_others : (n : ℕ) → length passes ≤ n → by_number n fresh ≡ []
