-- The rows as a round read them last, and when they still hold.
use Rattle.std.specs.Prelude.{◌≡◌, ◌≤◌, length}
use Rattle.bbs_model.specs.PortView.{PortView, rows_seen, IsLater}
use Rattle.bbs_model.specs.Valid.{IsValid}
use Rattle.converge_round.specs.declared.seen_rows.SeenRows.{SeenRows}

-- these are the rows after what was seen, and the log had reached their place by then
pub record AreSeen (v : PortView) (s : SeenRows) : Type 0 where
  pub rows : s.rows ≡ rows_seen v
  pub valid : IsValid s.rows
  pub place : s.place ≤ length v.seen

-- these were the rows when the caller looked at some time before
pub record WereSeen (v : PortView) (s : SeenRows) : Type 0 where
  pub read : PortView
  pub since : IsLater read v
  pub then : AreSeen read s
