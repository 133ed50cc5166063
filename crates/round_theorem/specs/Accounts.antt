-- The account of a round, by places of the log that it has seen at its end.
use Rattle.std.specs.Prelude.{◌≡◌, ℕ, ◌+◌, ◌-◌, ◌^◌, ◌≤◌, false, min, List, ◌++◌, length, drop}
use Rattle.std.specs.List.{Contains}
use Rattle.bbs_model.specs.Calls.{by_of}
use Rattle.bbs_model.specs.PortView.{PortView}
use Rattle.bbs_model.specs.Replay.{command_in}
use Rattle.bbs_model.specs.declared.item.Item.{Item}
use Rattle.bbs_model.specs.declared.rows.Rows.{Rows}
use Rattle.cell_records.specs.declared.answer.Answer.{Answer}
use Rattle.cell_records.specs.declared.cell_row.CellRow.{CellRow}
use Rattle.convergence.specs.Strays.{strays}
use Rattle.convergence.specs.declared.report.Report.{Report}
use Rattle.converge_round.specs.Askings.{present, IsHeardFrom}
use Rattle.converge_round.specs.Items.{IsOfTable}
use Rattle.converge_round.specs.Places.{is_being_emptied, placements, unplaced}
use Rattle.converge_round.specs.Rounds.{Standing, IsRound}
use Rattle.crash_backoff.specs.declared.moment.Moment.{Moment}
use Rattle.diego_names.specs.declared.instance.Instance.{Instance}
use Rattle.round_theorem.specs.Alone.{rows_then, IsAlone}

-- where a round read the rows: for the cells that are present, the work, the plan, the strays and the auction
pub record Readings : Type 0 where
  pub cells : ℕ
  pub work : ℕ
  pub plan : ℕ
  pub strays : ℕ
  pub auction : ℕ

-- one after another, from the round's start to its end
pub record AreInOrder (start : ℕ) (at : Readings) (end : ℕ) : Type 0 where
  pub first : start ≤ at.cells
  pub second : at.cells ≤ at.work
  pub third : at.work ≤ at.plan
  pub fourth : at.plan ≤ at.strays
  pub fifth : at.strays ≤ at.auction
  pub last : at.auction ≤ end

-- an item of that caller that the rows of a place up to its own asked for, from the round's start on
pub record IsItemAsked (by : ℕ) (now : Moment) (got roomy : List Answer) (start : ℕ) (v : PortView)
    (i : Item) : Type 0 where
  pub place : ℕ
  pub low : start ≤ place
  pub behind : Contains (drop place v.seen) i
  pub by_is : by_of i ≡ by
  pub asked : IsOfTable got roomy now (rows_then v place) (command_in i)

-- the counts of a report
pub record AreCounted (now : Moment) (got : List Answer) (at : Readings) (s s' : Standing) (r : Report) : Type 0 where
  pub start : length s.view.seen ≤ r.start
  pub end : r.end ≡ length s'.view.seen
  pub asked : r.asked ≡ length (present (rows_then s'.view at.cells) now)
  pub silent : min (r.asked - length got) (2 ^ 64 - 1) ≤ r.lost
  pub own : r.own + length s.view.mine ≡ length s'.view.mine
  pub foreign : r.foreign ≡ (r.end - r.start) - r.own

-- the lists of a report
pub record AreListed (got roomy : List Answer) (at : Readings) (v : PortView) (r : Report) : Type 0 where
  pub unplaced : r.unplaced ≡ unplaced (placements (rows_then v at.auction) roomy)
  pub stopped : (x : List ℕ × Instance) → Contains r.stopped x → Contains (strays (rows_then v at.strays) got) x
  pub missed : min (length (strays (rows_then v at.strays) got) - length r.stopped) (2 ^ 64 - 1) ≤ r.lost

-- a cell that jobs may go to has answered, and isn't being emptied
pub record IsOpen (rows : Rows) (got : List Answer) (y : Answer) : Type 0 where
  pub answer : Answer
  pub inside : Contains got answer
  pub cell_is : y.cell ≡ answer.cell
  pub epoch_is : y.epoch ≡ answer.epoch
  pub kept : is_being_emptied rows answer.cell ≡ false

-- the account: who answered, what was called and why, what the report's lists and counts are; and where nobody else
-- called, each command
pub record HasAccount (by : ℕ) (now : Moment) (s s' : Standing) (r : Report) : Type 0 where
  pub got : List Answer
  pub roomy : List Answer
  pub at : Readings
  pub in_order : AreInOrder r.start at r.end
  pub heard : (a : Answer) → Contains got a →
      (c : CellRow) × Contains (present (rows_then s'.view at.cells) now) c × IsHeardFrom s.reps c.cell c.epoch a
  pub roomy_are : (y : Answer) → Contains roomy y → IsOpen (rows_then s'.view at.auction) got y
  pub mine : List Item
  pub mine_is : s'.view.mine ≡ s.view.mine ++ mine
  pub items : (i : Item) → Contains mine i → IsItemAsked by now got roomy r.start s'.view i
  pub lists : AreListed got roomy at s'.view r
  pub counts : AreCounted now got at s s' r
  pub alone : r.foreign ≡ 0 → IsAlone by now got roomy s'.view r

-- each round has its account
abbrev pub RoundsHaveAccounts : Type 0
RoundsHaveAccounts = (by : ℕ) (now : Moment) (line : ℕ) (s s' : Standing) (r : Report) → IsRound by now line s s' r →
    HasAccount by now s s' r
