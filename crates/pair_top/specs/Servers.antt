-- A pair, and the board that took over from one, as what answers clients.
use Rattle.std.specs.Prelude.{◌≡◌, ℕ, List, length, Option, Some, None, Result, Ok, Err}
use Rattle.bbs_model.specs.declared.command.Command.{Command}
use Rattle.bbs_model.specs.declared.item.Item.{Item}
use Rattle.bbs_model.specs.declared.reply.CallFault.{CallFault}
use Rattle.bbs_model.specs.declared.reply.CallFault.TheVariants as call
use Rattle.disk_trait.specs.Past.{Past}
use Rattle.disk_trait.specs.Runs.{Extends}
use Rattle.disk_trait.specs.Steps.{Goes}
use Rattle.fenced_board.specs.Fences.{FencedView}
use Rattle.fenced_board.specs.declared.reply.FencedReply.{FencedReply}
use Rattle.fenced_board.specs.declared.reply.FencedReply.TheVariants as fenced
use Rattle.pair_runs.specs.Served.{ServerView}
use Rattle.standby_board.specs.Calls.{End, IsSamePair}
use Rattle.standby_board.specs.Pairs.{PairView, done_on_standby, dones}
use Rattle.standby_board.specs.declared.answers.PairFault.TheVariants as fault
use Rattle.standby_board.specs.declared.answers.PairReply.TheVariants as pair

-- a log, where nothing is missing
abbrev pub log_without : Option (ℕ × Command) → List Item → Option (List Item)
log_without None log = Some log
log_without (Some missing) log = None

module _ {D E : Type 0} where
  -- a pair as its clients see it: the log is the primary's
  abbrev pub pair_server : (D → ℕ) → (E → ℕ) → PairView D E → ServerView
  pair_server fault_count fault_count' v = record {
    base = v.primary.base;
    log = v.primary.log;
    copy = log_without v.missing v.standby.log;
    stored = length (done_on_standby v);
    primary_faults = fault_count v.primary.disk;
    standby_faults = fault_count' v.standby.disk;
  }

  -- it is the same pair, whose calls show the same number
  pub record KeepsPair (v : PairView D E) (fence : ℕ) (w : PairView D E) (fence' : ℕ) : Type 0 where
    pub pair : IsSamePair v w
    pub fence_is : fence' ≡ fence

-- the end of a call behind a fence, as that of a pair's call
abbrev pub end_of : Result FencedReply CallFault → End
end_of (Ok (fenced.Reply reply)) = Ok (pair.Reply reply)
end_of (Ok (fenced.StaleFence greatest)) = Ok (pair.StaleFence greatest)
end_of (Err (call.Disk place)) = Err (fault.Disk place)
end_of (Err call.OutOfMemory) = Err fault.OutOfMemory

module _ {E : Type 0} where
  -- the board that took over as its clients see it: the log is its own, and no disk of a primary is used any more
  abbrev pub alone_server : (E → ℕ) → FencedView E → ServerView
  alone_server fault_count v = record {
    base = v.board.base;
    log = v.board.log;
    copy = Some v.board.log;
    stored = length (dones v.board.log);
    primary_faults = 0;
    standby_faults = fault_count v.board.disk;
  }

  -- it is the same board, which was opened at the same moment; its disk has gone on, and its calls show the same number
  pub record KeepsAlone (told : E → Option Past) (v : FencedView E) (fence : ℕ) (w : FencedView E) (fence' : ℕ) : Type 0 where
    pub base : w.board.base ≡ v.board.base
    pub since : w.board.since ≡ v.board.since
    pub faults : w.board.faults ≡ v.board.faults
    pub goes : Goes (told v.board.disk) (told w.board.disk) Extends
    pub fence_is : fence' ≡ fence
