-- What a desk takes for a pair's history and for its origin.
use Rattle.std.specs.Prelude.{List}
use Rattle.bbs_board.specs.View.{View}
use Rattle.bbs_model.specs.declared.item.Item.{Item}
use Rattle.bbs_shared.specs.declared.origin.Origin.{Origin}
use Rattle.standby_board.specs.Pairs.{PairView}
use Rattle.pair_desk.specs.declared.at_desk.Starts.{Starts}

module _ {D E : Type 0} where
  -- the log of the primary is the history
  abbrev pub log_of : PairView D E → List Item
  log_of v = v.primary.log

  -- no call changes these: how both boards were as the pair was started, and the floor of its fence
  abbrev pub starts_of : PairView D E → Starts (View D) (View E)
  starts_of v = record { primary = v.primary_start; standby = v.standby_start; floor = v.fence.floor }

  -- nor how the primary was loaded
  abbrev pub origin_of : PairView D E → Origin (Starts (View D) (View E))
  origin_of v = record {
    base = v.primary.base;
    since = v.primary.since;
    faults = v.primary.faults;
    start = starts_of v;
  }
