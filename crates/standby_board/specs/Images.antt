-- What a stop leaves of the standby's disk: the board after a beginning of what the primary did.
use Rattle.std.specs.Prelude.{◌≡◌, ℕ, ◌+◌, ◌≤◌, length, take, Some}
use Rattle.std.specs.List.{slice_get}
use Rattle.disk_trait.specs.Past.{Past, Image, Images, ImagesSince}
use Rattle.bbs_board.specs.Opening.{IsBoard}
use Rattle.bbs_board.specs.View.{rows_of}
use Rattle.bbs_model.specs.Replay.{replay_log}
use Rattle.bbs_model.specs.declared.command.Command.{Command}
use Rattle.bbs_model.specs.declared.item.Item.TheVariants.{Done}
use Rattle.standby_board.specs.Pairs.{PairView, dones, gained_since, done_on_primary, done_on_standby}

module _ {D E : Type 0} where
  -- the image is the board after a beginning of what the primary has done since the start, of so much at least
  pub record IsBeginning (v : PairView D E) (least : ℕ) (image : Image) : Type 0 where
    pub count : ℕ
    pub low : least ≤ count
    pub high : count ≤ length (done_on_primary v)
    pub board : IsBoard (replay_log (rows_of v.primary_start) (take count (done_on_primary v))) image

  -- whatever a stop left of the standby's disk since this moment is such a board: it has each item that the standby has
  -- done, if it was left since the mark of that, and what is left now has them all
  pub record StandbyShows (since : ℕ) (v : PairView D E) (p : Past) : Type 0 where
    pub found : (image : Image) → ImagesSince p since image → IsBeginning v 0 image
    pub acknowledged : (place mark by : ℕ) (c : Command) → slice_get (gained_since v.standby_start v.standby) place
        ≡ Some (Done by c)
        → slice_get v.standby.marks (length v.standby_start.log + place) ≡ Some mark
        → (image : Image) → ImagesSince p mark image
        → IsBeginning v (length (dones (take (place + 1) (gained_since v.standby_start v.standby)))) image
    pub now : (image : Image) → Images p image → IsBeginning v (length (done_on_standby v)) image
