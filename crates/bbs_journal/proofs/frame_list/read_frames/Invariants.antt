use Rattle.std.proofs.Common.{◌≡◌, ℕ, ◌+◌, ◌-◌, ◌*◌, ◌≤◌, Option, List, ◌++◌, length, drop}
use Rattle.disk_trait.specs.Past.{Image}
use Rattle.disk_trait.specs.Steps.{Goes}
use Rattle.disk_trait.specs.Shows.{Shows, Peeks}
use Rattle.bbs_journal.specs.Opening.{AreFrames}
use Rattle.bbs_journal.specs.Pieces.{StartsBy, IsPieceOf}
use Rattle.bbs_journal.specs.Reading.{payloads_of, bytes_of}
use Rattle.bbs_journal.proofs.frame_list.read_frames.Given as goal

abbrev pub invariant-loop-piece : goal.invariant-loop-piece
invariant-loop-piece g l = record {
  within : l.at ≤ l.len;
  starts : StartsBy l.piece l.at;
  holds : (c : Image) → Shows (g.D.Disk.told l.disk) c → l.len ≡ length (c l.area) → IsPieceOf l.piece (c l.area);
  end : l.at ≡ l.start + bytes_of (payloads_of l.payloads.items);
  few : l.at ≤ l.start + 515 * length l.payloads.items;
  stood : g.D.Disk.fault_count l.disk ≡ g.D.Disk.fault_count l.initial.disk;
  does : Goes (g.D.Disk.told l.initial.disk) (g.D.Disk.told l.disk) Peeks;
  shows : (c : Image) → Shows (g.D.Disk.told l.disk) c → l.len ≡ length (c l.area)
      → (more : List (List ℕ)) (broken : Option ℕ) (end : ℕ) → AreFrames more broken end l.at (drop l.at (c l.area))
      → AreFrames (payloads_of l.payloads.items ++ more) broken end l.start (drop l.start (c l.area));
}

abbrev pub decreases-loop-piece : goal.decreases-loop-piece
decreases-loop-piece g l = l.len - l.at
