use Rattle.std.proofs.Common.{length}
use Rattle.disk_trait.proofs.image.+undo_all.Given as goal

abbrev pub decreases-undo_all : goal.decreases-undo_all
decreases-undo_all l = length l.entries.now
