use Rattle.std.proofs.Common.{◌≡◌, take}
use Rattle.bbs_index.specs.Index.{instances_in}
use Rattle.bbs_index.proofs.wanted.instances_in.Given as goal

abbrev pub invariant-loop-row : goal.invariant-loop-row
invariant-loop-row l = l.wanted ≡ instances_in (take l.row-index l.rows)
