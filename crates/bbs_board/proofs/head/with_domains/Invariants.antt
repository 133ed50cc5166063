use Rattle.std.proofs.Common.{◌≡◌, ◌++◌, drop, map}
use Rattle.bbs_board.specs.Opening.{with_domain}
use Rattle.bbs_board.proofs.head.with_domains.Given as goal

-- the rows so far and those to come are all
abbrev pub invariant-loop-row : goal.invariant-loop-row
invariant-loop-row l = l.list.items ++ map (with_domain l.index.rows) (drop l.row-index l.rows)
    ≡ map (with_domain l.index.rows) l.rows
