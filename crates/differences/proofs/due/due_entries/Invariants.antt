use Rattle.std.proofs.Common.{◌≡◌, take}
use Rattle.differences.specs.Due.{keys_due}
use Rattle.differences.specs.Noted.{ends_by}
use Rattle.differences.proofs.due.due_entries.Given as goal

abbrev pub invariant-loop-number : goal.invariant-loop-number
invariant-loop-number g l = l.found.items
    ≡ keys_due g.V.Timed.causes (ends_by l.leases.cells.entries l.leases.domains.entries) l.now
    (take l.number l.map.entries)
