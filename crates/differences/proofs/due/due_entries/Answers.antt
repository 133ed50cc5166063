use Rattle.std.proofs.Common.{◌≡◌, ◌+◌, true, false, arith}
use Rattle.work_causes.specs.Causes.{any_holds_by}
use Rattle.differences.specs.Noted.{ends_by}
use Rattle.differences.proofs.DueLists.{due_more, none_at}
use Rattle.differences.proofs.due.due_entries.Goals as goal

pub loop-number-preserved : goal.loop-number-preserved
loop-number-preserved g c =
    due_more (λ v. any_holds_by (ends_by c.args.leases.now.cells.entries c.args.leases.now.domains.entries) c.args.now
    (g.V.Timed.causes v)) c.args.map.now.entries c.loop-number.number (c.loop-number.number + 1)
    c.loop-number.found.items c.pick.new.found.items (omega arith) c.loop-number.invariant c.in_ok-pick.ensures.found

pub returns-in_err-pick-clause-free : goal.returns-in_err-pick-clause-free
returns-in_err-pick-clause-free g c none =
    let never : false ≡ true = c.in_err-pick.ensures.free (none_at (λ v. any_holds_by (ends_by
    c.args.leases.now.cells.entries c.args.leases.now.domains.entries) c.args.now (g.V.Timed.causes v))
    c.args.map.now.entries c.loop-number.number none) in
    absurd cc
