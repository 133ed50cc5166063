use Rattle.std.proofs.Common.{refl}
use Rattle.program_ends.specs.Ports.{Ports}
use Rattle.program_ends.proofs.Public.{read_cause, unread_cause}
use Rattle.lock_runs.proofs.Endings.{given_run, is_read_at, not_before, not_read, unread}
use Rattle.lock_runs.proofs.Laws.{complete_from}
use Rattle.lock_runs.proofs.Telling.{ports_with}
use Rattle.lock_runs.proofs.running.run_locks.Goals as goal

pub returns-in-Ok-clause-ends : goal.returns-in-Ok-clause-ends
returns-in-Ok-clause-ends g c =
    given_run _ _ _ _ _ _ c.run_script.result.0.ending c.in-Ok.lines c.items.result.now c.items.ensures
    c.in-Ok.ensures.reads c.run_script.ensures

pub returns-in-Ok-clause-cause : goal.returns-in-Ok-clause-cause
returns-in-Ok-clause-cause g c =
    read_cause c.run_script.result.0.ending _ _ (not_read c.items.result.now _ _ _ _ c.run_script.result.0.ending
    c.run_script.ensures) c.in-Ok.ensures.cause

pub returns-in-Ok-clause-unopened : goal.returns-in-Ok-clause-unopened
returns-in-Ok-clause-unopened g c before = absurd (not_before c.items.result.now _ _ _ _ c.run_script.result.0.ending
    c.run_script.ensures before)

pub returns-in-Ok-clause-complete : goal.returns-in-Ok-clause-complete
returns-in-Ok-clause-complete g c meets told source sink disk =
    let v : Ports = (ports_with g.D.Disk.told g.D.Disk.fault_count g.D.Disk.moment (g.K.Sink.held c.args.sink.now)
    (g.K.Sink.faults c.args.sink.now) c.args.disk) in
    let w : Ports = (ports_with g.D.Disk.told g.D.Disk.fault_count g.D.Disk.moment (g.K.Sink.held c.run_script.new.sink)
    (g.K.Sink.faults c.run_script.new.sink) c.run_script.result.1) in
    let how = c.run_script.result.0.ending in
    let locks = c.run_script.result.0.locks.items in
    let marks = c.run_script.result.0.marks.items in
    let cause = read_cause how _ _ (not_read c.items.result.now locks marks v w how c.run_script.ensures)
    c.in-Ok.ensures.cause in
    complete_from locks marks _ _ v w how
    (given_run locks marks _ _ v w how c.in-Ok.lines c.items.result.now c.items.ensures c.in-Ok.ensures.reads
    c.run_script.ensures)
    meets told (λ n. source (cause.rose (is_read_at how n))) sink disk

pub returns-in-Err-clause-ends : goal.returns-in-Err-clause-ends
returns-in-Err-clause-ends g c =
    let (whole, prints) = c.ended_before.ensures.prints in
    unread _ _ _ _ _ _ refl refl whole c.in-Err.ending c.ended_before.result _
    c.unlocked.ensures.ending c.in-Err.ensures.reads c.ended_before.ensures.ending c.unlocked.ensures.none prints

pub returns-in-Err-clause-cause : goal.returns-in-Err-clause-cause
returns-in-Err-clause-cause g c =
    unread_cause c.in-Err.ending c.ended_before.result c.unlocked.result.ending _ _ c.unlocked.ensures.ending
    c.ended_before.ensures.ending c.in-Err.ensures.cause

pub returns-in-Err-clause-complete : goal.returns-in-Err-clause-complete
returns-in-Err-clause-complete g c meets told source sink disk =
    let (whole, prints) = c.ended_before.ensures.prints in
    let v : Ports = (ports_with g.D.Disk.told g.D.Disk.fault_count g.D.Disk.moment (g.K.Sink.held c.args.sink.now)
    (g.K.Sink.faults c.args.sink.now) c.args.disk) in
    let w : Ports = (ports_with g.D.Disk.told g.D.Disk.fault_count g.D.Disk.moment
    (g.K.Sink.held c.ended_before.new.sink) (g.K.Sink.faults c.ended_before.new.sink) c.args.disk) in
    let how = c.unlocked.result.ending in
    let locks = c.unlocked.result.locks.items in
    let marks = c.unlocked.result.marks.items in
    let cause = unread_cause c.in-Err.ending c.ended_before.result how _ _ c.unlocked.ensures.ending
    c.ended_before.ensures.ending c.in-Err.ensures.cause in
    complete_from locks marks _ _ v w how
    (unread locks marks _ _ v w refl refl whole c.in-Err.ending c.ended_before.result how
    c.unlocked.ensures.ending c.in-Err.ensures.reads c.ended_before.ensures.ending c.unlocked.ensures.none prints)
    meets told (λ n. source (cause.rose (is_read_at how n))) sink disk
