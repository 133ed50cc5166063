use Rattle.locket.specs.declared.reply.LockFault.TheVariants.{Disk, OutOfMemory}
use Rattle.lock_runs.proofs.OneLine.{at_fault, line_answered, line_failed, line_failed_untold, line_starved, line_untold}
use Rattle.lock_runs.proofs.lines.run_line.Goals as goal

pub returns-in-Ok-add_answer : goal.returns-in-Ok-add_answer
returns-in-Ok-add_answer g c =
    let e = c.in-Ok.ensures in
    line_answered g.D.Disk.told g.D.Disk.moment g.D.Disk.fault_count c.args.line.now c.args.locket.now c.call.new.self
    c.args.answers.now.items c.add_answer.new.answers.items c.in-Ok.reply
    (record { ends = e.ends; grows = e.grows; does = e.does; uses = e.uses }) c.in-Ok-add_answer.ensures

pub returns-in-Err : goal.returns-in-Err
returns-in-Err g c =
    let e = c.in-Ok.ensures in
    line_untold g.D.Disk.told g.D.Disk.moment g.D.Disk.fault_count c.args.line.now c.args.locket.now c.call.new.self
    c.args.answers.now.items c.add_answer.new.answers.items c.in-Ok.reply
    (record { ends = e.ends; grows = e.grows; does = e.does; uses = e.uses })

pub returns-in-Ok-add_fault : goal.returns-in-Ok-add_fault
returns-in-Ok-add_fault g c =
    let e = c.in-Err-Disk.ensures in
    line_failed g.D.Disk.told g.D.Disk.moment g.D.Disk.fault_count c.args.line.now c.args.locket.now c.call.new.self
    c.args.answers.now.items c.add_fault.new.answers.items
    (at_fault g.D.Disk.told g.D.Disk.moment g.D.Disk.fault_count c.args.line.now c.args.locket.now c.call.new.self
    c.in-Err-Disk.field-0 Disk c.in-Err-Disk.field-0-is
    (record { ends = e.ends; grows = e.grows; does = e.does; uses = e.uses })) c.in-Ok-add_fault.ensures

pub returns-in-Err-add_fault : goal.returns-in-Err-add_fault
returns-in-Err-add_fault g c =
    let e = c.in-Err-Disk.ensures in
    line_failed_untold g.D.Disk.told g.D.Disk.moment g.D.Disk.fault_count c.args.line.now c.args.locket.now
    c.call.new.self c.args.answers.now.items c.add_fault.new.answers.items
    (at_fault g.D.Disk.told g.D.Disk.moment g.D.Disk.fault_count c.args.line.now c.args.locket.now c.call.new.self
    c.in-Err-Disk.field-0 Disk c.in-Err-Disk.field-0-is
    (record { ends = e.ends; grows = e.grows; does = e.does; uses = e.uses }))

pub returns-in-Err-OutOfMemory : goal.returns-in-Err-OutOfMemory
returns-in-Err-OutOfMemory g c =
    let e = c.in-Err-OutOfMemory.ensures in
    line_starved g.D.Disk.told g.D.Disk.moment g.D.Disk.fault_count c.args.line.now c.args.locket.now c.call.new.self
    c.args.answers.now.items c.args.answers.now.items
    (at_fault g.D.Disk.told g.D.Disk.moment g.D.Disk.fault_count c.args.line.now c.args.locket.now c.call.new.self
    c.in-Err-OutOfMemory.field-0 OutOfMemory c.in-Err-OutOfMemory.field-0-is
    (record { ends = e.ends; grows = e.grows; does = e.does; uses = e.uses }))
