use Rattle.std.proofs.Common.{ℕ, List, subst}
use Rattle.lock_runs.specs.Lines.{RunsOn}
use Rattle.lock_runs.proofs.Telling.{runs_lines}
use Rattle.lock_runs.proofs.running.run_on.Goals as goal

pub returns : goal.returns
returns g c =
    let fields = c.into_parts-disk.ensures.fields in
    runs_lines g.D.Disk.told g.D.Disk.fault_count g.D.Disk.moment c.args.locket c.run_lines-end.new.locket
    c.args.lines.now c.run_lines-end.result
    c.run_lines-end.new.answers.items
    (subst (λ (t : List ℕ). RunsOn g.D.Disk.told g.D.Disk.fault_count c.args.lines.now c.run_lines-end.result t
    c.run_lines-end.new.answers.items c.args.locket c.run_lines-end.new.locket)
    c.new-answers.ensures.items c.run_lines-end.ensures) c.requires.log c.requires.since c.requires.faults
    (record {
      lawful = c.into_parts-disk.ensures.lawful;
      kept = c.into_parts-disk.ensures.kept;
      doubts =
          c.into_parts-disk.ensures.doubts;
    })
    c.finish-ending.result _ _ fields.1 fields.2 _ _ _ _ _ fields.0 c.finish-ending.ensures
