use Rattle.std.proofs.Common.{ap, refl}
use Rattle.program_run.proofs.Playing.{plays_on}
use Rattle.program_run.proofs.running.play_on.Goals as goal

pub returns : goal.returns
returns g c =
    let fields = c.close-disk.ensures.fields in
    plays_on g.D.Disk.told g.D.Disk.fault_count g.D.Disk.moment g.T.Teller.wording c.args.script.now c.args.board
    c.play-board.result.0 c.play-board.result.1.ending _ _ _
    c.requires.fresh c.requires.since c.requires.faults
    (record { told_is = refl; faults_are = refl; clock_is = refl })
    (record {
      told_is = ap g.D.Disk.told fields.0;
      faults_are = ap g.D.Disk.fault_count fields.0;
      clock_is =
          ap g.D.Disk.moment fields.0;
    })
    fields.1 fields.2
    (record {
      lawful = c.close-disk.ensures.lawful;
      kept = c.close-disk.ensures.kept;
      doubts =
          c.close-disk.ensures.doubts;
    })
    c.play-board.ensures.plays
