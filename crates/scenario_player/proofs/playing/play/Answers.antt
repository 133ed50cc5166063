use Rattle.std.proofs.Common.{refl}
use Rattle.scenario_player.proofs.Endings.{plays_as}
use Rattle.scenario_player.proofs.playing.play.Goals as goal

pub returns : goal.returns
returns g c =
    let p = c.play_all-board.new in
    record {
      plays = plays_as g.D.Disk.told g.T.Teller.wording c.args.script.now _ c.play_all-board.result.1 _ p.kept.answers _
          p.kept.reports
          c.args.board _ c.play_all-board.result.0 _ _ _ _ _ _ refl c.into_lists-answers.ensures.0
          c.into_lists-answers.ensures.1
          refl refl refl c.play_all-board.ensures.plays;
    }
