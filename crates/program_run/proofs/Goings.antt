-- A board on which a scenario was played has gone on from where it was.
use Rattle.std.proofs.Common.{ℕ, List, [], ◌∷◌, ◌++◌, Option, sym, subst, inl, inr}
use Rattle.disk_trait.specs.Past.{Past}
use Rattle.bbs_board.specs.View.{View}
use Rattle.bbs_model.specs.declared.item.Item.{Item}
use Rattle.convergence.specs.declared.report.Report.{Report}
use Rattle.converge_round.specs.Each.{Each}
use Rattle.phase_runs.specs.Boards.{BoardGoesOn}
use Rattle.phase_runs.proofs.Public.{goes_further, goes_nowhere}
use Rattle.program_ends.specs.declared.ending.Ending.{Ending}
use Rattle.program_ends.specs.declared.ending.Ending.TheVariants as ending
use Rattle.scenario_lines.specs.declared.answered.Answered.{Answered}
use Rattle.scenario_lines.specs.declared.script.Phase.{Phase}
use Rattle.scenario_lines.specs.declared.script.Script.{Script}
use Rattle.scenario_player.specs.Courses.{beginning, PlaysPhase, RunCourse}
use Rattle.scenario_player.specs.Plays.{EndsAt, IsUntold, Plays, PlaysCut, PlaysPart}
use Rattle.scenario_player.specs.Wordings.{Wording}

module _ {D : Type 0} (told : D → Option Past) (wording : Wording) (script : Script) where
  abbrev pub GoesFrom : View D → View D → Type 0
  GoesFrom v w = (fresh : List Item) × BoardGoesOn told fresh v w

  goes_on : (u v w : View D) → GoesFrom u v → GoesFrom v w → GoesFrom u w
  goes_on u v w (first, f) (second, g) = (first ++ second, goes_further told u v w first second f g)

  -- by each of these phases
  each_goes : (phases : List Phase) (s s' : RunCourse D) → Each (PlaysPhase told wording script) phases s s'
      → GoesFrom s.board s'.board
  each_goes [] s s' same = subst (λ (x : RunCourse D). GoesFrom s.board x.board) (sym same)
      ([], goes_nowhere told s.board)
  each_goes (phase ∷ phases) s s' (m, plays, more) =
      goes_on s.board m.board s'.board (plays.ran.fresh, plays.ran.goes) (each_goes phases m s' more)

  untold_goes : (phase : Phase) (s : RunCourse D) (w : View D) → IsUntold told phase s.actors s.board w
      → GoesFrom s.board w
  untold_goes phase s w (inl cut) = (cut.fresh, cut.goes)
  untold_goes phase s w (inr (news, parts, report, ran)) = (ran.fresh, ran.goes)

  module _ (answers : List Answered) (reports : List Report) (v w : View D) where
    ends_goes : (ran rest : List Phase) (s : RunCourse D) → EndsAt told wording script answers reports v w ran rest s
        → GoesFrom v w
    ends_goes ran rest s ends =
        subst (λ (x : View D). GoesFrom v x) (sym ends.board) (each_goes ran (beginning script v) s ends.first.each)

    module _ (held held' : Option (List ℕ)) (faults faults' : ℕ) where
      part_goes : PlaysPart told wording script answers reports v w held held' faults faults' → GoesFrom v w
      part_goes part =
          subst (λ (x : View D). GoesFrom v x) (sym part.board)
          (goes_on v part.before.board part.last.board (each_goes part.ran
          (beginning script v) part.before part.first.each)
          (part.plays.ran.fresh, part.plays.ran.goes))

      cut_goes : PlaysCut told wording script answers reports v w held held' faults faults' → GoesFrom v w
      cut_goes cut =
          let first : GoesFrom v cut.last.board = each_goes cut.ran (beginning script v) cut.last cut.first.each in
          elim cut.board [
            | inl same ↦ subst (λ (x : View D). GoesFrom v x) (sym same) first
            | inr in_one ↦ goes_on v cut.last.board w first (untold_goes in_one.phase cut.last w in_one.untold)
          ]

      pub plays_goes : (how : Ending) → Plays told wording script how answers reports v w held held' faults faults'
          → GoesFrom v w
      plays_goes ending.Done plays = ends_goes plays.ran plays.rest plays.last plays.ends
      plays_goes ending.Doubt plays = ends_goes plays.ran plays.rest plays.last plays.ends
      plays_goes ending.Unwritten (inl part) = part_goes part
      plays_goes ending.Unwritten (inr plays) = ends_goes plays.ran plays.rest plays.last plays.ends
      plays_goes ending.OutOfMemory plays = cut_goes plays
      plays_goes how never = absurd never
