-- The rows that a board was opened with stay, in each end of a scenario that was played.
use Rattle.std.proofs.Common.{◌≡◌, ◌⊎◌, ℕ, List, [], ◌∷◌, Option, ap, ◌∙◌, inl, inr}
use Rattle.disk_trait.specs.Past.{Past}
use Rattle.bbs_board.specs.View.{View}
use Rattle.convergence.specs.declared.report.Report.{Report}
use Rattle.converge_round.specs.Each.{Each}
use Rattle.program_ends.specs.declared.ending.Ending.{Ending}
use Rattle.program_ends.specs.declared.ending.Ending.TheVariants as ending
use Rattle.scenario_lines.specs.declared.answered.Answered.{Answered}
use Rattle.scenario_lines.specs.declared.script.Phase.{Phase}
use Rattle.scenario_lines.specs.declared.script.Script.{Script}
use Rattle.scenario_player.specs.Courses.{beginning, PlaysPhase, RunCourse}
use Rattle.scenario_player.specs.Plays.{IsCutIn, IsUntold, Plays, PlaysCut, PlaysPart, PlaysUnsummed, RanFirst}
use Rattle.scenario_player.specs.Wordings.{Wording}
use Rattle.run_theorem.specs.Laws.{PlayedRunsKeepBase}

module _ {D : Type 0} (told : D → Option Past) (wording : Wording) (script : Script) where
  base_each : (phases : List Phase) (s t : RunCourse D) → Each (PlaysPhase told wording script) phases s t
      → t.board.base ≡ s.board.base
  base_each [] s t same = ap (λ (c : RunCourse D). c.board.base) same
  base_each (phase ∷ phases) s t (m, plays, others) = base_each phases m t others ∙ plays.ran.goes.base

  module _ (answers : List Answered) (reports : List Report) (v w : View D) (held held' : Option (List ℕ))
      (faults faults' : ℕ) where
    base_last : (ran rest : List Phase) (s : RunCourse D) → RanFirst told wording script v ran rest s → w ≡ s.board
        → w.base ≡ v.base
    base_last ran rest s first board = ap (λ (x : View D). x.base) board ∙ base_each ran
        (beginning script v) s first.each

    base_part : PlaysPart told wording script answers reports v w held held' faults faults'
        ⊎ PlaysUnsummed told wording script answers reports v w held held' faults faults'
        → w.base ≡ v.base
    base_part (inl p) =
        ap (λ (x : View D). x.base) p.board ∙ p.plays.ran.goes.base ∙ base_each p.ran
        (beginning script v) p.before p.first.each
    base_part (inr p) = base_last p.ran p.rest p.last p.ends.first p.ends.board

    base_untold : (phase : Phase) (s : RunCourse D) → IsUntold told phase s.actors s.board w → w.base ≡ s.board.base
    base_untold phase s (inl cut) = cut.goes.base
    base_untold phase s (inr (news, parts, report, ran)) = ran.goes.base

    base_cut : (p : PlaysCut told wording script answers reports v w held held' faults faults')
        → (w ≡ p.last.board) ⊎ IsCutIn told p.last p.rest w → w.base ≡ v.base
    base_cut p (inl board) = base_last p.ran p.rest p.last p.first board
    base_cut p (inr cut) = base_untold cut.phase p.last cut.untold ∙ base_each p.ran
        (beginning script v) p.last p.first.each

    base_kept : (how : Ending) → Plays told wording script how answers reports v w held held' faults faults'
        → w.base ≡ v.base
    base_kept ending.Done p = base_last p.ran p.rest p.last p.ends.first p.ends.board
    base_kept ending.Doubt p = base_last p.ran p.rest p.last p.ends.first p.ends.board
    base_kept ending.Unwritten p = base_part p
    base_kept ending.OutOfMemory p = base_cut p p.board
    base_kept ending.Usage p = absurd p
    base_kept (ending.Script fault) p = absurd p
    base_kept ending.Read p = absurd p
    base_kept ending.Unopened p = absurd p
    base_kept (ending.NotABoard area) p = absurd p
    base_kept (ending.Damaged area at) p = absurd p
    base_kept ending.TooLong p = absurd p
    base_kept ending.Exists p = absurd p

-- the base stays
pub played_keep_base : {D : Type 0} (told : D → Option Past) → PlayedRunsKeepBase told
played_keep_base told wording script how answers reports v w held held' faults faults' plays =
    base_kept told wording script answers reports v w held held' faults faults' how plays
