-- What comes of a take-over: the phases behind it run on the board that took over, or there was no memory for it.
use Rattle.std.specs.Prelude.{◌≡◌, ◌⊎◌, ℕ, ◌+◌, ◌-◌, List, Option}
use Rattle.disk_trait.specs.Past.{Past}
use Rattle.disk_trait.specs.Runs.{Extends}
use Rattle.disk_trait.specs.Steps.{Goes}
use Rattle.fenced_board.specs.Fences.{FencedView}
use Rattle.pair_lines.specs.Answers.{summary_line}
use Rattle.pair_lines.specs.declared.answered.PairAnswered.{PairAnswered}
use Rattle.pair_runs.specs.Phases.{PhasesEnd}
use Rattle.pair_runs.specs.declared.phases.PhasesEnded.{PhasesEnded}
use Rattle.program_ends.specs.declared.ending.Ending.{Ending}
use Rattle.program_ends.specs.declared.ending.Ending.TheVariants as ending
use Rattle.scenario_lines.specs.declared.script.Phase.{Phase}
use Rattle.scenario_lines.specs.declared.script.Script.{Script}
use Rattle.standby_board.specs.Ends.{IsTaken}
use Rattle.standby_board.specs.Pairs.{IsKeptBoard, PairView, StandsPaired}
use Rattle.pair_top.specs.Boards.{LeavesPair}
use Rattle.pair_top.specs.Runs.{Finishes, counts_of}
use Rattle.pair_top.specs.Servers.{alone_server}

module _ {E : Type 0} (told : E → Option Past) (faults : E → ℕ) where
  -- phases ran on a board that took over before phase k, behind these answers, and it was closed then
  pub record RunsAlone (script : Script) (phases : List Phase) (k start : ℕ) (board : FencedView E)
      (before answers : List PairAnswered) (how : Ending) (held held' : Option (List ℕ)) (writes writes' : ℕ)
      (standby : E) : Type 0 where
    pub end : PhasesEnded
    pub count : ℕ
    pub last : FencedView E
    pub base : last.board.base ≡ board.board.base
    pub since : last.board.since ≡ board.board.since
    pub goes : Goes (told board.board.disk) (told last.board.disk) Extends
    pub mid : Option (List ℕ)
    pub mid_writes : ℕ
    pub phases_end : PhasesEnd script phases end count (alone_server faults board) (alone_server faults last)
        before answers held mid writes mid_writes
    pub finishes : Finishes end how (summary_line (counts_of start answers (k - 1 + count) k)) mid held' mid_writes writes'
    pub kept : IsKeptBoard told faults last.board
    pub standby_is : standby ≡ last.board.disk

module _ {D E : Type 0} (told : D → Option Past) (faults : D → ℕ) (told' : E → Option Past) (faults' moment' : E → ℕ) where
  -- the standby of a pair took over before phase k, and the phases from there on ran on it
  pub record TakesPairOver (script : Script) (phases : List Phase) (k start : ℕ) (pair : PairView D E)
      (before answers : List PairAnswered) (how : Ending) (held held' : Option (List ℕ)) (writes writes' : ℕ)
      (primary : D) (standby : E) : Type 0 where
    pub number : ℕ
    pub board : FencedView E
    pub taken : IsTaken number pair board
    pub runs : RunsAlone told' faults' script phases k start board before answers how held held' writes writes' standby
    pub stands : StandsPaired told told' pair
    pub kept : IsKeptBoard told faults pair.primary
    pub primary_is : primary ≡ pair.primary.disk

  -- there was no memory for a pair to go on: it was closed, and nothing more was printed
  pub record Starves (pair : PairView D E) (before answers : List PairAnswered) (how : Ending)
      (held held' : Option (List ℕ)) (writes writes' : ℕ) (primary : D) (standby : E) : Type 0 where
    pub answers_are : answers ≡ before
    pub how_is : how ≡ ending.OutOfMemory
    pub silent : (held' ≡ held) × (writes' ≡ writes)
    pub leaves : LeavesPair told faults told' faults' moment' pair before primary standby
    pub disks : (primary ≡ pair.primary.disk) × (standby ≡ pair.standby.disk)

  -- the one or the other
  abbrev pub HandsOver : Script → List Phase → ℕ → ℕ → PairView D E → List PairAnswered → List PairAnswered → Ending
      → Option (List ℕ) → Option (List ℕ) → ℕ → ℕ → D → E → Type 0
  HandsOver script phases k start pair before answers how held held' writes writes' primary standby =
      TakesPairOver script phases k start pair before answers how held held' writes writes' primary standby
      ⊎ Starves pair before answers how held held' writes writes' primary standby
