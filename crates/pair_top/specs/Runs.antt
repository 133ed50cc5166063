-- A script on a pair: how far it ran, whether the standby took over, and what was printed.
use Rattle.std.specs.Prelude.{◌≡◌, ◌⊎◌, ℕ, ◌≤◌, ◌-◌, ◌+◌, nat_le, ◌&&◌, Bool, true, false, List, [], ◌++◌, length, take, Option, Some, None, if◌then◌else◌}
use Rattle.bbs_board.specs.Doubts.{doubts_in}
use Rattle.bbs_model.specs.declared.item.Item.{Item}
use Rattle.bbs_model.specs.declared.item.Item.TheVariants.{Done, Doubt}
use Rattle.bbs_model.specs.declared.rows.Rows.{Rows}
use Rattle.disk_trait.specs.Past.{Past}
use Rattle.pair_lines.specs.Answers.{summary_line}
use Rattle.pair_lines.specs.declared.answered.PairAnswered.{PairAnswered}
use Rattle.pair_lines.specs.declared.summary.PairSummary.{PairSummary}
use Rattle.pair_runs.specs.Accounts.{acknowledged_from, items_in}
use Rattle.pair_runs.specs.Phases.{PhasesEnd, PlaysPhases}
use Rattle.pair_runs.specs.Served.{ServerView}
use Rattle.pair_runs.specs.declared.phases.PhasesEnded.{PhasesEnded}
use Rattle.pair_runs.specs.declared.phases.PhasesEnded.TheVariants as ended
use Rattle.program_ends.specs.Ports.{PrintsTo}
use Rattle.program_ends.specs.declared.ending.Ending.{Ending}
use Rattle.program_ends.specs.declared.ending.Ending.TheVariants as ending
use Rattle.scenario_lines.specs.declared.script.Script.{Script}
use Rattle.pair_top.specs.Disks.{PairDisks}

-- an item is in doubt
abbrev pub is_doubt : Item → Bool
is_doubt (Done by c) = false
is_doubt (Doubt by c) = true

-- the counts of a run behind so many transitions: the transitions in the life of the board in charge are those before, and those that are done
abbrev pub counts_of : ℕ → List PairAnswered → ℕ → ℕ → PairSummary
counts_of start answers phases takeover = record {
  acknowledged = length (acknowledged_from 0 answers);
  doubts = doubts_in (items_in answers);
  next = start + (length (items_in answers) - doubts_in (items_in answers));
  phases = phases;
  takeover = takeover;
}

-- a pair that was just started, as its clients see it
abbrev pub fresh_server : Rows → ℕ → ℕ → ServerView
fresh_server base primary_faults standby_faults = record {
  base = base;
  log = [];
  copy = Some [];
  stored = 0;
  primary_faults = primary_faults;
  standby_faults = standby_faults;
}

-- the phase before which the standby took over, where so many ran and it was to take over before phase k, or 0
abbrev pub takeover_in : ℕ → ℕ → ℕ
takeover_in k phases = if nat_le 1 k && nat_le k phases then k else 0

-- how many phases come before phase k: all, where there is no such phase
abbrev pub phases_before : ℕ → ℕ → ℕ
phases_before k phases = if nat_le 1 k && nat_le k phases then k - 1 else phases

-- how the program ends whose phases ended so
abbrev pub ending_for : PhasesEnded → Ending
ending_for ended.Done = ending.Done
ending_for ended.Doubt = ending.Doubt
ending_for ended.Unwritten = ending.Unwritten
ending_for ended.OutOfMemory = ending.OutOfMemory

-- the summary was printed behind phases that ended so: whole, or up to a fault of the sink; or there was no memory for it
abbrev pub Sums : Ending → Ending → List ℕ → Option (List ℕ) → Option (List ℕ) → ℕ → ℕ → Type 0
Sums how how' line held held' faults faults' =
    ((how' ≡ how) × PrintsTo true line held held' faults faults')
    ⊎ (((how' ≡ ending.Unwritten) × PrintsTo false line held held' faults faults')
    ⊎ ((how' ≡ ending.OutOfMemory) × (held' ≡ held) × (faults' ≡ faults)))

-- the end behind phases that ended so; where not all that ran were told there is no summary
abbrev pub Finishes : PhasesEnded → Ending → List ℕ → Option (List ℕ) → Option (List ℕ) → ℕ → ℕ → Type 0
Finishes ended.Done how line held held' faults faults' = Sums ending.Done how line held held' faults faults'
Finishes ended.Doubt how line held held' faults faults' = Sums ending.Doubt how line held held' faults faults'
Finishes other how line held held' faults faults' = (how ≡ ending_for other) × (held' ≡ held) × (faults' ≡ faults)

-- all phases before phase k ran, with these answers, before the standby took over
pub record TakesOver (script : Script) (k : ℕ) (first answers : List PairAnswered) : Type 0 where
  pub within : (1 ≤ k) × (k ≤ length script.phases)
  pub text : List ℕ
  pub plays : PlaysPhases script (take (k - 1) script.phases) first text
  pub later : List PairAnswered
  pub answers_are : answers ≡ first ++ later

-- the standby took over before this phase, behind these answers, or it didn't
abbrev pub IsTakeover : Script → ℕ → ℕ → Option (List PairAnswered) → List PairAnswered → Type 0
IsTakeover script k takeover None answers = takeover ≡ 0
IsTakeover script k takeover (Some first) answers = (takeover ≡ k) × TakesOver script k first answers

-- the items before a take-over
abbrev pub items_before : Option (List PairAnswered) → Option (List Item)
items_before None = None
items_before (Some first) = Some (items_in first)

-- where the phases were all told a take-over came exactly where phase k is one of those that ran
abbrev pub IsToldTakeover : PhasesEnded → ℕ → ℕ → ℕ → Type 0
IsToldTakeover ended.Done k phases takeover = takeover ≡ takeover_in k phases
IsToldTakeover ended.Doubt k phases takeover = takeover ≡ takeover_in k phases
IsToldTakeover other k phases takeover = Unit {0}

-- the phases of a script ran on a pair with these rows, and on the standby alone behind a take-over: the answers are those
-- of their calls, in order, and their text was printed; then the summary
pub record RunsScript (script : Script) (k : ℕ) (base : Rows) (how : Ending) (answers : List PairAnswered)
    (first : Option (List PairAnswered)) (held held' : Option (List ℕ)) (faults faults' : ℕ)
    (primary primary' standby standby' : ℕ) : Type 0 where
  pub end : PhasesEnded
  pub count : ℕ
  pub last : ServerView
  pub last_primary : last.primary_faults ≤ primary'
  pub last_standby : last.standby_faults ≤ standby'
  pub mid : Option (List ℕ)
  pub mid_faults : ℕ
  pub phases : PhasesEnd script script.phases end count (fresh_server base primary standby) last [] answers
      held mid faults mid_faults
  pub takeover : ℕ
  pub takes : IsTakeover script k takeover first answers
  pub told : IsToldTakeover end k count takeover
  pub finishes : Finishes end how (summary_line (counts_of base.next answers count takeover)) mid held' mid_faults faults'

-- the same, with what a stop leaves of both disks
pub record RunsPair (script : Script) (k : ℕ) (base : Rows) (how : Ending) (answers : List PairAnswered)
    (held held' : Option (List ℕ)) (faults faults' : ℕ) (told told' standby standby' : Option Past)
    (count count' standby_count standby_count' : ℕ) : Type 0 where
  pub first : Option (List PairAnswered)
  pub runs : RunsScript script k base how answers first held held' faults faults' count count' standby_count standby_count'
  pub disks : PairDisks base (items_in answers) (acknowledged_from 0 answers) (items_before first) told told' standby standby'
