-- What the run of the scenario of a number comes to, which begins without rows.
use Rattle.std.specs.Prelude.{◌≡◌, ◌⊎◌, ℕ, Bool, true, false, List, length, Option, Ok}
use Rattle.std.specs.List.{list_all}
use Rattle.bbs_board.specs.Doubts.{doubts_in}
use Rattle.bbs_model.specs.Replay.{IsLawful, replay_log}
use Rattle.bbs_model.specs.Tables.{no_rows}
use Rattle.bbs_model.specs.declared.item.Item.{Item}
use Rattle.bbs_model.specs.declared.item.Item.TheVariants.{Done, Doubt}
use Rattle.program_ends.specs.Ports.{PrintsTo}
use Rattle.program_ends.specs.declared.ending.Ending.{Ending}
use Rattle.program_ends.specs.declared.ending.Ending.TheVariants as ending
use Rattle.program_run.specs.Runs.{IsEmpty}
use Rattle.program_run.specs.declared.ended.Ended.{Ended}
use Rattle.record_print.specs.Printed.{line_text, summary_data}
use Rattle.record_print.specs.declared.summary.Summary.{Summary}
use Rattle.run_theorem.specs.Headline.{IsFaithful}
use Rattle.scenario_lines.specs.declared.script.Script.{Script}
use Rattle.scenario_maker.specs.Generated.{generated}
use Rattle.scenario_reader.specs.Accepted.{script_of}

-- the item was done, and is no doubt
abbrev pub is_done : Item → Bool
is_done (Done by command) = true
is_done (Doubt by command) = false

-- nothing in the log is in doubt
abbrev pub is_calm : List Item → Bool
is_calm log = list_all (λ item. is_done item) log

-- the counts of a run that began without rows, left this log without a doubt, and had so many phases
abbrev pub counts_of : List Item → ℕ → Summary
counts_of log phases = record {
  done = length log;
  doubts = 0;
  next = (replay_log no_rows log).next;
  phases = phases;
}

-- the line that tells them
abbrev pub summary_line : List Item → ℕ → List ℕ
summary_line log phases = line_text (summary_data (counts_of log phases))

-- the text is a scenario, which ran on a board without rows and ended so: each command of the log is legal at its place,
-- nothing is in doubt, and the answers, the reports and the log are faithful to the scenario
pub record RanText (text : List ℕ) (how : Ending) (e : Ended) : Type 0 where
  pub script : Script
  pub says : script_of text ≡ Ok script
  pub lawful : IsLawful no_rows e.log.items
  pub calm : doubts_in e.log.items ≡ 0
  pub marked : length e.marks.items ≡ length e.log.items
  pub faithful : IsFaithful script how e.answers.items e.reports.items no_rows e.log.items

-- all of a text ran, and these bytes are its summary
pub record RanWhole (text : List ℕ) (e : Ended) (bytes : List ℕ) : Type 0 where
  pub ran : RanText text ending.Done e
  pub summary : bytes ≡ summary_line e.log.items (length ran.script.phases)

-- how the run of a text ends whose disk and sink are in memory: whole; or it had no memory, and did nothing, or something
-- that may be in doubt; or otherwise, and nothing is told of that
abbrev pub TextEnds : List ℕ → Ending → Ended → List ℕ → Type 0
TextEnds text ending.Done e bytes = RanWhole text e bytes
TextEnds text ending.OutOfMemory e bytes = (is_calm e.log.items ≡ true → RanText text ending.OutOfMemory e) ⊎ IsEmpty e
TextEnds text other e bytes = Unit {0}

-- how it ends whose summary was printed, whole or not
abbrev pub ending_by : Bool → Ending
ending_by true = ending.Done
ending_by false = ending.Unwritten

-- nothing but the ending has changed: the summary was printed, whole or up to a fault of the sink, as it says
pub record PrintsSummary (e e' : Ended) (summary : List ℕ) (held held' : Option (List ℕ)) (faults faults' : ℕ) : Type 0 where
  pub whole : Bool
  pub ended : e' ≡ record e { ending = ending_by whole }
  pub prints : PrintsTo whole summary held held' faults faults'

-- each phase of the scenario of a number ran, and its summary was printed, whole or up to a fault of the sink
pub record RanLarge (number : ℕ) (whole : Bool) (e : Ended) (held held' : Option (List ℕ)) (faults faults' : ℕ) : Type 0 where
  pub ran : RanText (generated number) ending.Done e
  pub prints : PrintsTo whole (summary_line e.log.items (length ran.script.phases)) held held' faults faults'

-- memory ran out: nothing was printed, and what was done is told, or nothing is
pub record StarvedLarge (number : ℕ) (e : Ended) (held held' : Option (List ℕ)) (faults faults' : ℕ) : Type 0 where
  pub same_sink : (held' ≡ held) × (faults' ≡ faults)
  pub did : RanText (generated number) ending.OutOfMemory e ⊎ IsEmpty e

-- how the run of the scenario of a number ends, and what it gives back and prints
abbrev pub LargeEnds : ℕ → Ending → Ended → Option (List ℕ) → Option (List ℕ) → ℕ → ℕ → Type 0
LargeEnds number ending.Done e held held' faults faults' = RanLarge number true e held held' faults faults'
LargeEnds number ending.Unwritten e held held' faults faults' = RanLarge number false e held held' faults faults'
LargeEnds number ending.OutOfMemory e held held' faults faults' = StarvedLarge number e held held' faults faults'
LargeEnds number other e held held' faults faults' = ⊥
