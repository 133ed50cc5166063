-- How a run ends, by what the source gave, and what the sink and the disk did.
use Rattle.std.specs.Prelude.{◌≡◌, ◌⊎◌, ℕ, ◌+◌, List, [], Option, Ok, Err}
use Rattle.std.specs.Option.{ForSome}
use Rattle.byte_ports.specs.Content.{Lost, LostAtMost}
use Rattle.disk_trait.specs.Past.{Past}
use Rattle.disk_trait.specs.Runs.{Extends}
use Rattle.disk_trait.specs.Steps.{Goes}
use Rattle.bbs_model.specs.Replay.{IsLawful}
use Rattle.bbs_model.specs.Valid.{IsValid}
use Rattle.bbs_model.specs.declared.rows.Rows.{Rows}
use Rattle.bbs_board.specs.Doubts.{doubts_in, RoseForEach}
use Rattle.bbs_board.specs.Kept.{Kept}
use Rattle.bbs_board.specs.View.{View, IsFresh}
use Rattle.bbs_board.specs.Written.{WritesOn}
use Rattle.program_ends.specs.Opening.{EndsUnopened, EndsUntouched, Opens}
use Rattle.program_ends.specs.Ports.{Ports}
use Rattle.program_ends.specs.Reading.{ReadsWhole, limit}
use Rattle.program_ends.specs.declared.ending.Ending.{Ending}
use Rattle.program_ends.specs.declared.ending.Ending.TheVariants as ending
use Rattle.scenario_lines.specs.declared.script.Script.{Script}
use Rattle.scenario_reader.specs.Accepted.{script_of}
use Rattle.scenario_reader.specs.Facts.{IsScript}
use Rattle.scenario_player.specs.Plays.{Plays}
use Rattle.scenario_player.specs.Wordings.{Wording}
use Rattle.program_run.specs.declared.ended.Ended.{Ended}

-- nothing was done
pub record IsEmpty (e : Ended) : Type 0 where
  pub log : e.log.items ≡ []
  pub marks : e.marks.items ≡ []
  pub answers : e.answers.items ≡ []
  pub reports : e.reports.items ≡ []

-- what is told of the disk is that of a board's
pub record IsOn {D : Type 0} (told : D → Option Past) (faults moment : D → ℕ) (board : View D) (v : Ports) : Type 0 where
  pub told_is : v.told ≡ told board.disk
  pub faults_are : v.disk_faults ≡ faults board.disk
  pub clock_is : v.clock ≡ moment board.disk

-- a scenario was played on a board with these rows, which was loaded then and did nothing before, and was closed; each
-- command in the log that it left is legal at its place, whatever a stop leaves of the disk from then on is a board that
-- the log reaches with what was acknowledged, and each doubt in the log has a fault of the disk for its cause; where
-- nothing is in doubt the disk reads as it did, with the items of the log behind it
pub record PlaysOn {D : Type 0} (told : D → Option Past) (faults moment : D → ℕ) (wording : Wording) (script : Script)
    (rows : Rows) (how : Ending) (e : Ended) (v w : Ports) : Type 0 where
  pub board : View D
  pub left : View D
  pub base : board.base ≡ rows
  pub fresh : IsFresh board
  pub since : board.since ≡ v.clock
  pub opened : IsOn told faults moment board v
  pub closed : IsOn told faults moment left w
  pub plays : Plays told wording script how e.answers.items e.reports.items board left v.held w.held v.write_faults w.write_faults
  pub log : e.log.items ≡ left.log
  pub marks : e.marks.items ≡ left.marks
  pub extends : Goes v.told w.told Extends
  pub writes : doubts_in e.log.items ≡ 0 → Goes v.told w.told (WritesOn rows e.log.items)
  pub valid : IsValid rows
  pub lawful : IsLawful rows e.log.items
  pub kept : ForSome w.told (Kept rows e.log.items e.marks.items v.clock)
  pub doubts : RoseForEach (doubts_in e.log.items) v.disk_faults w.disk_faults

-- a board was opened, and the scenario played on it
pub record EndsLate {D : Type 0} (told : D → Option Past) (faults moment : D → ℕ) (wording : Wording) (script : Script)
    (how : Ending) (e : Ended) (v w : Ports) : Type 0 where
  pub rows : Rows
  pub between : Ports
  pub opens : Opens rows v between
  pub plays : PlaysOn told faults moment wording script rows how e between w

-- no board was opened, and nothing was done
abbrev pub EndsIdle : Ending → Ended → Ports → Ports → Type 0
EndsIdle how e v w = IsEmpty e × EndsUnopened how v w

-- nothing was done, and the disk wasn't looked at
abbrev pub EndsUnseen : Ending → Ended → Ports → Ports → Type 0
EndsUnseen how e v w = IsEmpty e × EndsUntouched how v w

-- how the run of a scenario ends
abbrev pub ScriptEnds : {D : Type 0} → (D → Option Past) → (D → ℕ) → (D → ℕ) → Wording → Script → Ending → Ended →
    Ports → Ports → Type 0
ScriptEnds told faults moment wording script ending.Done e v w =
    EndsLate told faults moment wording script ending.Done e v w
ScriptEnds told faults moment wording script ending.Doubt e v w =
    EndsLate told faults moment wording script ending.Doubt e v w
ScriptEnds told faults moment wording script ending.Unwritten e v w =
    EndsLate told faults moment wording script ending.Unwritten e v w
ScriptEnds told faults moment wording script ending.OutOfMemory e v w =
    EndsLate told faults moment wording script ending.OutOfMemory e v w ⊎ EndsIdle ending.OutOfMemory e v w
ScriptEnds told faults moment wording script other e v w = EndsIdle other e v w

-- the source gave a scenario, whose run ended so
pub record RunsScript {D : Type 0} (told : D → Option Past) (faults moment : D → ℕ) (wording : Wording) (how : Ending)
    (e : Ended) (left left' : Option (List ℕ)) (v w : Ports) : Type 0 where
  pub script : Script
  pub reads : ReadsWhole script_of (Ok script) left left'
  pub sound : IsScript script
  pub ends : ScriptEnds told faults moment wording script how e v w

-- how a run ends
abbrev pub RunEnds : {D : Type 0} → (D → Option Past) → (D → ℕ) → (D → ℕ) → Wording → Ending → Ended →
    Option (List ℕ) → Option (List ℕ) → Ports → Ports → Type 0
RunEnds told faults moment wording (ending.Script fault) e left left' v w =
    EndsUnseen (ending.Script fault) e v w × ReadsWhole script_of (Err fault) left left'
RunEnds told faults moment wording ending.Read e left left' v w =
    EndsUnseen ending.Read e v w × LostAtMost left left' limit
RunEnds told faults moment wording ending.TooLong e left left' v w =
    EndsUnseen ending.TooLong e v w × Lost left left' (limit + 1)
RunEnds told faults moment wording ending.OutOfMemory e left left' v w =
    RunsScript told faults moment wording ending.OutOfMemory e left left' v w
    ⊎ (EndsIdle ending.OutOfMemory e v w × LostAtMost left left' limit)
RunEnds told faults moment wording how e left left' v w = RunsScript told faults moment wording how e left left' v w
