-- A run whose phases are serial, each with one actor or a round alone: what it does and tells is a function of the
-- scenario and of the board.
use Rattle.std.specs.Prelude.{◌≡◌, true, ℕ, List, [], Option, Ok}
use Rattle.disk_trait.specs.Past.{Past, Image}
use Rattle.disk_trait.specs.Shows.{Shows}
use Rattle.disk_trait.specs.Steps.{Goes}
use Rattle.bbs_board.specs.Opening.{IsBoard}
use Rattle.bbs_board.specs.Written.{WritesOn}
use Rattle.bbs_model.specs.declared.rows.Rows.{Rows}
use Rattle.program_ends.specs.Ports.{IsTold, Ports, Prints}
use Rattle.program_ends.specs.Reading.{ReadsWhole}
use Rattle.program_ends.specs.declared.ending.Ending.{Ending}
use Rattle.program_ends.specs.declared.top_end.TopEnd.{TopEnd}
use Rattle.program_run.specs.declared.ended.Ended.{Ended}
use Rattle.scenario_lines.specs.declared.script.Script.{Script}
use Rattle.scenario_player.specs.Wordings.{Wording}
use Rattle.scenario_reader.specs.Accepted.{script_of}
use Rattle.program_tools.specs.declared.words.Asked.{Asked}
use Rattle.run_function.specs.Boards.{SoleBoard}
use Rattle.run_function.specs.Scripts.{IsSerialScript, SoleCourse, script_alone, words_alone}
use Rattle.diego_engine.specs.Top.{run_of, ports_now, wording_of}

-- a board with these rows, on which nothing was done yet
abbrev pub opened_with : Rows → SoleBoard
opened_with rows = record { base = rows; log = [] }

-- what a scenario comes to on a board with these rows
abbrev pub course_on : Wording → Script → Rows → SoleCourse
course_on wording script rows = script_alone wording script (opened_with rows)

-- the answers, the reports, the log and the whole text are what the scenario comes to on that board, and the disk reads
-- as it did, with each item behind that was done
pub record IsSerialRun (wording : Wording) (script : Script) (rows : Rows) (e : Ended) (v w : Ports) : Type 0 where
  pub answers_are : e.answers.items ≡ (course_on wording script rows).answers
  pub reports_are : e.reports.items ≡ (course_on wording script rows).reports
  pub log_is : e.log.items ≡ (course_on wording script rows).board.log
  pub prints : Prints true (words_alone wording script (opened_with rows)) v w
  pub writes : Goes v.told w.told (WritesOn rows e.log.items)

-- a scenario was read and a board with these rows opened; and if its phases are serial, all else follows from the two
pub record RunsSerially (wording : Wording) (e : Ended) (left left' : Option (List ℕ)) (v w : Ports) : Type 0 where
  pub script : Script
  pub rows : Rows
  pub reads : ReadsWhole script_of (Ok script) left left'
  pub opened : (image : Image) → Shows v.told image → IsTold w.told → IsBoard rows image
  pub serial : IsSerialScript script → IsSerialRun wording script rows e v w

-- what is told of a source, a sink and a disk
module _ {S K D : Type 0} (left : S → Option (List ℕ)) (held : K → Option (List ℕ)) (write_faults : K → ℕ)
    (told : D → Option Past) (faults moment : D → ℕ) where
  -- so did a run that was asked for so and was given these, by what it hands back
  abbrev pub RunsSeriallyAt : Option Asked → S → K → D → TopEnd S K D → Type 0
  RunsSeriallyAt what source sink disk end =
      (how : Ending) × RunsSerially (wording_of what) (run_of how end)
      (left source) (left end.source) (ports_now held write_faults told faults moment sink disk)
      (ports_now held write_faults told faults moment end.sink end.disk)
