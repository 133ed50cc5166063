-- In what words the phases of a run are told.
use Rattle.std.specs.Prelude.{ℕ, List, length, drop, Option}
use Rattle.std.specs.List.{flat_map}
use Rattle.bbs_model.specs.Told.{each_event, told_in}
use Rattle.bbs_model.specs.declared.event.Event.{Event}
use Rattle.bbs_model.specs.declared.item.Item.{Item}
use Rattle.bbs_model.specs.declared.rows.Rows.{Rows}
use Rattle.convergence.specs.declared.report.Report.{Report}
use Rattle.scenario_lines.specs.declared.answered.Answered.{Answered}
use Rattle.scenario_lines.specs.declared.script.Phase.{Phase}
use Rattle.scenario_lines.specs.declared.script.Script.{Script}
use Rattle.phase_text.specs.Sorting.{by_key}
use Rattle.phase_text.specs.Texts.{phase_words}

-- what is told of a phase: by the script, the phase, its answers by line and its report, the rows that the board was
-- opened with, the log before the phase and the log behind it
abbrev pub Wording : Type 0
Wording = Script → Phase → List Answered → Option Report → Rows → List Item → List Item → List ℕ

-- the events of the items from a place of a log on
abbrev pub events_from : Rows → List Item → ℕ → List Event
events_from base log from = flat_map each_event (drop from (told_in base log))

-- all of it: each answer, the report, and each event by its key
abbrev pub whole_wording : Wording
whole_wording script phase answers report base before after =
    phase_words script phase answers report (by_key (events_from base after (length before)))
