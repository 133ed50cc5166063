-- What a planner finds out, as text and tables for people.
use Rattle.std.specs.Prelude.{ℕ, List, ◌++◌}
use Rattle.std.specs.List.{flat_map}
use Rattle.dump_reader.specs.declared.dump.LineCounts.{LineCounts}
use Rattle.forecast_records.specs.declared.finding.Finding.{Finding}
use Rattle.forecast_records.specs.declared.finding.Finding.TheVariants as finding
use Rattle.forecast_records.specs.declared.finding.Found.{Found}
use Rattle.forecast_records.specs.declared.notes.Notes.{Notes}
use Rattle.headroom_tables.specs.DrainTables.{drain_text}
use Rattle.headroom_tables.specs.DumpLines.{dump_parts, notes_text}
use Rattle.headroom_tables.specs.EachTable.{each_text}
use Rattle.headroom_tables.specs.FitTables.{fit_text}
use Rattle.headroom_tables.specs.Layout.{text_line}
use Rattle.headroom_tables.specs.LoseTables.{lose_text}
use Rattle.headroom_tables.specs.ShowTables.{show_text}
use Rattle.headroom_tables.specs.TurnTables.{turns_text}

-- the answer to a question
abbrev pub finding_text : Finding → List ℕ
finding_text (finding.Show shown) = show_text shown
finding_text (finding.Lose lost) = lose_text lost
finding_text (finding.LoseEach each) = each_text each
finding_text (finding.LoseInTurn turns) = turns_text turns
finding_text (finding.Drain drained) = drain_text drained
finding_text (finding.Fit fitted) = fit_text fitted

-- the same of what was found; its line isn't told
abbrev pub found_text : Found → List ℕ
found_text found = finding_text found.finding

-- all of it: the counts of the dump, the notes on it, and the answers
abbrev pub tables_text : LineCounts → Notes → List Found → List ℕ
tables_text counts notes found =
    text_line (dump_parts counts) ++ (notes_text notes ++ flat_map found_text found)
