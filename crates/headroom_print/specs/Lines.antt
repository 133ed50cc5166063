-- What a planner finds out, as lines of JSON: the dump's counts, its notes, and each answer with what is under it.
use Rattle.std.specs.Prelude.{ℕ, List, ◌++◌}
use Rattle.std.specs.List.{flat_map}
use Rattle.dump_reader.specs.declared.dump.LineCounts.{LineCounts}
use Rattle.forecast_records.specs.declared.finding.Finding.{Finding}
use Rattle.forecast_records.specs.declared.finding.Finding.TheVariants as finding
use Rattle.forecast_records.specs.declared.finding.Found.{Found}
use Rattle.forecast_records.specs.declared.notes.Notes.{Notes}
use Rattle.headroom_print.specs.DrainLines.{drain_lines}
use Rattle.headroom_print.specs.DumpLines.{dump_line, notes_lines}
use Rattle.headroom_print.specs.EachLines.{lose_each_lines}
use Rattle.headroom_print.specs.FitLines.{fit_lines}
use Rattle.headroom_print.specs.LoseLines.{lose_lines}
use Rattle.headroom_print.specs.ShowLines.{show_lines}
use Rattle.headroom_print.specs.TurnLines.{lose_in_turn_lines}

-- the answer to the question of a line, and what is under it
abbrev pub finding_lines : ℕ → Finding → List ℕ
finding_lines line (finding.Show shown) = show_lines line shown
finding_lines line (finding.Lose lost) = lose_lines line lost
finding_lines line (finding.LoseEach each) = lose_each_lines line each
finding_lines line (finding.LoseInTurn turns) = lose_in_turn_lines line turns
finding_lines line (finding.Drain drained) = drain_lines line drained
finding_lines line (finding.Fit fitted) = fit_lines line fitted

-- the same of what was found
abbrev pub found_lines : Found → List ℕ
found_lines found = finding_lines found.line found.finding

-- all lines
abbrev pub lines_text : LineCounts → Notes → List Found → List ℕ
lines_text counts notes found = dump_line counts ++ (notes_lines notes ++ flat_map found_lines found)
