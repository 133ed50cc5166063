-- The answers to all that is asked of a dump.
use Rattle.std.specs.Prelude.{ℕ, List, ◌++◌, map}
use Rattle.std.specs.List.{flat_map}
use Rattle.diego_names.specs.Order.{name_order}
use Rattle.row_tables.specs.Table.{table}
use Rattle.dump_lines.specs.declared.question.Question.{Question}
use Rattle.dump_lines.specs.declared.question.Question.TheVariants.{Show, Lose, LoseEach, LoseInTurn, Drain, Fit}
use Rattle.dump_reader.specs.declared.dump.Asked.{Asked}
use Rattle.dump_reader.specs.declared.dump.Dump.{Dump}
use Rattle.forecast_records.specs.declared.finding.Finding.{Finding}
use Rattle.forecast_records.specs.declared.finding.Finding.TheVariants.{Show as Shows, Lose as Loses, LoseEach as LosesEach, LoseInTurn as LosesInTurn, Drain as Drains, Fit as Fits}
use Rattle.forecast_records.specs.declared.finding.Found.{Found}
use Rattle.site_answers.specs.Losses.{cells_of_zone, lost_of}
use Rattle.site_answers.specs.Notes.{notes_of}
use Rattle.site_answers.specs.Shows.{shown_of}
use Rattle.what_if.specs.Sites.{proxy_of, site_of}
use Rattle.what_if.specs.declared.site.Site.{Site}
use Rattle.loss_cases.specs.Cases.{each_lost}
use Rattle.cell_drains.specs.Drained.{drain}
use Rattle.loss_cases.specs.Fits.{fit}
use Rattle.loss_cases.specs.Turns.{turns}
use Rattle.headroom_answers.specs.declared.told.Told.{Told}

-- the cells of the zones, of which each counts once
abbrev pub cells_of_zones : Site → List (List ℕ) → List (List ℕ)
cells_of_zones site zones = flat_map (cells_of_zone site) (table name_order (λ z. z) zones)

-- these cells and those of the zones, by name, each once
abbrev pub cells_lost : Site → List (List ℕ) → List (List ℕ) → List (List ℕ)
cells_lost site cells zones = table name_order (λ c. c) (cells ++ cells_of_zones site zones)

-- the answer to a question, where the proxy beside an instance takes so much memory
abbrev pub finding_of : Site → ℕ → Question → Finding
finding_of site proxy Show = Shows (shown_of site)
finding_of site proxy (Lose cells zones) = Loses (lost_of site (cells_lost site cells zones))
finding_of site proxy (LoseEach of) = LosesEach (each_lost site of)
finding_of site proxy (LoseInTurn order at_least) = LosesInTurn (turns site order at_least)
finding_of site proxy (Drain at_a_time cells) = Drains (drain site at_a_time cells)
finding_of site proxy (Fit process instances demand) = Fits (fit site proxy process instances demand)

-- the answer to the question of a line
abbrev pub found_of : Site → ℕ → Asked → Found
found_of site proxy asked = record { line = asked.line; finding = finding_of site proxy asked.question }

-- the answer to each question of a dump, in the order of their lines
abbrev pub findings_of : Site → Dump → List Found
findings_of site dump = map (found_of site (proxy_of dump)) dump.questions

-- what a dump tells that is modelled otherwise, and the answer to each of its questions
abbrev pub told_of : Dump → Told
told_of dump = record { notes = notes_of dump; found = findings_of (site_of dump) dump }
