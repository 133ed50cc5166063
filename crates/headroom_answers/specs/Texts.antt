-- The text of all answers to a dump, and their worst verdict.
use Rattle.std.specs.Prelude.{ℕ, List}
use Rattle.dump_reader.specs.declared.dump.Dump.{Dump}
use Rattle.dump_reader.specs.declared.dump.LineCounts.{LineCounts}
use Rattle.forecast_records.specs.declared.verdict.Verdict.{Verdict}
use Rattle.headroom_engine.specs.declared.words.Asked.{Asked}
use Rattle.headroom_engine.specs.declared.words.Asked.TheVariants.{Lines, Table}
use Rattle.headroom_print.specs.Lines.{lines_text}
use Rattle.headroom_print.specs.Worst.{worst}
use Rattle.headroom_tables.specs.Text.{tables_text}
use Rattle.headroom_answers.specs.Findings.{told_of}
use Rattle.headroom_answers.specs.declared.told.Told.{Told}

-- what is told, in the form that is asked for
unfoldable pub text_in : Asked → LineCounts → Told → List ℕ
text_in Lines counts told = lines_text counts told.notes told.found
text_in Table counts told = tables_text counts told.notes told.found

-- the text of a dump, in that form
unfoldable pub text_of : Asked → Dump → List ℕ
text_of asked dump = text_in asked dump.counts (told_of dump)

-- the worst verdict of its answers
unfoldable pub verdict_of : Dump → Verdict
verdict_of dump = worst (told_of dump).found
