-- What the program tells: its status and its text are a function of the word and of the bytes that it reads.
use Rattle.std.specs.Prelude.{ℕ, List, Result, Ok, Err}
use Rattle.dump_reader.specs.Accepted.{dump_of}
use Rattle.dump_reader.specs.Faults.{FaultAt}
use Rattle.dump_reader.specs.declared.dump.Dump.{Dump}
use Rattle.forecast_records.specs.declared.verdict.Verdict.{Verdict}
use Rattle.forecast_records.specs.declared.verdict.Verdict.TheVariants.{Room, Unplaced, Short}
use Rattle.headroom_engine.specs.Ending.{fault_line}
use Rattle.headroom_engine.specs.declared.words.Asked.{Asked}

-- what the program comes to, unless a port fails or memory runs out: its status, and what it prints
pub record Telling : Type 0 where
  pub status : ℕ
  pub text : List ℕ

-- the status of answers with this verdict
abbrev pub verdict_status : Verdict → ℕ
verdict_status Room = 0
verdict_status Unplaced = 10
verdict_status Short = 10

-- the text of the answers to a dump, and their worst verdict
module _ (text : Asked → Dump → List ℕ) (verdict : Dump → Verdict) where
  -- what is told of a dump, or of the first fault of bytes that are none
  abbrev pub telling_of : Asked → Result Dump FaultAt → Telling
  telling_of asked (Ok dump) = record { status = verdict_status (verdict dump); text = text asked dump }
  telling_of asked (Err fault) = record { status = 2; text = fault_line fault }

  -- what is told of bytes
  abbrev pub telling_for : Asked → List ℕ → Telling
  telling_for asked bytes = telling_of asked (dump_of bytes)
