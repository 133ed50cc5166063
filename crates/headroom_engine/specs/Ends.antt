-- How the program ends, by what it was asked, what the source gave, and what the sink did.
use Rattle.std.specs.Prelude.{◌≡◌, ℕ, ◌+◌, true, List, Option, Some, None, Ok, Err}
use Rattle.std.specs.Io.KnownBytes.{Appends}
use Rattle.byte_ports.specs.Cause.{HasCause, Rose}
use Rattle.byte_ports.specs.Content.{Lost, LostAtMost}
use Rattle.dump_reader.specs.Facts.{IsDump}
use Rattle.dump_reader.specs.Faults.{at}
use Rattle.dump_reader.specs.declared.dump.Dump.{Dump}
use Rattle.dump_reader.specs.declared.fault.DumpFault.{DumpFault}
use Rattle.forecast_records.specs.declared.verdict.Verdict.{Verdict}
use Rattle.headroom_engine.specs.Ending.{constant_line, fault_line, status_of}
use Rattle.headroom_engine.specs.Ports.{IsUnread, Ports, Prints, PrintsNothing, PrintsPart, PrintsWhole, ports_of}
use Rattle.headroom_engine.specs.Reading.{ReadsWhole, limit}
use Rattle.headroom_engine.specs.Telling.{Telling, verdict_status}
use Rattle.headroom_engine.specs.declared.ending.Ending.{Ending}
use Rattle.headroom_engine.specs.declared.ending.Ending.TheVariants as ending
use Rattle.headroom_engine.specs.declared.headroom_end.HeadroomEnd.{HeadroomEnd}
use Rattle.headroom_engine.specs.declared.words.Asked.{Asked}

-- no fault of a port was counted meanwhile
abbrev pub NoFault : ℕ → ℕ → Type 0
NoFault faults faults' = Rose faults faults' → ⊥

-- the source gave this dump, and didn't fail
pub record GivesDump (dump : Dump) (v w : Ports) : Type 0 where
  pub reads : ReadsWhole (Ok dump) v.left w.left
  pub no_fault : w.read_faults ≡ v.read_faults
  pub sound : IsDump dump

-- the source gave bytes with this first fault, and its line was printed
pub record TellsFault (fault : DumpFault) (line : ℕ) (v w : Ports) : Type 0 where
  pub reads : ReadsWhole (Err (at fault line)) v.left w.left
  pub no_fault : w.read_faults ≡ v.read_faults
  pub prints : Prints (fault_line (at fault line)) v w

-- the source failed, and that was printed
pub record TellsRead (v w : Ports) : Type 0 where
  pub lost : LostAtMost v.left w.left limit
  pub fault : HasCause true v.read_faults w.read_faults
  pub prints : Prints (constant_line ending.Read) v w

-- the source gave a byte too much, and that was printed
pub record TellsTooLong (v w : Ports) : Type 0 where
  pub lost : Lost v.left w.left (limit + 1)
  pub no_fault : w.read_faults ≡ v.read_faults
  pub prints : Prints (constant_line ending.TooLong) v w

-- memory ran out: what was read is gone from the source, and nothing was printed
pub record TellsNothing (v w : Ports) : Type 0 where
  pub lost : LostAtMost v.left w.left limit
  pub no_fault : w.read_faults ≡ v.read_faults
  pub unwritten : PrintsNothing v w

-- the text of the answers to a dump, and their worst verdict
module _ (text : Asked → Dump → List ℕ) (verdict : Dump → Verdict) where
  -- the source gave a dump, and the whole text of its answers was printed; their verdict has this status
  pub record TellsWhole (asked : Asked) (status : ℕ) (v w : Ports) : Type 0 where
    pub dump : Dump
    pub gives : GivesDump dump v w
    pub status_is : verdict_status (verdict dump) ≡ status
    pub prints : PrintsWhole (text asked dump) v w

  -- the source gave a dump, and a first part of the text of its answers was printed
  pub record TellsPart (asked : Asked) (v w : Ports) : Type 0 where
    pub dump : Dump
    pub gives : GivesDump dump v w
    pub prints : PrintsPart (text asked dump) v w

  -- how the program ends that was asked so
  abbrev pub EndsBy : Ending → Asked → Ports → Ports → Type 0
  EndsBy ending.Room asked v w = TellsWhole asked 0 v w
  EndsBy ending.NoRoom asked v w = TellsWhole asked 10 v w
  EndsBy ending.Unwritten asked v w = TellsPart asked v w
  EndsBy (ending.Faulty fault line) asked v w = TellsFault fault line v w
  EndsBy ending.Read asked v w = TellsRead v w
  EndsBy ending.TooLong asked v w = TellsTooLong v w
  EndsBy ending.OutOfMemory asked v w = TellsNothing v w
  EndsBy ending.Usage asked v w = ⊥

  -- how it ends that was asked nothing that it knows
  abbrev pub EndsUnasked : Ending → Ports → Ports → Type 0
  EndsUnasked ending.Usage v w = IsUnread v w × Prints (constant_line ending.Usage) v w
  EndsUnasked other v w = ⊥

  -- how the program ends
  abbrev pub ProgramEnds : Ending → Option Asked → Ports → Ports → Type 0
  ProgramEnds how (Some asked) v w = EndsBy how asked v w
  ProgramEnds how None v w = EndsUnasked how v w

-- it ended with the status of what is told, and all of that was printed
pub record TellsAll (told : Telling) (status : ℕ) (held held' : Option (List ℕ)) : Type 0 where
  pub status_is : status ≡ told.status
  pub all : Appends held held' told.text

-- what is told of a source and a sink
module _ {S K : Type 0} (left : S → Option (List ℕ)) (read_faults : S → ℕ) (held : K → Option (List ℕ)) (write_faults : K → ℕ) where
  -- what both tell at one moment
  abbrev pub ports_now : S → K → Ports
  ports_now source sink = ports_of (left source) (read_faults source) (held sink) (write_faults sink)

  module _ (text : Asked → Dump → List ℕ) (verdict : Dump → Verdict) where
    -- how the program ends that was asked for this and was given these, by what it hands back
    abbrev pub EndsAt : Option Asked → S → K → HeadroomEnd S K → Type 0
    EndsAt what source sink end =
        (how : Ending) × (end.status ≡ status_of how)
        × ProgramEnds text verdict how what (ports_now source sink) (ports_now end.source end.sink)

    -- it was asked for a text of answers, and the whole of it was printed; their verdict has this status
    abbrev pub TellsWholeAt : ℕ → Option Asked → S → K → HeadroomEnd S K → Type 0
    TellsWholeAt status what source sink end =
        (asked : Asked) × (what ≡ Some asked)
        × TellsWhole text verdict asked status (ports_now source sink) (ports_now end.source end.sink)

    -- the same of a first part of it
    abbrev pub TellsPartAt : Option Asked → S → K → HeadroomEnd S K → Type 0
    TellsPartAt what source sink end =
        (asked : Asked) × (what ≡ Some asked)
        × TellsPart text verdict asked (ports_now source sink) (ports_now end.source end.sink)
