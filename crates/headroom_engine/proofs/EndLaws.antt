-- What each status says, from how the program ends.
use Rattle.std.proofs.Common.{◌≡◌, ℕ, ◌+◌, List, Option, Some, None, refl, subst, arith}
use Rattle.std.specs.Prelude.{◌==◌}
use Rattle.byte_ports.specs.Cause.{HasCause}
use Rattle.byte_ports.specs.Content.{Lost}
use Rattle.dump_reader.specs.declared.dump.Dump.{Dump}
use Rattle.dump_reader.specs.declared.fault.DumpFault.{DumpFault}
use Rattle.forecast_records.specs.declared.verdict.Verdict.{Verdict}
use Rattle.headroom_engine.specs.Ending.{status_of}
use Rattle.headroom_engine.specs.Ends.{ProgramEnds, TellsFault, TellsNothing, TellsPart, TellsWhole}
use Rattle.headroom_engine.specs.Ports.{Ports}
use Rattle.headroom_engine.specs.Reading.{limit}
use Rattle.headroom_engine.specs.declared.ending.Ending.{Ending}
use Rattle.headroom_engine.specs.declared.ending.Ending.TheVariants as ending
use Rattle.headroom_engine.specs.declared.words.Asked.{Asked}
use Rattle.headroom_engine.proofs.Bytes.{stands}

module _ (text : Asked → Dump → List ℕ) (verdict : Dump → Verdict) (v w : Ports) where
  abbrev Ends : Ending → Option Asked → Type 0
  Ends how what = ProgramEnds text verdict how what v w

  -- what was asked for, in other words
  pub asked_as : (how : Ending) (what other : Option Asked) → what ≡ other → Ends how what → Ends how other
  asked_as how what other is ends = subst (λ (x : Option Asked). Ends how x) is ends

  pub room_from : (how : Ending) (what : Option Asked) → status_of how ≡ 0 → Ends how what
      → (asked : Asked) × (what ≡ Some asked) × TellsWhole text verdict asked 0 v w
  room_from ending.Room (Some asked) n ends = (asked, refl, ends)
  room_from ending.Room None n ends = absurd ends
  room_from how what n ends = absurd (omega (arith, n))

  pub no_room_from : (how : Ending) (what : Option Asked) → status_of how ≡ 10 → Ends how what
      → (asked : Asked) × (what ≡ Some asked) × TellsWhole text verdict asked 10 v w
  no_room_from ending.NoRoom (Some asked) n ends = (asked, refl, ends)
  no_room_from ending.NoRoom None n ends = absurd ends
  no_room_from how what n ends = absurd (omega (arith, n))

  pub part_from : (how : Ending) (what : Option Asked) → status_of how ≡ 4 → Ends how what
      → (asked : Asked) × (what ≡ Some asked) × TellsPart text verdict asked v w
  part_from ending.Unwritten (Some asked) n ends = (asked, refl, ends)
  part_from ending.Unwritten None n ends = absurd ends
  part_from how what n ends = absurd (omega (arith, n))

  pub usage_from : (how : Ending) (what : Option Asked) → status_of how ≡ 1 → Ends how what → what ≡ None
  usage_from ending.Usage (Some asked) n ends = absurd ends
  usage_from ending.Usage None n ends = refl
  usage_from how what n ends = absurd (omega (arith, n))

  pub usage_to : (how : Ending) (what : Option Asked) → what ≡ None → Ends how what → status_of how ≡ 1
  usage_to how (Some asked) is ends = cc
  usage_to ending.Usage None is ends = refl
  usage_to how None is ends = absurd ends

  pub fault_from : (how : Ending) (what : Option Asked) → status_of how ≡ 2 → Ends how what
      → (fault : DumpFault) × (line : ℕ) × TellsFault fault line v w
  fault_from (ending.Faulty fault line) (Some asked) n ends = (fault, line, ends)
  fault_from (ending.Faulty fault line) None n ends = absurd ends
  fault_from how what n ends = absurd (omega (arith, n))

  pub starved_from : (how : Ending) (what : Option Asked) → status_of how ≡ 7 → Ends how what → TellsNothing v w
  starved_from ending.OutOfMemory (Some asked) n ends = ends
  starved_from ending.OutOfMemory None n ends = absurd ends
  starved_from how what n ends = absurd (omega (arith, n))

  pub too_long_from : (how : Ending) (what : Option Asked) → status_of how ≡ 8 → Ends how what
      → Lost v.left w.left (limit + 1)
  too_long_from ending.TooLong (Some asked) n ends = ends.lost
  too_long_from ending.TooLong None n ends = absurd ends
  too_long_from how what n ends = absurd (omega (arith, n))

  -- the source failed exactly where the status is 3
  pub read_from : (how : Ending) (what : Option Asked) → Ends how what
      → HasCause (status_of how == 3) v.read_faults w.read_faults
  read_from ending.Read (Some asked) ends = ends.fault
  read_from ending.Room (Some asked) ends = stands v.read_faults w.read_faults ends.gives.no_fault
  read_from ending.NoRoom (Some asked) ends = stands v.read_faults w.read_faults ends.gives.no_fault
  read_from ending.Unwritten (Some asked) ends = stands v.read_faults w.read_faults ends.gives.no_fault
  read_from (ending.Faulty fault line) (Some asked) ends = stands v.read_faults w.read_faults ends.no_fault
  read_from ending.TooLong (Some asked) ends = stands v.read_faults w.read_faults ends.no_fault
  read_from ending.OutOfMemory (Some asked) ends = stands v.read_faults w.read_faults ends.no_fault
  read_from ending.Usage (Some asked) ends = absurd ends
  read_from ending.Usage None ends = stands v.read_faults w.read_faults ends.0.1
  read_from how None ends = absurd ends
