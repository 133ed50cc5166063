-- How the program ends, by what was read and what was printed.
use Rattle.std.proofs.Common.{◌≡◌, ℕ, List, Ok, Err, refl, sym, subst, inl, inr}
use Rattle.byte_ports.specs.Cause.{HasCause}
use Rattle.dump_reader.specs.Faults.{at}
use Rattle.dump_reader.specs.declared.dump.Dump.{Dump}
use Rattle.forecast_records.specs.declared.verdict.Verdict.{Verdict}
use Rattle.headroom_engine.specs.Answering.{PutsAnswers, PutsFault}
use Rattle.headroom_engine.specs.Ends.{EndsBy, GivesDump}
use Rattle.headroom_engine.specs.Ports.{Ports}
use Rattle.headroom_engine.specs.Reading.{ReadsDump, is_read}
use Rattle.headroom_engine.specs.declared.ending.Ending.{Ending}
use Rattle.headroom_engine.specs.declared.ending.Ending.TheVariants as ending
use Rattle.headroom_engine.specs.declared.words.Asked.{Asked}
use Rattle.headroom_engine.proofs.Bytes.{lost_of}

module _ (text : Asked → Dump → List ℕ) (verdict : Dump → Verdict) (asked : Asked) (v w : Ports) where
  abbrev Ends : Ending → Type 0
  Ends how = EndsBy text verdict how asked v w

  as_ends : (what how : Ending) → how ≡ what → Ends what → Ends how
  as_ends what how is ends = subst (λ (x : Ending). Ends x) (sym is) ends

  -- there was a dump
  pub answers_end : (dump : Dump) → GivesDump dump v w → (how : Ending)
      → PutsAnswers how (verdict dump) (text asked dump) v.held w.held v.write_faults w.write_faults → Ends how
  answers_end dump gives ending.Room puts = record { dump = dump; gives = gives; status_is = puts.0; prints = puts.1 }
  answers_end dump gives ending.NoRoom puts = record { dump = dump; gives = gives; status_is = puts.0; prints = puts.1 }
  answers_end dump gives ending.Unwritten puts = record { dump = dump; gives = gives; prints = puts }
  answers_end dump gives ending.OutOfMemory puts = record {
    lost = lost_of v.left w.left (Ok dump) gives.reads;
    no_fault = gives.no_fault;
    unwritten = puts;
  }
  answers_end dump gives how puts = absurd puts

  -- there was none
  pub fault_ends : (what how : Ending) → ReadsDump (Err what) v.left w.left
      → HasCause (is_read what) v.read_faults w.read_faults
      → PutsFault what how v.held w.held v.write_faults w.write_faults → Ends how
  fault_ends (ending.Faulty fault line) how reads cause (inl (is, puts)) =
      as_ends (ending.Faulty fault line) how is (record { reads = reads; no_fault = cause.stood refl; prints = puts })
  fault_ends (ending.Faulty fault line) how reads cause (inr (is, nothing)) =
      as_ends ending.OutOfMemory how is (record {
        lost = lost_of v.left w.left (Err (at fault line)) reads;
        no_fault = cause.stood refl;
        unwritten = nothing;
      })
  fault_ends ending.Read how reads cause (is, puts) = as_ends ending.Read how is
      (record { lost = reads; fault = cause; prints = puts })
  fault_ends ending.TooLong how reads cause (is, puts) =
      as_ends ending.TooLong how is (record { lost = reads; no_fault = cause.stood refl; prints = puts })
  fault_ends ending.OutOfMemory how reads cause (is, nothing) =
      as_ends ending.OutOfMemory how is (record { lost = reads; no_fault = cause.stood refl; unwritten = nothing })
  fault_ends what how never cause puts = absurd never
