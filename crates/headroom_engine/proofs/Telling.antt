-- What is told is a function of the word and of the bytes that the source tells.
use Rattle.std.proofs.Common.{◌≡◌, ◌⊎◌, ℕ, ◌+◌, List, Result, Ok, Err, refl, sym, subst, arith, inl, inr}
use Rattle.byte_ports.specs.Content.{Lost}
use Rattle.dump_reader.specs.Accepted.{dump_of}
use Rattle.dump_reader.specs.Faults.{FaultAt, at}
use Rattle.dump_reader.specs.declared.dump.Dump.{Dump}
use Rattle.dump_reader.specs.declared.fault.DumpFault.{DumpFault}
use Rattle.forecast_records.specs.declared.verdict.Verdict.{Verdict}
use Rattle.headroom_engine.specs.Ending.{status_of}
use Rattle.headroom_engine.specs.Ends.{EndsBy, NoFault, TellsAll, TellsFault, TellsWhole}
use Rattle.headroom_engine.specs.Ports.{Ports}
use Rattle.headroom_engine.specs.Reading.{ReadsWhole, TellsFew, TellsMany, limit}
use Rattle.headroom_engine.specs.Telling.{telling_for, telling_of}
use Rattle.headroom_engine.specs.declared.ending.Ending.{Ending}
use Rattle.headroom_engine.specs.declared.ending.Ending.TheVariants as ending
use Rattle.headroom_engine.specs.declared.words.Asked.{Asked}
use Rattle.headroom_engine.proofs.Bytes.{few_of, not_more, says_of}

module _ (text : Asked → Dump → List ℕ) (verdict : Dump → Verdict) (asked : Asked) (v w : Ports) (bytes : List ℕ) where
  abbrev Ends : Ending → Type 0
  Ends how = EndsBy text verdict how asked v w

  -- ---- bytes that aren't too many

  module _ (few : TellsFew bytes v.left) where
    not_too_long : Lost v.left w.left (limit + 1) → ⊥
    not_too_long lost =
        let more = not_more v.left w.left bytes (limit + 1) few.left_is lost in let less = few.few in
        omega (arith, more, less)

    -- the bytes come to what was read
    same : (said : Result Dump FaultAt) → ReadsWhole said v.left w.left → dump_of bytes ≡ said
    same said reads = says_of v.left w.left said reads bytes few.left_is

    abbrev Told : ℕ → Type 0
    Told status = TellsAll (telling_for text verdict asked bytes) status v.held w.held

    told_as : (said : Result Dump FaultAt) (status : ℕ) → ReadsWhole said v.left w.left
        → TellsAll (telling_of text verdict asked said) status v.held w.held → Told status
    told_as said status reads told =
        subst (λ (s : Result Dump FaultAt). TellsAll (telling_of text verdict asked s) status v.held w.held)
        (sym (same said reads)) told

    told_whole : (status : ℕ) → TellsWhole text verdict asked status v w → Told status
    told_whole status whole =
        told_as (Ok whole.dump) status whole.gives.reads (record
        { status_is = sym whole.status_is; all = whole.prints.all })

    told_fault : (fault : DumpFault) (line : ℕ) → TellsFault fault line v w → NoFault v.write_faults w.write_faults
        → Told 2
    told_fault fault line tells sink = elim tells.prints [
      | inl whole ↦ told_as (Err (at fault line)) 2 tells.reads (record { status_is = refl; all = whole.all })
      | inr part ↦ absurd (sink (part.fault.rose refl))
    ]

    pub told_from : (how : Ending) → Ends how → NoFault v.read_faults w.read_faults
        → NoFault v.write_faults w.write_faults
        → (status_of how ≡ 7) ⊎ Told (status_of how)
    told_from ending.Room ends source sink = inr (told_whole 0 ends)
    told_from ending.NoRoom ends source sink = inr (told_whole 10 ends)
    told_from ending.Unwritten ends source sink = absurd (sink (ends.prints.fault.rose refl))
    told_from (ending.Faulty fault line) ends source sink = inr (told_fault fault line ends sink)
    told_from ending.Read ends source sink = absurd (source (ends.fault.rose refl))
    told_from ending.TooLong ends source sink = absurd (not_too_long ends.lost)
    told_from ending.OutOfMemory ends source sink = inl refl
    told_from ending.Usage ends source sink = absurd ends

    not_both : (dump : Dump) (fault : FaultAt) → dump_of bytes ≡ Ok dump → dump_of bytes ≡ Err fault → ⊥
    not_both dump fault is other = cc

    pub no_dump_from : (how : Ending) (fault : FaultAt) → Ends how → dump_of bytes ≡ Err fault
        → NoFault v.read_faults w.read_faults
        → (status_of how ≡ 2) ⊎ (status_of how ≡ 7)
    no_dump_from (ending.Faulty other line) fault ends is source = inl refl
    no_dump_from ending.OutOfMemory fault ends is source = inr refl
    no_dump_from ending.Room fault ends is source = absurd
        (not_both ends.dump fault (same (Ok ends.dump) ends.gives.reads) is)
    no_dump_from ending.NoRoom fault ends is source = absurd
        (not_both ends.dump fault (same (Ok ends.dump) ends.gives.reads) is)
    no_dump_from ending.Unwritten fault ends is source = absurd
        (not_both ends.dump fault (same (Ok ends.dump) ends.gives.reads) is)
    no_dump_from ending.Read fault ends is source = absurd (source (ends.fault.rose refl))
    no_dump_from ending.TooLong fault ends is source = absurd (not_too_long ends.lost)
    no_dump_from ending.Usage fault ends is source = absurd ends

  -- ---- bytes that are too many

  module _ (many : TellsMany bytes v.left) where
    not_whole : (said : Result Dump FaultAt) → ReadsWhole said v.left w.left → ⊥
    not_whole said reads =
        let few = few_of v.left w.left said reads bytes many.left_is in let more = many.many in omega (arith, few, more)

    pub too_much_from : (how : Ending) → Ends how → NoFault v.read_faults w.read_faults
        → (status_of how ≡ 8) ⊎ (status_of how ≡ 7)
    too_much_from ending.TooLong ends source = inl refl
    too_much_from ending.OutOfMemory ends source = inr refl
    too_much_from ending.Room ends source = absurd (not_whole (Ok ends.dump) ends.gives.reads)
    too_much_from ending.NoRoom ends source = absurd (not_whole (Ok ends.dump) ends.gives.reads)
    too_much_from ending.Unwritten ends source = absurd (not_whole (Ok ends.dump) ends.gives.reads)
    too_much_from (ending.Faulty fault line) ends source = absurd (not_whole (Err (at fault line)) ends.reads)
    too_much_from ending.Read ends source = absurd (source (ends.fault.rose refl))
    too_much_from ending.Usage ends source = absurd ends
