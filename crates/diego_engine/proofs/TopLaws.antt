-- What each status says, from how the program ends.
use Rattle.std.proofs.Common.{◌≡◌, ◌⊎◌, ℕ, ◌+◌, ◌<◌, ◌≤◌, true, false, Bool, List, [], Option, Some, None, Ok, Err, refl, sym, ap, subst, ◌∙◌, arith, inl, inr}
use Rattle.byte_ports.specs.Cause.{Rose}
use Rattle.byte_ports.specs.Content.{Lost}
use Rattle.disk_trait.specs.Past.{Past, Image}
use Rattle.disk_trait.specs.Shows.{Shows}
use Rattle.disk_trait.specs.Steps.{Goes}
use Rattle.bbs_model.specs.declared.item.Item.{Item}
use Rattle.bbs_board.specs.Doubts.{doubts_in}
use Rattle.bbs_board.specs.Opening.{IsRefused}
use Rattle.bbs_board.proofs.Public.{not_refused}
use Rattle.bbs_journal.specs.Preparing.{FindsBytes}
use Rattle.bbs_journal.specs.declared.load_fault.LoadFault.{LoadFault}
use Rattle.bbs_journal.specs.declared.load_fault.LoadFault.TheVariants as fault
use Rattle.program_ends.specs.Ending.{script_line, status_of}
use Rattle.program_ends.specs.Opening.{is_before_board}
use Rattle.program_ends.specs.Ports.{Ports, PrintsTo, IsTold}
use Rattle.program_ends.specs.Reading.{ReadsWhole, TellsAs, limit}
use Rattle.program_ends.specs.declared.ending.Ending.{Ending}
use Rattle.program_ends.specs.declared.ending.Ending.TheVariants as ending
use Rattle.program_ends.proofs.Public.{as_told, not_too_long}
use Rattle.scenario_player.specs.Wordings.{Wording}
use Rattle.program_run.specs.Runs.{EndsLate, IsEmpty, RunEnds, RunsScript}
use Rattle.program_run.specs.declared.ended.Ended.{Ended}
use Rattle.scenario_lines.specs.declared.script.Script.{Script}
use Rattle.scenario_reader.specs.Accepted.{script_of}
use Rattle.scenario_reader.specs.declared.fault.ScriptFault.{ScriptFault}
use Rattle.large_runs.proofs.Public.{large_complete, large_never, large_unwritten}
use Rattle.locket.specs.Lives.{LockLog}
use Rattle.lock_runs.proofs.Public as lock
use Rattle.program_tools.specs.Still.{AskedEnds, IsRefusedFor, ReadsFault, StillEnds}
use Rattle.program_tools.specs.Words.{asks_for_locks, asks_for_run, asks_to_play}
use Rattle.program_tools.specs.declared.words.Asked.{Asked}
use Rattle.program_tools.specs.declared.words.Asked.TheVariants as asked
use Rattle.program_tools.proofs.Public as still
use Rattle.program_tools.proofs.Public.{not_of_source}
use Rattle.diego_engine.specs.Top.{EndsWithoutRun, Meets, MeetsAll, ProgramEnds, RunsWhole, TellsFault}
use Rattle.diego_engine.proofs.Ran.{ran}

module _ {D : Type 0} (told : D → Option Past) (faults moment : D → ℕ) (wording : Wording) (e : Ended) (locks : LockLog)
    (left left' : Option (List ℕ)) (v w : Ports) where
  -- the source gave nothing of what was asked for, and its first fault was told, whole or up to a fault of the sink
  abbrev pub ToldFault : Option Asked → Type 0
  ToldFault what = (fault : ScriptFault) × ReadsFault what fault left left'
      × (whole : Bool) × PrintsTo whole (script_line fault) v.held w.held v.write_faults w.write_faults

  -- ---- a run

  run_read : (how : Ending) → status_of how ≡ 1 → RunEnds told faults moment wording how e left left' v w → ⊥
  run_read ending.Usage n runs = absurd runs.ends.1
  run_read how n h = absurd (omega (arith, n))

  run_script_from : (how : Ending) → status_of how ≡ 2 → RunEnds told faults moment wording how e left left' v w
      → ToldFault (Some asked.Run)
  run_script_from (ending.Script why) n ((empty, ends), reads) = (why, reads, ends.whole, ends.prints)
  run_script_from how n h = absurd (omega (arith, n))

  -- the sink failed in a text
  text_failed : (script : Script) → EndsLate told faults moment wording script ending.Unwritten e v w
      → Rose v.write_faults w.write_faults
  text_failed script late = subst (λ (m : ℕ). Rose m w.write_faults) late.opens.same_sink.1 (elim late.plays.plays [
    | inl part ↦ part.prints.part.cause.rose refl
    | inr part ↦ part.prints.part.cause.rose refl
  ])

  run_unwritten : (how : Ending) → status_of how ≡ 4 → RunEnds told faults moment wording how e left left' v w
      → Rose v.write_faults w.write_faults
  run_unwritten ending.Unwritten n runs = text_failed runs.script runs.ends
  run_unwritten how n h = absurd (omega (arith, n))

  -- the disk failed in a phase
  call_failed : (script : Script) → EndsLate told faults moment wording script ending.Doubt e v w
      → Rose v.disk_faults w.disk_faults
  call_failed script late =
      let some : 0 < doubts_in e.log.items = subst (λ (l : List Item). 0 < doubts_in l)
      (sym late.plays.log) late.plays.plays.over in
      let causes = late.plays.doubts in
      subst (λ (m : ℕ). Rose m w.disk_faults) late.opens.no_fault (omega (arith, some, causes))

  run_unstored : (how : Ending) → status_of how ≡ 5 → RunEnds told faults moment wording how e left left' v w
      → Rose v.disk_faults w.disk_faults
  run_unstored ending.Unopened n runs = runs.ends.1.cause.rose refl
  run_unstored ending.Doubt n runs = call_failed runs.script runs.ends
  run_unstored how n h = absurd (omega (arith, n))

  run_refused : (how : Ending) → status_of how ≡ 6 → RunEnds told faults moment wording how e left left' v w
      → (why : LoadFault) × (w.disk_faults ≡ v.disk_faults)
      × ((image : Image) → Shows v.told image → IsTold w.told → IsRefused why image)
  run_refused (ending.NotABoard area) n runs = (
    fault.NotABoard area,
    runs.ends.1.early.cause.stood refl,
    runs.ends.1.refused,
  )
  run_refused (ending.Damaged area at) n runs = (
    fault.Damaged area at,
    runs.ends.1.early.cause.stood refl,
    runs.ends.1.refused,
  )
  run_refused how n h = absurd (omega (arith, n))

  run_too_long : (how : Ending) → status_of how ≡ 8 → RunEnds told faults moment wording how e left left' v w
      → Lost left left' (limit + 1)
  run_too_long ending.TooLong n h = h.1
  run_too_long how n h = absurd (omega (arith, n))

  run_exists : (how : Ending) → status_of how ≡ 9 → RunEnds told faults moment wording how e left left' v w → ⊥
  run_exists ending.Exists n runs = absurd runs.ends.1
  run_exists how n h = absurd (omega (arith, n))

  run_untouched : (how : Ending) → is_before_board (status_of how) ≡ true
      → RunEnds told faults moment wording how e left left' v w → (w.told ≡ v.told) × (w.disk_faults ≡ v.disk_faults)
  run_untouched ending.Usage n runs = absurd runs.ends.1
  run_untouched (ending.Script why) n h = (h.0.1.told, h.0.1.faults)
  run_untouched ending.Read n h = (h.0.1.told, h.0.1.faults)
  run_untouched ending.TooLong n h = (h.0.1.told, h.0.1.faults)
  run_untouched how n h = cc

  -- ---- words that ask for no run

  -- they never come to a status that tells of the source
  not_here : (how : Ending) (what : Option Asked) (n : ℕ) → (n ≡ 1 → ⊥) → is_before_board n ≡ true → status_of how ≡ n
      → StillEnds how what v w → ⊥
  not_here how what n other before is h = other (sym is ∙ not_of_source v w how what (ap is_before_board is ∙ before) h)

  -- ---- the program

  pub usage_from : (how : Ending) (what : Option Asked) → status_of how ≡ 1
      → ProgramEnds told faults moment wording how what e locks left left' v w → what ≡ None
  usage_from how (Some asked.Run) n h = absurd (run_read how n h)
  usage_from how (Some asked.Routes) n h = absurd (run_read how n h)
  usage_from how (Some asked.Locks) n h = absurd (lock.not_usage locks e.marks.items left left' v w how n h.ends)
  usage_from how (Some asked.Prepare) n h = still.usage_from v w how (Some asked.Prepare) n h.still
  usage_from how (Some asked.Records) n h = still.usage_from v w how (Some asked.Records) n h.still
  usage_from how (Some asked.Check) n h = still.usage_from v w how (Some asked.Check) n h.still
  usage_from how (Some (asked.Generate number)) n h = still.usage_from v w how (Some (asked.Generate number)) n h.still
  usage_from how (Some (asked.Large number)) n h = absurd (large_never number e _ _ _ _ how 1 refl n h.large)
  usage_from how None n h = refl

  pub usage_to : (how : Ending) (what : Option Asked) → what ≡ None
      → ProgramEnds told faults moment wording how what e locks left left' v w → status_of how ≡ 1
  usage_to how (Some x) is h = cc
  usage_to how None is h = still.usage_to v w how None refl h.still

  pub script_from : (how : Ending) (what : Option Asked) → status_of how ≡ 2
      → ProgramEnds told faults moment wording how what e locks left left' v w → ToldFault what
  script_from how (Some asked.Run) n h = run_script_from how n h
  script_from how (Some asked.Routes) n h = run_script_from how n h
  script_from how (Some asked.Locks) n h = lock.script_from locks e.marks.items left left' v w how n h.ends
  script_from how (Some asked.Prepare) n h = absurd (not_here how (Some asked.Prepare) 2
      (λ never. omega (arith, never)) refl n h.still)
  script_from how (Some asked.Records) n h = absurd (not_here how (Some asked.Records) 2
      (λ never. omega (arith, never)) refl n h.still)
  script_from how (Some asked.Check) n h = absurd (not_here how (Some asked.Check) 2
      (λ never. omega (arith, never)) refl n h.still)
  script_from how (Some (asked.Generate number)) n h =
      absurd (not_here how (Some (asked.Generate number)) 2 (λ never. omega (arith, never)) refl n h.still)
  script_from how (Some (asked.Large number)) n h = absurd (large_never number e _ _ _ _ how 2 refl n h.large)
  script_from how None n h = absurd (not_here how None 2 (λ never. omega (arith, never)) refl n h.still)

  pub unwritten_from : (how : Ending) (what : Option Asked) → status_of how ≡ 4
      → ProgramEnds told faults moment wording how what e locks left left' v w → Rose v.write_faults w.write_faults
  unwritten_from how (Some asked.Run) n h = run_unwritten how n h
  unwritten_from how (Some asked.Routes) n h = run_unwritten how n h
  unwritten_from how (Some asked.Locks) n h = lock.unwritten_from locks e.marks.items left left' v w how n h.ends
  unwritten_from how (Some asked.Prepare) n h = still.unwritten_from v w how (Some asked.Prepare) n h.still
  unwritten_from how (Some asked.Records) n h = still.unwritten_from v w how (Some asked.Records) n h.still
  unwritten_from how (Some asked.Check) n h = still.unwritten_from v w how (Some asked.Check) n h.still
  unwritten_from how (Some (asked.Generate number)) n h =
      still.unwritten_from v w how (Some (asked.Generate number)) n h.still
  unwritten_from how (Some (asked.Large number)) n h = large_unwritten number e _ _ _ _ how n h.large
  unwritten_from how None n h = still.unwritten_from v w how None n h.still

  pub unstored_from : (how : Ending) (what : Option Asked) → status_of how ≡ 5
      → ProgramEnds told faults moment wording how what e locks left left' v w → Rose v.disk_faults w.disk_faults
  unstored_from how (Some asked.Run) n h = run_unstored how n h
  unstored_from how (Some asked.Routes) n h = run_unstored how n h
  unstored_from how (Some asked.Locks) n h = lock.unstored_from locks e.marks.items left left' v w how n h.ends
  unstored_from how (Some asked.Prepare) n h = still.unstored_from v w how (Some asked.Prepare) n h.still
  unstored_from how (Some asked.Records) n h = still.unstored_from v w how (Some asked.Records) n h.still
  unstored_from how (Some asked.Check) n h = still.unstored_from v w how (Some asked.Check) n h.still
  unstored_from how (Some (asked.Generate number)) n h =
      still.unstored_from v w how (Some (asked.Generate number)) n h.still
  unstored_from how (Some (asked.Large number)) n h = absurd (large_never number e _ _ _ _ how 5 refl n h.large)
  unstored_from how None n h = still.unstored_from v w how None n h.still

  pub refused_from : (how : Ending) (what : Option Asked) → status_of how ≡ 6
      → ProgramEnds told faults moment wording how what e locks left left' v w
      → (why : LoadFault) × (w.disk_faults ≡ v.disk_faults)
      × ((image : Image) → Shows v.told image → IsTold w.told → IsRefusedFor what why image)
  refused_from how (Some asked.Run) n h = run_refused how n h
  refused_from how (Some asked.Routes) n h = run_refused how n h
  refused_from how (Some asked.Locks) n h = lock.refused_from locks e.marks.items left left' v w how n h.ends
  refused_from how (Some asked.Prepare) n h = still.refused_from v w how (Some asked.Prepare) n h.still
  refused_from how (Some asked.Records) n h = still.refused_from v w how (Some asked.Records) n h.still
  refused_from how (Some asked.Check) n h = still.refused_from v w how (Some asked.Check) n h.still
  refused_from how (Some (asked.Generate number)) n h =
      still.refused_from v w how (Some (asked.Generate number)) n h.still
  refused_from how (Some (asked.Large number)) n h = absurd (large_never number e _ _ _ _ how 6 refl n h.large)
  refused_from how None n h = still.refused_from v w how None n h.still

  pub too_long_from : (how : Ending) (what : Option Asked) → status_of how ≡ 8
      → ProgramEnds told faults moment wording how what e locks left left' v w → Lost left left' (limit + 1)
  too_long_from how (Some asked.Run) n h = run_too_long how n h
  too_long_from how (Some asked.Routes) n h = run_too_long how n h
  too_long_from how (Some asked.Locks) n h = lock.too_long_from locks e.marks.items left left' v w how n h.ends
  too_long_from how (Some asked.Prepare) n h = absurd (not_here how (Some asked.Prepare) 8
      (λ never. omega (arith, never)) refl n h.still)
  too_long_from how (Some asked.Records) n h = absurd (not_here how (Some asked.Records) 8
      (λ never. omega (arith, never)) refl n h.still)
  too_long_from how (Some asked.Check) n h = absurd (not_here how (Some asked.Check) 8
      (λ never. omega (arith, never)) refl n h.still)
  too_long_from how (Some (asked.Generate number)) n h =
      absurd (not_here how (Some (asked.Generate number)) 8 (λ never. omega (arith, never)) refl n h.still)
  too_long_from how (Some (asked.Large number)) n h = absurd (large_never number e _ _ _ _ how 8 refl n h.large)
  too_long_from how None n h = absurd (not_here how None 8 (λ never. omega (arith, never)) refl n h.still)

  pub exists_from : (how : Ending) (what : Option Asked) → status_of how ≡ 9
      → ProgramEnds told faults moment wording how what e locks left left' v w
      → (what ≡ Some asked.Prepare) × (w.disk_faults ≡ v.disk_faults) × Goes v.told w.told FindsBytes
  exists_from how (Some asked.Run) n h = absurd (run_exists how n h)
  exists_from how (Some asked.Routes) n h = absurd (run_exists how n h)
  exists_from how (Some asked.Locks) n h = absurd (lock.not_exists locks e.marks.items left left' v w how n h.ends)
  exists_from how (Some asked.Prepare) n h = still.exists_from v w how (Some asked.Prepare) n h.still
  exists_from how (Some asked.Records) n h = still.exists_from v w how (Some asked.Records) n h.still
  exists_from how (Some asked.Check) n h = still.exists_from v w how (Some asked.Check) n h.still
  exists_from how (Some (asked.Generate number)) n h =
      still.exists_from v w how (Some (asked.Generate number)) n h.still
  exists_from how (Some (asked.Large number)) n h = absurd (large_never number e _ _ _ _ how 9 refl n h.large)
  exists_from how None n h = still.exists_from v w how None n h.still

  pub untouched_from : (how : Ending) (what : Option Asked) → is_before_board (status_of how) ≡ true
      → ProgramEnds told faults moment wording how what e locks left left' v w
      → (w.told ≡ v.told) × (w.disk_faults ≡ v.disk_faults)
  untouched_from how (Some asked.Run) n h = run_untouched how n h
  untouched_from how (Some asked.Routes) n h = run_untouched how n h
  untouched_from how (Some asked.Locks) n h = lock.untouched_from locks e.marks.items left left' v w how n h.ends
  untouched_from how (Some asked.Prepare) n h = still.untouched_from v w how (Some asked.Prepare) n h.still
  untouched_from how (Some asked.Records) n h = still.untouched_from v w how (Some asked.Records) n h.still
  untouched_from how (Some asked.Check) n h = still.untouched_from v w how (Some asked.Check) n h.still
  untouched_from how (Some (asked.Generate number)) n h =
      still.untouched_from v w how (Some (asked.Generate number)) n h.still
  untouched_from how (Some (asked.Large number)) n h = (h.told, h.faults)
  untouched_from how None n h = still.untouched_from v w how None n h.still

  is_done : (how : Ending) → status_of how ≡ 0 → how ≡ ending.Done
  is_done ending.Done n = refl
  is_done how n = absurd (omega (arith, n))

  pub done_from : (how : Ending) (what : Option Asked) → status_of how ≡ 0 → asks_for_run what ≡ true
      → ProgramEnds told faults moment wording how what e locks left left' v w
      → RunsWhole told faults moment wording e left left' v w
  done_from how what n is h =
      ran told faults moment wording e locks left left' v w ending.Done what is
      (subst (λ (x : Ending). ProgramEnds told faults moment wording x what e locks left left' v w)
      (is_done how n) h)

  -- ---- completeness

  pub not_both : (script : Script) (fault : ScriptFault) → Ok script ≡ Err fault → ⊥
  not_both script fault same = cc

  run_complete : (how : Ending) → RunEnds told faults moment wording how e left left' v w → Meets left v.told
      → IsTold w.told
      → (status_of how ≡ 3 → ⊥) → (Rose v.write_faults w.write_faults → ⊥) → (Rose v.disk_faults w.disk_faults → ⊥)
      → (status_of how ≡ 0) ⊎ (status_of how ≡ 7)
  run_complete ending.Done h m is read sink disk = inl refl
  run_complete ending.OutOfMemory h m is read sink disk = inr refl
  run_complete ending.Read h m is read sink disk = absurd (read refl)
  run_complete ending.Unwritten h m is read sink disk = absurd (sink (run_unwritten ending.Unwritten refl h))
  run_complete ending.Unopened h m is read sink disk = absurd (disk (run_unstored ending.Unopened refl h))
  run_complete ending.Doubt h m is read sink disk = absurd (disk (run_unstored ending.Doubt refl h))
  run_complete (ending.NotABoard area) runs m is read sink disk =
      absurd (not_refused m.rows (fault.NotABoard area) m.image m.board (runs.ends.1.refused m.image m.shows is))
  run_complete (ending.Damaged area at) runs m is read sink disk =
      absurd (not_refused m.rows (fault.Damaged area at) m.image m.board (runs.ends.1.refused m.image m.shows is))
  run_complete ending.TooLong h m is read sink disk = absurd
      (not_too_long script_of left left' (Ok m.script) m.source h.1)
  run_complete (ending.Script why) h m is read sink disk =
      absurd (not_both m.script why (as_told script_of left left' (Ok m.script) (Err why) m.source h.1))
  run_complete ending.Usage runs m is read sink disk = absurd runs.ends.1
  run_complete ending.Exists runs m is read sink disk = absurd runs.ends.1

  pub complete_from : (how : Ending) (what : Option Asked)
      → ProgramEnds told faults moment wording how what e locks left left' v w → MeetsAll what left v.told
      → IsTold w.told
      → (status_of how ≡ 3 → ⊥) → (Rose v.write_faults w.write_faults → ⊥) → (Rose v.disk_faults w.disk_faults → ⊥)
      → (status_of how ≡ 0) ⊎ (status_of how ≡ 7)
  complete_from how (Some asked.Run) h m is read sink disk = run_complete how h m is read sink disk
  complete_from how (Some asked.Routes) h m is read sink disk = run_complete how h m is read sink disk
  complete_from how (Some asked.Locks) h m is read sink disk =
      lock.complete_from locks e.marks.items left left' v w how h.ends m is read sink disk
  complete_from how (Some asked.Prepare) h m is read sink disk = absurd m
  complete_from how (Some asked.Records) h m is read sink disk = absurd m
  complete_from how (Some asked.Check) h m is read sink disk = absurd m
  complete_from how (Some (asked.Generate number)) h m is read sink disk =
      still.complete_from v w how (Some (asked.Generate number)) left h.still m is sink disk
  complete_from how (Some (asked.Large number)) h m is read sink disk = large_complete number e _ _ _ _ how h.large sink
  complete_from how None h m is read sink disk = absurd m

  -- a source that tells no scenario is refused
  no_script : (why : ScriptFault) → TellsAs script_of (Err why) left → (how : Ending)
      → RunsScript told faults moment wording how e left left' v w → ⊥
  no_script why tells how runs = not_both runs.script why
      (sym (as_told script_of left left' (Err why) (Ok runs.script) tells runs.reads))

  run_no_script : (why : ScriptFault) → TellsAs script_of (Err why) left → (how : Ending) → (status_of how ≡ 3 → ⊥)
      → RunEnds told faults moment wording how e left left' v w
      → (status_of how ≡ 2) ⊎ (status_of how ≡ 7)
  run_no_script why tells (ending.Script other) read h = inl refl
  run_no_script why tells ending.OutOfMemory read h = inr refl
  run_no_script why tells ending.Read read h = absurd (read refl)
  run_no_script why tells ending.TooLong read h = absurd (not_too_long script_of left left' (Err why) tells h.1)
  run_no_script why tells how read runs = absurd (no_script why tells how runs)

  pub no_script_from : (how : Ending) (what : Option Asked) (why : ScriptFault)
      → ProgramEnds told faults moment wording how what e locks left left' v w
      → TellsFault what why left → (status_of how ≡ 3 → ⊥) → (status_of how ≡ 2) ⊎ (status_of how ≡ 7)
  no_script_from how (Some asked.Run) why h tells read = run_no_script why tells how read h
  no_script_from how (Some asked.Routes) why h tells read = run_no_script why tells how read h
  no_script_from how (Some asked.Locks) why h tells read =
      lock.no_script_from locks e.marks.items left left' v w why tells how read h.ends
  no_script_from how (Some asked.Prepare) why h tells read = absurd tells
  no_script_from how (Some asked.Records) why h tells read = absurd tells
  no_script_from how (Some asked.Check) why h tells read = absurd tells
  no_script_from how (Some (asked.Generate number)) why h tells read = absurd tells
  no_script_from how (Some (asked.Large number)) why h tells read = absurd tells
  no_script_from how None why h tells read = absurd tells

  -- ---- words that ask for no run

  module _ (log : e.log.items ≡ []) (answers : e.answers.items ≡ []) (reports : e.reports.items ≡ []) where
    without : (how : Ending) (what : Option Asked) → StillEnds how what v w → (locks ≡ []) × (e.marks.items ≡ [])
        → left' ≡ left → EndsWithoutRun how what e left left' v w
    without how what ends none same =
        record {
          empty = record { log = log; marks = none.1; answers = answers; reports = reports };
          still =
              ends;
          unread = same;
        }

    pub still_ends : (how : Ending) (what : Option Asked) → asks_to_play what ≡ false
        → AskedEnds how what locks e.marks.items left left' v w
        → (asks_for_locks what ≡ false → (locks ≡ []) × (e.marks.items ≡ []))
        → (asks_for_locks what ≡ false → left' ≡ left)
        → ProgramEnds told faults moment wording how what e locks left left' v w
    still_ends how (Some asked.Run) not_run ends none same = absurd (cc (not_run))
    still_ends how (Some asked.Routes) not_run ends none same = absurd (cc (not_run))
    still_ends how (Some asked.Locks) not_run ends none same =
        record { log = log; answers = answers; reports = reports; ends = ends }
    still_ends how (Some asked.Prepare) not_run ends none same =
        without how (Some asked.Prepare) ends (none refl) (same refl)
    still_ends how (Some asked.Records) not_run ends none same =
        without how (Some asked.Records) ends (none refl) (same refl)
    still_ends how (Some asked.Check) not_run ends none same =
        without how (Some asked.Check) ends (none refl) (same refl)
    still_ends how (Some (asked.Generate number)) not_run ends none same =
        without how (Some (asked.Generate number)) ends (none refl) (same refl)
    still_ends how (Some (asked.Large number)) not_run ends none same = absurd (cc (not_run))
    still_ends how None not_run ends none same = without how None ends (none refl) (same refl)
