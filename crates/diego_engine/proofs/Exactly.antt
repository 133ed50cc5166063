-- What gives 6, 8 or 9 comes to it, and 6 comes where a board is opened, from each way in which the program ends.
use Rattle.std.proofs.Common.{◌≡◌, ◌⊎◌, ℕ, true, List, Option, Some, None, Ok, Err, refl, sym, subst, arith, inl, inr}
use Rattle.byte_ports.specs.Cause.{Rose}
use Rattle.disk_trait.specs.Past.{Past}
use Rattle.bbs_board.proofs.Public.{not_refused}
use Rattle.program_ends.specs.Ending.{status_of}
use Rattle.program_ends.specs.Ports.{Ports, IsTold}
use Rattle.program_ends.specs.Reading.{ReadsWhole, TellsAs, TellsTooMuch}
use Rattle.program_ends.specs.declared.ending.Ending.{Ending}
use Rattle.program_ends.specs.declared.ending.Ending.TheVariants as ending
use Rattle.program_ends.proofs.Public.{as_told, not_too_long, not_whole}
use Rattle.scenario_player.specs.Wordings.{Wording}
use Rattle.program_run.specs.Runs.{EndsLate, RunEnds, RunsScript}
use Rattle.program_run.specs.declared.ended.Ended.{Ended}
use Rattle.scenario_lines.specs.declared.script.Script.{Script}
use Rattle.scenario_reader.specs.Accepted.{script_of}
use Rattle.scenario_reader.specs.declared.fault.ScriptFault.{ScriptFault}
use Rattle.locket.specs.Lives.{LockLog}
use Rattle.large_runs.proofs.Public.{large_never}
use Rattle.lock_runs.proofs.Public as lock
use Rattle.program_tools.specs.Still.{GenerateEnds, IsStopped, MeetsNoBoard, MeetsObstacle, PrepareEnds, ReadsWell, UsageEnds}
use Rattle.program_tools.specs.Words.{asks_for_source}
use Rattle.program_tools.specs.declared.words.Asked.{Asked}
use Rattle.program_tools.specs.declared.words.Asked.TheVariants as asked
use Rattle.program_tools.proofs.Public as still
use Rattle.diego_engine.specs.Top.{MeetsNothing, ProgramEnds, ReachesOpening}
use Rattle.diego_engine.proofs.Recoveries.{opened}
use Rattle.diego_engine.proofs.TopLaws.{not_both}

module _ {D : Type 0} (told : D → Option Past) (faults moment : D → ℕ) (wording : Wording) (e : Ended) (locks : LockLog)
    (left left' : Option (List ℕ)) (v w : Ports) where
  abbrev pub Ran : Ending → Type 0
  Ran how = RunEnds told faults moment wording how e left left' v w

  abbrev pub Ends : Ending → Option Asked → Type 0
  Ends how what = ProgramEnds told faults moment wording how what e locks left left' v w

  -- ---- where 6 comes

  run_reached : (how : Ending) → status_of how ≡ 6 → Ran how
      → (script : Script) × ReadsWhole script_of (Ok script) left left'
  run_reached (ending.NotABoard area) n runs = (runs.script, runs.reads)
  run_reached (ending.Damaged area at) n runs = (runs.script, runs.reads)
  run_reached how n h = absurd (omega (arith, n))

  prepare_never : (how : Ending) → status_of how ≡ 6 → PrepareEnds how v w → ⊥
  prepare_never (ending.NotABoard area) n h = h
  prepare_never (ending.Damaged area at) n h = h
  prepare_never how n h = absurd (omega (arith, n))

  generate_never : (number : ℕ) (how : Ending) → status_of how ≡ 6 → GenerateEnds number how v w → ⊥
  generate_never number (ending.NotABoard area) n h = h
  generate_never number (ending.Damaged area at) n h = h
  generate_never number how n h = absurd (omega (arith, n))

  usage_never : (how : Ending) → status_of how ≡ 6 → UsageEnds how v w → ⊥
  usage_never (ending.NotABoard area) n h = h
  usage_never (ending.Damaged area at) n h = h
  usage_never how n h = absurd (omega (arith, n))

  pub reached_from : (how : Ending) (what : Option Asked) → status_of how ≡ 6 → Ends how what
      → ReachesOpening what left left'
  reached_from how (Some asked.Run) n h = run_reached how n h
  reached_from how (Some asked.Routes) n h = run_reached how n h
  reached_from how (Some asked.Locks) n h = lock.reached_from locks e.marks.items left left' v w how n h.ends
  reached_from how (Some asked.Prepare) n h = absurd (prepare_never how n h.still)
  reached_from how (Some asked.Records) n h = tt
  reached_from how (Some asked.Check) n h = tt
  reached_from how (Some (asked.Generate number)) n h = absurd (generate_never number how n h.still)
  reached_from how (Some (asked.Large number)) n h = absurd (large_never number e _ _ _ _ how 6 refl n h.large)
  reached_from how None n h = absurd (usage_never how n h.still)

  -- ---- words that ask for no run

  pub stopped_from : (how : Ending) (what : Option Asked) (wanted read_faults read_faults' : ℕ) → Ends how what
      → MeetsObstacle what wanted left v.told
      → ReadsWell what read_faults read_faults' → (status_of how ≡ 3 → Rose read_faults read_faults') → IsTold w.told
      → (Rose v.disk_faults w.disk_faults → ⊥)
      → IsStopped what wanted (status_of how)
  stopped_from how (Some asked.Run) wanted n n' h m well read told disk = absurd m
  stopped_from how (Some asked.Routes) wanted n n' h m well read told disk = absurd m
  stopped_from how (Some asked.Locks) wanted n n' h m well read told disk =
      lock.stopped_from locks e.marks.items left left' v w wanted m told disk how (λ is. well (read is)) h.ends
  stopped_from how (Some asked.Prepare) wanted n n' h m well read told disk =
      still.stopped_from v w how (Some asked.Prepare) wanted left h.still m told disk
  stopped_from how (Some asked.Records) wanted n n' h m well read told disk =
      still.stopped_from v w how (Some asked.Records) wanted left h.still m told disk
  stopped_from how (Some asked.Check) wanted n n' h m well read told disk =
      still.stopped_from v w how (Some asked.Check) wanted left h.still m told disk
  stopped_from how (Some (asked.Generate number)) wanted n n' h m well read told disk = absurd m
  stopped_from how (Some (asked.Large number)) wanted n n' h m well read told disk = absurd m
  stopped_from how None wanted n n' h m well read told disk = absurd m

  -- the same, of the number that is handed back
  pub stopped_at : (k : ℕ) (how : Ending) (what : Option Asked) (wanted read_faults read_faults' : ℕ)
      → k ≡ status_of how → Ends how what → MeetsObstacle what wanted left v.told
      → ReadsWell what read_faults read_faults' → (status_of how ≡ 3 → Rose read_faults read_faults') → IsTold w.told
      → (Rose v.disk_faults w.disk_faults → ⊥)
      → IsStopped what wanted k
  stopped_at k how what wanted n n' is h m well read told disk =
      subst (λ (x : ℕ). IsStopped what wanted x) (sym is) (stopped_from how what wanted n n' h m well read told disk)

  -- ---- a scenario, and no board

  no_board : (script : Script) (how : Ending) → MeetsNoBoard v.told → IsTold w.told
      → EndsLate told faults moment wording script how e v w → ⊥
  no_board script how m is late =
      not_refused late.rows m.why m.image (opened told faults moment wording e v w script how late m.image m.shows is)
      m.refused

  run_no_board : (script : Script) → TellsAs script_of (Ok script) left → MeetsNoBoard v.told → IsTold w.told
      → (Rose v.disk_faults w.disk_faults → ⊥)
      → (how : Ending) → (status_of how ≡ 3 → ⊥) → Ran how → (status_of how ≡ 6) ⊎ (status_of how ≡ 7)
  run_no_board script tells m is disk (ending.NotABoard area) read runs = inl refl
  run_no_board script tells m is disk (ending.Damaged area at) read runs = inl refl
  run_no_board script tells m is disk ending.OutOfMemory read h = inr refl
  run_no_board script tells m is disk ending.Read read h = absurd (read refl)
  run_no_board script tells m is disk ending.Unopened read runs = absurd (disk (runs.ends.1.cause.rose refl))
  run_no_board script tells m is disk ending.Done read runs = absurd (no_board runs.script ending.Done m is runs.ends)
  run_no_board script tells m is disk ending.Doubt read runs = absurd (no_board runs.script ending.Doubt m is runs.ends)
  run_no_board script tells m is disk ending.Unwritten read runs =
      absurd (no_board runs.script ending.Unwritten m is runs.ends)
  run_no_board script tells m is disk ending.TooLong read h =
      absurd (not_too_long script_of left left' (Ok script) tells h.1)
  run_no_board script tells m is disk (ending.Script why) read h =
      absurd (not_both told faults moment wording e locks left left' v w script why
      (as_told script_of left left' (Ok script) (Err why) tells h.1))
  run_no_board script tells m is disk ending.Usage read runs = absurd runs.ends.1
  run_no_board script tells m is disk ending.Exists read runs = absurd runs.ends.1

  pub no_board_from : (how : Ending) (what : Option Asked) → Ends how what → MeetsNothing what left v.told
      → IsTold w.told → (status_of how ≡ 3 → ⊥) → (Rose v.disk_faults w.disk_faults → ⊥)
      → (status_of how ≡ 6) ⊎ (status_of how ≡ 7)
  no_board_from how (Some asked.Run) h ((script, tells), m) is_told read disk =
      run_no_board script tells m is_told disk how read h
  no_board_from how (Some asked.Routes) h ((script, tells), m) is_told read disk =
      run_no_board script tells m is_told disk how read h
  no_board_from how (Some asked.Locks) h ((lines, tells), m) is_told read disk =
      lock.no_locket_from locks e.marks.items left left' v w lines tells m is_told disk how read h.ends
  no_board_from how (Some asked.Prepare) h m is_told read disk = absurd m
  no_board_from how (Some asked.Records) h m is_told read disk = absurd m
  no_board_from how (Some asked.Check) h m is_told read disk = absurd m
  no_board_from how (Some (asked.Generate number)) h m is_told read disk = absurd m
  no_board_from how (Some (asked.Large number)) h m is_told read disk = absurd m
  no_board_from how None h m is_told read disk = absurd m

  -- ---- a byte too much

  unread : TellsTooMuch left → (how : Ending) → RunsScript told faults moment wording how e left left' v w → ⊥
  unread tells how runs = not_whole script_of left left' tells (Ok runs.script) runs.reads

  run_too_much : TellsTooMuch left → (how : Ending) → (status_of how ≡ 3 → ⊥) → Ran how
      → (status_of how ≡ 8) ⊎ (status_of how ≡ 7)
  run_too_much tells ending.TooLong read h = inl refl
  run_too_much tells ending.OutOfMemory read h = inr refl
  run_too_much tells ending.Read read h = absurd (read refl)
  run_too_much tells (ending.Script why) read h = absurd (not_whole script_of left left' tells (Err why) h.1)
  run_too_much tells how read runs = absurd (unread tells how runs)

  pub too_much_from : (how : Ending) (what : Option Asked) → asks_for_source what ≡ true → Ends how what
      → TellsTooMuch left → (status_of how ≡ 3 → ⊥)
      → (status_of how ≡ 8) ⊎ (status_of how ≡ 7)
  too_much_from how (Some asked.Run) is h tells read = run_too_much tells how read h
  too_much_from how (Some asked.Routes) is h tells read = run_too_much tells how read h
  too_much_from how (Some asked.Locks) is h tells read =
      lock.too_much_from locks e.marks.items left left' v w tells how read h.ends
  too_much_from how (Some asked.Prepare) is h tells read = absurd (cc (is))
  too_much_from how (Some asked.Records) is h tells read = absurd (cc (is))
  too_much_from how (Some asked.Check) is h tells read = absurd (cc (is))
  too_much_from how (Some (asked.Generate number)) is h tells read = absurd (cc (is))
  too_much_from how (Some (asked.Large number)) is h tells read = absurd (cc (is))
  too_much_from how None is h tells read = absurd (cc (is))
