-- What each status says, from how a script of lock commands ends.
use Rattle.std.proofs.Common.{◌≡◌, ◌⊎◌, ◌∙◌, ℕ, ◌+◌, ◌<◌, ◌≤◌, Bool, true, List, [], ◌∷◌, ◌++◌, Option, Some, None, Result, Ok, Err, refl, sym, ap, subst, inl, inr, arith}
use Rattle.byte_ports.specs.Cause.{Rose}
use Rattle.byte_ports.specs.Content.{Lost}
use Rattle.disk_trait.specs.Past.{Past, Image}
use Rattle.disk_trait.specs.Runs.{Extends}
use Rattle.disk_trait.specs.Shows.{Shows}
use Rattle.disk_trait.specs.Steps.{Goes}
use Rattle.bbs_journal.specs.declared.load_fault.LoadFault.{LoadFault}
use Rattle.bbs_journal.specs.declared.load_fault.LoadFault.TheVariants as fault
use Rattle.payload_log.specs.Entries.{doubts_in}
use Rattle.payload_log.specs.declared.entry.Entry.TheVariants.{Done, Doubt}
use Rattle.locket.proofs.Public.{not_refused}
use Rattle.locket.specs.Lives.{LockLog}
use Rattle.locket.specs.Opening.{IsLocket, IsNotLocket, RefusesLocket}
use Rattle.lock_lines.specs.Reading.{lock_lines_of}
use Rattle.lock_lines.specs.declared.lock_line.LockLine.{LockLine}
use Rattle.program_ends.specs.Ending.{script_line, status_of}
use Rattle.program_ends.specs.Opening.{EndsClosed, is_before_board}
use Rattle.program_ends.specs.Ports.{Ports, IsTold, PrintsTo}
use Rattle.program_ends.specs.Reading.{ReadsWhole, TellsAs, TellsTooMuch, limit}
use Rattle.program_ends.specs.declared.ending.Ending.{Ending}
use Rattle.program_ends.specs.declared.ending.Ending.TheVariants as ending
use Rattle.program_ends.proofs.Public.{as_told, not_too_long, not_whole}
use Rattle.scenario_reader.specs.declared.fault.ScriptFault.{ScriptFault}
use Rattle.lock_runs.specs.Courses.{doubt_at, lock_course}
use Rattle.lock_runs.specs.Runs.{EndsOpened, IsLastLine, LinesEnd, LocksEnd, MeetsLocks, MeetsNoLocket, ReadsAndRuns, StopsLocks}

-- a disk that tells its past at the end told it before
told_back : (between told' : Option Past) (Does : Past → Past → Type 0) → Goes between told' Does → IsTold told'
    → IsTold between
told_back None None Does goes is = absurd is
told_back None (Some r) Does goes is = absurd goes
told_back (Some q) told' Does goes is = tt

some_doubt : (log : LockLog) (line : LockLine) → 0 < doubts_in (log ++ doubt_at (Some line))
some_doubt [] line = omega arith
some_doubt (Done c ∷ log) line = some_doubt log line
some_doubt (Doubt c ∷ log) line = omega arith

not_both : {X : Type 0} (x : X) (why : ScriptFault) → Ok x ≡ Err why → ⊥
not_both x why same = cc

module _ (locks : LockLog) (marks : List ℕ) (left left' : Option (List ℕ)) (v w : Ports) where
  abbrev pub Ends : Ending → Type 0
  Ends how = LocksEnd how locks marks left left' v w

  pub not_usage : (how : Ending) → status_of how ≡ 1 → Ends how → ⊥
  not_usage ending.Usage n runs = absurd runs.ends.1
  not_usage how n h = absurd (omega (arith, n))

  pub not_exists : (how : Ending) → status_of how ≡ 9 → Ends how → ⊥
  not_exists ending.Exists n runs = absurd runs.ends.1
  not_exists how n h = absurd (omega (arith, n))

  pub script_from : (how : Ending) → status_of how ≡ 2 → Ends how
      → (why : ScriptFault) × ReadsWhole lock_lines_of (Err why) left left'
      × (whole : Bool) × PrintsTo whole (script_line why) v.held w.held v.write_faults w.write_faults
  script_from (ending.Script why) n ((none, ends), reads) = (why, reads, ends.whole, ends.prints)
  script_from how n h = absurd (omega (arith, n))

  pub too_long_from : (how : Ending) → status_of how ≡ 8 → Ends how → Lost left left' (limit + 1)
  too_long_from ending.TooLong n h = h.1
  too_long_from how n h = absurd (omega (arith, n))

  pub unwritten_from : (how : Ending) → status_of how ≡ 4 → Ends how → Rose v.write_faults w.write_faults
  unwritten_from ending.Unwritten n runs =
      let ends = runs.ends in subst (λ (m : ℕ). Rose m w.write_faults) ends.opens.same_sink.1
      (ends.runs.writes.cause.rose refl)
  unwritten_from how n h = absurd (omega (arith, n))

  -- the disk failed at a line
  has_doubt : (lines : List LockLine) (ends : EndsOpened lines ending.Doubt locks marks v w) → 0 < doubts_in locks
  has_doubt lines ends = by_failed ends.runs.failed refl ends.runs.last
    where
      by_failed : (failed : Option LockLine) → ends.runs.failed ≡ failed → IsLastLine ending.Doubt failed ends.runs.rest
          → 0 < doubts_in locks
      by_failed None is never = absurd never
      by_failed (Some line) is last =
          let log_is : locks ≡ (lock_course ends.life ends.runs.ran).log ++ doubt_at (Some line) =
          ends.runs.locks_are ∙ ap (λ (f : Option LockLine). (lock_course ends.life ends.runs.ran).log ++ doubt_at f) is
          in
          subst (λ (l : LockLog). 0 < doubts_in l) (sym log_is)
          (some_doubt (lock_course ends.life ends.runs.ran).log line)

  pub unstored_from : (how : Ending) → status_of how ≡ 5 → Ends how → Rose v.disk_faults w.disk_faults
  unstored_from ending.Unopened n runs = runs.ends.1.cause.rose refl
  unstored_from ending.Doubt n runs =
      let ends = runs.ends in
      let some = has_doubt runs.lines ends in
      let causes = ends.runs.doubts in
      subst (λ (m : ℕ). Rose m w.disk_faults) ends.opens.no_fault (omega (arith, some, causes))
  unstored_from how n h = absurd (omega (arith, n))

  pub refused_from : (how : Ending) → status_of how ≡ 6 → Ends how
      → (why : LoadFault) × (w.disk_faults ≡ v.disk_faults)
      × ((image : Image) → Shows v.told image → IsTold w.told → IsNotLocket why image)
  refused_from (ending.NotABoard area) n runs = (
    fault.NotABoard area,
    runs.ends.1.early.cause.stood refl,
    runs.ends.1.refused,
  )
  refused_from (ending.Damaged area at) n runs = (
    fault.Damaged area at,
    runs.ends.1.early.cause.stood refl,
    runs.ends.1.refused,
  )
  refused_from how n h = absurd (omega (arith, n))

  pub reached_from : (how : Ending) → status_of how ≡ 6 → Ends how
      → (lines : List LockLine) × ReadsWhole lock_lines_of (Ok lines) left left'
  reached_from (ending.NotABoard area) n runs = (runs.lines, runs.reads)
  reached_from (ending.Damaged area at) n runs = (runs.lines, runs.reads)
  reached_from how n h = absurd (omega (arith, n))

  pub untouched_from : (how : Ending) → is_before_board (status_of how) ≡ true → Ends how
      → (w.told ≡ v.told) × (w.disk_faults ≡ v.disk_faults)
  untouched_from (ending.Script why) n h = (h.0.1.told, h.0.1.faults)
  untouched_from ending.Read n h = (h.0.1.told, h.0.1.faults)
  untouched_from ending.TooLong n h = (h.0.1.told, h.0.1.faults)
  untouched_from ending.Usage n runs = absurd runs.ends.1
  untouched_from how n h = cc

  -- ---- the disk's count of faults never falls

  closed_later : (how : Ending) → EndsClosed RefusesLocket how v w → v.disk_faults ≤ w.disk_faults
  closed_later ending.Unopened h = h.cause.later
  closed_later (ending.NotABoard area) h = h.early.cause.later
  closed_later (ending.Damaged area at) h = h.early.cause.later
  closed_later ending.OutOfMemory h = h.cause.later
  closed_later how h = absurd h

  opened_later : (lines : List LockLine) (how : Ending) → EndsOpened lines how locks marks v w
      → v.disk_faults ≤ w.disk_faults
  opened_later lines how ends = subst (λ (m : ℕ). m ≤ w.disk_faults) ends.opens.no_fault ends.runs.later

  starved_later : (lines : List LockLine) → LinesEnd lines ending.OutOfMemory locks marks v w
      → v.disk_faults ≤ w.disk_faults
  starved_later lines (inl ends) = opened_later lines ending.OutOfMemory ends
  starved_later lines (inr (none, ends)) = closed_later ending.OutOfMemory ends

  pub later_from : (how : Ending) → Ends how → v.disk_faults ≤ w.disk_faults
  later_from (ending.Script why) h = let stands = h.0.1.faults in omega (arith, stands)
  later_from ending.Read h = let stands = h.0.1.faults in omega (arith, stands)
  later_from ending.TooLong h = let stands = h.0.1.faults in omega (arith, stands)
  later_from ending.Done runs = opened_later runs.lines ending.Done runs.ends
  later_from ending.Doubt runs = opened_later runs.lines ending.Doubt runs.ends
  later_from ending.Unwritten runs = opened_later runs.lines ending.Unwritten runs.ends
  later_from ending.OutOfMemory (inl runs) = starved_later runs.lines runs.ends
  later_from ending.OutOfMemory (inr ((none, ends), lost)) = closed_later ending.OutOfMemory ends
  later_from how runs = closed_later how runs.ends.1

  -- ---- what stops it, and completeness

  -- what was opened is what the disk held
  held : (lines : List LockLine) (how : Ending) (ends : EndsOpened lines how locks marks v w) (image : Image)
      → Shows v.told image → IsTold w.told
      → IsLocket ends.life image
  held lines how ends image shows is =
      ends.opens.found image (ends.opens.still image shows
      (told_back ends.between.told w.told Extends ends.runs.extends is))

  pub complete_from : (how : Ending) → Ends how → MeetsLocks left v.told → IsTold w.told → (status_of how ≡ 3 → ⊥)
      → (Rose v.write_faults w.write_faults → ⊥) → (Rose v.disk_faults w.disk_faults → ⊥)
      → (status_of how ≡ 0) ⊎ (status_of how ≡ 7)
  complete_from ending.Done h m is read sink disk = inl refl
  complete_from ending.OutOfMemory h m is read sink disk = inr refl
  complete_from ending.Read h m is read sink disk = absurd (read refl)
  complete_from ending.Unwritten h m is read sink disk = absurd (sink (unwritten_from ending.Unwritten refl h))
  complete_from ending.Unopened h m is read sink disk = absurd (disk (unstored_from ending.Unopened refl h))
  complete_from ending.Doubt h m is read sink disk = absurd (disk (unstored_from ending.Doubt refl h))
  complete_from (ending.NotABoard area) runs m is read sink disk =
      absurd (not_refused m.life (fault.NotABoard area) m.image m.locket (runs.ends.1.refused m.image m.shows is))
  complete_from (ending.Damaged area at) runs m is read sink disk =
      absurd (not_refused m.life (fault.Damaged area at) m.image m.locket (runs.ends.1.refused m.image m.shows is))
  complete_from ending.TooLong h m is read sink disk = absurd
      (not_too_long lock_lines_of left left' (Ok m.lines) m.source h.1)
  complete_from (ending.Script why) h m is read sink disk =
      absurd (not_both m.lines why (as_told lock_lines_of left left' (Ok m.lines) (Err why) m.source h.1))
  complete_from ending.Usage runs m is read sink disk = absurd runs.ends.1
  complete_from ending.Exists runs m is read sink disk = absurd runs.ends.1

  no_locket : (lines : List LockLine) (how : Ending) → MeetsNoLocket v.told → IsTold w.told
      → EndsOpened lines how locks marks v w → ⊥
  no_locket lines how m is ends = not_refused ends.life m.why m.image (held lines how ends m.image m.shows is) m.refused

  pub no_locket_from : (lines : List LockLine) → TellsAs lock_lines_of (Ok lines) left → MeetsNoLocket v.told
      → IsTold w.told → (Rose v.disk_faults w.disk_faults → ⊥)
      → (how : Ending) → (status_of how ≡ 3 → ⊥) → Ends how → (status_of how ≡ 6) ⊎ (status_of how ≡ 7)
  no_locket_from lines tells m is disk (ending.NotABoard area) read runs = inl refl
  no_locket_from lines tells m is disk (ending.Damaged area at) read runs = inl refl
  no_locket_from lines tells m is disk ending.OutOfMemory read h = inr refl
  no_locket_from lines tells m is disk ending.Read read h = absurd (read refl)
  no_locket_from lines tells m is disk ending.Unopened read runs = absurd (disk (runs.ends.1.cause.rose refl))
  no_locket_from lines tells m is disk ending.Done read runs = absurd (no_locket runs.lines ending.Done m is runs.ends)
  no_locket_from lines tells m is disk ending.Doubt read runs =
      absurd (no_locket runs.lines ending.Doubt m is runs.ends)
  no_locket_from lines tells m is disk ending.Unwritten read runs =
      absurd (no_locket runs.lines ending.Unwritten m is runs.ends)
  no_locket_from lines tells m is disk ending.TooLong read h =
      absurd (not_too_long lock_lines_of left left' (Ok lines) tells h.1)
  no_locket_from lines tells m is disk (ending.Script why) read h =
      absurd (not_both lines why (as_told lock_lines_of left left' (Ok lines) (Err why) tells h.1))
  no_locket_from lines tells m is disk ending.Usage read runs = absurd runs.ends.1
  no_locket_from lines tells m is disk ending.Exists read runs = absurd runs.ends.1

  no_script : (why : ScriptFault) → TellsAs lock_lines_of (Err why) left → (how : Ending)
      → ReadsAndRuns how locks marks left left' v w → ⊥
  no_script why tells how runs = not_both runs.lines why
      (sym (as_told lock_lines_of left left' (Err why) (Ok runs.lines) tells runs.reads))

  pub no_script_from : (why : ScriptFault) → TellsAs lock_lines_of (Err why) left → (how : Ending)
      → (status_of how ≡ 3 → ⊥) → Ends how
      → (status_of how ≡ 2) ⊎ (status_of how ≡ 7)
  no_script_from why tells (ending.Script other) read h = inl refl
  no_script_from why tells ending.OutOfMemory read h = inr refl
  no_script_from why tells ending.Read read h = absurd (read refl)
  no_script_from why tells ending.TooLong read h = absurd (not_too_long lock_lines_of left left' (Err why) tells h.1)
  no_script_from why tells how read runs = absurd (no_script why tells how runs)

  unread : TellsTooMuch left → (how : Ending) → ReadsAndRuns how locks marks left left' v w → ⊥
  unread tells how runs = not_whole lock_lines_of left left' tells (Ok runs.lines) runs.reads

  pub too_much_from : TellsTooMuch left → (how : Ending) → (status_of how ≡ 3 → ⊥) → Ends how
      → (status_of how ≡ 8) ⊎ (status_of how ≡ 7)
  too_much_from tells ending.TooLong read h = inl refl
  too_much_from tells ending.OutOfMemory read h = inr refl
  too_much_from tells ending.Read read h = absurd (read refl)
  too_much_from tells (ending.Script why) read h = absurd (not_whole lock_lines_of left left' tells (Err why) h.1)
  too_much_from tells how read runs = absurd (unread tells how runs)

  -- whatever stops it
  pub stopped_from : (n : ℕ) → StopsLocks n left v.told → IsTold w.told → (Rose v.disk_faults w.disk_faults → ⊥)
      → (how : Ending) → (status_of how ≡ 3 → ⊥) → Ends how
      → (status_of how ≡ n) ⊎ (status_of how ≡ 7)
  stopped_from n (inl (is, (why, tells))) told disk how read h =
      subst (λ (k : ℕ). (status_of how ≡ k) ⊎ (status_of how ≡ 7)) (sym is) (no_script_from why tells how read h)
  stopped_from n (inr (inl (is, tells))) told disk how read h =
      subst (λ (k : ℕ). (status_of how ≡ k) ⊎ (status_of how ≡ 7)) (sym is) (too_much_from tells how read h)
  stopped_from n (inr (inr (is, (lines, tells), m))) told disk how read h =
      subst (λ (k : ℕ). (status_of how ≡ k) ⊎ (status_of how ≡ 7)) (sym is)
      (no_locket_from lines tells m told disk how read h)
