-- What each status says, from how the words end that ask for no run.
use Rattle.std.proofs.Common.{◌≡◌, ◌⊎◌, ◌∙◌, ◌+◌, ◌==◌, ◌≤◌, ℕ, true, false, Bool, List, Option, Some, None, Err, refl, sym, ap, subst, inl, inr, arith}
use Rattle.byte_ports.specs.Cause.{Rose}
use Rattle.byte_ports.specs.Content.{Lost}
use Rattle.disk_trait.specs.Past.{Image}
use Rattle.disk_trait.specs.Shows.{Shows}
use Rattle.disk_trait.specs.Steps.{Goes}
use Rattle.bbs_journal.specs.Preparing.{FindsBytes}
use Rattle.bbs_journal.specs.declared.load_fault.LoadFault.{LoadFault}
use Rattle.locket.specs.Lives.{LockLog}
use Rattle.lock_runs.proofs.Public as locks
use Rattle.program_ends.specs.Ending.{script_line, status_of}
use Rattle.program_ends.specs.Opening.{is_before_board}
use Rattle.program_ends.specs.Ports.{Ports, IsTold, PrintsTo}
use Rattle.program_ends.specs.Reading.{limit}
use Rattle.program_ends.specs.declared.ending.Ending.{Ending}
use Rattle.program_ends.specs.declared.ending.Ending.TheVariants as ending
use Rattle.scenario_reader.specs.declared.fault.ScriptFault.{ScriptFault}
use Rattle.program_tools.specs.Still.{AskedEnds, IsRefusedFor, IsStopped, MeetsObstacle, MeetsStill, ReadsFault, ReadsWell, StillEnds}
use Rattle.program_tools.specs.Words.{asks_for_locks}
use Rattle.program_tools.specs.declared.words.Asked.{Asked}
use Rattle.program_tools.specs.declared.words.Asked.TheVariants as asked
use Rattle.program_tools.proofs.Laws as still

module _ (log : LockLog) (marks : List ℕ) (left left' : Option (List ℕ)) (v w : Ports) where
  abbrev pub Ends : Ending → Option Asked → Type 0
  Ends how what = AskedEnds how what log marks left left' v w

  pub usage_from : (how : Ending) (what : Option Asked) → status_of how ≡ 1 → Ends how what → what ≡ None
  usage_from how (Some asked.Locks) n h = absurd (locks.not_usage log marks left left' v w how n h)
  usage_from how what n h = still.usage_from v w how what n h

  pub usage_to : (how : Ending) (what : Option Asked) → what ≡ None → Ends how what → status_of how ≡ 1
  usage_to how (Some x) is h = cc
  usage_to how None is h = still.usage_to v w how None is h

  -- no word that asks nothing of the source ends with a status of its reading
  not_of_still : (how : Ending) (what : Option Asked) (n : ℕ) → (n ≡ 1 → ⊥) → is_before_board n ≡ true
      → status_of how ≡ n → StillEnds how what v w → ⊥
  not_of_still how what n other before is h =
      other (sym is ∙ still.not_of_source v w how what (ap is_before_board is ∙ before) h)

  pub script_from : (how : Ending) (what : Option Asked) → status_of how ≡ 2 → Ends how what
      → (why : ScriptFault) × ReadsFault what why left left' × (whole : Bool)
      × PrintsTo whole (script_line why) v.held w.held v.write_faults w.write_faults
  script_from how (Some asked.Locks) n h = locks.script_from log marks left left' v w how n h
  script_from how what n h = absurd (not_of_still how what 2 (λ never. omega (arith, never)) refl n h)

  pub too_long_from : (how : Ending) (what : Option Asked) → status_of how ≡ 8 → Ends how what
      → Lost left left' (limit + 1)
  too_long_from how (Some asked.Locks) n h = locks.too_long_from log marks left left' v w how n h
  too_long_from how what n h = absurd (not_of_still how what 8 (λ never. omega (arith, never)) refl n h)

  pub unwritten_from : (how : Ending) (what : Option Asked) → status_of how ≡ 4 → Ends how what
      → Rose v.write_faults w.write_faults
  unwritten_from how (Some asked.Locks) n h = locks.unwritten_from log marks left left' v w how n h
  unwritten_from how what n h = still.unwritten_from v w how what n h

  pub unstored_from : (how : Ending) (what : Option Asked) → status_of how ≡ 5 → Ends how what
      → Rose v.disk_faults w.disk_faults
  unstored_from how (Some asked.Locks) n h = locks.unstored_from log marks left left' v w how n h
  unstored_from how what n h = still.unstored_from v w how what n h

  pub refused_from : (how : Ending) (what : Option Asked) → status_of how ≡ 6 → Ends how what
      → (why : LoadFault) × (w.disk_faults ≡ v.disk_faults)
      × ((image : Image) → Shows v.told image → IsTold w.told → IsRefusedFor what why image)
  refused_from how (Some asked.Locks) n h = locks.refused_from log marks left left' v w how n h
  refused_from how what n h = still.refused_from v w how what n h

  pub exists_from : (how : Ending) (what : Option Asked) → status_of how ≡ 9 → Ends how what
      → (what ≡ Some asked.Prepare) × (w.disk_faults ≡ v.disk_faults) × Goes v.told w.told FindsBytes
  exists_from how (Some asked.Locks) n h = absurd (locks.not_exists log marks left left' v w how n h)
  exists_from how what n h = still.exists_from v w how what n h

  pub later_from : (how : Ending) (what : Option Asked) → Ends how what → v.disk_faults ≤ w.disk_faults
  later_from how (Some asked.Locks) h = locks.later_from log marks left left' v w how h
  later_from how what h = still.later_from v w how what h

  pub complete_from : (how : Ending) (what : Option Asked) (faults faults' : ℕ) → Ends how what
      → MeetsStill what left v.told → ReadsWell what faults faults'
      → (status_of how ≡ 3 → Rose faults faults') → IsTold w.told → (Rose v.write_faults w.write_faults → ⊥)
      → (Rose v.disk_faults w.disk_faults → ⊥)
      → (status_of how ≡ 0) ⊎ (status_of how ≡ 7)
  complete_from how (Some asked.Locks) faults faults' h m well read told sink disk =
      locks.complete_from log marks left left' v w how h m told (λ n. well (read n)) sink disk
  complete_from how what faults faults' h m well read told sink disk =
      still.complete_from v w how what left h m told sink disk

  pub stopped_from : (how : Ending) (what : Option Asked) (wanted faults faults' : ℕ) → Ends how what
      → MeetsObstacle what wanted left v.told → ReadsWell what faults faults'
      → (status_of how ≡ 3 → Rose faults faults') → IsTold w.told → (Rose v.disk_faults w.disk_faults → ⊥)
      → IsStopped what wanted (status_of how)
  stopped_from how (Some asked.Locks) wanted faults faults' h m well read told disk =
      locks.stopped_from log marks left left' v w wanted m told disk how (λ n. well (read n)) h
  stopped_from how what wanted faults faults' h m well read told disk =
      still.stopped_from v w how what wanted left h m told disk

  -- the same, of the number that is handed back
  pub stopped_at : (n : ℕ) (how : Ending) (what : Option Asked) (wanted faults faults' : ℕ) → n ≡ status_of how
      → Ends how what → MeetsObstacle what wanted left v.told
      → ReadsWell what faults faults' → (status_of how ≡ 3 → Rose faults faults') → IsTold w.told
      → (Rose v.disk_faults w.disk_faults → ⊥) → IsStopped what wanted n
  stopped_at n how what wanted faults faults' is h m well read told disk =
      subst (λ (k : ℕ). IsStopped what wanted k) (sym is) (stopped_from how what wanted faults faults' h m well read
      told disk)

  -- what is said of one reading of the words is said of an equal one
  pub asked_as : (how : Ending) (a b : Option Asked) → a ≡ b → Ends how a → Ends how b
  asked_as how a b same ends = subst (λ (x : Option Asked). Ends how x) same ends

  -- words that ask nothing of the source end as such
  pub still_asked : (how : Ending) (what : Option Asked) → StillEnds how what v w → Ends how what
  still_asked how (Some asked.Locks) h = absurd h
  still_asked how what h = h

pub no_locks : (what : Option Asked) → (what ≡ Some asked.Locks → ⊥) → asks_for_locks what ≡ false
no_locks (Some asked.Locks) other = absurd (other refl)
no_locks what other = refl
