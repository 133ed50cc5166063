-- How a script of lock commands ends, by what was read, what was opened and what ran.
use Rattle.std.proofs.Common.{◌≡◌, ◌∙◌, ℕ, Bool, true, false, List, Option, Result, Ok, Err, inl, inr, refl, sym, ap, subst, arith}
use Rattle.byte_ports.specs.Cause.{HasCause}
use Rattle.byte_ports.specs.Content.{LostAtMost}
use Rattle.disk_trait.proofs.Public.{extends_same, goes_same}
use Rattle.disk_trait.specs.Past.{Image}
use Rattle.locket.specs.Lives.{LockLog}
use Rattle.locket.specs.Opening.{IsLocket, RefusesLocket}
use Rattle.locket.specs.declared.command.LockCommand.{LockCommand}
use Rattle.lock_lines.specs.Reading.{lock_lines_of}
use Rattle.lock_lines.specs.declared.lock_line.LockLine.{LockLine}
use Rattle.program_ends.specs.Ending.{EndsAs, line_of, status_of}
use Rattle.program_ends.specs.Opening.{EndsClosed, OpensWhat, is_before_board}
use Rattle.program_ends.specs.Ports.{Ports, Prints}
use Rattle.program_ends.specs.Reading.{ReadsAs, ReadsWhole, is_read, limit}
use Rattle.program_ends.specs.declared.ending.Ending.{Ending}
use Rattle.program_ends.specs.declared.ending.Ending.TheVariants as ending
use Rattle.program_ends.proofs.Public.{read_cause, rests_unseen, unread_cause}
use Rattle.scenario_reader.specs.declared.fault.ScriptFault.{ScriptFault}
use Rattle.lock_runs.specs.Runs.{EndsOpened, EndsUnlocked, EndsUnread, HasNoLocks, LinesEnd, LocksEnd, ReadsAndRuns, RunsLines}

-- ---- lines

module _ (lines : List LockLine) (locks : LockLog) (marks : List ℕ) (v w : Ports) where
  -- they ran on the lock journal that was opened
  pub opened_ends : (life : List LockCommand) (m : Ports) → OpensWhat (IsLocket life) v m → (how : Ending)
      → RunsLines life lines how locks marks m w
      → LinesEnd lines how locks marks v w
  opened_ends life m opens ending.Done runs = record { life = life; between = m; opens = opens; runs = runs }
  opened_ends life m opens ending.Doubt runs = record { life = life; between = m; opens = opens; runs = runs }
  opened_ends life m opens ending.Unwritten runs = record { life = life; between = m; opens = opens; runs = runs }
  opened_ends life m opens ending.OutOfMemory runs = inl
      (record { life = life; between = m; opens = opens; runs = runs })
  opened_ends life m opens how runs = absurd runs.writes

  unlocked : (how : Ending) → HasNoLocks locks marks → EndsClosed RefusesLocket how v w
      → LinesEnd lines how locks marks v w
  unlocked ending.Done none ends = absurd ends
  unlocked ending.Doubt none ends = absurd ends
  unlocked ending.Unwritten none ends = absurd ends
  unlocked ending.OutOfMemory none ends = inr (none, ends)
  unlocked how none ends = (none, ends)

  -- no lock journal was opened
  pub unlocked_ends : (how other : Ending) → other ≡ how → HasNoLocks locks marks → EndsClosed RefusesLocket how v w
      → LinesEnd lines other locks marks v w
  unlocked_ends how other is none ends = subst (λ (x : Ending). LinesEnd lines x locks marks v w) (sym is)
      (unlocked how none ends)

  -- the disk was looked at
  pub not_before : (how : Ending) → LinesEnd lines how locks marks v w → is_before_board (status_of how) ≡ true → ⊥
  not_before (ending.Script why) ends before = absurd ends.1
  not_before ending.Read ends before = absurd ends.1
  not_before ending.TooLong ends before = absurd ends.1
  not_before ending.Usage ends before = absurd ends.1
  not_before how ends before = cc

  pub not_read : (how : Ending) → LinesEnd lines how locks marks v w → is_read how ≡ false
  not_read ending.Read ends = absurd ends.1
  not_read how ends = refl

-- ---- a source

module _ (locks : LockLog) (marks : List ℕ) (left left' : Option (List ℕ)) (v w : Ports) where
  abbrev pub Ends : Ending → Type 0
  Ends how = LocksEnd how locks marks left left' v w

  -- it gave lines
  pub lines_run : (how : Ending) → ReadsAndRuns how locks marks left left' v w → Ends how
  lines_run (ending.Script why) runs = absurd runs.ends.1
  lines_run ending.Read runs = absurd runs.ends.1
  lines_run ending.TooLong runs = absurd runs.ends.1
  lines_run ending.OutOfMemory runs = inl runs
  lines_run how runs = runs

  -- these lines, which are those that ran
  pub given_run : (how : Ending) (lines given : List LockLine) → given ≡ lines
      → ReadsWhole lock_lines_of (Ok lines) left left'
      → LinesEnd given how locks marks v w → Ends how
  given_run how lines given same reads ends =
      lines_run how (record {
        lines = lines;
        reads = reads;
        ends =
            subst (λ (l : List LockLine). LinesEnd l how locks marks v w) same ends;
      })

  module _ (same : w.told ≡ v.told) (stands : w.disk_faults ≡ v.disk_faults) (whole : Bool) where
    unseen : (how : Ending) → HasNoLocks locks marks → Prints whole (line_of how) v w → EndsUnread how locks marks v w
    unseen how none prints = (none, record { told = same; faults = stands; whole = whole; prints = prints })

    wants : HasNoLocks locks marks → Prints whole (line_of ending.OutOfMemory) v w → LostAtMost left left' limit
        → Ends ending.OutOfMemory
    wants none prints lost = inr ((none, rests_unseen v w same stands whole ending.OutOfMemory prints), lost)

    lost_of : (fault : ScriptFault) → ReadsWhole lock_lines_of (Err fault) left left' → LostAtMost left left' limit
    lost_of fault reads = (reads.bytes, reads.few, reads.consumes)

    as_prints : (how other : Ending) → other ≡ how → Prints whole (line_of other) v w → Prints whole (line_of how) v w
    as_prints how other is prints = subst (λ (x : Ending). Prints whole (line_of x) v w) is prints

    unread_ends : (what how : Ending) → ReadsAs lock_lines_of (Err what) left left' → EndsAs what how
        → HasNoLocks locks marks → Prints whole (line_of how) v w → Ends how
    unread_ends (ending.Script why) how reads (inl is) none prints =
        subst Ends (sym is) (unseen (ending.Script why) none (as_prints (ending.Script why) how is prints), reads)
    unread_ends (ending.Script why) how reads (inr is) none prints =
        subst Ends (sym is) (wants none (as_prints ending.OutOfMemory how is prints) (lost_of why reads))
    unread_ends ending.Read how reads is none prints = subst Ends (sym is)
        (unseen ending.Read none (as_prints ending.Read how is prints), reads)
    unread_ends ending.TooLong how reads is none prints =
        subst Ends (sym is) (unseen ending.TooLong none (as_prints ending.TooLong how is prints), reads)
    unread_ends ending.OutOfMemory how reads is none prints =
        subst Ends (sym is) (wants none (as_prints ending.OutOfMemory how is prints) reads)
    unread_ends what how never is none prints = absurd never

    -- it gave no lines
    pub unread : (what how other : Ending) → other ≡ how → ReadsAs lock_lines_of (Err what) left left' → EndsAs what how
        → HasNoLocks locks marks
        → Prints whole (line_of how) v w → Ends other
    unread what how other is reads ends none prints = subst Ends (sym is) (unread_ends what how reads ends none prints)

-- the source failed where the status says so
pub is_read_at : (how : Ending) → status_of how ≡ 3 → is_read how ≡ true
is_read_at ending.Read n = refl
is_read_at how n = absurd (omega (arith, n))
