-- What the call of one line comes to.
use Rattle.std.proofs.Common.{◌≡◌, ◌∙◌, ℕ, Bool, List, [], ◌∷◌, ◌++◌, Option, Some, None, Result, Ok, Err, inl, inr, refl, sym, ap, subst, append-nil}
use Rattle.disk_trait.proofs.Public.{extends_same, goes_weaker}
use Rattle.disk_trait.specs.Past.{Past}
use Rattle.disk_trait.specs.Runs.{Extends}
use Rattle.disk_trait.specs.Steps.{Goes}
use Rattle.payload_log.specs.declared.entry.Entry.TheVariants.{Done, Doubt}
use Rattle.locket.specs.Calls.{EndsLock, DoesLock, GrowsLocks, LockUses, is_lock_disk_fault, lock_added}
use Rattle.locket.specs.Lives.{LockLog, state_of}
use Rattle.locket.specs.Steps.{lock_step}
use Rattle.locket.specs.View.{LocketView, life_of}
use Rattle.locket.specs.declared.command.LockCommand.{LockCommand}
use Rattle.locket.specs.declared.reply.LockFault.{LockFault}
use Rattle.locket.specs.declared.reply.LockFault.TheVariants.{Disk, OutOfMemory}
use Rattle.locket.specs.declared.reply.LockReply.{LockReply}
use Rattle.locket.specs.declared.verdict.LockVerdict.{LockVerdict}
use Rattle.locket.specs.declared.verdict.LockVerdict.TheVariants.{Changes, Stays}
use Rattle.lock_lines.specs.Printed.{answer_line, disk_line}
use Rattle.lock_lines.specs.declared.lock_line.LockLine.{LockLine}
use Rattle.lock_runs.specs.Courses.{answer_of, verdict_behind}
use Rattle.lock_runs.specs.Lines.{RunsOn}

-- the answer is the verdict's
answer_is : (verdict : LockVerdict) (reply : LockReply) → EndsLock verdict (Ok reply) → reply ≡ answer_of verdict
answer_is (Stays answer) reply is = cc
answer_is (Changes next answer) reply (inl is) = cc
answer_is (Changes next answer) reply (inr (inl never)) = cc
answer_is (Changes next answer) reply (inr (inr never)) = cc

doubt_is : (verdict : LockVerdict) (command : LockCommand) → EndsLock verdict (Err Disk)
    → lock_added verdict (Err Disk) command ≡ Doubt command ∷ []
doubt_is (Stays answer) command never = cc
doubt_is (Changes next answer) command ends = refl

nothing_is : (verdict : LockVerdict) (command : LockCommand) → lock_added verdict (Err OutOfMemory) command ≡ []
nothing_is (Stays answer) command = refl
nothing_is (Changes next answer) command = refl

goes_on : (items : LockLog) (waited waits : Bool) (life : List LockCommand) (p q : Past)
    → DoesLock items waited waits life p q → Extends p q
goes_on [] waited waits life p q same = subst (λ (x : Past). Extends p x) (sym same) (extends_same p)
goes_on (Done c ∷ items) waited waits life p q passes = passes.extends
goes_on (Doubt c ∷ items) waited waits life p q passes = passes.extends

module _ {D : Type 0} (told : D → Option Past) (moment fault_count : D → ℕ) (line : LockLine) (v w : LocketView D) where
  abbrev pub verdict : LockVerdict
  verdict = lock_step (state_of (life_of v)) line.command

  -- what the locket's call promises
  pub record Called (result : Result LockReply LockFault) : Type 0 where
    pub ends : EndsLock verdict result
    pub grows : GrowsLocks (lock_added verdict result line.command) (moment w.disk) v w
    pub does : Goes (told v.disk) (told w.disk) (DoesLock (lock_added verdict result line.command) v.waits w.waits
        (life_of v))
    pub uses : LockUses moment fault_count (lock_added verdict result line.command) (is_lock_disk_fault result) v w

  pub at_fault : (fault other : LockFault) → fault ≡ other → Called (Err fault) → Called (Err other)
  at_fault fault other is called = subst (λ (f : LockFault). Called (Err f)) is called

  module _ (text text' : List ℕ) where
    extends_by : (result : Result LockReply LockFault) → Called result → Goes (told v.disk) (told w.disk) Extends
    extends_by result called =
        goes_weaker (told v.disk) (told w.disk) (DoesLock (lock_added verdict result line.command) v.waits w.waits
        (life_of v)) Extends
        (λ p q i j does. goes_on (lock_added verdict result line.command) v.waits w.waits (life_of v) p q does)
        called.does

    -- the log of a line that was answered
    answered_log : (reply : LockReply) → Called (Ok reply)
        → w.log ≡ (v.log ++ lock_added verdict (Ok (answer_of verdict)) line.command) ++ []
    answered_log reply called =
        called.grows.log ∙ ap (λ (r : LockReply). v.log ++ lock_added verdict (Ok r) line.command)
        (answer_is verdict reply called.ends)
        ∙ sym (append-nil (v.log ++ lock_added verdict (Ok (answer_of verdict)) line.command))

    pub line_answered : (reply : LockReply) → Called (Ok reply) → text' ≡ text ++ answer_line line.line reply
        → RunsOn told fault_count (line ∷ []) (Ok tt) text text' v w
    line_answered reply called is = record {
      ran = line ∷ [];
      failed = None;
      rest = [];
      split = refl;
      base = called.grows.base;
      since = called.grows.since;
      faults = called.grows.faults;
      log = answered_log reply called;
      ends = (
        refl,
        is ∙ ap (λ (r : LockReply). text ++ answer_line line.line r) (answer_is verdict reply called.ends)
            ∙ sym (append-nil (text ++ answer_line line.line (answer_of verdict))),
      );
      extends = extends_by (Ok reply) called;
      later = called.uses.cause.later;
    }

    -- it was answered, and there was no memory for the text
    pub line_untold : (reply : LockReply) → Called (Ok reply)
        → RunsOn told fault_count (line ∷ []) (Err OutOfMemory) text text' v w
    line_untold reply called = record {
      ran = line ∷ [];
      failed = None;
      rest = [];
      split = refl;
      base = called.grows.base;
      since = called.grows.since;
      faults = called.grows.faults;
      log = answered_log reply called;
      ends = tt;
      extends = extends_by (Ok reply) called;
      later = called.uses.cause.later;
    }

    failed_log : Called (Err Disk) → w.log ≡ v.log ++ Doubt line.command ∷ []
    failed_log called = called.grows.log ∙ ap (λ (l : LockLog). v.log ++ l) (doubt_is verdict line.command called.ends)

    pub line_failed : Called (Err Disk) → text' ≡ text ++ disk_line line.line
        → RunsOn told fault_count (line ∷ []) (Err Disk) text text' v w
    line_failed called is = record {
      ran = [];
      failed = Some line;
      rest = [];
      split = refl;
      base = called.grows.base;
      since = called.grows.since;
      faults = called.grows.faults;
      log = failed_log called;
      ends = is;
      extends = extends_by (Err Disk) called;
      later = called.uses.cause.later;
    }

    pub line_failed_untold : Called (Err Disk) → RunsOn told fault_count (line ∷ []) (Err OutOfMemory) text text' v w
    line_failed_untold called = record {
      ran = [];
      failed = Some line;
      rest = [];
      split = refl;
      base = called.grows.base;
      since = called.grows.since;
      faults = called.grows.faults;
      log = failed_log called;
      ends = tt;
      extends = extends_by (Err Disk) called;
      later = called.uses.cause.later;
    }

    pub line_starved : Called (Err OutOfMemory) → RunsOn told fault_count (line ∷ []) (Err OutOfMemory) text text' v w
    line_starved called = record {
      ran = [];
      failed = None;
      rest = line ∷ [];
      split = refl;
      base = called.grows.base;
      since = called.grows.since;
      faults = called.grows.faults;
      log = called.grows.log ∙ ap (λ (l : LockLog). v.log ++ l) (nothing_is verdict line.command);
      ends = tt;
      extends = extends_by (Err OutOfMemory) called;
      later = called.uses.cause.later;
    }
