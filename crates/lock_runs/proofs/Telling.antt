-- Lines that ran on a locket, were told, and left it closed.
use Rattle.std.proofs.Common.{◌≡◌, ◌∙◌, ℕ, true, false, List, [], ◌++◌, Option, Some, None, Result, Ok, Err, inl, inr, refl, sym, ap, subst}
use Rattle.std.specs.Option.{ForSome}
use Rattle.disk_trait.specs.Past.{Past}
use Rattle.disk_trait.specs.Runs.{Extends}
use Rattle.disk_trait.specs.Steps.{Goes}
use Rattle.payload_log.specs.Doubts.{RoseBy}
use Rattle.payload_log.specs.Entries.{doubts_in}
use Rattle.locket.specs.Kept.{KeptLocks}
use Rattle.locket.specs.Lives.{LockLog, IsLawful, IsLife, lived, state_of}
use Rattle.locket.specs.View.{LocketView, life_of}
use Rattle.locket.specs.declared.command.LockCommand.{LockCommand}
use Rattle.locket.specs.declared.reply.LockFault.{LockFault}
use Rattle.locket.specs.declared.reply.LockFault.TheVariants.{Disk, OutOfMemory}
use Rattle.lock_lines.specs.declared.lock_line.LockLine.{LockLine}
use Rattle.program_ends.specs.Ports.{Ports, PrintsTo, ports_of}
use Rattle.program_ends.specs.declared.ending.Ending.{Ending}
use Rattle.program_ends.specs.declared.ending.Ending.TheVariants as ending
use Rattle.lock_runs.specs.Courses.{LockCourse, answers_of_lines, course_behind, doubt_at, failed_line, lock_text, locks_of_lines, summary_behind}
use Rattle.lock_runs.specs.Lines.{EndsBy, IsFinished, IsTold, RunsOn, course_at}
use Rattle.lock_runs.specs.Runs.{IsLastLine, RunsLines, WritesText}

-- a text that was told, by how the lines ended
module _ (failed : Option LockLine) (rest : List LockLine) (said text : List ℕ) (v w : Ports) where
  abbrev pub IsEnd : Ending → Type 0
  IsEnd how = IsLastLine how failed rest × WritesText how text v w

  abbrev pub Tells : Ending → Ending → Type 0
  Tells how told = IsTold how told said v.held w.held v.write_faults w.write_faults

  whole : said ≡ text → PrintsTo true said v.held w.held v.write_faults w.write_faults
      → PrintsTo true text v.held w.held v.write_faults w.write_faults
  whole is prints = subst (λ (t : List ℕ). PrintsTo true t v.held w.held v.write_faults w.write_faults) is prints

  part : said ≡ text → PrintsTo false said v.held w.held v.write_faults w.write_faults
      → PrintsTo false text v.held w.held v.write_faults w.write_faults
  part is prints = subst (λ (t : List ℕ). PrintsTo false t v.held w.held v.write_faults w.write_faults) is prints

  all_told : (told : Ending) → failed ≡ None → rest ≡ [] → said ≡ text → Tells ending.Done told → IsEnd told
  all_told told none nothing is (inl (how, prints)) =
      subst IsEnd (sym how) (
        subst (λ (f : Option LockLine). IsLastLine ending.Done f rest) (sym none) nothing,
        whole is prints,
      )
  all_told told none nothing is (inr (inl (how, prints))) =
      subst IsEnd (sym how) (
        subst (λ (f : Option LockLine). IsLastLine ending.Unwritten f rest) (sym none) nothing,
        part is prints,
      )
  all_told told none nothing is (inr (inr (how, held_is, faults_are))) =
      subst IsEnd (sym how) (tt, (held_is, faults_are))

  fault_told : (told : Ending) (line : LockLine) → failed ≡ Some line → said ≡ text → Tells ending.Doubt told
      → IsEnd told
  fault_told told line one is (inl (how, prints)) =
      subst IsEnd (sym how) (
        subst (λ (f : Option LockLine). IsLastLine ending.Doubt f rest) (sym one) tt,
        whole is prints,
      )
  fault_told told line one is (inr (inl (how, prints))) =
      subst IsEnd (sym how) (
        subst (λ (f : Option LockLine). IsLastLine ending.Unwritten f rest) (sym one) tt,
        part is prints,
      )
  fault_told told line one is (inr (inr (how, held_is, faults_are))) = subst IsEnd (sym how) (tt, (held_is, faults_are))

  by_failed : (f : Option LockLine) → failed ≡ f → (end : Result (Unit {0}) LockFault) (told : Ending) (IsText : Type 0)
      → (IsText → said ≡ text)
      → EndsBy end f rest IsText → IsFinished end told said v.held w.held v.write_faults w.write_faults → IsEnd told
  by_failed None is (Ok done) told IsText gives (nothing, said_is) tells =
      all_told told is nothing (gives said_is) tells
  by_failed (Some line) is (Ok done) told IsText gives never tells = absurd never
  by_failed None is (Err Disk) told IsText gives never tells = absurd never
  by_failed (Some line) is (Err Disk) told IsText gives said_is tells = fault_told told line is (gives said_is) tells
  by_failed f is (Err OutOfMemory) told IsText gives ends (how, held_is, faults_are) =
      subst IsEnd (sym how) (tt, (held_is, faults_are))

-- what a locket gives up when it is closed
pub record Gives {D : Type 0} (told : D → Option Past) (fault_count : D → ℕ) (left : LocketView D) : Type 0 where
  pub lawful : IsLife (life_of left) × IsLawful (state_of left.base) left.log
  pub kept : ForSome (told left.disk) (KeptLocks left.base left.log left.marks left.since)
  pub doubts : RoseBy (doubts_in left.log) left.faults (fault_count left.disk)

-- the ports, where the sink is so and the disk is this
abbrev pub ports_with : {D : Type 0} → (D → Option Past) → (D → ℕ) → (D → ℕ) → Option (List ℕ) → ℕ → D → Ports
ports_with told fault_count moment held faults disk = ports_of held faults (told disk) (fault_count disk) (moment disk)

module _ {D : Type 0} (told : D → Option Past) (fault_count moment : D → ℕ) (start left : LocketView D)
    (lines : List LockLine) (end : Result (Unit {0}) LockFault)
    (answers : List ℕ) (runs : RunsOn told fault_count lines end [] answers start left) (fresh : start.log ≡ []) where
  at_start : course_at start [] ≡ record { log = []; text = [] }
  at_start = λ i. record { log = fresh i; text = [] }

  log_is : left.log ≡ locks_of_lines start.base runs.ran runs.failed
  log_is = runs.log ∙ ap (λ (c : LockCourse). (course_behind start.base c runs.ran).log ++ doubt_at runs.failed)
      at_start

  text_is : answers ≡ (course_behind start.base (course_at start []) runs.ran).text ++ failed_line runs.failed
      → answers ++ summary_behind left.base left.log ≡ lock_text start.base runs.ran runs.failed
  text_is is =
      let said : answers ≡ answers_of_lines start.base runs.ran runs.failed =
      is ∙ ap (λ (c : LockCourse). (course_behind start.base c runs.ran).text ++ failed_line runs.failed) at_start in
      λ i. said i ++ summary_behind (runs.base i) (log_is i)

  module _ (since : start.since ≡ moment start.disk) (count : start.faults ≡ fault_count start.disk)
      (gives : Gives told fault_count left)
      (how : Ending) (locks : LockLog) (marks : List ℕ) (locks_are : locks ≡ left.log) (marks_are : marks ≡ left.marks)
      (held held' : Option (List ℕ)) (faults faults' : ℕ) where
    ran_to : IsFinished end how (answers ++ summary_behind left.base left.log) held held' faults faults'
        → RunsLines start.base lines how locks marks (ports_with told fault_count moment held faults start.disk)
        (ports_with told fault_count moment held' faults' left.disk)
    ran_to tells =
        let v : Ports = ports_with told fault_count moment held faults start.disk in
        let w : Ports = ports_with told fault_count moment held' faults' left.disk in
        let ends = by_failed runs.failed runs.rest (answers ++ summary_behind left.base left.log)
        (lock_text start.base runs.ran runs.failed) v w
        runs.failed refl end how _ text_is runs.ends tells in
        record {
          ran = runs.ran;
          failed = runs.failed;
          rest = runs.rest;
          split = runs.split;
          last = ends.0;
          locks_are = locks_are ∙ log_is;
          writes = ends.1;
          lawful = subst (λ (l : LockLog). IsLife (lived start.base l) × IsLawful (state_of start.base) l)
              (sym locks_are)
              (subst (λ (b : List LockCommand). IsLife (lived b left.log) × IsLawful (state_of b) left.log) runs.base
              gives.lawful);
          extends = runs.extends;
          kept = subst (λ (l : LockLog). ForSome (told left.disk) (KeptLocks start.base l marks (moment start.disk)))
              (sym locks_are)
              (subst (λ (m : List ℕ). ForSome (told left.disk) (KeptLocks start.base left.log m (moment start.disk)))
              (sym marks_are)
              (subst (λ (n : ℕ). ForSome (told left.disk) (KeptLocks start.base left.log left.marks n))
              (runs.since ∙ since)
              (subst (λ (b : List LockCommand). ForSome (told left.disk) (KeptLocks b left.log left.marks left.since))
              runs.base gives.kept)));
          doubts = subst (λ (l : LockLog). RoseBy (doubts_in l) (fault_count start.disk) (fault_count left.disk))
              (sym locks_are)
              (subst (λ (n : ℕ). RoseBy (doubts_in left.log) n (fault_count left.disk))
              (runs.faults ∙ count) gives.doubts);
          later = runs.later;
        }

    -- the disk that is given back is the locket's
    pub runs_lines : (disk : D) → disk ≡ left.disk → IsFinished end how
        (answers ++ summary_behind left.base left.log) held held' faults faults'
        → RunsLines start.base lines how locks marks (ports_with told fault_count moment held faults start.disk)
        (ports_with told fault_count moment held' faults' disk)
    runs_lines disk same tells =
        subst (λ (d : D). RunsLines start.base lines how locks marks
        (ports_with told fault_count moment held faults start.disk)
        (ports_with told fault_count moment held' faults' d))
        (sym same) (ran_to tells)
