-- How lines that ran on a locket join.
use Rattle.std.proofs.Common.{◌≡◌, ◌∙◌, ℕ, List, [], ◌++◌, Option, Some, None, Result, Ok, Err, refl, sym, ap, ap₂, subst, arith, append_assoc, append-nil}
use Rattle.std.specs.Prelude.{option_to_list}
use Rattle.std.proofs.lemmas.List.Sums.{fold-append}
use Rattle.disk_trait.proofs.Public.{extends_same, extends_then, goes_same, goes_then}
use Rattle.disk_trait.specs.Past.{Past}
use Rattle.disk_trait.specs.Runs.{Extends}
use Rattle.locket.specs.View.{LocketView}
use Rattle.locket.specs.declared.reply.LockFault.{LockFault}
use Rattle.locket.specs.declared.reply.LockFault.TheVariants.{Disk, OutOfMemory}
use Rattle.lock_lines.specs.declared.lock_line.LockLine.{LockLine}
use Rattle.lock_runs.specs.Courses.{LockCourse, course_behind, doubt_at, failed_line, with_line}
use Rattle.lock_runs.specs.Lines.{EndsBy, RunsOn, course_at}

-- where all ran and none failed, none is left
pub all_ran : (failed : Option LockLine) (rest : List LockLine) (IsText : Type 0) → EndsBy (Ok tt) failed rest IsText
    → (failed ≡ None) × (rest ≡ []) × IsText
all_ran None rest IsText (none, text) = (refl, none, text)
all_ran (Some line) rest IsText never = absurd never

-- where they ended before the last, any may be left
ends_before : (fault : LockFault) (failed : Option LockLine) (rest more : List LockLine) (IsText : Type 0)
    → EndsBy (Err fault) failed rest IsText
    → EndsBy (Err fault) failed more IsText
ends_before Disk None rest more IsText never = absurd never
ends_before Disk (Some line) rest more IsText text = text
ends_before OutOfMemory failed rest more IsText done = tt

module _ {D : Type 0} (told : D → Option Past) (fault_count : D → ℕ) where
  abbrev pub Runs : List LockLine → Result (Unit {0}) LockFault → List ℕ → List ℕ → LocketView D → LocketView D → Type 0
  Runs lines end text text' v w = RunsOn told fault_count lines end text text' v w

  pub runs_none : (text : List ℕ) (v : LocketView D) → Runs [] (Ok tt) text text v v
  runs_none text v = record {
    ran = [];
    failed = None;
    rest = [];
    split = refl;
    base = refl;
    since = refl;
    faults = refl;
    log = sym (append-nil v.log);
    ends = (refl, sym (append-nil text));
    extends = goes_same (told v.disk) Extends (λ p is. extends_same p);
    later = omega arith;
  }

  pub runs_then : (xs ys : List LockLine) (end : Result (Unit {0}) LockFault) (a b c : List ℕ) (u v w : LocketView D)
      → Runs xs (Ok tt) a b u v → Runs ys end b c v w → Runs (xs ++ ys) end a c u w
  runs_then xs ys end a b c u v w first second =
      let here : LockCourse = course_behind u.base (course_at u a) first.ran in
      let (none, nothing, text_is) = all_ran first.failed first.rest
      (b ≡ here.text ++ failed_line first.failed) first.ends in
      let all : xs ≡ first.ran =
      first.split ∙ ap₂ (λ (f : Option LockLine) (r : List LockLine). first.ran ++ (option_to_list f ++ r)) none nothing
      ∙ append-nil first.ran in
      let log_is : v.log ≡ here.log = first.log ∙ ap (λ (f : Option LockLine). here.log ++ doubt_at f) none ∙ append-nil
      here.log in
      let said : b ≡ here.text = text_is ∙ ap (λ (f : Option LockLine). here.text ++ failed_line f) none ∙ append-nil
      here.text in
      let at : course_at v b ≡ here = λ i. record { log = log_is i; text = said i } in
      let whole : course_behind v.base (course_at v b) second.ran
      ≡ course_behind u.base (course_at u a) (first.ran ++ second.ran) =
      (λ i. course_behind (first.base i) (at i) second.ran) ∙ sym
      (fold-append (with_line u.base) (course_at u a) first.ran second.ran) in
      record {
        ran = first.ran ++ second.ran;
        failed = second.failed;
        rest = second.rest;
        split = ap₂ (λ (k l : List LockLine). k ++ l) all second.split ∙ sym
            (append_assoc first.ran second.ran (option_to_list second.failed ++ second.rest));
        base = second.base ∙ first.base;
        since = second.since ∙ first.since;
        faults = second.faults ∙ first.faults;
        log = second.log ∙ ap (λ (x : LockCourse). x.log ++ doubt_at second.failed) whole;
        ends = subst (λ (x : LockCourse). EndsBy end second.failed second.rest
            (c ≡ x.text ++ failed_line second.failed)) whole second.ends;
        extends = goes_then (told u.disk) (told v.disk) (told w.disk) Extends Extends Extends
            (λ p q r i j k f s. extends_then p q r f s) first.extends second.extends;
        later = omega (arith, first.later, second.later);
      }

  -- lines behind one at which they ended
  pub runs_before : (xs more : List LockLine) (fault : LockFault) (a b : List ℕ) (u v : LocketView D)
      → Runs xs (Err fault) a b u v
      → Runs (xs ++ more) (Err fault) a b u v
  runs_before xs more fault a b u v runs = record {
    ran = runs.ran;
    failed = runs.failed;
    rest = runs.rest ++ more;
    split = ap (λ (l : List LockLine). l ++ more) runs.split ∙ append_assoc runs.ran
        (option_to_list runs.failed ++ runs.rest) more
        ∙ ap (λ (l : List LockLine). runs.ran ++ l) (append_assoc (option_to_list runs.failed) runs.rest more);
    base = runs.base;
    since = runs.since;
    faults = runs.faults;
    log = runs.log;
    ends = ends_before fault runs.failed runs.rest (runs.rest ++ more) _ runs.ends;
    extends = runs.extends;
    later = runs.later;
  }
