-- No task gets its outcome twice.
use Rattle.std.proofs.Common.{◌≡◌, ℕ, ◌+◌, ◌<◌, ◌≤◌, ◌==◌, ◌&&◌, Bool, true, false, cond, List, [], ◌∷◌, ◌++◌, Option, Some, None, refl, ap, ◌∙◌, arith, length, take, drop, inl, inr, subst, sym}
use Rattle.std.specs.Option.{option_map_or}
use Rattle.std.proofs.lemmas.List.{take-append-drop, take-append-le, take-take, length-take-le}
use Rattle.std.proofs.lemmas.Bool.Decides.{nat_tests}
use Rattle.crash_backoff.specs.declared.moment.Moment.{Moment}
use Rattle.diego_names.specs.Order.{name_order}
use Rattle.diego_names.proofs.Public.{IsKeyOrder-name_order}
use Rattle.task_records.specs.Laws.{KeepsTask, NeverTurnsBack}
use Rattle.task_records.specs.Moves.{task_move}
use Rattle.task_records.specs.States.{is_unfinished, is_completed}
use Rattle.task_records.specs.declared.move_end.TaskEnd.{TaskEnd}
use Rattle.task_records.specs.declared.move_end.TaskEnd.TheVariants as end
use Rattle.task_records.specs.declared.move_kind.TaskMove.{TaskMove}
use Rattle.task_records.specs.declared.state.TaskState.TheVariants.{Pending}
use Rattle.task_records.specs.declared.task.Task.{Task}
use Rattle.task_records.proofs.Public.{completed_is_finished, KeepsTask-task_move, NeverTurnsBack-task_move}
use Rattle.bbs_model.specs.Attempts.{if_joined, put, drop_row}
use Rattle.bbs_laws.specs.Births.{born_at, awaits_outcome, is_ended, is_completed_between, completions}
use Rattle.bbs_model.specs.Found.{found_by, task_in}
use Rattle.bbs_laws.specs.Laws.{CompletesOnce, CompletesOnceOver}
use Rattle.bbs_model.specs.Replay.{after_item, command_in, replay_log, IsLawful}
use Rattle.bbs_model.specs.Step.{IsLegal, attempt_at, changed_by}
use Rattle.bbs_model.specs.Tables.{task_name_of, find_task}
use Rattle.bbs_model.specs.Tasks.{new_task_refusals, new_task, task_moved_to, move_task, move_task_by_cell}
use Rattle.bbs_model.specs.Valid.{IsTaskRow, IsValid}
use Rattle.bbs_model.specs.declared.attempt.Attempt.{Attempt}
use Rattle.bbs_model.specs.declared.command.Op.{Op}
use Rattle.bbs_model.specs.declared.command.Op.TheVariants as op
use Rattle.bbs_model.specs.declared.event.Row.{Row}
use Rattle.bbs_model.specs.declared.event.Row.TheVariants as row
use Rattle.bbs_model.specs.declared.item.Item.{Item}
use Rattle.bbs_model.specs.declared.item.Item.TheVariants.{Done, Doubt}
use Rattle.bbs_model.specs.declared.rows.Rows.{Rows}
use Rattle.bbs_laws.proofs.KeepBirths.{waits-put_known, waits-put_new, waits-without, waits-below}
use Rattle.bbs_model.proofs.Public.{each_weaker}
use Rattle.bbs_laws.proofs.KeepFound.{there}
use Rattle.bbs_laws.proofs.KeepLogs.{IsValid-after_item, IsLawful-append, IsLawful-take, replay_log-append, place-within, legal_at}
use Rattle.bbs_laws.proofs.KeepRuns.{next-rows_after}
use Rattle.bbs_laws.proofs.KeepSteps.{none_from, by_passing, by_knowing, by_joining}
use Rattle.bbs_laws.proofs.KeepWalk.{each-keeps_aside, IsNoTask, IsOfFound, each-attempt}

ended_first : (found : Option Task) → option_map_or (λ (t : Task). is_completed t.state) found false ≡ true
    → option_map_or (λ (t : Task). is_unfinished t.state) found false ≡ false
ended_first None e = refl
ended_first (Some t) e = completed_is_finished t.state e

both_true : (a b : Bool) → a && b ≡ true → (a ≡ true) × (b ≡ true)
both_true true b e = (refl, e)
both_true false b e = cc

module _ (rows : Rows) (valid : IsValid rows) (b : ℕ) (past : b < rows.next) (now : Moment) where
  -- the task of the birth doesn't wait after the attempt, if it didn't before
  abbrev Rests : Attempt → Type 0
  Rests attempt = awaits_outcome rows b ≡ false → awaits_outcome (changed_by rows attempt) b ≡ false

  rests-put : (r : Row) → IsNoTask r → Rests (put r)
  rests-put (row.Desired d) other is = is
  rests-put (row.Actual a) other is = is
  rests-put (row.Task t) other is = absurd other
  rests-put (row.Cell c) other is = is
  rests-put (row.Domain d) other is = is

  rests-drop : (asked : Op) (r : Row) → IsOfFound (found_by rows asked) r → Rests (drop_row r)
  rests-drop asked (row.Desired d) known is = is
  rests-drop asked (row.Actual a) known is = is
  rests-drop asked (row.Task t) known is = absurd known
  rests-drop asked (row.Cell c) known is = is
  rests-drop asked (row.Domain d) known is = is

  rests-new_task : (name : List ℕ) (memory disk : ℕ) (tag : Option (List ℕ))
      → Rests (new_task (found_by rows (op.NewTask name memory disk tag)) name memory disk tag now)
  rests-new_task name memory disk tag =
      let new : Task = record {
        name = name;
        birth = rows.next;
        state = Pending;
        since = now;
        memory = memory;
        disk =
            disk;
        tag = tag;
      } in
      let another : rows.next == b ≡ false = grind (arith, nat_tests) in
      by_passing Rests (λ why is. is) (new_task_refusals (found_by rows (op.NewTask name memory disk tag)))
      (put (row.Task new)) (λ passed is.
      waits-put_new b new rows.tasks (none_from (find_task rows name) passed.0) another is)

  rests-moved_to : (old : Task) (end : TaskEnd) → find_task rows old.name ≡ Some old → KeepsTask old now end
      → NeverTurnsBack old end → Rests (task_moved_to old end)
  rests-moved_to old (end.Changed new) known same back is =
      waits-put_known b new old rows.tasks valid.tasks.rising
      (ap (find_task rows) same.task.name ∙ known) same.task.birth back is
  rests-moved_to old end.Gone known same back is = waits-without b old.name rows.tasks valid.tasks.births is
  rests-moved_to old end.Same known same back is = is
  rests-moved_to old (end.Refused why) known same back is = is

  rests-moved : (asked : Op) (old : Task) (move : TaskMove) → (found_by rows asked).task ≡ Some old
      → Rests (task_moved_to old (task_move old move now))
  rests-moved asked old move known =
      rests-moved_to old (task_move old move now) (there name_order task_name_of IsKeyOrder-name_order rows.tasks
      (task_in asked) old known) (KeepsTask-task_move old move now) (NeverTurnsBack-task_move old move now)

  rests-move_task : (asked : Op) (move : TaskMove) → Rests (move_task (found_by rows asked) move now)
  rests-move_task asked move =
      by_knowing Rests (λ why is. is) (found_by rows asked).task (λ old. task_moved_to old (task_move old move now))
      (λ old known. rests-moved asked old move known)

  rests-move_task_by_cell : (asked : Op) (epoch : ℕ) (move : TaskMove)
      → Rests (move_task_by_cell (found_by rows asked) epoch move now)
  rests-move_task_by_cell asked epoch move =
      let found = found_by rows asked in
      by_knowing Rests (λ why is. is) found.task (λ old. if_joined found.cell epoch
      (λ c. task_moved_to old (task_move old move now))) (λ old known.
      by_joining Rests (λ why is. is) found.cell epoch (λ c. task_moved_to old (task_move old move now))
      (λ c joined same. rests-moved asked old move known))

  rests-attempt : (asked : Op) → Rests (attempt_at (found_by rows asked) now asked)
  rests-attempt = each-attempt rows now (λ asked attempt. Rests attempt) (λ asked why is. is) (λ asked is. is)
      (λ asked. rests-put) rests-drop
      (λ asked place is aside refusals instance. each-keeps_aside Rests (λ why is. is) (λ is. is) place.1 aside
      refusals (found_by rows asked) instance now (λ old known runs passed is. is))
      rests-new_task rests-move_task rests-move_task_by_cell

pub rests-after_item : (rows : Rows) (item : Item) (b : ℕ) → IsValid rows → b < rows.next
    → awaits_outcome rows b ≡ false → awaits_outcome (after_item rows item) b ≡ false
rests-after_item rows (Done by c) b valid past is = rests-attempt rows valid b past c.now c.op is
rests-after_item rows (Doubt by c) b valid past is = is

past-after_item : (rows : Rows) (item : Item) (b : ℕ) → IsLegal rows (command_in item) → b < rows.next
    → b < (after_item rows item).next
past-after_item rows (Done by c) b legal past = omega (arith, next-rows_after rows c legal)
past-after_item rows (Doubt by c) b legal past = past

none_counted : (a b : Bool) (n : ℕ) → a ≡ false → n ≡ 0 → cond (a && b) 1 0 + n ≡ 0
none_counted true b n e is = cc
none_counted false b n e is = omega arith

pub completions-none : (rows : Rows) (log : List Item) (b : ℕ) → IsValid rows → IsLawful rows log → b < rows.next
    → awaits_outcome rows b ≡ false → completions rows log b ≡ 0
completions-none rows [] b valid lawful past is = refl
completions-none rows (i ∷ is) b valid lawful past rests =
    let after = after_item rows i in
    none_counted (awaits_outcome rows b) (is_ended after b) (completions after is b) rests
    (completions-none after is b (IsValid-after_item rows i valid lawful.0) lawful.1
    (past-after_item rows i b lawful.0 past) (rests-after_item rows i b valid past rests))

pub completions-once : (rows : Rows) (log : List Item) (b : ℕ) → IsValid rows → IsLawful rows log
    → completions rows log b ≤ 1
completions-once rows [] b valid lawful = omega arith
completions-once rows (i ∷ is) b valid lawful =
    let after = after_item rows i in
    let valid_after = IsValid-after_item rows i valid lawful.0 in
    elim (is_completed_between rows after b) as (λ t. is_completed_between rows after b ≡ t
    → cond t 1 0 + completions after is b ≤ 1) [
      | true ↦ λ e.
          let parts = both_true (awaits_outcome rows b) (is_ended after b) e in
          let past : b < rows.next = waits-below b rows.next rows.tasks
          (each_weaker (IsTaskRow rows.next) (λ (t : Task). t.birth < rows.next)
          (λ t there. there.born) rows.tasks valid.tasks.each) parts.0 in
          let none : completions after is b ≡ 0 =
          completions-none after is b valid_after lawful.1 (past-after_item rows i b lawful.0 past)
          (ended_first (born_at after b) parts.1) in
          omega arith
      | false ↦ λ e. let rest : completions after is b ≤ 1 = completions-once after is b valid_after lawful.1 in
          omega arith
    ] refl

completions-append : (rows : Rows) (xs ys : List Item) (b : ℕ)
    → completions rows (xs ++ ys) b ≡ completions rows xs b + completions (replay_log rows xs) ys b
completions-append rows [] ys b = omega arith
completions-append rows (x ∷ xs) ys b =
    let rest : completions (after_item rows x) (xs ++ ys) b
    ≡ completions (after_item rows x) xs b + completions (replay_log (after_item rows x) xs) ys b =
    completions-append (after_item rows x) xs ys b in
    omega arith

pub completes_once : (base : Rows) (log : List Item) (birth : ℕ) → IsValid base → IsLawful base log
    → CompletesOnce base log birth
completes_once base log birth valid lawful = record {
  once = completions-once base log birth valid lawful;
  never_again = completions-none base log birth valid lawful;
}

-- a log gives as many outcomes at least as its first items, and one that goes on from it no second one
once_over : (base found : Rows) (log later : List Item) (from b : ℕ) → IsValid base → IsLawful base log
    → found ≡ replay_log base log → IsLawful found later
    → completions base (take from log) b + completions found later b ≤ 1
once_over base found log later from b valid lawful is goes_on =
    let lawful_later : IsLawful (replay_log base log) later = subst (λ (r : Rows). IsLawful r later) is goes_on in
    let all : completions base (log ++ later) b ≤ 1 = completions-once base (log ++ later) b valid
    (IsLawful-append base log later lawful lawful_later) in
    let parts : completions base (log ++ later) b ≡ completions base log b + completions (replay_log base log) later b =
    completions-append base log later b in
    let same : completions found later b ≡ completions (replay_log base log) later b =
    ap (λ (r : Rows). completions r later b) is in
    let cut : completions base (take from log ++ drop from log) b
    ≡ completions base (take from log) b + completions (replay_log base (take from log)) (drop from log) b =
    completions-append base (take from log) (drop from log) b in
    let whole : completions base (take from log ++ drop from log) b ≡ completions base log b =
    ap (λ (l : List Item). completions base l b) (take-append-drop from log) in
    omega arith

-- the first items of a log are the first of any longer part of it
first_of_part : (from place : ℕ) (log more : List Item) → from ≤ place → place ≤ length log
    → take from (take place log ++ more) ≡ take from log
first_of_part from place log more low high =
    let enough : from ≤ length (take place log) = omega (arith, low, length-take-le place log high) in
    take-append-le from (take place log) more enough ∙ take-take from place log low

pub once_over_openings : (base : Rows) (log : List Item) (from birth : ℕ) → IsValid base → IsLawful base log
    → CompletesOnceOver base log from birth
once_over_openings base log from b valid lawful found later (inl at) goes_on =
    let lawful_part = IsLawful-take base log at.place lawful in
    rw (sym (take-take from at.place log at.low)) (once_over base found
    (take at.place log) later from b valid lawful_part at.rows_are goes_on)
once_over_openings base log from b valid lawful found later (inr at) goes_on =
    let part = take at.place log ++ Done at.by at.command ∷ [] in
    let lawful_part : IsLawful base part = IsLawful-append base (take at.place log) (Done at.by at.command ∷ [])
    (IsLawful-take base log at.place lawful)
    (legal_at base log at.place (Doubt at.by at.command) lawful at.doubt, tt) in
    let is : found ≡ replay_log base part = at.rows_are ∙ sym
    (replay_log-append base (take at.place log) (Done at.by at.command ∷ [])) in
    let first : take from part ≡ take from log = first_of_part from at.place log (Done at.by at.command ∷ []) at.low
    (place-within log at.place (Doubt at.by at.command) at.doubt) in
    subst (λ (l : List Item). completions base l b + completions found later b ≤ 1) first
    (once_over base found part later from b valid lawful_part is goes_on)
