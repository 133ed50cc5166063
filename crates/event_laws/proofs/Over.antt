-- What is over stays over, and no task gets its outcome twice over any number of stops.
use Rattle.std.proofs.Common.{◌≡◌, ℕ, ◌+◌, ◌<◌, ◌≤◌, ◌&&◌, Bool, true, false, cond, List, [], ◌∷◌, ◌++◌, take, drop, refl, ap, sym, subst, ◌∙◌, inl, inr, arith, Option, Some, None}
use Rattle.std.specs.Option.{option_map_or}
use Rattle.std.proofs.lemmas.List.{take-append-drop, take-take}
use Rattle.task_records.specs.States.{is_unfinished, is_completed}
use Rattle.task_records.specs.declared.task.Task.{Task}
use Rattle.task_records.proofs.Public.{completed_is_finished}
use Rattle.bbs_laws.specs.Births.{born_at, awaits_outcome, is_ended, is_completed_between, completions}
use Rattle.bbs_model.specs.Replay.{after_item, command_in, replay_log, rows_at, IsLawful, IsReached}
use Rattle.bbs_model.specs.Step.{IsLegal}
use Rattle.bbs_model.specs.Valid.{IsTaskRow, IsValid}
use Rattle.bbs_model.specs.declared.item.Item.{Item}
use Rattle.bbs_model.specs.declared.item.Item.TheVariants.{Done, Doubt}
use Rattle.bbs_model.specs.declared.rows.Rows.{Rows}
use Rattle.bbs_laws.proofs.Public.{waits-below, IsValid-after_item, IsValid-rows_at, IsValid-reached, IsLawful-take, IsLawful-parts, replay_log-append, legal_at, rests-after_item, completions-none, completions-once, next-rows_after}
use Rattle.bbs_model.proofs.Public.{each_weaker}
use Rattle.event_laws.specs.Incarnations.{IsOver, StaysOver, Incarnation, AreIncarnations, kept_completions, CompletesOnceInAll}

-- over one item
born-after_item : (rows : Rows) (item : Item) (b : ℕ) → IsLegal rows (command_in item) → b < rows.next
    → b < (after_item rows item).next
born-after_item rows (Done by c) b legal born = omega (arith, next-rows_after rows c legal)
born-after_item rows (Doubt by c) b legal born = born

over-after_item : (rows : Rows) (item : Item) (b : ℕ) → IsValid rows → IsLegal rows (command_in item) → IsOver rows b
    → IsOver (after_item rows item) b
over-after_item rows item b valid legal over = record {
  born = born-after_item rows item b legal over.born;
  rests = rests-after_item rows item b valid over.born over.rests;
}

-- over a log
over-replay_log : (rows : Rows) (log : List Item) (b : ℕ) → IsValid rows → IsLawful rows log → IsOver rows b
    → IsOver (replay_log rows log) b
over-replay_log rows [] b valid lawful over = over
over-replay_log rows (i ∷ is) b valid lawful over =
    over-replay_log (after_item rows i) is b (IsValid-after_item rows i valid lawful.0) lawful.1
    (over-after_item rows i b valid lawful.0 over)

-- from a place of a log on
over-rows_at : (base : Rows) (log : List Item) (from place b : ℕ) → IsValid base → IsLawful base log → from ≤ place
    → IsOver (rows_at base log from) b → IsOver (rows_at base log place) b
over-rows_at base log from place b valid lawful low over =
    let part = take place log in
    let cut : take from part ≡ take from log = take-take from place log low in
    let lawful_part : IsLawful base part = IsLawful-take base log place lawful in
    let whole : take from part ++ drop from part ≡ part = take-append-drop from part in
    let both = IsLawful-parts base (take from part) (drop from part) (subst (IsLawful base) (sym whole) lawful_part) in
    let first : IsOver (replay_log base (take from part)) b =
    subst (λ (l : List Item). IsOver (replay_log base l) b) (sym cut) over in
    let valid_first : IsValid (replay_log base (take from part)) =
    subst (λ (l : List Item). IsValid (replay_log base l)) (sym cut) (IsValid-rows_at base log from valid lawful) in
    let last = over-replay_log (replay_log base (take from part)) (drop from part) b valid_first both.1 first in
    subst (λ (r : Rows). IsOver r b) (sym (replay_log-append base (take from part) (drop from part)) ∙ ap
    (replay_log base) whole) last

-- wherever the board is found
pub over-reached : (base : Rows) (log : List Item) (from b : ℕ) (rows : Rows) → IsValid base → IsLawful base log
    → IsReached base log from rows
    → IsOver (rows_at base log from) b → IsOver rows b
over-reached base log from b rows valid lawful (inl at) over =
    subst (λ (r : Rows). IsOver r b) (sym at.rows_are) (over-rows_at base log from at.place b valid lawful at.low over)
over-reached base log from b rows valid lawful (inr at) over =
    let before = rows_at base log at.place in
    subst (λ (r : Rows). IsOver r b) (sym at.rows_are)
    (over-after_item before (Done at.by at.command) b (IsValid-rows_at base log at.place valid lawful)
    (legal_at base log at.place (Doubt at.by at.command) lawful at.doubt)
    (over-rows_at base log from at.place b valid lawful at.low over))

pub stays_over : (base : Rows) (log : List Item) (b : ℕ) → IsValid base → IsLawful base log → StaysOver base log b
stays_over base log b valid lawful from rows reached over =
    over-reached base log from b rows valid lawful reached
    (over-replay_log base (take from log) b valid (IsLawful-take base log from lawful) over)

-- what got its outcome in a log is over at its end
ended_first : (found : Option Task) → option_map_or (λ (t : Task). is_completed t.state) found false ≡ true
    → option_map_or (λ (t : Task). is_unfinished t.state) found false ≡ false
ended_first None e = refl
ended_first (Some t) e = completed_is_finished t.state e

both_true : (a b : Bool) → a && b ≡ true → (a ≡ true) × (b ≡ true)
both_true true b e = (refl, e)
both_true false b e = cc

over-completed : (rows : Rows) (item : Item) (b : ℕ) → IsValid rows → IsLegal rows (command_in item)
    → is_completed_between rows (after_item rows item) b ≡ true
    → IsOver (after_item rows item) b
over-completed rows item b valid legal is =
    let parts = both_true (awaits_outcome rows b) (is_ended (after_item rows item) b) is in
    let born : b < rows.next = waits-below b rows.next rows.tasks
    (each_weaker (IsTaskRow rows.next) (λ (t : Task). t.birth < rows.next)
    (λ t there. there.born) rows.tasks valid.tasks.each) parts.0 in
    record {
      born = born-after_item rows item b legal born;
      rests = ended_first (born_at (after_item rows item) b) parts.1;
    }

-- a log gives no outcome, or what it gives one to is over at its end
over-completions : (rows : Rows) (log : List Item) (b : ℕ) → IsValid rows → IsLawful rows log
    → 1 ≤ completions rows log b → IsOver (replay_log rows log) b
over-completions rows [] b valid lawful some = absurd (omega arith)
over-completions rows (i ∷ is) b valid lawful some =
    let after = after_item rows i in
    let valid_after = IsValid-after_item rows i valid lawful.0 in
    elim (is_completed_between rows after b) as (λ t. is_completed_between rows after b ≡ t
    → 1 ≤ cond t 1 0 + completions after is b → IsOver (replay_log after is) b) [
      | true ↦ λ e h. over-replay_log after is b valid_after lawful.1 (over-completed rows i b valid lawful.0 e)
      | false ↦ λ e h. let rest : 1 ≤ completions after is b = omega arith in
          over-completions after is b valid_after lawful.1 rest
    ] refl some

-- nothing that is over gets an outcome in any incarnation
kept-none : (base : Rows) (incarnations : List Incarnation) (b : ℕ) → IsValid base → AreIncarnations base incarnations
    → IsOver base b → kept_completions base incarnations b ≡ 0
kept-none base [] b valid are over = refl
kept-none base (s ∷ ss) b valid are over =
    let lawful : IsLawful base (take s.kept s.log) = IsLawful-take base s.log s.kept are.0 in
    let first : completions base (take s.kept s.log) b ≡ 0 =
    completions-none base (take s.kept s.log) b valid lawful over.born over.rests in
    let later : IsOver s.found b = stays_over base s.log b valid are.0 s.kept s.found are.1 over in
    let rest : kept_completions s.found ss b ≡ 0 = kept-none s.found ss b
    (IsValid-reached base s.log s.kept s.found valid are.0 are.1) are.2 later in
    omega arith

no_more : (m n : ℕ) → m ≤ 1 → n ≤ 1 → (1 ≤ m → n ≡ 0) → m + n ≤ 1
no_more m n one two none = grind (arith)

pub once_in_all : (base : Rows) (incarnations : List Incarnation) (b : ℕ) → CompletesOnceInAll base incarnations b
once_in_all base [] b valid are = omega arith
once_in_all base (s ∷ ss) b valid are =
    let kept = take s.kept s.log in
    let lawful : IsLawful base kept = IsLawful-take base s.log s.kept are.0 in
    let valid_found : IsValid s.found = IsValid-reached base s.log s.kept s.found valid are.0 are.1 in
    no_more (completions base kept b) (kept_completions s.found ss b) (completions-once base kept b valid lawful)
    (once_in_all s.found ss b valid_found are.2) (λ some.
    kept-none s.found ss b valid_found are.2
    (over-reached base s.log s.kept b s.found valid are.0 are.1 (over-completions base kept b valid lawful some)))
