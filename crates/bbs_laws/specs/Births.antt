-- A task is told by its birth, and gets its outcome once.
use Rattle.std.specs.Prelude.{ℕ, ◌+◌, ◌==◌, ◌&&◌, Bool, false, List, [], ◌∷◌, Option, if◌then◌else◌}
use Rattle.std.specs.Option.{option_map_or}
use Rattle.std.specs.List.{find}
use Rattle.task_records.specs.States.{is_unfinished, is_completed}
use Rattle.task_records.specs.declared.task.Task.{Task}
use Rattle.bbs_model.specs.Replay.{after_item}
use Rattle.bbs_model.specs.declared.item.Item.{Item}
use Rattle.bbs_model.specs.declared.rows.Rows.{Rows}

-- the task of a birth
abbrev pub born_at : Rows → ℕ → Option Task
born_at rows birth = find (λ (t : Task). t.birth == birth) rows.tasks

-- the task of a birth is there, and waits for its outcome
abbrev pub awaits_outcome : Rows → ℕ → Bool
awaits_outcome rows birth = option_map_or (λ (t : Task). is_unfinished t.state) (born_at rows birth) false

-- the task of a birth is there, and COMPLETED
abbrev pub is_ended : Rows → ℕ → Bool
is_ended rows birth = option_map_or (λ (t : Task). is_completed t.state) (born_at rows birth) false

-- the task of a birth gets its outcome between the two
abbrev pub is_completed_between : Rows → Rows → ℕ → Bool
is_completed_between old new birth = awaits_outcome old birth && is_ended new birth

-- how often the task of a birth gets its outcome in a log
abbrev pub completions : Rows → List Item → ℕ → ℕ
completions rows [] birth = 0
completions rows (i ∷ is) birth =
    (if is_completed_between rows (after_item rows i) birth then 1 else 0) + completions (after_item rows i) is birth
