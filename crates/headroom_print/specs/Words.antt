-- The words that stand in printed lines and in tables.
use Rattle.std.specs.Prelude.{ℕ, Bool, List, [], ◌∷◌, ◌++◌, filter, map, not, ◌==◌, codes}
use Rattle.std.specs.Fmt.{decimal}
use Rattle.cell_records.specs.declared.job_name.JobName.{JobName}
use Rattle.cell_records.specs.declared.job_name.JobName.TheVariants.{Lrp, Task}
use Rattle.dump_lines.specs.declared.question.Each.{Each}
use Rattle.dump_lines.specs.declared.question.Each.TheVariants as each
use Rattle.forecast_records.specs.declared.cases.TurnWord.{TurnWord}
use Rattle.forecast_records.specs.declared.cases.TurnWord.TheVariants as order
use Rattle.forecast_records.specs.declared.verdict.Verdict.{Verdict}
use Rattle.forecast_records.specs.declared.verdict.Verdict.TheVariants.{Room, Unplaced, Short}
use Rattle.room_facts.specs.declared.reasons.Reasons.{Reasons}
use Rattle.headroom_print.specs.declared.words.LackCount.{LackCount}

-- the word of a verdict
abbrev pub verdict_word : Verdict → List ℕ
verdict_word Room = codes "room"
verdict_word Unplaced = codes "unplaced"
verdict_word Short = codes "short"

-- the word of what goes alone
abbrev pub each_word : Each → List ℕ
each_word each.Zone = codes "zone"
each_word each.Cell = codes "cell"
each_word each.Pair = codes "pair"

-- the word of an order in which cells go
abbrev pub order_word : TurnWord → List ℕ
order_word order.Fullest = codes "fullest"
order_word order.Name = codes "name"
order_word order.Given = codes "given"

-- a job: the process, a slash and the index of an instance, or the name of a task
abbrev pub job_text : JobName → List ℕ
job_text (Lrp key) = key.process ++ (codes "/" ++ decimal key.index)
job_text (Task name) = name

-- how many cells lack just these amounts, by the words of the amounts, in byte order
abbrev pub lacking : Reasons → List (List ℕ × ℕ)
lacking r =
    (codes "containers", r.containers)
    ∷ (codes "disk", r.disk)
    ∷ (codes "disk+containers", r.disk_containers)
    ∷ (codes "memory", r.memory)
    ∷ (codes "memory+containers", r.memory_containers)
    ∷ (codes "memory+disk", r.memory_disk)
    ∷ (codes "memory+disk+containers", r.memory_disk_containers)
    ∷ []

-- a count of something
abbrev pub is_some_count : List ℕ × ℕ → Bool
is_some_count l = not (l.1 == 0)

-- those of them that some cell lacks
abbrev pub lacks : Reasons → List (List ℕ × ℕ)
lacks r = filter is_some_count (lacking r)

-- what the code's pairs of a word and a count say
abbrev pub counts_of : List LackCount → List (List ℕ × ℕ)
counts_of ls = map (λ l. (l.0.now, l.1)) ls
