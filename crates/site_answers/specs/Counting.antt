-- What is counted of cells.
use Rattle.std.specs.Prelude.{ℕ, Bool, ◌&&◌, not, if◌then◌else◌, length}
use Rattle.cell_records.specs.declared.answer.Answer.{Answer}
use Rattle.cell_records.specs.declared.container.Container.{Container}
use Rattle.auctioneer.specs.Stands.{has_ended}
use Rattle.site_answers.specs.Losses.{is_task, tasks_on}
use Rattle.site_spread.specs.Groups.{is_in}
use Rattle.site_answers.specs.declared.cell_counts.Counted.{Counted}
use Rattle.site_answers.specs.declared.cell_counts.Counted.TheVariants.{Instances, InstancesIn, Tasks, TasksLost}
use Rattle.what_if.specs.Stays.{is_lost, stays_on}

-- whether the container is of an instance and has not ended
abbrev pub is_standing : Container → Bool
is_standing k = not (has_ended k.state) && not (is_task k.job)

-- how many containers the cell has of those that are counted
abbrev pub count_on : Counted → Answer → ℕ
count_on Instances c = length (stays_on c)
count_on (InstancesIn group) c = if is_in group.now c.zone c.tag then length (stays_on c) else 0
count_on Tasks c = length (tasks_on c)
count_on (TasksLost lost) c = if is_lost lost.now c.cell then length (tasks_on c) else 0
