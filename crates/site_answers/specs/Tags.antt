-- What waits of each tag, and the room that there is for it.
use Rattle.std.specs.Prelude.{ℕ, List, ◌++◌, map, filter, length, count_by, sum_by, Option}
use Rattle.row_tables.specs.Table.{table}
use Rattle.cell_records.specs.declared.answer.Answer.{Answer}
use Rattle.cell_records.specs.declared.job.Job.{Job}
use Rattle.auctioneer.specs.declared.stand.Stand.{Stand}
use Rattle.forecast_records.specs.declared.stock.TagRoom.{TagRoom}
use Rattle.room_facts.specs.Lacks.{has_tag}
use Rattle.room_facts.specs.Rooms.{free_in_all, of_tag, sums}
use Rattle.what_if.specs.Plans.{jobs_of_loss, left_of, stands_before}
use Rattle.site_answers.specs.Sums.{as_sums}
use Rattle.site_spread.specs.Groups.{tag_order}
use Rattle.what_if.specs.Verdicts.{verdict_of}
use Rattle.what_if.specs.declared.site.Site.{Site}

-- the tags of cells that told their state, and of jobs that wait, each once
abbrev pub tags_of : List Answer → List Job → List (Option (List ℕ))
tags_of cells jobs = table tag_order (λ t. t) (map (λ c. c.tag) cells ++ map (λ j. j.tag) jobs)

-- the jobs of one tag, and the cells for it before the first job; the verdict is that of the jobs that count among those left over
abbrev pub tag_room : List Stand → List Job → List Job → List Job → Option (List ℕ) → TagRoom
tag_room before jobs left counting tag = record {
  tag = tag;
  cells_left = count_by (has_tag tag) before;
  jobs = length (of_tag tag jobs);
  asked = as_sums (sums (of_tag tag jobs));
  free = as_sums (free_in_all (filter (has_tag tag) before));
  unplaced = length (of_tag tag left);
  unplaced_memory = sum_by (λ j. j.memory) (of_tag tag left);
  verdict = verdict_of before jobs (of_tag tag counting);
}

-- each tag with these cells lost, where these of the jobs left over count for the verdict
abbrev pub tag_rooms : Site → List (List ℕ) → List Job → List TagRoom
tag_rooms site lost counting =
    map (tag_room (stands_before site lost) (jobs_of_loss site lost) (left_of site lost) counting)
    (tags_of site.cells (jobs_of_loss site lost))
