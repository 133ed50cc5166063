-- What is told of a tag, by what waits and what is left over.
use Rattle.std.specs.Prelude.{ℕ, ◌≤◌, ◌^◌, List, length, Option}
use Rattle.forecast_records.specs.declared.stock.TagRoom.{TagRoom}
use Rattle.site_answers.specs.Tags.{tag_room}
use Rattle.site_answers.specs.declared.tags.Waiting.{Waiting}

-- there are few cells and few jobs
pub record AreFew (w : Waiting) : Type 0 where
  pub before : length w.before.now ≤ 2 ^ 32
  pub jobs : length w.jobs.now ≤ 2 ^ 32
  pub left : length w.left.now ≤ 2 ^ 32

-- what is told of the tag
abbrev pub room_of : Waiting → Option (List ℕ) → TagRoom
room_of w tag = tag_room w.before.now w.jobs.now w.left.now w.counting.now tag
