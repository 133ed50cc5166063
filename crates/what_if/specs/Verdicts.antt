-- How far jobs find room.
use Rattle.std.specs.Prelude.{Bool, true, false, List, [], ◌∷◌}
use Rattle.std.specs.List.{list_any}
use Rattle.cell_records.specs.declared.job.Job.{Job}
use Rattle.auctioneer.specs.declared.stand.Stand.{Stand}
use Rattle.forecast_records.specs.declared.verdict.Verdict.{Verdict}
use Rattle.forecast_records.specs.declared.verdict.Verdict.TheVariants.{Room, Unplaced, Short}
use Rattle.room_facts.specs.Rooms.{is_short}

-- short where it is shown that there is too little
abbrev pub short_if : Bool → Verdict
short_if true = Short
short_if false = Unplaced

-- room where no job is left over, short where that is shown of one of them, before the first job took room; else unplaced
abbrev pub verdict_of : List Stand → List Job → List Job → Verdict
verdict_of stands jobs [] = Room
verdict_of stands jobs (left ∷ others) = short_if (list_any (is_short stands jobs) (left ∷ others))

-- the worse of two
abbrev pub worse : Verdict → Verdict → Verdict
worse Room other = other
worse Unplaced Room = Unplaced
worse Unplaced Unplaced = Unplaced
worse Unplaced Short = Short
worse Short other = Short
