-- What a verdict follows from.
use Rattle.std.proofs.Common.{◌≡◌, ◌≢◌, true, false, List, [], ◌∷◌, length, refl, ap}
use Rattle.std.specs.List.{list_any}
use Rattle.cell_records.specs.declared.job.Job.{Job}
use Rattle.auctioneer.specs.declared.stand.Stand.{Stand}
use Rattle.forecast_records.specs.declared.verdict.Verdict.TheVariants.{Room, Unplaced, Short}
use Rattle.room_facts.specs.Rooms.{is_short}
use Rattle.std.proofs.lemmas.List.{nil_from_length}
use Rattle.what_if.specs.Verdicts.{short_if, verdict_of}

pub room_of_none : (ss : List Stand) (jobs left : List Job) → length left ≡ 0 → verdict_of ss jobs left ≡ Room
room_of_none ss jobs left none = ap (verdict_of ss jobs) (nil_from_length left none)

pub short_of_any : (ss : List Stand) (jobs left : List Job) → list_any (is_short ss jobs) left ≡ true
    → verdict_of ss jobs left ≡ Short
short_of_any ss jobs [] h = cc
short_of_any ss jobs (job ∷ left) h = ap short_if h

pub unplaced_of_none_short : (ss : List Stand) (jobs left : List Job) → length left ≢ 0
    → list_any (is_short ss jobs) left ≡ false → verdict_of ss jobs left ≡ Unplaced
unplaced_of_none_short ss jobs [] some h = absurd (some refl)
unplaced_of_none_short ss jobs (job ∷ left) some h = ap short_if h
