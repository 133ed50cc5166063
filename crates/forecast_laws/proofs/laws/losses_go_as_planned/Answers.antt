use Rattle.forecast_laws.proofs.LossRound.{as_planned}
use Rattle.forecast_laws.proofs.laws.losses_go_as_planned.Goals as goal

pub returns : goal.returns
returns c = as_planned c.losses_leave_the_site.ensures c.records_read_the_site.ensures
    c.rounds_hear_what_gets_through.ensures c.rounds_lose_what_the_wire_lost.ensures c.rounds_decline_no_start.ensures
    c.plans_are_rounds.ensures c.rounds_leave_what_plans_leave.ensures c.displaced_jobs_find_room.ensures
    c.room_makes_rounds_complete.ensures
