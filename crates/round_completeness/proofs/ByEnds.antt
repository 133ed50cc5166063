-- What a round loses by the ends that the wire tells.
use Rattle.std.proofs.Common.{◌≡◌, [], length, sym, ap, subst, ◌∙◌, arith}
use Rattle.std.specs.List.{Contains}
use Rattle.bbs_model.specs.PortView.{rows_seen}
use Rattle.bbs_model.specs.Work.{work}
use Rattle.cell_rep.specs.Wires.{IsSteady}
use Rattle.convergence.specs.Plans.{plan_of_answers}
use Rattle.convergence.specs.Strays.{strays}
use Rattle.converge_laws.proofs.Public.{stray-from}
use Rattle.converge_round.specs.Askings.{present, questions}
use Rattle.converge_round.specs.Callings.{calling}
use Rattle.converge_round.specs.Phases.{fails_in}
use Rattle.converge_round.specs.Reps.{names_of}
use Rattle.converge_round.specs.Stops.{stops_at, so_far}
use Rattle.converge_round.specs.Tallies.{no_calls}
use Rattle.converge_round.specs.declared.tally.Tally.{Tally}
use Rattle.round_theorem.proofs.Public.{are-heard, heard_cell, heard_named, in_course, lost_each}
use Rattle.round_completeness.specs.Ends.{AreHeardByEnds, RoundsLoseByTheEnds}
use Rattle.round_completeness.proofs.Ready.{are-ready}
use Rattle.round_completeness.proofs.StartsTold.{serves-so}
use Rattle.round_completeness.proofs.Telling.{Tells, asks-so, stops-so}

pub by-ends : RoundsLoseByTheEnds
by-ends by now line s s' r h ends apart told steady =
    let got = h.opens.hearing.got in
    let cells = present (rows_seen h.opens.first) now in
    let gone = strays (rows_seen h.opens.third) got in
    let tells : Tells ends s.wire.ends = subst (Tells ends) (sym told) (subst IsSteady told steady) in
    let asks = asks-so ends s.reps cells (questions s.wire []) (questions h.opens.wire got) tells h.opens.heard.got in
    let heard = are-heard s.reps cells (questions s.wire []) (questions h.opens.wire got) h.opens.heard.got in
    let stops = stops-so ends gone (so_far (stops_at h.opens.wire s.reps) [])
    (so_far (stops_at h.opened.wire h.opened.reps) h.opens.stops.stopped) asks.tells
    (λ a inside.
    let f = stray-from (rows_seen h.opens.third) got a.0 a.1 inside in
    let c = heard.from f.0 (subst (λ xs. Contains xs f.0) heard.is f.1) in
    subst (Contains (names_of s.reps)) (sym (heard_cell s.reps c.0.cell c.0.epoch f.0 c.2) ∙ f.5)
    (heard_named s.reps c.0.cell c.0.epoch f.0 c.2))
    h.opens.stopped.each in
    let q = are-ready by now line s s' r h apart in
    let serves = serves-so ends by now h.opening_is.places h.opening_is.places.roomy h.opened h.served h.serves q.differ
    q.have q.has q.room
    stops.tells in
    let kept = lost_each by (fails_in now h.opening_is.places) (in_course h.served) h.noted h.notes in
    let none : h.opened.tally.lost ≡ 0 =
    ap (λ (t : Tally). t.lost) h.opens.tally_is
    ∙ lost_each by (plan_of_answers (rows_seen h.opens.plan_called.read) got now)
    (calling h.opens.plan_called.read h.opens.worked.tally)
    h.opens.planned h.opens.plan_called.calls
    ∙ lost_each by (work (rows_seen h.opens.work_called.read) now)
    (calling h.opens.work_called.read no_calls) h.opens.worked
    h.opens.work_called.calls in
    let few = serves.counts.is (omega (arith, none)) in
    let stopped : r.stopped ≡ h.opens.stops.stopped = h.reports.stopped ∙ h.opens.stopped_is in
    record {
      heard = subst (AreHeardByEnds ends s.reps cells) (sym asks.is) asks.heard;
      stopped = stopped ∙ stops.is;
      lost = omega (
        arith,
        few,
        none,
        kept,
        h.reports.lost,
        h.opens.lost_is,
        h.opens.stopped.lost,
        h.reports.asked,
        h.opens.asked_is,
        ap length stopped,
      );
    }
