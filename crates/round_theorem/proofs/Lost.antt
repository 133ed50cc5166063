-- What each round lost, and what it heard.
use Rattle.std.proofs.Common.{◌≡◌, ℕ, [], sym, ap, subst, ◌∙◌, arith}
use Rattle.std.specs.List.{Contains}
use Rattle.bbs_model.specs.PortView.{rows_seen}
use Rattle.bbs_model.specs.Work.{work}
use Rattle.convergence.specs.Plans.{plan_of_answers}
use Rattle.convergence.specs.Strays.{strays}
use Rattle.convergence.specs.declared.report.Report.{Report}
use Rattle.converge_laws.proofs.Public.{stray-from}
use Rattle.converge_round.specs.Askings.{present, questions}
use Rattle.converge_round.specs.Callings.{calling}
use Rattle.converge_round.specs.Phases.{fails_in}
use Rattle.converge_round.specs.Reps.{names_of}
use Rattle.converge_round.specs.Rounds.{Standing, IsRound}
use Rattle.converge_round.specs.Sendings.{WireAt}
use Rattle.converge_round.specs.Stops.{stops_at, so_far}
use Rattle.converge_round.specs.Tallies.{no_calls}
use Rattle.converge_round.specs.declared.tally.Tally.{Tally}
use Rattle.crash_backoff.specs.declared.moment.Moment.{Moment}
use Rattle.round_theorem.specs.Losses.{HasCauses, RoundsHearWhatGetsThrough}
use Rattle.round_theorem.proofs.Answered.{are-heard, heard_cell}
use Rattle.round_theorem.proofs.Causes.{lost-then, asks-lost, stops-lost, serves-lost}
use Rattle.round_theorem.proofs.Hearings.{gets-through}
use Rattle.round_theorem.proofs.Losses.{lost_each}
use Rattle.round_theorem.proofs.RoomyCells.{heard_named}
use Rattle.round_theorem.proofs.Starts.{in_course}

pub has-causes : (by : ℕ) (now : Moment) (line : ℕ) (s s' : Standing) (r : Report) (h : IsRound by now line s s' r)
    → HasCauses by now line s s' r h
has-causes by now line s s' r h =
    let got = h.opens.hearing.got in
    let cells = present (rows_seen h.opens.first) now in
    let gone = strays (rows_seen h.opens.third) got in
    let asks = asks-lost s.reps cells (questions s.wire []) (questions h.opens.wire got) h.opens.heard.got in
    let heard = are-heard s.reps cells (questions s.wire []) (questions h.opens.wire got) h.opens.heard.got in
    let stops = stops-lost gone (so_far (stops_at h.opens.wire s.reps) [])
    (so_far (stops_at h.opened.wire h.opened.reps) h.opens.stops.stopped)
    (λ a inside.
    let f = stray-from (rows_seen h.opens.third) got a.0 a.1 inside in
    let c = heard.from f.0 (subst (λ xs. Contains xs f.0) heard.is f.1) in
    subst (Contains (names_of s.reps)) (sym (heard_cell s.reps c.0.cell c.0.epoch f.0 c.2) ∙ f.5)
    (heard_named s.reps c.0.cell c.0.epoch f.0 c.2))
    h.opens.stopped.each in
    let serves = serves-lost by now h.opening_is.places h.opening_is.places.roomy h.opened h.served h.serves in
    let two = lost-then _ _ _ _ s.wire.losses h.opens.wire.losses h.opened.wire.losses asks stops in
    let all = lost-then _ _ _ _ s.wire.losses h.opened.wire.losses h.served.wire.losses two serves in
    let kept = lost_each by (fails_in now h.opening_is.places) (in_course h.served) h.noted h.notes in
    let none : h.opened.tally.lost ≡ 0 =
    ap (λ (t : Tally). t.lost) h.opens.tally_is
    ∙ lost_each by (plan_of_answers (rows_seen h.opens.plan_called.read) got now)
    (calling h.opens.plan_called.read h.opens.worked.tally) h.opens.planned h.opens.plan_called.calls
    ∙ lost_each by (work (rows_seen h.opens.work_called.read) now)
    (calling h.opens.work_called.read no_calls) h.opens.worked h.opens.work_called.calls in
    record {
      wire = all.wire;
      rose = omega (arith, all.rose, ap (λ (w : WireAt). w.losses) h.wire_is);
      lost = omega (
        arith,
        all.all,
        kept,
        h.reports.lost,
        h.opens.lost_is,
        h.opens.stopped.lost,
        h.opens.heard.asked,
        none,
      );
    }

pub hear-what-gets-through : RoundsHearWhatGetsThrough
hear-what-gets-through by now line s s' r h ends apart told k c at through a heard =
    gets-through s.reps (present (rows_seen h.opens.first) now) (questions s.wire [])
    (questions h.opens.wire h.opens.hearing.got) ends apart h.opens.heard.got told k c at through a heard
