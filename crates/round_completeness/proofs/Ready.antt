-- The cells that a round serves have room for what goes to them.
use Rattle.std.proofs.Common.{◌≡◌, ℕ, List, [], ◌∷◌, map, sym, ap, subst, ◌∙◌}
use Rattle.std.specs.List.{Contains}
use Rattle.auctioneer.specs.Asked.{AreAnswers}
use Rattle.auctioneer.specs.declared.placement.Placement.{Placement}
use Rattle.bbs_model.specs.PortView.{rows_seen}
use Rattle.bbs_model.specs.declared.rows.Rows.{Rows}
use Rattle.cell_records.specs.declared.answer.Answer.{Answer}
use Rattle.convergence.specs.Strays.{strays}
use Rattle.convergence.specs.declared.report.Report.{Report}
use Rattle.converge_round.specs.Askings.{StandApart}
use Rattle.converge_round.specs.Each.{Each}
use Rattle.converge_round.specs.Places.{jobs_on}
use Rattle.converge_round.specs.Reps.{names_of}
use Rattle.converge_round.specs.Rounds.{Standing, IsRound}
use Rattle.converge_round.specs.Stops.{stops_at, Stopped, StopsOne, so_far}
use Rattle.converge_round.proofs.Public.{open_answers}
use Rattle.crash_backoff.specs.declared.moment.Moment.{Moment}
use Rattle.diego_names.specs.declared.instance.Instance.{Instance}
use Rattle.round_theorem.proofs.Public.{Differ, differ_pairs, heard_cell, heard_named, is-roomy, names_after}
use Rattle.round_completeness.specs.Rooms.{AllFindRoom, RoundsDeclineNoStart}
use Rattle.round_completeness.proofs.Auctions.{have-room}
use Rattle.round_completeness.proofs.CellsFit.{HasAnswered, has-answered, serves-fit}

-- stops keep the names of the reps
names_kept : (gone : List (List ℕ × Instance)) (s t : Stopped) → Each StopsOne gone s t
    → names_of t.course.reps ≡ names_of s.course.reps
names_kept [] s t f = ap (λ (x : Stopped). names_of x.course.reps) f
names_kept (a ∷ gone) s t f =
    names_kept gone f.0 t f.2 ∙ names_after f.1.stops.reached f.1.done a s.course.reps f.0.course.reps f.1.stops.stops

-- each has a rep that stands as it answered, and finds room for its jobs
pub record AreReady (by : ℕ) (now : Moment) (line : ℕ) (s s' : Standing) (r : Report)
    (h : IsRound by now line s s' r) : Type 0 where
  pub differ : Differ (map (λ (x : Answer). x.cell) h.opening_is.places.roomy)
  pub have : (x : Answer) → Contains h.opening_is.places.roomy x → Contains (names_of h.opened.reps) x.cell
  pub has : (x : Answer) → Contains h.opening_is.places.roomy x → HasAnswered h.opened.reps x
  pub room : (x : Answer) → Contains h.opening_is.places.roomy x
      → AllFindRoom x.free (jobs_on h.opening_is.places.rows h.opening_is.places.placements x.cell)

pub are-ready : (by : ℕ) (now : Moment) (line : ℕ) (s s' : Standing) (r : Report) (h : IsRound by now line s s' r)
    → StandApart (names_of s.reps) → AreReady by now line s s' r h
are-ready by now line s s' r h apart =
    let p = h.opening_is.places in
    let placed = h.opens.placed in
    let rows = rows_seen h.opened.view in
    let got = h.opens.hearing.got in
    let names : names_of h.opened.reps ≡ names_of s.reps =
    names_kept (strays (rows_seen h.opens.third) got) (so_far (stops_at h.opens.wire s.reps) [])
    (so_far (stops_at h.opened.wire h.opened.reps) h.opens.stops.stopped) h.opens.stopped.each in
    let differ : StandApart (names_of h.opened.reps) = subst StandApart (sym names) apart in
    let answers : AreAnswers p.roomy = open_answers rows h.opened.reps got p.roomy h.opens.heard.apart placed.open_are
    in
    record {
      differ = differ_pairs (map (λ (x : Answer). x.cell) p.roomy) answers.differ;
      have = λ x inside.
          let y = is-roomy rows h.opened.reps got p.roomy x placed.open_are inside in
          subst (Contains (names_of h.opened.reps)) (sym (heard_cell h.opened.reps y.answer.cell y.answer.epoch x
          y.heard))
          (heard_named h.opened.reps y.answer.cell y.answer.epoch x y.heard);
      has = λ x inside.
          let y = is-roomy rows h.opened.reps got p.roomy x placed.open_are inside in
          has-answered h.opened.reps y.answer.cell y.answer.epoch x differ y.heard;
      room = λ x inside. subst (λ (q : Rows × List Placement). AllFindRoom x.free (jobs_on q.0 q.1 x.cell))
          (λ i. (sym placed.rows_are i, sym placed.placed i))
          (have-room rows p.roomy placed.valid answers x inside);
    }

pub decline-none : RoundsDeclineNoStart
decline-none by now line s s' r h apart =
    let q = are-ready by now line s s' r h apart in
    serves-fit by now h.opening_is.places h.opening_is.places.roomy h.opened h.served h.serves q.differ q.has q.room
