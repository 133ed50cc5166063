-- A round behind a loss goes as planned.
use Rattle.std.proofs.Common.{◌≡◌, ℕ, List, [], sym, ap, subst, ◌∙◌}
use Rattle.std.specs.List.{Contains}
use Rattle.auctioneer.specs.declared.placement.Placement.TheVariants.{On}
use Rattle.bbs_model.specs.PortView.{rows_seen}
use Rattle.bbs_model.specs.Valid.{IsValid}
use Rattle.bbs_model.specs.declared.rows.Rows.{Rows}
use Rattle.cell_records.specs.declared.answer.Answer.{Answer}
use Rattle.convergence.specs.Strays.{strays}
use Rattle.convergence.specs.declared.report.Report.{Report}
use Rattle.converge_laws.specs.Laws.{after_plan}
use Rattle.converge_round.specs.Each.{Each}
use Rattle.converge_round.specs.Rounds.{IsRound, Standing}
use Rattle.converge_round.specs.Stops.{Stopped, StopsOne, so_far, stops_at}
use Rattle.crash_backoff.specs.declared.moment.Moment.{Moment}
use Rattle.diego_names.specs.declared.instance.Instance.{Instance}
use Rattle.round_completeness.specs.Rooms.{RoundsDeclineNoStart}
use Rattle.round_theorem.proofs.Public.{alone-refused, auction_rows, first_rows, third_rows, work_accepted}
use Rattle.round_theorem.specs.Losses.{RoundsHearWhatGetsThrough, RoundsLoseWhatTheWireLost}
use Rattle.what_if.specs.declared.site.Site.{Site}
use Rattle.forecast_laws.specs.Losses.{AreThoseThere, IsBehindALoss, LossesGoAsPlanned, LossesLeaveTheSite}
use Rattle.forecast_laws.specs.Plans.{PlansAreRounds, ReadsTheSite}
use Rattle.forecast_laws.specs.Records.{AreAsTheSite, RecordsReadTheSite}
use Rattle.forecast_laws.specs.Rooms.{DisplacedJobsFindRoom, IsOtherwiseUndisturbed, RoomMakesRoundsComplete, RoundsLeaveWhatPlansLeave}
use Rattle.forecast_laws.proofs.Alike.{none_inside}
use Rattle.forecast_laws.proofs.AllHeard.{those_there}
use Rattle.forecast_laws.proofs.TakenPlaces.{displaced_place, place_taken}

module _ (by : ℕ) (now : Moment) (line : ℕ) (s s' : Standing) (r : Report) (h : IsRound by now line s s' r)
    (u : IsOtherwiseUndisturbed by now line s s' r h) where
  abbrev R : Rows
  R = rows_seen h.first

  abbrev got : List Answer
  got = h.opens.hearing.got

  first : rows_seen h.opens.first ≡ R
  first = first_rows by now line s s' r h u.alone

  valid : IsValid R
  valid = subst IsValid first h.opens.heard.valid

  pub none_refused : r.refused ≡ []
  none_refused =
      none_inside r.refused (λ x inside. u.room x inside
      (alone-refused by now line s s' r h u.names u.alone x inside))

  -- without strays nothing was stopped
  none_stopped : strays (after_plan R got now) got ≡ [] → r.stopped ≡ []
  none_stopped none =
      let each = h.opens.stopped.each in
      let begun = so_far (stops_at h.opens.wire s.reps) [] in
      let ended = so_far (stops_at h.opened.wire h.opened.reps) h.opens.stops.stopped in
      let empty : strays (rows_seen h.opens.third) got ≡ [] =
      ap (λ (x : Rows). strays x got) (third_rows by now line s s' r h u.alone) ∙ none in
      let same : ended ≡ begun = subst (λ (xs : List (List ℕ × Instance)). Each StopsOne xs begun ended) empty each in
      h.reports.stopped ∙ h.opens.stopped_is ∙ ap (λ (x : Stopped). x.stopped) same

  module _ (leaves : LossesLeaveTheSite) (reads : RecordsReadTheSite) (hears : RoundsHearWhatGetsThrough)
      (loses : RoundsLoseWhatTheWireLost) (declines : RoundsDeclineNoStart)
      (site : Site) (lost : List (List ℕ)) (stores : List Answer) (old : Moment)
      (loss : IsBehindALoss site lost R got stores old now) where
    pub loss_read : ReadsTheSite site lost h.opening_is.places
    loss_read =
        let those : AreThoseThere R got now = subst (λ (x : Rows). AreThoseThere x got now) first
        (those_there hears loses declines by now line s s' r h u) in
        let left = leaves site lost R got stores old now valid
        (work_accepted by now line s s' r h u.alone none_refused) those loss in
        reads by now line s s' r h site lost u.names
        (subst (λ (x : Rows). AreAsTheSite site lost x r.stopped got) (sym (auction_rows by now line s s' r h u.alone))
        (subst (λ gone. AreAsTheSite site lost (after_plan R got now) gone got) (sym (none_stopped left.none_stray))
        left.as_site))

module _ (leaves : LossesLeaveTheSite) (reads : RecordsReadTheSite) (hears : RoundsHearWhatGetsThrough)
    (loses : RoundsLoseWhatTheWireLost) (declines : RoundsDeclineNoStart) where
  pub as_planned : PlansAreRounds → RoundsLeaveWhatPlansLeave → DisplacedJobsFindRoom → RoomMakesRoundsComplete
      → LossesGoAsPlanned
  as_planned plans leave displaced completes by now line s s' r h site lost stores old u loss =
      let read = loss_read by now line s s' r h u leaves reads hears loses declines site lost stores old loss in
      let refused = none_refused by now line s s' r h u in
      let placed = plans by now line s s' r h site lost read in
      let taken = place_taken by now line s s' r h u refused in
      record {
        placed = placed;
        taken = λ n cell inside. taken n cell (subst (λ ps. Contains ps (On n cell)) (sym placed) inside);
        unplaced = leave by now line s s' r h site lost read;
        displaced_placed = λ room j moved inside. displaced by now line s s' r h site lost read room j moved inside;
        displaced_taken = λ room j moved.
            let p = displaced_place by now line s s' r h u refused site lost read displaced room j moved in
            (p.0, subst (λ ps. Contains ps (On j.job p.0)) placed p.1, taken j.job p.0 p.1);
        ends = λ none. completes by now line s s' r h site lost read none u;
      }
