-- Each round has its account: what its parts say together.
use Rattle.std.proofs.Common.{◌≡◌, ◌≤◌, ℕ, ◌+◌, ◌-◌, ◌^◌, min, false, List, [], ◌++◌, length, sym, ap, subst, ◌∙◌, arith, ⊎_elim}
use Rattle.std.specs.List.{Contains}
use Rattle.auctioneer.specs.declared.placement.Placement.{Placement}
use Rattle.bbs_model.specs.PortView.{PortView, rows_seen, IsLater, IsQuiet}
use Rattle.bbs_model.specs.Runs.{state_after_all}
use Rattle.bbs_model.specs.Work.{work}
use Rattle.bbs_model.specs.declared.command.Command.{Command}
use Rattle.bbs_model.specs.declared.rows.Rows.{Rows}
use Rattle.bbs_model.proofs.Public.{later_looks, quiet_first}
use Rattle.cell_records.specs.declared.answer.Answer.{Answer}
use Rattle.convergence.specs.Plans.{plan_of_answers}
use Rattle.convergence.specs.Strays.{strays}
use Rattle.convergence.specs.declared.report.Report.{Report}
use Rattle.converge_laws.specs.Laws.{after_work, after_plan}
use Rattle.converge_round.specs.Askings.{present, questions}
use Rattle.converge_round.specs.Callings.{calling}
use Rattle.converge_round.specs.Places.{is_being_emptied, placements, unplaced, fails_of}
use Rattle.converge_round.specs.Rounds.{Standing, IsRound}
use Rattle.converge_round.specs.Stops.{stops_at, so_far}
use Rattle.crash_backoff.specs.declared.moment.Moment.{Moment}
use Rattle.round_theorem.specs.Accounts.{Readings, AreListed, AreCounted, HasAccount}
use Rattle.round_theorem.specs.Alone.{rows_then, items_of, refused_of, AreClaims, IsAlone}
use Rattle.round_theorem.proofs.Account.{stopped_from, item-asked}
use Rattle.round_theorem.proofs.Answered.{are-heard, heard_cell}
use Rattle.round_theorem.proofs.Had.{had, AreTurns, each-had}
use Rattle.round_theorem.proofs.Losses.{lost_each}
use Rattle.round_theorem.proofs.Segments.{IsPart, part-each, part-then, then-seen, seen-grows, after_append}
use Rattle.round_theorem.proofs.Starts.{in_course}
use Rattle.round_theorem.proofs.WholeAccount as parts

module _ (by : ℕ) (now : Moment) (line : ℕ) (s s' : Standing) (r : Report) (h : IsRound by now line s s' r) where
  abbrev got : List Answer
  got = h.opens.hearing.got

  abbrev roomy : List Answer
  roomy = h.opening_is.places.roomy

  abbrev z : PortView
  z = s'.view

  abbrev f : PortView
  f = h.opened.view

  abbrev at : Readings
  at = parts.at by now line s s' r h

  abbrev f_later : IsLater f z
  f_later = (parts.part4 by now line s s' r h).later

  abbrev third_later : IsLater h.opens.third z
  third_later = parts.third_later by now line s s' r h

  abbrev first_later : IsLater h.opens.first z
  first_later = parts.first_later by now line s s' r h

  start_is : r.start ≡ length h.first.seen
  start_is = h.reports.start_is

  lost_is : r.lost ≡ min (min ((h.opens.hearing.asked - length got) + h.opens.stops.lost)
      (2 ^ 64 - 1) + h.noted.tally.lost) (2 ^ 64 - 1)
  lost_is = h.reports.lost ∙ ap (λ (n : ℕ). min (n + h.noted.tally.lost) (2 ^ 64 - 1)) h.opens.lost_is

  asked_is : r.asked ≡ h.opens.hearing.asked
  asked_is = h.reports.asked ∙ h.opens.asked_is

  lists : AreListed got roomy at z r
  lists = record {
    unplaced = h.reports.without_room ∙ ap unplaced h.opens.placed.placed ∙ ap
        (λ (x : Rows). unplaced (placements x roomy)) (sym (then-seen f z f_later));
    stopped = λ x inside.
        let here = subst (λ xs. Contains xs x) (h.reports.stopped ∙ h.opens.stopped_is) inside in
        subst (λ (y : Rows). Contains (strays y got) x) (sym (then-seen h.opens.third z third_later))
        (⊎_elim (λ (none : Contains [] x). absurd (omega (arith, none.1)))
        (λ (is : Contains (strays (rows_seen h.opens.third) got) x). is)
        (stopped_from (strays (rows_seen h.opens.third) got) (so_far (stops_at h.opens.wire s.reps) [])
        (so_far (stops_at h.opened.wire h.opened.reps) h.opens.stops.stopped) x h.opens.stopped.each here));
    missed =
        let count : length (strays (rows_then z at.strays) got) ≡ length (strays (rows_seen h.opens.third) got) =
        ap (λ (y : Rows). length (strays y got)) (then-seen h.opens.third z third_later) in
        let stopped : length r.stopped ≡ length h.opens.stops.stopped =
        ap length (h.reports.stopped ∙ h.opens.stopped_is) in
        omega (arith, lost_is, h.opens.stopped.lost, count, stopped);
  }

  counts : AreCounted now got at s s' r
  counts = record {
    start = omega (arith, start_is, seen-grows s.view h.first (later_looks s.view h.first h.looks));
    end = h.reports.end_is;
    asked = asked_is ∙ h.opens.heard.asked ∙ ap (λ (x : Rows). length (present x now))
        (sym (then-seen h.opens.first z first_later));
    silent = omega (arith, lost_is, asked_is);
    own = omega (
      arith,
      h.reports.own,
      (parts.counted by now line s s' r h).own,
      ap (λ (v : PortView). length v.mine) h.looks.is,
    );
    foreign = h.reports.foreign ∙ ap (λ (n : ℕ). (r.end - n) - h.noted.tally.own) (sym start_is) ∙ ap
        (λ (n : ℕ). (r.end - r.start) - n) (sym h.reports.own);
  }

  -- claims that are missing were lost
  pub missing_lost : min (parts.served by now line s s' r h).missing (2 ^ 64 - 1) ≤ r.lost
  missing_lost = omega (
    arith,
    lost_is,
    (parts.served by now line s s' r h).lost,
    lost_each by (parts.notes by now line s s' r h) (in_course h.served) h.noted h.notes,
  )

  module _ (none : r.foreign ≡ 0) where
    abbrev pub R : Rows
    R = rows_seen h.first

    pub quiet : IsQuiet h.first z
    quiet =
        omega (
          arith,
          (parts.whole by now line s s' r h).later.counts,
          (parts.counted by now line s s' r h).own,
          none,
          h.reports.foreign,
          h.reports.end_is,
        )

    rows1 : rows_seen (parts.v1 by now line s s' r h) ≡ R
    rows1 = ((parts.part1 by now line s s' r h).turns (quiet_first h.first (parts.v1 by now line s s' r h) z
        (parts.part1 by now line s s' r h).later (parts.part24 by now line s s' r h).later quiet)).rows_are

    pub works_are : parts.works by now line s s' r h ≡ work R now
    works_are = ap (λ (x : Rows). work x now) rows1

    abbrev to2 : IsPart by (parts.works by now line s s' r h) (parts.h0 by now line s s' r h)
        (parts.h2 by now line s s' r h)
    to2 = part-then by [] (parts.works by now line s s' r h) (parts.h0 by now line s s' r h)
        (parts.h1 by now line s s' r h) (parts.h2 by now line s s' r h) (parts.part1 by now line s s' r h)
        (parts.part2 by now line s s' r h)

    rows2 : rows_seen (parts.v2 by now line s s' r h) ≡ after_work R now
    rows2 = (to2.turns (quiet_first h.first (parts.v2 by now line s s' r h) z to2.later
        (parts.part34 by now line s s' r h).later quiet)).rows_are
        ∙ ap (λ xs. state_after_all R xs) works_are

    pub plans_are : parts.plans by now line s s' r h ≡ plan_of_answers (after_work R now) got now
    plans_are = ap (λ (x : Rows). plan_of_answers x got now) rows2

    abbrev to3 : IsPart by (parts.works by now line s s' r h ++ parts.plans by now line s s' r h)
        (parts.h0 by now line s s' r h) (parts.h3 by now line s s' r h)
    to3 = part-then by (parts.works by now line s s' r h) (parts.plans by now line s s' r h)
        (parts.h0 by now line s s' r h) (parts.h2 by now line s s' r h) (parts.h3 by now line s s' r h) to2
        (parts.part3 by now line s s' r h)

    rows3 : rows_seen f ≡ after_plan R got now
    rows3 = (to3.turns (quiet_first h.first f z to3.later f_later quiet)).rows_are
        ∙ after_append R (parts.works by now line s s' r h) (parts.plans by now line s s' r h)
        ∙ ap (λ xs. state_after_all (state_after_all R xs) (parts.plans by now line s s' r h)) works_are
        ∙ ap (λ xs. state_after_all (after_work R now) xs) plans_are

    pub places_rows : h.opening_is.places.rows ≡ after_plan R got now
    places_rows = h.opens.placed.rows_are ∙ rows3

    pub places_are : h.opening_is.places.placements ≡ placements (after_plan R got now) roomy
    places_are = h.opens.placed.placed ∙ ap (λ (x : Rows). placements x roomy) rows3

    pub notes_are : parts.notes by now line s s' r h ≡ fails_of (after_plan R got now) now
        (unplaced (placements (after_plan R got now) roomy))
    notes_are = ap (λ (x : Rows). fails_of x now (unplaced h.opening_is.places.placements)) places_rows ∙ ap
        (λ (ps : List Placement). fails_of (after_plan R got now) now (unplaced ps)) places_are

    abbrev pub claims : List Command
    claims = parts.claims by now line s s' r h

    abbrev pub calls : List Command
    calls = parts.works by now line s s' r h ++ (parts.plans by now line s s' r h
        ++ (claims ++ parts.notes by now line s s' r h))

    pub calls_are : calls ≡ work R now ++ (plan_of_answers (after_work R now) got now
        ++ (claims ++ fails_of (after_plan R got now) now (unplaced (placements (after_plan R got now) roomy))))
    calls_are = λ i. works_are i ++ (plans_are i ++ (claims ++ notes_are i))

    abbrev pub turns : AreTurns by calls (parts.h0 by now line s s' r h) (parts.h4 by now line s s' r h)
    turns = (parts.whole by now line s s' r h).turns quiet

    then_is : rows_then z r.start ≡ R
    then_is = ap (rows_then z) start_is ∙ then-seen h.first z (parts.whole by now line s s' r h).later

    alone : IsAlone by now got roomy z r
    alone = record {
      claims = claims;
      missing = (parts.served by now line s s' r h).missing;
      lost = missing_lost;
      are_claims =
          subst (λ (x : Rows). AreClaims now (after_plan x got now) (placements (after_plan x got now) roomy) roomy
          (parts.served by now line s s' r h).missing claims) (sym then_is)
          (subst (λ (ps : List Placement). AreClaims now (after_plan R got now) ps roomy
          (parts.served by now line s s' r h).missing claims) places_are
          (subst (λ (x : Rows). AreClaims now x h.opening_is.places.placements roomy
          (parts.served by now line s s' r h).missing claims) places_rows (parts.served by now line s s' r h).are));
      calls = calls;
      calls_are = calls_are ∙ ap (λ (x : Rows). work x now
          ++ (plan_of_answers (after_work x now) got now ++ (claims
          ++ fails_of (after_plan x got now) now (unplaced (placements (after_plan x got now) roomy))))) (sym then_is);
      before = h.first.seen;
      start = start_is;
      log = turns.items ∙ ap (λ (x : Rows). h.first.seen ++ items_of by x calls) (sym then_is);
      refused = h.reports.refused ∙ turns.refused ∙ ap (λ (x : Rows). refused_of x calls) (sym then_is);
    }

  pub has-account : HasAccount by now s s' r
  has-account = record {
    got = got;
    roomy = roomy;
    at = at;
    in_order = record {
      first = omega (
        arith,
        start_is,
        seen-grows h.first h.opens.first
            (later_looks h.first h.opens.first h.opens.looks),
      );
      second = seen-grows h.opens.first (parts.v1 by now line s s' r h)
          (later_looks h.opens.first (parts.v1 by now line s s' r h) h.opens.work_called.looks);
      third = seen-grows (parts.v1 by now line s s' r h) (parts.v2 by now line s s' r h)
          (parts.part2 by now line s s' r h).later;
      fourth =
          let p = each-had by (parts.plans by now line s s' r h)
          (calling (parts.v2 by now line s s' r h) h.opens.worked.tally) h.opens.planned h.opens.plan_called.calls
          in
          let q = part-each by (parts.plans by now line s s' r h) (parts.h2 by now line s s' r h)
          (had h.opens.planned) p in
          omega (
            arith,
            seen-grows (parts.v2 by now line s s' r h) h.opens.planned.view q.later,
            seen-grows h.opens.planned.view h.opens.third (later_looks h.opens.planned.view h.opens.third
                h.opens.looks_third),
          );
      fifth = seen-grows h.opens.third f (later_looks h.opens.third f h.opens.looks_last);
      last = omega (arith, h.reports.end_is, seen-grows f z f_later);
    };
    heard = λ a inside.
        let heard = are-heard s.reps (present (rows_seen h.opens.first) now) (questions s.wire [])
        (questions h.opens.wire got) h.opens.heard.got in
        let c = heard.from a (subst (λ xs. Contains xs a) heard.is inside) in (
          c.0,
          subst (λ (x : Rows). Contains (present x now) c.0) (sym (then-seen h.opens.first z first_later)) c.1,
          c.2,
        );
    roomy_are = λ y inside.
        let q = parts.roomy_cell by now line s s' r h y inside in
        record {
          answer = q.answer;
          inside = q.inside;
          cell_is = heard_cell h.opened.reps q.answer.cell q.answer.epoch y q.heard;
          epoch_is = q.heard.epoch_is;
          kept = subst (λ (x : Rows). is_being_emptied x q.answer.cell ≡ false) (sym (then-seen f z f_later)) q.kept;
        };
    mine = (parts.asked by now line s s' r h).later.mine.0;
    mine_is = (parts.asked by now line s s' r h).later.mine.1 ∙ ap
        (λ (v : PortView). v.mine ++ (parts.asked by now line s s' r h).later.mine.0) h.looks.is;
    items = λ i inside. item-asked by now got roomy h.first z r.start i start_is
        ((parts.asked by now line s s' r h).each i inside);
    lists = lists;
    counts = counts;
    alone = λ none. alone none;
  }
