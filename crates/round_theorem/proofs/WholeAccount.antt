-- Each round has its account.
use Rattle.std.proofs.Common.{ℕ, List, [], ◌++◌, length, refl, sym, subst, arith, inl, inr}
use Rattle.std.specs.List.{Contains}
use Rattle.bbs_model.specs.PortView.{PortView, rows_seen, IsLater}
use Rattle.bbs_model.specs.Work.{work}
use Rattle.bbs_model.specs.declared.command.Command.{Command}
use Rattle.bbs_model.specs.declared.rows.Rows.{Rows}
use Rattle.bbs_model.proofs.Public.{later_looks, later_then}
use Rattle.cell_records.specs.declared.answer.Answer.{Answer}
use Rattle.convergence.specs.Plans.{plan_of_answers}
use Rattle.convergence.specs.declared.report.Report.{Report}
use Rattle.converge_round.specs.Callings.{Calling, calling}
use Rattle.converge_round.specs.Items.{IsOfTable, AreAsked}
use Rattle.converge_round.specs.Phases.{fails_in}
use Rattle.converge_round.specs.Reps.{names_of}
use Rattle.converge_round.specs.Rounds.{Standing, IsRound}
use Rattle.converge_round.specs.Tallies.{no_calls}
use Rattle.converge_round.proofs.Public.{asked_here, asked_looks, asked_then, asked_weaker, asked_list, claim_in, fail_in, own_then, own_weaker}
use Rattle.crash_backoff.specs.declared.moment.Moment.{Moment}
use Rattle.round_theorem.specs.Accounts.{Readings}
use Rattle.round_theorem.proofs.Account.{claim_from}
use Rattle.round_theorem.proofs.Answered.{heard_cell}
use Rattle.round_theorem.proofs.Had.{Had, had, AreCountedIn, each-had, own-had}
use Rattle.round_theorem.proofs.RoomyCells.{IsRoomy, is-roomy, heard_named}
use Rattle.round_theorem.proofs.Segments.{IsPart, had_at, part-looks, part-each, part-then, part-end}
use Rattle.round_theorem.proofs.ServesHad.{AreServesHad, serves-had}
use Rattle.round_theorem.proofs.Starts.{in_course}

module _ (by : ℕ) (now : Moment) (line : ℕ) (s s' : Standing) (r : Report) (h : IsRound by now line s s' r) where
  abbrev pub got : List Answer
  got = h.opens.hearing.got

  abbrev pub roomy : List Answer
  roomy = h.opening_is.places.roomy

  abbrev pub z : PortView
  z = s'.view

  abbrev pub v1 : PortView
  v1 = h.opens.work_called.read

  abbrev pub v2 : PortView
  v2 = h.opens.plan_called.read

  abbrev pub f : PortView
  f = h.opened.view

  abbrev pub works : List Command
  works = work (rows_seen v1) now

  abbrev pub plans : List Command
  plans = plan_of_answers (rows_seen v2) got now

  abbrev pub notes : List Command
  notes = fails_in now h.opening_is.places

  pub roomy_cell : (y : Answer) → Contains roomy y → IsRoomy (rows_seen f) h.opened.reps got y
  roomy_cell y inside = is-roomy (rows_seen f) h.opened.reps got roomy y h.opens.placed.open_are inside

  abbrev pub served : AreServesHad by now h.opening_is.places roomy h.opened h.served
  served = serves-had by now h.opening_is.places roomy h.opened h.served
      (λ y inside.
      let q = roomy_cell y inside in
      subst (Contains (names_of h.opened.reps)) (sym (heard_cell h.opened.reps q.answer.cell q.answer.epoch y q.heard))
      (heard_named h.opened.reps q.answer.cell q.answer.epoch y q.heard))
      h.serves

  abbrev pub claims : List Command
  claims = served.claims

  -- what was called, part by part
  abbrev pub h0 : Had
  h0 = had_at h.first 0 []

  abbrev pub h1 : Had
  h1 = had (calling v1 no_calls)

  abbrev pub h2 : Had
  h2 = had (calling v2 h.opens.worked.tally)

  abbrev pub h3 : Had
  h3 = had (in_course h.opened)

  abbrev pub h4 : Had
  h4 = had_at z h.noted.tally.own h.noted.tally.refused

  pub part1 : IsPart by [] h0 h1
  part1 = part-then by [] [] h0 (had_at h.opens.first 0 []) h1 (part-looks by h.first h.opens.first 0 [] h.opens.looks)
      (part-looks by h.opens.first v1 0 [] h.opens.work_called.looks)

  pub part2 : IsPart by works h1 h2
  part2 = part-end by works h1 (had h.opens.worked) h2 (part-each by works h1 (had h.opens.worked)
      (each-had by works (calling v1 no_calls) h.opens.worked h.opens.work_called.calls))
      (part-looks by h.opens.worked.view v2 h.opens.worked.tally.own h.opens.worked.tally.refused
      h.opens.plan_called.looks)

  pub part3 : IsPart by plans h2 h3
  part3 =
      let planned : Calling = h.opens.planned in
      let t = planned.tally in
      let looks = part-then by [] [] (had planned) (had_at h.opens.third t.own t.refused) (had_at f t.own t.refused)
      (part-looks by planned.view h.opens.third t.own t.refused h.opens.looks_third)
      (part-looks by h.opens.third f t.own t.refused h.opens.looks_last) in
      part-end by plans h2 (had planned) h3
      (part-each by plans h2 (had planned) (each-had by plans
      (calling v2 h.opens.worked.tally) planned h.opens.plan_called.calls))
      (subst (λ x. IsPart by [] (had planned) (had (calling f x))) (sym h.opens.tally_is) looks)

  abbrev mid : Had
  mid = had (in_course h.served)

  pub part4 : IsPart by (claims ++ notes) h3 h4
  part4 = part-end by (claims ++ notes) h3 (had h.noted) h4
      (part-then by claims notes h3 mid (had h.noted) (part-each by claims h3 mid served.calls)
      (part-each by notes mid (had h.noted) (each-had by notes (in_course h.served) h.noted h.notes)))
      (part-looks by h.noted.view z h.noted.tally.own h.noted.tally.refused h.looks_last)

  pub part34 : IsPart by (plans ++ (claims ++ notes)) h2 h4
  part34 = part-then by plans (claims ++ notes) h2 h3 h4 part3 part4

  pub part24 : IsPart by (works ++ (plans ++ (claims ++ notes))) h1 h4
  part24 = part-then by works (plans ++ (claims ++ notes)) h1 h2 h4 part2 part34

  pub whole : IsPart by (works ++ (plans ++ (claims ++ notes))) h0 h4
  whole = part-then by [] (works ++ (plans ++ (claims ++ notes))) h0 h1 h4 part1 part24

  pub counted : AreCountedIn h0 h4
  counted = whole.counted (omega arith)

  -- where the rows were read
  abbrev pub third_later : IsLater h.opens.third z
  third_later = later_then h.opens.third f z (later_looks h.opens.third f h.opens.looks_last) part4.later

  abbrev pub first_later : IsLater h.opens.first z
  first_later = later_then h.opens.first v1 z (later_looks h.opens.first v1 h.opens.work_called.looks) part24.later

  abbrev pub at : Readings
  at = record {
    cells = length h.opens.first.seen;
    work = length v1.seen;
    plan = length v2.seen;
    strays =
        length h.opens.third.seen;
    auction = length f.seen;
  }

  -- each item, by what asked for it
  abbrev T : Rows → Command → Type 0
  T = IsOfTable got roomy now

  abbrev OfWork : Rows → Command → Type 0
  OfWork rows c = Contains (work rows now) c

  abbrev OfPlan : Rows → Command → Type 0
  OfPlan rows c = Contains (plan_of_answers rows got now) c

  asked_works : AreAsked by T h.opens.first h.opens.worked.view
  asked_works = asked_weaker by OfWork T h.opens.first h.opens.worked.view (λ rows c x. inl x)
      (asked_list by by (λ rows. work rows now) h.opens.first v1 h.opens.worked.view works refl
      h.opens.work_called.looks refl
      (own-had by works h1 (had h.opens.worked) (each-had by works
      (calling v1 no_calls) h.opens.worked h.opens.work_called.calls)))

  asked_plans : AreAsked by T h.opens.worked.view h.opens.planned.view
  asked_plans = asked_weaker by OfPlan T h.opens.worked.view h.opens.planned.view (λ rows c x. inr (inl x))
      (asked_list by by (λ rows. plan_of_answers rows got now) h.opens.worked.view v2 h.opens.planned.view plans refl
      h.opens.plan_called.looks refl
      (own-had by plans h2 (had h.opens.planned) (each-had by plans
      (calling v2 h.opens.worked.tally) h.opens.planned h.opens.plan_called.calls)))

  asked_claims : AreAsked by T f h.noted.view
  asked_claims = asked_here by T f h.noted.view (own_then by (T (rows_seen f)) f h.served.view h.noted.view
      (own_weaker by (Contains claims) (T (rows_seen f)) f h.served.view
      (λ c x. inr (inr (inl (claim_in now (rows_seen f) h.opened.reps got h.opening_is.places c h.opens.placed
      (claim_from now h.opening_is.places.rows h.opening_is.places.placements roomy served.missing claims c served.are
      x)))))
      (own-had by claims h3 mid served.calls))
      (own_weaker by (Contains notes) (T (rows_seen f)) h.served.view h.noted.view
      (λ c x. inr (inr (inr (fail_in now (rows_seen f) h.opened.reps got h.opening_is.places c h.opens.placed x))))
      (own-had by notes mid (had h.noted) (each-had by notes (in_course h.served) h.noted h.notes))))

  pub asked : AreAsked by T h.first z
  asked =
      asked_then by T h.first h.opens.first z (asked_looks by T h.first h.opens.first h.opens.looks)
      (asked_then by T h.opens.first h.opens.worked.view z asked_works
      (asked_then by T h.opens.worked.view h.opens.planned.view z asked_plans
      (asked_then by T h.opens.planned.view h.opens.third z
      (asked_looks by T h.opens.planned.view h.opens.third h.opens.looks_third)
      (asked_then by T h.opens.third f z (asked_looks by T h.opens.third f h.opens.looks_last)
      (asked_then by T f h.noted.view z asked_claims (asked_looks by T h.noted.view z h.looks_last))))))
