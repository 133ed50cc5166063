-- The rows of a round that nobody else's calls disturb: what is read at its start, for the strays and for the auction.
use Rattle.std.proofs.Common.{◌≡◌, ℕ, List, [], ◌∷◌, ◌++◌, sym, ap, ◌∙◌}
use Rattle.bbs_model.specs.PortView.{IsLater, IsQuiet, PortView, rows_seen}
use Rattle.bbs_model.specs.Runs.{state_after, state_after_all}
use Rattle.bbs_model.specs.Step.{verdict_of}
use Rattle.bbs_model.specs.Work.{work}
use Rattle.bbs_model.specs.declared.command.Command.{Command}
use Rattle.bbs_model.specs.declared.rows.Rows.{Rows}
use Rattle.bbs_model.specs.declared.verdict.Verdict.{Verdict}
use Rattle.bbs_model.specs.declared.verdict.Verdict.TheVariants as verdict
use Rattle.bbs_model.proofs.Public.{later_looks, later_then, quiet_first, quiet_second}
use Rattle.cell_records.specs.declared.answer.Answer.{Answer}
use Rattle.convergence.specs.Plans.{plan_of_answers}
use Rattle.convergence.specs.declared.report.Report.{Report}
use Rattle.converge_laws.specs.Accepted.{AreAccepted, IsAccepted}
use Rattle.converge_laws.specs.Laws.{after_plan, after_work}
use Rattle.converge_round.specs.Callings.{calling}
use Rattle.converge_round.specs.Places.{fails_of, placements, unplaced}
use Rattle.converge_round.specs.Rounds.{IsRound, Standing}
use Rattle.crash_backoff.specs.declared.moment.Moment.{Moment}
use Rattle.round_theorem.proofs.Accounted as account
use Rattle.round_theorem.proofs.Had.{each-had, had}
use Rattle.round_theorem.proofs.Segments.{part-each, refused_append}
use Rattle.round_theorem.proofs.Taken.{rows-looks}
use Rattle.round_theorem.proofs.WholeAccount as parts
use Rattle.round_theorem.specs.Alone.{refusal_by, refused_of}

first_empty : {X : Type 0} (xs ys : List X) → xs ++ ys ≡ [] → xs ≡ []
first_empty [] ys e = sym e ∙ e
first_empty (x ∷ xs) ys e = absurd cc

pub second_empty : {X : Type 0} (xs ys : List X) → xs ++ ys ≡ [] → ys ≡ []
second_empty [] ys e = e
second_empty (x ∷ xs) ys e = absurd cc

accepted_if : (c : Command) (v : Verdict) → refusal_by c v ≡ [] → IsAccepted v
accepted_if c verdict.Ok e = tt
accepted_if c verdict.Same e = tt
accepted_if c (verdict.Refused why) e = absurd cc

-- commands of which none is refused are accepted
pub all_accepted : (rows : Rows) (cs : List Command) → refused_of rows cs ≡ [] → AreAccepted rows cs
all_accepted rows [] e = tt
all_accepted rows (c ∷ cs) e = (
  accepted_if c (verdict_of rows c)
      (first_empty (refusal_by c (verdict_of rows c)) (refused_of (state_after rows c) cs) e),
  all_accepted (state_after rows c) cs
      (second_empty (refusal_by c (verdict_of rows c)) (refused_of (state_after rows c) cs) e),
)

module _ (by : ℕ) (now : Moment) (line : ℕ) (s s' : Standing) (r : Report) (h : IsRound by now line s s' r)
    (alone : r.foreign ≡ 0) where
  abbrev R : Rows
  R = rows_seen h.first

  abbrev got : List Answer
  got = h.opens.hearing.got

  abbrev z : PortView
  z = s'.view

  quiet : IsQuiet h.first z
  quiet = account.quiet by now line s s' r h alone

  -- it asks the cells by the rows of its start
  pub first_rows : rows_seen h.opens.first ≡ R
  first_rows = rows-looks h.first h.opens.first h.opens.looks
      (quiet_first h.first h.opens.first z (later_looks h.first h.opens.first h.opens.looks)
      (parts.first_later by now line s s' r h) quiet)

  -- its auction has the rows after its commands
  pub auction_rows : h.opening_is.places.rows ≡ after_plan R got now
  auction_rows = account.places_rows by now line s s' r h alone

  third_later : IsLater h.first h.opens.third
  third_later =
      let plans = parts.plans by now line s s' r h in
      let v1 = parts.v1 by now line s s' r h in
      let v2 = parts.v2 by now line s s' r h in
      let planned = h.opens.planned in
      let called = part-each by plans (parts.h2 by now line s s' r h) (had planned)
      (each-had by plans (calling v2 h.opens.worked.tally) planned h.opens.plan_called.calls) in
      later_then h.first v2 h.opens.third
      (later_then h.first v1 v2 (parts.part1 by now line s s' r h).later (parts.part2 by now line s s' r h).later)
      (later_then v2 planned.view h.opens.third called.later
      (later_looks planned.view h.opens.third h.opens.looks_third))

  -- and so have its strays
  pub third_rows : rows_seen h.opens.third ≡ after_plan R got now
  third_rows =
      let f = h.opened.view in
      let rest = parts.third_later by now line s s' r h in
      let behind : IsQuiet h.opens.third z = quiet_second h.first h.opens.third z third_later rest quiet in
      let last : IsLater f z = (parts.part4 by now line s s' r h).later in
      let here : IsQuiet h.opens.third f =
      quiet_first h.opens.third f z (later_looks h.opens.third f h.opens.looks_last) last behind in
      sym (rows-looks h.opens.third f h.opens.looks_last here) ∙ sym h.opens.placed.rows_are ∙ auction_rows

  -- where it reports no refusal, what the rows of its start ask for is accepted
  pub work_accepted : r.refused ≡ [] → AreAccepted R (work R now)
  work_accepted none =
      let W : List Command = work R now in
      let P : List Command = plan_of_answers (after_work R now) got now in
      let A : Rows = after_plan R got now in
      let L : List Command = account.claims by now line s s' r h alone
      ++ fails_of A now (unplaced (placements A h.opening_is.places.roomy)) in
      let all : r.refused ≡ refused_of R (W ++ (P ++ L)) =
      h.reports.refused ∙ (account.turns by now line s s' r h alone).refused
      ∙ ap (refused_of R) (account.calls_are by now line s s' r h alone) in
      all_accepted R W (first_empty (refused_of R W) (refused_of (state_after_all R W) (P ++ L))
      (sym (refused_append R W (P ++ L)) ∙ sym all ∙ none))
