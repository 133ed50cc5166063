-- A complete round: nobody else moved the board, and all that was asked for was accepted.
use Rattle.std.proofs.Common.{◌≡◌, ℕ, ◌-◌, List, [], length, sym, ap, subst, ◌∙◌, arith}
use Rattle.bbs_model.specs.PortView.{rows_seen, IsQuiet}
use Rattle.bbs_model.specs.Runs.{state_after_all}
use Rattle.bbs_model.specs.Work.{work}
use Rattle.bbs_model.specs.declared.command.Command.{Command}
use Rattle.bbs_model.specs.declared.rows.Rows.{Rows}
use Rattle.bbs_model.proofs.Public.{later_looks, quiet_first, quiet_second}
use Rattle.convergence.specs.Plans.{plan_of_answers}
use Rattle.convergence.specs.declared.report.Report.{Report}
use Rattle.converge_laws.specs.Accepted.{AreAccepted}
use Rattle.converge_laws.specs.Laws.{after_plan}
use Rattle.converge_round.specs.Callings.{Calling, calling}
use Rattle.converge_round.specs.Phases.{AreCalledBy}
use Rattle.converge_round.specs.Rounds.{Standing, IsRound}
use Rattle.converge_round.specs.Tallies.{no_calls}
use Rattle.converge_round.specs.declared.tally.Tally.{Tally}
use Rattle.crash_backoff.specs.declared.moment.Moment.{Moment}
use Rattle.round_theorem.specs.Complete.{IsComplete, HasTakenAll}
use Rattle.round_theorem.proofs.Tallied.{IsTallied, tallied-then, tallied-looks, tallied-each}
use Rattle.round_theorem.proofs.Taken.{rows-looks, AreTaken, taken-each}
use Rattle.round_theorem.proofs.Starts.{in_course, tallied-serves}

tallied_called : (by : ℕ) (table : Rows → List Command) (s s' : Calling) → AreCalledBy by table s s' → IsTallied s s'
tallied_called by table s s' h =
    tallied-then s (calling h.read s.tally) s' (tallied-looks s.view h.read s.tally h.looks)
    (tallied-each by (table (rows_seen h.read)) (calling h.read s.tally) s' h.calls)

-- what a table asks for at the rows that were seen is taken
taken_called : (by : ℕ) (table : Rows → List Command) (s s' : Calling) → AreCalledBy by table s s'
    → IsQuiet s.view s'.view → s'.tally.refused ≡ []
    → AreTaken (rows_seen s.view) (table (rows_seen s.view)) (rows_seen s'.view)
taken_called by table s s' h q none =
    let looks = later_looks s.view h.read h.looks in
    let calls = tallied-each by (table (rows_seen h.read)) (calling h.read s.tally) s' h.calls in
    let same = rows-looks s.view h.read h.looks (quiet_first s.view h.read s'.view looks calls.later q) in
    subst (λ (x : Rows). AreTaken x (table x) (rows_seen s'.view)) same
    (taken-each by (table (rows_seen h.read)) (calling h.read s.tally) s' h.calls
    (quiet_second s.view h.read s'.view looks calls.later q) none)

module _ (by : ℕ) (now : Moment) (line : ℕ) (s s' : Standing) (r : Report) (h : IsRound by now line s s' r)
    (complete : IsComplete r) where
  abbrev a : Calling
  a = calling h.first no_calls

  abbrev b : Calling
  b = calling h.opens.first no_calls

  abbrev c : Calling
  c = h.opens.worked

  abbrev d : Calling
  d = h.opens.planned

  abbrev e : Calling
  e = calling h.opens.third h.opens.planned.tally

  abbrev f : Calling
  f = calling h.opened.view h.opens.planned.tally

  abbrev g : Calling
  g = in_course h.served

  abbrev z : Calling
  z = calling s'.view h.noted.tally

  ab : IsTallied a b
  ab = tallied-looks h.first h.opens.first no_calls h.opens.looks

  bc : IsTallied b c
  bc = tallied_called by (λ rows. work rows now) b c h.opens.work_called

  cd : IsTallied c d
  cd = tallied_called by (λ rows. plan_of_answers rows h.opens.hearing.got now) c d h.opens.plan_called

  de : IsTallied d e
  de = tallied-looks h.opens.planned.view h.opens.third h.opens.planned.tally h.opens.looks_third

  ef : IsTallied e f
  ef = tallied-looks h.opens.third h.opened.view h.opens.planned.tally h.opens.looks_last

  pub fg : IsTallied f g
  fg = subst (λ (t : Tally). IsTallied (calling h.opened.view t) g) h.opens.tally_is
      (tallied-serves by now h.opening_is.places h.opening_is.places.roomy h.opened h.served h.serves)

  pub gz : IsTallied g z
  gz = tallied-then g h.noted z (tallied-each by _ g h.noted h.notes)
      (tallied-looks h.noted.view s'.view h.noted.tally h.looks_last)

  fz : IsTallied f z
  fz = tallied-then f g z fg gz

  ez : IsTallied e z
  ez = tallied-then e f z ef fz

  dz : IsTallied d z
  dz = tallied-then d e z de ez

  cz : IsTallied c z
  cz = tallied-then c d z cd dz

  bz : IsTallied b z
  bz = tallied-then b c z bc cz

  az : IsTallied a z
  az = tallied-then a b z ab bz

  pub none : h.noted.tally.refused ≡ []
  none = sym h.reports.refused ∙ complete.refused

  alone : (length s'.view.seen - length h.first.seen) - h.noted.tally.own ≡ 0
  alone = ap (λ n. (n - length h.first.seen) - h.noted.tally.own)
      (sym h.reports.end_is) ∙ sym h.reports.foreign ∙ complete.alone

  quiet : IsQuiet h.first s'.view
  quiet = omega (arith, az.own, az.later.counts, alone)

  quiet-b : IsQuiet b.view z.view
  quiet-b = quiet_second a.view b.view z.view ab.later bz.later quiet

  quiet-c : IsQuiet c.view z.view
  quiet-c = quiet_second b.view c.view z.view bc.later cz.later quiet-b

  quiet-d : IsQuiet d.view z.view
  quiet-d = quiet_second c.view d.view z.view cd.later dz.later quiet-c

  quiet-e : IsQuiet e.view z.view
  quiet-e = quiet_second d.view e.view z.view de.later ez.later quiet-d

  pub rows-b : rows_seen b.view ≡ rows_seen a.view
  rows-b = rows-looks a.view b.view h.opens.looks (quiet_first a.view b.view z.view ab.later bz.later quiet)

  worked : AreTaken (rows_seen a.view) (work (rows_seen a.view) now) (rows_seen c.view)
  worked = subst (λ (x : Rows). AreTaken x (work x now) (rows_seen c.view)) rows-b
      (taken_called by (λ rows. work rows now) b c h.opens.work_called
      (quiet_first b.view c.view z.view bc.later cz.later quiet-b) (cz.refused none))

  planned : AreTaken (rows_seen c.view) (plan_of_answers (rows_seen c.view) h.opens.hearing.got now) (rows_seen d.view)
  planned = taken_called by (λ rows. plan_of_answers rows h.opens.hearing.got now) c d h.opens.plan_called
      (quiet_first c.view d.view z.view cd.later dz.later quiet-c) (dz.refused none)

  pub quiet-f : IsQuiet f.view z.view
  quiet-f = quiet_second e.view f.view z.view ef.later fz.later quiet-e

  -- the rows after work and plan
  pub rows-d : rows_seen d.view ≡ after_plan (rows_seen a.view) h.opens.hearing.got now
  rows-d = planned.rows_are ∙ ap (λ (x : Rows). state_after_all x (plan_of_answers x h.opens.hearing.got now))
      worked.rows_are

  pub rows-e : rows_seen e.view ≡ rows_seen d.view
  rows-e = rows-looks d.view e.view h.opens.looks_third (quiet_first d.view e.view z.view de.later ez.later quiet-d)

  pub rows-f : rows_seen f.view ≡ rows_seen d.view
  rows-f = rows-looks e.view f.view h.opens.looks_last (quiet_first e.view f.view z.view ef.later fz.later quiet-e) ∙
      rows-e

  pub takes-all : HasTakenAll by now line s s' r h
  takes-all = record {
    quiet = quiet;
    worked = worked.accepted;
    planned = subst (λ (x : Rows). AreAccepted x (plan_of_answers x h.opens.hearing.got now)) worked.rows_are
        planned.accepted;
    auctioned = h.opens.placed.rows_are ∙ rows-f ∙ rows-d;
  }
