-- The parts of a round, joined.
use Rattle.std.proofs.Common.{◌≡◌, ℕ, ◌<◌, List, length, get_or, set, Result, Ok, Err, Some, refl, sym, subst}
use Rattle.std.specs.Prelude.{OnOk, slice_get}
use Rattle.cell_records.specs.declared.answer.Answer.{Answer}
use Rattle.cell_records.specs.declared.job.Job.{Job}
use Rattle.cell_rep.specs.declared.rep.CellRep.{CellRep}
use Rattle.convergence.specs.declared.report.Report.{Report}
use Rattle.converge_round.specs.Rounds.{IsReport}
use Rattle.convergence.specs.Plans.{plan_of_answers}
use Rattle.crash_backoff.specs.declared.moment.Moment.{Moment}
use Rattle.bbs_model.specs.PortView.{PortView}
use Rattle.bbs_model.specs.declared.command.Command.{Command}
use Rattle.bbs_model.specs.declared.reply.CallFault.{CallFault}
use Rattle.bbs_model.specs.declared.rows.Rows.{Rows}
use Rattle.converge_round.specs.Callings.{Calling, AreOf}
use Rattle.converge_round.specs.Each.{Each}
use Rattle.converge_round.specs.Items.{HasFirstItems}
use Rattle.converge_round.specs.Phases.{AreCalledBy, AreStopped, ArePlaced, Course, course, IsOpenedRound, ClaimsAt}
use Rattle.converge_round.specs.Reps.{names_of}
use Rattle.converge_round.specs.Sendings.{WireAt}
use Rattle.converge_round.specs.Starts.{AreFine, Claims, claiming, counted_all}
use Rattle.converge_round.specs.Stops.{Stopping}
use Rattle.converge_round.specs.Tallies.{no_calls}
use Rattle.converge_round.specs.declared.claims.Claimed.{Claimed}
use Rattle.converge_round.specs.declared.opening.Opening.{Opening}
use Rattle.converge_round.specs.declared.stopping.Stops.{Stops}
use Rattle.converge_round.specs.declared.placing.Places.{Places}
use Rattle.converge_round.specs.declared.tally.Tally.{Tally}
use Rattle.converge_round.proofs.RepLaws.{stands-for, rep_read}

-- the starts on a rep that was read at a place are those on its cell, and count so
pub claims_at : {X E : Type 0} (r : Result X E) (by : ℕ) (now : Moment) (jobs : List Job) (ends : List Claimed)
    (v w : PortView) (t : Tally) (cells : List CellRep) (t' : Tally) (wire : WireAt) (at : ℕ) (d after : CellRep)
    (wire' : WireAt)
    → at < length cells
    → Claims by now jobs (claiming (get_or cells at d) v wire) (claiming after w wire') ends → AreFine ends
    → OnOk r (t' ≡ counted_all ends t)
    → OnOk r ((cell : List ℕ) → slice_get (names_of cells) at ≡ Some cell
    → ClaimsAt by now cell jobs (course v t cells wire) (course w t' (set cells at after) wire'))
claims_at (Ok x) by now jobs ends v w t cells t' wire at d after wire' within h fine counts = λ cell e. record {
  place = at;
  rep = get_or cells at d;
  stands = stands-for cells at cell (get_or cells at d) e (rep_read cells at d within);
  after = after;
  ends = ends;
  claims = h;
  fine = fine;
  counts = counts;
  reps_are = refl;
}
claims_at (Err why) by now jobs ends v w t cells t' wire at d after wire' within h fine counts = tt

-- the same steps by a caller of that number
pub each_by : {X S : Type 0} (Step : ℕ → X → S → S → Type 0) (by by' : ℕ) (xs : List X) (s t : S) → by' ≡ by
    → Each (Step by') xs s t → Each (Step by) xs s t
each_by Step by by' xs s t same f = subst (λ n. Each (Step n) xs s t) same f

pub own_by : (by by' : ℕ) (A : Command → Type 0) (v w : PortView) → by' ≡ by → AreOf by' A v w → AreOf by A v w
own_by by by' A v w same f = subst (λ n. AreOf n A v w) same f

pub first_by : (by by' : ℕ) (now : Moment) (reps : List CellRep) (v w : PortView) (r : Result Opening CallFault)
    → by' ≡ by → HasFirstItems by' now reps v w r → HasFirstItems by now reps v w r
first_by by by' now reps v w r same f = subst (λ n. HasFirstItems n now reps v w r) same f

pub called_by : (by by' : ℕ) (table : Rows → List Command) (s t : Calling) → by' ≡ by → AreCalledBy by' table s t
    → AreCalledBy by table s t
called_by by by' table s t same f = subst (λ n. AreCalledBy n table s t) same f

pub planned_by : (by by' : ℕ) (now : Moment) (got got' : List Answer) (s t : Calling) → by' ≡ by → got' ≡ got
    → AreCalledBy by' (λ rows. plan_of_answers rows got' now) s t
    → AreCalledBy by (λ rows. plan_of_answers rows got now) s t
planned_by by by' now got got' s t same is f =
    subst (λ (xs : List Answer). AreCalledBy by (λ rows. plan_of_answers rows xs now) s t) is
    (subst (λ n. AreCalledBy n (λ rows. plan_of_answers rows got' now) s t) same f)

pub stopped_by : (rows : Rows) (got got' : List Answer) (s t : Stopping) (stops : Stops) → got' ≡ got
    → AreStopped rows got' s t stops → AreStopped rows got s t stops
stopped_by rows got got' s t stops is f = subst (λ (xs : List Answer). AreStopped rows xs s t stops) is f

pub placed_by : (rows : Rows) (cells : List CellRep) (got got' : List Answer) (p q : Places) → got' ≡ got → q ≡ p
    → ArePlaced rows cells got' p → ArePlaced rows cells got q
placed_by rows cells got got' p q is same f =
    subst (λ (x : Places). ArePlaced rows cells got x) (sym same)
    (subst (λ (xs : List Answer). ArePlaced rows cells xs p) is f)

pub opens_by : (by by' : ℕ) (now : Moment) (v : PortView) (t : Tally) (reps : List CellRep) (wire : WireAt)
    (s' : Course) (o : Opening) → by' ≡ by → t ≡ no_calls
    → IsOpenedRound by' now (course v t reps wire) s' o → IsOpenedRound by now (course v no_calls reps wire) s' o
opens_by by by' now v t reps wire s' o same none f =
    subst (λ x. IsOpenedRound by now (course v x reps wire) s' o) none
    (subst (λ n. IsOpenedRound n now (course v t reps wire) s' o) same f)

-- a report of a round that began there
pub report_from : (line start start' : ℕ) (o : Opening) (t : Tally) (reps : List CellRep) (last : PortView) (r : Report)
    → start' ≡ start → IsReport line start' o t reps last r → IsReport line start o t reps last r
report_from line start start' o t reps last r same f = subst (λ n. IsReport line n o t reps last r) same f
