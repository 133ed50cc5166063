-- Jobs are started as a round that is alone starts them.
use Rattle.std.proofs.Common.{◌≡◌, ℕ, Bool, true, false, not, cond, List, [], ◌∷◌, map, Option, Some, refl, sym, ap, subst, ◌∙◌, ⊎_elim}
use Rattle.bbs_model.specs.PortView.{IsLater, IsQuiet, PortView}
use Rattle.bbs_model.proofs.Public.{later_same}
use Rattle.cell_records.specs.declared.job.Job.{Job}
use Rattle.cell_rep.specs.Acts.{job_begun, job_todo}
use Rattle.cell_rep.specs.Follows.{EndsOf, Follows, IsAnswer, Stage, after_todo, answer_to, moved_by, starved}
use Rattle.cell_rep.specs.Laws.{HasStore}
use Rattle.cell_rep.specs.Wires.{WireEnds}
use Rattle.cell_rep.specs.declared.call_end.CallEnd.{CallEnd}
use Rattle.cell_rep.specs.declared.call_end.Called.{Called}
use Rattle.cell_rep.specs.declared.rep.CellRep.{CellRep}
use Rattle.cell_rep.specs.declared.todo.Todo.{Todo}
use Rattle.cell_rep.specs.declared.todo.Todo.TheVariants as todo
use Rattle.converge_round.specs.Each.{Each}
use Rattle.converge_round.specs.Sendings.{WireAt}
use Rattle.converge_round.specs.Starts.{AreFine, Claiming, Claims, HasNoFault, IsFine, IsStartTaken, StartsOne, TakesIf, counted, counted_all, counted_end, job_of}
use Rattle.converge_round.specs.Tallies.{lost_one}
use Rattle.converge_round.specs.declared.claims.Claimed.{Claimed}
use Rattle.converge_round.specs.declared.claims.StartEnd.{StartEnd}
use Rattle.converge_round.specs.declared.tally.Tally.{Tally}
use Rattle.converge_round.proofs.Public.{claims_jobs}
use Rattle.crash_backoff.specs.declared.moment.Moment.{Moment}
use Rattle.phase_runs.specs.Names.{is_among}
use Rattle.phase_runs.specs.RoundMarks.{round_ends}
use Rattle.scenario_lines.specs.declared.script.RoundLine.{RoundLine}
use Rattle.run_function.specs.Acts.{done_alone, end_alone, next_end}
use Rattle.run_function.specs.Boards.{board_seen}
use Rattle.run_function.specs.Rounds.{SoleStarts, sole_starts, start_alone, starts_alone, taken_by}
use Rattle.run_function.proofs.CellsKept.{job_cell, todo_cell}
use Rattle.run_function.proofs.Follows.{later_ended, one_due}
use Rattle.run_function.proofs.Leads.{Leads, leads_same, leads_then, leads_to}
use Rattle.run_function.proofs.Steady.{IsOf, reached_started}
use Rattle.run_function.proofs.Stored.{job_keeps, todo_keeps}

-- the rep, the board and the counts
abbrev pub starts_in : Claiming → Tally → SoleStarts
starts_in s t = sole_starts s.rep (board_seen s.view) t

-- what starts come to
pub record AreStartsAlone (line : RoundLine) (by : ℕ) (now : Moment) (jobs : List Job) (s s' : Claiming)
    (u u' : Tally) : Type 0 where
  pub still : IsOf line s'.wire
  pub cell : s'.rep.cell ≡ s.rep.cell
  pub store : HasStore s.rep.joined → HasStore s'.rep.joined
  pub leads : Leads s.view s'.view (starts_in s' u' ≡ starts_alone line by now jobs (starts_in s u))

-- the wire's ends are the same behind a call
still_behind : (line : RoundLine) (t : Todo) → moved_by t (Some (round_ends line)) ≡ Some (round_ends line)
still_behind line (todo.Call c) = refl
still_behind line todo.Idle = refl
still_behind line (todo.Local why) = refl

module _ (line : RoundLine) (by : ℕ) (now : Moment) (job : Job) (s s' : Claiming) (u : Tally) where
  abbrev t : Todo
  t = job_todo job now s.rep.cell s.rep.joined

  abbrev began : CellRep
  began = job_begun job s.rep s.rep.joined

  abbrev ends : WireEnds
  ends = round_ends line

  -- it is known what was done
  record IsOneDone (a : Called) : Type 0 where
    m : PortView
    answer : IsAnswer t a
    ended : EndsOf by s.rep.cell (Some ends) t s.view a m
    rep_is : s'.rep ≡ after_todo t a.end began
    view_is : s'.view ≡ m
    still : s'.wire.ends ≡ Some ends

  one_of : (new : List Called) (a : Called) (wire : WireAt) → a ∷ [] ≡ new → IsOf line wire
      → Follows by s.rep.cell wire.ends (t ∷ []) began s.view new s'.rep s'.view → s'.wire.ends ≡ moved_by t wire.ends
      → IsOneDone a
  one_of new a wire out of follows moved =
      let f = subst (λ (e : Option WireEnds). Follows by s.rep.cell e (t ∷ []) began s.view (a ∷ []) s'.rep s'.view) of
      (subst (λ (xs : List Called). Follows by s.rep.cell wire.ends (t ∷ []) began s.view xs s'.rep s'.view)
      (sym out) follows) in
      record {
        m = f.0;
        answer = f.1;
        ended = f.2;
        rep_is = f.3.0;
        view_is = f.3.1;
        still = moved ∙ ap (moved_by t) of ∙ still_behind line t;
      }

  first_same : (x y : Called) → x ∷ [] ≡ y ∷ [] → x ≡ y
  first_same x y e = cc

  one_from : (wire : WireAt) (e : StartEnd) (h : IsStartTaken by now job wire s s' e) → IsFine e → IsOf line wire
      → IsOneDone h.answer
  one_from wire e h fine of = ⊎_elim
      (λ p. one_of p.new h.answer wire p.out_is of p.follows p.ends_are)
      (λ k. absurd (subst (λ (x : Called). HasNoFault x.end)
      (first_same h.answer starved (ap (λ (x : Stage). x.out) k)) (subst IsFine h.end_is fine)))
      h.started

  taken_holds : (wire : WireAt) (e : StartEnd) (h : IsStartTaken by now job wire s s' e) → IsFine e
      → IsOneDone h.answer → IsQuiet s.view s'.view
      → starts_in s' (counted_end e u) ≡ taken_by line by job t (starts_in s u)
  taken_holds wire e h fine d q =
      let quiet = subst (IsQuiet s.view) d.view_is q in
      let one = one_due by s.rep.cell ends t s.view h.answer d.m d.answer d.ended quiet (subst IsFine h.end_is fine) in
      let c : CallEnd = end_alone t (next_end ends s.rep.cell) (board_seen s.view) in
      let rep : s'.rep ≡ after_todo t c began = d.rep_is ∙ ap (λ (x : CallEnd). after_todo t x began) one.end_is in
      let board : board_seen s'.view ≡ done_alone t (next_end ends s.rep.cell) by (board_seen s.view) =
      ap board_seen d.view_is ∙ one.board in
      let tally : counted_end e u ≡ counted (answer_to t c).command (answer_to t c).end u =
      ap (λ (x : StartEnd). counted_end x u) h.end_is ∙ ap (λ (x : Called). counted x.command x.end u) one.answer in
      λ i. sole_starts (rep i) (board i) (tally i)

  taken_leads : (wire : WireAt) (e : StartEnd) (h : IsStartTaken by now job wire s s' e) → IsFine e
      → IsOneDone h.answer
      → Leads s.view s'.view (starts_in s' (counted_end e u) ≡ taken_by line by job t (starts_in s u))
  taken_leads wire e h fine d = record {
    later = subst (IsLater s.view) (sym d.view_is) (later_ended by s.rep.cell
        (Some ends) t s.view h.answer d.m d.ended);
    holds = taken_holds wire e h fine d;
  }

  abbrev Due : Bool → StartEnd → Type 0
  Due lost e = starts_in s' (counted_end e u) ≡ cond lost (record (starts_in s u) { tally = lost_one u })
      (taken_by line by job t (starts_in s u))

  record IsStartDue (lost : Bool) (e : StartEnd) : Type 0 where
    still : IsOf line s'.wire
    cell : s'.rep.cell ≡ s.rep.cell
    store : HasStore s.rep.joined → HasStore s'.rep.joined
    leads : Leads s.view s'.view (Due lost e)

  start_if : (lost : Bool) (wire : WireAt) (e : StartEnd) → IsFine e → IsOf line wire
      → TakesIf (not lost) by now job wire s s' e → IsStartDue lost e
  start_if true wire e fine of h = record {
    still = ap (λ (x : WireAt). x.ends) h.wire_is ∙ of;
    cell = ap (λ (r : CellRep). r.cell) h.rep;
    store = λ k. subst (λ (r : CellRep). HasStore r.joined) (sym h.rep) k;
    leads = record {
      later = subst (IsLater s.view) (sym h.view) (later_same s.view);
      holds = λ q i. sole_starts (h.rep i) (board_seen (h.view i)) (counted_end (h.end_is i) u);
    };
  }
  start_if false wire e fine of h =
      let d = one_from wire e h fine of in
      record {
        still = d.still;
        cell = ap (λ (r : CellRep). r.cell) d.rep_is ∙ todo_cell t h.answer.end began ∙ job_cell job s.rep s.rep.joined;
        store = λ k. subst (λ (r : CellRep). HasStore r.joined) (sym d.rep_is)
            (todo_keeps t h.answer.end began (job_keeps job s.rep s.rep.joined k k));
        leads = taken_leads wire e h fine d;
      }

one_started : (line : RoundLine) (by : ℕ) (now : Moment) (x : Claimed) (s s' : Claiming) (u : Tally) → IsFine x.end
    → StartsOne by now x s s' → IsOf line s.wire
    → AreStartsAlone line by now (x.start.job ∷ []) s s' u (counted_end x.end u)
one_started line by now x s s' u fine h of =
    let job : Job = x.start.job in
    let sent = reached_started line s.rep.cell h.reached s.wire h.wire h.sent of in
    let due = start_if line by now job s s' u (is_among line.lose_start s.rep.cell) h.wire x.end fine sent.1
    (subst (λ (b : Bool). TakesIf b by now job h.wire s s' x.end) sent.0 h.takes) in
    record { still = due.still; cell = due.cell; store = due.store; leads = due.leads }

all_started : (line : RoundLine) (by : ℕ) (now : Moment) (xs : List Claimed) (s s' : Claiming) (u : Tally)
    → AreFine xs → Each (StartsOne by now) xs s s' → IsOf line s.wire
    → AreStartsAlone line by now (map job_of xs) s s' u (counted_all xs u)
all_started line by now [] s s' u fine f of =
    subst (λ (x : Claiming). AreStartsAlone line by now [] s x u u) (sym f) (record {
      still = of;
      cell = refl;
      store = λ k. k;
      leads = leads_same s.view (starts_in s u ≡ starts_in s u) refl;
    })
all_started line by now (x ∷ xs) s s' u fine f of =
    let w : Tally = counted_end x.end u in
    let w' : Tally = counted_all xs w in
    let jobs : List Job = map job_of xs in
    let one = one_started line by now x s f.0 u fine.0 f.1 of in
    let rest = all_started line by now xs f.0 s' w fine.1 f.2 one.still in
    let One : Type 0 = starts_in f.0 w ≡ start_alone line by now x.start.job (starts_in s u) in
    let Rest : Type 0 = starts_in s' w' ≡ starts_alone line by now jobs (starts_in f.0 w) in
    record {
      still = rest.still;
      cell = rest.cell ∙ one.cell;
      store = λ k. rest.store (one.store k);
      leads = leads_to s.view s'.view (One × Rest)
          (starts_in s' w' ≡ starts_alone line by now (x.start.job ∷ jobs) (starts_in s u))
          (leads_then s.view f.0.view s'.view One Rest one.leads rest.leads)
          (λ both. both.1 ∙ ap (starts_alone line by now jobs) both.0);
    }

-- by the jobs, and by what was counted
pub started_all : (line : RoundLine) (by : ℕ) (now : Moment) (jobs : List Job) (s s' : Claiming) (xs : List Claimed)
    (u u' : Tally) → Claims by now jobs s s' xs → AreFine xs → u' ≡ counted_all xs u → IsOf line s.wire
    → AreStartsAlone line by now jobs s s' u u'
started_all line by now jobs s s' xs u u' f fine counts of =
    subst (λ (x : Tally). AreStartsAlone line by now jobs s s' u x) (sym counts)
    (subst (λ js. AreStartsAlone line by now js s s' u (counted_all xs u)) (claims_jobs s.rep.cell xs jobs f.starts)
    (all_started line by now xs s s' u fine f.each of))
