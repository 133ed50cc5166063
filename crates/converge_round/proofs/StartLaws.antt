-- What the start of a job does to the board and to its cell.
use Rattle.std.proofs.Common.{◌≡◌, ℕ, ◌+◌, ◌<◌, Bool, true, false, List, [], ◌∷◌, ◌++◌, length, map, get_or, take, Option, Some, None, Result, Ok, Err, refl, sym, ap, subst, ◌∙◌, ⊎_elim}
use Rattle.std.specs.List.{Contains}
use Rattle.std.proofs.lemmas.List.{map-append, take_more}
use Rattle.std.proofs.lemmas.List.Elements.{Contains-get_or}
use Rattle.bbs_model.specs.PortView.{PortView}
use Rattle.bbs_model.specs.declared.command.Command.{Command}
use Rattle.cell_records.specs.declared.job.Job.{Job}
use Rattle.cell_rep.specs.Acts.{claim_op, claim_todo, job_claim, job_todo}
use Rattle.cell_rep.specs.Claims.{Claimed as Room}
use Rattle.cell_rep.specs.Deliveries.{IsDelivered}
use Rattle.cell_rep.specs.Follows.{Stage, stage, Follows, IsStarted, EndsOf}
use Rattle.cell_rep.specs.Wires.{WireEnds}
use Rattle.cell_rep.specs.declared.call_end.CallEnd.{CallEnd}
use Rattle.cell_rep.specs.declared.call_end.CallEnd.TheVariants.{Got, Fault, CallLost, ReplyLost, Local, Idle}
use Rattle.cell_rep.specs.declared.call_end.Called.{Called}
use Rattle.cell_rep.specs.declared.joined.Joined.{Joined}
use Rattle.cell_rep.specs.declared.rep.CellRep.{CellRep}
use Rattle.cell_rep.specs.declared.todo.Todo.{Todo}
use Rattle.cell_rep.specs.declared.todo.Todo.TheVariants as todo
use Rattle.container_store.specs.declared.refusal.StoreRefusal.{StoreRefusal}
use Rattle.crash_backoff.specs.declared.moment.Moment.{Moment}
use Rattle.cell_rep.proofs.Public.{keeps_started}
use Rattle.converge_round.specs.Callings.{AreOf}
use Rattle.cell_records.specs.declared.answer.Answer.{Answer}
use Rattle.converge_round.specs.Phases.{IsClaimFor}
use Rattle.converge_round.specs.Places.{jobs_on}
use Rattle.converge_round.specs.Reps.{SameRep}
use Rattle.converge_round.specs.declared.placing.Places.{Places}
use Rattle.converge_round.specs.Each.{Each}
use Rattle.converge_round.specs.Sendings.{WireAt}
use Rattle.converge_round.specs.Starts.{IsClaim, IsClaimOfOne, Claiming, TakesIf, StartsOne, Claims, AddsStart, IsFine, AreFine, job_of, start_on}
use Rattle.converge_round.specs.declared.claims.Claimed.{Claimed}
use Rattle.converge_round.specs.declared.claims.Start.{Start}
use Rattle.converge_round.specs.declared.claims.StartEnd.{StartEnd}
use Rattle.converge_round.proofs.Eachs.{each-append}
use Rattle.converge_round.proofs.Owns.{own_as, own_called, own_weaker}

-- a claim of a job is one of a list that has it, on the same cell
pub claim_of_one : (now : Moment) (cell cell' : List ℕ) (list : List Job) (k : ℕ) (job : Job) → cell' ≡ cell
    → k < length list → job ≡ get_or list k job
    → (c : Command) → IsClaim now cell' job c → IsClaimOfOne now cell list c
claim_of_one now cell cell' list k job same within read c h =
    (job, subst (Contains list) (sym read) (Contains-get_or list k job within), subst (λ n. IsClaim now n job c) same h)

-- a claim on one of the cells is one of all
pub claim_for_one : (now : Moment) (p : Places) (k : ℕ) (x : Answer) → k < length p.roomy → x ≡ get_or p.roomy k x
    → (c : Command) → IsClaimOfOne now x.cell (jobs_on p.rows p.placements x.cell) c → IsClaimFor now p p.roomy c
claim_for_one now p k x within read c h = (
  x,
  subst (Contains p.roomy) (sym read) (Contains-get_or p.roomy k x within),
  h,
)

-- what one call over a wire did is of its command
own_delivered : (by : ℕ) (v : PortView) (c : Command) (e : CallEnd) (w : PortView) → IsDelivered by v c e w
    → AreOf by (λ x. x ≡ c) v w
own_delivered by v c (Got r) w h = own_called by v c (Ok r) w h
own_delivered by v c (Fault why) w h = own_called by v c (Err why) w h
own_delivered by v c CallLost w h = own_as by (λ x. x ≡ c) v w h
own_delivered by v c (ReplyLost answer) w h = own_called by v c answer w h
own_delivered by v c (Local why) w h = absurd h
own_delivered by v c Idle w h = absurd h

-- what was to be done is a claim of the job, or nothing
abbrev IsJobTodo : Moment → List ℕ → Job → Todo → Type 0
IsJobTodo now cell job (todo.Call c) = IsClaim now cell job c
IsJobTodo now cell job todo.Idle = Unit {0}
IsJobTodo now cell job (todo.Local why) = Unit {0}

claims_todo : (now : Moment) (cell : List ℕ) (job : Job) (r : Result Room StoreRefusal)
    → IsJobTodo now cell job (claim_todo now (λ x. claim_op cell job.job x.instance) r)
claims_todo now cell job (Ok p) = (p.1.instance, refl)
claims_todo now cell job (Err why) = tt

todo_of_job : (now : Moment) (cell : List ℕ) (job : Job) (o : Option Joined)
    → IsJobTodo now cell job (job_todo job now cell o)
todo_of_job now cell job None = tt
todo_of_job now cell job (Some j) = claims_todo now cell job (job_claim job j.store)

own_todo : (by : ℕ) (now : Moment) (cell : List ℕ) (job : Job) (ends : Option WireEnds) (t : Todo) (v w : PortView)
    (a : Called)
    → IsJobTodo now cell job t → EndsOf by cell ends t v a w → AreOf by (IsClaim now cell job) v w
own_todo by now cell job ends (todo.Call c) v w a is h =
    own_weaker by (λ x. x ≡ c) (IsClaim now cell job) v w (λ x e. subst (IsClaim now cell job) (sym e) is)
    (own_delivered by v c a.end w h.1)
own_todo by now cell job ends todo.Idle v w a is h = own_as by (IsClaim now cell job) v w h
own_todo by now cell job ends (todo.Local why) v w a is h = own_as by (IsClaim now cell job) v w h

own_follows : (by : ℕ) (now : Moment) (cell : List ℕ) (job : Job) (ends : Option WireEnds) (t : Todo)
    (rep rep' : CellRep) (v w : PortView) (out : List Called)
    → IsJobTodo now cell job t → Follows by cell ends (t ∷ []) rep v out rep' w → AreOf by (IsClaim now cell job) v w
own_follows by now cell job ends t rep rep' v w [] is h = absurd h
own_follows by now cell job ends t rep rep' v w (a ∷ []) is h =
    subst (AreOf by (IsClaim now cell job) v) (sym h.3.1) (own_todo by now cell job ends t v h.0 a is h.2)
own_follows by now cell job ends t rep rep' v w (a ∷ b ∷ rest) is h = absurd h.3

-- what a start did is a claim of its job
pub own_started : (by : ℕ) (job : Job) (now : Moment) (s s' : Stage) → IsStarted by job now s s'
    → AreOf by (IsClaim now s.rep.cell job) s.view s'.view
own_started by job now s s' h = ⊎_elim
    (λ p. own_follows by now s.rep.cell job s.ends (job_todo job now s.rep.cell s.rep.joined) _ s'.rep s.view s'.view
    p.new (todo_of_job now s.rep.cell job s.rep.joined) p.follows)
    (λ e. own_as by (IsClaim now s.rep.cell job) s.view s'.view (ap (λ (x : Stage). x.view) e))
    h

pub rep_started : (by : ℕ) (job : Job) (now : Moment) (s s' : Stage) → s'.rep.cell ≡ s.rep.cell
    → IsStarted by job now s s' → SameRep s.rep s'.rep
rep_started by job now s s' same h = record { cell = same; joined = keeps_started by job now s s' h }

own_if : (b : Bool) (by : ℕ) (now : Moment) (job : Job) (wire : WireAt) (s s' : Claiming) (e : StartEnd)
    → TakesIf b by now job wire s s' e → AreOf by (IsClaim now s.rep.cell job) s.view s'.view
own_if true by now job wire s s' e h = own_started by job now (stage s.rep s.view wire.ends wire.losses [])
    (stage s'.rep s'.view s'.wire.ends s'.wire.losses (h.answer ∷ [])) h.started
own_if false by now job wire s s' e h = own_as by (IsClaim now s.rep.cell job) s.view s'.view h.view

-- the same of what came of that start
pub own_one : (by : ℕ) (now : Moment) (start : Start) (x : Claimed) (s s' : Claiming) → x.start ≡ start
    → StartsOne by now x s s' → AreOf by (IsClaim now s.rep.cell start.job) s.view s'.view
own_one by now start x s s' is h =
    subst (λ (y : Start). AreOf by (IsClaim now s.rep.cell y.job) s.view s'.view) is
    (own_if h.reached by now x.start.job h.wire s s' x.end h.takes)

abbrev start_of : Claimed → Start
start_of x = x.start

-- one start more
pub claims_more : (by by' : ℕ) (now : Moment) (jobs : List Job) (k : ℕ) (job : Job) (s m t : Claiming)
    (ends ends' : List Claimed) → by' ≡ by → m.rep.cell ≡ s.rep.cell → k < length jobs → job ≡ get_or jobs k job
    → Claims by now (take k jobs) s m ends → AddsStart by' now job m t ends ends'
    → Claims by now (take (k + 1) jobs) s t ends'
claims_more by by' now jobs k job s m t ends ends' same cells within read f h = record {
  starts =
      let more : take (k + 1) jobs ≡ take k jobs ++ job ∷ [] = take_more jobs k job within ∙ ap
      (λ y. take k jobs ++ y ∷ []) (sym read) in
      ap (map start_of) h.more ∙ map-append start_of ends (h.one ∷ [])
      ∙ ap (λ (x : Start). map start_of ends ++ x ∷ []) (h.start ∙ ap (λ cell. start_on cell job) cells)
      ∙ ap (λ xs. xs ++ start_on s.rep.cell job ∷ []) f.starts
      ∙ sym (ap (map (start_on s.rep.cell)) more ∙ map-append (start_on s.rep.cell) (take k jobs) (job ∷ []));
  each = subst (λ xs. Each (StartsOne by now) xs s t) (sym h.more)
      (each-append (StartsOne by now) ends (h.one ∷ []) s m t f.each
      (t, subst (λ n. StartsOne n now h.one m t) same h.starts, refl));
}

fine_then : (xs : List Claimed) (x : Claimed) → AreFine xs → IsFine x.end → AreFine (xs ++ x ∷ [])
fine_then [] x f h = (h, tt)
fine_then (y ∷ xs) x f h = (f.0, fine_then xs x f.1 h)

-- and no fault came of it
pub fine_more : (by : ℕ) (now : Moment) (job : Job) (m t : Claiming) (ends ends' : List Claimed) → AreFine ends
    → AddsStart by now job m t ends ends' → AreFine ends'
fine_more by now job m t ends ends' f h = subst AreFine (sym h.more) (fine_then ends h.one f h.fine)

-- the jobs of what came of starts
pub claims_jobs : (cell : List ℕ) (ends : List Claimed) (jobs : List Job)
    → map start_of ends ≡ map (start_on cell) jobs → map job_of ends ≡ jobs
claims_jobs cell [] [] e = refl
claims_jobs cell [] (job ∷ jobs) e = absurd cc
claims_jobs cell (x ∷ ends) [] e = absurd cc
claims_jobs cell (x ∷ ends) (job ∷ jobs) e =
    let first : x.start ≡ start_on cell job = cc in
    let rest : map start_of ends ≡ map (start_on cell) jobs = cc in
    ap (λ (y : Start). y.job ∷ map job_of ends) first ∙ ap (λ xs. job ∷ xs) (claims_jobs cell ends jobs rest)
