-- How many starts are lost over a wire whose ends don't depend on their number.
use Rattle.std.proofs.Common.{◌≡◌, ℕ, ◌+◌, ◌-◌, ◌^◌, ◌≤◌, min, Bool, true, false, not, cond, ◌&&◌, List, [], ◌∷◌, length, map, sum_by, Option, Some, None, Ok, Err, refl, sym, ap, subst, ◌∙◌, arith, inl, inr, ⊎_elim}
use Rattle.std.specs.List.{Contains}
use Rattle.std.proofs.lemmas.List.{length-map}
use Rattle.std.proofs.lemmas.List.Sums.{sum_by-cons}
use Rattle.auctioneer.specs.Stands.{less}
use Rattle.bbs_model.specs.declared.command.Command.{Command}
use Rattle.bbs_model.specs.declared.reply.Reply.{Reply}
use Rattle.cell_records.specs.declared.amounts.Amounts.{Amounts}
use Rattle.cell_records.specs.declared.answer.Answer.{Answer}
use Rattle.cell_records.specs.declared.job.Job.{Job}
use Rattle.cell_rep.specs.Acts.{job_todo}
use Rattle.cell_rep.specs.Deliveries.{EndFits}
use Rattle.cell_rep.specs.Follows.{Stage, stage, IsStarted, starved}
use Rattle.cell_rep.specs.Wires.{WireEnds, is_delivery_lost}
use Rattle.cell_rep.specs.declared.call_end.CallEnd.{CallEnd}
use Rattle.cell_rep.specs.declared.call_end.CallEnd.TheVariants.{Got, Fault, CallLost, ReplyLost, Local, Idle}
use Rattle.cell_rep.specs.declared.call_end.Called.{Called}
use Rattle.cell_rep.specs.declared.wire.CallKind.TheVariants.{Start, Board}
use Rattle.cell_rep.specs.declared.wire.Delivery.{Delivery}
use Rattle.converge_laws.proofs.Public.{inside_first, inside_rest, inside_map}
use Rattle.converge_round.specs.Each.{Each}
use Rattle.converge_round.specs.Phases.{Course, ServesOne}
use Rattle.converge_round.specs.Places.{jobs_on}
use Rattle.converge_round.specs.Reps.{names_of}
use Rattle.converge_round.specs.Sendings.{WireAt}
use Rattle.converge_round.specs.Starts.{AreFine, Claiming, Claims, claiming, answered, counted, counted_all, counted_end, HasNoFault, IsFine, TakesIf, StartsOne, job_of}
use Rattle.converge_round.specs.Tallies.{lost_one}
use Rattle.converge_round.specs.declared.claims.Claimed.{Claimed}
use Rattle.converge_round.specs.declared.claims.StartEnd.{StartEnd}
use Rattle.converge_round.specs.declared.placing.Places.{Places}
use Rattle.converge_round.specs.declared.tally.Tally.{Tally}
use Rattle.converge_round.proofs.Public.{claims_jobs}
use Rattle.crash_backoff.specs.declared.moment.Moment.{Moment}
use Rattle.round_theorem.specs.Losses.{declined_end}
use Rattle.round_theorem.proofs.Public.{Differ, lost_noted, names_set}
use Rattle.round_completeness.specs.Ends.{gets_through, starts_lost}
use Rattle.round_completeness.specs.Rooms.{FindsRoom, AllFindRoom}
use Rattle.round_completeness.proofs.CellsFit.{HasAnswered, serve_fits}
use Rattle.round_completeness.proofs.StartsFit.{fits_started, fits_if, starts-fit}
use Rattle.round_completeness.proofs.Stores.{IsFree}
use Rattle.round_completeness.proofs.Telling.{Tells, sent_so, tells_moved, fits_told}

-- a count of 64 bits has risen by so much, up to its last value
pub record IsCounted (n before after : ℕ) : Type 0 where
  pub is : before ≤ 2 ^ 64 - 1 → after ≡ min (n + before) (2 ^ 64 - 1)

counted_none : (a b : ℕ) → b ≡ a → IsCounted 0 a b
counted_none a b e = record { is = λ few. omega (arith, e, few) }

counted_one : (a b : ℕ) → b ≡ min (a + 1) (2 ^ 64 - 1) → IsCounted 1 a b
counted_one a b e = record { is = λ few. omega (arith, e) }

counted_then : (n m a b c : ℕ) → IsCounted n a b → IsCounted m b c → IsCounted (n + m) a c
counted_then n m a b c f g = record {
  is = λ few.
      let first = f.is few in
      let second = g.is (omega (arith, first)) in
      omega (arith, first, second, few);
}

answered_lost : (o : Option Command) (r : Reply) (t : Tally) → (answered o r t).lost ≡ t.lost
answered_lost None r t = refl
answered_lost (Some c) r t = lost_noted c r t

-- one, if a delivery was lost
abbrev one_if : Delivery → ℕ
one_if d = cond (not (is_delivery_lost d)) 0 1

end_counted : (o : Option Command) (e : CallEnd) (t : Tally) (d : Delivery) → HasNoFault e → declined_end e ≡ 0
    → EndFits (Some d) e
    → IsCounted (one_if d) t.lost (counted o e t).lost
end_counted o (Got r) t d fine calls fits =
    subst (λ (x : Delivery). IsCounted (one_if x) t.lost (counted o (Got r) t).lost) (sym fits)
    (counted_none t.lost (answered o r t).lost (answered_lost o r t))
end_counted o (Fault why) t d fine calls fits = absurd fine
end_counted o CallLost t d fine calls fits =
    subst (λ (x : Delivery). IsCounted (one_if x) t.lost (counted o CallLost t).lost) (sym fits)
    (counted_one t.lost (lost_one t).lost refl)
end_counted o (ReplyLost (Ok r)) t d fine calls fits =
    subst (λ (x : Delivery). IsCounted (one_if x) t.lost (counted o (ReplyLost (Ok r)) t).lost) (sym fits)
    (counted_one t.lost (answered o r (lost_one t)).lost (answered_lost o r (lost_one t)))
end_counted o (ReplyLost (Err why)) t d fine calls fits = absurd fine
end_counted o (Local why) t d fine calls fits = absurd cc
end_counted o Idle t d fine calls fits = absurd cc

-- one, unless a start and its claim get through
abbrev one_unless : WireEnds → List ℕ → Bool → ℕ
one_unless ends cell b = cond (b && gets_through ends cell Board) 0 1

first_of : (x y : Called) → x ∷ [] ≡ y ∷ [] → x ≡ y
first_of x y e = cc

tells_started : (ends : WireEnds) (by : ℕ) (now : Moment) (job : Job) (w : WireAt) (s s' : Claiming) (a : Called)
    → HasNoFault a.end
    → Tells ends w.ends
    → IsStarted by job now (stage s.rep s.view w.ends w.losses [])
    (stage s'.rep s'.view s'.wire.ends s'.wire.losses (a ∷ []))
    → Tells ends s'.wire.ends
tells_started ends by now job w s s' a ended tells h = ⊎_elim
    (λ p. subst (Tells ends) (sym p.ends_are) (tells_moved ends
    (job_todo job now s.rep.cell s.rep.joined) w.ends tells))
    (λ e. absurd (subst (λ (x : Called). HasNoFault x.end) (first_of a starved (ap (λ (x : Stage). x.out) e)) ended))
    h

start_counted : (ends : WireEnds) (b : Bool) (by : ℕ) (now : Moment) (job : Job) (w : WireAt) (s s' : Claiming)
    (e : StartEnd) (t : Tally) → IsFine e → TakesIf b by now job w s s' e → (free : Amounts) → FindsRoom free job
    → IsFree free s.rep.joined → Tells ends w.ends
    → IsCounted (one_unless ends s.rep.cell b) t.lost (counted_end e t).lost × Tells ends s'.wire.ends
start_counted ends true by now job w s s' e t fine h free room is tells =
    let ended : HasNoFault h.answer.end = subst IsFine h.end_is fine in
    let f = fits_started by now job s s' w h.answer ended free room is h.started in
    let d = ends (record { actor = s.rep.cell; kind = Board }) 0 in (
      subst (λ (x : StartEnd). IsCounted (one_if d) t.lost (counted_end x t).lost) (sym h.end_is)
          (end_counted h.answer.command h.answer.end t d ended f.calls
          (fits_told ends w.ends s.rep.cell h.answer.end tells f.fits)),
      tells_started ends by now job w s s' h.answer ended tells h.started,
    )
start_counted ends false by now job w s s' e t fine h free room is tells = (
  counted_one t.lost (counted_end e t).lost (ap (λ (x : StartEnd). (counted_end x t).lost) h.end_is),
  subst (λ (x : WireAt). Tells ends x.ends) (sym h.wire_is) tells,
)

-- so many, unless they get through
abbrev all_unless : WireEnds → List ℕ → ℕ → ℕ
all_unless ends cell n = cond (gets_through ends cell Start && gets_through ends cell Board) 0 n

one_more_of : (b : Bool) (n : ℕ) → cond b 0 1 + cond b 0 n ≡ cond b 0 (n + 1)
one_more_of true n = refl
one_more_of false n = omega arith

none_of : (b : Bool) → ◌≡◌ {A = ℕ} (cond b 0 0) 0
none_of true = refl
none_of false = refl

starts_counted : (ends : WireEnds) (cell : List ℕ) (by : ℕ) (now : Moment) (xs : List Claimed) (s s' : Claiming)
    (t : Tally) → AreFine xs → Each (StartsOne by now) xs s s' → (free : Amounts) → AllFindRoom free (map job_of xs)
    → IsFree free s.rep.joined → s.rep.cell ≡ cell → Tells ends s.wire.ends
    → IsCounted (all_unless ends cell (length xs)) t.lost (counted_all xs t).lost × Tells ends s'.wire.ends
starts_counted ends cell by now [] s s' t fine f free room is names tells = (
  subst (λ (n : ℕ). IsCounted n t.lost t.lost)
      (sym (none_of (gets_through ends cell Start && gets_through ends cell Board)))
      (counted_none t.lost t.lost refl),
  subst (λ (x : Claiming). Tells ends x.wire.ends) (sym f) tells,
)
starts_counted ends cell by now (x ∷ xs) s s' t fine f free room is names tells =
    let job : Job = x.start.job in
    let u : Tally = counted_end x.end t in
    let w = sent_so ends s.rep.cell Start f.1.reached s.wire f.1.wire tells f.1.sent in
    let fit = fits_if f.1.reached by now job f.1.wire s f.0 x.end fine.0 f.1.takes free room.0 is in
    let one = start_counted ends f.1.reached by now job f.1.wire s f.0 x.end t fine.0 f.1.takes free room.0 is w.1 in
    let here : IsCounted (all_unless ends cell 1) t.lost u.lost =
    subst (λ (c : List ℕ). IsCounted (all_unless ends c 1) t.lost u.lost) names
    (subst (λ (b : Bool). IsCounted (one_unless ends s.rep.cell b) t.lost u.lost) w.0 one.0) in
    let rest = starts_counted ends cell by now xs f.0 s' u fine.1 f.2 (less free job) room.1 fit.1.free_is
    (fit.1.cell_is ∙ names) one.1 in (
      subst (λ (n : ℕ). IsCounted n t.lost (counted_all xs u).lost)
          (one_more_of (gets_through ends cell Start && gets_through ends cell Board) (length xs) ∙ ap
          (all_unless ends cell) (omega arith))
          (counted_then (all_unless ends cell 1) (all_unless ends cell (length xs)) t.lost u.lost
          (counted_all xs u).lost here
          rest.0),
      rest.1,
    )

-- the same by the jobs, and by what was counted
counted_starts : (ends : WireEnds) (cell : List ℕ) (by : ℕ) (now : Moment) (jobs : List Job) (s s' : Claiming)
    (xs : List Claimed) (t t' : Tally) → Claims by now jobs s s' xs → AreFine xs → t' ≡ counted_all xs t
    → (free : Amounts) → AllFindRoom free jobs → IsFree free s.rep.joined → s.rep.cell ≡ cell → Tells ends s.wire.ends
    → IsCounted (all_unless ends cell (length jobs)) t.lost t'.lost × Tells ends s'.wire.ends
counted_starts ends cell by now jobs s s' xs t t' f fine counts free room is names tells =
    let are : map job_of xs ≡ jobs = claims_jobs s.rep.cell xs jobs f.starts in
    let all = starts_counted ends cell by now xs s s' t fine f.each free (subst (AllFindRoom free) (sym are) room) is
    names tells in (
      subst (λ (n : ℕ). IsCounted (all_unless ends cell n) t.lost t'.lost)
          (sym (length-map xs job_of) ∙ ap (λ (js : List Job). length js) are)
          (subst (λ (x : Tally). IsCounted (all_unless ends cell (length xs)) t.lost x.lost) (sym counts) all.0),
      all.1,
    )

-- a cell is served
record IsServedSo (ends : WireEnds) (n : ℕ) (s m : Course) : Type 0 where
  counts : IsCounted n s.tally.lost m.tally.lost
  tells : Tells ends m.wire.ends
  names : names_of m.reps ≡ names_of s.reps

serve_counted : (ends : WireEnds) (by : ℕ) (now : Moment) (p : Places) (x : Answer) (s m : Course)
    → ServesOne by now p x s m
    → Contains (names_of s.reps) x.cell → HasAnswered s.reps x
    → AllFindRoom x.free (jobs_on p.rows p.placements x.cell) → Tells ends s.wire.ends
    → IsServedSo ends (starts_lost ends p x) s m
serve_counted ends by now p x s m (inl c) have has room tells =
    let jobs = jobs_on p.rows p.placements x.cell in
    let from = claiming c.rep s.view s.wire in
    let to = claiming c.after m.view m.wire in
    let free = has c.place c.rep c.stands in
    let all = counted_starts ends x.cell by now jobs from to c.ends s.tally m.tally c.claims c.fine c.counts x.free room
    free c.stands.cell_is tells in
    let cells = starts-fit by now jobs from to c.ends c.claims c.fine x.free room free in
    record {
      counts = all.0;
      tells = all.1;
      names = ap names_of c.reps_are ∙ names_set s.reps c.place c.rep c.after c.stands.within c.stands.is cells.1;
    }
serve_counted ends by now p x s m (inr none) have has room tells = absurd (none.0 have)

pub record AreServedSo (ends : WireEnds) (n : ℕ) (s s' : Course) : Type 0 where
  pub counts : IsCounted n s.tally.lost s'.tally.lost

pub serves-so : (ends : WireEnds) (by : ℕ) (now : Moment) (p : Places) (xs : List Answer) (s s' : Course)
    → Each (ServesOne by now p) xs s s' → Differ (map (λ (x : Answer). x.cell) xs)
    → ((x : Answer) → Contains xs x → Contains (names_of s.reps) x.cell)
    → ((x : Answer) → Contains xs x → HasAnswered s.reps x)
    → ((x : Answer) → Contains xs x → AllFindRoom x.free (jobs_on p.rows p.placements x.cell)) → Tells ends s.wire.ends
    → AreServedSo ends (sum_by (starts_lost ends p) xs) s s'
serves-so ends by now p [] s s' f differ have has room tells =
    record { counts = counted_none s.tally.lost s'.tally.lost (ap (λ (x : Course). x.tally.lost) f) }
serves-so ends by now p (x ∷ xs) s s' f differ have has room tells =
    let first = inside_first x xs in
    let one = serve_counted ends by now p x s f.0 f.1 (have x first) (has x first) (room x first) tells in
    let fits = serve_fits by now p x s f.0 f.1 (has x first) (room x first) in
    let rest = serves-so ends by now p xs f.0 s' f.2 differ.1
    (λ y inside. subst (λ ns. Contains ns y.cell) (sym one.names) (have y (inside_rest y x xs inside)))
    (λ y inside. fits.1 y (differ.0 y.cell (inside_map (λ (z : Answer). z.cell) xs y inside))
    (has y (inside_rest y x xs inside)))
    (λ y inside. room y (inside_rest y x xs inside)) one.tells in
    let both = counted_then (starts_lost ends p x) (sum_by (starts_lost ends p) xs) s.tally.lost f.0.tally.lost
    s'.tally.lost one.counts
    rest.counts in
    record {
      counts = subst (λ (n : ℕ). IsCounted n s.tally.lost s'.tally.lost)
          (sym (sum_by-cons (starts_lost ends p) x xs)) both;
    }
