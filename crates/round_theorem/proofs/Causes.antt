-- What a round lost was lost by the wire, or there was nothing to be had.
use Rattle.std.proofs.Common.{◌≡◌, ℕ, ◌+◌, ◌-◌, ◌≤◌, Bool, true, false, not, ◌||◌, List, [], ◌∷◌, length, Option, Some, None, Ok, Err, refl, sym, ap, subst, ◌∙◌, arith, inl, inr, ⊎_elim, length-append}
use Rattle.std.specs.List.{Contains}
use Rattle.std.specs.Option.{option_to_list}
use Rattle.byte_ports.specs.Cause.{Rose, HasCause}
use Rattle.cell_records.specs.declared.answer.Answer.{Answer}
use Rattle.cell_records.specs.declared.cell_row.CellRow.{CellRow}
use Rattle.cell_records.specs.declared.job.Job.{Job}
use Rattle.cell_rep.specs.Deliveries.{is_call_lost}
use Rattle.cell_rep.specs.Follows.{Stage, stage, IsStarted, is_any_lost, starved}
use Rattle.cell_rep.specs.Wires.{is_delivery_lost}
use Rattle.cell_rep.specs.declared.call_end.CallEnd.{CallEnd}
use Rattle.cell_rep.specs.declared.call_end.CallEnd.TheVariants.{Got, Fault, CallLost, ReplyLost, Local, Idle}
use Rattle.cell_rep.specs.declared.call_end.Called.{Called}
use Rattle.cell_rep.specs.declared.rep.CellRep.{CellRep}
use Rattle.cell_rep.specs.declared.wire.Delivery.{Delivery}
use Rattle.bbs_model.specs.declared.command.Command.{Command}
use Rattle.bbs_model.specs.declared.reply.Reply.{Reply}
use Rattle.cell_rep.specs.Ends.{without}
use Rattle.converge_laws.proofs.Public.{inside_first, inside_rest}
use Rattle.converge_round.specs.Askings.{HearsIf, Asking, AsksOne}
use Rattle.converge_round.specs.Each.{Each}
use Rattle.converge_round.specs.Phases.{Course, ServesOne}
use Rattle.converge_round.specs.Reps.{names_of}
use Rattle.converge_round.specs.Sendings.{WireAt}
use Rattle.converge_round.specs.Starts.{AreFine, Claiming, claiming, answered, counted, counted_all, counted_end, HasNoFault, IsFine, TakesIf, StartsOne}
use Rattle.converge_round.specs.Stops.{StopsIf, if_done, Stopped, StopsOne}
use Rattle.converge_round.specs.Tallies.{lost_one}
use Rattle.converge_round.specs.declared.claims.Claimed.{Claimed}
use Rattle.converge_round.specs.declared.claims.StartEnd.{StartEnd}
use Rattle.converge_round.specs.declared.placing.Places.{Places}
use Rattle.converge_round.specs.declared.tally.Tally.{Tally}
use Rattle.crash_backoff.specs.declared.moment.Moment.{Moment}
use Rattle.diego_names.specs.declared.instance.Instance.{Instance}
use Rattle.round_theorem.specs.Losses.{mute_if, mute_among, declined_end, declined_in, declined_on, declined_at, declined_among, RoseBy}
use Rattle.round_theorem.proofs.Losses.{lost_noted}
use Rattle.round_theorem.proofs.RepSets.{names_set}
use Rattle.round_theorem.proofs.StopsDone.{cell_stays}

abbrev Stray : Type 0
Stray = List ℕ × Instance

-- so many were lost on a wire, as far as its count tells, or were counted beside it
pub record AreLost (lost beside before now : ℕ) : Type 0 where
  pub wire : ℕ
  pub rose : RoseBy wire before now
  pub all : lost ≤ wire + beside

pub lost-then : (a b k l u v w : ℕ) → AreLost a k u v → AreLost b l v w → AreLost (a + b) (k + l) u w
lost-then a b k l u v w f g = record {
  wire = f.wire + g.wire;
  rose = omega (arith, f.rose, g.rose);
  all = omega (arith, f.all, g.all);
}

one_lost : (before now : ℕ) → Rose before now → AreLost 1 0 before now
one_lost before now rose = record { wire = 1; rose = omega (arith, rose); all = omega arith }

beside_one : (n before now : ℕ) → before ≤ now → AreLost n n before now
beside_one n before now later = record { wire = 0; rose = omega (arith, later); all = omega arith }

rose_unless : (b : Bool) (d : Delivery) (before now : ℕ) → b ≡ false → b ≡ not (is_delivery_lost d)
    → HasCause (is_delivery_lost d) before now → Rose before now
rose_unless b d before now fails is cause =
    elim (is_delivery_lost d) as (λ (x : Bool). is_delivery_lost d ≡ x → Rose before now) [
      | true ↦ λ e. cause.rose e
      | false ↦ λ e. let bad : false ≡ true = sym fails ∙ is ∙ ap not e in absurd cc
    ] refl

-- a question that brought no answer
silent_one : (cells : List CellRep) (cell : List ℕ) (epoch : ℕ) (b : Bool) (o : Option Answer) (d : Delivery)
    (before now : ℕ) → b ≡ not (is_delivery_lost d)
    → HasCause (is_delivery_lost d) before now → HearsIf b cells cell epoch o
    → AreLost (1 - length (option_to_list o)) (mute_if b o) before now
silent_one cells cell epoch true None d before now is cause h = beside_one 1 before now cause.later
silent_one cells cell epoch true (Some a) d before now is cause h = beside_one 0 before now cause.later
silent_one cells cell epoch false None d before now is cause h =
    one_lost before now (rose_unless false d before now refl is cause)
silent_one cells cell epoch false (Some a) d before now is cause h = absurd cc

pub asks-lost : (cells : List CellRep) (cs : List CellRow) (s t : Asking) (f : Each (AsksOne cells) cs s t)
    → AreLost ((length cs + length s.got) - length t.got) (mute_among cells cs s t f) s.wire.losses t.wire.losses
asks-lost cells [] s t f =
    record {
      wire = 0;
      rose = omega (arith, ap (λ (x : Asking). x.wire.losses) f);
      all =
          omega (arith, ap (λ (x : Asking). length x.got) f);
    }
asks-lost cells (c ∷ cs) s t f =
    let one = silent_one cells c.cell c.epoch f.1.asked.reached f.1.answer f.1.asked.sent.end s.wire.losses
    f.0.wire.losses f.1.asked.sent.is f.1.asked.sent.cause f.1.asked.heard in
    let rest = asks-lost cells cs f.0 t f.2 in
    let both = lost-then _ _ _ _ s.wire.losses f.0.wire.losses t.wire.losses one rest in
    record {
      wire = both.wire;
      rose = both.rose;
      all = omega (arith, both.all, ap length f.1.got, length-append s.got (option_to_list f.1.answer));
    }

-- a stop that wasn't done, on a cell that has a rep
missed_one : (reached done : Bool) (a : Stray) (reps reps' : List CellRep) (d : Delivery) (before now : ℕ)
    → Contains (names_of reps) a.0 → reached ≡ not (is_delivery_lost d)
    → HasCause (is_delivery_lost d) before now → StopsIf reached done a reps reps'
    → AreLost (1 - length (if_done done a)) 0 before now
missed_one true true a reps reps' d before now have is cause h = beside_one 0 before now cause.later
missed_one true false a reps reps' d before now have is cause h = absurd (h.0 have)
missed_one false true a reps reps' d before now have is cause h = absurd h
missed_one false false a reps reps' d before now have is cause h =
    one_lost before now (rose_unless false d before now refl is cause)

pub names_after : (reached done : Bool) (a : Stray) (reps reps' : List CellRep) → StopsIf reached done a reps reps'
    → names_of reps' ≡ names_of reps
names_after true true a reps reps' h = ap names_of h.is ∙ names_set reps h.place h.rep
    (without h.rep a.1) h.stands.within h.stands.is (cell_stays h.rep.cell a.1 h.rep.joined)
names_after true false a reps reps' h = ap names_of h.1
names_after false true a reps reps' h = absurd h
names_after false false a reps reps' h = ap names_of h

pub stops-lost : (strays : List Stray) (s t : Stopped)
    → ((a : Stray) → Contains strays a → Contains (names_of s.course.reps) a.0) → Each StopsOne strays s t
    → AreLost ((length strays + length s.stopped) - length t.stopped) 0 s.course.wire.losses t.course.wire.losses
stops-lost [] s t have f =
    record {
      wire = 0;
      rose = omega (arith, ap (λ (x : Stopped). x.course.wire.losses) f);
      all =
          omega (arith, ap (λ (x : Stopped). length x.stopped) f);
    }
stops-lost (a ∷ strays) s t have f =
    let one = missed_one f.1.stops.reached f.1.done a s.course.reps f.0.course.reps f.1.stops.sent.end
    s.course.wire.losses f.0.course.wire.losses (have a (inside_first a strays))
    f.1.stops.sent.is f.1.stops.sent.cause f.1.stops.stops in
    let names = names_after f.1.stops.reached f.1.done a s.course.reps f.0.course.reps f.1.stops.stops in
    let rest = stops-lost strays f.0 t (λ b inside. subst (λ ns. Contains ns b.0) (sym names)
    (have b (inside_rest b a strays inside))) f.2 in
    let both = lost-then _ _ _ _ s.course.wire.losses f.0.course.wire.losses t.course.wire.losses one rest in
    record {
      wire = both.wire;
      rose = both.rose;
      all = omega (arith, both.all, ap length f.1.stopped, length-append s.stopped (if_done f.1.done a));
    }

-- what the end of a start loses
answered_none : (o : Option Command) (r : Reply) (t : Tally) → (answered o r t).lost ≡ t.lost
answered_none None r t = refl
answered_none (Some c) r t = lost_noted c r t

by_end : (o : Option Command) (e : CallEnd) (t : Tally) (before now : ℕ) → HasNoFault e
    → HasCause (is_call_lost e) before now → AreLost ((counted o e t).lost - t.lost) (declined_end e) before now
by_end o (Got r) t before now fine cause = record {
  wire = 0;
  rose = omega (arith, cause.later);
  all =
      omega (arith, answered_none o r t);
}
by_end o (Fault why) t before now fine cause = absurd fine
by_end o CallLost t before now fine cause = record {
  wire = 1;
  rose = omega (arith, cause.rose refl);
  all =
      omega arith;
}
by_end o (ReplyLost (Ok r)) t before now fine cause = record
    { wire = 1; rose = omega (arith, cause.rose refl); all = omega (arith, answered_none o r (lost_one t)) }
by_end o (ReplyLost (Err why)) t before now fine cause = absurd fine
by_end o (Local why) t before now fine cause = record { wire = 0; rose = omega (arith, cause.later); all = omega arith }
by_end o Idle t before now fine cause = record { wire = 0; rose = omega (arith, cause.later); all = omega arith }

first_of : (x y : Called) → x ∷ [] ≡ y ∷ [] → x ≡ y
first_of x y e = cc

or_false : (b : Bool) → (b || false) ≡ b
or_false true = refl
or_false false = refl

any_of_one : (e : CallEnd) (before now : ℕ) → HasCause (is_call_lost e || false) before now
    → HasCause (is_call_lost e) before now
any_of_one e before now h = subst (λ (b : Bool). HasCause b before now) (or_false (is_call_lost e)) h

started_lost : (by : ℕ) (now : Moment) (job : Job) (wire : WireAt) (s s' : Claiming) (a : Called) (t : Tally)
    → HasNoFault a.end
    → IsStarted by job now (stage s.rep s.view wire.ends wire.losses [])
    (stage s'.rep s'.view s'.wire.ends s'.wire.losses (a ∷ []))
    → AreLost ((counted a.command a.end t).lost - t.lost) (declined_end a.end) wire.losses s'.wire.losses
started_lost by now job wire s s' a t fine h = ⊎_elim
    (λ p. by_end a.command a.end t wire.losses s'.wire.losses fine
    (any_of_one a.end wire.losses s'.wire.losses (subst (λ (xs : List Called).
    HasCause (is_any_lost xs) wire.losses s'.wire.losses) (sym p.out_is) p.cause)))
    (λ e. absurd (subst (λ (x : Called). HasNoFault x.end) (first_of a starved (ap (λ (x : Stage). x.out) e)) fine))
    h

start_if : (b : Bool) (by : ℕ) (now : Moment) (job : Job) (before : ℕ) (d : Delivery) (wire : WireAt)
    (s s' : Claiming) (e : StartEnd) (t : Tally) → IsFine e → TakesIf b by now job wire s s' e
    → b ≡ not (is_delivery_lost d) → HasCause (is_delivery_lost d) before wire.losses
    → AreLost ((counted_end e t).lost - t.lost) (declined_in e) before s'.wire.losses
start_if true by now job before d wire s s' e t fine h is cause =
    let went : AreLost 0 0 before wire.losses = beside_one 0 before wire.losses cause.later in
    let all = lost-then _ _ _ _ before wire.losses s'.wire.losses went
    (started_lost by now job wire s s' h.answer t (subst IsFine h.end_is fine) h.started) in
    subst (λ (x : StartEnd). AreLost ((counted_end x t).lost - t.lost) (declined_in x) before s'.wire.losses)
    (sym h.end_is) (record { wire = all.wire; rose = all.rose; all = omega (arith, all.all) })
start_if false by now job before d wire s s' e t fine h is cause =
    let rose = rose_unless false d before wire.losses refl is cause in
    subst (λ (x : StartEnd). AreLost ((counted_end x t).lost - t.lost) (declined_in x) before s'.wire.losses)
    (sym h.end_is)
    (record { wire = 1; rose = omega (arith, rose, ap (λ (w : WireAt). w.losses) h.wire_is); all = omega arith })

starts-lost : (by : ℕ) (now : Moment) (ends : List Claimed) (s s' : Claiming) (t : Tally) → AreFine ends
    → Each (StartsOne by now) ends s s'
    → AreLost ((counted_all ends t).lost - t.lost) (declined_on ends) s.wire.losses s'.wire.losses
starts-lost by now [] s s' t fine f =
    record { wire = 0; rose = omega (arith, ap (λ (x : Claiming). x.wire.losses) f); all = omega arith }
starts-lost by now (x ∷ ends) s s' t fine f =
    let one = start_if f.1.reached by now x.start.job s.wire.losses f.1.sent.end f.1.wire s f.0 x.end t fine.0
    f.1.takes f.1.sent.is f.1.sent.cause in
    let both = lost-then _ _ _ _ s.wire.losses f.0.wire.losses s'.wire.losses one
    (starts-lost by now ends f.0 s' (counted_end x.end t) fine.1 f.2) in
    record { wire = both.wire; rose = both.rose; all = omega (arith, both.all) }

serve_lost : (by : ℕ) (now : Moment) (p : Places) (x : Answer) (s s' : Course) (h : ServesOne by now p x s s')
    → AreLost (s'.tally.lost - s.tally.lost) (declined_at by now p x s s' h) s.wire.losses s'.wire.losses
serve_lost by now p x s s' (inl c) =
    subst (λ (t : Tally). AreLost (t.lost - s.tally.lost) (declined_on c.ends) s.wire.losses s'.wire.losses)
    (sym c.counts)
    (starts-lost by now c.ends (claiming c.rep s.view s.wire) (claiming c.after s'.view s'.wire) s.tally c.fine
    c.claims.each)
serve_lost by now p x s s' (inr e) =
    record {
      wire = 0;
      rose = omega (arith, ap (λ (y : Course). y.wire.losses) e.1);
      all =
          omega (arith, ap (λ (y : Course). y.tally.lost) e.1);
    }

pub serves-lost : (by : ℕ) (now : Moment) (p : Places) (xs : List Answer) (s s' : Course)
    (f : Each (ServesOne by now p) xs s s')
    → AreLost (s'.tally.lost - s.tally.lost) (declined_among by now p xs s s' f) s.wire.losses s'.wire.losses
serves-lost by now p [] s s' f =
    record {
      wire = 0;
      rose = omega (arith, ap (λ (y : Course). y.wire.losses) f);
      all =
          omega (arith, ap (λ (y : Course). y.tally.lost) f);
    }
serves-lost by now p (x ∷ xs) s s' f =
    let both = lost-then _ _ _ _ s.wire.losses f.0.wire.losses s'.wire.losses (serve_lost by now p x s f.0 f.1)
    (serves-lost by now p xs f.0 s' f.2) in
    record { wire = both.wire; rose = both.rose; all = omega (arith, both.all) }
