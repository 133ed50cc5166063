-- The claims of all cells that had replies.
use Rattle.std.proofs.Common.{◌≡◌, ℕ, ◌+◌, ◌-◌, ◌≤◌, ◌^◌, min, List, [], ◌∷◌, ◌++◌, refl, sym, ap, subst, ◌∙◌, arith, ⊎_elim, zero, suc, ◌<◌, length, get_or, set}
use Rattle.std.specs.List.{Contains}
use Rattle.std.proofs.lemmas.List.Elements.{Contains-append_cases}
use Rattle.cell_rep.specs.Laws.{SameJoined}
use Rattle.bbs_model.specs.declared.command.Command.{Command}
use Rattle.cell_records.specs.declared.answer.Answer.{Answer}
use Rattle.cell_rep.specs.declared.rep.CellRep.{CellRep}
use Rattle.converge_laws.proofs.Public.{inside_first, inside_rest}
use Rattle.converge_round.specs.Each.{Each}
use Rattle.converge_round.specs.Phases.{Course, ClaimsAt, ServesOne}
use Rattle.converge_round.specs.Places.{jobs_on}
use Rattle.converge_round.specs.Reps.{names_of}
use Rattle.converge_round.specs.Starts.{claiming}
use Rattle.converge_round.specs.declared.placing.Places.{Places}
use Rattle.crash_backoff.specs.declared.moment.Moment.{Moment}
use Rattle.round_theorem.specs.Alone.{AreClaims}
use Rattle.round_theorem.proofs.CellsServed.{each_append}
use Rattle.round_theorem.proofs.Had.{had, IsHad}
use Rattle.round_theorem.proofs.RepSets.{names_set}
use Rattle.round_theorem.proofs.Starts.{in_course}
use Rattle.round_theorem.proofs.StartTraces.{HasEpoch, epoch_kept, IsClaimUnder}
use Rattle.round_theorem.proofs.StartsHad.{AreStartsHad, had-starts}

-- each rep of the cell has the epoch of that answer
abbrev pub IsReady : Answer → List CellRep → Type 0
IsReady x [] = Unit {0}
IsReady x (r ∷ rs) = (r.cell ≡ x.cell → HasEpoch x.epoch r.joined) × IsReady x rs

ready_at : (x : Answer) (reps : List CellRep) (at : ℕ) (r : CellRep) → IsReady x reps → at < length reps
    → r ≡ get_or reps at r → r.cell ≡ x.cell → HasEpoch x.epoch r.joined
ready_at x [] at r h within is same = absurd (omega arith)
ready_at x (q ∷ reps) zero r h within is same = subst (λ (y : CellRep). HasEpoch x.epoch y.joined) (sym is)
    (h.0 (sym (ap (λ (y : CellRep). y.cell) is) ∙ same))
ready_at x (q ∷ reps) (suc k) r h within is same = ready_at x reps k r h.1 (omega arith) is same

ready_set : (x : Answer) (reps : List CellRep) (at : ℕ) (r q : CellRep) → IsReady x reps → at < length reps
    → r ≡ get_or reps at r → q.cell ≡ r.cell → SameJoined r.joined q.joined → IsReady x (set reps at q)
ready_set x [] at r q h within is same joins = absurd (omega arith)
ready_set x (y ∷ reps) zero r q h within is same joins = (
  λ named. epoch_kept x.epoch r.joined q.joined joins (subst (λ (z : CellRep). HasEpoch x.epoch z.joined) (sym is)
      (h.0 (sym (ap (λ (z : CellRep). z.cell) is) ∙ sym same ∙ named))),
  h.1,
)
ready_set x (y ∷ reps) (suc k) r q h within is same joins =
    (h.0, ready_set x reps k r q h.1 (omega arith) is same joins)

-- the claims of the jobs of these cells that had replies
pub record AreServesHad (by : ℕ) (now : Moment) (p : Places) (xs : List Answer) (s s' : Course) : Type 0 where
  pub missing : ℕ
  pub claims : List Command
  pub are : AreClaims now p.rows p.placements xs missing claims
  pub calls : Each (IsHad by) claims (had (in_course s)) (had (in_course s'))
  pub lost : min (missing + s.tally.lost) (2 ^ 64 - 1) ≤ s'.tally.lost
  pub under : ((x : Answer) → Contains xs x → IsReady x s.reps) → (c : Command) → Contains claims c
      → (x : Answer) × Contains xs x × IsClaimUnder now x.cell x.epoch c

module _ (by : ℕ) (now : Moment) (p : Places) (x : Answer) (xs : List Answer) (s m s' : Course)
    (h : ClaimsAt by now x.cell (jobs_on p.rows p.placements x.cell) s m) where
  abbrev one : AreStartsHad by now x.cell (jobs_on p.rows p.placements x.cell) (claiming h.rep s.view s.wire)
      (claiming h.after m.view m.wire) s.tally m.tally
  one = had-starts by now x.cell (jobs_on p.rows p.placements x.cell) (claiming h.rep s.view s.wire)
      (claiming h.after m.view m.wire) h.ends s.tally m.tally h.stands.cell_is h.claims h.fine h.counts

  names_one : names_of m.reps ≡ names_of s.reps
  names_one = ap names_of h.reps_are ∙ names_set s.reps h.place h.rep h.after h.stands.within h.stands.is one.cell_is

  serve_before : AreServesHad by now p xs m s' → AreServesHad by now p (x ∷ xs) s s'
  serve_before g = record {
    missing = one.missing + g.missing;
    claims = one.claims ++ g.claims;
    are = (one.missing, g.missing, one.claims, g.claims, refl, refl, one.are, g.are);
    calls = each_append (IsHad by) one.claims g.claims (had (in_course s)) (had (in_course m))
        (had (in_course s')) one.calls g.calls;
    lost = omega (arith, one.lost, g.lost);
    under = λ ready c inside. ⊎_elim
        (λ (here : Contains one.claims c). (
          x,
          inside_first x xs,
          one.under x.epoch (ready_at x s.reps h.place h.rep
              (ready x (inside_first x xs)) h.stands.within h.stands.is h.stands.cell_is) c here,
        ))
        (λ (later : Contains g.claims c).
        let r = g.under (λ y at. subst (IsReady y) (sym h.reps_are)
        (ready_set y s.reps h.place h.rep h.after (ready y (inside_rest y x xs at)) h.stands.within h.stands.is
        one.cell_is one.joined)) c later in
        (r.0, inside_rest r.0 x xs r.1, r.2))
        (Contains-append_cases one.claims g.claims c inside);
  }

pub serves-had : (by : ℕ) (now : Moment) (p : Places) (xs : List Answer) (s s' : Course)
    → ((x : Answer) → Contains xs x → Contains (names_of s.reps) x.cell)
    → Each (ServesOne by now p) xs s s' → AreServesHad by now p xs s s'
serves-had by now p [] s s' have f =
    subst (AreServesHad by now p [] s) (sym f) (record {
      missing = 0;
      claims = [];
      are = (refl, refl);
      calls =
          refl;
      lost = omega arith;
      under = λ ready c inside. absurd (omega (arith, inside.1));
    })
serves-had by now p (x ∷ xs) s s' have f =
    ⊎_elim
    (λ (h : ClaimsAt by now x.cell (jobs_on p.rows p.placements x.cell) s f.0).
    serve_before by now p x xs s f.0 s' h
    (serves-had by now p xs f.0 s' (λ y inside. subst (λ ns. Contains ns y.cell)
    (sym (names_one by now p x xs s f.0 s' h)) (have y (inside_rest y x xs inside))) f.2))
    (λ none. absurd (none.0 (have x (inside_first x xs))))
    f.1
