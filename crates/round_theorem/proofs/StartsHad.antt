-- The claims of starts that had replies, heard or lost.
use Rattle.std.proofs.Common.{◌≡◌, ◌⊎◌, ℕ, ◌+◌, ◌-◌, ◌≤◌, ◌^◌, min, List, [], ◌∷◌, map, refl, sym, ap, subst, ◌∙◌, arith, inl, inr, ⊎_elim}
use Rattle.cell_records.specs.declared.job.Job.{Job}
use Rattle.cell_rep.specs.Laws.{SameJoined}
use Rattle.converge_laws.proofs.Public.{first_or_rest}
use Rattle.std.specs.List.{Contains}
use Rattle.crash_backoff.specs.declared.moment.Moment.{Moment}
use Rattle.bbs_model.specs.declared.command.Command.{Command}
use Rattle.converge_round.specs.Callings.{calling}
use Rattle.converge_round.specs.Each.{Each}
use Rattle.converge_round.specs.Starts.{AreFine, Claiming, Claims, counted, counted_all, counted_end, StartsOne, job_of}
use Rattle.converge_round.specs.declared.claims.Claimed.{Claimed}
use Rattle.converge_round.specs.declared.tally.Tally.{Tally}
use Rattle.converge_round.proofs.Public.{claims_jobs}
use Rattle.round_theorem.specs.Alone.{AreClaimsOn}
use Rattle.round_theorem.proofs.Had.{Had, had, IsHad}
use Rattle.round_theorem.proofs.StartTraces.{HasEpoch, IsClaimUnder, IsTraced, epoch_kept, joined_itself, joined_then, left_if}

-- the claims of the jobs of a cell that had replies
pub record AreStartsHad (by : ℕ) (now : Moment) (cell : List ℕ) (jobs : List Job) (s s' : Claiming)
    (u u' : Tally) : Type 0 where
  pub missing : ℕ
  pub claims : List Command
  pub are : AreClaimsOn now cell jobs missing claims
  pub calls : Each (IsHad by) claims (had (calling s.view u)) (had (calling s'.view u'))
  pub lost : min (missing + u.lost) (2 ^ 64 - 1) ≤ u'.lost
  pub cell_is : s'.rep.cell ≡ s.rep.cell
  pub joined : SameJoined s.rep.joined s'.rep.joined
  pub under : (e : ℕ) → HasEpoch e s.rep.joined → (c : Command) → Contains claims c → IsClaimUnder now cell e c

start_before : (by : ℕ) (now : Moment) (cell : List ℕ) (job : Job) (jobs : List Job) (s m s' : Claiming)
    (u w u' : Tally)
    → IsTraced by now cell s.rep.joined job s m u w → m.rep.cell ≡ s.rep.cell → SameJoined s.rep.joined m.rep.joined
    → AreStartsHad by now cell jobs m s' w u'
    → AreStartsHad by now cell (job ∷ jobs) s s' u u'
start_before by now cell job jobs s m s' u w u' (inl t) same stays g = record {
  missing = g.missing;
  claims = t.0 ∷ g.claims;
  are = inr (t.0, g.claims, refl, (t.1.0, t.1.1), g.are);
  calls = (had (calling m.view w), t.2, g.calls);
  lost = omega (arith, g.lost, t.3);
  cell_is = g.cell_is ∙ same;
  joined = joined_then s.rep.joined m.rep.joined s'.rep.joined stays g.joined;
  under = λ e has c inside. ⊎_elim
      (λ (is : t.0 ≡ c). subst (IsClaimUnder now cell e) is (job.job, t.1.0, t.1.1, t.1.2 e has))
      (λ (later : Contains g.claims c). g.under e (epoch_kept e s.rep.joined m.rep.joined stays has) c later)
      (first_or_rest c t.0 g.claims inside);
}
start_before by now cell job jobs s m s' u w u' (inr t) same stays g = record {
  missing = g.missing + 1;
  claims = g.claims;
  are = inl (g.missing, refl, g.are);
  calls = subst (λ (x : Had). Each (IsHad by) g.claims x (had (calling s'.view u')))
      (λ i. record { view = t.0 i; own = (t.1 i).own; refused = (t.1 i).refused }) g.calls;
  lost = omega (arith, g.lost, ap (λ (x : Tally). x.lost) t.1);
  cell_is = g.cell_is ∙ same;
  joined = joined_then s.rep.joined m.rep.joined s'.rep.joined stays g.joined;
  under = λ e has c inside. g.under e (epoch_kept e s.rep.joined m.rep.joined stays has) c inside;
}

starts-had : (by : ℕ) (now : Moment) (cell : List ℕ) (ends : List Claimed) (s s' : Claiming) (u : Tally)
    → s.rep.cell ≡ cell → AreFine ends → Each (StartsOne by now) ends s s'
    → AreStartsHad by now cell (map job_of ends) s s' u (counted_all ends u)
starts-had by now cell [] s s' u is fine f =
    subst (λ (x : Claiming). AreStartsHad by now cell [] s x u u) (sym f) (record {
      missing = 0;
      claims = [];
      are = (refl, refl);
      calls = refl;
      lost = omega arith;
      cell_is = refl;
      joined = joined_itself s.rep.joined;
      under = λ e has c inside. absurd (omega (arith, inside.1));
    })
starts-had by now cell (x ∷ ends) s s' u is fine f =
    let w : Tally = counted_end x.end u in
    let l = left_if f.1.reached by now x.start.job f.1.wire s f.0 x.end u fine.0 f.1.takes in
    start_before by now cell x.start.job (map job_of ends) s f.0 s' u w (counted_all ends w)
    (subst (λ (n : List ℕ). IsTraced by now n s.rep.joined x.start.job s f.0 u w) is l.0)
    l.1 l.2 (starts-had by now cell ends f.0 s' w (l.1 ∙ is) fine.1 f.2)

-- the same by the jobs, and by what was counted
pub had-starts : (by : ℕ) (now : Moment) (cell : List ℕ) (jobs : List Job) (s s' : Claiming) (ends : List Claimed)
    (u u' : Tally) → s.rep.cell ≡ cell → Claims by now jobs s s' ends → AreFine ends → u' ≡ counted_all ends u
    → AreStartsHad by now cell jobs s s' u u'
had-starts by now cell jobs s s' ends u u' is f fine counts =
    subst (λ (t : Tally). AreStartsHad by now cell jobs s s' u t) (sym counts)
    (subst (λ js. AreStartsHad by now cell js s s' u (counted_all ends u)) (claims_jobs s.rep.cell ends jobs f.starts)
    (starts-had by now cell ends s s' u is fine f.each))
