-- The starts on one cell, and then on all, where none counts a loss or a refusal.
use Rattle.std.proofs.Common.{◌≡◌, ℕ, List, [], ◌∷◌, map, Option, Some, refl, sym, ap, subst, ◌∙◌, arith, ⊎_elim}
use Rattle.std.specs.List.{Contains}
use Rattle.std.specs.Option.{option_map, option_map_or}
use Rattle.cell_records.specs.declared.answer.Answer.{Answer}
use Rattle.cell_records.specs.declared.job.Job.{Job}
use Rattle.cell_rep.specs.Reps.{answer_of, answer_in}
use Rattle.cell_rep.specs.declared.joined.Joined.{Joined}
use Rattle.cell_rep.specs.declared.rep.CellRep.{CellRep}
use Rattle.container_store.specs.Changes.{next_of, reserved}
use Rattle.crash_backoff.specs.declared.moment.Moment.{Moment}
use Rattle.bbs_model.specs.declared.command.Command.{Command}
use Rattle.convergence.specs.Subjects.{Subject, subject_in}
use Rattle.converge_laws.specs.Stages.{IsWith}
use Rattle.converge_laws.proofs.Public.{first_or_rest, subject_for, claim-about}
use Rattle.converge_round.specs.Callings.{calling, IsNoted}
use Rattle.converge_round.specs.Each.{Each}
use Rattle.converge_round.specs.Starts.{AreFine, Claiming, Claims, StartsOne, counted_all, counted_end, job_of}
use Rattle.converge_round.specs.declared.claims.Claimed.{Claimed}
use Rattle.converge_round.specs.declared.tally.Tally.{Tally}
use Rattle.converge_round.proofs.Public.{claims_jobs}
use Rattle.round_theorem.proofs.ClaimLists.{IsClaimAt, claims_itself, with_none, with_then, with_next_one}
use Rattle.round_theorem.proofs.Lists.{AgreeIf, agree_then, agree_same}
use Rattle.round_theorem.proofs.Losses.{lost-starts}
use Rattle.round_theorem.proofs.StartsMade.{next_claim, IsClaimMade, claim-made}
use Rattle.round_theorem.proofs.Tallied.{tallied-each}

-- what a job's command is about
abbrev pub about_job : Job → Subject
about_job job = subject_for job.job

-- the claims of the jobs of a cell, and what they add to it
pub record AreClaimsMade (by : ℕ) (now : Moment) (jobs : List Job) (s s' : Claiming) (t t' : Tally) : Type 0 where
  pub claims : List Command
  pub notes : Each (IsNoted by) claims (calling s.view t) (calling s'.view t')
  pub subjects : map subject_in claims ≡ map about_job jobs
  pub named : (c : Command) → Contains claims c → (j : Joined) × (s.rep.joined ≡ Some j)
      × IsClaimAt now s.rep.cell j.store.epoch c
  pub cell : s'.rep.cell ≡ s.rep.cell
  pub adds : AgreeIf (IsWith claims) (answer_of s.rep) (answer_of s'.rep)

none_made : (by : ℕ) (now : Moment) (s : Claiming) (t : Tally) → AreClaimsMade by now [] s s t t
none_made by now s t = record {
  claims = [];
  notes = refl;
  subjects = refl;
  named = λ c inside. absurd (omega (arith, inside.1));
  cell = refl;
  adds = agree_same (IsWith []) (answer_of s.rep) (λ x is. with_none x);
}

one_and_more : (by : ℕ) (now : Moment) (job : Job) (jobs : List Job) (s m s' : Claiming) (t u t' : Tally)
    → IsClaimMade by now job s m t u → AreClaimsMade by now jobs m s' u t'
    → AreClaimsMade by now (job ∷ jobs) s s' t t'
one_and_more by now job jobs s m s' t u t' f g =
    let c : Command = next_claim now s.rep.cell job f.joined in
    let next : Joined = record f.joined { store = reserved f.joined.store job.job job.memory job.disk } in
    let joins : m.rep.joined ≡ Some next = ap (λ (r : CellRep). r.joined) f.rep_is in
    let cells : m.rep.cell ≡ s.rep.cell = ap (λ (r : CellRep). r.cell) f.rep_is in
    let before : answer_of s.rep ≡ Some (answer_in s.rep.cell f.joined) =
    ap (option_map (answer_in s.rep.cell)) f.was in
    let after : answer_of m.rep ≡ Some (answer_in s.rep.cell next) = ap answer_of f.rep_is in
    record {
      claims = c ∷ g.claims;
      notes = (calling m.view u, f.claim, g.notes);
      subjects = ap (λ (x : Subject). x ∷ map subject_in g.claims)
          (claim-about job.job (next_of f.joined.store) s.rep.cell c.op
          (claims_itself job.job (next_of f.joined.store) s.rep.cell))
          ∙ ap (λ xs. about_job job ∷ xs) g.subjects;
      named = λ d inside. ⊎_elim
          (λ (is : c ≡ d). (
            f.joined,
            f.was,
            subst (IsClaimAt now s.rep.cell f.joined.store.epoch) is
                (record { job = job.job; instance = next_of f.joined.store; is = refl; epoch_is = refl }),
          ))
          (λ (rest : Contains g.claims d).
          let n = g.named d rest in
          let epochs : n.0.store.epoch ≡ f.joined.store.epoch =
          ap (λ (o : Option Joined). option_map_or (λ (k : Joined). k.store.epoch) o 0) (sym n.1 ∙ joins) in
          (f.joined, f.was, subst (λ (p : List ℕ × ℕ). IsClaimAt now p.0 p.1 d) (λ i. (cells i, epochs i)) n.2))
          (first_or_rest d c g.claims inside);
      cell = g.cell ∙ cells;
      adds = agree_then (IsWith (c ∷ [])) (IsWith g.claims) (IsWith (c ∷ g.claims)) (with_then (c ∷ []) g.claims)
          (answer_of s.rep) (answer_of m.rep) (answer_of s'.rep)
          (subst (λ (a : Option Answer). AgreeIf (IsWith (c ∷ [])) a (answer_of m.rep)) (sym before)
          (subst (AgreeIf (IsWith (c ∷ [])) (Some (answer_in s.rep.cell f.joined))) (sym after)
          (with_next_one now s.rep.cell job f.joined)))
          g.adds;
    }

claims-made : (by : ℕ) (now : Moment) (ends : List Claimed) (s s' : Claiming) (t : Tally) → AreFine ends
    → (counted_all ends t).lost ≡ 0 → (counted_all ends t).refused ≡ [] → Each (StartsOne by now) ends s s'
    → AreClaimsMade by now (map job_of ends) s s' t (counted_all ends t)
claims-made by now [] s s' t fine whole taken f =
    subst (λ (x : Claiming). AreClaimsMade by now [] s x t t) (sym f) (none_made by now s t)
claims-made by now (x ∷ ends) s s' t fine whole taken f =
    let u : Tally = counted_end x.end t in
    let t' : Tally = counted_all ends u in
    let rest = claims-made by now ends f.0 s' u fine.1 whole taken f.2 in
    let none = (tallied-each by rest.claims (calling f.0.view u) (calling s'.view t') rest.notes).refused taken in
    one_and_more by now x.start.job (map job_of ends) s f.0 s' t u t'
    (claim-made by now x s f.0 t u fine.0 refl (lost-starts ends u whole) none f.1) rest

-- where none of them counts a loss or a refusal
pub made-claims : (by : ℕ) (now : Moment) (jobs : List Job) (s s' : Claiming) (ends : List Claimed) (t t' : Tally)
    → Claims by now jobs s s' ends → AreFine ends → t' ≡ counted_all ends t → t'.lost ≡ 0 → t'.refused ≡ []
    → AreClaimsMade by now jobs s s' t t'
made-claims by now jobs s s' ends t t' f fine counts whole taken =
    subst (λ (x : Tally). AreClaimsMade by now jobs s s' t x) (sym counts)
    (subst (λ js. AreClaimsMade by now js s s' t (counted_all ends t)) (claims_jobs s.rep.cell ends jobs f.starts)
    (claims-made by now ends s s' t fine (ap (λ (x : Tally). x.lost) (sym counts) ∙ whole)
    (ap (λ (x : Tally). x.refused) (sym counts) ∙ taken) f.each))
