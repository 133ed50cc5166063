-- What lists of claims add to what cells keep.
use Rattle.std.proofs.Common.{◌≡◌, ◌≢◌, ℕ, true, List, [], ◌∷◌, ◌++◌, refl, sym, ap, subst, ◌∙◌, arith, inl, inr, ⊎_elim}
use Rattle.std.specs.List.{Contains}
use Rattle.std.proofs.lemmas.List.Elements.{Contains-append_left, Contains-append_right, Contains-append_cases, Contains-push, Contains-push_cases}
use Rattle.cell_records.specs.declared.answer.Answer.{Answer}
use Rattle.cell_records.specs.declared.container.Container.{Container}
use Rattle.cell_records.specs.declared.job.Job.{Job}
use Rattle.cell_records.specs.declared.job_name.JobName.{JobName}
use Rattle.cell_records.specs.declared.job_name.JobName.TheVariants as name
use Rattle.cell_rep.specs.Acts.{claim_op}
use Rattle.cell_rep.specs.Reps.{answer_in}
use Rattle.cell_rep.specs.declared.joined.Joined.{Joined}
use Rattle.container_store.specs.Changes.{next_of, next_container, reserved, is_uncompleted}
use Rattle.crash_backoff.specs.declared.moment.Moment.{Moment}
use Rattle.diego_names.specs.declared.instance.Instance.{Instance}
use Rattle.diego_names.specs.declared.key.Key.{Key}
use Rattle.bbs_model.specs.Work.{at}
use Rattle.bbs_model.specs.declared.command.Command.{Command}
use Rattle.bbs_model.specs.declared.command.Op.{Op}
use Rattle.bbs_model.specs.declared.command.Op.TheVariants as op
use Rattle.converge_laws.specs.Stages.{IsClaimOf, IsClaimed, IsWith}
use Rattle.converge_laws.proofs.Public.{first_or_rest}

-- the command is a claim at that moment, on that cell, of a container of that epoch
pub record IsClaimAt (now : Moment) (cell : List ℕ) (epoch : ℕ) (c : Command) : Type 0 where
  pub job : JobName
  pub instance : Instance
  pub is : c ≡ at now (claim_op cell job instance)
  pub epoch_is : instance.epoch ≡ epoch

pub claims_itself : (n : JobName) (i : Instance) (cell : List ℕ) → IsClaimOf n i cell (claim_op cell n i)
claims_itself (name.Lrp key) i cell = refl
claims_itself (name.Task t) i cell = refl

abbrev key_in : Op → Key → Key
key_in (op.Claim key i cell) other = key
key_in o other = other

abbrev task_in : Op → List ℕ → List ℕ
task_in (op.StartTask n i cell) other = n
task_in o other = other

abbrev instance_in : Op → Instance → Instance
instance_in (op.Claim key i cell) other = i
instance_in (op.StartTask n i cell) other = i
instance_in o other = other

abbrev cell_in : Op → List ℕ → List ℕ
cell_in (op.Claim key i cell) other = cell
cell_in (op.StartTask n i cell) other = cell
cell_in o other = other

-- a command claims one container
pub record IsSameClaim (n m : JobName) (i k : Instance) (cell cell' : List ℕ) : Type 0 where
  pub job : m ≡ n
  pub instance : k ≡ i
  pub cell_is : cell' ≡ cell

pub same_claim : (n m : JobName) (i k : Instance) (cell cell' : List ℕ) → IsClaimOf m k cell' (claim_op cell n i)
    → IsSameClaim n m i k cell cell'
same_claim (name.Lrp a) (name.Lrp b) i k cell cell' e = record {
  job = ap (λ (o : Op). name.Lrp (key_in o b)) (sym e);
  instance = ap (λ (o : Op). instance_in o k) (sym e);
  cell_is = ap (λ (o : Op). cell_in o cell') (sym e);
}
same_claim (name.Lrp a) (name.Task b) i k cell cell' e = absurd cc
same_claim (name.Task a) (name.Lrp b) i k cell cell' e = absurd cc
same_claim (name.Task a) (name.Task b) i k cell cell' e = record {
  job = ap (λ (o : Op). name.Task (task_in o b)) (sym e);
  instance = ap (λ (o : Op). instance_in o k) (sym e);
  cell_is = ap (λ (o : Op). cell_in o cell') (sym e);
}

claimed_left : (as' bs : List Command) (n : JobName) (i : Instance) (cell : List ℕ) → IsClaimed as' n i cell
    → IsClaimed (as' ++ bs) n i cell
claimed_left as' bs n i cell h = record {
  command = h.command;
  inside =
      Contains-append_left as' bs h.command h.inside;
  claims = h.claims;
}

claimed_right : (as' bs : List Command) (n : JobName) (i : Instance) (cell cell' : List ℕ) → cell' ≡ cell
    → IsClaimed bs n i cell' → IsClaimed (as' ++ bs) n i cell
claimed_right as' bs n i cell cell' e h = record {
  command = h.command;
  inside = Contains-append_right as' bs h.command h.inside;
  claims = subst (λ (m : List ℕ). IsClaimOf n i m h.command.op) e h.claims;
}

pub with_none : (x : Answer) → IsWith [] x x
with_none x = record {
  same = record { cell = refl; epoch = refl };
  stays = λ c inside. inside;
  new = λ c inside. inl inside;
  claimed = λ n i h. absurd (omega (arith, h.inside.1));
}

-- some are claimed, and then others
pub with_then : (as' bs : List Command) (x y z : Answer) → IsWith as' x y → IsWith bs y z → IsWith (as' ++ bs) x z
with_then as' bs x y z f g = record {
  same = record { cell = g.same.cell ∙ f.same.cell; epoch = g.same.epoch ∙ f.same.epoch };
  stays = λ c inside. g.stays c (f.stays c inside);
  new = λ c inside. ⊎_elim
      (λ (old : Contains y.containers c). ⊎_elim (λ (older : Contains x.containers c). inl older)
      (λ fresh. inr (claimed_left as' bs c.job c.instance x.cell fresh.0, fresh.1)) (f.new c old))
      (λ fresh. inr (claimed_right as' bs c.job c.instance x.cell y.cell f.same.cell fresh.0, fresh.1))
      (g.new c inside);
  claimed = λ n i h epoch. ⊎_elim
      (λ first.
      let d = f.claimed n i (record { command = h.command; inside = first; claims = h.claims }) epoch in
      (d.0, g.stays d.0 d.1, d.2, d.3))
      (λ later.
      g.claimed n i (record {
        command = h.command;
        inside = later;
        claims =
            subst (λ (m : List ℕ). IsClaimOf n i m h.command.op) (sym f.same.cell) h.claims;
      }) (epoch ∙ sym f.same.epoch))
      (Contains-append_cases as' bs h.command h.inside);
}

-- claims on another cell
pub with_other : (cs : List Command) (now : Moment) (cell : List ℕ) (x : Answer)
    → ((c : Command) → Contains cs c → (epoch : ℕ) × IsClaimAt now cell epoch c) → x.cell ≢ cell → IsWith cs x x
with_other cs now cell x named ne = record {
  same = record { cell = refl; epoch = refl };
  stays = λ c inside. inside;
  new = λ c inside. inl inside;
  claimed = λ n i h at_epoch.
      let p = (named h.command h.inside).1 in
      let s = same_claim p.job n p.instance i cell x.cell (subst
      (λ (c : Command). IsClaimOf n i x.cell c.op) p.is h.claims) in
      absurd (ne s.cell_is);
}

-- the next container of a cell is claimed
pub with_next_one : (now : Moment) (cell : List ℕ) (job : Job) (j : Joined)
    → IsWith (at now (claim_op cell job.job (next_of j.store)) ∷ []) (answer_in cell j)
    (answer_in cell (record j { store = reserved j.store job.job job.memory job.disk }))
with_next_one now cell job j =
    let c : Command = at now (claim_op cell job.job (next_of j.store)) in
    let d : Container = next_container j.store job.job job.memory job.disk in
    record {
      same = record { cell = refl; epoch = refl };
      stays = λ k inside. Contains-append_left j.store.containers (d ∷ []) k inside;
      new = λ k inside. ⊎_elim
          (λ (old : Contains j.store.containers k). inl old)
          (λ (is : d ≡ k).
          inr (subst (λ (m : Container). IsClaimed (c ∷ []) m.job m.instance cell × (is_uncompleted m.state ≡ true)) is (
            record { command = c; inside = Contains-push [] c; claims = claims_itself job.job (next_of j.store) cell },
            refl,
          )))
          (Contains-push_cases j.store.containers d k inside);
      claimed = λ n i h epoch.
          let one : c ≡ h.command = ⊎_elim (λ (is : c ≡ h.command). is)
          (λ (rest : Contains [] h.command). absurd (omega (arith, rest.1)))
          (first_or_rest h.command c [] h.inside) in
          let s = same_claim job.job n (next_of j.store) i cell cell
          (subst (λ (k : Command). IsClaimOf n i cell k.op) (sym one) h.claims) in
          (d, Contains-push j.store.containers d, sym s.job, sym s.instance);
    }
