-- What is held once containers are claimed.
use Rattle.std.proofs.Common.{◌≡◌, ◌≢◌, ℕ, true, List, Some, None, IsSome, ap, sym, ◌∙◌, subst, ⊎_elim}
use Rattle.std.specs.List.{Contains}
use Rattle.cell_records.specs.declared.answer.Answer.{Answer}
use Rattle.cell_records.specs.declared.container.Container.{Container}
use Rattle.cell_records.specs.declared.job_name.JobName.{JobName}
use Rattle.cell_records.specs.declared.job_name.JobName.TheVariants as job
use Rattle.container_store.specs.Changes.{is_uncompleted}
use Rattle.crash_backoff.specs.declared.moment.Moment.{Moment}
use Rattle.diego_names.specs.declared.instance.Instance.{Instance}
use Rattle.diego_names.specs.declared.key.Key.{Key}
use Rattle.lrp_records.specs.declared.presence.Presence.{Presence}
use Rattle.lrp_records.specs.declared.presence.Presence.TheVariants.{Ordinary, Evacuating}
use Rattle.bbs_model.specs.Found.{suspect_in}
use Rattle.bbs_model.specs.Runs.{state_after_all}
use Rattle.bbs_model.specs.Valid.{IsValid}
use Rattle.bbs_model.specs.Work.{is_there}
use Rattle.bbs_model.specs.declared.command.Command.{Command}
use Rattle.bbs_model.specs.declared.command.Op.{Op}
use Rattle.bbs_model.specs.declared.rows.Rows.{Rows}
use Rattle.convergence.specs.Containers.{is_answer_of, answer_from, is_container_of}
use Rattle.convergence.specs.Subjects.{Subject, OfPlace, OfTask, subject_of, ordinary_of}
use Rattle.convergence.proofs.Public.{find-passes, find-some, same_cell}
use Rattle.converge_laws.specs.Accepted.{AreAccepted, IsOfRound, AreApart}
use Rattle.converge_laws.specs.Converged.{is_held}
use Rattle.converge_laws.specs.Laws.{AreOfRound, KeepsGround}
use Rattle.converge_laws.specs.Stages.{IsSameCell, IsClaimOf, IsClaimed, IsWith, AreWith, IsCleared, PlacesAll}
use Rattle.converge_laws.proofs.Held.{it_is, held-from, held-in}
use Rattle.converge_laws.proofs.Lists.{zip_back, zip_find}
use Rattle.converge_laws.proofs.Naming.{looks_like}
use Rattle.converge_laws.proofs.Runs.{run-ground}
use Rattle.converge_laws.proofs.StopStage.{alike}

-- a claim is of a round, and is about the row of its job
pub claim-of_round : (j : JobName) (instance : Instance) (cell : List ℕ) (o : Op) → IsClaimOf j instance cell o
    → IsOfRound o
claim-of_round (job.Lrp key) instance cell o e = subst IsOfRound (sym e) tt
claim-of_round (job.Task name) instance cell o e = subst IsOfRound (sym e) tt

abbrev pub subject_for : JobName → Subject
subject_for (job.Lrp key) = ordinary_of key
subject_for (job.Task name) = OfTask name

pub claim-about : (j : JobName) (instance : Instance) (cell : List ℕ) (o : Op) → IsClaimOf j instance cell o
    → subject_of o ≡ subject_for j
claim-about (job.Lrp key) instance cell o e = ap subject_of e
claim-about (job.Task name) instance cell o e = ap subject_of e

abbrev place_in : Key × Presence → Subject → Key × Presence
place_in p (OfPlace q) = q
place_in p other = p

pub same_job_as : (j : JobName) (key : Key) → subject_for j ≡ ordinary_of key → j ≡ job.Lrp key
same_job_as (job.Lrp k) key e = ap (λ (s : Subject). job.Lrp (place_in (key, Ordinary) s).0) e
same_job_as (job.Task n) key e = absurd cc

pub same_task_as : (j : JobName) (name : List ℕ) → subject_for j ≡ OfTask name → j ≡ job.Task name
same_task_as (job.Lrp k) name e = absurd cc
same_task_as (job.Task n) name e = cc

-- no claim is about an EVACUATING row
pub not_aside : (j : JobName) (key : Key) → subject_for j ≢ OfPlace (key, Evacuating)
not_aside (job.Lrp k) key e = let other : Ordinary ≡ Evacuating =
    ap (λ (s : Subject). (place_in (key, Ordinary) s).1) e in absurd cc
not_aside (job.Task n) key e = cc

-- nor changes a SUSPECT row
pub claim-unsuspected : (j : JobName) (instance : Instance) (cell : List ℕ) (o : Op) → IsClaimOf j instance cell o
    → suspect_in o ≡ None
claim-unsuspected (job.Lrp key) instance cell o e = ap suspect_in e
claim-unsuspected (job.Task name) instance cell o e = ap suspect_in e

-- what a claim of all that waits is made of
pub record IsClaiming (rows : Rows) (before after : List Answer) (now : Moment) (cs : List Command) : Type 0 where
  pub valid : IsValid rows
  pub cleared : IsCleared rows before now
  pub apart : AreApart cs
  pub taken : AreAccepted rows cs
  pub moments : (c : Command) → Contains cs c → c.now ≡ now
  pub places : PlacesAll rows now cs
  pub answered : (cell : List ℕ) (epoch : ℕ) → is_there rows now cell epoch ≡ true
      → IsSome (answer_from before cell epoch)
  pub with_claims : AreWith cs before after

module _ (rows : Rows) (before after : List Answer) (now : Moment) (cs : List Command)
    (g : IsClaiming rows before after now cs) where
  abbrev pub new : Rows
  new = state_after_all rows cs

  pub of_round : AreOfRound now cs
  of_round = record {
    ops = λ c inside. let p = g.places.claims c inside in
        claim-of_round p.0 p.1 p.2 c.op p.3;
    moments = g.moments;
  }

  pub ground : KeepsGround now rows new
  ground = run-ground rows now cs of_round

  pub there-before : (x y : Answer) → IsSameCell x y → is_there rows now y.cell y.epoch ≡ true
      → is_there rows now x.cell x.epoch ≡ true
  there-before x y same there =
      ap (λ (n : List ℕ). is_there rows now n x.epoch) (sym same.cell) ∙ ap (λ (e : ℕ). is_there rows now y.cell e)
      (sym same.epoch) ∙ there

  -- each container of a cell that is there has not ended
  pub runs-there : (y : Answer) (c : Container) → Contains after y → is_there rows now y.cell y.epoch ≡ true
      → Contains y.containers c → is_uncompleted c.state ≡ true
  runs-there y c in_y there in_c =
      let x = zip_back (IsWith cs) before after y g.with_claims in_y in
      ⊎_elim
      (λ (old : Contains x.0.containers c). (g.cleared.clear x.0 c x.1 (there-before x.0 y x.2.same there) old).0)
      (λ (fresh : IsClaimed cs c.job c.instance x.0.cell × (is_uncompleted c.state ≡ true)). fresh.1)
      (x.2.new c in_c)

  -- so a container that a cell has is held
  pub held-any : (j : JobName) (instance : Instance) (cell : List ℕ) (y : Answer) (c : Container)
      → is_there rows now cell instance.epoch ≡ true
      → answer_from after cell instance.epoch ≡ Some y → Contains y.containers c → is_container_of j instance c ≡ true
      → is_held rows after now j instance cell ≡ true
  held-any j instance cell y c there from inside looks =
      let at = find-passes (is_answer_of cell instance.epoch) after y from in
      let same : (y.cell, y.epoch) ≡ (cell, instance.epoch) = same_cell y (cell, instance.epoch) at.1 in
      let there' : is_there rows now y.cell y.epoch ≡ true =
      subst (λ (p : List ℕ × ℕ). is_there rows now p.0 p.1 ≡ true) (sym same) there in
      let found = find-some (is_container_of j instance) y.containers c inside looks in
      let in_y = (find-passes (is_container_of j instance) y.containers found.0 found.1).0 in
      held-from rows after now j instance cell y found.0 there from found.1 (runs-there y found.0 at.0 there' in_y)

  -- a container that was held is held
  pub held-more : (j : JobName) (instance : Instance) (cell : List ℕ) → is_held rows before now j instance cell ≡ true
      → is_held rows after now j instance cell ≡ true
  held-more j instance cell held =
      let h = held-in rows before now j instance cell held in
      let y = zip_find (IsWith cs) (is_answer_of cell instance.epoch)
      (λ a b r. alike cell instance.epoch a b r.same) before after h.answer g.with_claims h.from in
      let at = find-passes (is_container_of j instance) h.answer.containers h.container h.inside in
      held-any j instance cell y.0 h.container h.there y.1 (y.2.stays h.container at.0) at.1

  -- and one that was claimed
  pub held-new : (c : Command) (j : JobName) (instance : Instance) (cell : List ℕ) → Contains cs c
      → IsClaimOf j instance cell c.op → is_there rows now cell instance.epoch ≡ true
      → is_held rows after now j instance cell ≡ true
  held-new c j instance cell inside claims there =
      let x = it_is (answer_from before cell instance.epoch) (g.answered cell instance.epoch there) in
      let at = find-passes (is_answer_of cell instance.epoch) before x.0 x.1 in
      let same : (x.0.cell, x.0.epoch) ≡ (cell, instance.epoch) = same_cell x.0 (cell, instance.epoch) at.1 in
      let y = zip_find (IsWith cs) (is_answer_of cell instance.epoch)
      (λ a b r. alike cell instance.epoch a b r.same) before after x.0 g.with_claims x.1 in
      let cell' : cell ≡ x.0.cell = ap (λ (p : List ℕ × ℕ). p.0) (sym same) in
      let is : IsClaimed cs j instance x.0.cell = record {
        command = c;
        inside = inside;
        claims =
            subst (λ (n : List ℕ). IsClaimOf j instance n c.op) cell' claims;
      } in
      let d = y.2.claimed j instance is (ap (λ (p : List ℕ × ℕ). p.1) (sym same)) in
      held-any j instance cell y.0 d.0 there y.1 d.1 (looks_like j instance d.0 d.2 d.3)
