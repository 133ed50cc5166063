-- What becomes of rows once those that wait are claimed.
use Rattle.std.proofs.Common.{◌≡◌, ◌≢◌, ◌⊎◌, ℕ, true, false, List, Option, Some, None, refl, ap, sym, ◌∙◌, subst, inl, inr, ⊎_elim}
use Rattle.std.specs.List.{Contains}
use Rattle.std.specs.Option.{option_map_or}
use Rattle.cell_records.specs.declared.answer.Answer.{Answer}
use Rattle.cell_records.specs.declared.job_name.JobName.{JobName}
use Rattle.cell_records.specs.declared.job_name.JobName.TheVariants as job
use Rattle.crash_backoff.specs.declared.moment.Moment.{Moment}
use Rattle.diego_names.specs.declared.instance.Instance.{Instance}
use Rattle.diego_names.specs.declared.key.Key.{Key}
use Rattle.lrp_records.specs.States.{holder_of, is_same_instance}
use Rattle.lrp_records.specs.declared.actual.Actual.{Actual}
use Rattle.lrp_records.specs.declared.presence.Presence.TheVariants.{Ordinary, Evacuating, Suspect}
use Rattle.lrp_records.specs.declared.state.LrpState.{LrpState}
use Rattle.lrp_records.specs.declared.state.LrpState.TheVariants as lrp
use Rattle.bbs_model.specs.Found.{suspect_in}
use Rattle.bbs_model.specs.Runs.{state_after_all}
use Rattle.bbs_model.specs.Tables.{find_actual}
use Rattle.bbs_model.specs.Work.{is_there, wants, fresh_in, is_running, runs}
use Rattle.bbs_model.specs.declared.command.Command.{Command}
use Rattle.bbs_model.specs.declared.command.Op.TheVariants as op
use Rattle.bbs_model.specs.declared.rows.Rows.{Rows}
use Rattle.convergence.specs.Containers.{row_names, is_holder}
use Rattle.convergence.specs.Subjects.{OfPlace, subject_in, ordinary_of}
use Rattle.converge_laws.specs.Converged.{is_held, IsStateHeld, HasItsPlace, HasItsContainer, IsUnwantedKept, IsInstanceSettled, IsKeptAside, IsSuspected}
use Rattle.converge_laws.specs.Stages.{IsClaimOf, MayBePlaced, IsPlaceable}
use Rattle.converge_laws.proofs.Frames.{stays-ordinary, stays-evacuating, stays-suspect}
use Rattle.converge_laws.proofs.Held.{held-ground, row-key}
use Rattle.converge_laws.proofs.Kept.{suspected-any, unwanted-ground, reason-ground}
use Rattle.converge_laws.proofs.MoveEnds.{IsNowClaimed}
use Rattle.converge_laws.proofs.Naming.{instance_itself}
use Rattle.converge_laws.proofs.OwnClaims.{row-taken}
use Rattle.converge_laws.proofs.Runs.{about_some, run-other}
use Rattle.converge_laws.proofs.Claims.{subject_for, claim-about, claim-unsuspected, same_job_as, not_aside, IsClaiming, of_round, ground, held-more, held-new}

module _ (rows : Rows) (before after : List Answer) (now : Moment) (cs : List Command)
    (g : IsClaiming rows before after now cs) where
  abbrev new : Rows
  new = state_after_all rows cs

  module _ (key : Key) where
    abbrev ordinary : Rows → Option Actual
    ordinary r = find_actual r key Ordinary

    -- what becomes of a claimed row
    record IsRowClaimed : Type 0 where
      pub command : Command
      pub instance : Instance
      pub cell : List ℕ
      pub inside : Contains cs command
      pub claims : command.op ≡ op.Claim key instance cell
      pub there : is_there rows now cell instance.epoch ≡ true
      pub old : Actual
      pub was : ordinary rows ≡ Some old
      pub now_claimed : IsNowClaimed old instance cell (ordinary new)

    row-claimed : (c : Command) (instance : Instance) (cell : List ℕ) → Contains cs c
        → c.op ≡ op.Claim key instance cell
        → (old : Actual) × (ordinary rows ≡ Some old) × IsNowClaimed old instance cell (ordinary new)
    row-claimed c instance cell inside claims =
        row-taken rows now cs (of_round rows before after now cs g) g.apart g.taken key c instance cell inside claims

    -- a row is claimed, or stays as it was
    row-fate : IsRowClaimed ⊎ ((ordinary new ≡ ordinary rows)
        × ((c : Command) → Contains cs c → subject_in c ≢ ordinary_of key))
    row-fate =
        ⊎_elim
        (λ (found : (c : Command) × Contains cs c × (subject_in c ≡ ordinary_of key)).
        let p = g.places.claims found.0 found.1 in
        let about : subject_for p.0 ≡ ordinary_of key = sym (claim-about p.0 p.1 p.2 found.0.op p.3) ∙ found.2 in
        let claims : found.0.op ≡ op.Claim key p.1 p.2 = subst (λ (j : JobName). IsClaimOf j p.1 p.2 found.0.op)
        (same_job_as p.0 key about) p.3 in
        let r = row-claimed found.0 p.1 p.2 found.1 claims in
        inl (record {
          command = found.0;
          instance = p.1;
          cell = p.2;
          inside = found.1;
          claims = claims;
          there =
              p.4;
          old = r.0;
          was = r.1;
          now_claimed = r.2;
        }))
        (λ (none : (c : Command) → Contains cs c → subject_in c ≢ ordinary_of key).
        inr (
          run-other ordinary (λ (d : Command). subject_in d ≢ ordinary_of key)
              (λ r d h other. stays-ordinary r d h key other) rows cs (of_round rows before after now cs g).ops none,
          none,
        ))
        (about_some (ordinary_of key) cs)

    placeable : (a : Actual) → ordinary rows ≡ Some a → ((wants rows key ≡ true)
        × MayBePlaced rows before now a a.state) ⊎ IsUnwantedKept rows before now key a
    placeable a is = subst (IsPlaceable rows before now key) is (g.cleared.planned.ordinary key)

    -- a row that has its place keeps it
    place-kept : (a : Actual) (s : LrpState) → a.state ≡ s → (a.state ≡ lrp.Unclaimed → ⊥)
        → MayBePlaced rows before now a s → HasItsPlace rows after now a s
    place-kept a lrp.Unclaimed state claimed' h = absurd (claimed' state)
    place-kept a (lrp.Claimed instance cell) state claimed' h =
        (held-more rows before after now cs g) (job.Lrp a.key) instance cell h
    place-kept a (lrp.Running instance cell) state claimed' h =
        (held-more rows before after now cs g) (job.Lrp a.key) instance cell h
    place-kept a lrp.Crashed state claimed' h = h

    -- and one that isn't wanted its container
    container-kept : (a : Actual) (s : LrpState) → HasItsContainer rows before now a s
        → HasItsContainer rows after now a s
    container-kept a lrp.Unclaimed h = tt
    container-kept a (lrp.Claimed instance cell) h = (held-more rows before after now cs g)
        (job.Lrp a.key) instance cell h
    container-kept a (lrp.Running instance cell) h = (held-more rows before after now cs g)
        (job.Lrp a.key) instance cell h
    container-kept a lrp.Crashed h = tt

    settled-kept : (a : Actual) → ordinary rows ≡ Some a → (wants rows key ≡ true → a.state ≡ lrp.Unclaimed → ⊥)
        → IsInstanceSettled rows after now key (Some a)
    settled-kept a is claimed' =
        ⊎_elim
        (λ (wanted : (wants rows key ≡ true) × MayBePlaced rows before now a a.state).
        inl (wanted.0, place-kept a a.state refl (claimed' wanted.0) wanted.1))
        (λ (stale : IsUnwantedKept rows before now key a). inr (stale.0, stale.1, container-kept a a.state stale.2))
        (placeable a is)

    not_unclaimed : (a : Actual) (held : Instance) (where' : List ℕ) → a.state ≡ lrp.Claimed held where'
        → a.state ≡ lrp.Unclaimed → ⊥
    not_unclaimed a held where' is other = cc

    settled-claimed : (c : IsRowClaimed) → IsInstanceSettled rows after now key (ordinary new)
    settled-claimed c =
        let n = c.now_claimed in
        subst (IsInstanceSettled rows after now key) (sym n.is)
        (⊎_elim
        (λ (fresh : (c.old.state ≡ lrp.Unclaimed) × (n.new.state ≡ lrp.Claimed c.instance c.cell)
        × (n.new.key ≡ c.old.key) × (n.new.domain ≡ c.old.domain)).
        let place : key ≡ n.new.key = sym (fresh.2 ∙ row-key rows key Ordinary c.old c.was) in
        let held : is_held rows after now (job.Lrp n.new.key) c.instance c.cell ≡ true =
        subst (λ (k : Key). is_held rows after now (job.Lrp k) c.instance c.cell ≡ true) place
        ((held-new rows before after now cs g) c.command (job.Lrp key) c.instance c.cell c.inside c.claims c.there)
        in
        let settled : IsInstanceSettled rows after now key (Some n.new) =
        ⊎_elim
        (λ (wanted : (wants rows key ≡ true) × MayBePlaced rows before now c.old c.old.state).
        inl (wanted.0, subst (HasItsPlace rows after now n.new) (sym fresh.1) held))
        (λ (stale : IsUnwantedKept rows before now key c.old).
        inr (
          stale.0,
          ap (λ (d : Option (List ℕ)). option_map_or (fresh_in rows now) d true) fresh.3 ∙ stale.1,
          subst (HasItsContainer rows after now n.new) (sym fresh.1) held,
        ))
        (placeable c.old c.was) in
        settled)
        (λ (own : (n.new ≡ c.old) × (held : Instance) × (where' : List ℕ) × (c.old.state ≡ lrp.Claimed held where')
        × (is_same_instance c.instance held ≡ true)).
        subst (λ (a : Actual). IsInstanceSettled rows after now key (Some a)) (sym own.0)
        (settled-kept c.old c.was (λ wanted. not_unclaimed c.old own.1 own.2 own.3)))
        n.how)

    pub settled-rows : IsInstanceSettled rows after now key (ordinary new)
    settled-rows =
        ⊎_elim settled-claimed
        (λ (other : (ordinary new ≡ ordinary rows) × ((c : Command) → Contains cs c → subject_in c ≢ ordinary_of key)).
        subst (IsInstanceSettled rows after now key) (sym other.0)
        (elim (ordinary rows) as (λ (r : Option Actual). ordinary rows ≡ r → IsPlaceable rows before now key r
        → IsInstanceSettled rows after now key r) [
          | None ↦ λ is h. h
          | (Some a) ↦ λ is h. settled-kept a is (λ wanted state. let p = g.places.rows_placed key a is state wanted in
              other.1 p.0 p.1 p.2)
        ] refl (g.cleared.planned.ordinary key)))
        row-fate

    place-ground : (a : Actual) (s : LrpState) → HasItsPlace rows after now a s → HasItsPlace new after now a s
    place-ground a lrp.Unclaimed h = h
    place-ground a (lrp.Claimed instance cell) h = held-ground rows new after now (job.Lrp a.key) instance cell
        ((ground rows before after now cs g).there cell instance.epoch) ∙ h
    place-ground a (lrp.Running instance cell) h = held-ground rows new after now (job.Lrp a.key) instance cell
        ((ground rows before after now cs g).there cell instance.epoch) ∙ h
    place-ground a lrp.Crashed h = h

    pub settled-ground : (r : Option Actual) → IsInstanceSettled rows after now key r
        → IsInstanceSettled new after now key r
    settled-ground None h = (ground rows before after now cs g).wanted key ∙ h
    settled-ground (Some a) h =
        ⊎_elim
        (λ (wanted : (wants rows key ≡ true) × HasItsPlace rows after now a a.state).
        inl ((ground rows before after now cs g).wanted key ∙ wanted.0, place-ground a a.state wanted.1))
        (λ (stale : IsUnwantedKept rows after now key a). inr
        (unwanted-ground rows new after now (ground rows before after now cs g) key a stale))
        h

    -- a row that didn't run doesn't run
    idle-row : runs (ordinary rows) ≡ false → runs (ordinary new) ≡ false
    idle-row idle =
        ⊎_elim
        (λ (c : IsRowClaimed).
        ap runs c.now_claimed.is
        ∙ ⊎_elim
        (λ (fresh : (c.old.state ≡ lrp.Unclaimed) × (c.now_claimed.new.state ≡ lrp.Claimed c.instance c.cell)
        × (c.now_claimed.new.key ≡ c.old.key) × (c.now_claimed.new.domain ≡ c.old.domain)). ap is_running fresh.1)
        (λ (own : (c.now_claimed.new ≡ c.old) × (held : Instance) × (where' : List ℕ)
        × (c.old.state ≡ lrp.Claimed held where') × (is_same_instance c.instance held ≡ true)).
        ap (λ (a : Actual). is_running a.state) own.0 ∙ ap is_running own.3)
        c.now_claimed.how)
        (λ (other : (ordinary new ≡ ordinary rows) × ((c : Command) → Contains cs c → subject_in c ≢ ordinary_of key)).
        ap runs other.0 ∙ idle)
        row-fate

    -- the EVACUATING row stays
    pub aside-same : find_actual new key Evacuating ≡ find_actual rows key Evacuating
    aside-same =
        run-other (λ (r : Rows). find_actual r key Evacuating)
        (λ (d : Command). subject_in d ≢ OfPlace (key, Evacuating))
        (λ r d h other. stays-evacuating r d h key other) rows cs (of_round rows before after now cs g).ops
        (λ c inside same. let p = g.places.claims c inside in
        not_aside p.0 key (sym (claim-about p.0 p.1 p.2 c.op p.3) ∙ same))

    -- and so does the SUSPECT row
    pub suspect-same : find_actual new key Suspect ≡ find_actual rows key Suspect
    suspect-same =
        run-other (λ (r : Rows). find_actual r key Suspect) (λ (d : Command). suspect_in d.op ≢ Some key)
        (λ r d h other. stays-suspect r d h key other) rows cs (of_round rows before after now cs g).ops
        (λ c inside changes. let p = g.places.claims c inside in let none : suspect_in c.op ≡ None =
        claim-unsuspected p.0 p.1 p.2 c.op p.3 in absurd cc)

    pub suspect-done : IsSuspected new key (find_actual new key Suspect)
    suspect-done =
        subst (IsSuspected new key) (sym suspect-same)
        (elim (find_actual rows key Suspect) as (λ (r : Option Actual). IsSuspected rows key r → IsSuspected new key r) [
          | None ↦ λ h. tt
          | (Some a) ↦ λ h. suspected-any new key ((ground rows before after now cs g).wanted key ∙ h.0) (idle-row h.1)
              (Some a)
        ] (g.cleared.planned.suspected key))

    aside-state : (s : LrpState) → IsStateHeld rows before now key s → IsStateHeld new after now key s
    aside-state lrp.Unclaimed h = h
    aside-state (lrp.Claimed instance cell) h = held-ground rows new after now (job.Lrp key) instance cell
        ((ground rows before after now cs g).there cell instance.epoch) ∙ (held-more rows before after now cs g)
        (job.Lrp key) instance cell h
    aside-state (lrp.Running instance cell) h = held-ground rows new after now (job.Lrp key) instance cell
        ((ground rows before after now cs g).there cell instance.epoch) ∙ (held-more rows before after now cs g)
        (job.Lrp key) instance cell h
    aside-state lrp.Crashed h = h

    aside-row : (r : Option Actual) → IsKeptAside rows before now key r → IsKeptAside new after now key r
    aside-row None h = tt
    aside-row (Some a) h = (
      reason-ground rows new after now (ground rows before after now cs g) key a h.0,
      aside-state a.state h.1,
      idle-row h.2,
    )

    pub aside-done : IsKeptAside new after now key (find_actual new key Evacuating)
    aside-done = subst (IsKeptAside new after now key) (sym aside-same)
        (aside-row (find_actual rows key Evacuating) (g.cleared.planned.aside key))

    -- a row that names a container goes on to name it
    pub names-still : (instance : Instance) → row_names (ordinary rows) instance ≡ true
        → row_names (ordinary new) instance ≡ true
    names-still instance named =
        ⊎_elim
        (λ (c : IsRowClaimed).
        let old : is_holder (holder_of c.old.state) instance ≡ true =
        ap (λ (r : Option Actual). row_names r instance) (sym c.was) ∙ named in
        ap (λ (r : Option Actual). row_names r instance) c.now_claimed.is
        ∙ ⊎_elim
        (λ (fresh : (c.old.state ≡ lrp.Unclaimed) × (c.now_claimed.new.state ≡ lrp.Claimed c.instance c.cell)
        × (c.now_claimed.new.key ≡ c.old.key) × (c.now_claimed.new.domain ≡ c.old.domain)).
        let none : is_holder (holder_of c.old.state) instance ≡ false =
        ap (λ (s : LrpState). is_holder (holder_of s) instance) fresh.0 in
        absurd cc)
        (λ (own : (c.now_claimed.new ≡ c.old) × (held : Instance) × (where' : List ℕ)
        × (c.old.state ≡ lrp.Claimed held where') × (is_same_instance c.instance held ≡ true)).
        ap (λ (a : Actual). is_holder (holder_of a.state) instance) own.0 ∙ old)
        c.now_claimed.how)
        (λ (other : (ordinary new ≡ ordinary rows) × ((c : Command) → Contains cs c → subject_in c ≢ ordinary_of key)).
        ap (λ (r : Option Actual). row_names r instance) other.0 ∙ named)
        row-fate

    -- and a claimed row names its container
    pub names-claimed : (c : Command) (instance : Instance) (cell : List ℕ) → Contains cs c
        → c.op ≡ op.Claim key instance cell → row_names (ordinary new) instance ≡ true
    names-claimed c instance cell inside claims =
        let r = row-claimed c instance cell inside claims in
        let n = r.2 in
        ap (λ (o : Option Actual). row_names o instance) n.is
        ∙ ⊎_elim
        (λ (fresh : (r.0.state ≡ lrp.Unclaimed) × (n.new.state ≡ lrp.Claimed instance cell) × (n.new.key ≡ r.0.key)
        × (n.new.domain ≡ r.0.domain)).
        ap (λ (s : LrpState). is_holder (holder_of s) instance) fresh.1 ∙ instance_itself instance)
        (λ (own : (n.new ≡ r.0) × (held : Instance) × (where' : List ℕ) × (r.0.state ≡ lrp.Claimed held where')
        × (is_same_instance instance held ≡ true)).
        ap (λ (a : Actual). is_holder (holder_of a.state) instance) own.0 ∙ ap
        (λ (s : LrpState). is_holder (holder_of s) instance) own.3 ∙ own.4)
        n.how
