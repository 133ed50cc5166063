-- Differences that are renewed by all events of a transition stand for its rows.
use Rattle.std.proofs.Common.{◌≡◌, ◌≢◌, ◌⊎◌, ℕ, Bool, true, false, cond, not, List, [], ◌∷◌, ◌++◌, nat_lt, option_to_list, Option, Some, None, inl, inr, refl, ap, sym, ◌∙◌}
use Rattle.std.specs.Option.{option_map, option_map_or}
use Rattle.diego_names.specs.declared.key.Key.{Key}
use Rattle.lrp_records.specs.declared.actual.Actual.{Actual}
use Rattle.lrp_records.specs.declared.desired.Desired.{Desired}
use Rattle.lrp_records.specs.declared.presence.Presence.{Presence}
use Rattle.lrp_records.specs.declared.presence.Presence.TheVariants.{Ordinary, Evacuating, Suspect}
use Rattle.lrp_records.specs.declared.state.LrpState.{LrpState}
use Rattle.lrp_records.specs.declared.state.LrpState.TheVariants as lrp
use Rattle.task_records.specs.declared.task.Task.{Task}
use Rattle.bbs_model.specs.Tables.{find_actual, find_desired}
use Rattle.bbs_model.specs.Valid.{IsRunning, IsValid}
use Rattle.bbs_model.specs.Work.{wants}
use Rattle.bbs_model.specs.declared.domain_row.DomainRow.{DomainRow}
use Rattle.bbs_model.specs.declared.event.Events.{Events}
use Rattle.bbs_model.specs.declared.rows.Rows.{Rows}
use Rattle.convergence.specs.Subjects.{Subject, OfCell, OfDomain, OfPlace, OfTask, OfProcess}
use Rattle.event_laws.specs.Told.{TellAll}
use Rattle.work_causes.proofs.Public.{alike, suits_found}
use Rattle.work_causes.specs.Causes.{causes_of, end_causes, end_in, evacuating_causes, first_of_two, going, joined, lease_causes, lease_in, lease_of, lost, replaced, suspect_causes, task_cause, those_of}
use Rattle.work_causes.specs.declared.cause.Cause.{Cause}
use Rattle.differences.specs.Noted.{Keeping, causes_at, is_below, is_counted, named, noted, noted_of}
use Rattle.differences.specs.Renewal.{AreApart, IsBlank, IsKeyApart, IsRenewed, Renews}
use Rattle.differences.specs.Standing.{StandsFor, count_in}
use Rattle.differences.proofs.Frames.{touched, desired_stays, actual_stays, task_stays, cell_stays, domain_stays}

-- something that is renewed is as the new rows have it, where it was as the old rows had it
renewed : {A P : Type 0} (fresh old new before : A) → IsRenewed fresh old new P → old ≡ before → (P → fresh ≡ before)
    → new ≡ fresh
renewed fresh old new before (inl e) was stays = e
renewed fresh old new before (inr (e, p)) was stays = e ∙ was ∙ sym (stays p)

-- an instance is wanted by the counts as by the rows
pub wants_counted : (rows : Rows) (key : Key) → is_below (count_in rows key.process) key.index ≡ wants rows key
wants_counted rows key =
    elim (find_desired rows key.process) as (λ (s : Option Desired).
    is_below (option_map (λ (x : Desired). x.instances) s) key.index
    ≡ option_map_or (λ (d : Desired). nat_lt key.index d.instances) s false) [ None ↦ refl | (Some d) ↦ refl ]

-- a list with a cause in the middle isn't empty
filled : (first : Option Cause) (cause : Cause) (rest : List Cause) → (option_to_list first ++ (cause ∷ rest)) ≢ []
filled None cause rest e = cc
filled (Some other) cause rest e = cc

module _ (rows : Rows) (v : IsValid rows) where
  no_evacuating : (w : Bool) (o : Option Actual) (a : Actual) (s : LrpState) → IsRunning s
      → those_of (cond (not w) (Some (going a.domain)) None) (lost s) (replaced o) ≢ []
  no_evacuating w o a lrp.Unclaimed r e = r
  no_evacuating w o a (lrp.Claimed instance cell) r e = r
  no_evacuating w o a (lrp.Running instance cell) r e = filled (cond (not w) (Some (going a.domain)) None) _ _ e
  no_evacuating w o a lrp.Crashed r e = r

  dropped : (first : Option Cause) (s : LrpState) → IsRunning s
      → (option_to_list (first_of_two first (joined s)) ++ []) ≢ []
  dropped (Some cause) s r e = cc
  dropped None lrp.Unclaimed r e = r
  dropped None (lrp.Claimed instance cell) r e = r
  dropped None (lrp.Running instance cell) r e = cc
  dropped None lrp.Crashed r e = r

  no_suspect : (w : Bool) (o : Option Actual) (a : Actual) → IsRunning a.state → suspect_causes w o (Some a) ≢ []
  no_suspect true o a r e = dropped (replaced o) a.state r e
  no_suspect false o a r e = cc

  -- a place aside without causes has no row
  no_row : (key : Key) (presence : Presence) → presence ≢ Ordinary → causes_of rows (OfPlace (key, presence)) ≡ []
      → find_actual rows key presence ≡ None
  no_row key Ordinary other e = absurd (other refl)
  no_row key Evacuating other e =
      elim (find_actual rows key Evacuating) as (λ (s : Option Actual). find_actual rows key Evacuating ≡ s
      → evacuating_causes (wants rows key) (find_actual rows key Ordinary) s ≡ [] → s ≡ None) [
        | None ↦ λ is none. refl
        | (Some a) ↦ λ is none. absurd (no_evacuating (wants rows key) (find_actual rows key Ordinary) a a.state
            (suits_found rows v key Evacuating a is).0 none)
      ] refl e
  no_row key Suspect other e =
      elim (find_actual rows key Suspect) as (λ (s : Option Actual). find_actual rows key Suspect ≡ s
      → suspect_causes (wants rows key) (find_actual rows key Ordinary) s ≡ [] → s ≡ None) [
        | None ↦ λ is none. refl
        | (Some a) ↦ λ is none. absurd (no_suspect (wants rows key) (find_actual rows key Ordinary) a
            (suits_found rows v key Suspect a is).0 none)
      ] refl e

-- a place aside without a row has no causes
no_causes : (rows : Rows) (key : Key) (presence : Presence) → presence ≢ Ordinary → find_actual rows key presence ≡ None
    → causes_of rows (OfPlace (key, presence)) ≡ []
no_causes rows key Ordinary other e = absurd (other refl)
no_causes rows key Evacuating other e = ap (evacuating_causes (wants rows key) (find_actual rows key Ordinary)) e
no_causes rows key Suspect other e = ap (suspect_causes (wants rows key) (find_actual rows key Ordinary)) e

module _ (old new : Rows) (events : Events) (t : TellAll old new events) (v : IsValid old) (a b : Keeping)
    (stands : StandsFor (noted_of a) old)
    (renews : Renews new (touched old new events t) a b) where
  wanted_new : (q : List ℕ) → named b.wanted q ≡ count_in new q
  wanted_new q =
      renewed (count_in new q) (named a.wanted q) (named b.wanted q) (count_in old q) (renews.wanted q)
      (stands.wanted q)
      (λ h. ap (option_map (λ (x : Desired). x.instances)) (desired_stays old new events t q h))

  cells_new : (q : List ℕ) → named b.cells q ≡ lease_in new q
  cells_new q =
      renewed (lease_in new q) (named a.cells q) (named b.cells q) (lease_in old q) (renews.cells q) (stands.cells q)
      (λ h. ap (option_map lease_of) (cell_stays old new events t q h))

  domains_new : (q : List ℕ) → named b.domains q ≡ end_in new q
  domains_new q =
      renewed (end_in new q) (named a.domains q) (named b.domains q) (end_in old q) (renews.domains q)
      (stands.domains q)
      (λ h. ap (option_map (λ (d : DomainRow). d.until)) (domain_stays old new events t q h))

  tasks_new : (q : List ℕ) → option_to_list (named b.tasks q) ≡ causes_of new (OfTask q)
  tasks_new q =
      elim (renews.tasks q) as (λ _. option_to_list (named b.tasks q) ≡ causes_of new (OfTask q)) [
        | (inl e) ↦ ap option_to_list e
        | (inr h) ↦ ap option_to_list h.0 ∙ stands.causes (OfTask q)
            ∙ sym (ap (λ (row : Option Task). option_to_list (option_map task_cause row))
            (task_stays old new events t q h.1))
      ]

  -- an instance that is counted as before is wanted as before
  wants_same : (key : Key) → is_counted b.wanted key ≡ is_counted a.wanted key → wants new key ≡ wants old key
  wants_same key e =
      sym (ap (λ (n : Option ℕ). is_below n key.index) (wanted_new key.process) ∙ wants_counted new key)
      ∙ e ∙ ap (λ (n : Option ℕ). is_below n key.index) (stands.wanted key.process) ∙ wants_counted old key

  place_same : (p : Key × Presence) → AreApart IsKeyApart (touched old new events t) p.0
      → (is_counted b.wanted p.0 ≡ is_counted a.wanted p.0) ⊎ IsBlank a.places p
      → causes_of new (OfPlace p) ≡ causes_of old (OfPlace p)
  place_same p h (inl e) =
      alike (OfPlace p) old new (record {
        wanted = wants_same p.0 e;
        ordinary = actual_stays old new events t p.0 h Ordinary;
        own = actual_stays old new events t p.0 h p.1;
      })
  place_same p h (inr blank) =
      let before : causes_of old (OfPlace p) ≡ [] = sym (stands.causes (OfPlace p)) ∙ blank.none in
      let row : find_actual new p.0 p.1 ≡ None = actual_stays old new events t p.0 h p.1 ∙ no_row old v p.0 p.1
      blank.aside before in
      no_causes new p.0 p.1 blank.aside row ∙ sym before

  places_new : (p : Key × Presence) → causes_at b.places p ≡ causes_of new (OfPlace p)
  places_new p =
      renewed (causes_of new (OfPlace p)) (causes_at a.places p) (causes_at b.places p) (causes_of old (OfPlace p))
      (renews.places p) (stands.causes (OfPlace p))
      (λ h. place_same p h.apart h.wanted)

  causes_new : (s : Subject) → noted (noted_of b) s ≡ causes_of new s
  causes_new (OfCell q) = ap lease_causes (cells_new q)
  causes_new (OfDomain q) = ap end_causes (domains_new q)
  causes_new (OfPlace p) = places_new p
  causes_new (OfTask q) = tasks_new q
  causes_new (OfProcess q) = refl

  pub stands_new : StandsFor (noted_of b) new
  stands_new = record { causes = causes_new; wanted = wanted_new; cells = cells_new; domains = domains_new }
