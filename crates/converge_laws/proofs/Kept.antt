-- What stays of rows where cells stay there, instances wanted and domains fresh.
use Rattle.std.proofs.Common.{◌≡◌, ◌⊎◌, true, false, List, Option, Some, None, ◌∙◌, inl, inr, ⊎_elim}
use Rattle.std.specs.Option.{option_map_or}
use Rattle.cell_records.specs.declared.answer.Answer.{Answer}
use Rattle.cell_records.specs.declared.job_name.JobName.TheVariants as job
use Rattle.crash_backoff.specs.declared.moment.Moment.{Moment}
use Rattle.diego_names.specs.declared.key.Key.{Key}
use Rattle.lrp_records.specs.declared.actual.Actual.{Actual}
use Rattle.lrp_records.specs.declared.presence.Presence.TheVariants.{Ordinary}
use Rattle.lrp_records.specs.declared.state.LrpState.{LrpState}
use Rattle.lrp_records.specs.declared.state.LrpState.TheVariants as lrp
use Rattle.bbs_model.specs.Tables.{find_actual}
use Rattle.bbs_model.specs.Work.{wants, fresh_in, may_go, runs}
use Rattle.bbs_model.specs.declared.rows.Rows.{Rows}
use Rattle.converge_laws.specs.Converged.{HasItsContainer, IsUnwantedKept, IsSuspected}
use Rattle.converge_laws.specs.Laws.{KeepsGround}
use Rattle.converge_laws.specs.Stages.{MayBePlaced, IsPlaceable}
use Rattle.converge_laws.proofs.Grounds.{may_go-ground}
use Rattle.converge_laws.proofs.Held.{held-ground}
use Rattle.converge_laws.proofs.Rests.{MayStand}

-- a SUSPECT row, if there is one, is as it should be where its instance is wanted and doesn't run
pub suspected-any : (rows : Rows) (key : Key) → wants rows key ≡ true → runs (find_actual rows key Ordinary) ≡ false
    → (r : Option Actual) → IsSuspected rows key r
suspected-any rows key wanted idle None = tt
suspected-any rows key wanted idle (Some a) = (wanted, idle)

module _ (old new : Rows) (stores : List Answer) (now : Moment) (ground : KeepsGround now old new) where
  container-ground : (a : Actual) (s : LrpState) → HasItsContainer old stores now a s
      → HasItsContainer new stores now a s
  container-ground a lrp.Unclaimed h = tt
  container-ground a (lrp.Claimed instance cell) h = held-ground old new stores now (job.Lrp a.key) instance cell
      (ground.there cell instance.epoch) ∙ h
  container-ground a (lrp.Running instance cell) h = held-ground old new stores now (job.Lrp a.key) instance cell
      (ground.there cell instance.epoch) ∙ h
  container-ground a lrp.Crashed h = tt

  pub unwanted-ground : (key : Key) (a : Actual) → IsUnwantedKept old stores now key a
      → IsUnwantedKept new stores now key a
  unwanted-ground key a h = (
    ground.wanted key ∙ h.0,
    may_go-ground now old new ground a ∙ h.1,
    container-ground a a.state h.2,
  )

  pub reason-ground : (key : Key) (a : Actual) → ((wants old key ≡ true) ⊎ (may_go old now a ≡ false))
      → (wants new key ≡ true) ⊎ (may_go new now a ≡ false)
  reason-ground key a h =
      ⊎_elim (λ (wanted : wants old key ≡ true). inl (ground.wanted key ∙ wanted))
      (λ (stale : may_go old now a ≡ false). inr (may_go-ground now old new ground a ∙ stale)) h

module _ (rows : Rows) (stores : List Answer) (now : Moment) (key : Key) (a : Actual) where
  container-placed : (s : LrpState) → MayBePlaced rows stores now a s → HasItsContainer rows stores now a s
  container-placed lrp.Unclaimed h = tt
  container-placed (lrp.Claimed instance cell) h = h
  container-placed (lrp.Running instance cell) h = h
  container-placed lrp.Crashed h = tt

  -- a row that may stand and may be placed is as it should be for now, wanted or not
  pub placeable-as : MayStand rows now key a.domain → MayBePlaced rows stores now a a.state
      → IsPlaceable rows stores now key (Some a)
  placeable-as reason h =
      ⊎_elim
      (λ (wanted : wants rows key ≡ true). inl (wanted, h))
      (λ (stale : (wants rows key ≡ false) × (option_map_or (fresh_in rows now) a.domain true ≡ false)).
      inr (stale.0, stale.1, container-placed a.state h))
      reason
