-- What each cause by itself tells of the rows.
use Rattle.std.proofs.Common.{◌≡◌, ℕ, ◌==◌, ◌+◌, Bool, true, false, cond, not, ◌&&◌, ◌||◌, List, [], ◌∷◌, ◌++◌, nat_le, nat_lt, option_to_list, Option, Some, None, is_some, refl, ap, sym, ◌∙◌, arith}
use Rattle.std.proofs.lemmas.Bool.Decides.{nat_tests}
use Rattle.std.proofs.lemmas.List.Folds.{list_any-append}
use Rattle.std.specs.List.{list_any}
use Rattle.std.specs.Option.{option_map, option_map_or, unwrap_or}
use Rattle.cell_records.specs.declared.cell_row.CellRow.{CellRow}
use Rattle.crash_backoff.specs.Backoff.{due_from}
use Rattle.crash_backoff.specs.declared.moment.Moment.{Moment}
use Rattle.diego_names.specs.declared.key.Key.{Key}
use Rattle.lrp_records.specs.declared.actual.Actual.{Actual}
use Rattle.lrp_records.specs.declared.state.LrpState.{LrpState}
use Rattle.lrp_records.specs.declared.state.LrpState.TheVariants as lrp
use Rattle.bbs_model.specs.Tables.{find_cell, find_domain}
use Rattle.bbs_model.specs.Work as told
use Rattle.bbs_model.specs.declared.domain_row.DomainRow.{DomainRow}
use Rattle.bbs_model.specs.declared.rows.Rows.{Rows}
use Rattle.work_causes.specs.Causes.{Ends, any_holds_by, cause_if, end_under, ends_of, from, going, holds_by, is_of_other, is_over, is_reached, joined, lasting, lease_of, lost, replaced, those_of, tried}
use Rattle.work_causes.specs.declared.cause.Cause.{Cause}
use Rattle.work_causes.specs.declared.cause.Cause.TheVariants.{Always, From, Past, While, Anew}
use Rattle.work_causes.specs.declared.cause.Term.TheVariants.{OfEpoch, OfDomain}
use Rattle.work_causes.proofs.Bools.{not_not, or_false}

-- what isn't reached is still to come
later : (until now : ℕ) → not (nat_le until now) ≡ nat_lt now until
later until now = grind (arith, nat_tests)

-- nothing lasts until second 0
at_once : (now : ℕ) → not (nat_le 0 now) ≡ false
at_once now = grind (arith, nat_tests)

-- one of three causes holds
pub any_of_three : (ends : Ends) (now : Moment) (a b c : Option Cause) → any_holds_by ends now (those_of a b c)
    ≡ (any_holds_by ends now (option_to_list a) || (any_holds_by ends now (option_to_list b) || any_holds_by ends now
    (option_to_list c)))
any_of_three ends now a b c =
    list_any-append (holds_by ends now) (option_to_list a) (option_to_list b ++ option_to_list c)
    ∙ ap (λ (x : Bool). any_holds_by ends now (option_to_list a) || x)
    (list_any-append (holds_by ends now) (option_to_list b) (option_to_list c))

-- a cause that there is where a test passes
pub any_if : (ends : Ends) (now : Moment) (b : Bool) (cause : Cause)
    → any_holds_by ends now (option_to_list (cause_if b cause)) ≡ (b && holds_by ends now cause)
any_if ends now true cause = or_false (holds_by ends now cause)
any_if ends now false cause = refl

module _ (rows : Rows) (now : Moment) where
  -- the lease under an epoch isn't over exactly where the cell is there
  lasts : (cell : List ℕ) (epoch : ℕ) → not (is_over (ends_of rows) now (OfEpoch cell epoch))
      ≡ told.is_there rows now cell epoch
  lasts cell epoch =
      elim (find_cell rows cell) as (λ (s : Option CellRow).
      not (nat_le (end_under (option_map lease_of s) epoch) now.0)
      ≡ option_map_or (λ (c : CellRow). c.epoch == epoch && nat_lt now.0 c.until) s false) [
        | None ↦ at_once now.0
        | (Some c) ↦ elim (c.epoch == epoch) as (λ (b : Bool). not (nat_le (cond b c.until 0) now.0)
            ≡ (b && nat_lt now.0 c.until)) [
              | true ↦ later c.until now.0
              | false ↦ at_once now.0
            ]
      ]

  pub over : (cell : List ℕ) (epoch : ℕ) → is_over (ends_of rows) now (OfEpoch cell epoch)
      ≡ not (told.is_there rows now cell epoch)
  over cell epoch = sym (not_not (is_over (ends_of rows) now (OfEpoch cell epoch))) ∙ ap not (lasts cell epoch)

  -- nothing keeps a row of this domain
  pub goes : (domain : Option (List ℕ)) → holds_by (ends_of rows) now (going domain)
      ≡ option_map_or (told.fresh_in rows now) domain true
  goes None = refl
  goes (Some name) =
      elim (find_domain rows name) as (λ (s : Option DomainRow).
      not (is_reached now (unwrap_or (option_map (λ (d : DomainRow). d.until) s) (Some 0)))
      ≡ option_map_or (λ (d : DomainRow). option_map_or (λ (until : ℕ). nat_lt now.0 until) d.until true) s false) [
        | None ↦ at_once now.0
        | (Some d) ↦ elim d.until as (λ (u : Option ℕ). not (is_reached now u)
            ≡ option_map_or (λ (until : ℕ). nat_lt now.0 until) u true) [
              | None ↦ refl
              | (Some until) ↦ later until now.0
            ]
      ]

  -- the container is lost
  pub is_lost_by : (s : LrpState) → any_holds_by (ends_of rows) now (option_to_list (lost s)) ≡ told.is_lost rows now s
  is_lost_by lrp.Unclaimed = refl
  is_lost_by (lrp.Claimed instance cell) = or_false (is_over (ends_of rows) now (OfEpoch cell instance.epoch)) ∙ over
      cell instance.epoch
  is_lost_by (lrp.Running instance cell) = or_false (is_over (ends_of rows) now (OfEpoch cell instance.epoch)) ∙ over
      cell instance.epoch
  is_lost_by lrp.Crashed = refl

  -- the state runs on a cell that is there
  pub runs_by : (s : LrpState) → any_holds_by (ends_of rows) now (option_to_list (lasting s)) ≡ told.runs_in rows now s
  runs_by lrp.Unclaimed = refl
  runs_by (lrp.Claimed instance cell) = refl
  runs_by (lrp.Running instance cell) = or_false (not (is_over (ends_of rows) now (OfEpoch cell instance.epoch))) ∙
      lasts cell instance.epoch
  runs_by lrp.Crashed = refl

  -- the row runs on a cell that is there
  pub replaced_by : (row : Option Actual) → any_holds_by (ends_of rows) now (option_to_list (replaced row))
      ≡ told.runs_there rows now row
  replaced_by None = refl
  replaced_by (Some a) = runs_by a.state

  -- the cell has joined anew
  pub joined_by : (s : LrpState) → any_holds_by (ends_of rows) now (option_to_list (joined s))
      ≡ told.has_joined_anew rows s
  joined_by lrp.Unclaimed = refl
  joined_by (lrp.Claimed instance cell) = refl
  joined_by (lrp.Running instance cell) =
      or_false (is_of_other (option_map lease_of (find_cell rows cell)) instance.epoch)
      ∙ elim (find_cell rows cell) as (λ (s : Option CellRow). is_of_other (option_map lease_of s) instance.epoch
      ≡ option_map_or (λ (c : CellRow). not (c.epoch == instance.epoch)) s false) [ None ↦ refl | (Some c) ↦ refl ]
  joined_by lrp.Crashed = refl

  -- the wait of a row is over
  pub due_by : (a : Actual) → any_holds_by (ends_of rows) now (option_to_list (from (due_from a.since a.count)))
      ≡ told.is_due a now
  due_by a =
      elim (due_from a.since a.count) as (λ (s : Option ℕ). any_holds_by (ends_of rows) now (option_to_list (from s))
      ≡ option_map_or (λ (at : ℕ). nat_le at now.0) s false)
      [ None ↦ refl | (Some second) ↦ or_false (nat_le second now.0) ]
