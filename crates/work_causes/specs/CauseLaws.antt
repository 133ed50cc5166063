-- The causes tell what is asked, and depend on little.
use Rattle.std.specs.Prelude.{◌≡◌, is_some}
use Rattle.crash_backoff.specs.declared.moment.Moment.{Moment}
use Rattle.diego_names.specs.declared.key.Key.{Key}
use Rattle.lrp_records.specs.declared.presence.Presence.{Presence}
use Rattle.lrp_records.specs.declared.presence.Presence.TheVariants.{Ordinary}
use Rattle.bbs_model.specs.Tables.{find_actual, find_task}
use Rattle.bbs_model.specs.Valid.{IsValid}
use Rattle.bbs_model.specs.Work.{wants}
use Rattle.bbs_model.specs.declared.rows.Rows.{Rows}
use Rattle.convergence.specs.Subjects.{Subject, work_on}
use Rattle.convergence.specs.Subjects as on
use Rattle.work_causes.specs.Causes.{causes_of, any_holds_by, end_in, ends_of, lease_in}

-- a subject is asked for something exactly where one of its causes holds
abbrev pub CausesTell : Type 0
CausesTell = (rows : Rows) (now : Moment) (s : Subject) → IsValid rows →
    is_some (work_on rows now s) ≡ any_holds_by (ends_of rows) now (causes_of rows s)

-- an instance is wanted as before, and its ORDINARY row and its row of this presence are as before
pub record IsPlaceAlike (place : Key × Presence) (old new : Rows) : Type 0 where
  pub wanted : wants new place.0 ≡ wants old place.0
  pub ordinary : find_actual new place.0 Ordinary ≡ find_actual old place.0 Ordinary
  pub own : find_actual new place.0 place.1 ≡ find_actual old place.0 place.1

-- what the causes of a subject depend on is as before
abbrev pub IsAlikeFor : Subject → Rows → Rows → Type 0
IsAlikeFor (on.OfCell cell) old new = lease_in new cell ≡ lease_in old cell
IsAlikeFor (on.OfDomain name) old new = end_in new name ≡ end_in old name
IsAlikeFor (on.OfPlace place) old new = IsPlaceAlike place old new
IsAlikeFor (on.OfTask name) old new = find_task new name ≡ find_task old name
IsAlikeFor (on.OfProcess process) old new = Unit {0}

-- then the causes are as before
abbrev pub CausesAreAlike : Type 0
CausesAreAlike = (s : Subject) (old new : Rows) → IsAlikeFor s old new → causes_of new s ≡ causes_of old s
