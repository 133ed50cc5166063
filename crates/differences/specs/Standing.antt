-- When differences stand for the rows of a board, and when events lead from there to new rows.
use Rattle.std.specs.Prelude.{◌≡◌, ℕ, List, Option}
use Rattle.std.specs.Option.{option_map}
use Rattle.lrp_records.specs.declared.desired.Desired.{Desired}
use Rattle.bbs_model.specs.Tables.{find_desired}
use Rattle.bbs_model.specs.Valid.{IsValid}
use Rattle.bbs_model.specs.declared.event.Event.{Event}
use Rattle.bbs_model.specs.declared.rows.Rows.{Rows}
use Rattle.convergence.specs.Subjects.{Subject}
use Rattle.event_laws.specs.Told.{TellAll}
use Rattle.work_causes.specs.Causes.{causes_of, end_in, lease_in}
use Rattle.differences.specs.Noted.{Noted, celled, counted, domained, noted}

-- how many instances a process wants, if it is desired
abbrev pub count_in : Rows → List ℕ → Option ℕ
count_in rows process = option_map (λ (x : Desired). x.instances) (find_desired rows process)

-- the causes of each subject are those by the rows, and counts, leases and ends are the rows'
pub record StandsFor (d : Noted) (rows : Rows) : Type 0 where
  pub causes : (s : Subject) → noted d s ≡ causes_of rows s
  pub wanted : (process : List ℕ) → counted d process ≡ count_in rows process
  pub cells : (cell : List ℕ) → celled d cell ≡ lease_in rows cell
  pub domains : (name : List ℕ) → domained d name ≡ end_in rows name

-- the events tell all of a transition to these rows, from rows for which the differences stand
abbrev pub Follows : Noted → Event → Option Event → Rows → Type 0
Follows d first second new = (old : Rows) × IsValid old × IsValid new × StandsFor d old
    × TellAll old new (record { first = first; second = second })
