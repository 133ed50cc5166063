-- Why convergence asks a subject for something: causes, of which one has to hold.
use Rattle.std.specs.Prelude.{ℕ, ◌+◌, ◌==◌, Bool, true, false, not, List, [], ◌∷◌, ◌++◌, nat_le, option_to_list, Option, Some, None, if◌then◌else◌}
use Rattle.std.specs.List.{list_any}
use Rattle.std.specs.Option.{option_map, option_map_or, unwrap_or}
use Rattle.cell_records.specs.declared.cell_row.CellRow.{CellRow}
use Rattle.crash_backoff.specs.Backoff.{due_from}
use Rattle.crash_backoff.specs.declared.moment.Moment.{Moment}
use Rattle.diego_names.specs.declared.key.Key.{Key}
use Rattle.lrp_records.specs.declared.actual.Actual.{Actual}
use Rattle.lrp_records.specs.declared.presence.Presence.{Presence}
use Rattle.lrp_records.specs.declared.presence.Presence.TheVariants.{Ordinary, Evacuating, Suspect}
use Rattle.lrp_records.specs.declared.state.LrpState.{LrpState}
use Rattle.lrp_records.specs.declared.state.LrpState.TheVariants as lrp
use Rattle.task_records.specs.declared.state.TaskState.{TaskState}
use Rattle.task_records.specs.declared.state.TaskState.TheVariants as task
use Rattle.task_records.specs.declared.task.Task.{Task}
use Rattle.bbs_model.specs.Tables.{find_actual, find_cell, find_domain, find_task}
use Rattle.bbs_model.specs.Work.{wants}
use Rattle.bbs_model.specs.declared.domain_row.DomainRow.{DomainRow}
use Rattle.bbs_model.specs.declared.rows.Rows.{Rows}
use Rattle.convergence.specs.Subjects.{Subject}
use Rattle.convergence.specs.Subjects as on
use Rattle.work_causes.specs.declared.cause.Cause.{Cause}
use Rattle.work_causes.specs.declared.cause.Cause.TheVariants.{Always, From, Past, While, Anew}
use Rattle.work_causes.specs.declared.cause.Causes.{Causes}
use Rattle.work_causes.specs.declared.cause.Lease.{Lease}
use Rattle.work_causes.specs.declared.cause.Term.{Term}
use Rattle.work_causes.specs.declared.cause.Term.TheVariants.{OfEpoch, OfDomain}

-- when leases of cells and domains end, by their names: of a domain never, or at a second
pub record Ends : Type 0 where
  pub cells : List ℕ → Option Lease
  pub domains : List ℕ → Option (Option ℕ)

-- the lease of a cell's row
abbrev pub lease_of : CellRow → Lease
lease_of c = record { epoch = c.epoch; until = c.until }

-- the lease of each cell that has joined
abbrev pub lease_in : Rows → List ℕ → Option Lease
lease_in rows cell = option_map lease_of (find_cell rows cell)

-- the end of each domain that has a row
abbrev pub end_in : Rows → List ℕ → Option (Option ℕ)
end_in rows name = option_map (λ (d : DomainRow). d.until) (find_domain rows name)

-- the ends that the rows of a board tell
abbrev pub ends_of : Rows → Ends
ends_of rows = record { cells = lease_in rows; domains = end_in rows }

-- the second at which the lease under an epoch ends: 0 where there is none
abbrev pub end_under : Option Lease → ℕ → ℕ
end_under lease epoch = option_map_or (λ (l : Lease). if l.epoch == epoch then l.until else 0) lease 0

-- the first second at which a term is over, if there is one: 0 where no row tells of it
abbrev pub until_of : Ends → Term → Option ℕ
until_of ends (OfEpoch cell epoch) = Some (end_under (ends.cells cell) epoch)
until_of ends (OfDomain name) = unwrap_or (ends.domains name) (Some 0)

-- the second, if there is one, is reached
abbrev pub is_reached : Moment → Option ℕ → Bool
is_reached now until = option_map_or (λ (second : ℕ). nat_le second now.0) until false

-- the term is over
abbrev pub is_over : Ends → Moment → Term → Bool
is_over ends now term = is_reached now (until_of ends term)

-- the lease is under another epoch
abbrev pub is_of_other : Option Lease → ℕ → Bool
is_of_other lease epoch = option_map_or (λ (l : Lease). not (l.epoch == epoch)) lease false

-- the cause holds at a moment where leases and domains end so
abbrev pub holds_by : Ends → Moment → Cause → Bool
holds_by ends now Always = true
holds_by ends now (From second) = nat_le second now.0
holds_by ends now (Past term) = is_over ends now term
holds_by ends now (While term) = not (is_over ends now term)
holds_by ends now (Anew cell epoch) = is_of_other (ends.cells cell) epoch

-- the cause holds at a moment
abbrev pub holds : Rows → Moment → Cause → Bool
holds rows now cause = holds_by (ends_of rows) now cause

-- one of the causes holds where leases and domains end so
abbrev pub any_holds_by : Ends → Moment → List Cause → Bool
any_holds_by ends now causes = list_any (holds_by ends now) causes

-- those of three causes that there are
abbrev pub those_of : Option Cause → Option Cause → Option Cause → List Cause
those_of first second third = option_to_list first ++ (option_to_list second ++ option_to_list third)

-- the causes as a list
abbrev pub listed : Causes → List Cause
listed causes = those_of causes.first causes.second causes.third

-- the cause, where a test passes
abbrev pub cause_if : Bool → Cause → Option Cause
cause_if passes cause = if passes then Some cause else None

-- what keeps a row that isn't wanted: nothing, or that nobody vouches for its domain
abbrev pub going : Option (List ℕ) → Cause
going None = Always
going (Some domain) = While (OfDomain domain)

-- a container is lost once the lease of its cell is over
abbrev pub lost : LrpState → Option Cause
lost lrp.Unclaimed = None
lost (lrp.Claimed instance cell) = Some (Past (OfEpoch cell instance.epoch))
lost (lrp.Running instance cell) = Some (Past (OfEpoch cell instance.epoch))
lost lrp.Crashed = None

-- from a second on, if there is one
abbrev pub from : Option ℕ → Option Cause
from second = option_map From second

-- a crashed instance is tried again from the second at which its wait ends, if it does
abbrev pub tried : Actual → LrpState → Option Cause
tried a lrp.Unclaimed = None
tried a (lrp.Claimed instance cell) = None
tried a (lrp.Running instance cell) = None
tried a lrp.Crashed = from (due_from a.since a.count)

-- an instance that is wanted is tried again
abbrev pub tried_if : Bool → Actual → Option Cause
tried_if wanted a = if wanted then tried a a.state else None

-- a state that is RUNNING runs as long as the lease of its cell lasts
abbrev pub lasting : LrpState → Option Cause
lasting lrp.Unclaimed = None
lasting (lrp.Claimed instance cell) = None
lasting (lrp.Running instance cell) = Some (While (OfEpoch cell instance.epoch))
lasting lrp.Crashed = None

-- the row is there, and runs as long as the lease of its cell lasts
abbrev pub replaced : Option Actual → Option Cause
replaced None = None
replaced (Some a) = lasting a.state

-- the cell of a container joins anew
abbrev pub joined : LrpState → Option Cause
joined lrp.Unclaimed = None
joined (lrp.Claimed instance cell) = None
joined (lrp.Running instance cell) = Some (Anew cell instance.epoch)
joined lrp.Crashed = None

-- the first cause that there is
abbrev pub first_of_two : Option Cause → Option Cause → Option Cause
first_of_two None other = other
first_of_two (Some cause) other = Some cause

-- the SUSPECT row of an instance that is wanted is dropped: while another runs in its place, or where none is
-- RUNNING there, while its cell has joined anew
abbrev pub dropped_if : Bool → Option Actual → Actual → Option Cause
dropped_if wanted ordinary a = if wanted then first_of_two (replaced ordinary) (joined a.state) else None

-- one cause at most
abbrev pub one_of : Option Cause → Causes
one_of first = record { first = first; second = None; third = None }

-- the causes at the place of an ORDINARY row, by whether the instance is wanted
abbrev pub ordinary_causes : Bool → Option Actual → List Cause
ordinary_causes wanted None = listed (one_of (cause_if wanted Always))
ordinary_causes wanted (Some a) =
    those_of (cause_if (not wanted) (going a.domain)) (lost a.state) (tried_if wanted a)

-- the causes at the place of an EVACUATING row, beside the ORDINARY row
abbrev pub evacuating_causes : Bool → Option Actual → Option Actual → List Cause
evacuating_causes wanted ordinary None = []
evacuating_causes wanted ordinary (Some a) =
    those_of (cause_if (not wanted) (going a.domain)) (lost a.state) (replaced ordinary)

-- the causes at the place of a SUSPECT row, beside the ORDINARY row
abbrev pub suspect_causes : Bool → Option Actual → Option Actual → List Cause
suspect_causes wanted ordinary None = []
suspect_causes wanted ordinary (Some a) =
    those_of (cause_if (not wanted) Always) (dropped_if wanted ordinary a) None

-- the causes at a place: by whether the instance is wanted, its ORDINARY row, and its row of this presence
abbrev pub place_causes : Presence → Bool → Option Actual → Option Actual → List Cause
place_causes Ordinary wanted ordinary own = ordinary_causes wanted own
place_causes Evacuating wanted ordinary own = evacuating_causes wanted ordinary own
place_causes Suspect wanted ordinary own = suspect_causes wanted ordinary own

-- the cause of a task by its state and the moment of that: one that no cell takes has half an hour, an outcome that
-- nobody takes two minutes, and a client that doesn't end 30 seconds
abbrev pub state_cause : Moment → TaskState → Cause
state_cause since task.Pending = From (since.0 + 1800)
state_cause since (task.Running instance cell) = Past (OfEpoch cell instance.epoch)
state_cause since (task.Completed failed) = From (since.0 + 120)
state_cause since (task.Resolving failed) = From (since.0 + 30)

-- the cause of a task
abbrev pub task_cause : Task → Cause
task_cause t = state_cause t.since t.state

-- a cell is dropped once its lease ends
abbrev pub lease_causes : Option Lease → List Cause
lease_causes None = []
lease_causes (Some l) = From l.until ∷ []

-- a domain is dropped once it ends
abbrev pub end_causes : Option (Option ℕ) → List Cause
end_causes None = []
end_causes (Some until) = option_to_list (from until)

-- the causes of a subject: three at most
abbrev pub causes_of : Rows → Subject → List Cause
causes_of rows (on.OfCell cell) = lease_causes (lease_in rows cell)
causes_of rows (on.OfDomain name) = end_causes (end_in rows name)
causes_of rows (on.OfPlace place) =
    place_causes place.1 (wants rows place.0) (find_actual rows place.0 Ordinary) (find_actual rows place.0 place.1)
causes_of rows (on.OfTask name) = option_to_list (option_map task_cause (find_task rows name))
causes_of rows (on.OfProcess process) = []
