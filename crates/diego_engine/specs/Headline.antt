-- The headline: what a run promises of the board that the disk holds, and of the log, the answers and the reports that it
-- gives back. What a scenario means that was played on a board stands in the crate of the laws of runs.
use Rattle.std.specs.Prelude.{◌≡◌, ◌⊎◌, ℕ, ◌+◌, List, [], length, Option, Some, Ok}
use Rattle.std.specs.List.{slice_get}
use Rattle.std.specs.Option.{ForSome}
use Rattle.disk_trait.specs.Past.{Past, Image, Images, ImagesSince, content}
use Rattle.disk_trait.specs.Shows.{Shows}
use Rattle.bbs_model.specs.Replay.{IsLawful}
use Rattle.bbs_model.specs.declared.command.Command.{Command}
use Rattle.bbs_model.specs.declared.item.Item.{Item}
use Rattle.bbs_model.specs.declared.item.Item.TheVariants.{Done}
use Rattle.bbs_model.specs.declared.rows.Rows.{Rows}
use Rattle.bbs_board.specs.Doubts.{doubts_in, RoseForEach}
use Rattle.bbs_board.specs.Kept.{IsFound, RiseBetween}
use Rattle.bbs_board.specs.Opening.{IsBoard}
use Rattle.convergence.specs.declared.report.Report.{Report}
use Rattle.program_ends.specs.Ports.{IsTold}
use Rattle.program_ends.specs.Reading.{ReadsWhole}
use Rattle.program_ends.specs.declared.ending.Ending.{Ending}
use Rattle.program_ends.specs.declared.ending.Ending.TheVariants as ending
use Rattle.run_theorem.specs.Ends.{PhasesEndInTime}
use Rattle.run_theorem.specs.Headline.{IsFaithful}
use Rattle.scenario_lines.specs.declared.answered.Answered.{Answered}
use Rattle.scenario_lines.specs.declared.script.Script.{Script}
use Rattle.scenario_reader.specs.Accepted.{script_of}

-- whatever a stop since p left is what a stop at p itself could leave, or a board that the log reaches; and each item has a
-- mark, a moment between p and q, since which all that a stop left is a board that the log reaches with that item, if it was done
pub record KeptSince (rows : Rows) (log : List Item) (marks : List ℕ) (p q : Past) : Type 0 where
  pub count : length marks ≡ length log
  pub rising : RiseBetween p.clock marks q.clock
  pub found : (image : Image) → ImagesSince q p.clock image → Images p image ⊎ IsFound rows log 0 image
  pub acknowledged : (place mark by : ℕ) (command : Command) → slice_get log place ≡ Some (Done by command)
      → slice_get marks place ≡ Some mark
      → (image : Image) → ImagesSince q mark image → IsFound rows log (place + 1) image

-- from p to q a board that began with these rows took this log: each command in it is legal at its place; it is kept since
-- p; and each doubt in it has a fault of the disk for its cause
pub record TakesLog (rows : Rows) (log : List Item) (marks : List ℕ) (p q : Past) (faults faults' : ℕ) : Type 0 where
  pub lawful : IsLawful rows log
  pub kept : KeptSince rows log marks p q
  pub doubts : RoseForEach (doubts_in log) faults faults'

-- where the disk tells its past at entry and at the end, and reads as a board at entry: that board took this log
abbrev pub BoardTakesLog : List Item → List ℕ → Option Past → Option Past → ℕ → ℕ → Type 0
BoardTakesLog log marks told told' faults faults' =
    ForSome told (λ p. ForSome told' (λ q. (rows : Rows) → IsBoard rows (content p) → TakesLog rows log marks p q faults faults'))

-- nothing was done, and nothing is told of it
abbrev pub IsIdle : List Item → List Answered → List Report → Type 0
IsIdle log answers reports = (log ≡ []) × (answers ≡ []) × (reports ≡ [])

-- the source gave a scenario, and a board with these rows was opened, which the disk holds where it tells of it; the log,
-- the answers and the reports of the run are faithful to the two; and where the disk tells its past at entry and at the
-- end, each phase ended at a moment between them, at which the disk held what was done by then and nothing else
pub record IsFaithfulTo (how : Ending) (log : List Item) (marks : List ℕ) (answers : List Answered) (reports : List Report)
    (left left' : Option (List ℕ)) (told told' : Option Past) : Type 0 where
  pub script : Script
  pub rows : Rows
  pub reads : ReadsWhole script_of (Ok script) left left'
  pub opened : (image : Image) → Shows told image → IsTold told' → IsBoard rows image
  pub faithful : IsFaithful script how answers reports rows log
  pub ends : ForSome told (λ p. ForSome told' (λ q. PhasesEndInTime marks q p.clock faithful))

-- what a run did: with status 0, with 4 and with a doubt it played a scenario; where memory ran out, it did or had done
-- nothing; and with any other end nothing
abbrev pub DidRun : Ending → List Item → List ℕ → List Answered → List Report → Option (List ℕ) → Option (List ℕ) →
    Option Past → Option Past → Type 0
DidRun ending.Done log marks answers reports left left' told told' =
    IsFaithfulTo ending.Done log marks answers reports left left' told told'
DidRun ending.Doubt log marks answers reports left left' told told' =
    IsFaithfulTo ending.Doubt log marks answers reports left left' told told'
DidRun ending.Unwritten log marks answers reports left left' told told' =
    IsFaithfulTo ending.Unwritten log marks answers reports left left' told told'
DidRun ending.OutOfMemory log marks answers reports left left' told told' =
    IsFaithfulTo ending.OutOfMemory log marks answers reports left left' told told' ⊎ IsIdle log answers reports
DidRun other log marks answers reports left left' told told' = IsIdle log answers reports

-- The headline. For every interleaving, lost or repeated call and stop within any disk write, recovery gives the board
-- after a prefix of the log that holds every acknowledged transition, or what a stop before the run could leave (`recovery`); each reply is the one-thread board's at
-- its place; no task completes twice; a legal transition is refused only for a disk fault or want of memory; and each
-- complete round leaves exactly one ordinary live or backing-off instance per desired index, and none undesired (`run`).
pub record Headline (how : Ending) (log : List Item) (marks : List ℕ) (answers : List Answered) (reports : List Report)
    (left left' : Option (List ℕ)) (told told' : Option Past) (faults faults' : ℕ) : Type 0 where
  pub recovery : BoardTakesLog log marks told told' faults faults'
  pub run : DidRun how log marks answers reports left left' told told'
