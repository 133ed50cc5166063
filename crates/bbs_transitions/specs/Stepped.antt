-- What came of a command that was tried on a store.
use Rattle.std.specs.Prelude.{◌≡◌, ◌+◌, ◌<◌, ◌^◌, Option, Some}
use Rattle.bbs_model.specs.Step.{verdict_of, IsLegal, events_of, edited, changed_by}
use Rattle.bbs_model.specs.Tables.{wanted}
use Rattle.bbs_model.specs.Valid.{IsValid}
use Rattle.bbs_model.specs.declared.attempt.Attempt.{Attempt}
use Rattle.bbs_model.specs.declared.attempt.Attempt.TheVariants.{Refuse, Keep, Change}
use Rattle.bbs_model.specs.declared.attempt.Edit.{Edit}
use Rattle.bbs_model.specs.declared.command.Command.{Command}
use Rattle.bbs_model.specs.declared.rows.Rows.{Rows}
use Rattle.bbs_model.specs.declared.verdict.Verdict.TheVariants as verdict
use Rattle.bbs_transitions.specs.declared.stepped.Stepped.{Stepped}
use Rattle.bbs_transitions.specs.declared.stepped.Stepped.TheVariants.{Done, Same, Refused}

-- the command was legal and these are its events, or this is its verdict
abbrev pub TellsStep : Stepped → Rows → Command → Type 0
TellsStep (Done events) rows c = IsLegal rows c × (Some events ≡ events_of rows c)
TellsStep Same rows c = verdict_of rows c ≡ verdict.Same
TellsStep (Refused why) rows c = verdict_of rows c ≡ verdict.Refused why

-- edits that leave a board, and after the first of which what all processes want together fits
pub record LeaveABoard (rows : Rows) (first : Edit) (second : Option Edit) : Type 0 where
  pub fits : wanted (edited rows first) < 2 ^ 32
  pub valid : IsValid (changed_by rows (Change first second))

-- the attempt is a change that leaves a board
abbrev pub IsDoable : Rows → Attempt → Type 0
IsDoable rows (Refuse why) = ⊥
IsDoable rows Keep = ⊥
IsDoable rows (Change first second) = LeaveABoard rows first second
