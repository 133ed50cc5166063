-- The commands of a round, and that none of them is refused.
use Rattle.std.specs.Prelude.{◌≡◌, ◌≢◌, List, [], ◌∷◌, Some}
use Rattle.std.specs.List.{Contains}
use Rattle.diego_names.specs.declared.key.Key.{Key}
use Rattle.lrp_records.specs.declared.presence.Presence.TheVariants.{Suspect}
use Rattle.bbs_model.specs.Found.{suspect_in}
use Rattle.bbs_model.specs.Runs.{state_after}
use Rattle.bbs_model.specs.Step.{verdict_of}
use Rattle.bbs_model.specs.declared.command.Command.{Command}
use Rattle.bbs_model.specs.declared.command.Op.{Op}
use Rattle.bbs_model.specs.declared.command.Op.TheVariants as op
use Rattle.bbs_model.specs.declared.rows.Rows.{Rows}
use Rattle.bbs_model.specs.declared.verdict.Verdict.{Verdict}
use Rattle.bbs_model.specs.declared.verdict.Verdict.TheVariants.{Ok, Same, Refused}
use Rattle.convergence.specs.Subjects.{OfPlace, subject_in}

-- the command is done, or had been
abbrev pub IsAccepted : Verdict → Type 0
IsAccepted Ok = Unit {0}
IsAccepted Same = Unit {0}
IsAccepted (Refused why) = ⊥

-- each command is accepted at the rows after those before it
abbrev pub AreAccepted : Rows → List Command → Type 0
AreAccepted rows [] = Unit {0}
AreAccepted rows (c ∷ cs) = IsAccepted (verdict_of rows c) × AreAccepted (state_after rows c) cs

-- a round asks for it; it changes at most the row that it is about, and a suspicion makes a SUSPECT row besides
abbrev pub IsOfRound : Op → Type 0
IsOfRound (op.Make key) = Unit {0}
IsOfRound (op.Claim key instance cell) = Unit {0}
IsOfRound (op.Crash key instance) = Unit {0}
IsOfRound (op.Unclaim key instance) = Unit {0}
IsOfRound (op.Restart key) = Unit {0}
IsOfRound (op.Remove key instance) = Unit {0}
IsOfRound (op.PlaceFail key) = Unit {0}
IsOfRound (op.DropEvacuating key instance) = Unit {0}
IsOfRound (op.StartTask name instance cell) = Unit {0}
IsOfRound (op.CompleteTask name instance failed) = Unit {0}
IsOfRound (op.CancelTask name) = Unit {0}
IsOfRound (op.KickTask name) = Unit {0}
IsOfRound (op.ExpireTask name) = Unit {0}
IsOfRound (op.Vanish cell) = Unit {0}
IsOfRound (op.Forget domain) = Unit {0}
IsOfRound (op.Suspect key instance) = Unit {0}
IsOfRound (op.DropSuspect key instance) = Unit {0}
IsOfRound other = ⊥

-- the later of two commands is about no row that the earlier one changes: neither the one that this is about, nor
-- a SUSPECT row that it makes
pub record IsApart (earlier later : Command) : Type 0 where
  pub subject : subject_in later ≢ subject_in earlier
  pub suspect : (key : Key) → suspect_in earlier.op ≡ Some key → subject_in later ≢ OfPlace (key, Suspect)

-- no two of these commands are about one row, and none is about a SUSPECT row that one before it makes
abbrev pub AreApart : List Command → Type 0
AreApart [] = Unit {0}
AreApart (c ∷ cs) = ((d : Command) → Contains cs d → IsApart c d) × AreApart cs
