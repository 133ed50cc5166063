-- A board stays one, whatever the verdict.
use Rattle.std.proofs.Common.{◌≡◌, refl}
use Rattle.bbs_model.specs.Runs.{if_legal, state_after}
use Rattle.bbs_model.specs.Step.{verdict_of, rows_after}
use Rattle.bbs_model.specs.Valid.{IsValid}
use Rattle.bbs_model.specs.declared.command.Command.{Command}
use Rattle.bbs_model.specs.declared.rows.Rows.{Rows}
use Rattle.bbs_model.specs.declared.verdict.Verdict.{Verdict}
use Rattle.bbs_model.specs.declared.verdict.Verdict.TheVariants.{Ok, Same, Refused}
use Rattle.bbs_laws.proofs.Public.{IsValid-rows_after}

by_verdict : (rows : Rows) (c : Command) → IsValid rows → (v : Verdict) → verdict_of rows c ≡ v
    → IsValid (if_legal v (rows_after rows c) rows)
by_verdict rows c valid Ok is = IsValid-rows_after rows c valid is
by_verdict rows c valid Same is = valid
by_verdict rows c valid (Refused why) is = valid

pub IsValid-state_after : (rows : Rows) (c : Command) → IsValid rows → IsValid (state_after rows c)
IsValid-state_after rows c valid = by_verdict rows c valid (verdict_of rows c) refl
