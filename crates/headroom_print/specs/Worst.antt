-- The worst verdict of several answers.
use Rattle.std.specs.Prelude.{List, fold}
use Rattle.forecast_records.specs.declared.finding.Finding.{Finding}
use Rattle.forecast_records.specs.declared.finding.Finding.TheVariants as finding
use Rattle.forecast_records.specs.declared.finding.Found.{Found}
use Rattle.forecast_records.specs.declared.verdict.Verdict.{Verdict}
use Rattle.forecast_records.specs.declared.verdict.Verdict.TheVariants.{Room, Unplaced, Short}

-- the verdict of an answer
abbrev pub verdict_of : Finding → Verdict
verdict_of (finding.Show shown) = shown.verdict
verdict_of (finding.Lose lost) = lost.verdict
verdict_of (finding.LoseEach each) = each.verdict
verdict_of (finding.LoseInTurn turns) = turns.verdict
verdict_of (finding.Drain drained) = drained.verdict
verdict_of (finding.Fit fitted) = fitted.verdict

-- of two verdicts the one that stands later in the order room, unplaced, short
abbrev pub worse : Verdict → Verdict → Verdict
worse Room b = b
worse Unplaced Room = Unplaced
worse Unplaced Unplaced = Unplaced
worse Unplaced Short = Short
worse Short b = Short

-- of all answers the worst, room where there is none
abbrev pub worst : List Found → Verdict
worst found = fold (λ so_far one. worse so_far (verdict_of one.finding)) Room found
