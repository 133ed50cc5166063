-- What a round may be refused where nobody else calls: the board has no room left.
use Rattle.std.specs.Prelude.{◌≡◌, ◌⊎◌, ℕ, List}
use Rattle.std.specs.List.{Contains}
use Rattle.bbs_model.specs.Limits.{most_actual}
use Rattle.bbs_model.specs.Valid.{IsValid}
use Rattle.bbs_model.specs.Work.{work}
use Rattle.bbs_model.specs.declared.command.Command.{Command}
use Rattle.bbs_model.specs.declared.rows.Rows.{Rows}
use Rattle.bbs_model.specs.declared.verdict.BoardRefusal.{BoardRefusal}
use Rattle.bbs_model.specs.declared.verdict.BoardRefusal.TheVariants.{BoardFull, TooMany}
use Rattle.cell_records.specs.declared.answer.Answer.{Answer}
use Rattle.convergence.specs.Plans.{plan_of_answers}
use Rattle.convergence.specs.declared.report.Report.{Report}
use Rattle.converge_round.specs.Askings.{StandApart}
use Rattle.converge_round.specs.Reps.{names_of}
use Rattle.converge_round.specs.Rounds.{Standing, IsRound}
use Rattle.crash_backoff.specs.declared.moment.Moment.{Moment}
use Rattle.round_theorem.specs.Alone.{refused_of}

-- the board has made its last transition, or has 100,000 actual rows
abbrev pub IsLack : BoardRefusal → Type 0
IsLack why = (why ≡ BoardFull) ⊎ (why ≡ TooMany most_actual)

-- each command that is refused in its turn is refused for that alone
abbrev pub AreRefusedForRoom : Rows → List Command → Type 0
AreRefusedForRoom rows cs = (x : Command × BoardRefusal) → Contains (refused_of rows cs) x → IsLack x.1

-- so is the work of all rows
abbrev pub WorkIsRefusedForRoom : Type 0
WorkIsRefusedForRoom = (rows : Rows) (now : Moment) → IsValid rows → AreRefusedForRoom rows (work rows now)

-- and so is what answers ask for
abbrev pub PlanIsRefusedForRoom : Type 0
PlanIsRefusedForRoom = (rows : Rows) (got : List Answer) (now : Moment) → IsValid rows →
    AreRefusedForRoom rows (plan_of_answers rows got now)

-- where nobody else called, and reps have unlike names, so is each refusal of a round's report
abbrev pub RoundsAloneAreRefusedForRoom : Type 0
RoundsAloneAreRefusedForRoom = (by : ℕ) (now : Moment) (line : ℕ) (s s' : Standing) (r : Report) →
    IsRound by now line s s' r → StandApart (names_of s.reps) → r.foreign ≡ 0 →
    (x : Command × BoardRefusal) → Contains r.refused x → IsLack x.1
