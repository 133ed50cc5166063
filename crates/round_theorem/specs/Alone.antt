-- What a round calls where nobody else calls, one command after another.
use Rattle.std.specs.Prelude.{◌≡◌, ◌⊎◌, ℕ, ◌+◌, ◌-◌, ◌^◌, ◌≤◌, min, List, [], ◌∷◌, ◌++◌, length, map}
use Rattle.auctioneer.specs.declared.placement.Placement.{Placement}
use Rattle.bbs_model.specs.PortView.{PortView}
use Rattle.bbs_model.specs.Replay.{rows_at}
use Rattle.bbs_model.specs.Runs.{state_after, legal_ones}
use Rattle.bbs_model.specs.Step.{verdict_of}
use Rattle.bbs_model.specs.Work.{work}
use Rattle.bbs_model.specs.declared.command.Command.{Command}
use Rattle.bbs_model.specs.declared.item.Item.{Item}
use Rattle.bbs_model.specs.declared.item.Item.TheVariants.{Done}
use Rattle.bbs_model.specs.declared.verdict.BoardRefusal.{BoardRefusal}
use Rattle.bbs_model.specs.declared.rows.Rows.{Rows}
use Rattle.bbs_model.specs.declared.verdict.Verdict.{Verdict}
use Rattle.bbs_model.specs.declared.verdict.Verdict.TheVariants as verdict
use Rattle.cell_records.specs.declared.answer.Answer.{Answer}
use Rattle.cell_records.specs.declared.job.Job.{Job}
use Rattle.convergence.specs.Plans.{plan_of_answers}
use Rattle.convergence.specs.declared.report.Report.{Report}
use Rattle.converge_laws.specs.Laws.{after_work, after_plan}
use Rattle.converge_round.specs.Places.{placements, jobs_on, unplaced, fails_of}
use Rattle.converge_round.specs.Starts.{IsClaim}
use Rattle.crash_backoff.specs.declared.moment.Moment.{Moment}

-- the rows at a place of what was seen of a log
abbrev pub rows_then : PortView → ℕ → Rows
rows_then v place = rows_at v.base v.seen place

-- the items of commands that are called one after another: each that is legal in its turn
abbrev pub items_of : ℕ → Rows → List Command → List Item
items_of by rows cs = map (λ (c : Command). Done by c) (legal_ones rows cs)

-- the command with its cause, if it is refused
abbrev pub refusal_by : Command → Verdict → List (Command × BoardRefusal)
refusal_by c verdict.Ok = []
refusal_by c verdict.Same = []
refusal_by c (verdict.Refused why) = (c, why) ∷ []

-- those that are refused in their turn, each with its cause
abbrev pub refused_of : Rows → List Command → List (Command × BoardRefusal)
refused_of rows [] = []
refused_of rows (c ∷ cs) = refusal_by c (verdict_of rows c) ++ refused_of (state_after rows c) cs

-- claims of these jobs on that cell, in order, but for so many
abbrev pub AreClaimsOn : Moment → List ℕ → List Job → ℕ → List Command → Type 0
AreClaimsOn now cell [] missing cs = (missing ≡ 0) × (cs ≡ [])
AreClaimsOn now cell (job ∷ jobs) missing cs =
    ((m : ℕ) × (missing ≡ m + 1) × AreClaimsOn now cell jobs m cs)
    ⊎ ((c : Command) × (rest : List Command) × (cs ≡ c ∷ rest) × IsClaim now cell job c
    × AreClaimsOn now cell jobs missing rest)

-- claims of the jobs of these cells, cell by cell, but for so many
abbrev pub AreClaims : Moment → Rows → List Placement → List Answer → ℕ → List Command → Type 0
AreClaims now rows list [] missing cs = (missing ≡ 0) × (cs ≡ [])
AreClaims now rows list (x ∷ xs) missing cs =
    (m : ℕ) × (n : ℕ) × (here : List Command) × (rest : List Command) × (missing ≡ m + n) × (cs ≡ here ++ rest)
    × AreClaimsOn now x.cell (jobs_on rows list x.cell) m here × AreClaims now rows list xs n rest

-- a round that nobody disturbed: its commands are the work at its start, the plan at the rows after that, and the
-- claims and notes of the auction at the rows after both; its items and its refusals are those of these commands; a
-- claim is missing only where its start was lost
pub record IsAlone (by : ℕ) (now : Moment) (got roomy : List Answer) (v : PortView) (r : Report) : Type 0 where
  pub claims : List Command
  pub missing : ℕ
  pub lost : min missing (2 ^ 64 - 1) ≤ r.lost
  pub are_claims : AreClaims now (after_plan (rows_then v r.start) got now)
      (placements (after_plan (rows_then v r.start) got now) roomy) roomy missing claims
  pub calls : List Command
  pub calls_are : calls ≡ work (rows_then v r.start) now
      ++ (plan_of_answers (after_work (rows_then v r.start) now) got now
      ++ (claims ++ fails_of (after_plan (rows_then v r.start) got now) now
      (unplaced (placements (after_plan (rows_then v r.start) got now) roomy))))
  pub before : List Item
  pub start : r.start ≡ length before
  pub log : v.seen ≡ before ++ items_of by (rows_then v r.start) calls
  pub refused : r.refused ≡ refused_of (rows_then v r.start) calls
