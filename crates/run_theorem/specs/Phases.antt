-- A phase that ended, and its stretch of the log.
use Rattle.std.specs.Prelude.{◌≡◌, ◌⊎◌, ℕ, suc, ◌<◌, ◌≤◌, false, List, [], ◌++◌, length, take, drop, All, Option, Some, None}
use Rattle.std.specs.List.{Contains, filter_map, flat_map, slice_get}
use Rattle.std.specs.Option.{option_to_list}
use Rattle.bbs_board.specs.Doubts.{doubts_in}
use Rattle.bbs_model.specs.Calls.{by_number}
use Rattle.bbs_model.specs.PortView.{PortView}
use Rattle.bbs_model.specs.Replay.{command_in, rows_at}
use Rattle.bbs_model.specs.declared.command.Command.{Command}
use Rattle.bbs_model.specs.declared.item.Item.{Item}
use Rattle.bbs_model.specs.declared.item.Item.TheVariants.{Doubt}
use Rattle.bbs_model.specs.declared.rows.Rows.{Rows}
use Rattle.cell_records.specs.declared.answer.Answer.{Answer}
use Rattle.cell_rep.specs.Reps.{answer_of}
use Rattle.cell_rep.specs.Wires.{WireEnds}
use Rattle.cell_rep.specs.declared.rep.CellRep.{CellRep}
use Rattle.converge_laws.specs.Converged.{IsConverged}
use Rattle.convergence.specs.declared.report.Report.{Report}
use Rattle.converge_round.specs.Items.{AreHeard, AreLeft, IsOfTable}
use Rattle.converge_round.specs.Reps.{KeepReps}
use Rattle.converge_round.specs.Rounds.{IsRound, standing}
use Rattle.converge_round.specs.Sendings.{wire_at}
use Rattle.crash_backoff.specs.declared.moment.Moment.{Moment}
use Rattle.round_theorem.specs.Accounts.{HasAccount}
use Rattle.round_theorem.specs.Complete.{IsComplete}
use Rattle.scenario_lines.specs.declared.answered.Answered.{Answered}
use Rattle.scenario_lines.specs.declared.script.Phase.{Phase}
use Rattle.scenario_lines.specs.declared.script.RoundLine.{RoundLine}
use Rattle.phase_actors.specs.Turns.{is_any_unfed, turns_in}
use Rattle.phase_actors.specs.declared.actor_state.ActorState.{ActorState}
use Rattle.phase_runs.specs.Actors.{AreSameActors}
use Rattle.phase_runs.specs.Reps.{reps_of, with_reps}
use Rattle.phase_runs.specs.RoundMarks.{round_ends}
use Rattle.phase_text.specs.Sorting.{by_line}
use Rattle.run_theorem.specs.Actors.{DoesTurns}
use Rattle.run_theorem.specs.Answers.{answer_items, IsTrueOf, LieBetween}

-- the items of a log from one place up to another
abbrev pub between : ℕ → ℕ → List Item → List Item
between from upto log = drop from (take upto log)

-- the actor with that number did all of its lines, each as often as it says, and none wanted memory; its items there
-- are those of its answers, in their order; its answers have their places there, and are true
pub record ActorAgrees (base : Rows) (log : List Item) (phase : Phase) (from upto by : ℕ) (a a' : ActorState)
    (answers : List Answered) : Type 0 where
  pub did : DoesTurns by phase.at (turns_in by phase.lines) a answers a'
  pub fed : is_any_unfed answers ≡ false
  pub items : by_number by (between from upto log) ≡ flat_map answer_items answers
  pub places : LieBetween from upto answers
  pub replies : All (IsTrueOf base log) answers

-- the rows at a place behind the first asked for an item that stands behind that place
pub record IsAskedFor (base : Rows) (log : List Item) (now : Moment) (got roomy : List Answer) (from upto : ℕ)
    (i : Item) : Type 0 where
  pub place : ℕ
  pub low : from ≤ place
  pub behind : Contains (between place upto log) i
  pub asked : IsOfTable got roomy now (rows_at base log place) (command_in i)

-- that holds of the rows of some place there
pub record HeldThere (base : Rows) (log : List Item) (from upto : ℕ) (Of : Rows → Type 0) : Type 0 where
  pub place : ℕ
  pub low : from ≤ place
  pub high : place ≤ upto
  pub holds : Of (rows_at base log place)

-- each item of a round over these reps was asked for: by the work or the plan at the rows of some place there, or by an
-- auction; the answers are those that the reps gave, and the roomy cells, if there are any, are of those that answered
pub record RoundAsks (base : Rows) (log : List Item) (now : Moment) (reps : List CellRep) (from upto : ℕ) : Type 0 where
  pub got : List Answer
  pub roomy : List Answer
  pub heard : HeldThere base log from upto (AreHeard reps now got)
  pub left : (roomy ≡ []) ⊎ HeldThere base log from upto (λ stray_rows.
      HeldThere base log from upto (AreLeft reps got roomy stray_rows))
  pub each : (i : Item) → Contains (by_number 0 (between from upto log)) i →
      IsAskedFor base log now got roomy from upto i

-- what a caller saw first and last of a board lies there, and its items between the two are its items there
pub record SeesBetween (base : Rows) (log : List Item) (from upto by : ℕ) (v w : PortView) : Type 0 where
  pub base_is : v.base ≡ base
  pub first : v.seen ≡ take (length v.seen) log
  pub low : from ≤ length v.seen
  pub last : w.seen ≡ take (length w.seen) log
  pub high : length w.seen ≤ upto
  pub own : w.mine ≡ v.mine ++ by_number by (between from upto log)

-- the report is the round line's; the round began and ended there, and went over the cells' reps and a wire that loses
-- what the line says; the report has its account, by which each of its items was asked for; its stores are what the
-- cells answer after the round; and if it is complete, all is as it should be, at the rows where the round ended
pub record ReportAgrees (base : Rows) (log : List Item) (now : Moment) (line : RoundLine) (from upto : ℕ)
    (olds news : List ActorState) (r : Report) : Type 0 where
  pub line_is : r.line ≡ line.line
  pub low : from ≤ r.start
  pub high : r.end ≤ upto
  pub first : PortView
  pub last : PortView
  pub sees : SeesBetween base log from upto 0 first last
  pub ends : Option WireEnds
  pub losses : ℕ
  pub round : IsRound 0 now line.line (standing first (reps_of olds) (wire_at (Some (round_ends line)) 0))
      (standing last (reps_of news) (wire_at ends losses)) r
  pub account : HasAccount 0 now (standing first (reps_of olds) (wire_at (Some (round_ends line)) 0))
      (standing last (reps_of news) (wire_at ends losses)) r
  pub items : (i : Item) → Contains (by_number 0 (between from upto log)) i →
      IsAskedFor base log now account.got account.roomy r.start r.end i
  pub stores : r.stores.value ≡ filter_map answer_of (reps_of news)
  pub complete : IsComplete r → IsConverged (rows_at base log r.end) r.stores.value now

-- a round has a report; or a fault of the disk ended it, whose doubt is an item of it, so that no phase follows
abbrev pub IsReported : Rows → List Item → Moment → RoundLine → ℕ → ℕ → List ActorState → List ActorState →
    Option Report → Type 0
IsReported base log now line from upto olds news None = (c : Command) × Contains (between from upto log) (Doubt 0 c)
IsReported base log now line from upto olds news (Some r) = ReportAgrees base log now line from upto olds news r

-- a round was held behind the actors: of them it changed the cells' reps alone, and of those the containers alone
pub record RoundAgrees (base : Rows) (log : List Item) (now : Moment) (line : RoundLine) (from upto : ℕ)
    (olds news : List ActorState) (report : Option Report) : Type 0 where
  pub asks : RoundAsks base log now (reps_of olds) from upto
  pub news_are : news ≡ with_reps olds (reps_of news)
  pub kept : KeepReps (reps_of olds) (reps_of news)
  pub reported : IsReported base log now line from upto olds news report

-- the round of a phase, if it has one; if not, nobody has the number 0
abbrev pub RoundAgreesIf : Option RoundLine → Rows → List Item → Moment → ℕ → ℕ → List ActorState → List ActorState →
    Option Report → Type 0
RoundAgreesIf None base log now from upto olds news report =
    (by_number 0 (between from upto log) ≡ []) × (news ≡ olds) × (report ≡ None)
RoundAgreesIf (Some line) base log now from upto olds news report =
    RoundAgrees base log now line from upto olds news report

-- where a scenario stands between two phases: the actors, the place in the log, the answers and the reports so far
pub record Point : Type 0 where
  pub actors : List ActorState
  pub place : ℕ
  pub answers : List Answered
  pub reports : List Report

-- a phase that began where no item was in doubt has its items up to a later place: each actor, whose number is one more
-- than its place, those of its answers, the round its own, and nobody else any; its answers stand by line behind those
-- before it, and so does its report
pub record PhaseAgrees (base : Rows) (log : List Item) (phase : Phase) (s s' : Point) : Type 0 where
  pub calm : doubts_in (take s.place log) ≡ 0
  pub rises : s.place ≤ s'.place
  pub within : s'.place ≤ length log
  pub parts : List (List Answered)
  pub report : Option Report
  pub mids : List ActorState
  pub count_is : length parts ≡ length s.actors
  pub same : AreSameActors s.actors mids
  pub actors : (k : ℕ) (a a' : ActorState) (answers : List Answered) → slice_get s.actors k ≡ Some a →
      slice_get mids k ≡ Some a' → slice_get parts k ≡ Some answers →
      ActorAgrees base log phase s.place s'.place (suc k) a a' answers
  pub round : RoundAgreesIf phase.round base log phase.at s.place s'.place mids s'.actors report
  pub others : (by : ℕ) → length s.actors < by → by_number by (between s.place s'.place log) ≡ []
  pub answers : s'.answers ≡ s.answers ++ by_line parts
  pub reports : s'.reports ≡ s.reports ++ option_to_list report
