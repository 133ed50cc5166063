-- What comes of a script behind the phases that ran on the pair.
use Rattle.std.proofs.Common.{◌≡◌, inl, inr, ℕ, ◌-◌, ◌<◌, ◌≤◌, List, [], ◌++◌, length, Option, Some, None, subst}
use Rattle.disk_trait.specs.Past.{Past}
use Rattle.pair_lines.specs.declared.answered.PairAnswered.{PairAnswered}
use Rattle.pair_runs.specs.Phases.{PhasesEnd}
use Rattle.pair_runs.specs.Served.{ServerView}
use Rattle.pair_runs.specs.declared.phases.PhasesEnded.{PhasesEnded}
use Rattle.pair_runs.specs.declared.phases.PhasesEnded.TheVariants as ended
use Rattle.program_ends.specs.declared.ending.Ending.{Ending}
use Rattle.scenario_lines.specs.declared.script.Phase.{Phase}
use Rattle.scenario_lines.specs.declared.script.Script.{Script}
use Rattle.standby_board.specs.Calls.{IsSamePair}
use Rattle.standby_board.specs.Pairs.{PairView, StandsPaired}
use Rattle.pair_top.specs.Servers.{pair_server}
use Rattle.pair_top.specs.TakeOvers.{HandsOver}
use Rattle.pair_top.proofs.Begun.{alike_bases, copy_behind, empty_start, log_behind, none_behind}
use Rattle.pair_top.proofs.Handed.{handed}
use Rattle.pair_top.proofs.Ways.{Comes, starves_behind}

-- phases that began with no answer
pub from_none : (script : Script) (phases : List Phase) (end : PhasesEnded) (count : ℕ) (v w : ServerView)
    (before answers : List PairAnswered) (held held' : Option (List ℕ)) (writes writes' : ℕ) → before ≡ []
    → PhasesEnd script phases end count v w before answers held held' writes writes'
    → PhasesEnd script phases end count v w [] answers held held' writes writes'
from_none script phases end count v w before answers held held' writes writes' none ends =
    subst (λ (l : List PairAnswered). PhasesEnd script phases end count v w l answers held held' writes writes') none ends

-- phases that all ran
pub at_done : (script : Script) (phases : List Phase) (end : PhasesEnded) (count : ℕ) (v w : ServerView)
    (answers : List PairAnswered) (held held' : Option (List ℕ)) (writes writes' : ℕ) → end ≡ ended.Done
    → PhasesEnd script phases end count v w [] answers held held' writes writes'
    → PhasesEnd script phases ended.Done count v w [] answers held held' writes writes'
at_done script phases end count v w answers held held' writes writes' done ends =
    subst (λ (e : PhasesEnded). PhasesEnd script phases e count v w [] answers held held' writes writes') done ends

module _ {D E : Type 0} (told : D → Option Past) (faults : D → ℕ) (told' : E → Option Past) (faults' moment' : E → ℕ)
    (script : Script) (k : ℕ) (u : PairView D E) (fresh : u.primary.log ≡ []) (fresh' : u.standby.log ≡ [])
    (level : u.missing ≡ None) (v : PairView D E) (same : IsSamePair u v)
    (begun : u.primary_start ≡ u.primary) (begun' : u.standby_start ≡ u.standby)
    (stood : StandsPaired told told' u) (stands : StandsPaired told told' v) (before behind : List Phase)
    (split : script.phases ≡ before ++ behind) (end : PhasesEnded) (count : ℕ) (given : List PairAnswered)
    (held mid : Option (List ℕ)) (writes some : ℕ)
    (ends : PhasesEnd script before end count (pair_server faults faults' u) (pair_server faults faults' v)
    [] given held mid writes some)
    (first : 1 ≤ k) (within : k ≤ length script.phases) (behind_is : length before ≡ k - 1) (left : 0 < length behind)
    (done : end ≡ ended.Done) where
  all_ran : PhasesEnd script before ended.Done count (pair_server faults faults' u) (pair_server faults faults' v)
      [] given held mid writes some
  all_ran = at_done script before end count (pair_server faults faults' u) (pair_server faults faults' v) given held mid
      writes some done ends

  -- the standby took over behind them, or there was no memory for that
  pub goes_on : (answers : List PairAnswered) (how : Ending) (held' : Option (List ℕ)) (writes' : ℕ) (primary : D) (standby : E)
      → HandsOver told faults told' faults' moment' script behind k u.primary.base.next v given answers how
      mid held' some writes' primary standby
      → (taken : Option (List PairAnswered)) × Comes told faults told' faults' moment' script k u fresh fresh' level
      how answers taken held held' writes writes' primary standby
  goes_on answers how held' writes' primary standby (inl takes) = (
    Some given,
    handed told faults told' faults' moment' script k u fresh fresh' level v same before behind split count given
        held mid writes some all_ran
        (log_behind faults faults' u v fresh script before count given held mid writes some ended.Done all_ran)
        (copy_behind faults faults' u v fresh script before count given held mid writes some fresh' level all_ran)
        (none_behind faults faults' u v fresh script before count given held mid writes some fresh' level all_ran)
        (alike_bases told told' u v fresh fresh' begun begun' stood same stands)
        (empty_start told told' u v fresh fresh' begun begun' stood same stands)
        first within behind_is left answers how held' writes' primary standby takes,
  )
  goes_on answers how held' writes' primary standby (inr starves) = (
    None,
    starves_behind told faults told' faults' moment' script k u fresh fresh' level v same before behind split end count
        given held mid writes some ends left done answers how held' writes' primary standby starves,
  )
