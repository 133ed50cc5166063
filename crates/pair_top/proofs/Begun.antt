-- A pair that was just started, and where it stands behind phases.
use Rattle.std.proofs.Common.{◌≡◌, ℕ, List, [], ◌++◌, length, Option, None, sym, ap, subst, ◌∙◌}
use Rattle.bbs_board.specs.View.{View, rows_of}
use Rattle.bbs_model.specs.Replay.{replay_log}
use Rattle.bbs_model.specs.declared.item.Item.{Item}
use Rattle.disk_trait.specs.Past.{Past}
use Rattle.pair_lines.specs.declared.answered.PairAnswered.{PairAnswered}
use Rattle.pair_runs.specs.Accounts.{Covers, items_in}
use Rattle.pair_runs.specs.Phases.{PhasesEnd}
use Rattle.pair_runs.specs.declared.phases.PhasesEnded.{PhasesEnded}
use Rattle.pair_runs.specs.declared.phases.PhasesEnded.TheVariants as ended
use Rattle.scenario_lines.specs.declared.script.Phase.{Phase}
use Rattle.scenario_lines.specs.declared.script.Script.{Script}
use Rattle.standby_board.specs.Calls.{IsSamePair}
use Rattle.standby_board.specs.Pairs.{PairView, StandsPaired, done_on_standby}
use Rattle.pair_top.specs.Servers.{pair_server}
use Rattle.pair_top.proofs.Joining.{served_all}
use Rattle.pair_top.proofs.PairServed.{level_of, none_missing}

module _ {D E : Type 0} (told : D → Option Past) (told' : E → Option Past) (u v : PairView D E)
    (fresh : u.primary.log ≡ []) (fresh' : u.standby.log ≡ [])
    (begun : u.primary_start ≡ u.primary) (begun' : u.standby_start ≡ u.standby)
    (stood : StandsPaired told told' u) (same : IsSamePair u v) (stands : StandsPaired told told' v) where
  -- both boards began with the same rows
  pub equal_bases : u.primary.base ≡ u.standby.base
  equal_bases = sym (ap (replay_log u.primary.base) fresh)
      ∙ ap (λ (b : View D). rows_of b) (sym begun) ∙ stood.paired.equal ∙ ap (λ (b : View E). rows_of b) begun'
      ∙ ap (replay_log u.standby.base) fresh'

  pub primary_base : v.primary.base ≡ u.primary.base
  primary_base = stands.primary.goes.base ∙ ap (λ (b : View D). b.base) (same.primary ∙ begun)

  pub standby_base : v.standby.base ≡ u.primary.base
  standby_base = stands.standby.goes.base ∙ ap (λ (b : View E). b.base) (same.standby ∙ begun') ∙ sym equal_bases

  pub alike_bases : v.standby.base ≡ v.primary.base
  alike_bases = standby_base ∙ sym primary_base

  pub empty_start : v.standby_start.log ≡ []
  empty_start = ap (λ (b : View E). b.log) (same.standby ∙ begun') ∙ fresh'

module _ {D E : Type 0} (faults : D → ℕ) (faults' : E → ℕ) (u v : PairView D E) (fresh : u.primary.log ≡ [])
    (script : Script) (phases : List Phase) (count : ℕ) (answers : List PairAnswered) (held held' : Option (List ℕ))
    (writes writes' : ℕ) where
  -- the log has the items of the answers
  pub log_behind : (end : PhasesEnded) → PhasesEnd script phases end count (pair_server faults faults' u)
      (pair_server faults faults' v) [] answers held held' writes writes' → v.primary.log ≡ items_in answers
  log_behind end ends = ends.served.log ∙ ap (λ (l : List Item). l ++ items_in (ends.first ++ ends.last)) fresh
      ∙ ap items_in (sym ends.answers_are)

  -- the standby has stored what was acknowledged
  pub covers_behind : (end : PhasesEnded) → PhasesEnd script phases end count (pair_server faults faults' u)
      (pair_server faults faults' v) [] answers held held' writes writes'
      → Covers [] (length (done_on_standby v)) answers
  covers_behind end ends =
      subst (λ (l : List PairAnswered). Covers [] (length (done_on_standby v)) l) (sym ends.answers_are)
      (subst (λ (l : List Item). Covers l (length (done_on_standby v)) (ends.first ++ ends.last)) fresh
      ends.served.followed.covers)

  module _ (fresh' : u.standby.log ≡ []) (level : u.missing ≡ None)
      (ends : PhasesEnd script phases ended.Done count (pair_server faults faults' u) (pair_server faults faults' v)
      [] answers held held' writes writes') where
    -- behind phases in which no disk failed nothing is missing on the standby, which has the same log
    level_behind : (v.missing ≡ None) × (v.standby.log ≡ v.primary.log)
    level_behind = none_missing v.missing v.standby.log v.primary.log
        ((served_all script phases count (pair_server faults faults' u) (pair_server faults faults' v) [] answers
        held held' writes writes' ends).followed.level ends.calm
        (level_of u.missing u.standby.log u.primary.log level (fresh' ∙ sym fresh)))

    pub none_behind : v.missing ≡ None
    none_behind = level_behind.0

    pub copy_behind : v.standby.log ≡ items_in answers
    copy_behind = level_behind.1 ∙ log_behind ended.Done ends
