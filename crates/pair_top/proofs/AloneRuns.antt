-- Phases on the board that took over.
use Rattle.std.proofs.Common.{◌≡◌, ℕ, ◌+◌, ◌-◌, ◌^◌, ◌<◌, ◌≤◌, List, ◌++◌, length, Option, sym, ap, ◌∙◌, append_assoc}
use Rattle.std.specs.Prelude.{min}
use Rattle.std.proofs.lemmas.Grind.{flat_map-append}
use Rattle.bbs_board.specs.Doubts.{doubts_in}
use Rattle.bbs_model.specs.Replay.{IsLawful}
use Rattle.bbs_model.specs.Valid.{IsValid}
use Rattle.bbs_model.specs.declared.item.Item.{Item}
use Rattle.bbs_model.specs.declared.rows.Rows.{Rows}
use Rattle.disk_trait.specs.Past.{Past}
use Rattle.fenced_board.specs.Fences.{FencedView}
use Rattle.pair_lines.specs.Answers.{summary_line}
use Rattle.pair_lines.specs.declared.answered.PairAnswered.{PairAnswered}
use Rattle.pair_runs.specs.Accounts.{items_in, items_of}
use Rattle.pair_runs.specs.Phases.{PhasesEnd}
use Rattle.pair_runs.specs.declared.phases.PhasesEnded.{PhasesEnded}
use Rattle.program_ends.specs.declared.ending.Ending.{Ending}
use Rattle.scenario_lines.specs.declared.script.Phase.{Phase}
use Rattle.scenario_lines.specs.declared.script.Script.{Script}
use Rattle.standby_board.specs.Pairs.{IsKeptBoard}
use Rattle.pair_top.specs.Runs.{Finishes, counts_of}
use Rattle.pair_top.specs.Servers.{KeepsAlone, alone_server}
use Rattle.pair_top.specs.TakeOvers.{RunsAlone}
use Rattle.pair_top.proofs.Finishing.{finishes_behind}
use Rattle.pair_top.proofs.Fits.{fits_at}

module _ {E : Type 0} (told : E → Option Past) (faults : E → ℕ) (script : Script) (phases : List Phase) (k start : ℕ)
    (v w : FencedView E) (before answers : List PairAnswered) (end : PhasesEnded) (count : ℕ)
    (held mid : Option (List ℕ)) (writes some : ℕ)
    (ends : PhasesEnd script phases end count (alone_server faults v) (alone_server faults w) before answers
    held mid writes some) (log : v.board.log ≡ items_in before) where
  -- the board's log has the items of all answers
  pub log_alone : w.board.log ≡ items_in answers
  log_alone = ends.served.log ∙ ap (λ (l : List Item). l ++ items_in (ends.first ++ ends.last)) log
      ∙ sym (flat_map-append items_of before (ends.first ++ ends.last))
      ∙ ap items_in (sym (append_assoc before ends.first ends.last) ∙ sym ends.answers_are)

  pub fits_alone : start ≡ v.board.base.next → w.board.base ≡ v.board.base → IsValid w.board.base
      → IsLawful w.board.base w.board.log → start + (length (items_in answers) - doubts_in (items_in answers)) < 2 ^ 64
  fits_alone start_is base valid lawful =
      fits_at w.board.base w.board.log (items_in answers) start valid lawful log_alone
      (start_is ∙ ap (λ (r : Rows). r.next) (sym base))

  -- what is left of it
  pub runs_alone : (fence fence' : ℕ) → KeepsAlone told v fence w fence' → (most sum : ℕ) → 1 ≤ k
      → k + length phases ≤ most + 1 → sum ≡ min (k - 1 + count) most → (how : Ending) (held' : Option (List ℕ))
      (writes' : ℕ) → Finishes end how (summary_line (counts_of start answers sum k)) mid held' some writes'
      → (standby : E) → standby ≡ w.board.disk → IsKeptBoard told faults w.board
      → RunsAlone told faults script phases k start v before answers how held held' writes writes' standby
  runs_alone fence fence' keeps most sum first room is how held' writes' finishes standby standby_is kept = record {
    end = end;
    count = count;
    last = w;
    base = keeps.base;
    since = keeps.since;
    goes = keeps.goes;
    mid = mid;
    mid_writes = some;
    phases_end = ends;
    finishes = finishes_behind script phases count (alone_server faults v) (alone_server faults w) before answers
        held mid writes some most k sum start how held' writes' first room is end ends finishes;
    kept = kept;
    standby_is = standby_is;
  }
