-- A scenario that was played on a board that is closed.
use Rattle.std.proofs.Common.{◌≡◌, ℕ, List, ◌++◌, Option, refl, sym, ap, subst, ◌∙◌}
use Rattle.std.specs.Option.{ForSome}
use Rattle.disk_trait.specs.Past.{Past}
use Rattle.disk_trait.specs.Runs.{Extends}
use Rattle.disk_trait.specs.Steps.{Goes}
use Rattle.bbs_model.specs.Replay.{replay_log, IsLawful}
use Rattle.bbs_model.specs.Valid.{IsValid}
use Rattle.bbs_model.specs.declared.item.Item.{Item}
use Rattle.bbs_model.specs.declared.rows.Rows.{Rows}
use Rattle.bbs_board.specs.Doubts.{doubts_in, RoseForEach}
use Rattle.bbs_board.specs.Kept.{Kept}
use Rattle.bbs_board.specs.View.{View, IsFresh, rows_of}
use Rattle.bbs_board.specs.Written.{WritesOn}
use Rattle.phase_runs.specs.Boards.{BoardGoesOn}
use Rattle.program_ends.specs.Ports.{Ports}
use Rattle.program_ends.specs.declared.ending.Ending.{Ending}
use Rattle.scenario_lines.specs.declared.script.Script.{Script}
use Rattle.scenario_player.specs.Plays.{Plays}
use Rattle.scenario_player.specs.Wordings.{Wording}
use Rattle.program_run.specs.Runs.{IsOn, PlaysOn}
use Rattle.program_run.specs.declared.ended.Ended.{Ended}
use Rattle.program_run.proofs.Goings.{plays_goes}

-- what a board gives up when it is closed
pub record Gives {D : Type 0} (told : D → Option Past) (faults : D → ℕ) (left : View D) : Type 0 where
  pub lawful : IsValid left.base × IsLawful left.base left.log
  pub kept : ForSome (told left.disk) (Kept left.base left.log left.marks left.since)
  pub doubts : RoseForEach (doubts_in left.log) left.faults (faults left.disk)

module _ {D : Type 0} (told : D → Option Past) (faults moment : D → ℕ) (wording : Wording) (script : Script)
    (board left : View D) (how : Ending) (e : Ended) (v w : Ports) where
  module _ (since : board.since ≡ moment board.disk) (count : board.faults ≡ faults board.disk)
      (opened : IsOn told faults moment board v) (closed : IsOn told faults moment left w)
      (log : e.log.items ≡ left.log) (marks : e.marks.items ≡ left.marks) (gives : Gives told faults left)
      (fresh : List Item) (goes : BoardGoesOn told fresh board left) where
    since_is : left.since ≡ v.clock
    since_is = goes.since ∙ since ∙ sym opened.clock_is

    kept : ForSome w.told (Kept board.base e.log.items e.marks.items v.clock)
    kept =
        subst (λ (t : Option Past). ForSome t (Kept board.base e.log.items e.marks.items v.clock)) (sym closed.told_is)
        (subst (λ (x : Rows). ForSome (told left.disk) (Kept x e.log.items e.marks.items v.clock)) goes.base
        (subst (λ (x : List Item). ForSome (told left.disk) (Kept left.base x e.marks.items v.clock)) (sym log)
        (subst (λ (x : List ℕ). ForSome (told left.disk) (Kept left.base left.log x v.clock)) (sym marks)
        (subst (λ (n : ℕ). ForSome (told left.disk) (Kept left.base left.log left.marks n)) since_is gives.kept))))

    doubts : RoseForEach (doubts_in e.log.items) v.disk_faults w.disk_faults
    doubts =
        subst (λ (n : ℕ). RoseForEach (doubts_in e.log.items) n w.disk_faults)
        (goes.faults ∙ count ∙ sym opened.faults_are)
        (subst (λ (n : ℕ). RoseForEach (doubts_in e.log.items) left.faults n) (sym closed.faults_are)
        (subst (λ (x : List Item). RoseForEach (doubts_in x) left.faults (faults left.disk)) (sym log) gives.doubts))

    extends : Goes v.told w.told Extends
    extends =
        subst (λ (t : Option Past). Goes t w.told Extends) (sym opened.told_is)
        (subst (λ (t : Option Past). Goes (told board.disk) t Extends) (sym closed.told_is) goes.disk)

    -- the items are those that came behind an empty log
    fresh_is : IsFresh board → fresh ≡ e.log.items
    fresh_is begin = sym (log ∙ goes.grows ∙ ap (λ (l : List Item). l ++ fresh) begin.log)

    writes : IsFresh board → doubts_in e.log.items ≡ 0 → Goes v.told w.told (WritesOn board.base e.log.items)
    writes begin none =
        let same : fresh ≡ e.log.items = fresh_is begin in
        let begins : rows_of board ≡ board.base = ap (replay_log board.base) begin.log in
        subst (λ (l : List Item). Goes v.told w.told (WritesOn board.base l)) same
        (subst (λ (t : Option Past). Goes t w.told (WritesOn board.base fresh)) (sym opened.told_is)
        (subst (λ (t : Option Past). Goes (told board.disk) t (WritesOn board.base fresh)) (sym closed.told_is)
        (subst (λ (x : Rows). Goes (told board.disk) (told left.disk) (WritesOn x fresh)) begins
        (goes.writes begin.calm (ap doubts_in same ∙ none)).1)))

    on : IsFresh board → Plays told wording script how e.answers.items e.reports.items board left v.held w.held
        v.write_faults w.write_faults
        → PlaysOn told faults moment wording script board.base how e v w
    on begin plays = record {
      board = board;
      left = left;
      base = refl;
      fresh = begin;
      since = since ∙ sym opened.clock_is;
      opened = opened;
      closed = closed;
      plays = plays;
      log = log;
      marks = marks;
      extends = extends;
      writes = writes begin;
      valid = subst (λ (x : Rows). IsValid x) goes.base gives.lawful.0;
      lawful = subst (λ (x : Rows). IsLawful x e.log.items) goes.base
          (subst (λ (x : List Item). IsLawful left.base x) (sym log) gives.lawful.1);
      kept = kept;
      doubts = doubts;
    }

  pub plays_on : IsFresh board → board.since ≡ moment board.disk → board.faults ≡ faults board.disk
      → IsOn told faults moment board v → IsOn told faults moment left w
      → e.log.items ≡ left.log → e.marks.items ≡ left.marks → Gives told faults left
      → Plays told wording script how e.answers.items e.reports.items board left v.held w.held v.write_faults
      w.write_faults
      → PlaysOn told faults moment wording script board.base how e v w
  plays_on begin since count opened closed log marks gives plays =
      let (fresh, goes) = plays_goes told wording script e.answers.items e.reports.items board left v.held w.held
      v.write_faults w.write_faults how plays in
      on since count opened closed log marks gives fresh goes begin plays
