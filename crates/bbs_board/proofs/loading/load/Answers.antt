use Rattle.std.proofs.Common.{◌≡◌, ◌∙◌, Ok, None, Some, Option, List, [], ℕ, sym, ap, subst, arith, rules}
use Rattle.std.specs.Prelude.{is_some}
use Rattle.std.proofs.lemmas.List.{length-map}
use Rattle.disk_trait.specs.Past.{Past}
use Rattle.bbs_index.specs.Index.{Indexed}
use Rattle.bbs_journal.specs.Reading.{payloads_of}
use Rattle.bbs_journal.specs.View.{frame_waits}
use Rattle.bbs_model.specs.Replay.{replay_log, IsLawful}
use Rattle.bbs_model.specs.Told.{told_in}
use Rattle.bbs_model.specs.Valid.{IsValid}
use Rattle.bbs_model.specs.declared.rows.Rows.{Rows}
use Rattle.bbs_model.specs.declared.item.Item.{Item}
use Rattle.bbs_board.specs.Doubts.{doubts_in, RoseForEach}
use Rattle.bbs_board.specs.Opening.{board_of, IsBoard}
use Rattle.bbs_board.proofs.Loaded.{unbroken, counted, loaded_board, loaded_holds}
use Rattle.bbs_board.proofs.loading.load.Goals as goal

pub invariant_of-result : goal.invariant_of-result
invariant_of-result g c =
    let payloads : List (List ℕ) = payloads_of c.in-Ok.loaded.frames.items in
    let is : board_of c.in-Ok.loaded.journal.version c.in-Ok.loaded.journal.area c.in-Ok.loaded.head.items payloads
    c.in-Ok.loaded.broken ≡ Ok c.in-Ok-board_of.index.rows = search rules in
    let none : c.in-Ok.loaded.broken ≡ None = unbroken c.in-Ok.loaded.journal.version c.in-Ok.loaded.journal.area
    c.in-Ok.loaded.head.items payloads c.in-Ok.loaded.broken c.in-Ok-board_of.index.rows is in
    let fresh = c.in-Ok.ensures.fresh in
    let count = counted c.in-Ok.loaded.journal.version c.in-Ok.loaded.journal.area c.in-Ok.loaded.head.items payloads
    c.in-Ok-board_of.index.rows (subst (λ (b : Option ℕ).
    board_of c.in-Ok.loaded.journal.version c.in-Ok.loaded.journal.area c.in-Ok.loaded.head.items payloads b
    ≡ Ok c.in-Ok-board_of.index.rows) none is) in
    let base_is : c.of.result.value.rows ≡ c.in-Ok-board_of.index.rows = ap (λ (i : Indexed). i.rows) c.of.ensures in
    let log_is : c.new.result.log ≡ [] = c.new.ensures.log in
    let marks_is : c.new.result.marks ≡ [] = c.new.ensures.marks in
    let frames_are = fresh.count ∙ sym (length-map c.in-Ok.loaded.frames.items (λ v. v.items)) in
    let timed : (q : Past) → g.D.Disk.told c.in-Ok.loaded.journal.disk ≡ Some q
    → q.clock ≡ c.clock.result = λ q told. g.met.D.Disk.timed c.in-Ok.loaded.journal.disk q told ∙ sym
    c.clock.ensures in
    record {
      opened = subst IsValid (sym base_is) c.in-Ok-board_of.ensures.valid;
      valid = c.in-Ok-board_of.ensures.valid;
      lawful = subst (IsLawful c.of.result.value.rows) (sym log_is) tt;
      rows_are = sym base_is ∙ ap (replay_log c.of.result.value.rows) (sym log_is);
      events_are = c.new.ensures.told ∙ ap (told_in c.of.result.value.rows) (sym log_is);
      whole = fresh.broken ∙ ap is_some none;
      counted = omega (arith, fresh.count, count, length-map c.in-Ok.loaded.frames.items (λ v. v.items));
      crowded = λ is. absurd (let never = ap frame_waits fresh.mended in cc);
      doubted = subst (λ (l : List Item). RoseForEach (doubts_in l) c.faults-faults.result
          (g.D.Disk.fault_count c.in-Ok.loaded.journal.disk)) (sym log_is)
          (omega (arith, c.faults-faults.ensures, fresh.stood));
      holds = rw (base_is, log_is, marks_is, fresh.mended, frames_are)
          (loaded_holds _ _ c.in-Ok.loaded.journal.area c.in-Ok.loaded.journal.version c.in-Ok.loaded.journal.generation
          c.in-Ok.loaded.head.items payloads c.in-Ok.loaded.broken c.in-Ok.loaded.journal.end
          c.in-Ok-board_of.index.rows c.clock.result
          c.in-Ok.ensures.ok timed c.in-Ok.ensures.found fresh.end is _ _ _ fresh.kept);
    }

pub returns-in-Ok-board_of-clause-found : goal.returns-in-Ok-board_of-clause-found
returns-in-Ok-board_of-clause-found g c image shows =
    let payloads : List (List ℕ) = payloads_of c.in-Ok.loaded.frames.items in
    let is : board_of c.in-Ok.loaded.journal.version c.in-Ok.loaded.journal.area c.in-Ok.loaded.head.items payloads
    c.in-Ok.loaded.broken ≡ Ok c.in-Ok-board_of.index.rows = search rules in
    let base_is : c.of.result.value.rows ≡ c.in-Ok-board_of.index.rows = ap (λ (i : Indexed). i.rows) c.of.ensures in
    subst (λ (r : Rows). IsBoard r image) (sym base_is)
    (loaded_board image c.in-Ok.loaded.journal.area c.in-Ok.loaded.journal.version c.in-Ok.loaded.journal.generation
    c.in-Ok.loaded.head.items payloads c.in-Ok.loaded.broken c.in-Ok.loaded.journal.end c.in-Ok-board_of.index.rows
    (c.in-Ok.ensures.found image shows) is)
