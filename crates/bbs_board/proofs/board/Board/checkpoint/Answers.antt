use Rattle.std.proofs.Common.{◌≡◌, ◌∙◌, List, ℕ, length, true, false, is_ok, sym, ap, subst, arith, rules}
use Rattle.std.specs.Prelude.{is_err}
use Rattle.disk_trait.specs.Steps.{Goes}
use Rattle.bbs_board.specs.Checkpoint.{Checkpoints, StaysCompacted, has_to_compact}
use Rattle.bbs_board.specs.Room.{calls_for, places_in, places_left}
use Rattle.bbs_board.specs.Storing.{IsHeadOf}
use Rattle.bbs_board.specs.View.{View, rows_of}
use Rattle.bbs_board.proofs.Checkpointing.{checkpoint_starved, seen, stays_compacted}
use Rattle.bbs_board.proofs.Counting.{calls_kept}
use Rattle.bbs_board.proofs.Held.{on_ok, stands_compacted, sound_compacted}
use Rattle.bbs_board.proofs.board.Board.checkpoint.Goals as goal

pub returns-then-is_err-clause-does : goal.returns-then-is_err-clause-does
returns-then-is_err-clause-does g c =
    let b = c.self.inside in
    subst (λ (v : View g.row.D.Denot). Goes (g.D.Disk.told v.disk) (g.D.Disk.told b.journal.disk)
    (Checkpoints _ v.waits (rows_of v))) c.self.view_is
    (checkpoint_starved g.D.Disk.told b.journal b.base.value.rows b.history.log b.history.marks b.since
    c.self.invariant.holds)

pub compact-requires-clause-few : goal.compact-requires-clause-few
compact-requires-clause-few g c = λ due.
    let fine : is_err c.prepare_head.result ≡ false = search rules in
    let head = on_ok c.prepare_head.result _ fine c.prepare_head.ensures.head
    (c.has_to_compact-due.ensures.due ∙ due) in
    let small = head.small in
    omega (arith, small, ap length c.deref.ensures.value)

pub invariant_of-self-2 : goal.invariant_of-self-2
invariant_of-self-2 g c =
    let b = c.self.inside in
    let fine : is_err c.prepare_head.result ≡ false = search rules in
    let ready : has_to_compact b.journal ≡ true → IsHeadOf b.index.rows c.deref.result.now = λ due.
    subst (λ (l : List ℕ). IsHeadOf b.index.rows l) (sym c.deref.ensures.value)
    (on_ok c.prepare_head.result _ fine c.prepare_head.ensures.head (c.has_to_compact-due.ensures.due ∙ due)) in
    sound_compacted g.D.Disk.told g.D.Disk.fault_count b.index.rows b.base.value.rows b.history.log b.history.marks
    b.history.told b.since b.faults b.journal c.compact.new.journal c.self.invariant
    (is_ok c.compact.result) c.deref.result.now ready c.compact.ensures.stands
    (is_err c.compact.result) c.compact.ensures.knows c.compact.ensures.cause

pub returns-clause-stays : goal.returns-clause-stays
returns-clause-stays g c =
    let b = c.self.inside in
    let same : is_ok c.match-compact.result ≡ is_ok c.compact.result = search rules in
    let spare : ℕ = calls_for b.index.spare b.history.room (places_left (places_in b.draft) b.index.rows) in
    let more : ℕ = calls_for b.index.spare b.history.room
    (places_left (places_in c.prepare_head.new.draft) b.index.rows) in
    let room = calls_kept b.index.spare b.history.room (places_in b.draft)
    (places_in c.prepare_head.new.draft) b.index.rows c.prepare_head.ensures.kept in
    rw same (subst (λ (v : View g.row.D.Denot). StaysCompacted (is_ok c.compact.result) v
    (seen b.base.value.rows b.history.log b.history.marks b.since b.faults c.compact.new.journal more))
    c.self.view_is
    (stays_compacted b.base.value.rows b.history.log b.history.marks b.since b.faults
    (is_ok c.compact.result) b.journal c.compact.new.journal spare more c.compact.ensures.knows room))

pub returns-clause-does : goal.returns-clause-does
returns-clause-does g c =
    let b = c.self.inside in
    let fine : is_err c.prepare_head.result ≡ false = search rules in
    let ready : has_to_compact b.journal ≡ true → IsHeadOf b.index.rows c.deref.result.now = λ due.
    subst (λ (l : List ℕ). IsHeadOf b.index.rows l) (sym c.deref.ensures.value)
    (on_ok c.prepare_head.result _ fine c.prepare_head.ensures.head (c.has_to_compact-due.ensures.due ∙ due)) in
    let same : is_ok c.match-compact.result ≡ is_ok c.compact.result = search rules in
    let stands = stands_compacted g.D.Disk.told g.D.Disk.fault_count b.index.rows b.base.value.rows b.history.log
    b.history.marks b.history.told b.since b.faults b.journal c.compact.new.journal c.self.invariant
    (is_ok c.compact.result) c.deref.result.now ready c.compact.ensures.stands in
    rw same (subst (λ (v : View g.row.D.Denot). Goes (g.D.Disk.told v.disk) (g.D.Disk.told c.compact.new.journal.disk)
    (Checkpoints (is_ok c.compact.result) v.waits (rows_of v))) c.self.view_is stands.1)
