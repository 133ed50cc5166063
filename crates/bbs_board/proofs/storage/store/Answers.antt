use Rattle.std.proofs.Common.{◌≡◌, true, false, is_ok, refl, sym, ◌∙◌, rules}
use Rattle.bbs_board.specs.View.{wants_checkpoint}
use Rattle.bbs_board.proofs.Filling.{due_long, stores_put, stores_then, stores_not, takes_then, takes_not}
use Rattle.bbs_board.proofs.storage.store.Goals as goal

pub returns-then-not-wants_checkpoint-clause-stores : goal.returns-then-not-wants_checkpoint-clause-stores
returns-then-not-wants_checkpoint-clause-stores g c =
    let no : c.wants_checkpoint.result ≡ false = search rules in
    let due : wants_checkpoint c.args.journal.now ≡ false = sym c.wants_checkpoint.ensures.due ∙ no in
    stores_put g.D.Disk.told c.args.head.now c.args.payload.now _ c.args.journal.now c.put.new.journal
    (is_ok c.put.result) due c.put.ensures.puts c.put.ensures.appends

pub returns-in_err-move_on-clause-stores : goal.returns-in_err-move_on-clause-stores
returns-in_err-move_on-clause-stores g c =
    let yes : c.wants_checkpoint.result ≡ true = search rules in
    let due : wants_checkpoint c.args.journal.now ≡ true = sym c.wants_checkpoint.ensures.due ∙ yes in
    let failed : is_ok c.from_residual.result ≡ false = search rules in
    rw failed (stores_not g.D.Disk.told c.args.head.now c.args.payload.now _ c.args.journal.now c.move_on.new.journal
    due (λ q told. g.met.D.Disk.timed c.move_on.new.journal.disk q told) c.in_err-move_on.ensures.moves)

pub returns-in_err-move_on-clause-calls : goal.returns-in_err-move_on-clause-calls
returns-in_err-move_on-clause-calls g c =
    let yes : c.wants_checkpoint.result ≡ true = search rules in
    let due : wants_checkpoint c.args.journal.now ≡ true = sym c.wants_checkpoint.ensures.due ∙ yes in
    let failed : is_ok c.from_residual.result ≡ false = search rules in
    rw failed (takes_not _ c.args.journal.now.version c.args.journal.now.frames _ _
    (due_long c.args.journal.now due) c.in_err-move_on.ensures.calls)

pub returns-clause-stores : goal.returns-clause-stores
returns-clause-stores g c =
    let yes : c.wants_checkpoint.result ≡ true = search rules in
    let due : wants_checkpoint c.args.journal.now ≡ true = sym c.wants_checkpoint.ensures.due ∙ yes in
    let moved = c.in_ok-move_on.ensures in
    stores_then g.D.Disk.told c.args.head.now c.args.payload.now _ c.args.journal.now c.move_on.new.journal
    c.put-2.new.journal (is_ok c.put-2.result) due moved.moves moved.knows c.put-2.ensures.puts
    c.put-2.ensures.appends

pub returns-clause-calls : goal.returns-clause-calls
returns-clause-calls g c =
    let yes : c.wants_checkpoint.result ≡ true = search rules in
    let due : wants_checkpoint c.args.journal.now ≡ true = sym c.wants_checkpoint.ensures.due ∙ yes in
    let moved = c.in_ok-move_on.ensures in
    takes_then (is_ok c.put-2.result) _ _ c.args.journal.now.version c.args.journal.now.frames _ _ _
    (moved.knows.waits refl) (due_long c.args.journal.now due) moved.calls c.put-2.ensures.calls
