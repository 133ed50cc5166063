use Rattle.std.proofs.Common.{◌≡◌, ◌∙◌, true, false, is_ok, sym, rules}
use Rattle.bbs_board.specs.Checkpoint.{has_to_compact}
use Rattle.bbs_board.proofs.Checkpointing.{stands_settled, stands_moved, settled_has, moved_has}
use Rattle.bbs_board.proofs.Mending.{mended}
use Rattle.bbs_board.proofs.checkpoint.compact.Goals as goal

pub returns-then-not-has_to_compact-clause-stands : goal.returns-then-not-has_to_compact-clause-stands
returns-then-not-has_to_compact-clause-stands g c =
    let e = c.mend.ensures in
    let no : c.has_to_compact.result ≡ false = search rules in
    let idle : has_to_compact c.args.journal.now ≡ false = sym c.has_to_compact.ensures.due ∙ no in
    stands_settled g.D.Disk.told c.args.journal.now c.mend.new.self (is_ok c.mend.result) c.args.head.now idle e.settles
    (mended g.D.Disk.told c.args.journal.now c.mend.new.self (is_ok c.mend.result) e.settles e.frame e.header)

pub returns-then-not-has_to_compact-clause-knows : goal.returns-then-not-has_to_compact-clause-knows
returns-then-not-has_to_compact-clause-knows g c =
    let no : c.has_to_compact.result ≡ false = search rules in
    let idle : has_to_compact c.args.journal.now ≡ false = sym c.has_to_compact.ensures.due ∙ no in
    settled_has c.args.journal.now c.mend.new.self (is_ok c.mend.result) idle c.has_to_compact.ensures.read
    c.requires.whole c.mend.ensures.settles

pub move_on-requires-clause-few : goal.move_on-requires-clause-few
move_on-requires-clause-few g c =
    let yes : c.has_to_compact.result ≡ true = search rules in
    c.requires.few (sym c.has_to_compact.ensures.due ∙ yes)

pub returns-clause-stands : goal.returns-clause-stands
returns-clause-stands g c =
    let yes : c.has_to_compact.result ≡ true = search rules in
    let due : has_to_compact c.args.journal.now ≡ true = sym c.has_to_compact.ensures.due ∙ yes in
    stands_moved g.D.Disk.told c.args.journal.now c.move_on.new.journal
    (is_ok c.move_on.result) c.args.head.now due c.move_on.ensures.moves

pub returns-clause-knows : goal.returns-clause-knows
returns-clause-knows g c = moved_has c.args.journal.now c.move_on.new.journal
    (is_ok c.move_on.result) c.move_on.ensures.knows
