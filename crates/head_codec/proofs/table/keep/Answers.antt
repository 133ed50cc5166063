use Rattle.std.proofs.Common.{◌≡◌, ◌∙◌, ◌+◌, ◌≤◌, Some, true, false, rules, arith, subst, sym}
use Rattle.bbs_model.specs.Limits.{most_wanted}
use Rattle.head_codec.specs.Seen.{IsSeen}
use Rattle.head_codec.proofs.SeenRows.{IsSeen-push, fresh_noted, follows_not, follows_fresh, follows_parts}
use Rattle.head_codec.proofs.table.keep.Goals as goal

pub returns-then-not-is_next-clause-kept : goal.returns-then-not-is_next-clause-kept
returns-then-not-is_next-clause-kept g c =
    let no : c.is_next.result ≡ false = search rules in
    follows_not g.X.Key.Ord.cmp g.X.Rowed.key g.X.HeadRow.keeps c.args.next c.args.table.now.rows c.items.result.now
    c.args.row.now c.items.ensures c.is_next.result c.is_next.ensures no

pub returns-then-not-branch-clause-kept : goal.returns-then-not-branch-clause-kept
returns-then-not-branch-clause-kept g c =
    let yes : c.is_next.result ≡ true = search rules in
    let no : c.in_ok-note.field-0 ≡ false = search rules in
    let fresh = c.in_ok-note.ensures.fresh ∙ fresh_noted g.X.HeadRow.keeps.stamp c.args.table.now.rows c.args.row.now
    c.args.table.now.stamps c.requires.stamped in
    sym no ∙ follows_fresh g.X.Key.Ord.cmp g.X.Rowed.key g.X.HeadRow.keeps c.args.next c.args.table.now.rows
    c.items.result.now c.args.row.now c.items.ensures c.is_next.result c.is_next.ensures yes c.in_ok-note.field-0 fresh

pub returns-clause-kept : goal.returns-clause-kept
returns-clause-kept g c =
    let yes : c.is_next.result ≡ true = search rules in
    let new : c.in_ok-note.field-0 ≡ true = search rules in
    let fresh = c.in_ok-note.ensures.fresh ∙ fresh_noted g.X.HeadRow.keeps.stamp c.args.table.now.rows c.args.row.now
    c.args.table.now.stamps c.requires.stamped in
    sym new ∙ follows_fresh g.X.Key.Ord.cmp g.X.Rowed.key g.X.HeadRow.keeps c.args.next c.args.table.now.rows
    c.items.result.now c.args.row.now c.items.ensures c.is_next.result c.is_next.ensures yes c.in_ok-note.field-0 fresh

pub returns-clause-seen : goal.returns-clause-seen
returns-clause-seen g c = λ _.
    let yes : c.is_next.result ≡ true = search rules in
    let parts = follows_parts g.X.Key.Ord.cmp g.X.Rowed.key g.X.HeadRow.keeps c.args.next c.args.table.now.rows
    c.items.result.now c.args.row.now c.items.ensures c.is_next.result c.is_next.ensures yes in
    let more = c.args.table.now.wanted + c.wants.result in
    let few : more ≤ most_wanted = omega (arith, c.wants.ensures, c.requires.sum, parts.1) in
    let sum : more ≡ c.args.table.now.wanted + g.X.HeadRow.keeps.wants c.args.row.now = omega (arith, c.wants.ensures) in
    subst (λ rows. IsSeen g.X.Key.Ord.cmp g.X.Rowed.key g.X.HeadRow.keeps rows (Some c.args.row.now) more c.note.new.stamps)
    (sym c.in_ok-push.ensures.ok)
    (IsSeen-push g.X.Key.Ord.cmp g.X.Rowed.key g.met.X.Rowed.ordered g.X.HeadRow.keeps c.args.table.now.rows c.args.row.now
    c.args.table.now.last c.args.table.now.wanted more
    c.args.table.now.stamps c.note.new.stamps c.requires parts.0 sum few c.in_ok-note.ensures.noted)
