use Rattle.std.proofs.Common.{◌≢◌, length, sym, ◌∙◌, arith}
use Rattle.what_if.proofs.VerdictLemmas.{room_of_none, short_of_any, unplaced_of_none_short}
use Rattle.what_if.proofs.verdicts.verdict_of.Goals as goal

pub returns-then-left-eq0 : goal.returns-then-left-eq0
returns-then-left-eq0 c = sym (room_of_none c.args.before.now c.args.jobs.now c.args.left.now (omega arith))

pub returns-then-is_any_short : goal.returns-then-is_any_short
returns-then-is_any_short c =
    sym (short_of_any c.args.before.now c.args.jobs.now c.args.left.now
    (sym c.is_any_short.ensures ∙ c.if-is_any_short.true))

pub returns-else-is_any_short : goal.returns-else-is_any_short
returns-else-is_any_short c =
    let some : length c.args.left.now ≢ 0 = omega arith in
    sym (unplaced_of_none_short c.args.before.now c.args.jobs.now c.args.left.now some
    (sym c.is_any_short.ensures ∙ c.if-is_any_short.false))
