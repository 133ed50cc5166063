-- The three passes stay passes of their desk.
use Rattle.std.proofs.Common.{◌∙◌}
use Rattle.ticket_desk.proofs.Public.{same_then, pass_stays}
use Rattle.ticket_desk.proofs.tests.runs.heard.Goals as goal

pub append-requires : goal.append-requires
append-requires g c = let three = c.in_ok-zero.ensures in three.1.desk

pub meet-requires-clause-teller : goal.meet-requires-clause-teller
meet-requires-clause-teller g c = let three = c.in_ok-zero.ensures in c.append.ensures.desk ∙ three.1.desk

pub meet-requires-clause-hearer : goal.meet-requires-clause-hearer
meet-requires-clause-hearer g c = let three = c.in_ok-zero.ensures in three.2.desk

pub append-requires-2 : goal.append-requires-2
append-requires-2 g c = let three = c.in_ok-zero.ensures in c.meet.ensures.hearer.desk ∙ three.2.desk

pub turn-first-requires-clause-desk : goal.turn-first-requires-clause-desk
turn-first-requires-clause-desk g c = let three = c.in_ok-zero.ensures in
    c.append-2.ensures.desk ∙ c.meet.ensures.hearer.desk ∙ three.2.desk

pub left-requires : goal.left-requires
left-requires g c =
    let three = c.in_ok-zero.ensures in let met = c.meet.ensures in
    let one = same_then _ _ _ c.append.ensures met.teller.0 in
    let two = same_then _ _ _ met.hearer (same_then _ _ _ c.append-2.ensures c.turn-first.ensures.same) in
    (three.0, pass_stays _ _ _ _ _ one three.1, pass_stays _ _ _ _ _ two three.2)
