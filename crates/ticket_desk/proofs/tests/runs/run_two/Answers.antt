-- Each thread gets a pass of this desk, and gives it back.
use Rattle.std.proofs.Common.{rules}
use Rattle.ticket_desk.specs.Passes.{IsSamePass}
use Rattle.ticket_desk.proofs.Public.{pass_stays}
use Rattle.ticket_desk.proofs.tests.runs.run_two.Goals as goal

pub join-one-requires-after_bounds : goal.join-one-requires-after_bounds
join-one-requires-after_bounds g c =
    let three = c.in_ok-zero.ensures in
    λ _ _. ((λ _ _ _ _ _ _. three.1.desk), (λ _ _ _ _ _ _. three.2.desk))

pub left-requires : goal.left-requires
left-requires g c =
    let three = c.in_ok-zero.ensures in
    let one : IsSamePass c.in_ok-zero.one c.join-one.result.0 = search rules in
    let two : IsSamePass c.in_ok-zero.two c.join-one.result.1 = search rules in
    (three.0, pass_stays _ _ _ _ _ one three.1, pass_stays _ _ _ _ _ two three.2)
