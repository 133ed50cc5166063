-- A plan by its parts.
use Rattle.std.proofs.Common.{◌≡◌}
use Rattle.what_if.specs.declared.plan.Plan.{Plan}

-- two plans have the same parts
pub record HaveSameParts (p q : Plan) : Type 0 where
  pub jobs : p.jobs ≡ q.jobs
  pub before : p.before ≡ q.before
  pub placements : p.placements ≡ q.placements
  pub left : p.left ≡ q.left
  pub without_room : p.without_room ≡ q.without_room
  pub stands : p.stands ≡ q.stands
  pub displaced : p.displaced ≡ q.displaced
  pub verdict : p.verdict ≡ q.verdict

pub same_plan : (p q : Plan) → HaveSameParts p q → p ≡ q
same_plan p q h = λ i. record {
  jobs = h.jobs i;
  before = h.before i;
  placements = h.placements i;
  left = h.left i;
  without_room = h.without_room i;
  stands = h.stands i;
  displaced = h.displaced i;
  verdict = h.verdict i;
}
