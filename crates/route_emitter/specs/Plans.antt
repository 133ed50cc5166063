-- What is known, and which memory is there, before events are taken in.
use Rattle.std.specs.Prelude.{◌≡◌, ℕ, ◌+◌, ◌*◌, ◌≤◌, ◌<◌, List, [], vec_len, vec_capacity}
use Rattle.std.specs.declared.vec.Vec.{Vec}
use Rattle.diego_names.specs.declared.key.Key.{Key}
use Rattle.lrp_records.specs.declared.actual.Actual.{Actual}
use Rattle.lrp_records.specs.declared.desired.Desired.{Desired}
use Rattle.route_emitter.specs.Near.{entries_of}
use Rattle.route_emitter.specs.declared.plan.Plan.{Plan}

-- a list of nothing, with room for so many
pub record HasRoom {X Z : Type 0} (count : ℕ) (v : Vec X Z) : Type 0 where
  pub none : v.items ≡ []
  pub room : count ≤ vec_capacity v

-- the entries of so many named instances as they are, and room for what changes; where more than a few
-- entries may change, also for a new table beside one of this length
pub record IsPlan (few : ℕ) (desired : List Desired) (running : List Actual) (named : List Key) (count len : ℕ) (plan : Plan) : Type 0 where
  pub before : plan.before.items ≡ entries_of desired running named
  pub most : vec_len plan.before ≤ 3 * count
  pub after : HasRoom (3 * count) plan.after
  pub register : HasRoom (3 * count) plan.register
  pub unregister : HasRoom (3 * count) plan.unregister
  pub changes : HasRoom (6 * count) plan.changes
  pub empty : plan.next.items ≡ []
  pub next : few < 6 * count → len + 6 * count ≤ vec_capacity plan.next
