use Rattle.std.proofs.Common.{◌⊎◌, ◌+◌, ◌≤◌}
use Rattle.indexmap.specs.IndexMap.{spare}
use Rattle.diego_names.specs.declared.key.Key.{Key}
use Rattle.lrp_records.specs.declared.presence.Presence.{Presence}
use Rattle.convergence.specs.Subjects.{OfPlace}
use Rattle.work_causes.specs.Causes.{causes_of}
use Rattle.differences.specs.Noted.{causes_at}
use Rattle.differences.specs.Renewal.{IsBlank, IsOutside, IsRenewed}
use Rattle.differences.proofs.following.renew_range.Given as goal

abbrev pub invariant-loop-index : goal.invariant-loop-index
invariant-loop-index g l = record {
  places : (p : Key × Presence) → IsRenewed (causes_of (g.T.RowStore.state l.store) (OfPlace p))
      (causes_at l.initial.places.entries p) (causes_at l.places.entries p)
      (IsOutside l.process l.low l.index p.0 ⊎ IsBlank l.initial.places.entries p);
  spare : spare l.initial.places + l.low ≤ spare l.places + l.index;
}
