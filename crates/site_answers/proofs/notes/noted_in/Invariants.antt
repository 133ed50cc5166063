use Rattle.std.proofs.Common.{◌≡◌, ◌≤◌, take}
use Rattle.std.specs.List.{count_by, flat_map}
use Rattle.site_answers.specs.Noting.{is_noted}
use Rattle.site_answers.proofs.notes.noted_in.Given as goal

abbrev pub invariant-loop-state : goal.invariant-loop-state
invariant-loop-state l = record {
  so_far : l.count ≡ count_by (is_noted l.noted) (flat_map (λ s. s.instances) (take l.state-index l.states));
  few : l.count ≤ 250000;
}
