use Rattle.std.proofs.Common.{◌≡◌, ℕ, List, take, nat_eq}
use Rattle.std.specs.Cmp.Lexicographic.{pointwise}
use Rattle.std.specs.HashSet.{contains}
use Rattle.phase_runs.specs.Names.{is_among}
use Rattle.phase_runs.proofs.lost_names.hash.Given as goal

abbrev pub invariant-loop-name : goal.invariant-loop-name
invariant-loop-name l = (one : List ℕ) → contains (pointwise nat_eq) l.set one ≡ is_among (take l.name-index l.names) one
