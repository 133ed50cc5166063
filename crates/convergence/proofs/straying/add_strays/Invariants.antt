use Rattle.std.proofs.Common.{◌≡◌, ◌++◌, filter, map, take}
use Rattle.cell_records.specs.declared.container.Container.{Container}
use Rattle.convergence.specs.Strays.{is_stray}
use Rattle.convergence.proofs.straying.add_strays.Given as goal

abbrev pub invariant-loop-container : goal.invariant-loop-container
invariant-loop-container l =
    l.all.items ≡ l.fn.all.items ++ map (λ (c : Container). (l.answer.cell, c.instance))
    (filter (is_stray l.rows) (take l.container-index l.answer.containers))
