use Rattle.std.proofs.Common.{◌≡◌, [], ◌∷◌, map, take}
use Rattle.text_table.specs.Texts.{texts_of}
use Rattle.headroom_tables.proofs.lose.add_all_dark.Given as goal

abbrev pub invariant-loop-process : goal.invariant-loop-process
invariant-loop-process l =
    texts_of l.rows.items ≡ map (λ p. p ∷ []) (take l.process-index l.processes)
