use Rattle.std.proofs.Common.{◌≡◌, ◌++◌, take}
use Rattle.std.specs.List.{flat_map}
use Rattle.headroom_tables.specs.Text.{found_text}
use Rattle.headroom_tables.proofs.answers.add_all_found.Given as goal

abbrev pub invariant-loop-one : goal.invariant-loop-one
invariant-loop-one l =
    l.text.items ≡ l.fn.text.items ++ flat_map found_text (take l.one-index l.found)
