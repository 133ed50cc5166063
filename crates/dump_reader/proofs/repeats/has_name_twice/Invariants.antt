use Rattle.std.proofs.Common.{◌≡◌, [], drop}
use Rattle.dump_reader.specs.Lines.{is_same_name, repeats}
use Rattle.dump_reader.proofs.repeats.has_name_twice.Given as goal

abbrev pub invariant-loop-name : goal.invariant-loop-name
invariant-loop-name l = repeats is_same_name l.before (drop l.name-index l.names) ≡ repeats is_same_name [] l.names
