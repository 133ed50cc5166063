use Rattle.std.proofs.Common.{◌≡◌, [], drop, map}
use Rattle.dump_reader.specs.Lines.{is_same_instance, repeats}
use Rattle.dump_reader.specs.Names.{instance_of}
use Rattle.dump_reader.proofs.repeats.has_instance_twice.Given as goal

abbrev pub invariant-loop-instance : goal.invariant-loop-instance
invariant-loop-instance l = repeats is_same_instance l.before (map instance_of (drop l.instance-index l.instances))
    ≡ repeats is_same_instance [] (map instance_of l.instances)
