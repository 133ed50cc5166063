-- What was copied to the front of the room is what the place moved over.
use Rattle.std.proofs.Common.{drop, ap, ◌∙◌}
use Rattle.std.proofs.lemmas.List.{take_rest}
use Rattle.byte_ports.proofs.Moves.{copied_front}
use Rattle.byte_ports.proofs.memory_source.MemorySourceSource.take.Goals as goal

pub returns-clause-bytes : goal.returns-clause-bytes
returns-clause-bytes c =
    let at = c.args.self.now.at in
    let rest = take_rest c.deref.result.now at ∙ ap (drop at) c.deref.ensures.value in
    copied_front _ _ c.args.room.now _ at _ rest c.min-count.ensures c.copy_from_slice.ensures.after
