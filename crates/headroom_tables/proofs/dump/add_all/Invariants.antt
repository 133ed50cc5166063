use Rattle.std.proofs.Common.{◌≡◌, ◌++◌, take}
use Rattle.std.specs.List.{flat_map}
use Rattle.headroom_print.specs.Notes.{told_of}
use Rattle.headroom_tables.specs.DumpLines.{note_text}
use Rattle.headroom_tables.proofs.dump.add_all.Given as goal

abbrev pub invariant-loop-note : goal.invariant-loop-note
invariant-loop-note l =
    l.text.items ≡ l.fn.text.items ++ flat_map note_text (told_of (take l.note-index l.notes))
