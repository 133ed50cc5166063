use Rattle.std.proofs.Common.{◌≡◌, ◌++◌, take}
use Rattle.std.specs.List.{flat_map}
use Rattle.headroom_print.specs.DumpLines.{note_line}
use Rattle.headroom_print.specs.Notes.{told_of}
use Rattle.headroom_print.proofs.line_kinds.dump.add_all.Given as goal

abbrev pub invariant-loop-note : goal.invariant-loop-note
invariant-loop-note l =
    l.text.items ≡ l.fn.text.items ++ flat_map note_line (told_of (take l.note-index l.notes))
