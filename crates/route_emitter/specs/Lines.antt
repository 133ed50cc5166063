-- The printed lines of entries.
use Rattle.std.specs.Prelude.{ℕ, Bool, true, false, List, codes}
use Rattle.std.specs.List.{flat_map}
use Rattle.serde_json.specs.Data.{Data, string, object, member, no_members}
use Rattle.line_writing.specs.Line.{line_text}
use Rattle.line_writing.specs.Spelled.{instance_text, whole}
use Rattle.route_emitter.specs.declared.entry.RouteEntry.{RouteEntry}

-- what becomes of an entry: it came into the table, or it left it
abbrev pub change_word : Bool → List ℕ
change_word true = codes "register"
change_word false = codes "unregister"

-- an entry, and what becomes of it
abbrev pub route_data : Bool → RouteEntry → Data
route_data register entry =
    object
    (member (codes "cell") (string entry.cell)
    (member (codes "change") (string (change_word register))
    (member (codes "index") (whole entry.index)
    (member (codes "instance") (string (instance_text entry.instance))
    (member (codes "port") (whole entry.port)
    (member (codes "process") (string entry.process)
    (member (codes "route") (string entry.route) no_members)))))))

-- the line of an entry
abbrev pub route_line : Bool → RouteEntry → List ℕ
route_line register entry = line_text (route_data register entry)

-- the lines of entries, one after another
abbrev pub lines : Bool → List RouteEntry → List ℕ
lines register entries = flat_map (route_line register) entries
