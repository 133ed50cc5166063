-- What a member has to be.
use Rattle.std.specs.Prelude.{ℕ, ◌^◌, List, [], ◌∷◌, Bool, false, ◌&&◌, nat_lt, nat_le, codes, Option, Some, None, is_some, option_and_then, if◌then◌else◌}
use Rattle.std.specs.List.{list_all}
use Rattle.std.specs.Option.{option_map_or}
use Rattle.std.specs.Str.{bytes_eq}
use Rattle.serde_json.specs.Data.{Data, Items, no_items, item}
use Rattle.serde_json.specs.Find.{as_array, as_bool, as_number, as_str, as_u64}
use Rattle.scenario_lines.specs.declared.act.Loss.{Loss}
use Rattle.scenario_lines.specs.declared.act.Loss.TheVariants as loss
use Rattle.scenario_lines.specs.declared.kind.Kind.{Kind}
use Rattle.scenario_lines.specs.declared.kind.Kind.TheVariants as kind
use Rattle.scenario_lines.specs.declared.member.Member.{Member}
use Rattle.scenario_lines.specs.declared.member.Member.TheVariants as member

-- a number below a limit
abbrev pub below : ℕ → ℕ → Option ℕ
below limit n = if nat_lt n limit then Some n else None

-- a whole number that isn't negative, as JSON writes it without point and exponent
abbrev pub whole_number : Data → Option ℕ
whole_number d = option_and_then as_u64 (as_number d)

-- a whole number that 32 bits hold
abbrev pub number_said : Data → Option ℕ
number_said d = option_and_then (below (2 ^ 32)) (whole_number d)

-- a port
abbrev pub port_of : Data → Option ℕ
port_of d = option_and_then (below (2 ^ 16)) (whole_number d)

-- a number of times from 1 to 1000
abbrev pub in_times : ℕ → Option ℕ
in_times n = if nat_le 1 n && nat_le n 1000 then Some n else None

-- how often a line is run
abbrev pub times_of : Data → Option ℕ
times_of d = option_and_then in_times (number_said d)

-- what is lost, by its word
abbrev pub loss_named : List ℕ → Option Loss
loss_named text =
    if bytes_eq text (codes "call") then Some loss.Call
    else (if bytes_eq text (codes "reply") then Some loss.Reply else None)

-- what is lost
abbrev pub loss_of : Data → Option Loss
loss_of d = option_and_then loss_named (as_str d)

-- the items of an array
abbrev pub items_in : Items → List Data
items_in no_items = []
items_in (item d ds) = d ∷ items_in ds

-- a list of texts
abbrev pub are_texts : Data → Bool
are_texts d = option_map_or (λ ds. list_all (λ e. is_some (as_str e)) (items_in ds)) (as_array d) false

-- a value is of a kind
abbrev pub is_of_kind : Kind → Data → Bool
is_of_kind kind.Text d = is_some (as_str d)
is_of_kind kind.Number d = is_some (number_said d)
is_of_kind kind.Port d = is_some (port_of d)
is_of_kind kind.Times d = is_some (times_of d)
is_of_kind kind.Truth d = is_some (as_bool d)
is_of_kind kind.Loss d = is_some (loss_of d)
is_of_kind kind.Texts d = are_texts d

-- what each member is, in whatever line
abbrev pub kind_of : Member → Kind
kind_of member.At = kind.Number
kind_of member.Client = kind.Text
kind_of member.Cell = kind.Text
kind_of member.Op = kind.Text
kind_of member.Lost = kind.Loss
kind_of member.Times = kind.Times
kind_of member.Process = kind.Text
kind_of member.Domain = kind.Text
kind_of member.Instances = kind.Number
kind_of member.Memory = kind.Number
kind_of member.Disk = kind.Number
kind_of member.Tag = kind.Text
kind_of member.Route = kind.Text
kind_of member.Port = kind.Port
kind_of member.Index = kind.Number
kind_of member.Name = kind.Text
kind_of member.Zone = kind.Text
kind_of member.Containers = kind.Number
kind_of member.Ttl = kind.Number
kind_of member.Failed = kind.Truth
kind_of member.LoseAsk = kind.Texts
kind_of member.LoseStop = kind.Texts
kind_of member.LoseStart = kind.Texts
kind_of member.LoseReply = kind.Texts
