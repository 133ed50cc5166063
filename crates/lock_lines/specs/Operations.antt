-- Which operation a line asks for, and which members a line with it has.
use Rattle.std.specs.Prelude.{ℕ, List, codes, Bool, false, ◌||◌, Option, Some, None, option_and_then, if◌then◌else◌}
use Rattle.std.specs.List.{list_all}
use Rattle.std.specs.Option.{option_map_or}
use Rattle.std.specs.Str.{bytes_eq}
use Rattle.serde_json.specs.Data.{Data}
use Rattle.serde_json.specs.Find.{as_object}
use Rattle.scenario_lines.specs.Shapes.{names_given}
use Rattle.lock_lines.specs.Members.{text_in}
use Rattle.lock_lines.specs.declared.operation.Operation.{Operation}
use Rattle.lock_lines.specs.declared.operation.Operation.TheVariants.{Acquire, Renew, Release}

-- an operation, by its word
abbrev pub operation_named : List ℕ → Option Operation
operation_named word =
    if bytes_eq word (codes "acquire") then Some Acquire
    else (if bytes_eq word (codes "renew") then Some Renew
    else (if bytes_eq word (codes "release") then Some Release
    else None))

-- the operation that a line asks for
unfoldable pub operation_in : Data → Option Operation
operation_in d = option_and_then operation_named (text_in (codes "op") d)

-- a member of this name is in each line
abbrev pub is_in_each : List ℕ → Bool
is_in_each name = bytes_eq name (codes "at") || bytes_eq name (codes "op") || bytes_eq name (codes "owner")

-- a member of this name is in a line with this operation
abbrev pub is_known : Operation → List ℕ → Bool
is_known Acquire name = is_in_each name || bytes_eq name (codes "ttl")
is_known Renew name = is_in_each name || bytes_eq name (codes "ttl") || bytes_eq name (codes "fence")
is_known Release name = is_in_each name || bytes_eq name (codes "fence")

-- a line has no members but those of its operation
unfoldable pub has_only : Operation → Data → Bool
has_only operation d =
    option_map_or (λ members. list_all (is_known operation) (names_given members)) (as_object d) false
