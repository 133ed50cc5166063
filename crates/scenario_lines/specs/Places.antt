-- Where what a line says is kept, by its members.
use Rattle.std.specs.Prelude.{◌≡◌, ℕ, List, codes, Option, Some, None, option_map, String, string_bytes, if◌then◌else◌, length, nat_eq}
use Rattle.std.specs.Borrow.{Bor}
use Rattle.std.specs.BTreeMap.{BTreeMap, is_at}
use Rattle.std.specs.Cmp.Lexicographic.{slice_cmp}
use Rattle.std.specs.Map.{lookup}
use Rattle.std.specs.Ordering.{nat_cmp}
use Rattle.std.specs.declared.alloc.Global.{Global}
use Rattle.std.specs.List.{slice_get}
use Rattle.std.specs.Str.{bytes_eq}
use Rattle.serde_json.specs.Data.{Data, object}
use Rattle.serde_json.specs.View.{members_view}
use Rattle.serde_json.specs.declared.value.Value.{Value}
use Rattle.scenario_lines.specs.Members.{word}
use Rattle.scenario_lines.specs.declared.member.Member.{Member}
use Rattle.scenario_lines.specs.declared.member.Member.TheVariants as member

-- the place of a member among all, from 0
abbrev pub place : Member → ℕ
place member.At = 0
place member.Client = 1
place member.Cell = 2
place member.Op = 3
place member.Lost = 4
place member.Times = 5
place member.Process = 6
place member.Domain = 7
place member.Instances = 8
place member.Memory = 9
place member.Disk = 10
place member.Tag = 11
place member.Route = 12
place member.Port = 13
place member.Index = 14
place member.Name = 15
place member.Zone = 16
place member.Containers = 17
place member.Ttl = 18
place member.Failed = 19
place member.LoseAsk = 20
place member.LoseStop = 21
place member.LoseStart = 22
place member.LoseReply = 23

-- the member of this name, among those whose words have four bytes
abbrev pub member_of_four : List ℕ → Option Member
member_of_four name =
    if bytes_eq name (codes "cell") then Some member.Cell
    else (if bytes_eq name (codes "lost") then Some member.Lost
    else (if bytes_eq name (codes "disk") then Some member.Disk
    else (if bytes_eq name (codes "port") then Some member.Port
    else (if bytes_eq name (codes "name") then Some member.Name
    else (if bytes_eq name (codes "zone") then Some member.Zone
    else None)))))

-- among those of five bytes
abbrev pub member_of_five : List ℕ → Option Member
member_of_five name =
    if bytes_eq name (codes "times") then Some member.Times
    else (if bytes_eq name (codes "route") then Some member.Route
    else (if bytes_eq name (codes "index") then Some member.Index
    else None))

-- among those of six bytes
abbrev pub member_of_six : List ℕ → Option Member
member_of_six name =
    if bytes_eq name (codes "client") then Some member.Client
    else (if bytes_eq name (codes "domain") then Some member.Domain
    else (if bytes_eq name (codes "memory") then Some member.Memory
    else (if bytes_eq name (codes "failed") then Some member.Failed
    else None)))

-- among those of ten bytes
abbrev pub member_of_ten : List ℕ → Option Member
member_of_ten name =
    if bytes_eq name (codes "containers") then Some member.Containers
    else (if bytes_eq name (codes "lose_start") then Some member.LoseStart
    else (if bytes_eq name (codes "lose_reply") then Some member.LoseReply
    else None))

-- the member of this name, if there is one, by the name's length
abbrev pub member_named : List ℕ → Option Member
member_named name =
    if nat_eq (length name) 2 then
    (if bytes_eq name (codes "at") then Some member.At
    else (if bytes_eq name (codes "op") then Some member.Op
    else None))
    else (if nat_eq (length name) 3 then
    (if bytes_eq name (codes "tag") then Some member.Tag
    else (if bytes_eq name (codes "ttl") then Some member.Ttl
    else None))
    else (if nat_eq (length name) 4 then member_of_four name
    else (if nat_eq (length name) 5 then member_of_five name
    else (if nat_eq (length name) 6 then member_of_six name
    else (if nat_eq (length name) 7 then
    (if bytes_eq name (codes "process") then Some member.Process
    else None)
    else (if nat_eq (length name) 8 then
    (if bytes_eq name (codes "lose_ask") then Some member.LoseAsk
    else None)
    else (if nat_eq (length name) 9 then
    (if bytes_eq name (codes "instances") then Some member.Instances
    else (if bytes_eq name (codes "lose_stop") then Some member.LoseStop
    else None))
    else (if nat_eq (length name) 10 then member_of_ten name
    else None))))))))

-- the value of this name, among entries
abbrev pub value_named : List ℕ → List (String Global × Value) → Option Value
value_named name entries = lookup (is_at (λ k. slice_cmp nat_cmp name (string_bytes k))) entries

-- what is kept at each member's place is the value of its word
abbrev pub KeepsAll : List (Option (Bor Value)) → List (String Global × Value) → Type 0
KeepsAll said entries = (m : Member) → option_map (option_map (λ v. v.now)) (slice_get said (place m)) ≡ Some (value_named (word m) entries)

-- the data of an object
abbrev pub object_of : BTreeMap (String Global) Value → Data
object_of members = object (members_view members.entries)
