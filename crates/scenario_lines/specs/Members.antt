-- The members that lines have, and the word of each.
use Rattle.std.specs.Prelude.{ℕ, List, Bool, codes, Option, is_some, option_and_then}
use Rattle.serde_json.specs.Data.{Data}
use Rattle.serde_json.specs.Find.{get, as_str}
use Rattle.scenario_lines.specs.declared.member.Member.{Member}
use Rattle.scenario_lines.specs.declared.member.Member.TheVariants as member

-- a member's name in a line
abbrev pub word : Member → List ℕ
word member.At = codes "at"
word member.Client = codes "client"
word member.Cell = codes "cell"
word member.Op = codes "op"
word member.Lost = codes "lost"
word member.Times = codes "times"
word member.Process = codes "process"
word member.Domain = codes "domain"
word member.Instances = codes "instances"
word member.Memory = codes "memory"
word member.Disk = codes "disk"
word member.Tag = codes "tag"
word member.Route = codes "route"
word member.Port = codes "port"
word member.Index = codes "index"
word member.Name = codes "name"
word member.Zone = codes "zone"
word member.Containers = codes "containers"
word member.Ttl = codes "ttl"
word member.Failed = codes "failed"
word member.LoseAsk = codes "lose_ask"
word member.LoseStop = codes "lose_stop"
word member.LoseStart = codes "lose_start"
word member.LoseReply = codes "lose_reply"

-- what a line says for a member
unfoldable pub said_for : Member → Data → Option Data
said_for m d = get (word m) d

-- a line has the member
abbrev pub has : Member → Data → Bool
has m d = is_some (said_for m d)

-- the text of a member
abbrev pub text_given : Member → Data → Option (List ℕ)
text_given m d = option_and_then as_str (said_for m d)
