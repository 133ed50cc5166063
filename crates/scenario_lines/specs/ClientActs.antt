-- What a client asks of the board, by its line.
use Rattle.std.specs.Prelude.{Result, Ok}
use Rattle.serde_json.specs.Data.{Data}
use Rattle.bbs_model.specs.declared.command.Op.{Op}
use Rattle.bbs_model.specs.declared.command.Op.TheVariants as op
use Rattle.scenario_lines.specs.Flaws.{◌>>=◌}
use Rattle.scenario_lines.specs.Names.{name_given, optional_name_in}
use Rattle.scenario_lines.specs.Values.{key_said, number_given, port_in, ttl_in}
use Rattle.scenario_lines.specs.declared.act.Act.{Act}
use Rattle.scenario_lines.specs.declared.act.Act.TheVariants.{Client}
use Rattle.scenario_lines.specs.declared.flaw.Flaw.{Flaw}
use Rattle.scenario_lines.specs.declared.form.ClientOp.{ClientOp}
use Rattle.scenario_lines.specs.declared.form.ClientOp.TheVariants as client
use Rattle.scenario_lines.specs.declared.member.Member.TheVariants as member

-- a process is wanted
unfoldable pub desire_said : Data → Result Op Flaw
desire_said d = do
  process ← name_given member.Process d
  domain ← name_given member.Domain d
  instances ← number_given member.Instances d
  memory ← number_given member.Memory d
  disk ← number_given member.Disk d
  tag ← optional_name_in member.Tag d
  route ← optional_name_in member.Route d
  port ← port_in d
  Ok (op.Desire (record {
    process = process;
    domain = domain;
    instances = instances;
    memory = memory;
    disk = disk;
    tag = tag;
    route = route;
    port = port;
  }))

-- a process is wanted in so many instances, with this route and port
unfoldable pub update_in : Data → Result Op Flaw
update_in d = do
  process ← name_given member.Process d
  instances ← number_given member.Instances d
  route ← optional_name_in member.Route d
  port ← port_in d
  Ok (op.Update process instances route port)

-- a process is wanted no more
unfoldable pub undesire_in : Data → Result Op Flaw
undesire_in d = name_given member.Process d >>= λ process. Ok (op.Undesire process)

-- a crashed instance is tried again
unfoldable pub restart_in : Data → Result Op Flaw
restart_in d = key_said d >>= λ key. Ok (op.Restart key)

-- a task is wanted
unfoldable pub task_said : Data → Result Op Flaw
task_said d = do
  name ← name_given member.Name d
  memory ← number_given member.Memory d
  disk ← number_given member.Disk d
  tag ← optional_name_in member.Tag d
  Ok (op.NewTask name memory disk tag)

-- a task is given up
unfoldable pub cancel_in : Data → Result Op Flaw
cancel_in d = name_given member.Name d >>= λ name. Ok (op.CancelTask name)

-- a task's outcome begins to be taken
unfoldable pub resolve_in : Data → Result Op Flaw
resolve_in d = name_given member.Name d >>= λ name. Ok (op.ResolveTask name)

-- a task's outcome was taken
unfoldable pub delete_in : Data → Result Op Flaw
delete_in d = name_given member.Name d >>= λ name. Ok (op.DeleteTask name)

-- the list of processes of a domain is vouched for
unfoldable pub fresh_in : Data → Result Op Flaw
fresh_in d = do
  domain ← name_given member.Domain d
  ttl ← ttl_in d
  Ok (op.Fresh domain ttl)

-- what a client asks, as an act
abbrev pub as_ask : Result Op Flaw → Result Act Flaw
as_ask asked = asked >>= λ op. Ok (Client op)

-- what a client does
abbrev pub asked_in : ClientOp → Data → Result Act Flaw
asked_in client.Desire d = as_ask (desire_said d)
asked_in client.Update d = as_ask (update_in d)
asked_in client.Undesire d = as_ask (undesire_in d)
asked_in client.Restart d = as_ask (restart_in d)
asked_in client.Task d = as_ask (task_said d)
asked_in client.Cancel d = as_ask (cancel_in d)
asked_in client.Resolve d = as_ask (resolve_in d)
asked_in client.Delete d = as_ask (delete_in d)
asked_in client.Fresh d = as_ask (fresh_in d)
