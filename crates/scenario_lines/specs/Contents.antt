-- What a line says: a phase begins, an actor acts, or a round is run.
use Rattle.std.specs.Prelude.{ℕ, List, true, false, Result, Ok}
use Rattle.serde_json.specs.Data.{Data}
use Rattle.scenario_lines.specs.CellActs.{done_in}
use Rattle.scenario_lines.specs.ClientActs.{asked_in}
use Rattle.scenario_lines.specs.Flaws.{◌>>=◌, json_said}
use Rattle.scenario_lines.specs.Names.{name_given, names_in}
use Rattle.scenario_lines.specs.Shapes.{shaped}
use Rattle.scenario_lines.specs.Values.{lost_in, number_given, times_in}
use Rattle.scenario_lines.specs.declared.content.ActLine.{ActLine}
use Rattle.scenario_lines.specs.declared.content.Content.{Content}
use Rattle.scenario_lines.specs.declared.content.Content.TheVariants.{Phase, Acts, Round}
use Rattle.scenario_lines.specs.declared.content.Losses.{Losses}
use Rattle.scenario_lines.specs.declared.flaw.Flaw.{Flaw}
use Rattle.scenario_lines.specs.declared.form.CellOp.{CellOp}
use Rattle.scenario_lines.specs.declared.form.ClientOp.{ClientOp}
use Rattle.scenario_lines.specs.declared.form.Form.{Form}
use Rattle.scenario_lines.specs.declared.form.Form.TheVariants as form
use Rattle.scenario_lines.specs.declared.member.Member.TheVariants as member

-- when a phase begins
unfoldable pub phase_in : Data → Result Content Flaw
phase_in d = number_given member.At d >>= λ at. Ok (Phase (record { 0 = at }))

-- what a client asks, with what is lost and how often it is run
unfoldable pub client_in : ClientOp → Data → Result ActLine Flaw
client_in op d = do
  name ← name_given member.Client d
  act ← asked_in op d
  lost ← lost_in d
  times ← times_in d
  Ok (record { actor = record { cell = false; name = name }; act = act; lost = lost; times = times })

-- what a cell does, with what is lost and how often it is run
unfoldable pub cell_line : CellOp → Data → Result ActLine Flaw
cell_line op d = do
  name ← name_given member.Cell d
  act ← done_in op d
  lost ← lost_in d
  times ← times_in d
  Ok (record { actor = record { cell = true; name = name }; act = act; lost = lost; times = times })

-- the cells to which a round's calls are lost
unfoldable pub losses_in : Data → Result Losses Flaw
losses_in d = do
  ask ← names_in member.LoseAsk d
  stop ← names_in member.LoseStop d
  start ← names_in member.LoseStart d
  reply ← names_in member.LoseReply d
  Ok (record { ask = ask; stop = stop; start = start; reply = reply })

-- what a line of this form says
abbrev pub content_in : Form → Data → Result Content Flaw
content_in form.At d = phase_in d
content_in form.Round d = losses_in d >>= λ losses. Ok (Round losses)
content_in (form.Client op) d = client_in op d >>= λ line. Ok (Acts line)
content_in (form.Cell op) d = cell_line op d >>= λ line. Ok (Acts line)

-- what the bytes of a line say: first as JSON, then by its shape, then by its names
unfoldable pub content_of : List ℕ → Result Content Flaw
content_of bytes = do
  d ← json_said bytes
  f ← shaped d
  content_in f d
