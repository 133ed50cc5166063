-- Scenarios that were worked out by hand: how they are written.
use Rattle.std.specs.Prelude.{◌≡◌, ℕ, List, [], ◌∷◌, codes, true, false, Option, Some, None}
use Rattle.std.specs.List.{flat_map}
use Rattle.bbs_board.specs.Written.{written_behind}
use Rattle.bbs_model.specs.Tables.{no_rows}
use Rattle.bbs_model.specs.declared.command.Op.TheVariants as op
use Rattle.cell_records.specs.declared.job_name.JobName.TheVariants as job
use Rattle.cell_rep.specs.declared.cell_act.CellAct.TheVariants as cell
use Rattle.disk_trait.specs.declared.area.Area.TheVariants.{A}
use Rattle.diego_names.specs.declared.key.Key.{Key}
use Rattle.scenario_lines.specs.declared.act.Act.{Act}
use Rattle.scenario_lines.specs.declared.act.Act.TheVariants as act
use Rattle.scenario_lines.specs.declared.act.Loss.{Loss}
use Rattle.scenario_lines.specs.declared.actor.Actor.{Actor}
use Rattle.scenario_lines.specs.declared.script.Line.{Line}
use Rattle.scenario_lines.specs.declared.script.Phase.{Phase}
use Rattle.scenario_lines.specs.declared.script.Script.{Script}
use Rattle.scenario_player.specs.Wordings.{whole_wording}
use Rattle.run_function.specs.Boards.{SoleBoard}
use Rattle.run_function.specs.Scripts.{items_alone, words_alone}

-- a board on which nothing was ever done
abbrev pub empty : SoleBoard
empty = record { base = no_rows; log = [] }

-- a cell of that name
abbrev pub cell_named : List ℕ → Actor
cell_named name = record { cell = true; name = name }

-- a client of that name
abbrev pub client_named : List ℕ → Actor
client_named name = record { cell = false; name = name }

-- a line of an actor
abbrev pub line : ℕ → ℕ → Act → Option Loss → ℕ → Line
line number by act lost times = record { line = number; actor = by; act = act; lost = lost; times = times }

-- a phase without a round
abbrev pub lines_at : ℕ → List Line → Phase
lines_at moment lines = record { at = record { 0 = moment }; lines = lines; round = None }

-- a phase of one line, which is run once and of which nothing is lost
abbrev pub one_line : ℕ → ℕ → ℕ → Act → Phase
one_line moment number by act = lines_at moment (line number by act None 1 ∷ [])

-- a round alone, which loses the questions to these cells
abbrev pub round_losing : ℕ → ℕ → List (List ℕ) → Phase
round_losing moment number asks = record {
  at = record { 0 = moment };
  lines = [];
  round = Some (record { line = number; lose_ask = asks; lose_stop = []; lose_start = []; lose_reply = [] });
}

-- a round alone, which loses nothing
abbrev pub round_at : ℕ → ℕ → Phase
round_at moment number = round_losing moment number []

-- a cell joins
abbrev pub join_act : List ℕ → ℕ → Act
join_act zone ttl = act.Cell (cell.Join zone None (record { memory = 1024; disk = 4096; containers = 10 }) ttl)

-- a client desires so many instances
abbrev pub desire_act : ℕ → Option (List ℕ) → Act
desire_act instances tag = act.Client (op.Desire (record {
  process = codes "web";
  domain = codes "apps";
  instances = instances;
  memory = 64;
  disk = 128;
  tag = tag;
  route = None;
  port = 8080;
}))

-- the first instance of that process
abbrev pub first_web : Key
first_web = record { process = codes "web"; index = 0 }

-- a cell claims it, with so much disk
abbrev pub claim : ℕ → Act
claim disk = act.Cell (cell.Claim (job.Lrp first_web) 64 disk)

-- a cell runs it
abbrev pub run : ℕ → Act
run disk = act.Cell (cell.Run first_web 64 disk)

-- a client asks for a task
abbrev pub task_act : List ℕ → Act
task_act name = act.Client (op.NewTask name 64 64 None)

-- a run on an empty board prints these pieces of a text, joined
abbrev pub PrintsPieces : Script → List (List ℕ) → Type 0
PrintsPieces script pieces = words_alone whole_wording script empty ≡ flat_map (λ piece. piece) pieces

-- a run on an empty board writes these payloads behind what the disk reads
abbrev pub Writes : Script → List (List ℕ) → Type 0
Writes script payloads =
    (written_behind empty.base (record { area = A; version = 2; generation = 1; head = []; payloads = [] })
    (items_alone whole_wording script empty)).payloads ≡ payloads
