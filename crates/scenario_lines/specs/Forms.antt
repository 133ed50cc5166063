-- The forms of lines: which a line has, and the members of each.
use Rattle.std.specs.Prelude.{ℕ, List, [], ◌∷◌, ◌||◌, codes, Option, Some, None, option_map, option_and_then, if◌then◌else◌}
use Rattle.std.specs.Str.{bytes_eq}
use Rattle.serde_json.specs.Data.{Data}
use Rattle.scenario_lines.specs.Members.{has, text_given}
use Rattle.scenario_lines.specs.declared.form.CellOp.{CellOp}
use Rattle.scenario_lines.specs.declared.form.CellOp.TheVariants as cell
use Rattle.scenario_lines.specs.declared.form.ClientOp.{ClientOp}
use Rattle.scenario_lines.specs.declared.form.ClientOp.TheVariants as client
use Rattle.scenario_lines.specs.declared.form.Form.{Form}
use Rattle.scenario_lines.specs.declared.form.Form.TheVariants as form
use Rattle.scenario_lines.specs.declared.member.Member.{Member}
use Rattle.scenario_lines.specs.declared.member.Member.TheVariants.{At, Client, Cell, Op, Lost, Times, Process, Domain, Instances, Memory, Disk, Tag, Route, Port, Index, Name, Zone, Containers, Ttl, Failed, LoseAsk, LoseStop, LoseStart, LoseReply}

-- what a client does, by its word
unfoldable pub client_op : List ℕ → Option ClientOp
client_op op =
    if bytes_eq op (codes "desire") then Some client.Desire
    else (if bytes_eq op (codes "update") then Some client.Update
    else (if bytes_eq op (codes "undesire") then Some client.Undesire
    else (if bytes_eq op (codes "restart") then Some client.Restart
    else (if bytes_eq op (codes "task") then Some client.Task
    else (if bytes_eq op (codes "cancel") then Some client.Cancel
    else (if bytes_eq op (codes "resolve") then Some client.Resolve
    else (if bytes_eq op (codes "delete") then Some client.Delete
    else (if bytes_eq op (codes "fresh") then Some client.Fresh
    else None))))))))

-- a claim is for a task where it names one, else for an instance
abbrev pub claim_form : Data → CellOp
claim_form d = if has Name d then cell.ClaimTask else cell.ClaimInstance

-- an up is for a task or an instance where it names one, else for all
abbrev pub up_op : Data → CellOp
up_op d = if has Name d then cell.UpTask else (if has Process d || has Index d then cell.UpInstance else cell.UpAll)

-- what a cell does, by its word and by the job that the line names
unfoldable pub cell_op : List ℕ → Data → Option CellOp
cell_op op d =
    if bytes_eq op (codes "join") then Some cell.Join
    else (if bytes_eq op (codes "renew") then Some cell.Renew
    else (if bytes_eq op (codes "claim") then Some (claim_form d)
    else (if bytes_eq op (codes "run") then Some cell.Run
    else (if bytes_eq op (codes "up") then Some (up_op d)
    else (if bytes_eq op (codes "crash") then Some cell.Crash
    else (if bytes_eq op (codes "finish") then Some cell.Finish
    else (if bytes_eq op (codes "settle") then Some cell.Settle
    else (if bytes_eq op (codes "evacuate") then Some cell.Evacuate
    else (if bytes_eq op (codes "die") then Some cell.Die
    else None)))))))))

-- the form of a line with this op
unfoldable pub form_with : List ℕ → Data → Option Form
form_with op d =
    if has Client d then option_map form.Client (client_op op)
    else (if has Cell d then option_map form.Cell (cell_op op d)
    else (if bytes_eq op (codes "round") then Some form.Round else None))

-- the form of a line
unfoldable pub form_of : Data → Option Form
form_of d = if has At d then Some form.At else option_and_then (λ op. form_with op d) (text_given Op d)

-- the members that a client's line needs
abbrev pub client_needs : ClientOp → List Member
client_needs client.Desire = Client ∷ Op ∷ Process ∷ Domain ∷ Instances ∷ Memory ∷ Disk ∷ []
client_needs client.Update = Client ∷ Op ∷ Process ∷ Instances ∷ []
client_needs client.Undesire = Client ∷ Op ∷ Process ∷ []
client_needs client.Restart = Client ∷ Op ∷ Process ∷ Index ∷ []
client_needs client.Task = Client ∷ Op ∷ Name ∷ Memory ∷ Disk ∷ []
client_needs client.Cancel = Client ∷ Op ∷ Name ∷ []
client_needs client.Resolve = Client ∷ Op ∷ Name ∷ []
client_needs client.Delete = Client ∷ Op ∷ Name ∷ []
client_needs client.Fresh = Client ∷ Op ∷ Domain ∷ []

-- the members that it may have besides
abbrev pub client_allows : ClientOp → List Member
client_allows client.Desire = Lost ∷ Times ∷ Tag ∷ Route ∷ Port ∷ []
client_allows client.Update = Lost ∷ Times ∷ Route ∷ Port ∷ []
client_allows client.Undesire = Lost ∷ Times ∷ []
client_allows client.Restart = Lost ∷ Times ∷ []
client_allows client.Task = Lost ∷ Times ∷ Tag ∷ []
client_allows client.Cancel = Lost ∷ Times ∷ []
client_allows client.Resolve = Lost ∷ Times ∷ []
client_allows client.Delete = Lost ∷ Times ∷ []
client_allows client.Fresh = Lost ∷ Times ∷ Ttl ∷ []

-- the members that a cell's line needs
abbrev pub cell_needs : CellOp → List Member
cell_needs cell.Join = Cell ∷ Op ∷ Zone ∷ Memory ∷ Disk ∷ Containers ∷ Ttl ∷ []
cell_needs cell.Renew = Cell ∷ Op ∷ Ttl ∷ []
cell_needs cell.ClaimInstance = Cell ∷ Op ∷ Process ∷ Index ∷ Memory ∷ Disk ∷ []
cell_needs cell.ClaimTask = Cell ∷ Op ∷ Name ∷ Memory ∷ Disk ∷ []
cell_needs cell.Run = Cell ∷ Op ∷ Process ∷ Index ∷ Memory ∷ Disk ∷ []
cell_needs cell.UpAll = Cell ∷ Op ∷ []
cell_needs cell.UpInstance = Cell ∷ Op ∷ Process ∷ Index ∷ []
cell_needs cell.UpTask = Cell ∷ Op ∷ Name ∷ []
cell_needs cell.Crash = Cell ∷ Op ∷ Process ∷ Index ∷ []
cell_needs cell.Finish = Cell ∷ Op ∷ Name ∷ []
cell_needs cell.Settle = Cell ∷ Op ∷ []
cell_needs cell.Evacuate = Cell ∷ Op ∷ []
cell_needs cell.Die = Cell ∷ Op ∷ []

-- the members that it may have besides
abbrev pub cell_allows : CellOp → List Member
cell_allows cell.Join = Lost ∷ Times ∷ Tag ∷ []
cell_allows cell.Renew = Lost ∷ Times ∷ []
cell_allows cell.ClaimInstance = Lost ∷ Times ∷ []
cell_allows cell.ClaimTask = Lost ∷ Times ∷ []
cell_allows cell.Run = Lost ∷ Times ∷ []
cell_allows cell.UpAll = Lost ∷ Times ∷ []
cell_allows cell.UpInstance = Lost ∷ Times ∷ []
cell_allows cell.UpTask = Lost ∷ Times ∷ []
cell_allows cell.Crash = Lost ∷ Times ∷ []
cell_allows cell.Finish = Lost ∷ Times ∷ Failed ∷ []
cell_allows cell.Settle = Lost ∷ Times ∷ []
cell_allows cell.Evacuate = Lost ∷ Times ∷ []
cell_allows cell.Die = Lost ∷ Times ∷ []

-- the members that a line of this form needs
abbrev pub needs : Form → List Member
needs form.At = At ∷ []
needs form.Round = Op ∷ []
needs (form.Client op) = client_needs op
needs (form.Cell op) = cell_needs op

-- the members that it may have besides
abbrev pub allows : Form → List Member
allows form.At = []
allows form.Round = LoseAsk ∷ LoseStop ∷ LoseStart ∷ LoseReply ∷ []
allows (form.Client op) = client_allows op
allows (form.Cell op) = cell_allows op
