-- The lines of actors keep what they have to.
use Rattle.std.proofs.Common.{◌≡◌, ℕ, ◌≤◌, Bool, true, false, ◌&&◌, if◌then◌else◌, nat_le, List, Option, Some, None, option_and_then, Result, Ok, Err, IfOk, refl, arith}
use Rattle.std.proofs.lemmas.Bool.{leb-true}
use Rattle.serde_json.specs.Data.{Data}
use Rattle.bbs_model.specs.declared.command.Op.{Op}
use Rattle.cell_rep.specs.declared.cell_act.CellAct.{CellAct}
use Rattle.scenario_lines.specs.Acts.{is_of_cell}
use Rattle.scenario_lines.specs.CellActs.{as_act, done_in}
use Rattle.scenario_lines.specs.ClientActs.{as_ask, asked_in}
use Rattle.scenario_lines.specs.Contents.{cell_line, client_in, content_in, content_of, losses_in, phase_in}
use Rattle.scenario_lines.specs.Flaws.{◌>>=◌, json_said, or_shape}
use Rattle.scenario_lines.specs.Kinds.{in_times, number_said, times_of}
use Rattle.scenario_lines.specs.Laws.{IsActLine, FitsItsActor}
use Rattle.scenario_lines.specs.Members.{has, said_for}
use Rattle.scenario_lines.specs.Names.{name_given}
use Rattle.scenario_lines.specs.Shapes.{shaped}
use Rattle.scenario_lines.specs.Values.{lost_in, number_given, times_in}
use Rattle.scenario_lines.specs.declared.act.Act.{Act}
use Rattle.scenario_lines.specs.declared.actor.Actor.{Actor}
use Rattle.scenario_lines.specs.declared.flaw.Flaw.{Flaw}
use Rattle.scenario_lines.specs.declared.form.CellOp.{CellOp}
use Rattle.scenario_lines.specs.declared.form.CellOp.TheVariants as cell
use Rattle.scenario_lines.specs.declared.form.ClientOp.{ClientOp}
use Rattle.scenario_lines.specs.declared.form.ClientOp.TheVariants as client
use Rattle.scenario_lines.specs.declared.form.Form.{Form}
use Rattle.scenario_lines.specs.declared.form.Form.TheVariants as form
use Rattle.scenario_lines.specs.declared.member.Member.TheVariants as member

-- what holds of all that may follow holds of what follows
then_ok : {X Y : Type 0} (P : Y → Type 0) (r : Result X Flaw) (f : X → Result Y Flaw) → ((x : X) → IfOk (f x) P)
    → IfOk (r >>= f) P
then_ok P (Ok x) f all = all x
then_ok P (Err flaw) f all = tt

-- the same, where something is known of what was read
from_ok : {X Y : Type 0} (Q : X → Type 0) (P : Y → Type 0) (r : Result X Flaw) (f : X → Result Y Flaw) → IfOk r Q
    → ((x : X) → Q x → IfOk (f x) P) → IfOk (r >>= f) P
from_ok Q P (Ok x) f known all = all x known
from_ok Q P (Err flaw) f known all = tt

-- a number of times
abbrev IsTimes : ℕ → Type 0
IsTimes n = (1 ≤ n) × (n ≤ 1000)

both_true : (a b : Bool) (n : ℕ) → (a ≡ true → 1 ≤ n) → (b ≡ true → n ≤ 1000)
    → IfOk (or_shape (if a && b then Some n else None)) IsTimes
both_true true true n least most = (least refl, most refl)
both_true true false n least most = tt
both_true false b n least most = tt

-- what is read as a number of times is one
times_within : (o : Option ℕ) → IfOk (or_shape (option_and_then in_times o)) IsTimes
times_within None = tt
times_within (Some n) = both_true (nat_le 1 n) (nat_le n 1000) n (leb-true 1 n) (leb-true n 1000)

times_said : (o : Option Data) → IfOk (or_shape (option_and_then times_of o)) IsTimes
times_said None = tt
times_said (Some d) = times_within (number_said d)

times_if : (b : Bool) (o : Option Data) → IfOk (if b then or_shape (option_and_then times_of o) else Ok 1) IsTimes
times_if true o = times_said o
times_if false o = (omega arith, omega arith)

-- how often a line is run
times_in-within : (d : Data) → IfOk (times_in d) IsTimes
unfolding times_in
times_in-within d = times_if (has member.Times d) (said_for member.Times d)

-- the line of an actor whose act fits it
line-fits : (actor : Actor) (act : Act) (d : Data) → actor.cell ≡ is_of_cell act
    → IfOk (lost_in d >>= λ lost. times_in d >>= λ times.
    Ok (record { actor = actor; act = act; lost = lost; times = times })) IsActLine
line-fits actor act d whose =
    then_ok IsActLine (lost_in d) _ (λ lost. from_ok IsTimes IsActLine (times_in d) _ (times_in-within d)
    (λ times within. record { whose = whose; times = within }))

-- a client's act
abbrev IsClients : Act → Type 0
IsClients act = false ≡ is_of_cell act

as_ask-clients : (r : Result Op Flaw) → IfOk (as_ask r) IsClients
as_ask-clients (Ok op) = refl
as_ask-clients (Err flaw) = tt

asked_in-clients : (op : ClientOp) (d : Data) → IfOk (asked_in op d) IsClients
asked_in-clients client.Desire d = as_ask-clients _
asked_in-clients client.Update d = as_ask-clients _
asked_in-clients client.Undesire d = as_ask-clients _
asked_in-clients client.Restart d = as_ask-clients _
asked_in-clients client.Task d = as_ask-clients _
asked_in-clients client.Cancel d = as_ask-clients _
asked_in-clients client.Resolve d = as_ask-clients _
asked_in-clients client.Delete d = as_ask-clients _
asked_in-clients client.Fresh d = as_ask-clients _

-- a client's line
client_in-fits : (op : ClientOp) (d : Data) → IfOk (client_in op d) IsActLine
unfolding client_in
client_in-fits op d =
    then_ok IsActLine (name_given member.Client d) _ (λ name.
    from_ok IsClients IsActLine (asked_in op d) _ (asked_in-clients op d)
    (λ act is. line-fits (record { cell = false; name = name }) act d is))

-- a cell's act
abbrev IsCells : Act → Type 0
IsCells act = true ≡ is_of_cell act

as_act-cells : (r : Result CellAct Flaw) → IfOk (as_act r) IsCells
as_act-cells (Ok a) = refl
as_act-cells (Err flaw) = tt

done_in-cells : (op : CellOp) (d : Data) → IfOk (done_in op d) IsCells
done_in-cells cell.Join d = as_act-cells _
done_in-cells cell.Renew d = as_act-cells _
done_in-cells cell.ClaimInstance d = as_act-cells _
done_in-cells cell.ClaimTask d = as_act-cells _
done_in-cells cell.Run d = as_act-cells _
done_in-cells cell.UpAll d = refl
done_in-cells cell.UpInstance d = as_act-cells _
done_in-cells cell.UpTask d = as_act-cells _
done_in-cells cell.Crash d = as_act-cells _
done_in-cells cell.Finish d = as_act-cells _
done_in-cells cell.Settle d = refl
done_in-cells cell.Evacuate d = refl
done_in-cells cell.Die d = refl

-- a cell's line
cell_in-fits : (op : CellOp) (d : Data) → IfOk (cell_line op d) IsActLine
unfolding cell_line
cell_in-fits op d =
    then_ok IsActLine (name_given member.Cell d) _ (λ name.
    from_ok IsCells IsActLine (done_in op d) _ (done_in-cells op d)
    (λ act is. line-fits (record { cell = true; name = name }) act d is))

-- a line of each form
content_in-fits : (f : Form) (d : Data) → IfOk (content_in f d) FitsItsActor
unfolding phase_in
content_in-fits form.At d = then_ok FitsItsActor (number_given member.At d) _ (λ at. tt)
content_in-fits form.Round d = then_ok FitsItsActor (losses_in d) _ (λ losses. tt)
content_in-fits (form.Client op) d = from_ok IsActLine FitsItsActor (client_in op d) _ (client_in-fits op d)
    (λ line is. is)
content_in-fits (form.Cell op) d = from_ok IsActLine FitsItsActor (cell_line op d) _ (cell_in-fits op d) (λ line is. is)

-- every line
pub content_of-fits : (bytes : List ℕ) → IfOk (content_of bytes) FitsItsActor
unfolding content_of
content_of-fits bytes =
    then_ok FitsItsActor (json_said bytes) _ (λ d. then_ok FitsItsActor (shaped d) _ (λ f. content_in-fits f d))
