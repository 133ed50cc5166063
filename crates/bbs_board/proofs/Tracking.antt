-- The events of a step lead the differences along.
use Rattle.std.proofs.Common.{◌≡◌, Option, Some, sym, subst}
use Rattle.bbs_model.specs.Step.{events_of, rows_after}
use Rattle.bbs_model.specs.Valid.{IsValid}
use Rattle.bbs_model.specs.declared.command.Command.{Command}
use Rattle.bbs_model.specs.declared.event.Event.{Event}
use Rattle.bbs_model.specs.declared.event.Events.{Events}
use Rattle.bbs_model.specs.declared.rows.Rows.{Rows}
use Rattle.event_laws.specs.Told.{TellAll, TellsAll}
use Rattle.differences.specs.Noted.{Noted}
use Rattle.differences.specs.Standing.{Follows, StandsFor}

-- the events of a legal command lead from the rows before it to those after it
pub follows_command : (rows new : Rows) (command : Command) (d : Noted) (e : Events) (second : Option Event)
    → IsValid rows → IsValid new → StandsFor d rows → TellsAll rows command → Some e ≡ events_of rows command
    → new ≡ rows_after rows command → second ≡ e.second → Follows d e.first second new
follows_command rows new command d e second v w stands t told after is =
    let one : t.events ≡ e = let told_here = t.told in cc in
    let here : TellAll rows (rows_after rows command) e =
    subst (λ (x : Events). TellAll rows (rows_after rows command) x) one t.tell in
    let tell : TellAll rows new e = subst (λ (r : Rows). TellAll rows r e) (sym after) here in
    let both = λ (s : Option Event). TellAll rows new (record { first = e.first; second = s }) in
    (rows, v, w, stands, subst both (sym is) tell)
