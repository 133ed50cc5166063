-- The events of a command are all that it does.
use Rattle.std.proofs.Common.{◌≡◌, Bool, true, false, cond, suc, length, List, [], ◌∷◌, Option, Some, None, is_some, refl, ap, sym, subst, ◌∙◌}
use Rattle.diego_names.specs.Order.{name_order}
use Rattle.diego_names.proofs.Public.{IsKeyOrder-name_order}
use Rattle.lrp_records.specs.Place.{place_of, place_order}
use Rattle.lrp_records.proofs.Public.{IsKeyOrder-place_order}
use Rattle.row_tables.proofs.Public.{find_row-put_row_same, find_row-without_row_same}
use Rattle.bbs_laws.specs.Events.{StandsIn, SaysSo, AreTrue}
use Rattle.bbs_model.specs.Replay.{replay, AreLegal}
use Rattle.bbs_model.specs.Step.{IsLegal, changed_by, advanced, edited, edited_again, rows_after, with_row, without_place_of, has_place_of, event_of, event_again, events_in}
use Rattle.bbs_model.specs.Tables.{process_of, task_name_of, cell_name_of, domain_name_of}
use Rattle.bbs_model.specs.declared.attempt.Attempt.{Attempt}
use Rattle.bbs_model.specs.declared.attempt.Attempt.TheVariants.{Change as Changes}
use Rattle.bbs_model.specs.declared.attempt.Edit.{Edit}
use Rattle.bbs_model.specs.declared.attempt.Edit.TheVariants.{Put, Drop}
use Rattle.bbs_model.specs.declared.command.Command.{Command}
use Rattle.bbs_model.specs.declared.command.Op.{Op}
use Rattle.bbs_model.specs.declared.event.Change.{Change}
use Rattle.bbs_model.specs.declared.event.Change.TheVariants.{Created, Changed, Removed}
use Rattle.bbs_model.specs.declared.event.Event.{Event}
use Rattle.bbs_model.specs.declared.event.Events.{Events}
use Rattle.bbs_model.specs.declared.event.Row.{Row}
use Rattle.bbs_model.specs.declared.event.Row.TheVariants as row
use Rattle.bbs_model.specs.declared.rows.Rows.{Rows}
use Rattle.bbs_laws.proofs.Public.{legal_changes}
use Rattle.event_laws.specs.Told.{with_change, with_event, with_events, with_second, FitsRows, IsShown, AreDue, TellAll, TellsAll, told_of_commands, told_before, after_all, FollowsTheBoard}
use Rattle.event_laws.proofs.Own.{IsSound, IsOwnAgain, AreOwn, own-attempt}

-- what is told of an edit is what it does
with_change-put : (known : Bool) (r : Row) (rows : Rows)
    → with_change (cond known Changed Created) r rows ≡ with_row rows r
with_change-put true r rows = refl
with_change-put false r rows = refl

with_event-edit : (rows : Rows) (edit : Edit) → with_event (event_of rows edit) rows ≡ edited rows edit
with_event-edit rows (Put r) = with_change-put (has_place_of rows r) r rows
with_event-edit rows (Drop r) = refl

due-put : (known : Bool) (r : Row) (rows : Rows) → has_place_of rows r ≡ known
    → FitsRows (cond known Changed Created) r rows
due-put true r rows is = is
due-put false r rows is = is

due-edit : (rows : Rows) (edit : Edit) → IsSound rows edit → let e = event_of rows edit in FitsRows e.change e.row rows
due-edit rows (Put r) sound = due-put (has_place_of rows r) r rows refl
due-edit rows (Drop r) sound = sound

-- one edit or two
module _ (rows : Rows) (first : Edit) where
  all-edits : (second : Option Edit) → with_events (with_second (event_of rows first)
      (event_again (edited rows first) second)) rows ≡ edited_again (edited rows first) second
  all-edits None = with_event-edit rows first
  all-edits (Some second) =
      ap (with_event (event_of (edited rows first) second)) (with_event-edit rows first) ∙ with_event-edit
      (edited rows first) second

  due-edits : (second : Option Edit) → IsSound rows first
      → ((edit : Edit) → second ≡ Some edit → IsSound (edited rows first) edit)
      → AreDue rows (with_second (event_of rows first) (event_again (edited rows first) second))
  due-edits None one two = (due-edit rows first one, tt)
  due-edits (Some second) one two =
      let e = event_of (edited rows first) second in (
        due-edit rows first one,
        (
          subst (λ (r : Rows). FitsRows e.change e.row r) (sym (with_event-edit rows first))
              (due-edit (edited rows first) second (two second refl)),
          tt,
        ),
      )

sound_again : (rows : Rows) (asked : Op) (second : Option Edit) → IsOwnAgain rows asked second → (edit : Edit)
    → second ≡ Some edit → IsSound rows edit
sound_again rows asked None own edit is = cc
sound_again rows asked (Some other) own edit is = let one : other ≡ edit = cc in
    subst (λ (x : Edit). IsSound rows x) one own.sound

pub tells_all : (rows : Rows) (c : Command) → IsLegal rows c → TellsAll rows c
tells_all rows c legal =
    let change = legal_changes rows c legal in
    let first = change.first in
    let second = change.second in
    let own : AreOwn rows c.op (Changes first second) = subst (λ (a : Attempt). AreOwn rows c.op a) change.is
    (own-attempt rows c.now c.op) in
    let after : rows_after rows c ≡ changed_by rows (Changes first second) =
    ap (λ (a : Attempt). changed_by rows a) change.is in
    record {
      events = record { first = event_of rows first; second = event_again (edited rows first) second };
      told = ap (λ (a : Attempt). events_in rows a) change.is;
      tell = record {
        all = after ∙ ap advanced (sym (all-edits rows first second));
        due = due-edits rows first second own.0.sound (sound_again (edited rows first) c.op second own.1);
      };
    }

-- who follows the events has the rows
follows-rows : (rows : Rows) (cs : List Command) → AreLegal rows cs
    → replay rows cs ≡ after_all rows (told_of_commands rows cs)
follows-rows rows [] legal = refl
follows-rows rows (c ∷ cs) legal =
    let tells = tells_all rows c legal.0 in
    let later = told_of_commands (rows_after rows c) cs in
    follows-rows (rows_after rows c) cs legal.1 ∙ ap (λ (r : Rows). after_all r later) tells.tell.all
    ∙ ap (λ (t : Option Events). after_all rows (told_before t later)) (sym tells.told)

follows-each : (rows : Rows) (cs : List Command) → AreLegal rows cs → length (told_of_commands rows cs) ≡ length cs
follows-each rows [] legal = refl
follows-each rows (c ∷ cs) legal =
    let later = told_of_commands (rows_after rows c) cs in
    ap (λ (t : Option Events). length (told_before t later)) (tells_all rows c legal.0).told ∙ ap (λ n. suc n)
    (follows-each (rows_after rows c) cs legal.1)

pub follows : (rows : Rows) (cs : List Command) → FollowsTheBoard rows cs
follows rows cs = record { rows_are = follows-rows rows cs; each = follows-each rows cs }

-- a row that was put stands there, and none where it was taken away
Stands-with_row : (rows : Rows) (r : Row) → StandsIn (with_row rows r) r
Stands-with_row rows (row.Desired d) = find_row-put_row_same name_order process_of IsKeyOrder-name_order d rows.desired
Stands-with_row rows (row.Actual a) = find_row-put_row_same place_order place_of IsKeyOrder-place_order a rows.actual
Stands-with_row rows (row.Task t) = find_row-put_row_same name_order task_name_of IsKeyOrder-name_order t rows.tasks
Stands-with_row rows (row.Cell c) = find_row-put_row_same name_order cell_name_of IsKeyOrder-name_order c rows.cells
Stands-with_row rows (row.Domain d) =
    find_row-put_row_same name_order domain_name_of IsKeyOrder-name_order d rows.domains

free-without : (rows : Rows) (r : Row) → has_place_of (without_place_of rows r) r ≡ false
free-without rows (row.Desired d) = ap (λ o. is_some o)
    (find_row-without_row_same name_order process_of IsKeyOrder-name_order d.process rows.desired)
free-without rows (row.Actual a) = ap (λ o. is_some o)
    (find_row-without_row_same place_order place_of IsKeyOrder-place_order (place_of a) rows.actual)
free-without rows (row.Task t) = ap (λ o. is_some o) (find_row-without_row_same name_order task_name_of
    IsKeyOrder-name_order t.name rows.tasks)
free-without rows (row.Cell c) = ap (λ o. is_some o) (find_row-without_row_same name_order cell_name_of
    IsKeyOrder-name_order c.cell rows.cells)
free-without rows (row.Domain d) =
    ap (λ o. is_some o) (find_row-without_row_same name_order domain_name_of IsKeyOrder-name_order d.domain
    rows.domains)

shown : (change : Change) (r : Row) (rows : Rows) → IsShown change r (with_change change r rows)
shown Created r rows = Stands-with_row rows r
shown Changed r rows = Stands-with_row rows r
shown Removed r rows = free-without rows r

pub shows : (rows : Rows) (e : Event) → IsShown e.change e.row (with_event e rows)
shows rows e = shown e.change e.row rows

-- what is due before and shown after is said so, and the count of transitions changes nothing of it
shown-advanced : (change : Change) (r : Row) (rows : Rows) → IsShown change r rows → IsShown change r (advanced rows)
shown-advanced Created (row.Desired d) rows h = h
shown-advanced Created (row.Actual a) rows h = h
shown-advanced Created (row.Task t) rows h = h
shown-advanced Created (row.Cell c) rows h = h
shown-advanced Created (row.Domain d) rows h = h
shown-advanced Changed (row.Desired d) rows h = h
shown-advanced Changed (row.Actual a) rows h = h
shown-advanced Changed (row.Task t) rows h = h
shown-advanced Changed (row.Cell c) rows h = h
shown-advanced Changed (row.Domain d) rows h = h
shown-advanced Removed (row.Desired d) rows h = h
shown-advanced Removed (row.Actual a) rows h = h
shown-advanced Removed (row.Task t) rows h = h
shown-advanced Removed (row.Cell c) rows h = h
shown-advanced Removed (row.Domain d) rows h = h

said : (change : Change) (r : Row) (old new : Rows) → FitsRows change r old → IsShown change r new
    → SaysSo change r old new
said Created r old new due after = (due, after)
said Changed r old new due after = (due, after)
said Removed r old new due after = (due, after)

says : (e : Event) (old : Rows) → FitsRows e.change e.row old → SaysSo e.change e.row old (with_event e old)
says e old due = said e.change e.row old (with_event e old) due (shows old e)

says_last : (e : Event) (old : Rows) → FitsRows e.change e.row old
    → SaysSo e.change e.row old (advanced (with_event e old))
says_last e old due = said e.change e.row old (advanced (with_event e old)) due
    (shown-advanced e.change e.row (with_event e old) (shows old e))

true_as : (old : Rows) (first : Event) (second : Option Event) → AreDue old (with_second first second)
    → AreTrue old (advanced (with_events (with_second first second) old)) (record { first = first; second = second })
true_as old first None due = record {
  between = advanced (with_event first old);
  first = says_last first old due.0;
  second = tt;
  alone = λ _. refl;
}
true_as old first (Some second) due = record {
  between = with_event first old;
  first = says first old due.0;
  second = says_last second (with_event first old) due.1.0;
  alone = λ none. cc;
}

pub true_of : (old new : Rows) (events : Events) → TellAll old new events → AreTrue old new events
true_of old new events tell =
    subst (λ (r : Rows). AreTrue old r events) (sym tell.all) (true_as old events.first events.second tell.due)
