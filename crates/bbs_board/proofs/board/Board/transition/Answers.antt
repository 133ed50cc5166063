use Rattle.std.proofs.Common.{◌≡◌, ◌∙◌, ◌+◌, ◌≤◌, Bool, true, false, List, ℕ, Option, Some, None, [], ◌∷◌, ◌++◌, is_ok, length, sym, ap, subst, arith, rules}
use Rattle.std.specs.Option.{ForSome}
use Rattle.std.specs.Prelude.{is_err}
use Rattle.byte_ports.specs.Cause.{HasCause}
use Rattle.disk_trait.specs.Steps.{Goes}
use Rattle.bbs_codec.proofs.Public.{command_least, command_most}
use Rattle.bbs_model.specs.Replay.{replay_log}
use Rattle.bbs_model.specs.Step.{IsLegal, rows_after, events_of}
use Rattle.bbs_model.specs.declared.event.Events.{Events}
use Rattle.bbs_model.specs.declared.rows.Rows.{Rows}
use Rattle.bbs_model.specs.declared.verdict.Verdict.TheVariants as verdict
use Rattle.bbs_board.specs.Calls.{Passes}
use Rattle.bbs_board.specs.History.{Entries, with_item}
use Rattle.bbs_board.specs.KeptIn.{StaysShort, most_after}
use Rattle.bbs_board.specs.Room.{row_count, places_in}
use Rattle.bbs_board.specs.Storing.{HasStored, IsHeadOf, StoreTakes}
use Rattle.bbs_board.specs.View.{View, rows_of, wants_checkpoint}
use Rattle.bbs_board.proofs.Counting.{few_after, places_kept, calls_less}
use Rattle.bbs_board.proofs.Filling.{takes_none}
use Rattle.bbs_board.proofs.Held.{sound_more, sound_short, stored_short, stored_passes, stores_as, on_ok}
use Rattle.bbs_board.proofs.Storing.{passes_nothing}
use Rattle.bbs_board.proofs.board.Board.transition.Goals as goal

pub store-stored-requires-clause-payload : goal.store-stored-requires-clause-payload
store-stored-requires-clause-payload g c =
    let len = ap length c.write_command-len.ensures.bytes in
    let least = command_least c.args.command.now c.write_command-len.ensures.fits in
    let most = command_most c.args.command.now c.write_command-len.ensures.fits in
    (omega (arith, len, least), omega (arith, len, most))

pub store-stored-requires-clause-few : goal.store-stored-requires-clause-few
store-stored-requires-clause-few g c = λ due.
    let fine : is_err c.prepare_call.result ≡ false = search rules in
    let head = on_ok c.prepare_call.result _ fine c.prepare_call.ensures.head
    (c.wants_checkpoint-due.ensures.due ∙ due) in
    let small = head.small in
    omega (arith, small, ap length c.deref.ensures.value)

pub returns-then-is_err-clause-does : goal.returns-then-is_err-clause-does
returns-then-is_err-clause-does g c =
    let b = c.self.inside in
    let still = passes_nothing (g.D.Disk.told b.journal.disk) b.base.value.rows b.history.log b.history.marks b.since
    b.journal.area b.journal.version b.journal.generation b.journal.end b.journal.frames b.journal.waiting
    b.journal.gate c.self.invariant.holds c.args.command.now in
    subst (λ (v : View g.row.D.Denot). Goes (g.D.Disk.told v.disk) (g.D.Disk.told b.journal.disk)
    (Passes v.waits verdict.Ok false (rows_of v) c.args.command.now)) c.self.view_is still

pub returns-then-is_err-clause-few : goal.returns-then-is_err-clause-few
returns-then-is_err-clause-few g c =
    let b = c.self.inside in
    let short = sound_short g.D.Disk.told g.D.Disk.fault_count b.index.rows b.base.value.rows b.history.log
    b.history.marks b.history.told b.since b.faults b.journal c.self.invariant in
    subst (λ (v : View g.row.D.Denot). ForSome (g.D.Disk.told b.journal.disk)
    (StaysShort (most_after false v.frames) b.journal.frames)) c.self.view_is short

pub invariant_of-self-then-is_err-2 : goal.invariant_of-self-then-is_err-2
invariant_of-self-then-is_err-2 g c =
    let law : IsLegal (replay_log c.self.inside.base.value.rows c.self.inside.history.log) c.args.command.now =
    subst (λ (v : View g.row.D.Denot). IsLegal (rows_of v) c.args.command.now) (sym c.self.view_is) c.requires in
    let legal : IsLegal c.self.inside.index.rows c.args.command.now =
    subst (λ (r : Rows). IsLegal r c.args.command.now) (sym c.self.invariant.rows_are) law in
    let failed : is_ok c.store-stored.result ≡ false = search rules in
    let err : is_err c.store-stored.result ≡ true = search rules in
    let fine : is_err c.prepare_call.result ≡ false = search rules in
    let ready : wants_checkpoint c.self.inside.journal ≡ true
    → IsHeadOf c.self.inside.index.rows c.deref.result.now = λ due.
    subst (λ (l : List ℕ). IsHeadOf c.self.inside.index.rows l) (sym c.deref.ensures.value)
    (on_ok c.prepare_call.result _ fine c.prepare_call.ensures.head (c.wants_checkpoint-due.ensures.due ∙ due)) in
    let added = c.add.ensures ∙ ap (with_item c.args.by c.args.command.now c.clock-mark.result None)
    c.prepare_call.ensures.history in
    sound_more g.D.Disk.told g.D.Disk.fault_count c.self.inside.index.rows c.self.inside.base.value.rows
    c.self.inside.history.log c.self.inside.history.marks c.self.inside.history.told c.self.inside.since
    c.self.inside.faults c.self.inside.journal c.store-stored.new.journal c.self.invariant
    c.args.by c.args.command.now c.write_command-len.ensures.fits legal false c.prepare_call.new.index.rows
    c.add.new.self.log c.add.new.self.marks c.add.new.self.told c.clock-mark.result
    c.prepare_call.ensures.rows
    (ap (λ (e : Entries). e.log) added)
    (ap (λ (e : Entries). e.marks) added)
    (ap (λ (e : Entries). e.told) added)
    (rw c.prepare_call.ensures.rows c.self.invariant.valid)
    c.deref.result.now ready
    (rw c.clock-mark.ensures (stores_as g.D.Disk.told _ _
    (is_ok c.store-stored.result) false _ c.deref.result.now _ _ failed c.write_command-len.ensures.bytes
    c.store-stored.ensures.stores))
    (subst (λ (b : Bool). HasStored b c.self.inside.journal c.store-stored.new.journal) failed
    c.store-stored.ensures.has)
    (subst (λ (b : Bool). HasCause b (g.D.Disk.fault_count c.self.inside.journal.disk)
    (g.D.Disk.fault_count c.store-stored.new.journal.disk)) err c.store-stored.ensures.cause)

pub returns-then-is_err-2-clause-does : goal.returns-then-is_err-2-clause-does
returns-then-is_err-2-clause-does g c =
    let law : IsLegal (replay_log c.self.inside.base.value.rows c.self.inside.history.log) c.args.command.now =
    subst (λ (v : View g.row.D.Denot). IsLegal (rows_of v) c.args.command.now) (sym c.self.view_is) c.requires in
    let failed : is_ok c.store-stored.result ≡ false = search rules in
    let fine : is_err c.prepare_call.result ≡ false = search rules in
    let ready : wants_checkpoint c.self.inside.journal ≡ true
    → IsHeadOf c.self.inside.index.rows c.deref.result.now = λ due.
    subst (λ (l : List ℕ). IsHeadOf c.self.inside.index.rows l) (sym c.deref.ensures.value)
    (on_ok c.prepare_call.result _ fine c.prepare_call.ensures.head (c.wants_checkpoint-due.ensures.due ∙ due)) in
    let stores = stores_as g.D.Disk.told _ _ (is_ok c.store-stored.result) false _ c.deref.result.now _ _ failed
    c.write_command-len.ensures.bytes c.store-stored.ensures.stores in
    let does = stored_passes g.D.Disk.told g.D.Disk.fault_count c.self.inside.index.rows c.self.inside.base.value.rows
    c.self.inside.history.log c.self.inside.history.marks c.self.inside.history.told c.self.inside.since
    c.self.inside.faults c.self.inside.journal c.store-stored.new.journal c.self.invariant
    c.args.by c.args.command.now c.write_command-len.ensures.fits law false _ c.deref.result.now ready stores in
    subst (λ (v : View g.row.D.Denot). Goes (g.D.Disk.told v.disk) (g.D.Disk.told c.store-stored.new.journal.disk)
    (Passes v.waits verdict.Ok false (rows_of v) c.args.command.now)) c.self.view_is does

pub returns-then-is_err-2-clause-few : goal.returns-then-is_err-2-clause-few
returns-then-is_err-2-clause-few g c =
    let law : IsLegal (replay_log c.self.inside.base.value.rows c.self.inside.history.log) c.args.command.now =
    subst (λ (v : View g.row.D.Denot). IsLegal (rows_of v) c.args.command.now) (sym c.self.view_is) c.requires in
    let failed : is_ok c.store-stored.result ≡ false = search rules in
    let fine : is_err c.prepare_call.result ≡ false = search rules in
    let ready : wants_checkpoint c.self.inside.journal ≡ true
    → IsHeadOf c.self.inside.index.rows c.deref.result.now = λ due.
    subst (λ (l : List ℕ). IsHeadOf c.self.inside.index.rows l) (sym c.deref.ensures.value)
    (on_ok c.prepare_call.result _ fine c.prepare_call.ensures.head (c.wants_checkpoint-due.ensures.due ∙ due)) in
    let stores = stores_as g.D.Disk.told _ _ (is_ok c.store-stored.result) false _ c.deref.result.now _ _ failed
    c.write_command-len.ensures.bytes c.store-stored.ensures.stores in
    let short = stored_short g.D.Disk.told g.D.Disk.fault_count c.self.inside.index.rows c.self.inside.base.value.rows
    c.self.inside.history.log c.self.inside.history.marks c.self.inside.history.told c.self.inside.since
    c.self.inside.faults c.self.inside.journal c.store-stored.new.journal c.self.invariant
    c.args.by c.args.command.now c.write_command-len.ensures.fits law false _ c.deref.result.now ready stores
    (subst (λ (b : Bool). HasStored b c.self.inside.journal c.store-stored.new.journal) failed
    c.store-stored.ensures.has) in
    subst (λ (v : View g.row.D.Denot). ForSome (g.D.Disk.told c.store-stored.new.journal.disk)
    (StaysShort (most_after false v.frames) c.store-stored.new.journal.frames)) c.self.view_is short

pub invariant_of-self-2 : goal.invariant_of-self-2
invariant_of-self-2 g c =
    let law : IsLegal (replay_log c.self.inside.base.value.rows c.self.inside.history.log) c.args.command.now =
    subst (λ (v : View g.row.D.Denot). IsLegal (rows_of v) c.args.command.now) (sym c.self.view_is) c.requires in
    let legal : IsLegal c.self.inside.index.rows c.args.command.now =
    subst (λ (r : Rows). IsLegal r c.args.command.now) (sym c.self.invariant.rows_are) law in
    let made : is_ok c.store-stored.result ≡ true = search rules in
    let err : is_err c.store-stored.result ≡ false = search rules in
    let fine : is_err c.prepare_call.result ≡ false = search rules in
    let ready : wants_checkpoint c.self.inside.journal ≡ true
    → IsHeadOf c.self.inside.index.rows c.deref.result.now = λ due.
    subst (λ (l : List ℕ). IsHeadOf c.self.inside.index.rows l) (sym c.deref.ensures.value)
    (on_ok c.prepare_call.result _ fine c.prepare_call.ensures.head (c.wants_checkpoint-due.ensures.due ∙ due)) in
    let added = c.add-2.ensures ∙ ap (with_item c.args.by c.args.command.now c.clock-mark.result
    (Some c.apply-events.result)) c.prepare_call.ensures.history in
    let told : Some c.apply-events.result ≡ events_of c.self.inside.index.rows c.args.command.now =
    c.apply-events.ensures.events ∙ ap (λ (r : Rows). events_of r c.args.command.now) c.prepare_call.ensures.rows in
    sound_more g.D.Disk.told g.D.Disk.fault_count c.self.inside.index.rows c.self.inside.base.value.rows
    c.self.inside.history.log c.self.inside.history.marks c.self.inside.history.told c.self.inside.since
    c.self.inside.faults c.self.inside.journal c.store-stored.new.journal c.self.invariant
    c.args.by c.args.command.now c.write_command-len.ensures.fits legal true c.apply-events.new.self.rows
    c.add-2.new.self.log c.add-2.new.self.marks c.add-2.new.self.told c.clock-mark.result
    (c.apply-events.ensures.state ∙ ap (λ (r : Rows). rows_after r c.args.command.now) c.prepare_call.ensures.rows)
    (ap (λ (e : Entries). e.log) added)
    (ap (λ (e : Entries). e.marks) added)
    (ap (λ (e : Entries). e.told) added ∙ ap (λ (t : Option Events). c.self.inside.history.told ++ t ∷ []) told)
    c.apply-events.ensures.valid
    c.deref.result.now ready
    (rw c.clock-mark.ensures (stores_as g.D.Disk.told _ _
    (is_ok c.store-stored.result) true _ c.deref.result.now _ _ made c.write_command-len.ensures.bytes
    c.store-stored.ensures.stores))
    (subst (λ (b : Bool). HasStored b c.self.inside.journal c.store-stored.new.journal) made c.store-stored.ensures.has)
    (subst (λ (b : Bool). HasCause b (g.D.Disk.fault_count c.self.inside.journal.disk)
    (g.D.Disk.fault_count c.store-stored.new.journal.disk)) err c.store-stored.ensures.cause)

pub returns-clause-does : goal.returns-clause-does
returns-clause-does g c =
    let law : IsLegal (replay_log c.self.inside.base.value.rows c.self.inside.history.log) c.args.command.now =
    subst (λ (v : View g.row.D.Denot). IsLegal (rows_of v) c.args.command.now) (sym c.self.view_is) c.requires in
    let made : is_ok c.store-stored.result ≡ true = search rules in
    let fine : is_err c.prepare_call.result ≡ false = search rules in
    let ready : wants_checkpoint c.self.inside.journal ≡ true
    → IsHeadOf c.self.inside.index.rows c.deref.result.now = λ due.
    subst (λ (l : List ℕ). IsHeadOf c.self.inside.index.rows l) (sym c.deref.ensures.value)
    (on_ok c.prepare_call.result _ fine c.prepare_call.ensures.head (c.wants_checkpoint-due.ensures.due ∙ due)) in
    let stores = stores_as g.D.Disk.told _ _ (is_ok c.store-stored.result) true _ c.deref.result.now _ _ made
    c.write_command-len.ensures.bytes c.store-stored.ensures.stores in
    let does = stored_passes g.D.Disk.told g.D.Disk.fault_count c.self.inside.index.rows c.self.inside.base.value.rows
    c.self.inside.history.log c.self.inside.history.marks c.self.inside.history.told c.self.inside.since
    c.self.inside.faults c.self.inside.journal c.store-stored.new.journal c.self.invariant
    c.args.by c.args.command.now c.write_command-len.ensures.fits law true _ c.deref.result.now ready stores in
    subst (λ (v : View g.row.D.Denot). Goes (g.D.Disk.told v.disk) (g.D.Disk.told c.store-stored.new.journal.disk)
    (Passes v.waits verdict.Ok true (rows_of v) c.args.command.now)) c.self.view_is does

pub returns-clause-few : goal.returns-clause-few
returns-clause-few g c =
    let law : IsLegal (replay_log c.self.inside.base.value.rows c.self.inside.history.log) c.args.command.now =
    subst (λ (v : View g.row.D.Denot). IsLegal (rows_of v) c.args.command.now) (sym c.self.view_is) c.requires in
    let made : is_ok c.store-stored.result ≡ true = search rules in
    let fine : is_err c.prepare_call.result ≡ false = search rules in
    let ready : wants_checkpoint c.self.inside.journal ≡ true
    → IsHeadOf c.self.inside.index.rows c.deref.result.now = λ due.
    subst (λ (l : List ℕ). IsHeadOf c.self.inside.index.rows l) (sym c.deref.ensures.value)
    (on_ok c.prepare_call.result _ fine c.prepare_call.ensures.head (c.wants_checkpoint-due.ensures.due ∙ due)) in
    let stores = stores_as g.D.Disk.told _ _ (is_ok c.store-stored.result) true _ c.deref.result.now _ _ made
    c.write_command-len.ensures.bytes c.store-stored.ensures.stores in
    let short = stored_short g.D.Disk.told g.D.Disk.fault_count c.self.inside.index.rows c.self.inside.base.value.rows
    c.self.inside.history.log c.self.inside.history.marks c.self.inside.history.told c.self.inside.since
    c.self.inside.faults c.self.inside.journal c.store-stored.new.journal c.self.invariant
    c.args.by c.args.command.now c.write_command-len.ensures.fits law true _ c.deref.result.now ready stores
    (subst (λ (b : Bool). HasStored b c.self.inside.journal c.store-stored.new.journal) made c.store-stored.ensures.has)
    in
    subst (λ (v : View g.row.D.Denot). ForSome (g.D.Disk.told c.store-stored.new.journal.disk)
    (StaysShort (most_after true v.frames) c.store-stored.new.journal.frames)) c.self.view_is short

pub returns-then-is_err-clause-uses : goal.returns-then-is_err-clause-uses
returns-then-is_err-clause-uses g c = record {
  calls = subst (λ (v : View g.row.D.Denot). StoreTakes false v.waits v.version v.frames (g.D.Disk.moment v.disk)
      (g.D.Disk.moment c.self.inside.journal.disk)) c.self.view_is (takes_none _ _ _ _);
  faults = search rules;
}

pub returns-clause-grows : goal.returns-clause-grows
returns-clause-grows g c =
    let b = c.self.inside in
    let more = c.prepare_call.ensures.kept in
    let added = c.add-2.ensures ∙ ap (with_item c.args.by c.args.command.now c.clock-mark.result
    (Some c.apply-events.result)) c.prepare_call.ensures.history in
    let after : c.apply-events.new.self.rows ≡ rows_after b.index.rows c.args.command.now =
    c.apply-events.ensures.state ∙ ap (λ (r : Rows). rows_after r c.args.command.now) c.prepare_call.ensures.rows in
    let places = places_kept (places_in b.draft) (places_in c.prepare_call.new.draft) b.index.rows
    c.apply-events.new.self.rows
    more.2 (subst (λ (r : Rows). row_count r ≤ row_count b.index.rows + 2) (sym after)
    (few_after b.index.rows c.args.command.now)) in
    let index : b.index.spare ≤ c.apply-events.new.self.spare + 2 =
    omega (arith, more.0, c.apply-events.ensures.spare) in
    let history : b.history.room ≤ c.add-2.new.self.room + 1 =
    omega (arith, more.1, ap (λ (e : Entries). e.room) added) in
    let less = calls_less b.index.spare b.history.room _ c.apply-events.new.self.spare c.add-2.new.self.room _ index
    history places in
    let was = ap (λ (v : View g.row.D.Denot). v.spare) c.self.view_is in
    record {
      base = search rules;
      since = search rules;
      faults = search rules;
      log = search rules;
      marks = search rules;
      room = omega (arith, less, was);
      idle = search rules;
      calm = search rules;
    }
