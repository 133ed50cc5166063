use Rattle.std.proofs.Common.{◌≡◌, ◌∙◌, Bool, List, ℕ, [], ◌∷◌, ◌++◌, is_ok, sym, ap, subst, refl}
use Rattle.byte_ports.specs.Cause.{HasCause}
use Rattle.disk_trait.specs.Steps.{Goes}
use Rattle.bbs_journal.specs.Reading.{payloads_of}
use Rattle.bbs_journal.specs.View.{is_waiting}
use Rattle.payload_log.specs.Adds.{PassesAdd}
use Rattle.payload_log.specs.Entries.{entry_of, stored_in}
use Rattle.payload_log.specs.Opened.{opened_in}
use Rattle.payload_log.specs.View.{LogView, IsSound}
use Rattle.payload_log.specs.declared.entry.Entry.{Entry}
use Rattle.payload_log.proofs.Adding.{passes_by}
use Rattle.payload_log.proofs.Held.{sound_more, puts_extend, err_is}
use Rattle.payload_log.proofs.Mending.{puts_as, adds_as, grows_as}
use Rattle.payload_log.proofs.log.PayloadLog.add.Goals as goal

pub invariant_of-self : goal.invariant_of-self
invariant_of-self g c =
    let b = c.self.inside in
    let spelling = g.X.Payload.spelling in
    let told = g.D.Disk.told in
    let faults = g.D.Disk.fault_count in
    let x = c.args.payload.now in
    let later = c.put-stored.new.journal in
    let head : List ℕ = b.head.value.items in
    let payloads : List (List ℕ) = payloads_of b.frames.value.items in
    let bytes = c.put-len.ensures.bytes in
    let log_is : c.push_reserved.new.self.items ≡ b.log.items ++ entry_of (is_ok c.put-stored.result) x ∷ [] =
    c.push_reserved.ensures.items ∙ ap (λ (e : Entry g.row.X.Denot). b.log.items ++ e ∷ [])
    (c.entry_of-entry.ensures ∙ ap (λ (d : Bool). entry_of d x) c.is_ok.ensures.value) in
    subst (λ (l : List (Entry g.row.X.Denot)). IsSound spelling told faults
    (opened_in later head payloads) l c.push_reserved-2.new.self.items b.since b.faults later) (sym log_is)
    (subst (λ (m : List ℕ). IsSound spelling told faults (opened_in later head payloads)
    (b.log.items ++ entry_of (is_ok c.put-stored.result) x ∷ []) m b.since b.faults later)
    (sym c.push_reserved-2.ensures.items)
    (sound_more spelling told faults head payloads b.log.items b.marks.items b.since b.faults b.journal later
    c.self.invariant x (is_ok c.put-stored.result) c.clock-mark.result
    (λ q is. g.met.D.Disk.timed later.disk q is ∙ sym c.clock-mark.ensures)
    (puts_as (is_ok c.put-stored.result) (is_ok c.put-stored.result) _ _ refl bytes _ _ _ _ _ _
    c.put-stored.ensures.does)
    (grows_as (is_ok c.put-stored.result) (is_ok c.put-stored.result) _ _ refl bytes _ _ c.put-stored.ensures.grows)
    (subst (λ (e : Bool). HasCause e (faults b.journal.disk) (faults later.disk))
    (err_is c.put-stored.result) c.put-stored.ensures.cause)))

pub returns-clause-does : goal.returns-clause-does
returns-clause-does g c =
    let b = c.self.inside in
    let spelling = g.X.Payload.spelling in
    let told = g.D.Disk.told in
    let x = c.args.payload.now in
    let later = c.put-stored.new.journal in
    let ok : Bool = is_ok c.put-stored.result in
    let start = opened_in b.journal b.head.value.items (payloads_of b.frames.value.items) in
    let bytes = c.put-len.ensures.bytes in
    let puts = puts_as ok ok _ _ refl bytes _ _ _ _ _ _ c.put-stored.ensures.does in
    let extends = puts_extend spelling (told b.journal.disk)
    (told later.disk) start b.log.items b.marks.items b.since b.journal.end
    (is_waiting b.journal.waiting) c.self.invariant.holds ok (is_waiting later.waiting) (spelling x) puts in
    let does = passes_by spelling (told b.journal.disk) (told later.disk) start b.log.items b.marks.items b.since
    b.journal.end (is_waiting b.journal.waiting) c.self.invariant.holds (spelling x) ok
    (is_waiting later.waiting) extends
    (λ calm. adds_as ok ok _ _ refl bytes _ _ _ _ _ (c.put-stored.ensures.appends calm)) in
    subst (λ (v : LogView g.row.D.Denot g.row.X.Denot). Goes (told v.disk) (told later.disk)
    (PassesAdd v.waits (is_ok c.put-stored.result) (is_waiting later.waiting) v.start (stored_in spelling v.log)
    (spelling x))) c.self.view_is does
