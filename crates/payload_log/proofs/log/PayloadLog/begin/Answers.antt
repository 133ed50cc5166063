use Rattle.std.proofs.Common.{◌≡◌, ◌∙◌, List, ℕ, [], sym, subst}
use Rattle.bbs_journal.specs.Reading.{payloads_of}
use Rattle.payload_log.specs.Opened.{Opened, opened_in, opened_by}
use Rattle.payload_log.specs.View.{IsSound}
use Rattle.payload_log.specs.declared.entry.Entry.{Entry}
use Rattle.payload_log.proofs.Begun.{begun_sound}
use Rattle.payload_log.proofs.log.PayloadLog.begin.Goals as goal

pub invariant_of-result : goal.invariant_of-result
invariant_of-result g c =
    let spelling = g.X.Payload.spelling in
    let told = g.D.Disk.told in
    let faults = g.D.Disk.fault_count in
    let journal = c.args.loaded.journal in
    let begun = begun_sound spelling told faults c.args.loaded c.clock.result c.args.faults c.requires.can
    c.requires.faults (λ q is. g.met.D.Disk.timed journal.disk q is ∙ sym c.clock.ensures) in
    let start_is : opened_by c.args.loaded ≡ opened_in journal c.of.result.value.items
    (payloads_of c.of-2.result.value.items) =
    λ i. opened_in journal (sym c.of.ensures i).items (payloads_of (sym c.of-2.ensures i).items) in
    subst (λ (s : Opened). IsSound spelling told faults s c.new.result.items c.new-2.result.items c.clock.result
    c.args.faults journal) start_is
    (subst (λ (l : List (Entry g.row.X.Denot)). IsSound spelling told faults
    (opened_by c.args.loaded) l c.new-2.result.items c.clock.result c.args.faults journal) (sym c.new.ensures.items)
    (subst (λ (m : List ℕ). IsSound spelling told faults (opened_by c.args.loaded) [] m c.clock.result c.args.faults
    journal) (sym c.new-2.ensures.items) begun))
