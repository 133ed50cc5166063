use Rattle.std.proofs.Common.{◌≡◌, Ok, None, Option, List, ℕ, sym, subst, rules}
use Rattle.bbs_journal.specs.Reading.{payloads_of}
use Rattle.payload_log.specs.Opened.{Opened, opened_by}
use Rattle.payload_log.proofs.Public.{can_begin}
use Rattle.locket.specs.Opening.{locks_of, commands_in, IsLocket}
use Rattle.locket.proofs.Changing.{loaded_sound}
use Rattle.locket.proofs.Outcomes.{loaded_locket}
use Rattle.locket.proofs.Payloads.{locks_unbroken}
use Rattle.locket.proofs.loading.load.Goals as goal

pub begin-requires-clause-can : goal.begin-requires-clause-can
begin-requires-clause-can g c =
    let payloads : List (List ℕ) = payloads_of c.in-Ok.loaded.frames.items in
    let is : locks_of c.in-Ok.loaded.journal.version c.in-Ok.loaded.journal.area c.in-Ok.loaded.head.items payloads
    c.in-Ok.loaded.broken ≡ Ok c.in-Ok-locks_of.state = search rules in
    let none : c.in-Ok.loaded.broken ≡ None = locks_unbroken c.in-Ok.loaded.journal.version c.in-Ok.loaded.journal.area
    c.in-Ok.loaded.head.items payloads c.in-Ok.loaded.broken c.in-Ok-locks_of.state is in
    can_begin g.D.Disk.told g.D.Disk.fault_count c.args.disk c.in-Ok.loaded c.in-Ok.ensures.fresh none
    c.in-Ok.ensures.found c.in-Ok.ensures.ok

pub invariant_of-result : goal.invariant_of-result
invariant_of-result g c =
    let payloads : List (List ℕ) = payloads_of c.in-Ok.loaded.frames.items in
    let is : locks_of c.in-Ok.loaded.journal.version c.in-Ok.loaded.journal.area c.in-Ok.loaded.head.items payloads
    c.in-Ok.loaded.broken ≡ Ok c.in-Ok-locks_of.state = search rules in
    let none : c.in-Ok.loaded.broken ≡ None = locks_unbroken c.in-Ok.loaded.journal.version c.in-Ok.loaded.journal.area
    c.in-Ok.loaded.head.items payloads c.in-Ok.loaded.broken c.in-Ok-locks_of.state is in
    loaded_sound c.begin.result (opened_by c.in-Ok.loaded) c.in-Ok-locks_of.state c.begin.ensures.start
    c.begin.ensures.log
    (subst (λ (b : Option ℕ). locks_of c.in-Ok.loaded.journal.version c.in-Ok.loaded.journal.area
    c.in-Ok.loaded.head.items payloads b ≡ Ok c.in-Ok-locks_of.state) none is)

pub returns-in-Ok-locks_of-clause-found : goal.returns-in-Ok-locks_of-clause-found
returns-in-Ok-locks_of-clause-found g c image shows =
    let payloads : List (List ℕ) = payloads_of c.in-Ok.loaded.frames.items in
    let is : locks_of c.in-Ok.loaded.journal.version c.in-Ok.loaded.journal.area c.in-Ok.loaded.head.items payloads
    c.in-Ok.loaded.broken ≡ Ok c.in-Ok-locks_of.state = search rules in
    subst (λ (o : Opened). IsLocket (commands_in o.payloads) image) (sym c.begin.ensures.start)
    (loaded_locket image c.in-Ok.loaded.journal.area c.in-Ok.loaded.journal.version c.in-Ok.loaded.journal.generation
    c.in-Ok.loaded.head.items payloads c.in-Ok.loaded.broken c.in-Ok.loaded.journal.end c.in-Ok-locks_of.state
    (c.in-Ok.ensures.found image (rw (← c.begin.ensures.disk) shows)) is)
