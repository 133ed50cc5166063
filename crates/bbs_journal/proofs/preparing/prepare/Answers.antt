use Rattle.std.proofs.Common.{◌≡◌, [], ◌∷◌, ◌++◌, refl, rules, arith, Err}
use Rattle.bbs_journal.specs.Preparing.{first_head}
use Rattle.bbs_journal.specs.declared.preparing.PrepareFault.TheVariants.{Disk}
use Rattle.bbs_journal.proofs.InPart.{broke_write, broke_sync, broke_last}
use Rattle.bbs_journal.proofs.preparing.prepare.Goals as goal

pub returns-in_err-write_at-clause-does : goal.returns-in_err-write_at-clause-does
returns-in_err-write_at-clause-does g c =
    let failed : c.from_residual-in_err-write_at.result ≡ Err Disk = search rules in
    rw failed (broke_write _ _ _ _ _ _ (first_head ++ 0 ∷ []) c.in_ok-a.ensures.does c.in_ok-b.ensures.does
    c.in_ok-a.ensures.len c.in_ok-b.ensures.len (omega arith) (omega arith) refl c.in_err-write_at.ensures.does)

pub returns-in_err-sync-clause-does : goal.returns-in_err-sync-clause-does
returns-in_err-sync-clause-does g c =
    let failed : c.from_residual-in_err-sync.result ≡ Err Disk = search rules in
    rw failed (broke_sync _ _ _ _ _ _ (first_head ++ 0 ∷ []) c.in_ok-a.ensures.does c.in_ok-b.ensures.does
    c.in_ok-a.ensures.len c.in_ok-b.ensures.len (omega arith)
    (omega arith) refl _ c.in_ok-write_at.ensures.does c.in_err-sync.ensures.does)

pub returns-in_err-sync-2-clause-does : goal.returns-in_err-sync-2-clause-does
returns-in_err-sync-2-clause-does g c =
    let failed : c.from_residual-in_err-sync-2.result ≡ Err Disk = search rules in
    rw failed (broke_last _ _ _ _ _ _ (first_head ++ 0 ∷ []) c.in_ok-a.ensures.does c.in_ok-b.ensures.does
    c.in_ok-a.ensures.len c.in_ok-b.ensures.len (omega arith)
    (omega arith) refl _ c.in_ok-write_at.ensures.does _ c.in_ok-sync.ensures.does c.in_err-sync-2.ensures.does)
