-- Three passes of a desk of three are all that it has.
use Rattle.std.proofs.Common.{◌∷◌, [], suc, sym, subst, arith}
use Rattle.ticket_desk.specs.Passes.{IsPass, AreAll}
use Rattle.ticket_desk.proofs.Lists.{each_cons, each_nil}
use Rattle.ticket_desk.proofs.tests.runs.left.Goals as goal

pub close-requires : goal.close-requires
close-requires c =
    let z = c.args.desk.table.shared.table_id in let asked = c.requires in
    let zero = c.args.zero in let one = c.args.one in let two = c.args.two in
    let P = IsPass z 3 in
    subst (λ xs. AreAll z xs) (sym c.in_ok-passes.ensures) (
      omega arith,
      each_cons P zero (one ∷ two ∷ []) asked.0 (each_cons (λ k. P (suc k)) one (two ∷ []) asked.1
          (each_cons (λ k. P (suc (suc k))) two [] asked.2
          (each_nil (λ k. P (suc (suc (suc k))))))),
    )
