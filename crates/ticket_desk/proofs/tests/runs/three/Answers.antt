-- The last of three passes is that of number 2, and so on.
use Rattle.std.proofs.Common.{◌≡◌, ℕ, suc, List, [], ◌∷◌, ◌++◌, length, ap, ◌∙◌, subst, length-append, arith}
use mathlib.Core.Option.{some}
use lib.ListN.{get_elem?}
use Rattle.atomic_table.specs.Seated.{TableId}
use Rattle.atomic_table.proofs.Lists.{at_last, at_longer}
use Rattle.ticket_desk.specs.declared.pass.Pass.{Pass}
use Rattle.ticket_desk.specs.Passes.{IsPass, AreAll}
use Rattle.ticket_desk.proofs.tests.runs.three.Goals as goal

shorter : {A : Type 0} (l m : List A) (a : A) (n : ℕ) → l ≡ m ++ a ∷ [] → length l ≡ suc n → length m ≡ n
shorter l m a n e is = let f = ap length e in omega (arith, length-append m (a ∷ []))

module _ {V T O : Type 0} (z : TableId) (l l1 l2 l3 : List (Pass V T O)) (zero one two : Pass V T O) (all : AreAll z l)
    (three : length l ≡ 3)
    (a : l ≡ l1 ++ two ∷ []) (b : l1 ≡ l2 ++ one ∷ []) (c : l2 ≡ l3 ++ zero ∷ []) where
  at_two : get_elem? l 2 ≡ some two
  at_two = ap (λ xs. get_elem? xs 2) a ∙ at_last l1 two 2 (shorter l l1 two 2 a three)

  at_one : get_elem? l 1 ≡ some one
  at_one =
      ap (λ xs. get_elem? xs 1) a
      ∙ at_longer l1 (two ∷ []) 1 one (ap (λ xs. get_elem? xs 1) b ∙ at_last l2 one 1
      (shorter l1 l2 one 1 b (shorter l l1 two 2 a three)))

  at_zero : get_elem? l 0 ≡ some zero
  at_zero =
      ap (λ xs. get_elem? xs 0) a
      ∙ at_longer l1 (two ∷ []) 0 zero
      (ap (λ xs. get_elem? xs 0) b
      ∙ at_longer l2 (one ∷ []) 0 zero
      (ap (λ xs. get_elem? xs 0) c ∙ at_last l3 zero 0 (shorter l2 l3 zero 0 c
      (shorter l1 l2 one 1 b (shorter l l1 two 2 a three)))))

  of : (k : ℕ) (p : Pass V T O) → get_elem? l k ≡ some p → IsPass z 3 k p
  of k p at = subst (λ (n : ℕ). IsPass z n k p) three (all.1 k p at)

  pub three_of : IsPass z 3 0 zero × IsPass z 3 1 one × IsPass z 3 2 two
  three_of = (of 0 zero at_zero, of 1 one at_one, of 2 two at_two)

pub returns : goal.returns
returns c =
    three_of c.args.desk.now.table.shared.table_id c.args.passes.items c.pop.new.self.items c.pop-2.new.self.items
    c.pop-3.new.self.items
    c.in_ok-zero.zero c.in_ok-one.one c.in_ok-two.two c.requires.all c.requires.three
    c.in_ok-two.ensures.items c.in_ok-one.ensures.items c.in_ok-zero.ensures.items
