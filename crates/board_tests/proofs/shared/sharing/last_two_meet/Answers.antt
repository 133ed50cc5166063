-- Both passes are of their board.
use Rattle.std.proofs.Common.{◌≡◌, List, [], ◌∷◌, ◌++◌, length, refl, ap, ◌∙◌}
use mathlib.Core.Option.{some}
use lib.ListN.{get_elem?}
use Rattle.atomic_table.specs.Seated.{TableId}
use Rattle.ticket_desk.specs.declared.pass.Pass.{Pass}
use Rattle.ticket_desk.specs.Passes.{AreAll}
use Rattle.board_tests.proofs.shared.sharing.last_two_meet.Goals as goal

last_is : {A : Type 0} (m : List A) (x : A) → get_elem? (m ++ x ∷ []) (length m) ≡ some x
last_is [] x = refl
last_is (y ∷ ys) x = last_is ys x

earlier : {A : Type 0} (m n : List A) (x y : A) → get_elem? ((m ++ x ∷ []) ++ y ∷ []) (length m) ≡ some x
earlier [] n x y = refl
earlier (z ∷ zs) n x y = earlier zs n x y

module _ {V T O : Type 0} (z : TableId) (l m n : List (Pass V T O)) (two one : Pass V T O) (all : AreAll z l) where
  pub two_of : l ≡ m ++ two ∷ [] → two.place.table_id ≡ z
  two_of is = (all.1 (length m) two (ap (λ xs. get_elem? xs (length m)) is ∙ last_is m two)).desk

  pub one_of : l ≡ m ++ two ∷ [] → m ≡ n ++ one ∷ [] → one.place.table_id ≡ z
  one_of is then =
      (all.1 (length n) one (ap (λ xs. get_elem? xs (length n))
      (is ∙ ap (λ xs. xs ++ two ∷ []) then) ∙ earlier n m one two)).desk

pub call_and_meet-requires-clause-one : goal.call_and_meet-requires-clause-one
call_and_meet-requires-clause-one g c =
    one_of c.args.shared.now.desk.table.shared.table_id c.args.passes.items c.pop.new.self.items c.pop-2.new.self.items
    c.in_ok-two.two c.in_ok-one.one c.requires c.in_ok-two.ensures.items c.in_ok-one.ensures.items

pub call_and_meet-requires-clause-two : goal.call_and_meet-requires-clause-two
call_and_meet-requires-clause-two g c =
    two_of c.args.shared.now.desk.table.shared.table_id c.args.passes.items c.pop.new.self.items c.pop-2.new.self.items
    c.in_ok-two.two c.in_ok-one.one c.requires c.in_ok-two.ensures.items
