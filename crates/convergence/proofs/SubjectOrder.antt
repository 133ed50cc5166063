-- Subjects stand in an order that tells them apart.
use Rattle.std.proofs.Common.{◌≡◌, ap}
use Rattle.std.specs.FinMap.{IsAntisymmetric}
use Rattle.std.specs.Ordering.{ordering_reverse}
use Rattle.std.specs.declared.cmp.Ordering.TheVariants.{Less, Equal}
use Rattle.diego_names.proofs.Public.{IsKeyOrder-name_order}
use Rattle.lrp_records.proofs.Public.{IsKeyOrder-place_order}
use Rattle.row_tables.specs.Table.{IsKeyOrder}
use Rattle.convergence.specs.Subjects.{Subject, OfCell, OfDomain, OfPlace, OfTask, OfProcess, subject_order}

order-exact : IsAntisymmetric subject_order
order-exact (OfCell a) (OfCell b) e = ap OfCell (IsKeyOrder-name_order.exact a b e)
order-exact (OfDomain a) (OfDomain b) e = ap OfDomain (IsKeyOrder-name_order.exact a b e)
order-exact (OfPlace a) (OfPlace b) e = ap OfPlace (IsKeyOrder-place_order.exact a b e)
order-exact (OfTask a) (OfTask b) e = ap OfTask (IsKeyOrder-name_order.exact a b e)
order-exact (OfProcess a) (OfProcess b) e = ap OfProcess (IsKeyOrder-name_order.exact a b e)
order-exact x y e = cc

order-turned : (x y : Subject) → subject_order x y ≡ ordering_reverse (subject_order y x)
order-turned (OfCell a) (OfCell b) = IsKeyOrder-name_order.total.antisymm a b
order-turned (OfDomain a) (OfDomain b) = IsKeyOrder-name_order.total.antisymm a b
order-turned (OfPlace a) (OfPlace b) = IsKeyOrder-place_order.total.antisymm a b
order-turned (OfTask a) (OfTask b) = IsKeyOrder-name_order.total.antisymm a b
order-turned (OfProcess a) (OfProcess b) = IsKeyOrder-name_order.total.antisymm a b
order-turned x y = cc

order-goes_on : (x y z : Subject) → subject_order x y ≡ Less → subject_order y z ≡ Less → subject_order x z ≡ Less
order-goes_on (OfCell a) (OfCell b) (OfCell c) = IsKeyOrder-name_order.total.trans a b c
order-goes_on (OfDomain a) (OfDomain b) (OfDomain c) = IsKeyOrder-name_order.total.trans a b c
order-goes_on (OfPlace a) (OfPlace b) (OfPlace c) = IsKeyOrder-place_order.total.trans a b c
order-goes_on (OfTask a) (OfTask b) (OfTask c) = IsKeyOrder-name_order.total.trans a b c
order-goes_on (OfProcess a) (OfProcess b) (OfProcess c) = IsKeyOrder-name_order.total.trans a b c
order-goes_on x (OfCell b) (OfCell c) = λ p q. cc
order-goes_on x (OfDomain b) (OfDomain c) = λ p q. cc
order-goes_on x (OfPlace b) (OfPlace c) = λ p q. cc
order-goes_on x (OfTask b) (OfTask c) = λ p q. cc
order-goes_on x (OfProcess b) (OfProcess c) = λ p q. cc
order-goes_on (OfCell a) (OfCell b) (OfDomain c) = λ p q. cc
order-goes_on x (OfCell b) (OfDomain c) = λ p q. cc
order-goes_on (OfCell a) (OfCell b) (OfPlace c) = λ p q. cc
order-goes_on x (OfCell b) (OfPlace c) = λ p q. cc
order-goes_on (OfCell a) (OfCell b) (OfTask c) = λ p q. cc
order-goes_on x (OfCell b) (OfTask c) = λ p q. cc
order-goes_on (OfCell a) (OfCell b) (OfProcess c) = λ p q. cc
order-goes_on x (OfCell b) (OfProcess c) = λ p q. cc
order-goes_on x (OfDomain b) (OfCell c) = λ p q. cc
order-goes_on (OfDomain a) (OfDomain b) (OfPlace c) = λ p q. cc
order-goes_on x (OfDomain b) (OfPlace c) = λ p q. cc
order-goes_on (OfDomain a) (OfDomain b) (OfTask c) = λ p q. cc
order-goes_on x (OfDomain b) (OfTask c) = λ p q. cc
order-goes_on (OfDomain a) (OfDomain b) (OfProcess c) = λ p q. cc
order-goes_on x (OfDomain b) (OfProcess c) = λ p q. cc
order-goes_on x (OfPlace b) (OfCell c) = λ p q. cc
order-goes_on x (OfPlace b) (OfDomain c) = λ p q. cc
order-goes_on (OfPlace a) (OfPlace b) (OfTask c) = λ p q. cc
order-goes_on x (OfPlace b) (OfTask c) = λ p q. cc
order-goes_on (OfPlace a) (OfPlace b) (OfProcess c) = λ p q. cc
order-goes_on x (OfPlace b) (OfProcess c) = λ p q. cc
order-goes_on x (OfTask b) (OfCell c) = λ p q. cc
order-goes_on x (OfTask b) (OfDomain c) = λ p q. cc
order-goes_on x (OfTask b) (OfPlace c) = λ p q. cc
order-goes_on (OfTask a) (OfTask b) (OfProcess c) = λ p q. cc
order-goes_on x (OfTask b) (OfProcess c) = λ p q. cc
order-goes_on x (OfProcess b) (OfCell c) = λ p q. cc
order-goes_on x (OfProcess b) (OfDomain c) = λ p q. cc
order-goes_on x (OfProcess b) (OfPlace c) = λ p q. cc
order-goes_on x (OfProcess b) (OfTask c) = λ p q. cc

order-ties_alike : (x y z : Subject) → subject_order x y ≡ Equal → subject_order x z ≡ subject_order y z
order-ties_alike x y z e = ap (λ s. subject_order s z) (order-exact x y e)

pub IsKeyOrder-subject_order : IsKeyOrder subject_order
IsKeyOrder-subject_order = record {
  total = record { antisymm = order-turned; trans = order-goes_on; congr = order-ties_alike };
  exact = order-exact;
}
