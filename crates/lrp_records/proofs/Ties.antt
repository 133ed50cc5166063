-- The laws of the orders.
use Rattle.std.proofs.Common.{◌≡◌, refl}
use Rattle.std.specs.Cmp.{on_total, then_total, nat_cmp_total}
use Rattle.std.specs.FinMap.{IsAntisymmetric}
use Rattle.std.specs.Ordering.{ordering_then}
use Rattle.std.specs.declared.cmp.Ordering.{Ordering}
use Rattle.std.specs.declared.cmp.Ordering.TheVariants.{Less, Equal, Greater}
use Rattle.diego_names.specs.Key.{key_order}
use Rattle.row_tables.specs.Table.{IsKeyOrder}
use Rattle.diego_names.proofs.Public.{IsKeyOrder-key_order}
use Rattle.lrp_records.specs.Place.{place_order}
use Rattle.lrp_records.specs.Presence.{rank_of, presence_order}
use Rattle.lrp_records.specs.declared.presence.Presence.TheVariants.{Ordinary, Evacuating, Suspect}

-- where one order and then another tie, both do
both_tie : (a b : Ordering) → ordering_then a b ≡ Equal → (a ≡ Equal) × (b ≡ Equal)
both_tie Less b e = absurd cc
both_tie Equal b e = (refl, e)
both_tie Greater b e = absurd cc

presence_order-exact : IsAntisymmetric presence_order
presence_order-exact Ordinary Ordinary e = refl
presence_order-exact Ordinary Evacuating e = cc
presence_order-exact Ordinary Suspect e = cc
presence_order-exact Evacuating Ordinary e = cc
presence_order-exact Evacuating Evacuating e = refl
presence_order-exact Evacuating Suspect e = cc
presence_order-exact Suspect Ordinary e = cc
presence_order-exact Suspect Evacuating e = cc
presence_order-exact Suspect Suspect e = refl

pub IsKeyOrder-presence_order : IsKeyOrder presence_order
IsKeyOrder-presence_order = record { total = on_total rank_of nat_cmp_total; exact = presence_order-exact }

pub IsKeyOrder-place_order : IsKeyOrder place_order
IsKeyOrder-place_order = record {
  total = then_total (on_total (λ p. p.0) IsKeyOrder-key_order.total)
      (on_total (λ p. p.1) IsKeyOrder-presence_order.total);
  exact = λ x y e i.
      let ties = both_tie (key_order x.0 y.0) (presence_order x.1 y.1) e in
      (IsKeyOrder-key_order.exact x.0 y.0 ties.0 i, presence_order-exact x.1 y.1 ties.1 i);
}
