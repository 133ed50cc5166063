-- The passes that `start` deals are all that the desk has.
use Rattle.std.proofs.Common.{◌≡◌, ℕ, suc, ◌+◌, List, [], ◌∷◌, ◌++◌, length, sym, refl, ap, ◌∙◌, subst, length-append, arith}
use Rattle.atomic_table.specs.Seated.{TableId}
use Rattle.ticket_desk.specs.declared.view.View.{View}
use Rattle.ticket_desk.specs.declared.pass.Pass.{Pass}
use Rattle.ticket_desk.specs.Rule.{first_view}
use Rattle.ticket_desk.specs.Steps.{newly_given}
use Rattle.ticket_desk.specs.Passes.{view_of, IsPass, IsNew, AreDealt}
use Rattle.ticket_desk.specs.Ends.{AreGiven}
use Rattle.ticket_desk.proofs.Lists.{each_push, each_cons, each_nil}

module _ {V T O : Type 0} where
  abbrev Gave : TableId → View T O → ℕ → Pass V T O → Type 0
  Gave z v k p = (p.place.table_id ≡ z) × (p.number ≡ suc k) × (view_of p ≡ newly_given (record v { given = suc k }))

  pub none_given : (z : TableId) (v : View T O) (passes : List (Pass V T O)) → passes ≡ [] → AreGiven z v 1 passes
  none_given z v passes e = subst (λ (xs : List (Pass V T O)). AreGiven z v 1 xs) (sym e) (refl, each_nil (Gave z v))

  pub one_given : (z : TableId) (v : View T O) (number : ℕ) (passes : List (Pass V T O)) (p : Pass V T O) (u : View T O)
      → AreGiven z v number passes
      → u ≡ record v { given = number } → p.place.table_id ≡ z → p.number ≡ number → view_of p ≡ newly_given u
      → AreGiven z v (number + 1) (passes ++ p ∷ [])
  one_given z v number passes p u before u_is of_desk number_is view_is = (
    omega (arith, length-append passes (p ∷ []), before.0),
    each_push (Gave z v) passes p before.1 (
      of_desk,
      number_is ∙ sym before.0,
      view_is ∙ ap newly_given u_is ∙ ap
          (λ (k : ℕ). newly_given (record v { given = k })) (sym before.0),
    ),
  )

  module _ (items : V → List T) (origin : V → O) (value : V) (z : TableId) (many : ℕ) (p : Pass V T O)
      (rest : List (Pass V T O)) where
    abbrev first : View T O
    first = first_view (items value) (origin value)

    pub deals : p.place.table_id ≡ z → p.number ≡ 0 → view_of p ≡ record first { given = many }
        → AreGiven z (record first { given = 1 }) many rest
        → AreDealt items origin value z many (p ∷ rest)
    deals of_desk number_is view_is given = (
      given.0,
      (
        omega arith,
        each_cons (IsPass z (suc (length rest))) p rest
            (record {
              desk = of_desk;
              number = number_is;
              given = λ _.
                  ap (λ (v : View T O). v.given) view_is ∙ sym given.0;
            })
            (λ k q at. let gave = given.1 k q at in record {
              desk = gave.0;
              number = gave.1;
              given = λ e.
                  absurd (let n : suc k ≡ 0 = e in omega arith);
            }),
      ),
      each_cons (λ _ q. IsNew items origin value q) p rest
          (record {
            seen = ap (λ (v : View T O). v.seen) view_is;
            mine = ap (λ (v : View T O). v.mine) view_is;
            source =
                ap (λ (v : View T O). v.origin) view_is;
          })
          (λ k q at. let gave = (given.1 k q at).2 in
          record {
            seen = ap (λ (v : View T O). v.seen) gave;
            mine = ap (λ (v : View T O). v.mine) gave;
            source =
                ap (λ (v : View T O). v.origin) gave;
          }),
    )
