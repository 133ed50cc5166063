-- The container that was reserved last is the only one of its instance.
use Rattle.std.proofs.Common.{◌≡◌, ℕ, ◌+◌, ◌≤◌, Bool, true, false, cond, ◌&&◌, not, List, [], ◌∷◌, ◌++◌, filter, Option, Some, None, Result, Ok, refl, ap, ◌∙◌, arith, eqb}
use Rattle.std.proofs.lemmas.Bool.{eq-eqb, ne_eqb}
use Rattle.std.specs.Prelude.{find}
use Rattle.std.specs.List.{All}
use Rattle.std.proofs.lemmas.List.Elements.{All-head, All-tail}
use Rattle.cell_records.specs.declared.container.Container.{Container}
use Rattle.cell_records.specs.declared.job_name.JobName.{JobName}
use Rattle.lrp_records.specs.States.{is_same_instance}
use Rattle.container_store.specs.Changes.{next_of, next_container, reserved, removing, if_held, without_container}
use Rattle.container_store.specs.Laws.{GivesUp}
use Rattle.container_store.specs.Store.{StoreView, IsStore, IsGiven}
use Rattle.container_store.specs.declared.refusal.StoreRefusal.{StoreRefusal}

module _ (s : StoreView) where
  abbrev is_next : Container → Bool
  is_next c = is_same_instance (next_of s) c.instance

  and_false : (b : Bool) → (b && false) ≡ false
  and_false true = refl
  and_false false = refl

  given_is_another : (c : Container) → IsGiven s.epoch s.last c → is_next c ≡ false
  given_is_another c h =
      ap (λ b. eqb s.epoch c.instance.epoch && b)
      (ne_eqb (s.last + 1) c.instance.number (λ e. omega (arith, e, h.known)))
      ∙ and_false (eqb s.epoch c.instance.epoch)

  next_is_itself : (job : JobName) (memory disk : ℕ) → is_next (next_container s job memory disk) ≡ true
  next_is_itself job memory disk =
      ap (λ b. b && eqb (s.last + 1) (s.last + 1)) (eq-eqb s.epoch s.epoch refl) ∙ eq-eqb (s.last + 1) (s.last + 1) refl

  finds_next : (job : JobName) (memory disk : ℕ) (cs : List Container) → All (IsGiven s.epoch s.last) cs
      → find is_next (cs ++ next_container s job memory disk ∷ []) ≡ Some (next_container s job memory disk)
  finds_next job memory disk [] h =
      ap (λ b. cond b (Some (next_container s job memory disk)) None) (next_is_itself job memory disk)
  finds_next job memory disk (c ∷ cs) h =
      ap (λ b. cond b (Some c) (find is_next (cs ++ next_container s job memory disk ∷ [])))
      (given_is_another c (All-head (IsGiven s.epoch s.last) c cs h))
      ∙ finds_next job memory disk cs (All-tail (IsGiven s.epoch s.last) c cs h)

  leaves_others : (job : JobName) (memory disk : ℕ) (cs : List Container) → All (IsGiven s.epoch s.last) cs
      → filter (λ c. not (is_next c)) (cs ++ next_container s job memory disk ∷ []) ≡ cs
  leaves_others job memory disk [] h =
      ap (λ b. cond (not b) (next_container s job memory disk ∷ []) []) (next_is_itself job memory disk)
  leaves_others job memory disk (c ∷ cs) h =
      ap (λ b. cond (not b) (c ∷ filter (λ d. not (is_next d)) (cs ++ next_container s job memory disk ∷ []))
      (filter (λ d. not (is_next d)) (cs ++ next_container s job memory disk ∷ [])))
      (given_is_another c (All-head (IsGiven s.epoch s.last) c cs h))
      ∙ ap (λ ds. c ∷ ds) (leaves_others job memory disk cs (All-tail (IsGiven s.epoch s.last) c cs h))

-- a reservation is given up
pub gives_up : GivesUp
gives_up s job memory disk h =
    ap (λ o. if_held o (λ c. Ok (without_container (reserved s job memory disk) (next_of s))))
    (finds_next s job memory disk s.containers h.given)
    ∙ ap (λ (cs : List Container). Ok (record s { containers = cs; last = s.last + 1 }))
    (leaves_others s job memory disk s.containers h.given)
