-- The first line of phases that is no client's, phase by phase.
use Rattle.std.proofs.Common.{◌≡◌, ℕ, ◌+◌, ◌<◌, List, [], ◌∷◌, ◌++◌, Option, Some, None, length, take, drop, get_or, refl, sym, ap, ◌∙◌}
use Rattle.std.specs.Option.{option_or}
use Rattle.std.proofs.lemmas.List.{take-append-drop, take_more}
use Rattle.scenario_lines.specs.declared.script.Phase.{Phase}
use Rattle.pair_lines.specs.Scripts.{first_other_in, other_in}

or_assoc : (a b c : Option ℕ) → option_or a (option_or b c) ≡ option_or (option_or a b) c
or_assoc None b c = refl
or_assoc (Some n) b c = refl

or_none : (a : Option ℕ) → option_or a None ≡ a
or_none None = refl
or_none (Some n) = refl

both : (ps qs : List Phase) → first_other_in (ps ++ qs) ≡ option_or (first_other_in ps) (first_other_in qs)
both [] qs = refl
both (p ∷ ps) qs = ap (option_or (other_in p)) (both ps qs) ∙ or_assoc (other_in p) (first_other_in ps)
    (first_other_in qs)

module _ (phases : List Phase) (i : ℕ) (p : Phase) (within : i < length phases) (is : p ≡ get_or phases i p)
    (none : first_other_in (take i phases) ≡ None) where
  next : first_other_in (take (i + 1) phases) ≡ other_in p
  next = ap first_other_in (take_more phases i p within ∙ ap (λ (x : Phase). take i phases ++ x ∷ []) (sym is))
      ∙ both (take i phases) (p ∷ []) ∙ ap (λ (a : Option ℕ). option_or a (first_other_in (p ∷ []))) none
      ∙ or_none (other_in p)

  -- the next phase has none
  pub none_next : other_in p ≡ None → first_other_in (take (i + 1) phases) ≡ None
  none_next is_none = next ∙ is_none

  -- the next phase has one
  pub found_next : (line : ℕ) → other_in p ≡ Some line → first_other_in phases ≡ Some line
  found_next line found = ap first_other_in (sym (take-append-drop (i + 1) phases))
      ∙ both (take (i + 1) phases) (drop (i + 1) phases)
      ∙ ap (λ (a : Option ℕ). option_or a (first_other_in (drop (i + 1) phases))) (next ∙ found)
