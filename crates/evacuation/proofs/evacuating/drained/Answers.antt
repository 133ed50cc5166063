use Rattle.std.proofs.Common.{◌≡◌, List, [], ◌∷◌, length, eqb, refl, ◌∙◌, arith}
use Rattle.std.proofs.lemmas.Bool.{ne_eqb}
use Rattle.cell_records.specs.declared.container.Container.{Container}
use Rattle.cell_rep.specs.Reps.{containers_of}
use Rattle.evacuation.specs.Evacuation.{is_nothing}
use Rattle.evacuation.proofs.evacuating.drained.Goals as goal

nothing : (cs : List Container) → eqb (length cs) 0 ≡ is_nothing cs
nothing [] = refl
nothing (c ∷ cs) = ne_eqb (length (c ∷ cs)) 0 (λ e. omega (arith, e))

pub returns : goal.returns
returns c = c.is_empty.ensures ∙ nothing (containers_of c.args.rep.now)
