use Rattle.std.proofs.Common.{subst, ◌∙◌, rules}
use Rattle.std.specs.List.Sorted.{IsPermutation}
use Rattle.std.proofs.lemmas.List.Sorted.{answers_always}
use Rattle.cell_records.specs.declared.answer.Answer.{Answer}
use Rattle.what_if.proofs.SoundSites.{cells-sorted}
use Rattle.what_if.proofs.containers.cells_of.Goals as goal

pub returns : goal.returns
returns c =
    c.from.ensures
    ∙ cells-sorted c.args.states.now c.sort_unstable_by_key.new.self.items c.requires.differ
    (c.sort_unstable_by_key.ensures.sorted (λ (a : Answer). a.cell) (answers_always _ _ _ (λ f a r g h. search rules)))
    (subst (λ xs. IsPermutation xs c.sort_unstable_by_key.new.self.items) c.in_ok-cells.ensures
    c.sort_unstable_by_key.ensures.permutation)
