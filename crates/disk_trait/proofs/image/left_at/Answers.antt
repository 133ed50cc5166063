use Rattle.std.proofs.Common.{List, ℕ, ◌∙◌, ap}
use Rattle.disk_trait.specs.Deeds.{before}
use Rattle.disk_trait.specs.declared.deed.Entry.{Entry}
use Rattle.disk_trait.proofs.PickLemmas.{leaves_ok}
use Rattle.disk_trait.proofs.ChoiceLemmas.{chosen_ok}
use Rattle.disk_trait.proofs.image.left_at.Goals as goal

pub returns-clause-leaves : goal.returns-clause-leaves
returns-clause-leaves c =
    leaves_ok c.left_by.result c.args.area.now c.args.moment _ _ c.in_ok-first.first.items c.deref-3.ensures.value
    c.deref-4.ensures.value
    (c.in_ok-first.ensures ∙ ap (λ (es : List Entry). before es c.deref-2.result.now) c.deref.ensures.value ∙ ap
    (λ (l : List ℕ). before c.args.area.now.entries.items l) c.deref-2.ensures.value)
    c.left_by.ensures.reaches

pub returns-clause-chosen : goal.returns-clause-chosen
returns-clause-chosen c =
    chosen_ok c.left_by.result c.args.torn c.args.area.now c.args.moment _ _ c.in_ok-first.first.items
    c.deref-3.ensures.value c.deref-4.ensures.value
    (c.in_ok-first.ensures ∙ ap (λ (es : List Entry). before es c.deref-2.result.now) c.deref.ensures.value ∙ ap
    (λ (l : List ℕ). before c.args.area.now.entries.items l) c.deref-2.ensures.value)
    c.left_by.ensures.chosen
