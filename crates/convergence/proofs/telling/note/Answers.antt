use Rattle.std.proofs.Common.{◌∙◌, List, sym, subst}
use Rattle.std.specs.Ordering.{nat_cmp}
use Rattle.cell_records.specs.declared.container.Container.{Container}
use Rattle.container_store.specs.Store.{number_of}
use Rattle.row_tables.specs.Table.{IsRising}
use Rattle.convergence.proofs.Indexing.{index_unless_new, index_if_new}
use Rattle.convergence.proofs.telling.note.Goals as goal

pub returns-then-contains_key : goal.returns-then-contains_key
returns-then-contains_key c =
    index_unless_new c.args.answers.now c.args.at c.index-answers-at.result c.requires.within c.index-answers-at.is
    c.args.index.now c.requires.index
    (sym c.contains_key.ensures ∙ c.if-contains_key.true)

pub returns : goal.returns
returns c =
    index_if_new c.args.answers.now c.args.at c.index-answers-at.result c.requires.within c.index-answers-at.is
    c.args.index.now c.requires.index
    (sym c.contains_key.ensures ∙ c.if-contains_key.false) c.rises-in_order.result c.insert.new.self
    (λ cell. c.in_ok-insert.ensures.updates.0 cell)
    (λ noted. subst (λ (cs : List Container). IsRising nat_cmp number_of cs) c.items.ensures
    (c.rises-in_order.ensures.0 noted))
