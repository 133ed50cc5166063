use Rattle.std.proofs.Common.{refl, sym, subst, ◌∙◌}
use Rattle.bbs_model.specs.declared.event.Row.TheVariants as row
use Rattle.differences.specs.Noted.{Keeping}
use Rattle.differences.specs.Renewal.{AreFew}
use Rattle.differences.proofs.Arms.{few_in, few_renewed, renews_at, renews_cell, renews_domain, renews_task}
use Rattle.differences.proofs.kept.Kept.take_in.Goals as goal

pub take_desired-requires-clause-before : goal.take_desired-requires-clause-before
take_desired-requires-clause-before g c =
    subst (λ (k : Keeping). AreFew k) (sym c.self.view_is) c.requires.few c.in-Desired.row.process

pub take_desired-requires-clause-after : goal.take_desired-requires-clause-after
take_desired-requires-clause-after g c =
    few_in (g.T.RowStore.state c.args.store.now) c.requires.valid c.in-Desired.row.process

pub returns-in-Desired-clause-few : goal.returns-in-Desired-clause-few
returns-in-Desired-clause-few g c =
    few_renewed (g.T.RowStore.state c.args.store.now) c.requires.valid c.self.inside.wanted.entries
    c.take_desired.new.counts.entries (subst (λ (k : Keeping). AreFew k) (sym c.self.view_is) c.requires.few)
    c.take_desired.ensures.counts

pub returns-in-Actual-clause-few : goal.returns-in-Actual-clause-few
returns-in-Actual-clause-few g c = subst (λ (k : Keeping). AreFew k) (sym c.self.view_is) c.requires.few

pub returns-in-Task-clause-few : goal.returns-in-Task-clause-few
returns-in-Task-clause-few g c = subst (λ (k : Keeping). AreFew k) (sym c.self.view_is) c.requires.few

pub returns-in-Cell-clause-few : goal.returns-in-Cell-clause-few
returns-in-Cell-clause-few g c = subst (λ (k : Keeping). AreFew k) (sym c.self.view_is) c.requires.few

pub returns-in-Domain-clause-few : goal.returns-in-Domain-clause-few
returns-in-Domain-clause-few g c = subst (λ (k : Keeping). AreFew k) (sym c.self.view_is) c.requires.few

pub returns-in-Task-clause-renews : goal.returns-in-Task-clause-renews
returns-in-Task-clause-renews g c =
    renews_at (g.T.RowStore.state c.args.store.now) (row.Task c.in-Task.row) c.args.event.now.row _ c.args.self.now _
    c.in-Task.is c.self.view_is (renews_task (g.T.RowStore.state c.args.store.now) _ _ c.in-Task.row refl refl refl refl
    (c.take_named.ensures.there ∙ c.task_in.ensures) c.take_named.ensures.others)

pub returns-in-Cell-clause-renews : goal.returns-in-Cell-clause-renews
returns-in-Cell-clause-renews g c =
    renews_at (g.T.RowStore.state c.args.store.now) (row.Cell c.in-Cell.row) c.args.event.now.row _ c.args.self.now _
    c.in-Cell.is c.self.view_is (renews_cell (g.T.RowStore.state c.args.store.now) _ _ c.in-Cell.row refl refl refl refl
    (c.take_named-in-Cell.ensures.there ∙ c.lease_in.ensures) c.take_named-in-Cell.ensures.others)

pub returns-in-Domain-clause-renews : goal.returns-in-Domain-clause-renews
returns-in-Domain-clause-renews g c =
    renews_at (g.T.RowStore.state c.args.store.now) (row.Domain c.in-Domain.row) c.args.event.now.row _
    c.args.self.now _ c.in-Domain.is c.self.view_is (renews_domain (g.T.RowStore.state c.args.store.now) _ _
    c.in-Domain.row refl refl refl refl (c.take_named-in-Domain.ensures.there ∙ c.end_in.ensures)
    c.take_named-in-Domain.ensures.others)
