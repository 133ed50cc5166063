use Rattle.std.proofs.Common.{◌≡◌, ◌-◌, sym, ap, ◌∙◌, arith}
use Rattle.diego_names.specs.Order.{name_order}
use Rattle.row_tables.specs.Table.{find_row}
use Rattle.bbs_model.specs.Tables.{process_of}
use Rattle.bbs_index.specs.Index.{instances_in, instances_of}
use Rattle.bbs_index.proofs.Counting.{instances_within, instances-removal}
use Rattle.bbs_index.proofs.row_store.IndexRowStore.remove_desired.Goals as goal

pub overflow_sub-self : goal.overflow_sub-self
overflow_sub-self c =
    let rows = c.self.inside.desired.rows in
    let old : c.instances_of-old.result ≡ instances_of (find_row name_order process_of c.args.process.now rows) =
    c.instances_of-old.ensures ∙ ap instances_of c.get.ensures.row in
    let within = instances_within rows c.get.ensures.rising c.args.process.now in
    omega (arith, old, within, c.self.invariant)

pub invariant_of-self : goal.invariant_of-self
invariant_of-self c =
    let rows = c.self.inside.desired.rows in
    let old : c.instances_of-old.result ≡ instances_of (find_row name_order process_of c.args.process.now rows) =
    c.instances_of-old.ensures ∙ ap instances_of c.get.ensures.row in
    (λ i. c.self.invariant i - old i)
    ∙ instances-removal rows c.get.ensures.rising c.args.process.now ∙ ap instances_in (sym c.remove.ensures.rows)
