use Rattle.std.proofs.Common.{◌≡◌, ◌+◌, ◌-◌, ◌<◌, ◌^◌, sym, ap, subst, ◌∙◌, rules, arith}
use Rattle.diego_names.specs.Order.{name_order}
use Rattle.row_tables.specs.Table.{find_row, put_row}
use Rattle.bbs_model.specs.Tables.{process_of}
use Rattle.bbs_index.specs.Index.{instances_in, instances_of}
use Rattle.bbs_index.proofs.Counting.{instances_within, instances-put}
use Rattle.bbs_index.proofs.row_store.IndexRowStore.put_desired.Goals as goal

pub overflow_sub-self : goal.overflow_sub-self
overflow_sub-self c =
    let rows = c.self.inside.desired.rows in
    let old : c.instances_of-old.result ≡ instances_of (find_row name_order process_of c.args.row.process rows) =
    c.instances_of-old.ensures ∙ ap instances_of c.get.ensures.row in
    let within = instances_within rows c.get.ensures.rising c.args.row.process in
    omega (arith, old, within, c.self.invariant)

pub invariant_of-self : goal.invariant_of-self
invariant_of-self c =
    let rows = c.self.inside.desired.rows in
    let old : c.instances_of-old.result ≡ instances_of (find_row name_order process_of c.args.row.process rows) =
    c.instances_of-old.ensures ∙ ap instances_of c.get.ensures.row in
    (λ i. (c.self.invariant i - old i) + c.args.row.instances)
    ∙ instances-put rows c.get.ensures.rising c.args.row ∙ ap instances_in (sym c.put.ensures.rows)

pub overflow_add-self : goal.overflow_add-self
overflow_add-self c =
    let rows = c.self.inside.desired.rows in
    let old : c.instances_of-old.result ≡ instances_of (find_row name_order process_of c.args.row.process rows) =
    c.instances_of-old.ensures ∙ ap instances_of c.get.ensures.row in
    let fits : instances_in (put_row name_order process_of c.args.row rows) < 2 ^ 32 =
    subst (λ v. instances_in (put_row name_order process_of c.args.row v.rows.desired) < 2 ^ 32)
    (sym c.self.view_is) c.requires.fits in
    let sum : (c.self.inside.wanted - c.instances_of-old.result) + c.args.row.instances
    ≡ instances_in (put_row name_order process_of c.args.row rows) =
    (λ i. (c.self.invariant i - old i) + c.args.row.instances) ∙ instances-put rows c.get.ensures.rising c.args.row in
    let small : (c.self.inside.wanted - c.instances_of-old.result) + c.args.row.instances < 2 ^ 32 =
    subst (λ n. n < 2 ^ 32) (sym sum) fits in
    search rules
