use Rattle.std.proofs.Common.{true, sym, ap, subst, ◌∙◌, List}
use Rattle.lrp_records.specs.Place.{place_of, place_order}
use Rattle.lrp_records.specs.declared.actual.Actual.{Actual}
use Rattle.row_tables.specs.Table.{without_row}
use Rattle.bbs_model.specs.Step.{advanced}
use Rattle.bbs_model.specs.declared.rows.Rows.{Rows}
use Rattle.bbs_index.specs.Index.{Indexed}
use Rattle.bbs_index.specs.Redone.{IsRedone, row_moved}
use Rattle.bbs_index.proofs.Gone.{gone_redone}
use Rattle.bbs_index.proofs.index.Index.redo_move.Goals as goal

pub returns-in-Gone-clause-redone : goal.returns-in-Gone-clause-redone
returns-in-Gone-clause-redone c =
    let b = c.self.inside in
    let rows : Rows = record {
      desired = b.desired.rows;
      actual = b.actual.rows;
      tasks = b.tasks.rows;
      cells =
          b.cells.rows;
      domains = b.domains.rows;
      next = b.next;
    } in
    let new = c.advance-in-Gone.new.self.rows in
    let old = c.at-old.result.now in
    subst (λ (v : Indexed). IsRedone (row_moved v.rows c.args.key.now c.args.mv.now c.args.now) true v.rows new)
    c.self.view_is
    (gone_redone rows new c.args.key.now c.args.mv.now c.args.now old (sym c.in-Some.ensures.row ∙ c.at-old.ensures)
    (sym c.in-Gone.ensures.table) c.if-self-ge-MOST_TRANSITIONS.false
    (c.advance-in-Gone.ensures.state ∙ ap (λ (a : List Actual). advanced (record rows { actual = a }))
    (c.remove.ensures.rows ∙ ap (λ p. without_row place_order place_of p b.actual.rows) c.place-place.ensures)))
