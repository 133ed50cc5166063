use Rattle.std.proofs.Common.{◌≡◌, ℕ, List, [], ◌++◌, ap, ◌∙◌}
use Rattle.std.specs.List.{flat_map}
use Rattle.cell_records.specs.declared.cell_row.CellRow.{CellRow}
use Rattle.lrp_records.specs.declared.actual.Actual.{Actual}
use Rattle.lrp_records.specs.declared.desired.Desired.{Desired}
use Rattle.task_records.specs.declared.task.Task.{Task}
use Rattle.bbs_model.specs.declared.domain_row.DomainRow.{DomainRow}
use Rattle.bbs_codec.specs.Formats.{desired}
use Rattle.head_codec.specs.Head.{Counts, counts, head_counts, head_spelled}
use Rattle.bbs_codec.specs.RowFormats.{actual, task_row, cell_row, domain_row}
use Rattle.head_codec.proofs.PutTexts.{joined}
use Rattle.head_codec.proofs.writing.write_head.Goals as goal

pub returns-clause-bytes : goal.returns-clause-bytes
unfolding head_spelled
returns-clause-bytes c =
    let rows = c.args.rows.now in
    let front = c.in_ok-append_front.ensures.bytes ∙ ap (λ (l : List ℕ). l ++ counts.spelling c.counts.result)
    c.new-out.ensures.items
    ∙ ap (λ (n : Counts). [] ++ counts.spelling n) c.counts.ensures in
    let d = ap (λ (l : List Desired). flat_map desired.spelling l) c.items.ensures in
    let a = ap (λ (l : List Actual). flat_map actual.spelling l) c.items-2.ensures in
    let t = ap (λ (l : List Task). flat_map task_row.spelling l) c.items-3.ensures in
    let r = ap (λ (l : List CellRow). flat_map cell_row.spelling l) c.items-4.ensures in
    let m = ap (λ (l : List DomainRow). flat_map domain_row.spelling l) c.items-5.ensures in
    let first = put c.in_ok-append_rows-2.ensures.bytes (put c.in_ok-append_rows.ensures.bytes front d) a in
    let second = put c.in_ok-append_rows-4.ensures.bytes (put c.in_ok-append_rows-3.ensures.bytes first t) r in
    put c.in_ok-append_rows-5.ensures.bytes second m
    ∙ joined (counts.spelling (head_counts rows)) (flat_map desired.spelling rows.desired)
    (flat_map actual.spelling rows.actual)
    (flat_map task_row.spelling rows.tasks) (flat_map cell_row.spelling rows.cells)
    (flat_map domain_row.spelling rows.domains)
  where
    put : {new old text whole more : List ℕ} → new ≡ old ++ text → old ≡ whole → text ≡ more → new ≡ whole ++ more
    put e g h = cc
