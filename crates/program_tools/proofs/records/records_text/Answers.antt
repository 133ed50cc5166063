use Rattle.std.proofs.Common.{◌≡◌, ℕ, List, [], ◌++◌, ap, ◌∙◌, append_assoc}
use Rattle.bbs_model.specs.declared.event.Row.TheVariants as row
use Rattle.program_tools.specs.Records.{table_lines}
use Rattle.program_tools.proofs.records.records_text.Goals as goal

-- five texts, each put behind the one before it
joined : (d a t r s : List ℕ) → ((((([] ++ d) ++ a) ++ t) ++ r) ++ s) ≡ d ++ (a ++ (t ++ (r ++ s)))
joined d a t r s =
    append_assoc ((d ++ a) ++ t) r s ∙ append_assoc (d ++ a) t (r ++ s) ∙ append_assoc d a (t ++ (r ++ s))

pub returns : goal.returns
returns c =
    let rows = c.args.rows.now in
    let desired = put c.in_ok-add_table.ensures c.new-text.ensures.items
    (ap (table_lines row.Desired) c.items.ensures) in
    let actual = put c.in_ok-add_table-2.ensures desired (ap (table_lines row.Actual) c.items-2.ensures) in
    let tasks = put c.in_ok-add_table-3.ensures actual (ap (table_lines row.Task) c.items-3.ensures) in
    let cells = put c.in_ok-add_table-4.ensures tasks (ap (table_lines row.Cell) c.items-4.ensures) in
    put c.in_ok-add_table-5.ensures cells (ap (table_lines row.Domain) c.items-5.ensures)
    ∙ joined (table_lines row.Desired rows.desired) (table_lines row.Actual rows.actual)
    (table_lines row.Task rows.tasks) (table_lines row.Cell rows.cells) (table_lines row.Domain rows.domains)
  where
    put : {new old text whole more : List ℕ} → new ≡ old ++ text → old ≡ whole → text ≡ more → new ≡ whole ++ more
    put e g h = cc
