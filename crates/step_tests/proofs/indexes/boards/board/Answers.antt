use Rattle.std.proofs.Common.{◌≡◌, None, [], ◌∷◌, sym, ap, subst, ◌∙◌, arith}
use Rattle.cell_records.specs.declared.amounts.Amounts.{Amounts}
use Rattle.crash_backoff.specs.declared.moment.Moment.{Moment}
use Rattle.bbs_model.specs.Valid.{AreDesired, AreActual, AreCells, AreTasks, AreDomains}
use Rattle.bbs_model.specs.declared.domain_row.DomainRow.{DomainRow}
use Rattle.step_tests.proofs.RoundBoard.{web, c1, c2, wants, claim, joined, desired_board, actual_board, cells_board, tasks_board, domains_board}
use Rattle.step_tests.proofs.indexes.boards.board.Goals as goal

pub returns : goal.returns
returns c =
    let process : c.in_ok-process.process ≡ web = c.in_ok-process.ensures.name.1 in
    let one : c.in_ok-c1.c1 ≡ c1 = c.in_ok-c1.ensures.name.1 in
    let two : c.in_ok-c2.c2 ≡ c2 = c.in_ok-c2.ensures.name.1 in
    let since : Moment = record { 0 = 1 } in
    let totals : Amounts = record { memory = 1024; disk = 4096; containers = 10 } in
    let domain = c.in_ok-apps.apps in
    let desired : c.from.result ≡ wants web domain 3 ∷ [] =
    c.from.ensures ∙ c.in_ok-desired.ensures.items ∙ ap (λ d. d ∷ [])
    (c.desired.ensures ∙ ap (λ p. wants p domain 3) process) in
    let first : c.claimed.result ≡ claim web 0 0 1 c1 since =
    c.claimed.ensures ∙ (λ i. claim (process i) 0 0 1 (one i) since) in
    let second : c.claimed-2.result ≡ claim web 1 1 1 c2 since =
    c.claimed-2.ensures ∙ (λ i. claim (process i) 1 1 1 (two i) since) in
    let third : c.claimed-3.result ≡ claim web 2 0 2 c1 since =
    c.claimed-3.ensures ∙ (λ i. claim (process i) 2 0 2 (one i) since) in
    let actual : c.from-2.result ≡ claim web 0 0 1 c1 since ∷ claim web 1 1 1 c2 since ∷ claim web 2 0 2 c1 since ∷ [] =
    c.from-2.ensures ∙ c.in_ok-actual.ensures.items ∙ (λ i. first i ∷ second i ∷ third i ∷ []) in
    let here : c.cell.result ≡ joined c1 c.in_ok-read.field-0 totals 0 =
    c.cell.ensures ∙ ap (λ n. joined n c.in_ok-read.field-0 totals 0) one in
    let there : c.cell-2.result ≡ joined c2 c.in_ok-read-2.field-0 totals 1 =
    c.cell-2.ensures ∙ ap (λ n. joined n c.in_ok-read-2.field-0 totals 1) two in
    let cells : c.from-3.result ≡ joined c1 c.in_ok-read.field-0 totals 0 ∷ joined c2 c.in_ok-read-2.field-0 totals 1
    ∷ [] =
    c.from-3.ensures ∙ c.in_ok-cells.ensures.items ∙ (λ i. here i ∷ there i ∷ []) in
    let vouched : DomainRow = record { domain = domain; until = None } in
    let domains : c.from-4.result ≡ vouched ∷ [] = c.from-4.ensures ∙ c.in_ok-domains.ensures.items ∙ ap
    (λ d. d ∷ []) c.vouched.ensures in
    record {
      desired = subst AreDesired (sym desired) (desired_board domain);
      actual = subst (AreActual 9) (sym actual) (actual_board since);
      tasks = subst (AreTasks 9) (sym c.new.ensures) (tasks_board 9);
      cells = subst (AreCells 9) (sym cells) (cells_board c.in_ok-read.field-0 c.in_ok-read-2.field-0 totals);
      domains = subst AreDomains (sym domains) (domains_board vouched);
      next = omega arith;
    }
