-- The placements of a round are those of the plan.
use Rattle.std.proofs.Common.{◌≡◌, ◌≢◌, ℕ, List, map, sym, ap, subst, ◌∙◌}
use Rattle.std.specs.List.{AllPairs, Contains}
use Rattle.auctioneer.specs.Asked.{AreAnswers}
use Rattle.auctioneer.specs.Auction.{auction_from}
use Rattle.auctioneer.specs.Order.{turn_of, turn_order, in_order}
use Rattle.auctioneer.specs.Stands.{stand_of, stands_of}
use Rattle.auctioneer.specs.declared.stand.Stand.{Stand}
use Rattle.auctioneer.proofs.Public.{same_turn, IsKeyOrder-turn_order}
use Rattle.bbs_model.specs.PortView.{rows_seen}
use Rattle.bbs_model.specs.Valid.{IsValid}
use Rattle.bbs_model.specs.declared.rows.Rows.{Rows}
use Rattle.cell_records.specs.declared.answer.Answer.{Answer}
use Rattle.cell_records.specs.declared.job.Job.{Job}
use Rattle.converge_laws.proofs.Public.{from_map, inside_map}
use Rattle.converge_round.specs.Jobs.{jobs}
use Rattle.converge_round.specs.Places.{placements}
use Rattle.converge_round.proofs.Public.{jobs_differ, open_answers}
use Rattle.diego_names.specs.Order.{name_order}
use Rattle.diego_names.proofs.Public.{IsKeyOrder-name_order}
use Rattle.row_tables.specs.Table.{table}
use Rattle.round_theorem.proofs.Public.{differ_pairs, one_of_name}
use Rattle.what_if.specs.Plans.{jobs_of_loss, plan, stands_before}
use Rattle.what_if.specs.Stays.{open_cells}
use Rattle.what_if.specs.Waiting.{waits}
use Rattle.what_if.specs.declared.site.Site.{Site}
use Rattle.forecast_laws.specs.Plans.{HaveTheSame, PlansAreRounds}
use Rattle.forecast_laws.proofs.Alike.{table-of_same}
use Rattle.forecast_laws.proofs.AlikeAuctions.{auction_alike, names_alike, stands_alike, table_alike}

-- one auction, over jobs that are the same and cells that are read alike
one_auction : (site : Site) (lost : List (List ℕ)) (rows : Rows) (roomy : List Answer)
    → auction_from (stands_before site lost) (in_order (jobs rows))
    ≡ auction_from (stands_of roomy) (in_order (jobs rows))
    → jobs_of_loss site lost ≡ in_order (jobs rows) → placements rows roomy ≡ plan site lost
one_auction site lost rows roomy stands order = sym (ap (auction_from (stands_before site lost)) order ∙ stands)

-- the cells as an auction reads them have the same elements
read_same : (xs ys : List Answer) → HaveTheSame xs ys → HaveTheSame (map stand_of xs) (map stand_of ys)
read_same xs ys same = record {
  there = λ s inside.
      let x = from_map stand_of xs s inside in
      subst (Contains (map stand_of ys)) x.2 (inside_map stand_of ys x.0 (same.there x.0 x.1));
  back = λ s inside.
      let y = from_map stand_of ys s inside in
      subst (Contains (map stand_of xs)) y.2 (inside_map stand_of xs y.0 (same.back y.0 y.1));
}

pub plan_is_round : PlansAreRounds
plan_is_round by now line s s' r h site lost reads =
    let p = h.opening_is.places in
    let placed = h.opens.placed in
    let rows = rows_seen h.opened.view in
    let read = map stand_of reads.cells in
    let valid : IsValid p.rows = subst IsValid (sym placed.rows_are) placed.valid in
    let answers : AreAnswers p.roomy = open_answers rows h.opened.reps h.opens.hearing.got p.roomy h.opens.heard.apart
    placed.open_are in
    let apart : AllPairs (λ a b. a ≢ b) (map (λ (s : Stand). s.cell) read) =
    subst (AllPairs (λ a b. a ≢ b)) (names_alike reads.cells p.roomy reads.alike) answers.differ in
    let tables : stands_before site lost ≡ table name_order (λ (s : Stand). s.cell) read =
    table-of_same name_order (λ (s : Stand). s.cell) IsKeyOrder-name_order (map stand_of (open_cells site lost)) read
    (one_of_name (λ (s : Stand). s.cell) read (differ_pairs (map (λ (s : Stand). s.cell) read) apart))
    (read_same (open_cells site lost) reads.cells reads.open_are) in
    let order : jobs_of_loss site lost ≡ in_order (jobs p.rows) =
    table-of_same turn_order turn_of IsKeyOrder-turn_order (waits site lost) (jobs p.rows)
    (λ a b in_a in_b turns. one_of_name (λ (j : Job). j.job) (jobs p.rows)
    (differ_pairs (map (λ (j : Job). j.job) (jobs p.rows)) (jobs_differ p.rows valid)) a b in_a in_b
    (same_turn a b turns)) reads.jobs in
    let stands : auction_from (stands_before site lost) (in_order (jobs p.rows))
    ≡ auction_from (stands_of p.roomy) (in_order (jobs p.rows)) =
    ap (λ (ss : List Stand). auction_from ss (in_order (jobs p.rows))) tables
    ∙ auction_alike (table name_order (λ (s : Stand). s.cell) read) (stands_of p.roomy) (in_order (jobs p.rows))
    (table_alike read (map stand_of p.roomy) (stands_alike reads.cells p.roomy reads.alike)) in
    placed.placed ∙ ap (λ (q : Rows). placements q p.roomy) (sym placed.rows_are)
    ∙ one_auction site lost p.rows p.roomy stands order
