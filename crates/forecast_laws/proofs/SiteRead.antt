-- A round whose records are as the site says reads the site.
use Rattle.std.proofs.Common.{◌≡◌, filter, filter_map, sym, ap, subst, ◌∙◌}
use Rattle.std.specs.List.{AllZip}
use Rattle.bbs_model.specs.Valid.{IsValid}
use Rattle.bbs_model.specs.declared.rows.Rows.{Rows}
use Rattle.round_completeness.specs.Left.{left_open, RoundsAuctionWhatIsLeft}
use Rattle.forecast_laws.specs.Plans.{IsReadAs}
use Rattle.forecast_laws.specs.Records.{RecordsReadTheSite}
use Rattle.forecast_laws.proofs.CellsRead.{left_alike, open_same, stays_in}
use Rattle.forecast_laws.proofs.RowsRead.{jobs_read}

pub site_read : RoundsAuctionWhatIsLeft → RecordsReadTheSite
site_read left by now line s s' r h site lost apart are =
    let p = h.opening_is.places in
    let placed = h.opens.placed in
    let got = h.opens.hearing.got in
    let roomy : filter_map (left_open p.rows r.stopped) got ≡ p.roomy =
    ap (λ (x : Rows). filter_map (left_open x r.stopped) got) placed.rows_are ∙ sym (left by now line s s' r h apart) in
    record {
      jobs = jobs_read site lost p.rows are.rows_are (subst IsValid (sym placed.rows_are) placed.valid);
      cells = filter stays_in are.answers_are.cells;
      open_are = open_same site lost p.rows r.stopped got are.answers_are;
      alike = subst (AllZip IsReadAs (filter stays_in are.answers_are.cells)) roomy
          (left_alike p.rows r.stopped are.answers_are.cells got are.answers_are.answered);
    }
