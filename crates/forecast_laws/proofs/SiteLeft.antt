-- A loss leaves rows and answers as the site says with the cells lost.
use Rattle.std.proofs.Common.{false, List, [], Option, ap, ◌∙◌}
use Rattle.std.specs.List.{Contains}
use Rattle.std.specs.Option.{option_map_or}
use Rattle.bbs_model.specs.Valid.{IsValid}
use Rattle.bbs_model.specs.declared.rows.Rows.{Rows}
use Rattle.cell_records.specs.declared.answer.Answer.{Answer}
use Rattle.cell_records.specs.declared.cell_row.CellRow.{CellRow}
use Rattle.converge_laws.specs.Laws.{after_plan}
use Rattle.crash_backoff.specs.declared.moment.Moment.{Moment}
use Rattle.forecast_laws.specs.Losses.{AreThoseThere, IsSeenAs, LossesLeaveTheSite}
use Rattle.forecast_laws.specs.Records.{IsAnswered}
use Rattle.forecast_laws.proofs.Alike.{zip_more}
use Rattle.forecast_laws.proofs.Namers.{none_stray}
use Rattle.forecast_laws.proofs.OthersLeft.{cell_stays}
use Rattle.forecast_laws.proofs.RowsLeft.{rows_left}

-- a cell that is there is being emptied as it was
emptied_as : (rows : Rows) (got : List Answer) (now : Moment) → IsValid rows → AreThoseThere rows got now
    → (c x : Answer)
    → Contains got x → IsSeenAs rows c x → IsAnswered (after_plan rows got now) [] c x
emptied_as rows got now valid those c x inside seen = record {
  alike = seen.alike;
  emptied =
      ap (λ (o : Option CellRow). option_map_or (λ (r : CellRow). r.evacuating) o false)
      (cell_stays rows got now valid x.cell x.epoch (those.only x inside)) ∙ seen.emptied;
}

pub site_left : LossesLeaveTheSite
site_left site lost rows got stores old now valid taken those loss = record {
  as_site = record {
    rows_are = rows_left valid taken those loss;
    answers_are = record {
      cells = loss.answers.cells;
      kept_are = loss.answers.kept_are;
      answered = zip_more (IsSeenAs rows) (IsAnswered (after_plan rows got now) []) loss.answers.cells got
          (λ c x inside seen. emptied_as rows got now valid those c x inside seen) loss.answers.seen;
    };
  };
  none_stray = none_stray valid those loss taken;
}
