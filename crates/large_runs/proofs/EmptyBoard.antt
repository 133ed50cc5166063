-- What was prepared is a board without rows.
use Rattle.std.proofs.Common.{◌≡◌, [], None, Result, Ok, refl, subst}
use Rattle.disk_trait.specs.Past.{Past, content}
use Rattle.disk_trait.specs.declared.area.Area.TheVariants.{A}
use Rattle.wire_fields.specs.Reading.{number_at}
use Rattle.head_codec.specs.Head.{counts_at, desired_at, actual_at, tasks_at, cells_at, domains_at, head_reading}
use Rattle.bbs_journal.specs.Preparing.{OpensEmpty, Prepares, PreparesBy, empty_head}
use Rattle.bbs_journal.specs.declared.preparing.PrepareFault.{PrepareFault}
use Rattle.bbs_model.specs.Tables.{no_rows}
use Rattle.bbs_board.specs.Opening.{IsBoard, board_of}

-- a head without counts is read as no rows
empty_rows : board_of 2 A empty_head [] None ≡ Ok no_rows
unfolding head_reading counts_at desired_at actual_at tasks_at cells_at domains_at number_at
empty_rows = refl

empty_board : OpensEmpty → (p q : Past) → Prepares p q → IsBoard no_rows (content q)
empty_board opens p q prepares = record {
  area = A;
  version = 2;
  generation = 1;
  head = empty_head;
  payloads = [];
  end = 51;
  opening = opens p q prepares;
  rows_are = empty_rows;
}

pub prepared_board : OpensEmpty → (result : Result (Unit {0}) PrepareFault) (p q : Past) → result ≡ Ok tt
    → PreparesBy result p q → IsBoard no_rows (content q)
prepared_board opens result p q ok did =
    empty_board opens p q (subst (λ (r : Result (Unit {0}) PrepareFault). PreparesBy r p q) ok did)
