-- The rows of the board after its first round are those of a board.
use Rattle.std.proofs.Common.{false, List, ℕ, [], ◌∷◌, None, nat_eq, refl, arith}
use Rattle.std.specs.List.{IsDistinct}
use Rattle.std.proofs.lemmas.Map.Keys.{IsDistinct-cons, IsDistinct-from_apart}
use Rattle.cell_records.specs.declared.amounts.Amounts.{Amounts}
use Rattle.cell_records.specs.declared.cell_row.CellRow.{CellRow}
use Rattle.crash_backoff.specs.declared.moment.Moment.{Moment}
use Rattle.lrp_records.specs.declared.actual.Actual.{Actual}
use Rattle.lrp_records.specs.declared.desired.Desired.{Desired}
use Rattle.lrp_records.specs.declared.presence.Presence.TheVariants.{Ordinary}
use Rattle.lrp_records.specs.declared.state.LrpState.TheVariants.{Claimed}
use Rattle.bbs_model.specs.Tables.{no_rows}
use Rattle.bbs_model.specs.Valid.{IsValid, AreDesired, AreActual, AreTasks, AreCells, AreDomains}
use Rattle.bbs_model.specs.declared.domain_row.DomainRow.{DomainRow}

-- the names of the board
abbrev pub web : List ℕ
web = 119 ∷ 101 ∷ 98 ∷ []

abbrev pub c1 : List ℕ
c1 = 99 ∷ 49 ∷ []

abbrev pub c2 : List ℕ
c2 = 99 ∷ 50 ∷ []

abbrev pub wants : (process domain : List ℕ) → ℕ → Desired
wants process domain instances = record {
  process = process;
  domain = domain;
  instances = instances;
  memory = 64;
  disk =
      128;
  tag = None;
  route = None;
  port = 8080;
}

abbrev pub claim : List ℕ → ℕ → ℕ → ℕ → List ℕ → Moment → Actual
claim process index epoch number cell since = record {
  key = record { process = process; index = index };
  presence =
      Ordinary;
  state = Claimed (record { epoch = epoch; number = number }) cell;
  count = 0;
  since = since;
  error =
      false;
  domain = None;
}

abbrev pub joined : List ℕ → List ℕ → Amounts → ℕ → CellRow
joined cell zone totals epoch = record {
  cell = cell;
  zone = zone;
  tag = None;
  totals = totals;
  epoch = epoch;
  until =
      600;
  evacuating = false;
}

pub desired_board : (domain : List ℕ) → AreDesired (wants web domain 3 ∷ [])
desired_board domain = record { rising = tt; few = omega arith; each = (omega arith, tt); wanted = omega arith }

pub actual_board : (since : Moment) → AreActual 9 (claim web 0 0 1 c1 since ∷ claim web 1 1 1 c2 since
    ∷ claim web 2 0 2 c1 since ∷ [])
actual_board since = record {
  rising = tt;
  few = omega arith;
  each = (
    record { held = omega arith; suits = tt },
    (
      record { held = omega arith; suits = tt },
      (record { held = omega arith; suits = tt }, tt),
    ),
  );
}

-- nothing differs from nothing
none_alike : IsDistinct nat_eq []
none_alike = IsDistinct-from_apart nat_eq [] (λ i j d before within. absurd (omega arith))

pub cells_board : (z1 z2 : List ℕ) (totals : Amounts) → AreCells 9 (joined c1 z1 totals 0 ∷ joined c2 z2 totals 1 ∷ [])
cells_board z1 z2 totals = record {
  rising = tt;
  few = omega arith;
  each = (omega arith, (omega arith, tt));
  epochs = IsDistinct-cons nat_eq 0 (1 ∷ []) (refl, tt) (IsDistinct-cons nat_eq 1 [] tt none_alike);
}

pub domains_board : (row : DomainRow) → AreDomains (row ∷ [])
domains_board row = record { rising = tt; few = omega arith }

pub tasks_board : (next : ℕ) → AreTasks next []
tasks_board next = record { rising = tt; few = omega arith; each = tt; births = none_alike }

-- a board of processes alone
pub desired_alone : (rows : List Desired) → AreDesired rows → IsValid (record no_rows { desired = rows })
desired_alone rows desired = record {
  desired = desired;
  actual = record { rising = tt; few = omega arith; each = tt };
  tasks = tasks_board 0;
  cells = record { rising = tt; few = omega arith; each = tt; epochs = none_alike };
  domains = record { rising = tt; few = omega arith };
  next = omega arith;
}

pub desired_one : (process domain : List ℕ) → AreDesired (wants process domain 1 ∷ [])
desired_one process domain = record { rising = tt; few = omega arith; each = (omega arith, tt); wanted = omega arith }

pub desired_none : AreDesired []
desired_none = record { rising = tt; few = omega arith; each = tt; wanted = omega arith }
