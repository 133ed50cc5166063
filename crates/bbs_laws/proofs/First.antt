-- A board without rows is valid.
use Rattle.std.proofs.Common.{arith}
use Rattle.std.specs.List.{IsDistinct}
use Rattle.bbs_model.specs.Tables.{no_rows}
use Rattle.bbs_model.specs.Valid.{IsValid}

pub IsValid-no_rows : IsValid no_rows
unfolding IsDistinct
IsValid-no_rows = record {
  desired = record { rising = tt; few = omega arith; each = tt; wanted = omega arith };
  actual = record { rising = tt; few = omega arith; each = tt };
  tasks = record { rising = tt; few = omega arith; each = tt; births = tt };
  cells = record { rising = tt; few = omega arith; each = tt; epochs = tt };
  domains = record { rising = tt; few = omega arith };
  next = omega arith;
}
