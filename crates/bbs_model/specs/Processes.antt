-- What clients ask of desired processes.
use Rattle.std.specs.Prelude.{ℕ, ◌+◌, ◌-◌, ◌==◌, ◌&&◌, Bool, List, [], ◌∷◌, nat_eq, nat_le, nat_lt, Option, is_some, if◌then◌else◌}
use Rattle.std.specs.Cmp.Lexicographic.{pointwise}
use Rattle.std.specs.Option.{option_eq}
use Rattle.lrp_records.specs.declared.desired.Desired.{Desired}
use Rattle.bbs_model.specs.Attempts.{Refusals, unless_refused, if_known, put, drop_row}
use Rattle.bbs_model.specs.Limits.{most_processes, most_instances, most_wanted}
use Rattle.bbs_model.specs.declared.attempt.Attempt.{Attempt}
use Rattle.bbs_model.specs.declared.attempt.Attempt.TheVariants.{Keep}
use Rattle.bbs_model.specs.declared.event.Row.TheVariants as row
use Rattle.bbs_model.specs.declared.found.Found.{Found}
use Rattle.bbs_model.specs.declared.verdict.BoardRefusal.TheVariants.{Exists, TooMany}

-- why a process can't be desired
abbrev pub desire_refusals : Found → Desired → Refusals
desire_refusals found desired =
    (is_some found.desired, Exists)
    ∷ (nat_le most_processes found.counts.desired, TooMany most_processes)
    ∷ (nat_lt most_instances desired.instances, TooMany most_instances)
    ∷ (nat_lt most_wanted (found.counts.wanted + desired.instances), TooMany most_wanted)
    ∷ []

-- a new process is desired
abbrev pub desire : Found → Desired → Attempt
desire found desired = unless_refused (desire_refusals found desired) (put (row.Desired desired))

-- the row asks for these instances, this route and this port
abbrev pub asks_for : Desired → ℕ → Option (List ℕ) → ℕ → Bool
asks_for desired instances route port =
    desired.instances == instances && (option_eq (pointwise nat_eq) desired.route route && desired.port == port)

-- why a desired process can't have so many instances
abbrev pub resize_refusals : Found → Desired → ℕ → Refusals
resize_refusals found desired instances =
    (nat_lt most_instances instances, TooMany most_instances)
    ∷ (nat_lt most_wanted (found.counts.wanted - desired.instances + instances), TooMany most_wanted)
    ∷ []

-- a desired process gets these instances, this route and this port
abbrev pub update : Found → ℕ → Option (List ℕ) → ℕ → Attempt
update found instances route port = if_known found.desired (λ desired.
    if asks_for desired instances route port then Keep
    else unless_refused (resize_refusals found desired instances)
    (put (row.Desired (record desired { instances = instances; route = route; port = port }))))

-- a process is desired no more
abbrev pub undesire : Found → Attempt
undesire found = if_known found.desired (λ desired. drop_row (row.Desired desired))
