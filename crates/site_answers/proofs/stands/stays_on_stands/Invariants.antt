use Rattle.std.proofs.Common.{◌≡◌, take}
use Rattle.std.specs.List.{flat_map}
use Rattle.what_if.specs.Stays.{stays_at}
use Rattle.site_answers.proofs.stands.stays_on_stands.Given as goal

abbrev pub invariant-loop-stand : goal.invariant-loop-stand
invariant-loop-stand l = l.list.items ≡ flat_map (λ s. stays_at s.cell s.zone s.jobs) (take l.stand-index l.stands)
