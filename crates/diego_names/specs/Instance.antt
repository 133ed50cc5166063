-- The order of instances.
use Rattle.std.specs.Ordering.{nat_cmp, on, then_cmp}
use Rattle.std.specs.declared.cmp.Ordering.{Ordering}
use Rattle.diego_names.specs.declared.instance.Instance.{Instance}

-- by epoch, then by number
abbrev pub instance_order : Instance → Instance → Ordering
instance_order = then_cmp (on (λ i. i.epoch) nat_cmp) (on (λ i. i.number) nat_cmp)
