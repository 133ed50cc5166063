-- The order of keys.
use Rattle.std.specs.Ordering.{nat_cmp, on, then_cmp}
use Rattle.std.specs.declared.cmp.Ordering.{Ordering}
use Rattle.diego_names.specs.Order.{name_order}
use Rattle.diego_names.specs.declared.key.Key.{Key}

-- by process, then by index
abbrev pub key_order : Key → Key → Ordering
key_order = then_cmp (on (λ k. k.process) name_order) (on (λ k. k.index) nat_cmp)
