use Rattle.std.proofs.Common.{is_gt, nat_cmp, ap, ◌∙◌}
use Rattle.std.specs.Cmp.{tied_itself}
use Rattle.std.specs.Ordering.{ordering_then}
use Rattle.std.specs.declared.cmp.Ordering.{Ordering}
use Rattle.diego_names.specs.Key.{key_order}
use Rattle.diego_names.proofs.Public.{IsKeyOrder-name_order}
use Rattle.route_emitter.proofs.instances.Instances.list.Goals as goal

pub range-key-items-requires : goal.range-key-items-requires
range-key-items-requires c =
    (λ i. is_gt (key_order (c.first_of.ensures i) (c.last_of.ensures i)))
    ∙ ap (λ (o : Ordering). is_gt (ordering_then o (nat_cmp 0 4294967295)))
    (tied_itself IsKeyOrder-name_order.total c.args.process.now)
