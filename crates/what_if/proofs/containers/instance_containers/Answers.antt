use Rattle.std.proofs.Common.{◌+◌, List, [], ◌∷◌, ◌++◌, drop, sym, ap, ◌∙◌, append_assoc, arith}
use Rattle.cell_records.specs.declared.container.Container.{Container}
use Rattle.what_if.specs.Sites.{instance_container, numbered}
use Rattle.what_if.proofs.Lists.{drop_next}
use Rattle.what_if.proofs.containers.instance_containers.Goals as goal

pub loop-instance-preserved : goal.loop-instance-preserved
loop-instance-preserved c =
    let xs = c.args.instances.now in
    let i = c.loop-instance.instance-index in
    let x = c.instance-item.result in
    let n = c.loop-instance.number + 1 in
    let list = c.loop-instance.list in
    let rest = drop (i + 1) xs in
    record {
      number = omega (arith, c.loop-instance.invariant.number);
      so_far =
          ap (λ (ys : List Container). ys ++ numbered instance_container (n + 1) rest) c.in_ok-add_instance.ensures
          ∙ append_assoc list (instance_container n x ∷ []) (numbered instance_container (n + 1) rest)
          ∙ ap (λ zs. list ++ numbered instance_container n zs)
          (sym (drop_next xs i x c.loop-instance-test.true c.instance-item.is))
          ∙ c.loop-instance.invariant.so_far;
    }
