use Rattle.std.proofs.Common.{◌∙◌, refl, sym, ap, Ok}
use Rattle.container_store.specs.Changes.{next_of, next_container, reserved}
use Rattle.container_store.specs.Inside.{store_view_of}
use Rattle.container_store.specs.Store.{free_of}
use Rattle.container_store.proofs.Turns.{unlisted, reserving-ok, IsInside-same, IsInside-pushed, view-pushed}
use Rattle.container_store.proofs.store.Store.reserve.Goals as goal

pub put_container-requires : goal.put_container-requires
put_container-requires c =
    unlisted c.self.inside c.self.invariant (next_container
    (store_view_of c.self.inside) c.args.job c.args.memory c.args.disk) refl

pub invariant_of-self : goal.invariant_of-self
invariant_of-self c =
    let kept = c.in-Err.ensures.err in
    IsInside-same c.self.inside c.self.invariant c.put_container.new.containers c.put_container.new.jobs kept.0 kept.1

pub invariant_of-self-in-Ok : goal.invariant_of-self-in-Ok
invariant_of-self-in-Ok c =
    IsInside-pushed c.self.inside c.self.invariant c.free-free.result c.args.job c.args.memory c.args.disk
    c.put_container.new.containers c.put_container.new.jobs
    c.in-Ok.ensures.containers c.in-Ok.ensures.found c.in-Ok.ensures.jobs
    (c.free-free.ensures ∙ ap free_of (sym c.self.view_is)) c.if-memory-free.false c.if-disk-free.false
    c.if-free-eq0.false

pub returns-in-Ok : goal.returns-in-Ok
returns-in-Ok c = (
  ap next_of c.self.view_is,
  reserving-ok c.args.self.now c.free-free.result c.args.job c.args.memory c.args.disk c.free-free.ensures
      c.if-memory-free.false c.if-disk-free.false c.if-free-eq0.false
      ∙ ap (λ w. Ok (reserved w c.args.job c.args.memory c.args.disk)) (sym c.self.view_is)
      ∙ ap (λ w. Ok w) (sym (view-pushed c.self.inside c.self.invariant c.free-free.result c.args.job c.args.memory
      c.args.disk c.put_container.new.containers c.put_container.new.jobs
      c.in-Ok.ensures.containers c.in-Ok.ensures.found c.in-Ok.ensures.jobs)),
)
