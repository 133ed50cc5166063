use Rattle.std.proofs.Common.{◌∙◌, ap, sym, cond, false, Ok}
use Rattle.std.specs.BTreeMap.{is_at}
use Rattle.std.specs.BTreeSet.{contains}
use Rattle.std.specs.Option.{option_copied}
use Rattle.container_store.specs.Changes.{without_container, if_held}
use Rattle.container_store.specs.Entries.{entry_order}
use Rattle.container_store.specs.declared.entries.JobEntry.{JobEntry}
use Rattle.container_store.proofs.Turns.{held_as, memory-held, disk-held, IsInside-removed, view-removed}
use Rattle.container_store.proofs.store.Store.remove.Goals as goal

pub overflow_sub-self : goal.overflow_sub-self
overflow_sub-self c =
    let found = sym c.find.ensures ∙ ap option_copied c.in_ok-container.ensures.ok_part in
    memory-held c.self.inside c.self.invariant c.args.instance.now
    (held_as c.self.inside c.self.invariant c.args.self.now c.self.view_is c.args.instance.now
    c.in_ok-container.field-0.now found)

pub overflow_sub-self-2 : goal.overflow_sub-self-2
overflow_sub-self-2 c =
    let found = sym c.find.ensures ∙ ap option_copied c.in_ok-container.ensures.ok_part in
    disk-held c.self.inside c.self.invariant c.args.instance.now
    (held_as c.self.inside c.self.invariant c.args.self.now c.self.view_is c.args.instance.now
    c.in_ok-container.field-0.now found)

pub invariant_of-self : goal.invariant_of-self
invariant_of-self c =
    let found = sym c.find.ensures ∙ ap option_copied c.in_ok-container.ensures.ok_part in
    IsInside-removed c.self.inside c.self.invariant c.args.instance.now
    (held_as c.self.inside c.self.invariant c.args.self.now c.self.view_is c.args.instance.now
    c.in_ok-container.field-0.now found)
    c.remove.new.self c.remove-2.new.self c.remove.ensures.entries c.remove.ensures.updates.0
    (λ q. c.remove-2.ensures.updates.0 q
    ∙ ap (λ (k : JobEntry). cond (is_at (entry_order k) q) false (contains entry_order c.self.inside.jobs q))
    c.job_entry.ensures)

pub returns : goal.returns
returns c =
    let v = c.args.self.now in
    let i = c.args.instance.now in
    let found = sym c.find.ensures ∙ ap option_copied c.in_ok-container.ensures.ok_part in
    ap (λ o. if_held o (λ x. Ok (without_container v i))) found
    ∙ ap (λ w. Ok (without_container w i)) (sym c.self.view_is)
    ∙ ap (λ w. Ok w) (sym (view-removed c.self.inside c.self.invariant i
    (held_as c.self.inside c.self.invariant v c.self.view_is i c.in_ok-container.field-0.now found)
    c.remove.new.self c.remove-2.new.self c.remove.ensures.entries c.remove.ensures.updates.0
    (λ q. c.remove-2.ensures.updates.0 q
    ∙ ap (λ (k : JobEntry). cond (is_at (entry_order k) q) false (contains entry_order c.self.inside.jobs q))
    c.job_entry.ensures)))
