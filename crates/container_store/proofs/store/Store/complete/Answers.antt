use Rattle.std.proofs.Common.{◌≡◌, ◌∙◌, cond, sym, ap, Some, Ok, Err}
use Rattle.std.specs.Option.{option_map}
use Rattle.cell_records.specs.declared.container.Container.{Container}
use Rattle.cell_records.specs.declared.container_state.ContainerState.TheVariants.{Completed}
use Rattle.container_store.specs.Changes.{is_uncompleted, with_state}
use Rattle.container_store.specs.Store.{find_container}
use Rattle.container_store.specs.declared.refusal.StoreRefusal.TheVariants.{WrongState}
use Rattle.container_store.proofs.Turns.{HeldAs, held_in, IsInside-turned, view-turned, ask-some, uncompleted}
use Rattle.container_store.proofs.store.Store.complete.Goals as goal

state : (c : goal.After-set_state) → Some c.in-Some.state
    ≡ option_map (λ (x : Container). x.state) (find_container c.args.instance.now c.args.self.now.containers)
state c = sym c.in-Some.is ∙ c.state_of.ensures

here : (c : goal.After-set_state) → HeldAs c.self.inside c.args.instance.now
here c = held_in c.self.inside c.self.invariant c.args.self.now c.self.view_is c.args.instance.now c.in-Some.state
    (state c)

pub invariant_of-self : goal.invariant_of-self
invariant_of-self c =
    let h = here c in
    IsInside-turned c.self.inside c.self.invariant c.args.instance.now h
    (Completed c.args.failed) c.set_state.new.containers (c.set_state.ensures.entries h.one h.held)
    (c.set_state.ensures.found h.one h.held)

pub returns-in_default : goal.returns-in_default
returns-in_default c =
    let v = c.args.self.now in
    let i = c.args.instance.now in
    let h = here c in
    ask-some (find_container i v.containers) c.in-Some.state
    (λ s. cond (is_uncompleted s) (Ok (with_state v i (Completed c.args.failed))) (Err WrongState)) (state c)
    ∙ ap (λ b. cond b (Ok (with_state v i (Completed c.args.failed))) (Err WrongState))
    (uncompleted c.in-Some.state c.in_default.not-Completed)
    ∙ ap (λ w. Ok (with_state w i (Completed c.args.failed))) (sym c.self.view_is)
    ∙ ap (λ w. Ok w) (sym (view-turned c.self.inside c.self.invariant i h
    (Completed c.args.failed) c.set_state.new.containers (c.set_state.ensures.entries h.one h.held)
    (c.set_state.ensures.found h.one h.held)))
