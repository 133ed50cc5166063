use Rattle.std.proofs.Common.{[], ◌∷◌, ◌++◌, cond, ap, ◌∙◌}
use Rattle.std.specs.HashMap.{get}
use Rattle.std.specs.Option.{unwrap_or}
use Rattle.what_if.proofs.Grouped.{one_behind}
use Rattle.what_if.proofs.groups.add_to_group.Goals as goal

pub returns : goal.returns
returns g c = λ other.
    let eq = g.K.PartialEq.eq in
    let key = c.args.key.now in
    let value = c.args.value.now in
    c.in_ok-put_group.ensures other
    ∙ ap (λ js. cond (eq key other) js (unwrap_or (get eq c.take_group-group.new.groups other) []))
    (c.in_ok-push.ensures.ok ∙ ap (λ js. js ++ value ∷ []) c.take_group-group.ensures.taken)
    ∙ ap (λ js. cond (eq key other) (unwrap_or (get eq c.args.groups.now key) [] ++ value ∷ []) js)
    (c.take_group-group.ensures.rest other)
    ∙ one_behind eq c.requires (λ k. unwrap_or (get eq c.args.groups.now k) []) key other value
