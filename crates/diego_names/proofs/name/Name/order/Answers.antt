use Rattle.std.proofs.Common.{◌∙◌, sym, arith}
use Rattle.diego_names.specs.Order.{name_order}
use Rattle.diego_names.proofs.Padded.{order_inside, zeros_behind}
use Rattle.diego_names.proofs.name.Name.order.Goals as goal

pub order_of_bytes-requires-clause-rest : goal.order_of_bytes-requires-clause-rest
order_of_bytes-requires-clause-rest c =
    zeros_behind c.self.inside c.max-end.result c.self.invariant (omega (arith, c.max-end.ensures))
    ∙ sym (zeros_behind c.other.inside c.max-end.result c.other.invariant (omega (arith, c.max-end.ensures)))

pub returns : goal.returns
returns c =
    c.order_of_bytes.ensures
    ∙ order_inside c.self.inside c.other.inside c.self.invariant c.other.invariant
    ∙ (λ i. name_order (c.self.view_is i) (c.other.view_is i))
