use Rattle.std.proofs.Common.{Bool, ◌||◌, nat_eq, sym, ap, ◌∙◌, take_all}
use Rattle.std.specs.Cmp.Lexicographic.{pointwise}
use Rattle.std.specs.HashSet.{contains}
use Rattle.phase_runs.specs.Names.{is_among}
use Rattle.phase_runs.proofs.Names.{any_next, or_last}
use Rattle.phase_runs.proofs.lost_names.hash.Goals as goal

pub loop-name-preserved : goal.loop-name-preserved
loop-name-preserved c = λ q.
    let eq = pointwise nat_eq in
    let name = c.name-item.result in
    c.in_ok-insert.ensures.updates.0 q
    ∙ or_last (eq name q) (contains eq c.loop-name.set q)
    ∙ ap (λ (b : Bool). b || eq name q) (c.loop-name.invariant q)
    ∙ sym (any_next (λ n. eq n q) c.args.names.now c.loop-name.name-index name c.loop-name-test.true c.name-item.is)

pub returns : goal.returns
returns c = λ q.
    c.loop-name.invariant q
    ∙ ap (λ names. is_among names q) (take_all c.loop-name.name-index c.args.names.now c.loop-name-test.false)
