use Rattle.std.proofs.Common.{◌+◌, ◌∙◌, arith}
use Rattle.site_answers.specs.Noting.{is_noted}
use Rattle.site_answers.proofs.Named.{few_noted, noted_next}
use Rattle.site_answers.proofs.notes.noted_in.Goals as goal

pub loop-state-preserved : goal.loop-state-preserved
loop-state-preserved c =
    let p = is_noted c.args.noted.now in
    let states = c.args.states.now in
    let i = c.loop-state.state-index in
    let s = c.state-item.result in
    let next = noted_next p states i s c.loop-state-test.true c.state-item.is in
    record {
      so_far = (λ j. c.loop-state.invariant.so_far j + c.noted_on-count.ensures j) ∙ next;
      few = omega (
        arith,
        c.loop-state.invariant.so_far,
        c.noted_on-count.ensures,
        next,
        few_noted p states (i + 1),
        c.requires,
      );
    }
