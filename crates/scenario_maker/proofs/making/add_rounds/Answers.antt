use Rattle.std.proofs.Common.{◌≡◌, ◌∙◌, ℕ, ◌++◌, ◌+◌, ◌*◌, ap, sym, arith}
use Rattle.scenario_maker.specs.Draws.{behind}
use Rattle.scenario_maker.specs.Generated.{update_phases, update_phases_behind}
use Rattle.scenario_maker.proofs.Steps.{behind_behind, behind_none, text_before, text_behind}
use Rattle.scenario_maker.proofs.making.add_rounds.Goals as goal

pub loop-before-init : goal.loop-before-init
loop-before-init c = (
  text_before (update_phases_behind c.args.draws.now.last) c.args.text.now.items,
  sym (behind_none c.args.draws.now.last),
)

pub loop-before-preserved : goal.loop-before-preserved
loop-before-preserved c =
    let x = c.args.draws.now.last in
    let n = c.loop-before.before in
    let last = c.loop-before.invariant.1 in
    let more : 194 + 194 * n ≡ 194 * (n + 1) = omega arith in (
      text_behind n (update_phases_behind x) _ _ _ c.loop-before.invariant.0
          (c.in_ok-add_update_phases.ensures.text ∙ ap (λ (k : ℕ). c.loop-before.text.items
          ++ update_phases k (10 * n + 10)) last),
      c.in_ok-add_update_phases.ensures.draws ∙ ap (behind 194) last ∙ behind_behind 194 (194 * n) x ∙ ap
          (λ (k : ℕ). behind k x) more,
    )
