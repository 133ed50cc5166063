use Rattle.std.proofs.Common.{rules, ◌≡◌, ◌∙◌, ℕ, ◌++◌, ◌+◌, ◌*◌, ◌/◌, ◌%◌, ap, sym, refl}
use Rattle.scenario_maker.specs.Draws.{behind, drawn, next_number}
use Rattle.scenario_maker.specs.Generated.{update_of}
use Rattle.scenario_maker.specs.Lines.{update_line}
use Rattle.scenario_maker.proofs.Steps.{behind_both, behind_more, behind_none, behind_pair, text_before, text_behind}
use Rattle.scenario_maker.proofs.making.add_updates.Goals as goal

pub loop-before-init : goal.loop-before-init
loop-before-init c =
    (text_before (update_of c.args.draws.now.last) c.args.text.now.items, sym (behind_none c.args.draws.now.last))

pub loop-before-preserved : goal.loop-before-preserved
loop-before-preserved c =
    let x = c.args.draws.now.last in
    let n = c.loop-before._before in
    let before = c.loop-before.invariant.1 in
    let first : c.draw-process.new.self.last ≡ behind (2 * n + 1) x =
    c.draw-process.ensures.last ∙ ap next_number before ∙ sym (behind_more (2 * n) x) in
    let second : c.draw-instances.new.self.last ≡ behind (2 * n + 2) x =
    c.draw-instances.ensures.last ∙ ap next_number (c.draw-process.ensures.last ∙ ap next_number before) ∙ sym
    (behind_both (2 * n) x) in
    let process : c.draw-process.result ≡ drawn (2 * n + 1) 50 x =
    c.draw-process.ensures.value ∙ ap (λ (k : ℕ). (k / 65536) % 50) first in
    let instances : c.draw-instances.result ≡ drawn (2 * n + 2) 6 x =
    c.draw-instances.ensures.value ∙ ap (λ (k : ℕ). (k / 65536) % 6) second in
    let line : c.extend_from_slice.new.self.items ≡ c.loop-before.text.items
    ++ update_line c.draw-process.result c.draw-instances.result =
    search rules in (
      text_behind n (update_of x) _ _ _ c.loop-before.invariant.0
          (line ∙ rw (process, instances) refl),
      second ∙ sym (behind_pair n x),
    )
