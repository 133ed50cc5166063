use Rattle.std.proofs.Common.{rules, ◌≡◌, ◌∙◌, ℕ, ◌++◌, ◌+◌, ◌*◌, ◌/◌, ◌%◌, ap, sym, refl}
use Rattle.scenario_maker.specs.Draws.{behind, drawn, next_number}
use Rattle.scenario_maker.specs.Generated.{desire_of}
use Rattle.scenario_maker.specs.Lines.{desire_line}
use Rattle.scenario_maker.proofs.Steps.{behind_both, behind_more, behind_none, behind_pair, text_before, text_behind}
use Rattle.scenario_maker.proofs.making.add_desires.Goals as goal

pub loop-process-init : goal.loop-process-init
loop-process-init c =
    (text_before (desire_of c.args.draws.now.last) c.args.text.now.items, sym (behind_none c.args.draws.now.last))

pub loop-process-preserved : goal.loop-process-preserved
loop-process-preserved c =
    let x = c.args.draws.now.last in
    let n = c.loop-process.process in
    let before = c.loop-process.invariant.1 in
    let first : c.draw-instances.new.self.last ≡ behind (2 * n + 1) x =
    c.draw-instances.ensures.last ∙ ap next_number before ∙ sym (behind_more (2 * n) x) in
    let second : c.draw.new.self.last ≡ behind (2 * n + 2) x =
    c.draw.ensures.last ∙ ap next_number (c.draw-instances.ensures.last ∙ ap next_number before) ∙ sym
    (behind_both (2 * n) x) in
    let instances : c.draw-instances.result ≡ drawn (2 * n + 1) 4 x =
    c.draw-instances.ensures.value ∙ ap (λ (k : ℕ). (k / 65536) % 4) first in
    let memory : c.draw.result ≡ drawn (2 * n + 2) 8 x = c.draw.ensures.value ∙ ap
    (λ (k : ℕ). (k / 65536) % 8) second in
    let line : c.extend_from_slice.new.self.items ≡ c.loop-process.text.items
    ++ desire_line n (1 + c.draw-instances.result) (32 * (1 + c.draw.result)) =
    search rules in (
      text_behind n (desire_of x) _ _ _ c.loop-process.invariant.0
          (line ∙ rw (instances, memory) refl),
      second ∙ sym (behind_pair n x),
    )
