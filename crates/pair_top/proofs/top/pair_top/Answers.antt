use Rattle.std.proofs.Common.{◌≡◌, ◌⊎◌, ℕ, List, true, sym, ap, subst, ◌∙◌}
use Rattle.std.specs.Prelude.{◌==◌, map, string_bytes}
use Rattle.byte_ports.specs.Cause.{HasCause}
use Rattle.pair_lines.specs.declared.answered.PairAnswered.{PairAnswered}
use Rattle.program_ends.specs.Opening.{is_before_board}
use Rattle.pair_top.specs.Top.{PairEnds, PairPorts, ports_at}
use Rattle.pair_top.proofs.Complete.{complete_from}
use Rattle.pair_top.proofs.EndsGive.{unstored_from, unwritten_from, usage_from, usage_to}
use Rattle.pair_top.proofs.top.pair_top.Goals as goal

pub returns-clause-ends : goal.returns-clause-ends
returns-clause-ends g c =
    let r = c.run_words-ending in (
      r.result.ending,
      c.number_of.ensures,
      subst (λ (l : List PairAnswered). PairEnds r.result.ending (map (λ w. string_bytes w) c.args.words.now) l
          (g.S.Source.left c.args.source) (g.S.Source.left r.new.source)
          (ports_at g.D.Disk.told g.D.Disk.fault_count g.D.Disk.moment g.E.Disk.told g.E.Disk.fault_count g.E.Disk.moment
          (g.K.Sink.held c.args.sink) (g.K.Sink.faults c.args.sink) c.args.primary c.args.standby)
          (ports_at g.D.Disk.told g.D.Disk.fault_count g.D.Disk.moment g.E.Disk.told g.E.Disk.fault_count g.E.Disk.moment
          (g.K.Sink.held r.new.sink) (g.K.Sink.faults r.new.sink) r.result.primary r.result.standby))
          (sym c.into_lists-answers.ensures.answers) r.ensures.ends,
    )

pub returns-clause-usage : goal.returns-clause-usage
returns-clause-usage g c =
    let r = c.run_words-ending in
    let status = c.number_of.ensures in (
      (λ n. usage_from (map (λ w. string_bytes w) c.args.words.now) r.result.account.answers _ _ _ _ r.result.ending
          (sym status ∙ n) r.ensures.ends),
      (λ none. status ∙ usage_to (map (λ w. string_bytes w) c.args.words.now) r.result.account.answers _ _ _ _
          r.result.ending none r.ensures.ends),
    )

pub returns-clause-read : goal.returns-clause-read
returns-clause-read g c =
    subst (λ (n : ℕ). HasCause (n == 3) (g.S.Source.faults c.args.source) (g.S.Source.faults c.run_words-ending.new.source))
    (sym c.number_of.ensures) c.run_words-ending.ensures.read

pub returns-clause-unwritten : goal.returns-clause-unwritten
returns-clause-unwritten g c n =
    let r = c.run_words-ending in
    unwritten_from (map (λ w. string_bytes w) c.args.words.now) r.result.account.answers _ _ _ _ r.result.ending
    (sym c.number_of.ensures ∙ n) r.ensures.ends

pub returns-clause-unstored : goal.returns-clause-unstored
returns-clause-unstored g c n =
    let r = c.run_words-ending in
    unstored_from (map (λ w. string_bytes w) c.args.words.now) r.result.account.answers _ _ _ _ r.result.ending
    (sym c.number_of.ensures ∙ n) r.ensures.ends

pub returns-clause-untouched : goal.returns-clause-untouched
returns-clause-untouched g c before =
    c.run_words-ending.ensures.untouched (subst (λ (n : ℕ). is_before_board n ≡ true) c.number_of.ensures before)

pub returns-clause-complete : goal.returns-clause-complete
returns-clause-complete g c meets is is' source sink primary standby =
    let r = c.run_words-ending in
    let v : PairPorts = (ports_at g.D.Disk.told g.D.Disk.fault_count g.D.Disk.moment
    g.E.Disk.told g.E.Disk.fault_count g.E.Disk.moment (g.K.Sink.held c.args.sink) (g.K.Sink.faults c.args.sink)
    c.args.primary c.args.standby) in
    let w : PairPorts = (ports_at g.D.Disk.told g.D.Disk.fault_count g.D.Disk.moment
    g.E.Disk.told g.E.Disk.fault_count g.E.Disk.moment (g.K.Sink.held r.new.sink) (g.K.Sink.faults r.new.sink)
    r.result.primary r.result.standby) in
    subst (λ (n : ℕ). (n ≡ 0) ⊎ (n ≡ 7)) (sym c.number_of.ensures)
    (complete_from (map (λ w. string_bytes w) c.args.words.now) r.result.account.answers _ _ v w meets is is' sink primary
    standby r.result.ending (λ three. source (r.ensures.read.rose (ap (λ (n : ℕ). n == 3) three))) r.ensures.ends)
