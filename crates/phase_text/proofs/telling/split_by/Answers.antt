use Rattle.std.proofs.Common.{ltb, sym, ◌∙◌, rules}
use Rattle.std.proofs.lemmas.List.Sorted.{IsPartitionPoint-from_clause, IsPartitionedBy-ltb}
use Rattle.scenario_lines.specs.declared.answered.Answered.{Answered}
use Rattle.phase_text.proofs.Splitting.{kept_is_front, left_is_back}
use Rattle.phase_text.proofs.telling.split_by.Goals as goal

pub returns-clause-before : goal.returns-clause-before
returns-clause-before c =
    let answers = c.args.answers.now in
    let n = c.args.number in
    let parted = IsPartitionedBy-ltb (λ (a : Answered). a.line) answers n c.requires in
    let point = IsPartitionPoint-from_clause (λ (a : Answered). ltb a.line n) answers c.partition_point-split.result
    c.partition_point-split.ensures.partitioned parted (λ a r q k. search rules) in
    c.split_at.ensures.front ∙ sym (kept_is_front (λ (a : Answered). ltb a.line n) answers
    c.partition_point-split.result point)

pub returns-clause-behind : goal.returns-clause-behind
returns-clause-behind c =
    let answers = c.args.answers.now in
    let n = c.args.number in
    let parted = IsPartitionedBy-ltb (λ (a : Answered). a.line) answers n c.requires in
    let point = IsPartitionPoint-from_clause (λ (a : Answered). ltb a.line n) answers c.partition_point-split.result
    c.partition_point-split.ensures.partitioned parted (λ a r q k. search rules) in
    c.split_at.ensures.back ∙ sym (left_is_back (λ (a : Answered). ltb a.line n) answers c.partition_point-split.result
    point)
