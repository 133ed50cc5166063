use Rattle.std.proofs.Common.{◌≡◌, ltb, ap, ◌∙◌, arith, rules}
use Rattle.std.proofs.lemmas.List.Sorted.{IsPartitionPoint-from_clause, IsPartitionedBy-ltb}
use Rattle.scenario_lines.specs.declared.script.Line.{Line}
use Rattle.phase_text.proofs.Finding.{falls_nowhere, found_read, point_is_there}
use Rattle.phase_text.proofs.answering.line_of.Goals as goal

pub bounds-lines-at : goal.bounds-lines-at
bounds-lines-at c =
    let lines = c.args.lines.now in
    let n = c.args.answered.now.line in
    let inside = c.requires.answer.among in
    let parted = IsPartitionedBy-ltb (λ (l : Line). l.line) lines n
    (falls_nowhere (λ (l : Line). l.line) lines c.requires.rising) in
    let point = IsPartitionPoint-from_clause (λ (l : Line). ltb l.line n) lines c.partition_point-at.result
    c.partition_point-at.ensures.partitioned parted (λ a r q k. search rules) in
    let here : c.partition_point-at.result ≡ inside.0 = point_is_there
    (λ (l : Line). l.line) n lines c.requires.rising c.partition_point-at.result point inside.0 inside.1
    c.requires.answer.line (ap (λ (l : Line). l.line) inside.2 ∙ c.requires.answer.number) in
    omega arith

pub returns : goal.returns
returns c =
    let lines = c.args.lines.now in
    let n = c.args.answered.now.line in
    let inside = c.requires.answer.among in
    let parted = IsPartitionedBy-ltb (λ (l : Line). l.line) lines n
    (falls_nowhere (λ (l : Line). l.line) lines c.requires.rising) in
    let point = IsPartitionPoint-from_clause (λ (l : Line). ltb l.line n) lines c.partition_point-at.result
    c.partition_point-at.ensures.partitioned parted (λ a r q k. search rules) in
    found_read (λ (l : Line). l.line) n lines c.requires.rising c.partition_point-at.result point inside.0 inside.1
    c.requires.answer.line (ap (λ (l : Line). l.line) inside.2 ∙ c.requires.answer.number) c.index-lines-at.result
    c.index-lines-at.is
