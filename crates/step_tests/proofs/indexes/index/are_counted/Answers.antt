use Rattle.std.proofs.Common.{◌≡◌, [], ◌∷◌, sym, subst, ◌∙◌}
use Rattle.bbs_model.specs.Tables.{no_rows, put_desired, without_desired}
use Rattle.bbs_model.specs.Valid.{IsValid}
use Rattle.bbs_model.specs.declared.rows.Rows.{Rows}
use Rattle.step_tests.proofs.RoundBoard.{web, wants, desired_alone, desired_one, desired_none}
use Rattle.step_tests.proofs.indexes.index.are_counted.Goals as goal

-- the board of one process that wants one instance
alone : Rows
alone = record no_rows { desired = wants web web 1 ∷ [] }

pub counts-counts-requires : goal.counts-counts-requires
unfolding alone
counts-counts-requires g c =
    let name : c.in_ok-web.web ≡ web = c.in_ok-web.ensures.name.1 in
    let start : c.reserve.new.self.rows ≡ no_rows = c.in_ok-reserve.ensures.state ∙ c.requires in
    let three : c.desired.result ≡ wants web web 3 = c.desired.ensures ∙ (λ i. wants (name i) (name i) 3) in
    let one : c.desired-2.result ≡ wants web web 1 = c.desired-2.ensures ∙ (λ i. wants (name i) (name i) 1) in
    let first : c.put_desired.new.self.rows ≡ put_desired no_rows (wants web web 3) =
    c.put_desired.ensures.state ∙ (λ i. put_desired (start i) (three i)) in
    let second : c.put_desired-2.new.self.rows ≡ alone = c.put_desired-2.ensures.state ∙
    (λ i. put_desired (first i) (one i)) in
    subst IsValid (sym second) (desired_alone (wants web web 1 ∷ []) (desired_one web web))

pub counts-counts-requires-2 : goal.counts-counts-requires-2
unfolding alone
counts-counts-requires-2 g c =
    let name : c.in_ok-web.web ≡ web = c.in_ok-web.ensures.name.1 in
    let start : c.reserve.new.self.rows ≡ no_rows = c.in_ok-reserve.ensures.state ∙ c.requires in
    let three : c.desired.result ≡ wants web web 3 = c.desired.ensures ∙ (λ i. wants (name i) (name i) 3) in
    let one : c.desired-2.result ≡ wants web web 1 = c.desired-2.ensures ∙ (λ i. wants (name i) (name i) 1) in
    let first : c.put_desired.new.self.rows ≡ put_desired no_rows (wants web web 3) =
    c.put_desired.ensures.state ∙ (λ i. put_desired (start i) (three i)) in
    let second : c.put_desired-2.new.self.rows ≡ alone = c.put_desired-2.ensures.state ∙
    (λ i. put_desired (first i) (one i)) in
    let third : c.remove_desired.new.self.rows ≡ no_rows =
    c.remove_desired.ensures.state ∙ (λ i. without_desired (second i) (name i)) in
    subst IsValid (sym third) (desired_alone [] desired_none)
