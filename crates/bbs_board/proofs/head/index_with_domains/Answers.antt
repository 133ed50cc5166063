use Rattle.std.proofs.Common.{◌≡◌, ◌∙◌, List, map, sym, ap, subst}
use Rattle.lrp_records.specs.declared.actual.Actual.{Actual}
use Rattle.bbs_model.specs.Valid.{IsValid}
use Rattle.bbs_model.specs.declared.rows.Rows.{Rows}
use Rattle.bbs_board.specs.Opening.{with_domain, with_domains}
use Rattle.bbs_board.proofs.Settling.{IsValid-with_domains, ok_as}
use Rattle.bbs_board.proofs.head.index_with_domains.Goals as goal

pub of-requires-2 : goal.of-requires-2
of-requires-2 c =
    let rows = c.args.rows in
    let are : c.from.result ≡ map (with_domain rows) rows.actual =
    c.from.ensures ∙ c.in_ok-actual.ensures ∙ ap (λ (r : Rows). map (with_domain r) c.items.result.now)
    c.in_ok-index.ensures ∙ ap (map (with_domain rows)) c.items.ensures in
    let whole : record rows { actual = c.from.result } ≡ with_domains rows =
    ap (λ (l : List Actual). record rows { actual = l }) are in
    subst IsValid (sym whole) (IsValid-with_domains rows c.requires)

pub returns-clause-rows : goal.returns-clause-rows
returns-clause-rows c =
    let rows = c.args.rows in
    let are : c.from.result ≡ map (with_domain rows) rows.actual =
    c.from.ensures ∙ c.in_ok-actual.ensures ∙ ap (λ (r : Rows). map (with_domain r) c.items.result.now)
    c.in_ok-index.ensures ∙ ap (map (with_domain rows)) c.items.ensures in
    ok_as c.of-2.result _ _ (λ index same. same ∙ ap (λ (l : List Actual). record rows { actual = l }) are)
    c.of-2.ensures

pub returns-clause-valid : goal.returns-clause-valid
returns-clause-valid c =
    let rows = c.args.rows in
    let are : c.from.result ≡ map (with_domain rows) rows.actual =
    c.from.ensures ∙ c.in_ok-actual.ensures ∙ ap (λ (r : Rows). map (with_domain r) c.items.result.now)
    c.in_ok-index.ensures ∙ ap (map (with_domain rows)) c.items.ensures in
    ok_as c.of-2.result _ _
    (λ index same. subst IsValid (sym (same ∙ ap (λ (l : List Actual). record rows { actual = l }) are))
    (IsValid-with_domains rows c.requires)) c.of-2.ensures
