-- The cells that a round places on are the open ones of the site.
use Rattle.std.proofs.Common.{◌≡◌, ℕ, Bool, true, false, cond, not, ◌&&◌, List, [], ◌∷◌, filter, filter_map, Some, None, refl}
use Rattle.std.specs.List.{AllZip, cons_option}
use Rattle.bbs_model.specs.declared.rows.Rows.{Rows}
use Rattle.cell_records.specs.declared.answer.Answer.{Answer}
use Rattle.converge_laws.proofs.Public.{from_filter, inside_filter}
use Rattle.converge_round.specs.Places.{is_being_emptied}
use Rattle.diego_names.specs.declared.instance.Instance.{Instance}
use Rattle.round_completeness.specs.Left.{left_open, less_all}
use Rattle.what_if.specs.Stays.{is_lost, is_open, open_cells}
use Rattle.what_if.specs.declared.site.Site.{Site}
use Rattle.forecast_laws.specs.Plans.{HaveTheSame, IsReadAs}
use Rattle.forecast_laws.specs.Records.{AreAnswersOf, IsAnswered}

pub both_true : (a b : Bool) → (a && b) ≡ true → (a ≡ true) × (b ≡ true)
both_true true b e = (refl, e)
both_true false b e = absurd cc

-- whether the cell is not being emptied
abbrev pub stays_in : Answer → Bool
stays_in c = not c.evacuating

-- one cell more, which both leave out or neither does
one_left : (gone : List (List ℕ × Instance)) (c x : Answer) (cs xs : List Answer) (e b : Bool) → b ≡ e
    → IsReadAs c (less_all gone x) → AllZip IsReadAs cs xs
    → AllZip IsReadAs (cond (not e) (c ∷ cs) cs) (cons_option (cond b None (Some (less_all gone x))) xs)
one_left gone c x cs xs true true same alike rest = rest
one_left gone c x cs xs false false same alike rest = (alike, rest)
one_left gone c x cs xs true false same alike rest = absurd cc
one_left gone c x cs xs false true same alike rest = absurd cc

-- of cells with their answers those stay that aren't being emptied, with what is left of the answers
pub left_alike : (rows : Rows) (gone : List (List ℕ × Instance)) (cs got : List Answer)
    → AllZip (IsAnswered rows gone) cs got
    → AllZip IsReadAs (filter stays_in cs) (filter_map (left_open rows gone) got)
left_alike rows gone [] [] h = tt
left_alike rows gone [] (x ∷ got) h = absurd h
left_alike rows gone (c ∷ cs) [] h = absurd h
left_alike rows gone (c ∷ cs) (x ∷ got) h =
    one_left gone c x (filter stays_in cs) (filter_map (left_open rows gone) got) c.evacuating
    (is_being_emptied rows x.cell) h.0.emptied h.0.alike
    (left_alike rows gone cs got h.1)

-- and these are the open ones
pub open_same : (site : Site) (lost : List (List ℕ)) (rows : Rows) (gone : List (List ℕ × Instance)) (got : List Answer)
    (are : AreAnswersOf site lost rows gone got)
    → HaveTheSame (open_cells site lost) (filter stays_in are.cells)
open_same site lost rows gone got are = record {
  there = λ c inside.
      let f = from_filter (is_open lost) site.cells c inside in
      let both = both_true (not (is_lost lost c.cell)) (not c.evacuating) f.1 in
      inside_filter stays_in are.cells c (are.kept_are.there c
      (inside_filter (λ x. not (is_lost lost x.cell)) site.cells c f.0 both.0)) both.1;
  back = λ c inside.
      let f = from_filter stays_in are.cells c inside in
      let g = from_filter (λ x. not (is_lost lost x.cell)) site.cells c (are.kept_are.back c f.0) in
      inside_filter (is_open lost) site.cells c g.0 (λ i. g.1 i && f.1 i);
}
