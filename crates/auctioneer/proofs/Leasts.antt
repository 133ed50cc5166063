-- The best of the cells is the least, and only one is.
use Rattle.std.proofs.Common.{◌≡◌, zero, suc, true, false, cond, List, [], ◌∷◌, get_or, Option, Some, None, ◌⊎◌, inl, inr, refl, sym, ap, subst, ◌∙◌, arith}
use Rattle.std.specs.Cmp.{tied_itself, upto}
use Rattle.std.specs.List.{Contains}
use Rattle.std.specs.Ordering.{is_lt, is_gt, ordering_reverse}
use Rattle.std.specs.declared.cmp.Ordering.{Ordering}
use Rattle.std.specs.declared.cmp.Ordering.TheVariants.{Less, Equal, Greater}
use Rattle.std.proofs.lemmas.Bool.{cases_order}
use Rattle.std.proofs.lemmas.List.{get_or_read}
use Rattle.row_tables.specs.Table.{IsRising}
use Rattle.diego_names.specs.Order.{name_order}
use Rattle.cell_records.specs.declared.job.Job.{Job}
use Rattle.auction_scoring.specs.Order.{score_order, is_better}
use Rattle.auction_scoring.specs.declared.scores.Score.{Score}
use Rattle.auction_scoring.proofs.Public.{IsKeyOrder-score_order}
use Rattle.auctioneer.specs.Least.{IsLeastOrNone, better_one, best_in, best}
use Rattle.auctioneer.specs.Stands.{can_take, score_in}
use Rattle.auctioneer.specs.declared.stand.Stand.{Stand}
use Rattle.auctioneer.proofs.Placings.{below_is_other, pairs-from_rising}

turned_round : (o : Ordering) → is_lt (ordering_reverse o) ≡ is_gt o
turned_round Less = refl
turned_round Equal = refl
turned_round Greater = refl

-- the first is better where the second is worse
pub better_is_worse : (a b : Score) → is_better a b ≡ is_gt (score_order b a)
better_is_worse a b = ap is_lt (IsKeyOrder-score_order.total.antisymm a b) ∙ turned_round (score_order b a)

pub never_better_than_itself : (a : Score) → is_better a a ≡ false
never_better_than_itself a = ap is_lt (tied_itself IsKeyOrder-score_order.total a)

-- what is no better than one that is no better than a third is no better than the third
pub no_better_chain : (a b c : Score) → is_better a b ≡ false → is_better b c ≡ false → is_better a c ≡ false
no_better_chain a b c ab bc =
    better_is_worse a c
    ∙ upto IsKeyOrder-score_order.total c b a (sym (better_is_worse b c) ∙ bc) (sym (better_is_worse a b) ∙ ab)

not_both : (o : Ordering) → is_lt o ≡ true → is_lt (ordering_reverse o) ≡ false
not_both Less e = refl
not_both Equal e = refl
not_both Greater e = cc

pub better_is_no_worse : (a b : Score) → is_better a b ≡ true → is_better b a ≡ false
better_is_no_worse a b e = ap is_lt (IsKeyOrder-score_order.total.antisymm b a) ∙ not_both (score_order a b) e

neither : (o : Ordering) → is_lt o ≡ false → is_lt (ordering_reverse o) ≡ false → o ≡ Equal
neither Less e f = cc
neither Equal e f = refl
neither Greater e f = cc

-- scores of which none is better are one
pub same_score : (a b : Score) → is_better a b ≡ false → is_better b a ≡ false → a ≡ b
same_score a b ab ba =
    IsKeyOrder-score_order.exact a b
    (neither (score_order a b) ab (ap is_lt (sym (IsKeyOrder-score_order.total.antisymm b a)) ∙ ba))

-- an element of a list is its first, or one of the others
pub contains_cases : {X : Type 0} (x : X) (xs : List X) (y : X) → Contains (x ∷ xs) y → (x ≡ y) ⊎ Contains xs y
contains_cases x xs y (zero, lt, at) = inl at
contains_cases x xs y (suc k, lt, at) = inr (k, omega arith, at)

later : {X : Type 0} (x : X) (xs : List X) (y : X) → Contains xs y → Contains (x ∷ xs) y
later x xs y (k, lt, at) = (suc k, omega arith, at)

module _ (stands : List Stand) (job : Job) where
  -- the first cell and the others
  none_better : (s : Stand) (ss : List Stand) (a : Stand)
      → (can_take job s ≡ true → is_better (score_in stands job.job s) (score_in stands job.job a) ≡ false)
      → ((b : Stand) → Contains ss b → can_take job b ≡ true
      → is_better (score_in stands job.job b) (score_in stands job.job a) ≡ false) → (b : Stand) → Contains (s ∷ ss) b
      → can_take job b ≡ true → is_better (score_in stands job.job b) (score_in stands job.job a) ≡ false
  none_better s ss a first rest b inside =
      elim (contains_cases s ss b inside) [
        | (inl at) ↦ subst (λ (x : Stand). can_take job x ≡ true
            → is_better (score_in stands job.job x) (score_in stands job.job a) ≡ false) at first
        | (inr there) ↦ rest b there
      ]

  -- a cell that doesn't fit changes nothing
  skip : (s : Stand) (ss : List Stand) (o : Option Stand) → can_take job s ≡ false → IsLeastOrNone stands job ss o
      → IsLeastOrNone stands job (s ∷ ss) o
  skip s ss None unfit h = λ b inside.
      elim (contains_cases s ss b inside) [
        | (inl at) ↦ subst (λ (x : Stand). can_take job x ≡ false) at unfit
        | (inr there) ↦ h b there
      ]
  skip s ss (Some c) unfit h = record {
    inside = later s ss c h.inside;
    fits = h.fits;
    least = none_better s ss c (λ fits. cc) h.least;
  }

  -- a cell that fits is the least, or the least of the others is
  join : (s : Stand) (ss : List Stand) (o : Option Stand) → can_take job s ≡ true → IsLeastOrNone stands job ss o
      → IsLeastOrNone stands job (s ∷ ss) (better_one stands job s o)
  join s ss None fit h = record {
    inside = (0, omega arith, refl);
    fits = fit;
    least = none_better s ss s (λ fits. never_better_than_itself (score_in stands job.job s))
        (λ b there fits. let no : can_take job b ≡ false = h b there in cc);
  }
  join s ss (Some c) fit h =
      elim (is_better (score_in stands job.job c) (score_in stands job.job s)) as
      (λ t. is_better (score_in stands job.job c) (score_in stands job.job s) ≡ t
      → IsLeastOrNone stands job (s ∷ ss) (cond t (Some c) (Some s))) [
        | true ↦ λ e. record {
          inside = later s ss c h.inside;
          fits = h.fits;
          least = none_better s ss c (λ fits. better_is_no_worse (score_in stands job.job c)
              (score_in stands job.job s) e) h.least;
        }
        | false ↦ λ e. record {
          inside = (0, omega arith, refl);
          fits = fit;
          least = none_better s ss s (λ fits. never_better_than_itself (score_in stands job.job s))
              (λ b there fits. no_better_chain (score_in stands job.job b) (score_in stands job.job c)
              (score_in stands job.job s) (h.least b there fits) e);
        }
      ] refl

  -- the best of some cells is the least of them
  pub best_in-IsLeast : (ss : List Stand) → IsLeastOrNone stands job ss (best_in stands job ss)
  best_in-IsLeast [] = λ b h. absurd (omega (arith, h.1))
  best_in-IsLeast (s ∷ ss) =
      elim (can_take job s) as (λ t. can_take job s ≡ t → IsLeastOrNone stands job (s ∷ ss)
      (cond t (better_one stands job s (best_in stands job ss)) (best_in stands job ss))) [
        | true ↦ λ e. join s ss (best_in stands job ss) e (best_in-IsLeast ss)
        | false ↦ λ e. skip s ss (best_in stands job ss) e (best_in-IsLeast ss)
      ] refl

-- cells of one name are one
pub same_stand : (ss : List Stand) → IsRising name_order (λ s. s.cell) ss → (a b : Stand) → Contains ss a
    → Contains ss b → a.cell ≡ b.cell → a ≡ b
same_stand ss rising a b (i, hi, ai) (j, hj, bj) e =
    let pairs = pairs-from_rising ss rising in
    elim (cases_order i j) [
      | (inl same) ↦ get_or_read ss i a hi (sym ai) b ∙ ap (λ k. get_or ss k b) same ∙ bj
      | (inr (inl below)) ↦ absurd (below_is_other (get_or ss i a).cell (get_or ss j a).cell (pairs i j a below hj)
          (ap (λ (x : Stand). x.cell) ai ∙ e ∙ ap (λ (x : Stand). x.cell) (get_or_read ss j b hj (sym bj) a)))
      | (inr (inr above)) ↦ absurd (below_is_other (get_or ss j b).cell (get_or ss i b).cell (pairs j i b above hi)
          (ap (λ (x : Stand). x.cell) bj ∙ sym e ∙ ap (λ (x : Stand). x.cell) (get_or_read ss i a hi (sym ai) b)))
    ]

-- where names differ, what is least is the best
pub best-from_least : (stands : List Stand) (job : Job) (o : Option Stand) → IsRising name_order (λ s. s.cell) stands
    → IsLeastOrNone stands job stands o → best stands job ≡ o
best-from_least stands job o rising h = one (best_in stands job stands) o (best_in-IsLeast stands job stands) h
  where
    one : (p q : Option Stand) → IsLeastOrNone stands job stands p → IsLeastOrNone stands job stands q → p ≡ q
    one None None g h = refl
    one None (Some b) g h = let no : can_take job b ≡ false = g b h.inside in let yes : can_take job b ≡ true =
        h.fits in cc
    one (Some a) None g h = let no : can_take job a ≡ false = h a g.inside in let yes : can_take job a ≡ true =
        g.fits in cc
    one (Some a) (Some b) g h =
        let score : score_in stands job.job a ≡ score_in stands job.job b =
        same_score (score_in stands job.job a) (score_in stands job.job b) (h.least a g.inside g.fits)
        (g.least b h.inside h.fits) in
        ap Some (same_stand stands rising a b g.inside h.inside (ap (λ (k : Score). k.cell) score))
