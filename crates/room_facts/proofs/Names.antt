-- Tests of names and tags, and cells of which no two have one name.
use Rattle.std.proofs.Common.{◌≡◌, ◌≢◌, ℕ, Bool, true, false, cond, List, [], ◌∷◌, map, Option, Some, None, refl, ap, subst}
use Rattle.std.specs.Cmp.{tied_itself}
use Rattle.std.specs.Option.{option_eq}
use Rattle.std.specs.declared.cmp.Ordering.TheVariants.{Less, Equal}
use Rattle.std.proofs.lemmas.Bool.{false_from_ne_true}
use Rattle.std.proofs.lemmas.Bool.Decides.{Decides-eqb}
use Rattle.std.proofs.lemmas.List.Elements.{All-map, All-weaker}
use Rattle.std.proofs.lemmas.Slice.Eq.{slice_eq-Decides}
use Rattle.row_tables.specs.Table.{IsRising}
use Rattle.row_tables.proofs.Public.{All-above, below_rest, IsRising-tail}
use Rattle.diego_names.specs.Order.{name_order}
use Rattle.diego_names.proofs.Public.{IsKeyOrder-name_order}
use Rattle.cell_records.specs.declared.job.Job.{Job}
use Rattle.auctioneer.specs.Stands.{same_name, with_job, placed}
use Rattle.auctioneer.specs.declared.stand.Stand.{Stand}
use Rattle.room_facts.proofs.Lists.{Apart}

-- the tests of names and of tags say whether two are one
pub same_from_test : (a b : List ℕ) → same_name a b ≡ true → a ≡ b
same_from_test a b e = (slice_eq-Decides Decides-eqb a b (same_name a b) refl).0 e

pub test_from_same : (a b : List ℕ) → a ≡ b → same_name a b ≡ true
test_from_same a b e = (slice_eq-Decides Decides-eqb a b (same_name a b) refl).1 e

pub other_from_test : (a b : List ℕ) → a ≢ b → same_name a b ≡ false
other_from_test a b apart = false_from_ne_true (same_name a b) (λ e. apart (same_from_test a b e))

pub same_tag : (a b : Option (List ℕ)) → option_eq same_name a b ≡ true → a ≡ b
same_tag None None e = refl
same_tag None (Some y) e = cc
same_tag (Some x) None e = cc
same_tag (Some x) (Some y) e = ap Some (same_from_test x y e)

tag_itself : (a : Option (List ℕ)) → option_eq same_name a a ≡ true
tag_itself None = refl
tag_itself (Some x) = test_from_same x x refl

pub test_from_tag : (a b : Option (List ℕ)) → a ≡ b → option_eq same_name a b ≡ true
test_from_tag a b e = subst (λ c. option_eq same_name a c ≡ true) e (tag_itself a)

below_is_other : (a b : List ℕ) → name_order a b ≡ Less → a ≢ b
below_is_other a b less e =
    let tie : name_order a b ≡ Equal = subst (λ c. name_order a c ≡ Equal) e
    (tied_itself IsKeyOrder-name_order.total a) in
    cc

-- cells in the order of their names have other names
pub Apart-from_rising : (ss : List Stand) → IsRising name_order (λ s. s.cell) ss
    → Apart (map (λ (s : Stand). s.cell) ss)
Apart-from_rising [] h = tt
Apart-from_rising (s ∷ ss) h = (
  All-map (λ n. s.cell ≢ n) (λ (t : Stand). t.cell) ss
      (All-weaker (λ (t : Stand). name_order s.cell t.cell ≡ Less) (λ (t : Stand). s.cell ≢ t.cell)
      (λ t. below_is_other s.cell t.cell) ss
      (All-above name_order (λ s. s.cell) s.cell ss (below_rest name_order (λ s. s.cell) s ss h))),
  Apart-from_rising ss (IsRising-tail name_order (λ s. s.cell) s ss h),
)

-- a placed job changes no name and no tag
pub name_kept : (b : Bool) (job : Job) (s : Stand) → (cond b (with_job job s) s).cell ≡ s.cell
name_kept true job s = refl
name_kept false job s = refl

pub tag_kept : (b : Bool) (job : Job) (s : Stand) → (cond b (with_job job s) s).tag ≡ s.tag
tag_kept true job s = refl
tag_kept false job s = refl

pub names_kept : (job : Job) (cell : List ℕ) (ss : List Stand)
    → map (λ (s : Stand). s.cell) (placed job cell ss) ≡ map (λ (s : Stand). s.cell) ss
names_kept job cell [] = refl
names_kept job cell (s ∷ ss) = λ i. name_kept (same_name s.cell cell) job s i ∷ names_kept job cell ss i
