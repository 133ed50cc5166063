-- A drain is a chain of plans.
use Rattle.std.proofs.Common.{◌≡◌, ℕ, zero, suc, ◌+◌, List, [], ◌∷◌, length, take, Some, refl, ap, ◌∙◌, arith}
use Rattle.std.specs.List.{slice_get}
use Rattle.what_if.specs.Plans.{planned}
use Rattle.what_if.specs.declared.site.Site.{Site}
use Rattle.cell_drains.specs.Drains.{site_then, step_from, steps_from}
use Rattle.cell_drains.specs.Laws.{DrainsAreChains}
use Rattle.cell_drains.specs.Steps.{after_step}
use Rattle.cell_drains.specs.declared.batches.Batch.{Batch}

as_many : (number : ℕ) (site : Site) (bs : List Batch) → length (steps_from number site bs) ≡ length bs
as_many number site [] = refl
as_many number site (b ∷ bs) = ap suc (as_many (number + 1) (after_step site b.cells) bs)

inside : (x b : Batch) → Some x ≡ Some b → x ≡ b
inside x b e = cc

here : (number : ℕ) → number ≡ zero + number
here number = omega arith

further : (n number : ℕ) → n + (number + 1) ≡ suc n + number
further n number = omega arith

-- the step of a batch, where steps are counted from that number
step_at : (number : ℕ) (site : Site) (bs : List Batch) (n : ℕ) (b : Batch) → slice_get bs n ≡ Some b
    → slice_get (steps_from number site bs) n ≡ Some (step_from (n + number) b
    (planned (site_then site (take n bs)) b.cells))
step_at number site [] n b e = cc
step_at number site (x ∷ xs) zero b e =
    ap (λ (y : Batch). Some (step_from number y (planned site y.cells))) (inside x b e)
    ∙ ap (λ (m : ℕ). Some (step_from m b (planned site b.cells))) (here number)
step_at number site (x ∷ xs) (suc n) b e =
    step_at (number + 1) (after_step site x.cells) xs n b e
    ∙ ap (λ (m : ℕ). Some (step_from m b (planned (site_then (after_step site x.cells) (take n xs)) b.cells)))
    (further n number)

site_at : (site : Site) (bs : List Batch) (n : ℕ) (b : Batch) → slice_get bs n ≡ Some b
    → site_then site (take (suc n) bs) ≡ after_step (site_then site (take n bs)) b.cells
site_at site [] n b e = cc
site_at site (x ∷ xs) zero b e = ap (λ (y : Batch). after_step site y.cells) (inside x b e)
site_at site (x ∷ xs) (suc n) b e = site_at (after_step site x.cells) xs n b e

behind : (n : ℕ) → n + 1 ≡ suc n
behind n = omega arith

pub drains_are_chains : DrainsAreChains
drains_are_chains site bs = record {
  as_many = as_many 1 site bs;
  each = λ n b e. record {
    step = step_at 1 site bs n b e;
    next = ap (λ (m : ℕ). site_then site (take m bs)) (behind n) ∙ site_at site bs n b e;
  };
}
