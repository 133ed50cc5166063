-- What placing a job leaves of the cells.
use Rattle.std.proofs.Common.{◌≡◌, ◌≢◌, ℕ, zero, suc, ◌<◌, ◌≤◌, true, false, cond, List, [], ◌∷◌, length, set, get_or, refl, sym, ap, subst, ◌∙◌, arith}
use Rattle.std.specs.Cmp.{tied_itself}
use Rattle.std.specs.List.{All, AllPairs}
use Rattle.std.specs.declared.cmp.Ordering.TheVariants.{Less, Equal}
use Rattle.std.proofs.lemmas.Bool.{and_parts, ltb-true, leb-true}
use Rattle.std.proofs.lemmas.Bool.Decides.{Decides-eqb}
use Rattle.std.proofs.lemmas.List.{length-append, length-set}
use Rattle.std.proofs.lemmas.List.Elements.{All-head, All-tail, All-set}
use Rattle.std.proofs.lemmas.Slice.Eq.{slice_eq-Decides}
use Rattle.row_tables.specs.Table.{IsRising}
use Rattle.row_tables.proofs.Public.{All-above, below_rest, IsRising-tail, IsRising-from_pairs}
use Rattle.diego_names.specs.Order.{name_order}
use Rattle.diego_names.proofs.Public.{IsKeyOrder-name_order}
use Rattle.cell_records.specs.declared.job.Job.{Job}
use Rattle.auctioneer.specs.Asked.{IsSoundStand, AreStands}
use Rattle.auctioneer.specs.Stands.{same_name, can_take, with_job, placed}
use Rattle.auctioneer.specs.declared.stand.Stand.{Stand}

-- the test of names says whether they are one
pub same_from_test : (a b : List ℕ) → same_name a b ≡ true → a ≡ b
same_from_test a b e = (slice_eq-Decides Decides-eqb a b (same_name a b) refl).0 e

pub test_from_same : (a b : List ℕ) → a ≡ b → same_name a b ≡ true
test_from_same a b e = (slice_eq-Decides Decides-eqb a b (same_name a b) refl).1 e

pub other_from_test : (a b : List ℕ) → a ≢ b → same_name a b ≡ false
other_from_test a b apart =
    elim (same_name a b) as (λ t. same_name a b ≡ t → t ≡ false)
    [ true ↦ λ e. absurd (apart (same_from_test a b e)) | false ↦ λ e. refl ] refl

-- a name below another is another
pub below_is_other : (a b : List ℕ) → name_order a b ≡ Less → a ≢ b
below_is_other a b less e =
    let tie : name_order a b ≡ Equal = subst (λ c. name_order a c ≡ Equal) e
    (tied_itself IsKeyOrder-name_order.total a) in
    cc

-- where no cell has the name, nothing changes
placed-none : (job : Job) (cell : List ℕ) (ss : List Stand) → All (λ s. same_name s.cell cell ≡ false) ss
    → placed job cell ss ≡ ss
placed-none job cell [] h = refl
placed-none job cell (s ∷ ss) h =
    ap (λ b. cond b (with_job job s) s ∷ placed job cell ss) (All-head (λ s. same_name s.cell cell ≡ false) s ss h)
    ∙ ap (λ xs. s ∷ xs) (placed-none job cell ss (All-tail (λ s. same_name s.cell cell ≡ false) s ss h))

-- of cells in the order of their names, one place changes
pub placed-set : (job : Job) (ss : List Stand) (at : ℕ) (s : Stand) → IsRising name_order (λ s. s.cell) ss
    → at < length ss → s ≡ get_or ss at s → set ss at (with_job job s) ≡ placed job s.cell ss
placed-set job [] at s h below is = absurd (omega arith)
placed-set job (y ∷ ys) zero s h below is =
    let above : All (λ z. name_order y.cell z.cell ≡ Less) ys =
    All-above name_order (λ s. s.cell) y.cell ys (below_rest name_order (λ s. s.cell) y ys h) in
    let others : All (λ z. same_name z.cell s.cell ≡ false) ys =
    λ k d lt. other_from_test (get_or ys k d).cell s.cell
    (λ e. below_is_other y.cell (get_or ys k d).cell (above k d lt) (ap (λ (x : Stand). x.cell) (sym is) ∙ sym e))
    in
    let here : same_name y.cell s.cell ≡ true = test_from_same y.cell s.cell (ap (λ (x : Stand). x.cell) (sym is)) in
    ap (λ (x : Stand). with_job job x ∷ ys) is ∙ ap (λ xs. with_job job y ∷ xs) (sym (placed-none job s.cell ys others))
    ∙ ap (λ b. cond b (with_job job y) y ∷ placed job s.cell ys) (sym here)
placed-set job (y ∷ ys) (suc i) s h below is =
    let above : All (λ z. name_order y.cell z.cell ≡ Less) ys =
    All-above name_order (λ s. s.cell) y.cell ys (below_rest name_order (λ s. s.cell) y ys h) in
    let apart : y.cell ≢ s.cell = λ e. below_is_other y.cell (get_or ys i s).cell (above i s (omega arith))
    (e ∙ ap (λ (x : Stand). x.cell) is) in
    ap (λ xs. y ∷ xs) (placed-set job ys i s (IsRising-tail name_order (λ s. s.cell) y ys h) (omega arith) is)
    ∙ ap (λ b. cond b (with_job job y) y ∷ placed job s.cell ys) (sym (other_from_test y.cell s.cell apart))

-- what a cell that fits has free
pub record HasRoom (job : Job) (s : Stand) : Type 0 where
  pub memory : job.memory ≤ s.free.memory
  pub disk : job.disk ≤ s.free.disk
  pub slot : 0 < s.free.containers

pub HasRoom-can_take : (job : Job) (s : Stand) → can_take job s ≡ true → HasRoom job s
HasRoom-can_take job s e =
    let first = and_parts _ _ e in
    let second = and_parts _ _ first.1 in
    let third = and_parts _ _ second.1 in
    record {
      memory = leb-true job.memory s.free.memory second.0;
      disk = leb-true job.disk s.free.disk third.0;
      slot = ltb-true 0 s.free.containers third.1;
    }

pub IsSound-with_job : (job : Job) (s : Stand) → HasRoom job s → IsSoundStand s → IsSoundStand (with_job job s)
IsSound-with_job job s room sound = record {
  within = record {
    memory = omega (arith, sound.within.memory);
    disk = omega (arith, sound.within.disk);
    containers = omega (arith, sound.within.containers);
  };
  few = simp length-append (omega (arith, room.slot, sound.few));
}

-- each name is below those after it
pub pairs-from_rising : (ss : List Stand) → IsRising name_order (λ s. s.cell) ss
    → AllPairs (λ a b. name_order a.cell b.cell ≡ Less) ss
pairs-from_rising [] h i j d lt below = absurd (omega arith)
pairs-from_rising (s ∷ ss) h zero zero d lt below = absurd (omega arith)
pairs-from_rising (s ∷ ss) h zero (suc j) d lt below =
    All-above name_order (λ s. s.cell) s.cell ss (below_rest name_order (λ s. s.cell) s ss h) j d (omega arith)
pairs-from_rising (s ∷ ss) h (suc i) zero d lt below = absurd (omega arith)
pairs-from_rising (s ∷ ss) h (suc i) (suc j) d lt below =
    pairs-from_rising ss (IsRising-tail name_order (λ s. s.cell) s ss h) i j d (omega arith) (omega arith)

-- a change at one place that keeps the name keeps all names
names-set : (ss : List Stand) (at : ℕ) (s : Stand) → s.cell ≡ (get_or ss at s).cell → (k : ℕ) (d : Stand)
    → (get_or (set ss at s) k d).cell ≡ (get_or ss k d).cell
names-set [] at s e k d = refl
names-set (y ∷ ys) zero s e zero d = e
names-set (y ∷ ys) zero s e (suc k) d = refl
names-set (y ∷ ys) (suc i) s e zero d = refl
names-set (y ∷ ys) (suc i) s e (suc k) d = names-set ys i s e k d

pub AreStands-set : (ss : List Stand) (at : ℕ) (s : Stand) → s.cell ≡ (get_or ss at s).cell → IsSoundStand s
    → AreStands ss → AreStands (set ss at s)
AreStands-set ss at s e sound h = record {
  few = simp length-set h.few;
  rising =
      let before = pairs-from_rising ss h.rising in
      IsRising-from_pairs name_order (λ s. s.cell) (set ss at s) (λ i j d lt below.
      rw (names-set ss at s e i d, names-set ss at s e j d) (before i j d lt (simp length-set at below)));
  each = All-set IsSoundStand ss at s sound h.each;
}
