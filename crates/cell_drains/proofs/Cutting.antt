-- How cells are cut into batches.
use Rattle.std.proofs.Common.{◌≡◌, ℕ, ◌<◌, Bool, true, false, cond, ◌&&◌, List, [], ◌∷◌, ◌++◌, length, map, refl, sym, ap, ◌∙◌, arith}
use Rattle.std.specs.List.{All, Contains, flat_map}
use Rattle.std.specs.Option.{option_eq}
use Rattle.std.proofs.Math.Nat.{le-max_left, le-max_right}
use Rattle.std.proofs.lemmas.Bool.{and_parts, ltb-true}
use Rattle.std.proofs.lemmas.List.{append_assoc, length_push}
use Rattle.std.proofs.lemmas.List.Concat.{flat_map-cons}
use Rattle.std.proofs.lemmas.List.Elements.{All-cons, All-contains_itself, All-head, All-nil, All-push, All-tail}
use Rattle.auctioneer.specs.Stands.{same_name}
use Rattle.what_if.proofs.Names.{name_from_test, tag_from_test}
use Rattle.cell_drains.specs.Batches.{batches, batches_from, begun_with, joined_by, takes}
use Rattle.cell_drains.specs.Laws.{BatchesAreOfOneKind, IsBatch}
use Rattle.cell_drains.specs.declared.batches.Batch.{Batch}
use Rattle.cell_drains.specs.declared.seats.Seat.{Seat}

-- one cell more joins the batch
pub cut_joined : (most : ℕ) (done : List Batch) (batch : Batch) (s : Seat) (rest : List Seat)
    → takes most batch s ≡ true → done ++ batches_from most (joined_by batch s) rest ≡ done
    ++ batches_from most batch (s ∷ rest)
cut_joined most done batch s rest e =
    ap (λ (b : Bool). done ++ cond b (batches_from most (joined_by batch s) rest)
    (batch ∷ batches_from most (begun_with s) rest)) (sym e)

-- or begins another
pub cut_begun : (most : ℕ) (done : List Batch) (batch : Batch) (s : Seat) (rest : List Seat)
    → takes most batch s ≡ false → (done ++ batch ∷ []) ++ batches_from most (begun_with s) rest ≡ done
    ++ batches_from most batch (s ∷ rest)
cut_begun most done batch s rest e =
    append_assoc done (batch ∷ []) (batches_from most (begun_with s) rest)
    ∙ ap (λ (b : Bool). done ++ cond b (batches_from most (joined_by batch s) rest)
    (batch ∷ batches_from most (begun_with s) rest)) (sym e)

-- the batches are all the cells, one after another
-- the names of cells
abbrev names : List Seat → List (List ℕ)
names ss = map (λ (s : Seat). s.cell) ss

abbrev cells_of : List Batch → List (List ℕ)
cells_of bs = flat_map (λ (b : Batch). b.cells) bs

all_from : (most : ℕ) (batch : Batch) (ss : List Seat) → cells_of (batches_from most batch ss) ≡ batch.cells ++ names ss
all_from most batch [] = flat_map-cons (λ (b : Batch). b.cells) batch []
all_from most batch (s ∷ ss) =
    elim (takes most batch s) as (λ b. cells_of (cond b (batches_from most (joined_by batch s) ss)
    (batch ∷ batches_from most (begun_with s) ss)) ≡ batch.cells ++ s.cell ∷ names ss) [
      | true ↦ all_from most (joined_by batch s) ss ∙ append_assoc batch.cells (s.cell ∷ []) (names ss)
      | false ↦
          flat_map-cons (λ (b : Batch). b.cells) batch (batches_from most (begun_with s) ss)
          ∙ ap (λ (ns : List (List ℕ)). batch.cells ++ ns) (all_from most (begun_with s) ss)
    ]

module _ (most : ℕ) (cells : List Seat) where
  -- a cell is one of these, of that zone and tag
  abbrev IsOf : Batch → List ℕ → Type 0
  IsOf b name = (s : Seat) × Contains cells s × (s.cell ≡ name) × (s.zone ≡ b.zone) × (s.tag ≡ b.tag)

  begun : (s : Seat) → Contains cells s → IsBatch most cells (begun_with s)
  begun s inside = record {
    some = omega arith;
    few = le-max_left 1 most;
    alike = All-cons (IsOf (begun_with s)) s.cell [] (s, inside, refl, refl, refl) (All-nil (IsOf (begun_with s)));
  }

  joined : (b : Batch) (s : Seat) → Contains cells s → takes most b s ≡ true → IsBatch most cells b
      → IsBatch most cells (joined_by b s)
  joined b s inside e h =
      let parts = and_parts _ (same_name b.zone s.zone && option_eq same_name b.tag s.tag) e in
      let names = and_parts (same_name b.zone s.zone) (option_eq same_name b.tag s.tag) parts.1 in
      let room : length b.cells < most = ltb-true (length b.cells) most parts.0 in
      record {
        some = omega (arith, length_push b.cells s.cell);
        few = omega (arith, length_push b.cells s.cell, room, le-max_right 1 most);
        alike = All-push (IsOf b) b.cells s.cell h.alike (
          s,
          inside,
          refl,
          sym (name_from_test b.zone s.zone names.0),
          sym (tag_from_test b.tag s.tag names.1),
        );
      }

  each_from : (b : Batch) (ss : List Seat) → IsBatch most cells b → All (Contains cells) ss
      → All (IsBatch most cells) (batches_from most b ss)
  each_from b [] h inside = All-cons (IsBatch most cells) b [] h (All-nil (IsBatch most cells))
  each_from b (s ∷ ss) h inside =
      let here = All-head (Contains cells) s ss inside in
      let rest = All-tail (Contains cells) s ss inside in
      elim (takes most b s) as (λ t. takes most b s ≡ t → All (IsBatch most cells)
      (cond t (batches_from most (joined_by b s) ss) (b ∷ batches_from most (begun_with s) ss))) [
        | true ↦ λ e. each_from (joined_by b s) ss (joined b s here e h) rest
        | false ↦ λ e. All-cons (IsBatch most cells) b (batches_from most (begun_with s) ss) h
            (each_from (begun_with s) ss (begun s here) rest)
      ] refl

  each_of : (ss : List Seat) → All (Contains cells) ss → All (IsBatch most cells) (batches most ss)
  each_of [] inside = All-nil (IsBatch most cells)
  each_of (s ∷ ss) inside = each_from (begun_with s) ss (begun s (All-head (Contains cells) s ss inside))
      (All-tail (Contains cells) s ss inside)

pub all_cells : (most : ℕ) (ss : List Seat) → cells_of (batches most ss) ≡ names ss
all_cells most [] = refl
all_cells most (s ∷ ss) = all_from most (begun_with s) ss

pub batches_are_of_one_kind : BatchesAreOfOneKind
batches_are_of_one_kind most cells = record {
  each = each_of most cells cells (All-contains_itself cells);
  all = all_cells most cells;
}
