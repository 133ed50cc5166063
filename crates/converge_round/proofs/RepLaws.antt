-- Reps that stay, and where they stand.
use Rattle.std.proofs.Common.{◌≡◌, ℕ, zero, suc, ◌<◌, List, [], ◌∷◌, length, get_or, set, refl, sym, ap, subst, ◌∙◌, arith, Option, Some, None}
use Rattle.std.specs.Prelude.{slice_get}
use Rattle.std.specs.Option.{option_map, option_map_or}
use Rattle.std.proofs.lemmas.List.{length-map}
use Rattle.std.proofs.lemmas.Option.{slice_get-map, slice_get-get_or, slice_get_within}
use Rattle.cell_rep.specs.Laws.{SameJoined}
use Rattle.cell_rep.specs.Ends.{without}
use Rattle.cell_rep.specs.declared.joined.Joined.{Joined}
use Rattle.cell_rep.proofs.Public.{keeps_stopped}
use Rattle.diego_names.specs.declared.instance.Instance.{Instance}
use Rattle.cell_rep.specs.declared.rep.CellRep.{CellRep}
use Rattle.converge_round.specs.Reps.{names_of, IsRepIndex, StandsFor, SameRep, KeepReps}
use Rattle.converge_round.specs.declared.rep_index.RepIndex.{RepIndex}

same_joined : (o : Option Joined) → SameJoined o o
same_joined None = tt
same_joined (Some j) = record { zone = refl; tag = refl; draining = refl; totals = refl; epoch = refl }

joined_then : (a b c : Option Joined) → SameJoined a b → SameJoined b c → SameJoined a c
joined_then None None c f g = g
joined_then None (Some k) c f g = absurd f
joined_then (Some j) None c f g = absurd f
joined_then (Some j) (Some k) None f g = absurd g
joined_then (Some j) (Some k) (Some l) f g = record {
  zone = g.zone ∙ f.zone;
  tag = g.tag ∙ f.tag;
  draining = g.draining ∙ f.draining;
  totals = g.totals ∙ f.totals;
  epoch = g.epoch ∙ f.epoch;
}

pub rep_same : (r : CellRep) → SameRep r r
rep_same r = record { cell = refl; joined = same_joined r.joined }

pub rep_as : (r q : CellRep) → q ≡ r → SameRep r q
rep_as r q e = subst (SameRep r) (sym e) (rep_same r)

pub rep_then : (a b c : CellRep) → SameRep a b → SameRep b c → SameRep a c
rep_then a b c f g = record {
  cell = g.cell ∙ f.cell;
  joined =
      joined_then a.joined b.joined c.joined f.joined g.joined;
}

pub keep-same : (rs : List CellRep) → KeepReps rs rs
keep-same [] = tt
keep-same (r ∷ rs) = (rep_same r, keep-same rs)

pub keep-as : (rs qs : List CellRep) → qs ≡ rs → KeepReps rs qs
keep-as rs qs e = subst (KeepReps rs) (sym e) (keep-same rs)

pub keep-then : (a b c : List CellRep) → KeepReps a b → KeepReps b c → KeepReps a c
keep-then [] [] c f g = g
keep-then [] (q ∷ qs) c f g = absurd f
keep-then (r ∷ rs) [] c f g = absurd f
keep-then (r ∷ rs) (q ∷ qs) [] f g = absurd g
keep-then (r ∷ rs) (q ∷ qs) (p ∷ ps) f g = (rep_then r q p f.0 g.0, keep-then rs qs ps f.1 g.1)

-- one rep comes to something of its own
pub keep-set : (rs : List CellRep) (at : ℕ) (r q : CellRep) → at < length rs → r ≡ get_or rs at r → SameRep r q
    → KeepReps rs (set rs at q)
keep-set [] at r q within is h = absurd (omega (arith, within))
keep-set (x ∷ rs) zero r q within is h = (subst (λ y. SameRep y q) is h, keep-same rs)
keep-set (x ∷ rs) (suc k) r q within is h = (rep_same x, keep-set rs k r q (omega (arith, within)) is h)

pub keep-names : (rs qs : List CellRep) → KeepReps rs qs → names_of qs ≡ names_of rs
keep-names [] [] f = refl
keep-names [] (q ∷ qs) f = absurd f
keep-names (r ∷ rs) [] f = absurd f
keep-names (r ∷ rs) (q ∷ qs) f =
    ap (λ x. x ∷ names_of qs) f.0.cell ∙ ap (λ xs. r.cell ∷ xs) (keep-names rs qs f.1)

-- a place among the names is one among the reps
pub place-within : (rs : List CellRep) (at : ℕ) (cell : List ℕ) → slice_get (names_of rs) at ≡ Some cell
    → at < length rs
place-within rs at cell e =
    let within : at < length (names_of rs) = slice_get_within (names_of rs) at cell e in
    omega (arith, within, length-map rs (λ (r : CellRep). r.cell))

pub place-cell : (rs : List CellRep) (at : ℕ) (cell : List ℕ) (r : CellRep) → slice_get (names_of rs) at ≡ Some cell
    → r ≡ get_or rs at r → r.cell ≡ cell
place-cell rs at cell r e is =
    let within = place-within rs at cell e in
    let got : Some ((get_or rs at r).cell) ≡ Some cell =
    sym (slice_get-map (λ (x : CellRep). x.cell) rs at ∙ ap (option_map (λ (x : CellRep). x.cell))
    (slice_get-get_or rs at r within)) ∙ e in
    ap (λ (x : CellRep). x.cell) is ∙ ap (λ (o : Option (List ℕ)). option_map_or (λ n. n) o cell) got

pub stands-for : (rs : List CellRep) (at : ℕ) (cell : List ℕ) (r : CellRep) → slice_get (names_of rs) at ≡ Some cell
    → r ≡ get_or rs at r → StandsFor rs cell at r
stands-for rs at cell r e is = record {
  within = place-within rs at cell e;
  is = is;
  cell_is =
      place-cell rs at cell r e is;
}

pub index-kept : (rs qs : List CellRep) (index : RepIndex) → KeepReps rs qs → IsRepIndex (names_of rs) index
    → IsRepIndex (names_of qs) index
index-kept rs qs index kept h = subst (λ names. IsRepIndex names index) (sym (keep-names rs qs kept)) h

-- the rep at a place
pub rep-at : (rs : List CellRep) (at : ℕ) → at < length rs → (r : CellRep) × (r ≡ get_or rs at r)
rep-at [] at within = absurd (omega (arith, within))
rep-at (r ∷ rs) zero within = (r, refl)
rep-at (r ∷ rs) (suc k) within = rep-at rs k (omega (arith, within))

-- a rep that gave a container up is the same but for that
pub rep_stopped : (rep rep' : CellRep) (i : Instance) → rep'.cell ≡ rep.cell → rep' ≡ without rep i → SameRep rep rep'
rep_stopped rep rep' i same e = record {
  cell = same;
  joined =
      subst (λ (r : CellRep). SameJoined rep.joined r.joined) (sym e) (keeps_stopped rep i);
}

-- what is read at a place doesn't hang on what stands for nothing there
pub rep_read : (rs : List CellRep) (at : ℕ) (d : CellRep) → at < length rs
    → get_or rs at d ≡ get_or rs at (get_or rs at d)
rep_read [] at d within = absurd (omega (arith, within))
rep_read (r ∷ rs) zero d within = refl
rep_read (r ∷ rs) (suc k) d within = rep_read rs k d (omega (arith, within))
