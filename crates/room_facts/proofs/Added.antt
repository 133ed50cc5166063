-- What is added up so far, with one more.
use Rattle.std.proofs.Common.{◌≡◌, ℕ, ◌+◌, ◌*◌, ◌<◌, Bool, true, false, cond, List, [], ◌∷◌, ◌++◌, length, take, filter, get_or, Option, sym, ap, ◌∙◌, arith}
use Rattle.std.proofs.lemmas.List.{append-nil, length_push}
use Rattle.std.proofs.lemmas.List.Elements.{filter_more}
use Rattle.std.proofs.lemmas.List.Sums.{sum_by_push}
use Rattle.cell_records.specs.declared.job.Job.{Job}
use Rattle.auctioneer.specs.declared.stand.Stand.{Stand}
use Rattle.room_facts.specs.Lacks.{has_tag}
use Rattle.room_facts.specs.Rooms.{free_in_all, is_for, of_tag, plus, sums, AreUpTo}
use Rattle.room_facts.specs.declared.sums.Sums.{Sums}

-- what passes a test so far, with one that passes or doesn't
kept : {X : Type 0} (p : X → Bool) (xs : List X) (i : ℕ) (d : X) → i < length xs → p (get_or xs i d) ≡ true
    → filter p (take (i + 1) xs) ≡ filter p (take i xs) ++ get_or xs i d ∷ []
kept p xs i d below e =
    filter_more p xs i d below ∙ ap (λ b. filter p (take i xs) ++ cond b (get_or xs i d ∷ []) []) e

left_out : {X : Type 0} (p : X → Bool) (xs : List X) (i : ℕ) (d : X) → i < length xs → p (get_or xs i d) ≡ false
    → filter p (take (i + 1) xs) ≡ filter p (take i xs)
left_out p xs i d below e =
    filter_more p xs i d below ∙ ap (λ b. filter p (take i xs) ++ cond b (get_or xs i d ∷ []) []) e ∙ append-nil
    (filter p (take i xs))

sums_push : (jobs : List Job) (j : Job) → sums (jobs ++ j ∷ [])
    ≡ plus (sums jobs) (record { memory = j.memory; disk = j.disk; containers = 1 })
sums_push jobs j = λ i. record {
  memory = sum_by_push (λ (x : Job). x.memory) jobs j i;
  disk = sum_by_push (λ (x : Job). x.disk) jobs j i;
  containers = length_push jobs j i;
}

free_push : (ss : List Stand) (s : Stand) → free_in_all (ss ++ s ∷ []) ≡ plus (free_in_all ss) s.free
free_push ss s = λ i. record {
  memory = sum_by_push (λ (x : Stand). x.free.memory) ss s i;
  disk = sum_by_push (λ (x : Stand). x.free.disk) ss s i;
  containers = sum_by_push (λ (x : Stand). x.free.containers) ss s i;
}

module _ (tag : Option (List ℕ)) (jobs : List Job) (i : ℕ) (j : Job) (below : i < length jobs)
    (is : j ≡ get_or jobs i j) where
  pub asked_more : is_for tag j ≡ true → sums (of_tag tag (take (i + 1) jobs))
      ≡ plus (sums (of_tag tag (take i jobs))) (record { memory = j.memory; disk = j.disk; containers = 1 })
  asked_more e =
      ap sums (kept (is_for tag) jobs i j below (ap (is_for tag) (sym is) ∙ e))
      ∙ ap (λ (x : Job). sums (of_tag tag (take i jobs) ++ x ∷ [])) (sym is)
      ∙ sums_push (of_tag tag (take i jobs)) j

  pub asked_same : is_for tag j ≡ false → sums (of_tag tag (take (i + 1) jobs)) ≡ sums (of_tag tag (take i jobs))
  asked_same e = ap sums (left_out (is_for tag) jobs i j below (ap (is_for tag) (sym is) ∙ e))

module _ (tag : Option (List ℕ)) (stands : List Stand) (i : ℕ) (s : Stand) (below : i < length stands)
    (is : s ≡ get_or stands i s) where
  pub free_more : has_tag tag s ≡ true → free_in_all (filter (has_tag tag) (take (i + 1) stands))
      ≡ plus (free_in_all (filter (has_tag tag) (take i stands))) s.free
  free_more e =
      ap free_in_all (kept (has_tag tag) stands i s below (ap (has_tag tag) (sym is) ∙ e))
      ∙ ap (λ (x : Stand). free_in_all (filter (has_tag tag) (take i stands) ++ x ∷ [])) (sym is)
      ∙ free_push (filter (has_tag tag) (take i stands)) s

  pub free_same : has_tag tag s ≡ false → free_in_all (filter (has_tag tag) (take (i + 1) stands))
      ≡ free_in_all (filter (has_tag tag) (take i stands))
  free_same e = ap free_in_all (left_out (has_tag tag) stands i s below (ap (has_tag tag) (sym is) ∙ e))

-- each of the amounts adds less than 2 ^ 32 to a sum
pub up_to_more : (i : ℕ) (s : Sums) → AreUpTo (4294967295 * i + 4294967295) s → AreUpTo (4294967295 * (i + 1)) s
up_to_more i s h = record {
  memory = omega (arith, h.memory);
  disk = omega (arith, h.disk);
  containers =
      omega (arith, h.containers);
}

pub up_to_next : (i : ℕ) (s : Sums) → AreUpTo (4294967295 * i) s → AreUpTo (4294967295 * (i + 1)) s
up_to_next i s h = record {
  memory = omega (arith, h.memory);
  disk = omega (arith, h.disk);
  containers =
      omega (arith, h.containers);
}
