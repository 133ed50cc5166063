-- Items that were done, and doubts of what was done next.
use Rattle.std.proofs.Common.{◌≡◌, ◌≤◌, ◌⊎◌, ℕ, ◌+◌, zero, suc, List, [], ◌∷◌, ◌++◌, length, take, drop, slice_get, Some, refl, sym, ap, subst, inl, inr, ◌∙◌, append_assoc, arith}
use Rattle.std.proofs.Math.Nat.{suc-add}
use Rattle.std.proofs.Math.Seq.{take-nil}
use Rattle.std.proofs.lemmas.List.{append-nil, take-append-drop}
use Rattle.bbs_model.specs.Replay.{replay_log}
use Rattle.bbs_model.specs.Step.{rows_after}
use Rattle.bbs_model.specs.declared.command.Command.{Command}
use Rattle.bbs_model.specs.declared.item.Item.{Item}
use Rattle.bbs_model.specs.declared.item.Item.TheVariants.{Done, Doubt}
use Rattle.bbs_model.specs.declared.rows.Rows.{Rows}
use Rattle.standby_board.specs.Pairs.{dones, TriesNext}

pub dones-append : (xs ys : List Item) → dones (xs ++ ys) ≡ dones xs ++ dones ys
dones-append [] ys = refl
dones-append (Done by c ∷ xs) ys = ap (λ (is : List Item). Done by c ∷ is) (dones-append xs ys)
dones-append (Doubt by c ∷ xs) ys = dones-append xs ys

-- doubts leave the rows as they are
pub replay-dones : (rows : Rows) (xs : List Item) → replay_log rows (dones xs) ≡ replay_log rows xs
replay-dones rows [] = refl
replay-dones rows (Done by c ∷ xs) = replay-dones (rows_after rows c) xs
replay-dones rows (Doubt by c ∷ xs) = replay-dones rows xs

-- the first of a list is the first of a longer one
first-longer : (xs ys : List Item) (x : Item) → slice_get (xs ++ []) 0 ≡ Some x → slice_get (xs ++ ys) 0 ≡ Some x
first-longer [] ys x is = absurd (cc)
first-longer (y ∷ xs) ys x is = is

-- what was done next is so whatever comes behind
pub tries-longer : (xs behind : List Item) → TriesNext xs [] → TriesNext xs behind
tries-longer [] behind tries = tt
tries-longer (Done by c ∷ xs) behind tries = tries-longer xs behind tries
tries-longer (Doubt by c ∷ xs) behind tries =
    (first-longer (dones xs) behind (Done by c) tries.0, tries-longer xs behind tries.1)

-- one list behind the other
pub tries-append : (xs ys behind : List Item) → TriesNext xs (dones ys ++ behind) → TriesNext ys behind
    → TriesNext (xs ++ ys) behind
tries-append [] ys behind first second = second
tries-append (Done by c ∷ xs) ys behind first second = tries-append xs ys behind first second
tries-append (Doubt by c ∷ xs) ys behind first second =
    let same : dones xs ++ (dones ys ++ behind) ≡ dones (xs ++ ys) ++ behind =
    sym (append_assoc (dones xs) (dones ys) behind) ∙ ap (λ (is : List Item). is ++ behind)
    (sym (dones-append xs ys)) in (
      subst (λ (is : List Item). slice_get is 0 ≡ Some (Done by c)) same first.0,
      tries-append xs ys behind first.1 second,
    )

-- what was done up to a place is a beginning of what was done
pub dones-parts : (xs : List Item) (place : ℕ) → dones xs ≡ dones (take place xs) ++ dones (drop place xs)
dones-parts xs place = ap dones (sym (take-append-drop place xs)) ∙ dones-append (take place xs) (drop place xs)

-- and up to a later place there is no less
pub dones-further : (xs : List Item) (place more : ℕ) → length (dones (take place xs))
    ≤ length (dones (take (place + more) xs))
dones-further [] place more = simp take-nil (omega arith)
dones-further (x ∷ xs) zero more = omega arith
dones-further (Done by c ∷ xs) (suc place) more = rw suc-add
    (let rest = dones-further xs place more in omega (arith, rest))
dones-further (Doubt by c ∷ xs) (suc place) more = rw suc-add (dones-further xs place more)

-- what a doubt was of was done next
pub tries-at : (xs behind : List Item) (place by : ℕ) (c : Command) → TriesNext xs behind
    → slice_get xs place ≡ Some (Doubt by c)
    → slice_get (dones (drop place xs) ++ behind) 0 ≡ Some (Done by c)
tries-at [] behind place by c tries is = absurd (cc)
tries-at (Done by' c' ∷ xs) behind zero by c tries is = absurd (cc)
tries-at (Done by' c' ∷ xs) behind (suc place) by c tries is = tries-at xs behind place by c tries is
tries-at (Doubt by' c' ∷ xs) behind zero by c tries is =
    let number : by' ≡ by = cc in
    let same : c' ≡ c = cc in
    subst (λ (item : Item). slice_get (dones xs ++ behind) 0 ≡ Some item) (λ j. Done (number j) (same j)) tries.0
tries-at (Doubt by' c' ∷ xs) behind (suc place) by c tries is = tries-at xs behind place by c tries.1 is

-- a list with a first item
pub first-split : (xs : List Item) (x : Item) → slice_get xs 0 ≡ Some x → (rest : List Item) × (xs ≡ x ∷ rest)
first-split [] x is = absurd (cc)
first-split (y ∷ xs) x is = let same : y ≡ x = cc in (xs, ap (λ (z : Item). z ∷ xs) same)

-- where the last item that was done stands
pub record LastDone (xs : List Item) : Type 0 where
  pub place : ℕ
  pub by : ℕ
  pub command : Command
  pub is : slice_get xs place ≡ Some (Done by command)
  pub all : dones (take (suc place) xs) ≡ dones xs

-- behind another one
last-behind : (x : Item) (xs : List Item) → LastDone xs → LastDone (x ∷ xs)
last-behind (Done by c) xs last = record {
  place = suc last.place;
  by = last.by;
  command = last.command;
  is = last.is;
  all = ap (λ (is : List Item). Done by c ∷ is) last.all;
}
last-behind (Doubt by c) xs last = record {
  place = suc last.place;
  by = last.by;
  command = last.command;
  is =
      last.is;
  all = last.all;
}

pub last-done : (xs : List Item) → (dones xs ≡ []) ⊎ LastDone xs
last-done [] = inl refl
last-done (Done by c ∷ xs) = elim (last-done xs) as (λ _. (dones (Done by c ∷ xs) ≡ []) ⊎ LastDone (Done by c ∷ xs)) [
  | inl none ↦ inr (record {
    place = 0;
    by = by;
    command = c;
    is = refl;
    all =
        ap (λ (is : List Item). Done by c ∷ is) (sym none);
  })
  | inr last ↦ inr (last-behind (Done by c) xs last)
]
last-done (Doubt by c ∷ xs) = elim (last-done xs) as
    (λ _. (dones (Doubt by c ∷ xs) ≡ []) ⊎ LastDone (Doubt by c ∷ xs)) [
      | inl none ↦ inl none
      | inr last ↦ inr (last-behind (Doubt by c) xs last)
    ]
