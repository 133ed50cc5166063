-- What `start` hands out, what `close` asks for, and what it gives.
use Rattle.std.specs.Prelude.{◌≡◌, ℕ, ◌<◌, ◌≤◌, List, [], ◌++◌, length, Some}
use Rattle.atomic_table.specs.Seated.{TableId}
use Rattle.ticket_desk.specs.declared.view.View.{View}
use Rattle.ticket_desk.specs.declared.pass.Pass.{Pass}
use Rattle.ticket_desk.specs.Views.{EachAt, Begins, by_number}

module _ {V T O : Type 0} where
  -- what a pass knows
  abbrev pub view_of : Pass V T O → View T O
  view_of p = p.place.me.0

  -- it is the k-th of these many passes of the desk z
  pub record IsPass (z : TableId) (many k : ℕ) (p : Pass V T O) : Type 0 where
    pub desk : p.place.table_id ≡ z
    pub number : p.number ≡ k
    pub given : k ≡ 0 → (view_of p).given ≡ many

  -- still the same pass of the same desk
  pub record IsSamePass (p q : Pass V T O) : Type 0 where
    pub desk : q.place.table_id ≡ p.place.table_id
    pub number : q.number ≡ p.number
    pub given : (view_of q).given ≡ (view_of p).given

  -- all passes of the desk z, in order of number
  abbrev pub AreAll : TableId → List (Pass V T O) → Type 0
  AreAll z passes = (0 < length passes) × EachAt (IsPass z (length passes)) passes

  module _ (items : V → List T) (origin : V → O) where
    -- a pass that has seen the value's history and made nothing
    pub record IsNew (value : V) (p : Pass V T O) : Type 0 where
      pub seen : (view_of p).seen ≡ items value
      pub mine : (view_of p).mine ≡ []
      pub source : (view_of p).origin ≡ Some (origin value)

    -- these many passes, all that the desk z has, each of them new
    abbrev pub AreDealt : V → TableId → ℕ → List (Pass V T O) → Type 0
    AreDealt value z many passes = (length passes ≡ many) × AreAll z passes × EachAt (λ _ p. IsNew value p) passes

    -- the value that is left has one history: it goes on from what each pass has seen, each pass's own items are
    -- those with its number among the fresh ones, and there are no others
    pub record IsClosed (by : T → ℕ) (start left : V) (passes : List (Pass V T O)) : Type 0 where
      pub fresh : List T
      pub history : items left ≡ items start ++ fresh
      pub source : origin left ≡ origin start
      pub own : EachAt (λ k p. (view_of p).mine ≡ by_number by k fresh) passes
      pub seen : EachAt (λ _ p. Begins (view_of p).seen (items left)) passes
      pub no_others : (n : ℕ) → length passes ≤ n → by_number by n fresh ≡ []
