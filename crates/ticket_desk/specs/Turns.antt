-- What a turn and a meeting promise.
use Rattle.std.specs.Prelude.{◌≡◌, ℕ, ◌⊎◌, List, [], ◌∷◌, ◌++◌, drop, length, Some}
use Rattle.std.specs.Fn.{FnOnceTakesAtMut, FnOnceReturnsAtMut}
use denote.Ref.{MutBor}
use denote.Param.Members.{Once}
use Rattle.ticket_desk.specs.declared.view.View.{View}
use Rattle.ticket_desk.specs.Views.{Begins}
use Rattle.ticket_desk.specs.Steps.{Fits}

-- at most one item was added, and it carries this number
abbrev pub Adds : {T : Type 0} → (T → ℕ) → ℕ → List T → List T → Type 0
Adds {T} by n before after = (after ≡ before) ⊎ ((x : T) × (after ≡ before ++ x ∷ []) × (by x ≡ n))

module _ {V T O : Type 0} (items : V → List T) (origin : V → O)
    {F R : Type 0} (g : Once F (MutBor V × Unit {0}) (R × (MutBor V × Unit {0}))) (f : F)
    (by : T → ℕ) (n : ℕ) (v : View T O) where
  -- at each value that a turn may find, the job may be called, keeps the origin and adds one item at most, its own
  abbrev pub JobKeeps : Type 0
  JobKeeps = (x : V) → Fits items origin v x
      → FnOnceTakesAtMut g f x
      × ((r : R) (x' : V) → FnOnceReturnsAtMut g f x r x' → (origin x' ≡ origin x) × Adds by n (items x) (items x'))

  -- the job ran once, on a value that goes on from what was seen; what it left is seen, what it added is own
  pub record Turned (w : View T O) (r : R) : Type 0 where
    pub value : V
    pub left : V
    pub saw : Begins v.seen (items value)
    pub source : v.origin ≡ Some (origin value)
    pub ran : FnOnceReturnsAtMut g f value r left
    pub added : Adds by n (items value) (items left)
    pub view_is : w ≡ record v { seen = items left; mine = v.mine ++ drop (length (items value)) (items left) }

-- of the hearer's view only `seen` changed: it goes on from what both had seen
abbrev pub Met : {T O : Type 0} → List T → View T O → View T O → Type 0
Met told v w = (w ≡ record v { seen = w.seen }) × Begins v.seen w.seen × Begins told w.seen
