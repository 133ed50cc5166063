-- The rule of the desk: what holds of the two words, the slot and all views between any two steps.
use Rattle.std.specs.Prelude.{◌≡◌, ℕ, suc, ◌+◌, ◌%◌, ◌<◌, ◌≤◌, ◌⊎◌, true, false, List, [], ◌∷◌, ◌++◌, Option, Some, None}
use mathlib.Core.Option as maybe
use mathlib.Core.Option.{none, some}
use lib.ListN.{get_elem?}
use Rattle.atomic_table.specs.Table.{State, Me}
use Rattle.ticket_desk.specs.declared.view.View.{View}
use Rattle.ticket_desk.specs.declared.view.Told.{Told}
use Rattle.ticket_desk.specs.Views.{EachAt, Begins, by_number, waiting, numbers, Apart, behind}

module _ {T : Type 0} (by : T → ℕ) (log fresh : List T) (given : ℕ) (owner : ℕ → ℕ) where
  -- what was told of a joined view is so: its number is given and has no seat any more
  pub record ToldOk (e : Told T) : Type 0 where
    pub below : e.number < given
    pub gone : owner e.number ≡ 0
    pub mine_is : e.mine ≡ by_number by e.number fresh
    pub seen_is : Begins e.seen log

  -- a view's number is given, its seat owns it, and it knows its items and the origin
  pub record NumberOk {O : Type 0} (source : O) (i : ℕ) (v : View T O) (n : ℕ) : Type 0 where
    pub below : n < given
    pub owned : owner n ≡ suc i
    pub mine_is : v.mine ≡ by_number by n fresh
    pub origin_is : v.origin ≡ Some source

  -- what the view in seat i knows is so
  pub record ViewOk {O : Type 0} (source : O) (served queue i : ℕ) (v : View T O) : Type 0 where
    pub ticket_is : (t : ℕ) → v.ticket ≡ Some t → (t < 18446744073709551616) × (behind served t < queue)
    pub note_is : v.number ≡ None → (v.ticket ≡ None) × (v.mine ≡ [])
    pub number_is : (n : ℕ) → v.number ≡ Some n → NumberOk source i v n
    pub first_is : v.number ≡ Some 0 → v.given ≡ given
    pub seen_is : Begins v.seen log
    pub turn_is : v.turn ≡ true → (v.ticket ≡ Some served) × (v.seen ≡ log)
    pub joined_are : EachAt (λ _ e. ToldOk e) v.joined
    pub heard_are : EachAt (λ _ xs. Begins xs log) v.heard

module _ {V T O : Type 0} (items : V → List T) (origin : V → O) where
  -- a value at home has the whole history; the slot is empty while a turn is on, and only then
  abbrev pub SlotIs : O → List T → List (maybe.Option (Option V)) → List (View T O) → Type 0
  SlotIs source log homes views =
      ((x : V) × (homes ≡ some (Some x) ∷ []) × (items x ≡ log) × (origin x ≡ source)
      × EachAt (λ _ v. v.turn ≡ false) views)
      ⊎ ((homes ≡ none ∷ []) × ((i : ℕ) × (v : View T O) × (get_elem? views i ≡ some v) × (v.turn ≡ true)))

  -- the history is that of the start and then the fresh items; a number's owner is 1 more than its seat, or 0 for none
  pub record Legal (by : T → ℕ) (start : V) (s : State (Option V) (View T O)) : Type 0 where
    pub fresh : List T
    pub drawn : ℕ
    pub served : ℕ
    pub given : ℕ
    pub owner : ℕ → ℕ
    pub words_are : s.words ≡ drawn ∷ served ∷ []
    pub served_fits : served < 18446744073709551616
    pub queue_is : drawn ≡ (served + waiting s.views) % 18446744073709551616
    pub few : (numbers s.views ≤ given) × (given ≤ 4096)
    pub apart : Apart s.views
    pub each : EachAt (ViewOk by (items start ++ fresh) fresh given owner (origin start) served (waiting s.views))
        s.views
    pub unused : (n : ℕ) → given ≤ n → by_number by n fresh ≡ []
    pub slot_is : SlotIs (origin start) (items start ++ fresh) s.homes s.views

module _ {T O : Type 0} where
  -- the view that a desk starts with
  abbrev pub first_view : List T → O → View T O
  first_view seen source = record {
    number = Some 0;
    ticket = None;
    turn = false;
    seen = seen;
    mine = [];
    origin = Some source;
    given = 1;
    joined = [];
    heard = [];
  }

  -- a seat between two turns: no ticket, no slot, and nothing that it took in from others
  pub record IsIdle {S : Type 0} (m : Me S (View T O)) : Type 0 where
    pub no_ticket : m.0.ticket ≡ None
    pub no_turn : m.0.turn ≡ false
    pub no_slot : m.1 ≡ []
    pub none_joined : m.0.joined ≡ []
    pub none_heard : m.0.heard ≡ []
