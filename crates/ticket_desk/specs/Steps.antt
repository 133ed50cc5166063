-- What each kind of atomic step does to the view of the seat that makes it.
use Rattle.std.specs.Prelude.{◌≡◌, ◌≢◌, ℕ, suc, true, false, List, [], ◌∷◌, ◌++◌, drop, length, Option, Some, None, unwrap_or}
use Rattle.atomic_table.specs.Table.{Me, Step}
use Rattle.ticket_desk.specs.declared.view.View.{View}
use Rattle.ticket_desk.specs.declared.view.Told.{Told}
use Rattle.ticket_desk.specs.Views.{EachAt, Begins}

module _ {V T O : Type 0} where
  -- the ticket is the number that was found
  abbrev pub Draws : Step (Option V) → Me (Option V) (View T O) → ℕ → Me (Option V) (View T O) → Type 0
  Draws st m found m' = m' ≡ (record m.0 { ticket = Some found }, m.1)

  -- the whole history is seen now, and it goes on from all that was seen and heard
  abbrev pub Catches : Step (Option V) → Me (Option V) (View T O) → ℕ → Me (Option V) (View T O) → Type 0
  Catches st m found m' = (log : List T) × (m' ≡ (record m.0 { seen = log; heard = [] }, m.1))
      × Begins m.0.seen log × EachAt (λ _ xs. Begins xs log) m.0.heard

module _ {V T O : Type 0} (items : V → List T) (origin : V → O) where
  -- the value goes on from what the view has seen, and has its origin
  abbrev pub Fits : View T O → V → Type 0
  Fits v x = Begins v.seen (items x) × (v.origin ≡ Some (origin x))

  -- the turn is on: the value is out with the seat, and its whole history is seen
  abbrev pub TakesTurn : Me (Option V) (View T O) → Me (Option V) (View T O) → Type 0
  TakesTurn m m' = (x : V) × (m' ≡ (record m.0 { turn = true; seen = items x }, (0, Some x) ∷ m.1)) × Fits m.0 x

  -- the turn is on exactly where the ticket is served; else nothing changed
  abbrev pub Looks : Step (Option V) → Me (Option V) (View T O) → ℕ → Me (Option V) (View T O) → Type 0
  Looks st m found m' = (m.0.ticket ≡ Some found → TakesTurn m m') × (m.0.ticket ≢ Some found → m' ≡ m)

-- the view after a turn that left this history
abbrev pub after_turn : {T O : Type 0} → View T O → List T → View T O
after_turn v log = record v { ticket = None; turn = false; seen = log; mine = v.mine ++ drop (length v.seen) log }

module _ {V T O : Type 0} (items : V → List T) where
  -- the value is home, and the ticket is given up
  abbrev pub HandsOn : Step (Option V) → Me (Option V) (View T O) → ℕ → Me (Option V) (View T O) → Type 0
  HandsOn st m stored m' = (x : V) × (m.1 ≡ (0, Some x) ∷ []) × (m' ≡ (after_turn m.0 (items x), []))

module _ {T O : Type 0} where
  -- a note has seen what its view has seen
  abbrev pub note_of : View T O → View T O
  note_of v = record {
    number = None;
    ticket = None;
    turn = false;
    seen = v.seen;
    mine = [];
    origin = None;
    given = 0;
    joined = [];
    heard = [];
  }

  -- the view of number 0, after it gave a number
  abbrev pub next_given : View T O → View T O
  next_given v = record v { given = suc v.given }

  -- a view with the number that was given to it
  abbrev pub newly_given : View T O → View T O
  newly_given v = record {
    number = Some v.given;
    ticket = None;
    turn = false;
    seen = v.seen;
    mine = [];
    origin = v.origin;
    given = 0;
    joined = [];
    heard = [];
  }

  -- what is told of a view
  abbrev pub as_told : View T O → Told T
  as_told w = record { number = unwrap_or w.number 0; seen = w.seen; mine = w.mine }

  -- the view after it heard a note
  abbrev pub heard_from : View T O → View T O → View T O
  heard_from v w = record v { heard = w.seen ∷ v.heard }

  -- the view after another one was joined into it
  abbrev pub joined_with : View T O → View T O → View T O
  joined_with v w = record v { joined = as_told w ∷ v.joined }

  -- what is left of a view that was joined into another
  abbrev pub spent_view : View T O
  spent_view = record {
    number = None;
    ticket = None;
    turn = false;
    seen = [];
    mine = [];
    origin = None;
    given = 0;
    joined = [];
    heard = [];
  }
