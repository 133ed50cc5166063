-- Where each job of a cell finds room, no rep declines a start.
use Rattle.std.proofs.Common.{◌≡◌, ◌≢◌, ℕ, ◌<◌, List, [], ◌∷◌, length, map, get_or, set, slice_get, Option, Some, None, refl, sym, ap, subst, ◌∙◌, arith, inl, inr}
use Rattle.std.specs.List.{Contains}
use Rattle.std.specs.Option.{option_map, option_map_or}
use Rattle.std.proofs.lemmas.List.{length-set, get_or-set_same, get_or-set_other}
use Rattle.auction_scoring.specs.Fits.{IsWithin}
use Rattle.cell_records.specs.declared.amounts.Amounts.{Amounts}
use Rattle.cell_records.specs.declared.answer.Answer.{Answer}
use Rattle.cell_rep.specs.Reps.{answer_in}
use Rattle.cell_rep.specs.declared.joined.Joined.{Joined}
use Rattle.cell_rep.specs.declared.rep.CellRep.{CellRep}
use Rattle.container_store.specs.Store.{free_of}
use Rattle.converge_laws.proofs.Public.{inside_first, inside_rest, inside_map}
use Rattle.converge_round.specs.Askings.{StandApart, IsHeardFrom}
use Rattle.converge_round.specs.Each.{Each}
use Rattle.converge_round.specs.Phases.{Course, ServesOne}
use Rattle.converge_round.specs.Places.{jobs_on}
use Rattle.converge_round.specs.Reps.{names_of, StandsFor}
use Rattle.converge_round.specs.Starts.{claiming}
use Rattle.converge_round.specs.declared.placing.Places.{Places}
use Rattle.converge_round.proofs.Public.{name_there, rep_there}
use Rattle.crash_backoff.specs.declared.moment.Moment.{Moment}
use Rattle.round_theorem.specs.Losses.{declined_at, declined_among}
use Rattle.round_theorem.proofs.Public.{Differ}
use Rattle.round_completeness.specs.Rooms.{AllFindRoom}
use Rattle.round_completeness.proofs.Stores.{IsFree, within_itself}
use Rattle.round_completeness.proofs.StartsFit.{starts-fit}

-- the rep of a cell has free what the cell answered
abbrev pub HasAnswered : List CellRep → Answer → Type 0
HasAnswered reps x = (at : ℕ) (rep : CellRep) → StandsFor reps x.cell at rep → IsFree x.free rep.joined

free_in : (cell : List ℕ) (o : Option Joined) (x : Answer) → option_map (answer_in cell) o ≡ Some x → IsFree x.free o
free_in cell None x e = absurd cc
free_in cell (Some j) x e =
    subst (λ (f : Amounts). IsWithin f (free_of j.store))
    (ap (λ (o : Option Answer). option_map_or (λ (y : Answer). y.free) o (free_of j.store)) e)
    (within_itself (free_of j.store))

-- the rep of a cell that was heard is the one that answered
pub heard_rep : (cells : List CellRep) (cell : List ℕ) (epoch : ℕ) (x : Answer) → StandApart (names_of cells)
    → (h : IsHeardFrom cells cell epoch x)
    → (at : ℕ) (rep : CellRep) → StandsFor cells x.cell at rep → rep ≡ h.rep
heard_rep cells cell epoch x apart h at rep stands =
    let here : StandsFor cells cell at rep =
    record { within = stands.within; is = stands.is; cell_is = stands.cell_is ∙ h.sound.cell ∙ h.stands.cell_is } in
    let places : at ≡ h.place = apart at h.place cell (name_there cells cell at rep here)
    (name_there cells cell h.place h.rep h.stands) in
    let found : Some rep ≡ Some h.rep = sym (rep_there cells cell at rep here) ∙ ap
    (λ (k : ℕ). slice_get cells k) places
    ∙ rep_there cells cell h.place h.rep h.stands in
    ap (λ (o : Option CellRep). option_map_or (λ (r : CellRep). r) o rep) found

-- so it is at the moment of its answer
pub has-answered : (cells : List CellRep) (cell : List ℕ) (epoch : ℕ) (x : Answer) → StandApart (names_of cells)
    → IsHeardFrom cells cell epoch x → HasAnswered cells x
has-answered cells cell epoch x apart h at rep stands =
    subst (λ (r : CellRep). IsFree x.free r.joined) (sym (heard_rep cells cell epoch x apart h at rep stands))
    (free_in h.rep.cell h.rep.joined x h.answers)

-- another rep was there before
pub stood_before : (reps : List CellRep) (place : ℕ) (q : CellRep) (cell other : List ℕ) (at : ℕ) (rep : CellRep)
    → place < length reps
    → q.cell ≡ cell → other ≢ cell → StandsFor (set reps place q) other at rep → StandsFor reps other at rep
stood_before reps place q cell other at rep within names differs h =
    let ne : at ≢ place = λ e.
    let is : rep ≡ q = h.is ∙ ap (λ (k : ℕ). get_or (set reps place q) k rep) e ∙ get_or-set_same reps place q rep
    within in
    differs (sym h.cell_is ∙ ap (λ (r : CellRep). r.cell) is ∙ names) in
    record {
      within = omega (arith, h.within, length-set reps place q);
      is = h.is ∙ get_or-set_other reps place at q rep ne;
      cell_is = h.cell_is;
    }

-- a cell is served: none of its starts is declined, and the others stay
pub serve_fits : (by : ℕ) (now : Moment) (p : Places) (x : Answer) (s m : Course) (h : ServesOne by now p x s m)
    → HasAnswered s.reps x
    → AllFindRoom x.free (jobs_on p.rows p.placements x.cell)
    → (declined_at by now p x s m h ≡ 0) × ((y : Answer) → y.cell ≢ x.cell → HasAnswered s.reps y
    → HasAnswered m.reps y)
serve_fits by now p x s m (inl c) has room =
    let o = starts-fit by now (jobs_on p.rows p.placements x.cell) (claiming c.rep s.view s.wire)
    (claiming c.after m.view m.wire) c.ends c.claims c.fine x.free room (has c.place c.rep c.stands) in (
      o.0,
      λ y differs had at rep stands.
          had at rep (stood_before s.reps c.place c.after x.cell y.cell at rep c.stands.within
          (o.1 ∙ c.stands.cell_is) differs
          (subst (λ (rs : List CellRep). StandsFor rs y.cell at rep) c.reps_are stands)),
    )
serve_fits by now p x s m (inr none) has room = (
  refl,
  λ y differs had.
      subst (λ (k : Course). HasAnswered k.reps y) (sym none.1) had,
)

-- all cells are served
pub serves-fit : (by : ℕ) (now : Moment) (p : Places) (xs : List Answer) (s s' : Course)
    (f : Each (ServesOne by now p) xs s s')
    → Differ (map (λ (x : Answer). x.cell) xs)
    → ((x : Answer) → Contains xs x → HasAnswered s.reps x)
    → ((x : Answer) → Contains xs x → AllFindRoom x.free (jobs_on p.rows p.placements x.cell))
    → declined_among by now p xs s s' f ≡ 0
serves-fit by now p [] s s' f differ has room = refl
serves-fit by now p (x ∷ xs) s s' f differ has room =
    let one = serve_fits by now p x s f.0 f.1 (has x (inside_first x xs)) (room x (inside_first x xs)) in
    let rest = serves-fit by now p xs f.0 s' f.2 differ.1
    (λ y inside. one.1 y (differ.0 y.cell (inside_map (λ (z : Answer). z.cell) xs y inside))
    (has y (inside_rest y x xs inside)))
    (λ y inside. room y (inside_rest y x xs inside)) in
    omega (arith, one.0, rest)
