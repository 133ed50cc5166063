-- The reps of the cells are away while a round has them. Their cells have no lines meanwhile.
use Rattle.std.proofs.Common.{◌≡◌, ℕ, zero, suc, ◌<◌, ◌==◌, not, true, List, [], ◌∷◌, ◌++◌, length, map, Some, refl, sym, ap, subst, ◌∙◌, arith}
use Rattle.std.specs.List.{slice_get, flat_map, All, Contains}
use Rattle.std.proofs.lemmas.List.{length-map}
use Rattle.std.proofs.lemmas.List.Elements.{All-filter, All-head}
use Rattle.std.proofs.lemmas.List.Sums.{AllPass-from_list_all}
use Rattle.std.proofs.lemmas.Option.{slice_get_within}
use Rattle.bbs_model.specs.PortView.{PortView}
use Rattle.cell_rep.specs.declared.rep.CellRep.{CellRep}
use Rattle.converge_round.specs.Reps.{KeepReps}
use Rattle.crash_backoff.specs.declared.moment.Moment.{Moment}
use Rattle.scenario_lines.specs.Acts.{is_of_cell}
use Rattle.scenario_lines.specs.declared.act.Act.{Act}
use Rattle.scenario_lines.specs.declared.act.Act.TheVariants as act
use Rattle.scenario_lines.specs.declared.answered.Answered.{Answered}
use Rattle.scenario_lines.specs.declared.script.Line.{Line}
use Rattle.phase_actors.specs.Runs.{IsActOf, IsOneActor}
use Rattle.phase_actors.specs.Turns.{actor_standing, lines_by, turns_in, turns_of, CanDo, IsCutAt, IsCutShort, Takes, TakesTurns, Turn}
use Rattle.phase_actors.specs.declared.actor_state.ActorState.{ActorState}
use Rattle.phase_actors.specs.declared.actor_state.ActorState.TheVariants.{Client, Cell}
use Rattle.phase_actors.proofs.Public.{one_same}
use Rattle.phase_runs.specs.Actors.{AreSameActors, CanAllDo}
use Rattle.phase_runs.specs.Reps.{bare, reps_of, with_reps}
use Rattle.phase_runs.proofs.Public.{one_of}
use Rattle.phase_threads.specs.Clients.{are_of_clients}
use Rattle.phase_threads.proofs.Pairs.{image_at, stands}

-- an actor can do without its rep what it could
can_bare : (a : Act) (x : ActorState) → IsActOf a x → IsActOf a (bare x)
can_bare (act.Client op) (Client name) can = can
can_bare (act.Client op) (Cell rep) can = can
can_bare (act.Cell c) (Client name) can = can
can_bare (act.Cell c) (Cell rep) can = can
can_bare act.Evacuate (Client name) can = can
can_bare act.Evacuate (Cell rep) can = can

-- who stands there without a rep
bare_of : (olds : List ActorState) (k : ℕ) (b : ActorState) → slice_get (map bare olds) k ≡ Some b
    → (a : ActorState) × (slice_get olds k ≡ Some a) × (bare a ≡ b)
bare_of olds k b is =
    let within : k < length olds = omega (arith, slice_get_within (map bare olds) k b is, length-map olds bare) in
    let a = stands olds k within in
    (a.0, a.1, image_at olds bare k a.0 b a.1 is)

pub all_can_bare : (lines : List Line) (olds : List ActorState) → CanAllDo lines olds → CanAllDo lines (map bare olds)
all_can_bare lines olds can k b is =
    let a = bare_of olds k b is in
    λ l inside. subst (IsActOf l.act) a.2 (can_bare l.act a.0 (can k a.0 a.1 l inside))

-- a cell doesn't do what clients do
not_its : (a : Act) (rep : CellRep) → not (is_of_cell a) ≡ true → IsActOf a (Cell rep) → ⊥
not_its (act.Client op) rep clients can = can
not_its (act.Cell c) rep clients can = cc (clients)
not_its act.Evacuate rep clients can = cc (clients)

-- a cell has no lines where all are of clients
own_none : (own : List Line) (rep : CellRep) → All (λ l. not (is_of_cell l.act) ≡ true) own
    → ((l : Line) → Contains own l → IsActOf l.act (Cell rep)) → own ≡ []
own_none [] rep clients can = refl
own_none (l ∷ ls) rep clients can =
    absurd (not_its l.act rep (All-head (λ x. not (is_of_cell x.act) ≡ true) l ls clients)
    (can l (0, omega arith, refl)))

pub no_turns : (by : ℕ) (lines : List Line) (rep : CellRep) → are_of_clients lines ≡ true → CanDo by lines (Cell rep)
    → turns_in by lines ≡ []
no_turns by lines rep clients can =
    ap (flat_map turns_of) (own_none (lines_by by lines) rep
    (All-filter (λ l. l.actor == by) (λ l. not (is_of_cell l.act) ≡ true) lines
    (AllPass-from_list_all (λ l. not (is_of_cell l.act)) lines clients)) can)

-- a cell that was without its rep is the cell that it was
as_bare : (a b : ActorState) → IsOneActor (bare a) b → IsOneActor a b
as_bare (Client name) b one = one
as_bare (Cell rep) (Client name) one = one
as_bare (Cell rep) (Cell other) one = one

-- each is the client or the cell that it was, though its rep was away
pub same_bare : (olds news : List ActorState) → AreSameActors (map bare olds) news → AreSameActors olds news
same_bare olds news same = record {
  length_is = same.length_is ∙ length-map olds bare;
  one = λ k a a' old new.
      let within : k < length (map bare olds) = omega (arith, slice_get_within olds k a old, length-map olds bare) in
      let b = stands (map bare olds) k within in
      as_bare a a' (subst (λ x. IsOneActor x a') (sym (image_at olds bare k a b.0 old b.1))
      (same.one k b.0 a' b.1 new));
}

-- the actors behind the first
behind : (a b : ActorState) (xs ys : List ActorState) → AreSameActors (a ∷ xs) (b ∷ ys) → AreSameActors xs ys
behind a b xs ys same = record {
  length_is = suc_same (length ys) (length xs) same.length_is;
  one = λ k x y old new. same.one (suc k) x y old new;
}
  where
    suc_same : (m n : ℕ) → suc m ≡ suc n → m ≡ n
    suc_same m n e = omega (arith, e)

-- an actor with its rep is that cell as it was, and a client is as it came from its turns
abbrev pub IsWith : ActorState → ActorState → ActorState → Type 0
IsWith (Client name) new mid = mid ≡ new
IsWith (Cell rep) new mid = mid ≡ Cell rep

-- the actors with the reps that were away
pub with_at : (olds news : List ActorState) → AreSameActors olds news → (k : ℕ) (a mid : ActorState)
    → slice_get olds k ≡ Some a
    → slice_get (with_reps news (reps_of olds)) k ≡ Some mid
    → (new : ActorState) × (slice_get news k ≡ Some new) × IsWith a new mid
with_at [] news same k a mid old is = cc (old)
with_at (x ∷ xs) [] same k a mid old is = absurd (omega (arith, same.length_is))
with_at (Client name ∷ xs) (Client other ∷ ys) same zero a mid old is = (
  Client other,
  refl,
  subst (λ x. IsWith x (Client other) mid) (one_of (Some (Client name)) (Client name) a refl old)
      (sym (one_of (Some (Client other)) (Client other) mid refl is)),
)
with_at (Client name ∷ xs) (Client other ∷ ys) same (suc k) a mid old is =
    with_at xs ys (behind (Client name) (Client other) xs ys same) k a mid old is
with_at (Client name ∷ xs) (Cell rep ∷ ys) same k a mid old is = absurd (same.one 0 (Client name) (Cell rep) refl refl)
with_at (Cell rep ∷ xs) (Client name ∷ ys) same k a mid old is = absurd (same.one 0 (Cell rep) (Client name) refl refl)
with_at (Cell rep ∷ xs) (Cell other ∷ ys) same zero a mid old is = (
  Cell other,
  refl,
  subst (λ x. IsWith x (Cell other) mid) (one_of (Some (Cell rep)) (Cell rep) a refl old)
      (sym (one_of (Some (Cell rep)) (Cell rep) mid refl is)),
)
with_at (Cell rep ∷ xs) (Cell other ∷ ys) same (suc k) a mid old is =
    with_at xs ys (behind (Cell rep) (Cell other) xs ys same) k a mid old is

-- they have those reps
pub reps_back : (olds news : List ActorState) → AreSameActors olds news
    → reps_of (with_reps news (reps_of olds)) ≡ reps_of olds
reps_back [] [] same = refl
reps_back [] (y ∷ ys) same = absurd (omega (arith, same.length_is))
reps_back (x ∷ xs) [] same = absurd (omega (arith, same.length_is))
reps_back (Client name ∷ xs) (Client other ∷ ys) same = reps_back xs ys (behind (Client name) (Client other) xs ys same)
reps_back (Client name ∷ xs) (Cell rep ∷ ys) same = absurd (same.one 0 (Client name) (Cell rep) refl refl)
reps_back (Cell rep ∷ xs) (Client name ∷ ys) same = absurd (same.one 0 (Cell rep) (Client name) refl refl)
reps_back (Cell rep ∷ xs) (Cell other ∷ ys) same =
    ap (λ (l : List CellRep). rep ∷ l) (reps_back xs ys (behind (Cell rep) (Cell other) xs ys same))

-- the later of two rows of reps is what counts
pub with_twice : (xs : List ActorState) (rs qs : List CellRep) → KeepReps rs qs
    → with_reps (with_reps xs rs) qs ≡ with_reps xs qs
with_twice [] rs qs kept = refl
with_twice (Client name ∷ xs) rs qs kept = ap (λ (l : List ActorState). Client name ∷ l) (with_twice xs rs qs kept)
with_twice (Cell rep ∷ xs) [] [] kept = ap (λ (l : List ActorState). Cell rep ∷ l) (with_twice xs [] [] kept)
with_twice (Cell rep ∷ xs) [] (q ∷ qs) kept = absurd kept
with_twice (Cell rep ∷ xs) (r ∷ rs) [] kept = absurd kept
with_twice (Cell rep ∷ xs) (r ∷ rs) (q ∷ qs) kept = ap (λ (l : List ActorState). Cell q ∷ l)
    (with_twice xs rs qs kept.1)

-- each is the client or the cell that it was
pub same_with : (olds news : List ActorState) → AreSameActors olds news
    → AreSameActors olds (with_reps news (reps_of olds))
same_with olds news same = record {
  length_is = as_many news (reps_of olds) ∙ same.length_is;
  one = λ k a mid old is.
      let at = with_at olds news same k a mid old is in
      one_with a at.0 mid (same.one k a at.0 old at.1) at.2;
}
  where
    as_many : (xs : List ActorState) (rs : List CellRep) → length (with_reps xs rs) ≡ length xs
    as_many [] rs = refl
    as_many (Client name ∷ xs) rs = ap suc (as_many xs rs)
    as_many (Cell rep ∷ xs) [] = ap suc (as_many xs [])
    as_many (Cell rep ∷ xs) (r ∷ rs) = ap suc (as_many xs rs)

    one_with : (a new mid : ActorState) → IsOneActor a new → IsWith a new mid → IsOneActor a mid
    one_with (Client name) new mid one is = subst (IsOneActor (Client name)) (sym is) one
    one_with (Cell rep) new mid one is = subst (IsOneActor (Cell rep)) (sym is) (one_same (Cell rep))

module _ (by : ℕ) (now : Moment) (lines : List Line) (clients : are_of_clients lines ≡ true) (v w : PortView) where
  -- what was done without a rep was done with it
  pub takes_with : (a new mid : ActorState) (answers : List Answered) → CanDo by lines a → IsWith a new mid
      → Takes by now (turns_in by lines) (actor_standing (bare a) v []) (actor_standing new w answers)
      → Takes by now (turns_in by lines) (actor_standing a v []) (actor_standing mid w answers)
  takes_with (Client name) new mid answers can is takes =
      subst (λ m. Takes by now (turns_in by lines) (actor_standing (Client name) v []) (actor_standing m w answers))
      (sym is) takes
  takes_with (Cell rep) new mid answers can is takes =
      subst (λ m. Takes by now (turns_in by lines) (actor_standing (Cell rep) v []) (actor_standing m w answers))
      (sym is)
      (subst (λ ts. Takes by now ts (actor_standing (Cell rep) v []) (actor_standing (Cell rep) w answers)) (sym none)
      (idle (subst (λ ts. Takes by now ts (actor_standing (bare (Cell rep)) v []) (actor_standing new w answers)) none
      takes)))
    where
      none : turns_in by lines ≡ []
      none = no_turns by lines rep clients can

      idle : Takes by now [] (actor_standing (bare (Cell rep)) v []) (actor_standing new w answers)
          → Takes by now [] (actor_standing (Cell rep) v []) (actor_standing (Cell rep) w answers)
      idle t = record { new = t.new; out_is = t.out_is; taken = (t.taken.0, (refl, t.taken.1.1)); fed = t.fed }

  pub cut_with : (a new mid : ActorState) → CanDo by lines a → IsWith a new mid
      → IsCutShort by now (turns_in by lines) (bare a) v new w → IsCutShort by now (turns_in by lines) a v mid w
  cut_with (Client name) new mid can is cut = subst (λ m. IsCutShort by now (turns_in by lines) (Client name) v m w)
      (sym is) cut
  cut_with (Cell rep) new mid can is cut =
      subst (λ m. IsCutShort by now (turns_in by lines) (Cell rep) v m w) (sym is)
      (subst (λ ts. IsCutShort by now ts (Cell rep) v (Cell rep) w) (sym none)
      (idle (subst (λ ts. IsCutShort by now ts (bare (Cell rep)) v new w) none cut)))
    where
      none : turns_in by lines ≡ []
      none = no_turns by lines rep clients can

      ends : (done rest : List Turn) → [] ≡ done ++ rest → (done ≡ []) × (rest ≡ [])
      ends [] rest is = (refl, sym is)
      ends (t ∷ ts) rest is = cc (is)

      idle : IsCutShort by now [] (bare (Cell rep)) v new w → IsCutShort by now [] (Cell rep) v (Cell rep) w
      idle c =
          let e = ends c.done c.rest c.split in
          let taken : (c.new ≡ []) × ((c.mid ≡ bare (Cell rep)) × (c.middle ≡ v)) =
          subst (λ ts. TakesTurns by now ts (bare (Cell rep)) v c.new c.mid c.middle) e.0 c.taken in
          let cut : (new ≡ c.mid) × (w ≡ c.middle) = subst (λ ts. IsCutAt by now ts c.mid c.middle new w) e.1 c.cut in
          record {
            done = [];
            rest = [];
            split = refl;
            new = [];
            mid = Cell rep;
            middle = v;
            taken = (refl, (refl, refl));
            cut = (refl, cut.1 ∙ taken.1.1);
          }
