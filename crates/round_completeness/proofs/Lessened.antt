-- What the reps answer once strays are stopped.
use Rattle.std.proofs.Common.{◌≡◌, ◌≢◌, ℕ, Bool, true, false, not, cond, List, [], ◌∷◌, ◌++◌, filter, get_or, set, Option, Some, None, Ok, refl, sym, ap, subst, ◌∙◌, arith}
use Rattle.std.specs.Cmp.Lexicographic.{same_text}
use Rattle.std.specs.Option.{option_map, option_map_or}
use Rattle.std.specs.Result.{result_unwrap_or}
use Rattle.std.specs.Ordering.{nat_cmp}
use Rattle.std.proofs.lemmas.Cmp.{nat_list_eq_equiv}
use Rattle.std.proofs.lemmas.List.{append-nil, append_assoc, length-set, get_or-set_same}
use Rattle.std.proofs.lemmas.List.Elements.{All-filter}
use Rattle.std.proofs.lemmas.List.Filters.{length-filter_both}
use Rattle.auctioneer.specs.Stands.{same_name}
use Rattle.cell_records.specs.declared.answer.Answer.{Answer}
use Rattle.cell_records.specs.declared.container.Container.{Container}
use Rattle.cell_rep.specs.Ends.{without}
use Rattle.cell_rep.specs.Laws.{IsAnswerOf}
use Rattle.cell_rep.specs.Reps.{answer_in, answer_of, store_result}
use Rattle.cell_rep.specs.declared.joined.Joined.{Joined}
use Rattle.cell_rep.specs.declared.rep.CellRep.{CellRep}
use Rattle.container_store.specs.Changes.{if_held, without_container}
use Rattle.container_store.specs.Store.{IsGiven, number_of, find_container}
use Rattle.container_store.proofs.Public.{IsRising-filter}
use Rattle.converge_round.specs.Askings.{StandApart}
use Rattle.converge_round.specs.Each.{Each}
use Rattle.converge_round.specs.Reps.{names_of, StandsFor}
use Rattle.converge_round.specs.Stops.{StopsIf, LetsGo, if_done, Stopped, StopsOne}
use Rattle.converge_round.proofs.Public.{name_there}
use Rattle.diego_names.specs.declared.instance.Instance.{Instance}
use Rattle.lrp_records.specs.States.{is_same_instance}
use Rattle.round_theorem.proofs.Public.{cell_stays, names_after}
use Rattle.round_completeness.specs.Left.{answer_with, less_one, less_all}
use Rattle.round_completeness.proofs.CellsFit.{stood_before}

abbrev Stray : Type 0
Stray = List ℕ × Instance

-- the containers of an answer but for one
abbrev others : Instance → List Container → List Container
others i cs = filter (λ c. not (is_same_instance i c.instance)) cs

-- where it isn't found, none is left out
all_others : (i : Instance) (cs : List Container) → find_container i cs ≡ None → others i cs ≡ cs
all_others i [] e = refl
all_others i (c ∷ cs) e =
    elim (is_same_instance i c.instance) as
    (λ (b : Bool). cond b (Some c) (find_container i cs) ≡ None → cond (not b) (c ∷ others i cs) (others i cs) ≡ c ∷ cs) [
      | true ↦ λ bad. absurd cc
      | false ↦ λ none. ap (λ xs. c ∷ xs) (all_others i cs none)
    ] e

without_in : (cell : List ℕ) (i : Instance) (j : Joined) (f : Option Container)
    → find_container i j.store.containers ≡ f
    → answer_of (result_unwrap_or
    (store_result (record { cell = cell; joined = Some j }) j (if_held f (λ c. Ok (without_container j.store i))))
    (record { cell = cell; joined = Some j }))
    ≡ Some (answer_with (answer_in cell j) (others i j.store.containers))
without_in cell i j None none =
    ap (λ (cs : List Container). Some (answer_with (answer_in cell j) cs)) (sym (all_others i j.store.containers none))
without_in cell i j (Some c) found = refl

without_answer : (cell : List ℕ) (i : Instance) (o : Option Joined) (x : Answer)
    → option_map (answer_in cell) o ≡ Some x
    → answer_of (without (record { cell = cell; joined = o }) i) ≡ Some (answer_with x (others i x.containers))
without_answer cell i None x e = absurd cc
without_answer cell i (Some j) x e =
    let is : answer_in cell j ≡ x = ap (λ (o : Option Answer). option_map_or (λ (y : Answer). y) o (answer_in cell j)) e
    in
    subst
    (λ (y : Answer). answer_of (without (record { cell = cell; joined = Some j }) i)
    ≡ Some (answer_with y (others i y.containers))) is
    (without_in cell i j (find_container i j.store.containers) refl)

-- the rep of a cell answers so
abbrev pub Answers : List CellRep → Answer → Type 0
Answers reps x = (at : ℕ) (rep : CellRep) → StandsFor reps x.cell at rep → answer_of rep ≡ Some x

cell_of_less : (a : Stray) (x : Answer) → (less_one a x).cell ≡ x.cell
cell_of_less a x =
    elim (same_name a.0 x.cell) as (λ (b : Bool). (cond b (answer_with x (others a.1 x.containers)) x).cell ≡ x.cell)
    [ true ↦ refl | false ↦ refl ]

pub cell_of_all : (gone : List Stray) (x : Answer) → (less_all gone x).cell ≡ x.cell
cell_of_all [] x = refl
cell_of_all (a ∷ gone) x = cell_of_all gone (less_one a x) ∙ cell_of_less a x

less_then : (as' bs : List Stray) (x : Answer) → less_all (as' ++ bs) x ≡ less_all bs (less_all as' x)
less_then [] bs x = refl
less_then (a ∷ as') bs x = less_then as' bs (less_one a x)

-- one container was given up
gone_one : (a : Stray) (reps reps' : List CellRep) (x : Answer) → StandApart (names_of reps') → LetsGo a reps reps'
    → Answers reps x
    → Answers reps' (less_one a x)
gone_one a reps reps' x apart h answers at q stands =
    let w = without h.rep a.1 in
    let named : w.cell ≡ a.0 = cell_stays h.rep.cell a.1 h.rep.joined ∙ h.stands.cell_is in
    let here : StandsFor (set reps h.place w) (less_one a x).cell at q =
    subst (λ rs. StandsFor rs (less_one a x).cell at q) h.is stands in
    let cells = cell_of_less a x in
    elim (same_name a.0 x.cell) as
    (λ (b : Bool). same_name a.0 x.cell ≡ b → answer_of q ≡ Some (cond b (answer_with x (others a.1 x.containers)) x)) [
      | true ↦ λ e.
          let same : a.0 ≡ x.cell = same_text a.0 x.cell (sym e) in
          let mine : StandsFor reps x.cell h.place h.rep =
          record { within = h.stands.within; is = h.stands.is; cell_is = h.stands.cell_is ∙ same } in
          let there : StandsFor (set reps h.place w) x.cell h.place w = record {
            within = omega (arith, h.stands.within, length-set reps h.place w);
            is = sym (get_or-set_same reps h.place w w h.stands.within);
            cell_is = named ∙ same;
          } in
          let q_there : StandsFor (set reps h.place w) x.cell at q =
          subst (λ n. StandsFor (set reps h.place w) n at q) cells here in
          let places : at ≡ h.place = subst (λ rs. StandApart (names_of rs)) h.is apart at h.place x.cell
          (name_there (set reps h.place w) x.cell at q q_there)
          (name_there (set reps h.place w) x.cell h.place w there) in
          let is : q ≡ w = q_there.is ∙ ap (λ (k : ℕ). get_or (set reps h.place w) k q) places
          ∙ get_or-set_same reps h.place w q h.stands.within in
          ap (λ (p : CellRep). answer_of p) is ∙ without_answer h.rep.cell a.1 h.rep.joined x
          (answers h.place h.rep mine)
      | false ↦ λ e.
          let differs : x.cell ≢ a.0 = λ same.
          let bad : true ≡ false = sym (ap (λ (n : List ℕ). same_name a.0 n) same ∙ nat_list_eq_equiv.refl a.0) ∙ e in
          absurd cc in
          answers at q (stood_before reps h.place w a.0 x.cell at q h.stands.within named differs
          (subst (λ n. StandsFor (set reps h.place w) n at q) cells here))
    ] refl

gone_if : (reached done : Bool) (a : Stray) (reps reps' : List CellRep) (x : Answer) → StandApart (names_of reps')
    → StopsIf reached done a reps reps' → Answers reps x → Answers reps' (less_all (if_done done a) x)
gone_if true true a reps reps' x apart h answers = gone_one a reps reps' x apart h answers
gone_if true false a reps reps' x apart h answers = subst (λ rs. Answers rs x) (sym h.1) answers
gone_if false true a reps reps' x apart h answers = absurd h
gone_if false false a reps reps' x apart h answers = subst (λ rs. Answers rs x) (sym h) answers

-- all stops
pub record AreLessened (s t : Stopped) : Type 0 where
  pub more : List Stray
  pub is : t.stopped ≡ s.stopped ++ more
  pub names : names_of t.course.reps ≡ names_of s.course.reps
  pub answer : (x : Answer) → Answers s.course.reps x → Answers t.course.reps (less_all more x)

pub are-lessened : (gone : List Stray) (s t : Stopped) → StandApart (names_of s.course.reps) → Each StopsOne gone s t
    → AreLessened s t
are-lessened [] s t apart f = record {
  more = [];
  is = ap (λ (x : Stopped). x.stopped) f ∙ sym (append-nil s.stopped);
  names = ap (λ (x : Stopped). names_of x.course.reps) f;
  answer = λ x answers. subst (λ (y : Stopped). Answers y.course.reps x) (sym f) answers;
}
are-lessened (a ∷ gone) s t apart f =
    let names = names_after f.1.stops.reached f.1.done a s.course.reps f.0.course.reps f.1.stops.stops in
    let apart' = subst StandApart (sym names) apart in
    let rest = are-lessened gone f.0 t apart' f.2 in
    record {
      more = if_done f.1.done a ++ rest.more;
      is = rest.is ∙ ap (λ xs. xs ++ rest.more) f.1.stopped ∙ append_assoc s.stopped (if_done f.1.done a) rest.more;
      names = rest.names ∙ names;
      answer = λ x answers. subst (λ (y : Answer). Answers t.course.reps y)
          (sym (less_then (if_done f.1.done a) rest.more x))
          (rest.answer (less_all (if_done f.1.done a) x)
          (gone_if f.1.stops.reached f.1.done a s.course.reps f.0.course.reps x apart' f.1.stops.stops answers));
    }

-- a sound answer stays one
abbrev pub IsSoundAs : List ℕ → Answer → Type 0
IsSoundAs cell x = IsAnswerOf (record { cell = cell; joined = None }) x

sound_with : (cell : List ℕ) (i : Instance) (x : Answer) → IsSoundAs cell x
    → IsSoundAs cell (answer_with x (others i x.containers))
sound_with cell i x h = record {
  cell = h.cell;
  rising = IsRising-filter nat_cmp number_of (λ c. not (is_same_instance i c.instance)) x.containers h.rising;
  given = All-filter (λ c. not (is_same_instance i c.instance)) (IsGiven x.epoch x.last) x.containers h.given;
  slots = omega (
    arith,
    h.slots,
    length-filter_both (λ (c : Container). not (is_same_instance i c.instance))
        (λ c. not (not (is_same_instance i c.instance))) (λ c. refl) x.containers,
  );
  memory_left = omega arith;
  disk_left = omega arith;
  slots_left = omega arith;
}

sound_one : (cell : List ℕ) (a : Stray) (x : Answer) → IsSoundAs cell x → IsSoundAs cell (less_one a x)
sound_one cell a x h =
    elim (same_name a.0 x.cell) as (λ (b : Bool). IsSoundAs cell (cond b (answer_with x (others a.1 x.containers)) x))
    [ true ↦ sound_with cell a.1 x h | false ↦ h ]

pub sound_all : (cell : List ℕ) (gone : List Stray) (x : Answer) → IsSoundAs cell x → IsSoundAs cell (less_all gone x)
sound_all cell [] x h = h
sound_all cell (a ∷ gone) x h = sound_all cell gone (less_one a x) (sound_one cell a x h)

epoch_of_less : (a : Stray) (x : Answer) → (less_one a x).epoch ≡ x.epoch
epoch_of_less a x =
    elim (same_name a.0 x.cell) as (λ (b : Bool). (cond b (answer_with x (others a.1 x.containers)) x).epoch ≡ x.epoch)
    [ true ↦ refl | false ↦ refl ]

pub epoch_of_all : (gone : List Stray) (x : Answer) → (less_all gone x).epoch ≡ x.epoch
epoch_of_all [] x = refl
epoch_of_all (a ∷ gone) x = epoch_of_all gone (less_one a x) ∙ epoch_of_less a x
