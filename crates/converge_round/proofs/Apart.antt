-- Names that differ: of cells that answered, and of jobs that wait.
use Rattle.std.proofs.Common.{◌≡◌, ◌≢◌, ℕ, suc, ◌≤◌, Bool, true, false, cond, List, [], ◌∷◌, ◌++◌, length, map, get_or, Option, Some, None, refl, sym, ap, subst, ◌∙◌, append_assoc, arith, ⊎_elim}
use Rattle.std.specs.Cmp.{tied_itself}
use Rattle.std.specs.List.{All, AllPairs, Contains, filter_map, cons_option}
use Rattle.std.specs.Option.{option_to_list}
use Rattle.std.specs.declared.cmp.Ordering.TheVariants.{Less, Equal}
use Rattle.std.proofs.lemmas.List.{length-map, append-nil}
use Rattle.std.proofs.lemmas.List.Elements.{Contains-get_or, All-cons, All-nil, All-head, All-tail}
use Rattle.std.proofs.lemmas.List.Kept.{AllPairs-cons}
use Rattle.row_tables.specs.Table.{IsRising}
use Rattle.row_tables.proofs.Public.{All-above, IsRising-tail, below_rest}
use Rattle.diego_names.specs.Order.{name_order}
use Rattle.diego_names.proofs.Public.{IsKeyOrder-name_order}
use Rattle.cell_records.specs.Presence.{is_present}
use Rattle.cell_records.specs.declared.answer.Answer.{Answer}
use Rattle.cell_records.specs.declared.cell_row.CellRow.{CellRow}
use Rattle.cell_rep.specs.declared.rep.CellRep.{CellRep}
use Rattle.crash_backoff.specs.declared.moment.Moment.{Moment}
use Rattle.auctioneer.specs.Asked.{AreAnswers, IsSoundAnswer}
use Rattle.bbs_model.specs.Valid.{IsValid}
use Rattle.bbs_model.specs.declared.rows.Rows.{Rows}
use Rattle.converge_round.specs.Askings.{present_at, present, Hears, HearsIf, Asking, AsksOne}
use Rattle.converge_round.specs.Each.{Each}
use Rattle.converge_round.specs.Phases.{AreFewApart}
use Rattle.converge_round.specs.Places.{is_being_emptied, OpensIf, OpensOne}
use Rattle.converge_round.proofs.Lists.{first_or_rest}

-- some of these names, each at most once where these differ
record AreOfNames (names kept : List (List ℕ)) : Type 0 where
  few : length kept ≤ length names
  differ : AllPairs (λ a b. a ≢ b) kept
  inside : (n : List ℕ) → Contains kept n → Contains names n

later : {X : Type 0} (x : X) (xs : List X) (y : X) → Contains xs y → Contains (x ∷ xs) y
later x xs y here = (suc here.0, omega (arith, here.1), here.2)

tail_pairs : {X : Type 0} (x : X) (xs : List X) → AllPairs (λ a b. a ≢ b) (x ∷ xs) → AllPairs (λ a b. a ≢ b) xs
tail_pairs x xs h i j d lt below = h (suc i) (suc j) d (omega arith) (omega arith)

head_differs : {X : Type 0} (x : X) (xs : List X) (y : X) → AllPairs (λ a b. a ≢ b) (x ∷ xs) → Contains xs y → x ≡ y → ⊥
head_differs x xs y h here e = h 0 (suc here.0) y (omega arith) (omega (arith, here.1)) (e ∙ sym here.2)

pub pairs_first : {X : Type 0} (x : X) (xs : List X) → ((y : X) → Contains xs y → x ≡ y → ⊥)
    → AllPairs (λ a b. a ≢ b) xs → AllPairs (λ a b. a ≢ b) (x ∷ xs)
pairs_first x xs ne rest = AllPairs-cons (λ a b. a ≢ b) x xs
    (λ k d lt. ne (get_or xs k d) (Contains-get_or xs k d lt)) rest

no_names : AreOfNames [] []
no_names = record { few = omega arith; differ = λ i j d lt below. absurd (omega arith); inside = λ n here. here }

skipped : (x : List ℕ) (names kept : List (List ℕ)) → AreOfNames names kept → AreOfNames (x ∷ names) kept
skipped x names kept h = record {
  few = omega (arith, h.few);
  differ = h.differ;
  inside = λ n here.
      later x names n (h.inside n here);
}

with_first : (x : List ℕ) (names kept : List (List ℕ)) → AllPairs (λ a b. a ≢ b) (x ∷ names) → AreOfNames names kept
    → AreOfNames (x ∷ names) (x ∷ kept)
with_first x names kept differ h = record {
  few = omega (arith, h.few);
  differ = pairs_first x kept (λ y here. head_differs x names y differ (h.inside y here)) h.differ;
  inside = λ n here. ⊎_elim (λ e. (0, omega arith, e)) (λ rest. later x names n (h.inside n rest))
      (first_or_rest x kept n here);
}

-- the names of cells that answered are some of those that were asked
heard_name : (b : Bool) (cells : List CellRep) (cell : List ℕ) (epoch : ℕ) (a : Answer)
    → HearsIf b cells cell epoch (Some a) → (a.cell ≡ cell) × IsSoundAnswer a
heard_name true cells cell epoch a h = (
  h.sound.cell ∙ h.stands.cell_is,
  record {
    within = record { memory = h.sound.memory_left; disk = h.sound.disk_left; containers = h.sound.slots_left };
    containers = h.sound.slots;
  },
)
heard_name false cells cell epoch a h = absurd cc

-- the answers that were added, of cells of some of these names, and sound
record AreAdded (names : List (List ℕ)) (old new : List Answer) : Type 0 where
  more : List Answer
  is : new ≡ old ++ more
  apart : AreOfNames names (map (λ (a : Answer). a.cell) more)
  sound : All IsSoundAnswer more

none_added : (xs : List Answer) → AreAdded [] xs xs
none_added xs = record { more = []; is = sym (append-nil xs); apart = no_names; sound = All-nil IsSoundAnswer }

-- one step more, which adds an answer of that name or none
add_before : (name : List ℕ) (names : List (List ℕ)) (old middle new : List Answer) (o : Option Answer)
    → AllPairs (λ a b. a ≢ b) (name ∷ names)
    → ((a : Answer) → o ≡ Some a → (a.cell ≡ name) × IsSoundAnswer a) → middle ≡ old ++ option_to_list o
    → AreAdded names middle new → AreAdded (name ∷ names) old new
add_before name names old middle new None differ told e h = record {
  more = h.more;
  is = h.is ∙ ap (λ xs. xs ++ h.more) (e ∙ append-nil old);
  apart = skipped name names (map (λ (a : Answer). a.cell) h.more) h.apart;
  sound = h.sound;
}
add_before name names old middle new (Some a) differ told e h =
    let known = told a refl in
    record {
      more = a ∷ h.more;
      is = h.is ∙ ap (λ xs. xs ++ h.more) e ∙ append_assoc old (a ∷ []) h.more;
      apart = subst (λ n. AreOfNames (name ∷ names) (n ∷ map (λ (x : Answer). x.cell) h.more)) (sym known.0)
          (with_first name names (map (λ (x : Answer). x.cell) h.more) differ h.apart);
      sound = All-cons IsSoundAnswer a h.more known.1 h.sound;
    }

told_asked : (b : Bool) (cells : List CellRep) (cell : List ℕ) (epoch : ℕ) (o : Option Answer)
    → HearsIf b cells cell epoch o → (a : Answer) → o ≡ Some a → (a.cell ≡ cell) × IsSoundAnswer a
told_asked b cells cell epoch o h a e = heard_name b cells cell epoch a (subst (HearsIf b cells cell epoch) e h)

asks_add : (cells : List CellRep) (cs : List CellRow) (s t : Asking)
    → AllPairs (λ a b. a ≢ b) (map (λ (c : CellRow). c.cell) cs) → Each (AsksOne cells) cs s t
    → AreAdded (map (λ (c : CellRow). c.cell) cs) s.got t.got
asks_add cells [] s t differ f = subst (λ (x : Asking). AreAdded [] s.got x.got) (sym f) (none_added s.got)
asks_add cells (c ∷ cs) s t differ f =
    add_before c.cell (map (λ (x : CellRow). x.cell) cs) s.got f.0.got t.got f.1.answer differ
    (told_asked f.1.asked.reached cells c.cell c.epoch f.1.answer f.1.asked.heard) f.1.got
    (asks_add cells cs f.0 t (tail_pairs c.cell (map (λ (x : CellRow). x.cell) cs) differ) f.2)

told_open : (b : Bool) (cells : List CellRep) (x : Answer) (o : Option Answer) → OpensIf b cells x o → (a : Answer)
    → o ≡ Some a → (a.cell ≡ x.cell) × IsSoundAnswer a
told_open true cells x o h a e = let bad : None ≡ Some a = sym h ∙ e in absurd cc
told_open false cells x o h a e = heard_name true cells x.cell x.epoch a (subst (Hears cells x.cell x.epoch) e h)

opens_add : (rows : Rows) (cells : List CellRep) (got : List Answer) (s t : List Answer)
    → AllPairs (λ a b. a ≢ b) (map (λ (a : Answer). a.cell) got) → Each (OpensOne rows cells) got s t
    → AreAdded (map (λ (a : Answer). a.cell) got) s t
opens_add rows cells [] s t differ f = subst (AreAdded [] s) (sym f) (none_added s)
opens_add rows cells (x ∷ got) s t differ f =
    add_before x.cell (map (λ (a : Answer). a.cell) got) s f.0 t f.1.now differ
    (told_open (is_being_emptied rows x.cell) cells x f.1.now f.1.opens) f.1.more
    (opens_add rows cells got f.0 t (tail_pairs x.cell (map (λ (a : Answer). a.cell) got) differ) f.2)

not_itself : (a b : List ℕ) → name_order a b ≡ Less → a ≡ b → ⊥
not_itself a b less e =
    let tie : name_order a b ≡ Equal = subst (λ n. name_order a n ≡ Equal) e
    (tied_itself IsKeyOrder-name_order.total a) in
    let bad : Less ≡ Equal = sym less ∙ tie in absurd cc

above_differs : (name : List ℕ) (cs : List CellRow) → All (λ (c : CellRow). name_order name c.cell ≡ Less) cs
    → (y : List ℕ) → Contains (map (λ (c : CellRow). c.cell) cs) y → name ≡ y → ⊥
above_differs name [] h y here e = absurd (omega (arith, here.1))
above_differs name (c ∷ cs) h y here e = ⊎_elim
    (λ same. not_itself name c.cell (All-head (λ (x : CellRow). name_order name x.cell ≡ Less) c cs h) (e ∙ sym same))
    (λ rest. above_differs name cs (All-tail (λ (x : CellRow). name_order name x.cell ≡ Less) c cs h) y rest e)
    (first_or_rest c.cell (map (λ (x : CellRow). x.cell) cs) y here)

-- the names of rows that rise differ
cells_differ : (cs : List CellRow) → IsRising name_order (λ (c : CellRow). c.cell) cs
    → AllPairs (λ a b. a ≢ b) (map (λ (c : CellRow). c.cell) cs)
cells_differ [] h = λ i j d lt below. absurd (omega arith)
cells_differ (c ∷ cs) h = pairs_first c.cell (map (λ (x : CellRow). x.cell) cs)
    (λ y here e. above_differs c.cell cs (All-above name_order (λ (x : CellRow). x.cell) c.cell cs
    (below_rest name_order (λ (x : CellRow). x.cell) c cs h)) y here e)
    (cells_differ cs (IsRising-tail name_order (λ (x : CellRow). x.cell) c cs h))

present_names : (now : Moment) (cs : List CellRow) → AllPairs (λ a b. a ≢ b) (map (λ (c : CellRow). c.cell) cs)
    → AreOfNames (map (λ (c : CellRow). c.cell) cs) (map (λ (c : CellRow). c.cell) (filter_map (present_at now) cs))
present_names now [] differ = no_names
present_names now (c ∷ cs) differ =
    let names = map (λ (x : CellRow). x.cell) cs in
    let rest = present_names now cs (tail_pairs c.cell names differ) in
    elim (is_present c now) as (λ b. AreOfNames (c.cell ∷ names)
    (map (λ (x : CellRow). x.cell) (cons_option (cond b (Some c) None) (filter_map (present_at now) cs)))) [
      | true ↦ with_first c.cell names (map (λ (x : CellRow). x.cell) (filter_map (present_at now) cs)) differ rest
      | false ↦ skipped c.cell names (map (λ (x : CellRow). x.cell) (filter_map (present_at now) cs)) rest
    ]

pub few_present : (rows : Rows) (now : Moment) → IsValid rows → length (present rows now) ≤ 1000
few_present rows now valid =
    let names = present_names now rows.cells (cells_differ rows.cells valid.cells.rising) in
    omega (
      arith,
      names.few,
      valid.cells.few,
      length-map rows.cells (λ (c : CellRow). c.cell),
      length-map (present rows now) (λ (c : CellRow). c.cell),
    )

pub heard_apart : (rows : Rows) (now : Moment) (cells : List CellRep) (s t : Asking) → IsValid rows → s.got ≡ []
    → Each (AsksOne cells) (present rows now) s t → AreFewApart t.got
heard_apart rows now cells s t valid none f =
    let names = present_names now rows.cells (cells_differ rows.cells valid.cells.rising) in
    let added = asks_add cells (present rows now) s t names.differ f in
    let is : t.got ≡ added.more = added.is ∙ ap (λ xs. xs ++ added.more) none in
    subst AreFewApart (sym is) (record {
      few = omega (
        arith,
        added.apart.few,
        few_present rows now valid,
        length-map (present rows now) (λ (c : CellRow). c.cell),
        length-map added.more (λ (a : Answer). a.cell),
      );
      differ = added.apart.differ;
    })

pub heard_few : (rows : Rows) (now : Moment) (cells : List CellRep) (s t : Asking) → IsValid rows → s.got ≡ []
    → Each (AsksOne cells) (present rows now) s t → length t.got ≤ length (present rows now)
heard_few rows now cells s t valid none f =
    let names = present_names now rows.cells (cells_differ rows.cells valid.cells.rising) in
    let added = asks_add cells (present rows now) s t names.differ f in
    let is : t.got ≡ added.more = added.is ∙ ap (λ xs. xs ++ added.more) none in
    omega (
      arith,
      added.apart.few,
      ap length is,
      length-map (present rows now) (λ (c : CellRow). c.cell),
      length-map added.more (λ (a : Answer). a.cell),
    )

pub open_answers : (rows : Rows) (cells : List CellRep) (got roomy : List Answer) → AreFewApart got
    → Each (OpensOne rows cells) got [] roomy → AreAnswers roomy
open_answers rows cells got roomy apart f =
    let added = opens_add rows cells got [] roomy apart.differ f in
    let is : roomy ≡ added.more = added.is in
    subst AreAnswers (sym is) (record {
      few = omega (
        arith,
        added.apart.few,
        apart.few,
        length-map got (λ (a : Answer). a.cell),
        length-map added.more (λ (a : Answer). a.cell),
      );
      differ = added.apart.differ;
      each = added.sound;
    })
