-- Where no stop was lost all strays are gone.
use Rattle.std.proofs.Common.{◌≡◌, ◌≢◌, ℕ, ◌+◌, ◌≤◌, Bool, true, false, not, List, [], ◌∷◌, ◌++◌, length, filter_map, Option, Some, None, Ok, refl, sym, ap, subst, ◌∙◌, arith, ⊎_elim, length-append}
use Rattle.std.specs.List.{Contains}
use Rattle.std.specs.Result.{result_unwrap_or}
use Rattle.std.proofs.lemmas.List.Elements.{Contains-append_left, Contains-append_right, Contains-append_cases}
use Rattle.cell_records.specs.declared.answer.Answer.{Answer}
use Rattle.cell_records.specs.declared.container.Container.{Container}
use Rattle.cell_rep.specs.Ends.{without}
use Rattle.cell_rep.specs.Reps.{answer_of, answer_in, store_result}
use Rattle.cell_rep.specs.declared.joined.Joined.{Joined}
use Rattle.cell_rep.specs.declared.rep.CellRep.{CellRep}
use Rattle.container_store.specs.Changes.{if_held, without_container}
use Rattle.container_store.specs.Store.{find_container}
use Rattle.diego_names.specs.declared.instance.Instance.{Instance}
use Rattle.lrp_records.specs.States.{is_same_instance}
use Rattle.convergence.proofs.Public.{find-fails}
use Rattle.converge_laws.specs.Stages.{IsWithout, AreWithout}
use Rattle.converge_laws.proofs.Public.{first_or_rest, inside_filter, from_filter, same_instance, instance_itself}
use Rattle.converge_round.specs.Askings.{StandApart}
use Rattle.converge_round.specs.Each.{Each}
use Rattle.converge_round.specs.Reps.{names_of}
use Rattle.converge_round.specs.Stops.{LetsGo, StopsIf, if_done, Stopped, StopsOne}
use Rattle.round_theorem.proofs.Answered.{answer_cell}
use Rattle.round_theorem.proofs.Lists.{zip_then, zip_same, AgreeIf, zip_set}
use Rattle.round_theorem.proofs.RepSets.{names_set, others_named}

abbrev Stray : Type 0
Stray = List ℕ × Instance

one_stray : (a b : Stray) → Contains (a ∷ []) b → a ≡ b
one_stray a b inside = ⊎_elim (λ (is : a ≡ b). is) (λ (rest : Contains [] b). absurd (omega (arith, rest.1)))
    (first_or_rest b a [] inside)

-- a cell of another name keeps what it has
without_other : (a : Stray) (x : Answer) → x.cell ≢ a.0 → IsWithout (a ∷ []) x x
without_other a x ne = record {
  same = record { cell = refl; epoch = refl };
  left = λ c. (
    λ inside. (
      inside,
      λ stopped. ne (ap (λ (s : Stray). s.0)
          (sym (one_stray a (x.cell, c.instance) stopped))),
    ),
    λ p. p.0,
  );
}

without_none : (x : Answer) → IsWithout [] x x
without_none x = record {
  same = record { cell = refl; epoch = refl };
  left = λ c. (λ inside. (inside, λ stopped. absurd (omega (arith, stopped.1))), λ p. p.0);
}

-- some are gone, and then others
without_then : (as' bs : List Stray) (x y z : Answer) → IsWithout as' x y → IsWithout bs y z → IsWithout (as' ++ bs) x z
without_then as' bs x y z f g = record {
  same = record { cell = g.same.cell ∙ f.same.cell; epoch = g.same.epoch ∙ f.same.epoch };
  left = λ c. (
    λ inside.
        let later = (g.left c).0 inside in
        let first = (f.left c).0 later.0 in (
          first.0,
          λ stopped. ⊎_elim first.1 (λ (s : Contains bs (x.cell, c.instance)).
              later.1 (subst (λ (n : List ℕ). Contains bs (n, c.instance)) (sym f.same.cell) s))
              (Contains-append_cases as' bs (x.cell, c.instance) stopped),
        ),
    λ p.
        (g.left c).1 (
          (f.left c).1 (p.0, λ s. p.1 (Contains-append_left as' bs (x.cell, c.instance) s)),
          λ s. p.1 (Contains-append_right as' bs (x.cell, c.instance)
              (subst (λ (n : List ℕ). Contains bs (n, c.instance)) f.same.cell s)),
        ),
  );
}

abbrev rep_of : List ℕ → Option Joined → CellRep
rep_of cell o = record { cell = cell; joined = o }

module _ (cell : List ℕ) (i : Instance) (j : Joined) where
  abbrev is_it : Container → Bool
  is_it c = is_same_instance i c.instance

  it_is_so : (c : Container) → Contains {X = Stray} ((cell, i) ∷ []) (cell, c.instance) → is_it c ≡ true
  it_is_so c stopped =
      let same : i ≡ c.instance = ap (λ (s : Stray). s.1) (one_stray (cell, i) (cell, c.instance) stopped) in
      ap (is_same_instance i) (sym same) ∙ instance_itself i

  -- what became of the store, by whether the container is there
  abbrev after_by : Option Container → CellRep
  after_by f = result_unwrap_or (store_result (rep_of cell (Some j)) j
      (if_held f (λ c. Ok (without_container j.store i)))) (rep_of cell (Some j))

  not_it : (b : Bool) → not b ≡ true → b ≡ true → ⊥
  not_it true e g = absurd cc
  not_it false e g = absurd cc

  else_not : (c : Container) → (Contains {X = Stray} ((cell, i) ∷ []) (cell, c.instance) → ⊥) → (b : Bool) → is_it c ≡ b
      → not b ≡ true
  else_not c ne true e = absurd (ne (0, omega arith, ap (λ (k : Instance). (cell, k)) (same_instance i c.instance e)))
  else_not c ne false e = refl

  gone_by : (f : Option Container) → find_container i j.store.containers ≡ f
      → AgreeIf (IsWithout ((cell, i) ∷ [])) (Some (answer_in cell j)) (answer_of (after_by f))
  gone_by None none = record {
    same = record { cell = refl; epoch = refl };
    left = λ c. (
      λ inside. (
        inside,
        λ stopped. let no : is_it c ≡ false = find-fails is_it j.store.containers c none inside in
            let yes = it_is_so c stopped in absurd cc,
      ),
      λ p. p.0,
    );
  }
  gone_by (Some d) found = record {
    same = record { cell = refl; epoch = refl };
    left = λ c. (
      λ inside. let p = from_filter (λ (k : Container). not (is_it k)) j.store.containers c inside in
          (p.0, λ stopped. not_it (is_it c) p.1 (it_is_so c stopped)),
      λ p. inside_filter (λ (k : Container). not (is_it k)) j.store.containers c p.0 (else_not c p.1 (is_it c) refl),
    );
  }

  cell_by : (f : Option Container) → (after_by f).cell ≡ cell
  cell_by None = refl
  cell_by (Some d) = refl

gone_from : (cell : List ℕ) (i : Instance) (o : Option Joined)
    → AgreeIf (IsWithout ((cell, i) ∷ [])) (answer_of (rep_of cell o)) (answer_of (without (rep_of cell o) i))
gone_from cell i None = tt
gone_from cell i (Some j) = gone_by cell i j (find_container i j.store.containers) refl

pub cell_stays : (cell : List ℕ) (i : Instance) (o : Option Joined) → (without (rep_of cell o) i).cell ≡ cell
cell_stays cell i None = refl
cell_stays cell i (Some j) = cell_by cell i j (find_container i j.store.containers)

-- the strays are gone, and the reps keep their names
pub record AreGone (strays : List Stray) (reps reps' : List CellRep) : Type 0 where
  pub without : AreWithout strays (filter_map answer_of reps) (filter_map answer_of reps')
  pub names : names_of reps' ≡ names_of reps

gone_one : (a : Stray) (reps reps' : List CellRep) → StandApart (names_of reps) → LetsGo a reps reps'
    → AreGone (a ∷ []) reps reps'
gone_one a reps reps' apart h =
    let own : AgreeIf (IsWithout (a ∷ [])) (answer_of h.rep) (answer_of (without h.rep a.1)) =
    subst (λ (n : List ℕ). AgreeIf (IsWithout ((n, a.1) ∷ [])) (answer_of h.rep) (answer_of (without h.rep a.1)))
    h.stands.cell_is (gone_from h.rep.cell a.1 h.rep.joined) in
    let all = zip_set (IsWithout (a ∷ [])) answer_of reps h.place h.rep
    (without h.rep a.1) h.stands.within h.stands.is own
    (λ k q lt at ne x answers. without_other a x (λ same.
    others_named reps a.0 h.place h.rep apart h.stands k q lt at ne (sym (answer_cell q x answers) ∙ same))) in
    record {
      without = subst (λ (rs : List CellRep). AreWithout (a ∷ []) (filter_map answer_of reps) (filter_map answer_of rs))
          (sym h.is) all;
      names = ap names_of h.is ∙ names_set reps h.place h.rep (without h.rep a.1) h.stands.within h.stands.is
          (cell_stays h.rep.cell a.1 h.rep.joined);
    }

done_few : (b : Bool) (a : Stray) → length (if_done b a) ≤ 1
done_few true a = omega arith
done_few false a = omega arith

-- no more was stopped than was to be
pub stopped-few : (strays : List Stray) (s t : Stopped) → Each StopsOne strays s t
    → length t.stopped ≤ length s.stopped + length strays
stopped-few [] s t f = omega (arith, ap (λ (x : Stopped). length x.stopped) f)
stopped-few (a ∷ strays) s t f =
    omega (
      arith,
      stopped-few strays f.0 t f.2,
      ap length f.1.stopped,
      length-append s.stopped (if_done f.1.done a),
      done_few f.1.done a,
    )

lets_go : (reached done : Bool) (a : Stray) (reps reps' : List CellRep) → done ≡ true
    → StopsIf reached done a reps reps' → LetsGo a reps reps'
lets_go true true a reps reps' e h = h
lets_go true false a reps reps' e h = absurd cc
lets_go false true a reps reps' e h = absurd h
lets_go false false a reps reps' e h = absurd cc

was_done : (b : Bool) (a : Stray) → 1 ≤ length (if_done b a) → b ≡ true
was_done true a h = refl
was_done false a h = absurd (omega (arith, h))

pub are-gone : (strays : List Stray) (s t : Stopped) → StandApart (names_of s.course.reps)
    → length s.stopped + length strays ≤ length t.stopped → Each StopsOne strays s t
    → AreGone strays s.course.reps t.course.reps
are-gone [] s t apart enough f =
    subst (λ (x : Stopped). AreGone [] s.course.reps x.course.reps) (sym f)
    (record { without = zip_same (IsWithout []) without_none (filter_map answer_of s.course.reps); names = refl })
are-gone (a ∷ strays) s t apart enough f =
    let more = stopped-few strays f.0 t f.2 in
    let sum : length f.0.stopped ≡ length s.stopped + length (if_done f.1.done a) =
    ap length f.1.stopped ∙ length-append s.stopped (if_done f.1.done a) in
    let done = was_done f.1.done a (omega (arith, enough, more, sum)) in
    let one = gone_one a s.course.reps f.0.course.reps apart
    (lets_go f.1.stops.reached f.1.done a s.course.reps f.0.course.reps done f.1.stops.stops) in
    let rest = are-gone strays f.0 t (subst StandApart (sym one.names) apart)
    (omega (arith, enough, sum, done_few f.1.done a)) f.2 in
    record {
      without = zip_then (IsWithout (a ∷ [])) (IsWithout strays) (IsWithout (a ∷ strays)) (without_then (a ∷ []) strays)
          (filter_map answer_of s.course.reps) (filter_map answer_of f.0.course.reps)
          (filter_map answer_of t.course.reps) one.without rest.without;
      names = rest.names ∙ one.names;
    }
