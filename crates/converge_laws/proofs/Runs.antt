-- Commands one after another: what each of a list with unlike subjects does to its own row.
use Rattle.std.proofs.Common.{◌≡◌, ◌≢◌, zero, suc, true, false, Bool, List, [], ◌∷◌, Some, refl, sym, ap, ◌∙◌, ⊎_elim, ◌⊎◌, inl, inr, subst, arith}
use Rattle.std.specs.List.{Contains}
use Rattle.std.specs.Ordering.{eq_by_cmp}
use Rattle.std.specs.Cmp.{tied_itself}
use Rattle.std.specs.declared.cmp.Ordering.TheVariants.{Less, Equal}
use Rattle.std.proofs.lemmas.List.Elements.{All-contains}
use Rattle.row_tables.proofs.Public.{All-above, same_from_tie, ties_itself, below_rest, IsRising-tail}
use Rattle.crash_backoff.specs.declared.moment.Moment.{Moment}
use Rattle.diego_names.specs.declared.key.Key.{Key}
use Rattle.lrp_records.specs.declared.presence.Presence.TheVariants.{Suspect}
use Rattle.bbs_laws.proofs.Public.{IsValid-rows_after}
use Rattle.bbs_model.specs.Found.{suspect_in}
use Rattle.bbs_model.specs.Runs.{if_legal, state_after, state_after_all}
use Rattle.bbs_model.specs.Step.{rows_after, verdict_of}
use Rattle.bbs_model.specs.Valid.{IsValid}
use Rattle.bbs_model.specs.declared.command.Command.{Command}
use Rattle.bbs_model.specs.declared.rows.Rows.{Rows}
use Rattle.bbs_model.specs.declared.verdict.Verdict.{Verdict}
use Rattle.bbs_model.specs.declared.verdict.Verdict.TheVariants.{Ok, Same, Refused}
use Rattle.convergence.specs.Subjects.{Subject, OfPlace, subject_order, subject_in, RiseBySubject}
use Rattle.convergence.proofs.Public.{IsKeyOrder-subject_order}
use Rattle.converge_laws.specs.Accepted.{IsAccepted, AreAccepted, IsOfRound, AreApart}
use Rattle.converge_laws.specs.Laws.{AreOfRound, KeepsGround}
use Rattle.converge_laws.proofs.Frames.{IsNoSuspicion, suspect-own, stays-there, stays-wanted, stays-fresh}

pub inside_first : {X : Type 0} (x : X) (xs : List X) → Contains (x ∷ xs) x
inside_first x xs = (0, omega arith, refl)

pub inside_rest : {X : Type 0} (x y : X) (xs : List X) → Contains xs x → Contains (y ∷ xs) x
inside_rest x y xs (k, lt, at) = (suc k, omega arith, at)

pub first_or_rest : {X : Type 0} (x y : X) (xs : List X) → Contains (y ∷ xs) x → (y ≡ x) ⊎ Contains xs x
first_or_rest x y xs (zero, lt, at) = inl at
first_or_rest x y xs (suc k, lt, at) = inr (k, omega arith, at)

-- where one of these commands changes a SUSPECT row, none is about that row but itself
abbrev pub AreAlone : List Command → Type 0
AreAlone cs = (c d : Command) → Contains cs c → Contains cs d → (key : Key) → suspect_in c.op ≡ Some key
    → subject_in d ≡ OfPlace (key, Suspect) → subject_in d ≡ subject_in c

-- so it is where no instance is suspected
pub alone_unsuspected : (cs : List Command) → ((c : Command) → Contains cs c → IsNoSuspicion c.op) → AreAlone cs
alone_unsuspected cs h c d in_c in_d key changes about = about ∙ sym (suspect-own c.op (h c in_c) key changes)

-- commands whose subjects rise are apart
pub apart_from_rising : (cs : List Command) → RiseBySubject cs → AreAlone cs → AreApart cs
apart_from_rising [] h alone = tt
apart_from_rising (c ∷ cs) h alone = (
  λ d inside.
      let unlike : subject_in d ≢ subject_in c = λ same.
      let above : subject_order (subject_in c) (subject_in d) ≡ Less =
      All-contains (λ (x : Command). subject_order (subject_in c) (subject_in x) ≡ Less) cs d
      (All-above subject_order subject_in (subject_in c) cs (below_rest subject_order subject_in c cs h)) inside in
      let tied : subject_order (subject_in c) (subject_in d) ≡ Equal =
      ap (subject_order (subject_in c)) same ∙ tied_itself IsKeyOrder-subject_order.total (subject_in c) in
      absurd cc in
      record {
        subject = unlike;
        suspect = λ key changes about.
            unlike (alone c d (inside_first c cs) (inside_rest d c cs inside) key changes about);
      },
  apart_from_rising cs (IsRising-tail subject_order subject_in c cs h)
      (λ a b in_a in_b. alone a b (inside_rest a c cs in_a) (inside_rest b c cs in_b)),
)

-- the command of a list that is about a subject, if there is one
pub about_some : (s : Subject) (cs : List Command) → ((c : Command) × Contains cs c × (subject_in c ≡ s))
    ⊎ ((c : Command) → Contains cs c → subject_in c ≢ s)
about_some s [] = inr (λ c inside same. absurd (omega (arith, inside.1)))
about_some s (c ∷ cs) =
    elim (eq_by_cmp subject_order (subject_in c) s) as (λ (b : Bool). eq_by_cmp subject_order (subject_in c) s ≡ b
    → ((d : Command) × Contains (c ∷ cs) d × (subject_in d ≡ s))
    ⊎ ((d : Command) → Contains (c ∷ cs) d → subject_in d ≢ s)) [
      | true ↦ λ e. inl (c, inside_first c cs, same_from_tie subject_order IsKeyOrder-subject_order (subject_in c) s e)
      | false ↦ λ e. ⊎_elim
          (λ (r : (d : Command) × Contains cs d × (subject_in d ≡ s)). inl (r.0, inside_rest r.0 c cs r.1, r.2))
          (λ (r : (d : Command) → Contains cs d → subject_in d ≢ s). inr (λ d inside same. ⊎_elim
          (λ (is : c ≡ d).
          let here : subject_in c ≡ s = ap subject_in is ∙ same in
          let ties : eq_by_cmp subject_order (subject_in c) s ≡ true =
          subst (λ (t : Subject). eq_by_cmp subject_order (subject_in c) t ≡ true) here
          (ties_itself subject_order IsKeyOrder-subject_order (subject_in c)) in
          cc)
          (λ (later : Contains cs d). r d later same)
          (first_or_rest d c cs inside)))
          (about_some s cs)
    ] refl

-- a row that commands leave which change others
module _ {A : Type 0} (view : Rows → A) (Leaves : Command → Type 0)
    (stays : (rows : Rows) (c : Command) → IsOfRound c.op → Leaves c → view (state_after rows c) ≡ view rows) where
  -- commands that leave a row leave it one after another
  pub run-other : (rows : Rows) (cs : List Command) → ((c : Command) → Contains cs c → IsOfRound c.op)
      → ((c : Command) → Contains cs c → Leaves c)
      → view (state_after_all rows cs) ≡ view rows
  run-other rows [] ops others = refl
  run-other rows (c ∷ cs) ops others =
      run-other (state_after rows c) cs (λ d inside. ops d (inside_rest d c cs inside))
      (λ d inside. others d (inside_rest d c cs inside))
      ∙ stays rows c (ops c (inside_first c cs)) (others c (inside_first c cs))

  -- a command does to its row what it would do to it alone, where those about other rows leave it
  pub run-took : (Q : A → Type 0) (c : Command) (rows : Rows) (cs : List Command)
      → ((d : Command) → Contains cs d → IsOfRound d.op) → AreApart cs → AreAccepted rows cs
      → Contains cs c → ((d : Command) → Contains cs d → subject_in d ≢ subject_in c → Leaves d)
      → ((before : Rows) → view before ≡ view rows → IsAccepted (verdict_of before c)
      → Q (view (state_after before c)))
      → Q (view (state_after_all rows cs))
  run-took Q c rows [] ops apart taken inside others own = absurd (omega (arith, inside.1))
  run-took Q c rows (d ∷ cs) ops apart taken inside others own =
      ⊎_elim
      (λ (is : d ≡ c).
      let left : view (state_after_all (state_after rows d) cs) ≡ view (state_after rows d) =
      run-other (state_after rows d) cs (λ e later. ops e (inside_rest e d cs later))
      (λ e later. others e (inside_rest e d cs later) (λ same.
      (apart.0 e later).subject (same ∙ ap subject_in (sym is)))) in
      let accepted : IsAccepted (verdict_of rows c) = subst
      (λ (x : Command). IsAccepted (verdict_of rows x)) is taken.0 in
      subst Q (sym left) (subst (λ (x : Command). Q (view (state_after rows x))) (sym is) (own rows refl accepted)))
      (λ (later : Contains cs c).
      let first : view (state_after rows d) ≡ view rows = stays rows d (ops d (inside_first d cs))
      (others d (inside_first d cs) (λ same. (apart.0 c later).subject (sym same))) in
      run-took Q c (state_after rows d) cs (λ e after. ops e (inside_rest e d cs after)) apart.1 taken.1 later
      (λ e after. others e (inside_rest e d cs after))
      (λ before same accepted. own before (same ∙ first) accepted))
      (first_or_rest c d cs inside)

-- which cells are there, which instances are wanted and which domains are fresh stays
pub run-ground : (rows : Rows) (now : Moment) (cs : List Command) → AreOfRound now cs
    → KeepsGround now rows (state_after_all rows cs)
run-ground rows now [] h = record { there = λ cell epoch. refl; wanted = λ key. refl; fresh = λ domain. refl }
run-ground rows now (c ∷ cs) h =
    let rest = run-ground (state_after rows c) now cs (record {
      ops = λ d inside. h.ops d (inside_rest d c cs inside);
      moments = λ d inside. h.moments d (inside_rest d c cs inside);
    }) in
    record {
      there = λ cell epoch. rest.there cell epoch ∙ stays-there rows now c (h.ops c (inside_first c cs))
          (h.moments c (inside_first c cs)) cell epoch;
      wanted = λ key. rest.wanted key ∙ stays-wanted rows c (h.ops c (inside_first c cs)) key;
      fresh = λ domain. rest.fresh domain ∙ stays-fresh rows now c (h.ops c (inside_first c cs))
          (h.moments c (inside_first c cs)) domain;
    }

-- and the rows stay valid, whatever the commands
pub run-valid : (rows : Rows) (cs : List Command) → IsValid rows → IsValid (state_after_all rows cs)
run-valid rows [] valid = valid
run-valid rows (c ∷ cs) valid =
    run-valid (state_after rows c) cs
    (elim (verdict_of rows c) as (λ (v : Verdict). verdict_of rows c ≡ v
    → IsValid (if_legal v (rows_after rows c) rows)) [
      | Ok ↦ λ legal. IsValid-rows_after rows c valid legal
      | Same ↦ λ e. valid
      | (Refused why) ↦ λ e. valid
    ] refl)
