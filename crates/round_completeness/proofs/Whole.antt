-- A round that nothing disturbs is complete.
use Rattle.std.proofs.Common.{◌≡◌, ℕ, Bool, true, false, not, cond, ◌&&◌, List, [], ◌∷◌, length, filter, sum_by, Option, Some, None, refl, sym, ap, subst, ◌∙◌, arith, ⊎_elim, length-append}
use Rattle.std.specs.List.{Contains}
use Rattle.std.specs.Option.{option_to_list}
use Rattle.std.proofs.lemmas.List.Sums.{sum_by-cons}
use Rattle.bbs_model.specs.PortView.{rows_seen}
use Rattle.cell_records.specs.declared.answer.Answer.{Answer}
use Rattle.cell_records.specs.declared.cell_row.CellRow.{CellRow}
use Rattle.cell_rep.specs.Wires.{WireEnds, is_delivery_lost, IsSteady}
use Rattle.cell_rep.specs.declared.rep.CellRep.{CellRep}
use Rattle.cell_rep.specs.declared.wire.CallKind.{CallKind}
use Rattle.cell_rep.specs.declared.wire.CallKind.TheVariants.{Ask, Stop, Start, Board}
use Rattle.cell_rep.specs.declared.wire.Delivery.{Delivery}
use Rattle.convergence.specs.Strays.{strays}
use Rattle.convergence.specs.declared.report.Report.{Report}
use Rattle.converge_laws.proofs.Public.{inside_first, inside_rest}
use Rattle.converge_round.specs.Askings.{present, StandApart, IsHeardFrom, Hears, HearsIf, Asking, AsksOne, questions}
use Rattle.converge_round.specs.Each.{Each}
use Rattle.converge_round.specs.Places.{jobs_on}
use Rattle.converge_round.specs.Reps.{names_of}
use Rattle.converge_round.specs.Rounds.{Standing, IsRound}
use Rattle.converge_round.specs.declared.placing.Places.{Places}
use Rattle.crash_backoff.specs.declared.moment.Moment.{Moment}
use Rattle.round_theorem.specs.Losses.{mute_if, mute_among, mute_of}
use Rattle.round_theorem.proofs.Public.{alone-refused, has-causes}
use Rattle.round_completeness.specs.Completeness.{IsCountSame, TellsThrough, LosesNothing, EachAnswers, RoundsThatNothingDisturbsAreComplete}
use Rattle.round_completeness.specs.Ends.{gets_through, AreHeardByEnds, is_stopped, starts_lost}
use Rattle.round_completeness.proofs.ByEnds.{by-ends}
use Rattle.round_completeness.proofs.Ready.{decline-none}

-- each cell that has an answer is heard, unless its question was lost
heard_if : (b : Bool) (cells : List CellRep) (c : CellRow) (o : Option Answer) → StandApart (names_of cells)
    → (a : Answer)
    → IsHeardFrom cells c.cell c.epoch a → HearsIf b cells c.cell c.epoch o → mute_if b o ≡ 0
heard_if true cells c None apart a heard h = absurd (h apart a heard)
heard_if true cells c (Some x) apart a heard h = refl
heard_if false cells c o apart a heard h = refl

mute_none : (cells : List CellRep) (cs : List CellRow) (s t : Asking) (f : Each (AsksOne cells) cs s t)
    → StandApart (names_of cells)
    → ((c : CellRow) → Contains cs c → (a : Answer) × IsHeardFrom cells c.cell c.epoch a)
    → mute_among cells cs s t f ≡ 0
mute_none cells [] s t f apart answers = refl
mute_none cells (c ∷ cs) s t f apart answers =
    let a = answers c (inside_first c cs) in
    let one = heard_if f.1.asked.reached cells c f.1.answer apart a.0 a.1 f.1.asked.heard in
    let rest = mute_none cells cs f.0 t f.2 apart (λ d inside. answers d (inside_rest d c cs inside)) in
    omega (arith, one, rest)

none-mute : (by : ℕ) (now : Moment) (line : ℕ) (s s' : Standing) (r : Report) (h : IsRound by now line s s' r)
    → StandApart (names_of s.reps) → EachAnswers s.reps (rows_seen h.opens.first) now → mute_of by now line s s' r h ≡ 0
none-mute by now line s s' r h names answer =
    mute_none s.reps (present (rows_seen h.opens.first) now) (questions s.wire [])
    (questions h.opens.wire h.opens.hearing.got)
    h.opens.heard.got names answer

-- where all gets through, each of them is heard, all are stopped, and no start is lost
heard_some : (cells : List CellRep) (c : CellRow) (o : Option Answer) → StandApart (names_of cells) → (a : Answer)
    → IsHeardFrom cells c.cell c.epoch a → Hears cells c.cell c.epoch o → length (option_to_list o) ≡ 1
heard_some cells c None apart a heard h = absurd (h apart a heard)
heard_some cells c (Some x) apart a heard h = refl

module _ (ends : WireEnds) (through : (cell : List ℕ) (kind : CallKind) → gets_through ends cell kind ≡ true) where
  all_heard : (cells : List CellRep) (cs : List CellRow) (got : List Answer) → StandApart (names_of cells)
      → ((c : CellRow) → Contains cs c → (a : Answer) × IsHeardFrom cells c.cell c.epoch a)
      → AreHeardByEnds ends cells cs got → length got ≡ length cs
  all_heard cells [] got apart answers h = ap length h
  all_heard cells (c ∷ cs) got apart answers h =
      let a = answers c (inside_first c cs) in
      let one = heard_some cells c h.0 apart a.0 a.1 (subst (λ (b : Bool). HearsIf b cells c.cell c.epoch h.0)
      (through c.cell Ask) h.3) in
      let rest = all_heard cells cs h.1 apart (λ d inside. answers d (inside_rest d c cs inside)) h.4 in
      omega (arith, ap length h.2, length-append (option_to_list h.0) h.1, one, rest)

  none_starts : (p : Places) (xs : List Answer) → sum_by (starts_lost ends p) xs ≡ 0
  none_starts p [] = refl
  none_starts p (x ∷ xs) =
      let one : starts_lost ends p x ≡ 0 =
      ap (λ (b : Bool). cond (b && gets_through ends x.cell Board) 0 (length (jobs_on p.rows p.placements x.cell)))
      (through x.cell Start)
      ∙ ap (λ (b : Bool). cond b 0 (length (jobs_on p.rows p.placements x.cell))) (through x.cell Board) in
      omega (arith, sum_by-cons (starts_lost ends p) x xs, one, none_starts p xs)

all_kept : {X : Type 0} (p : X → Bool) (xs : List X) → ((x : X) → p x ≡ true) → length (filter p xs) ≡ length xs
all_kept p [] h = refl
all_kept p (x ∷ xs) h = ap (λ (b : Bool). length (cond b (x ∷ filter p xs) (filter p xs))) (h x) ∙ omega
    (arith, all_kept p xs h)

module _ (by : ℕ) (now : Moment) (line : ℕ) (s s' : Standing) (r : Report) (h : IsRound by now line s s' r)
    (names : StandApart (names_of s.reps)) (answer : EachAnswers s.reps (rows_seen h.opens.first) now) where
  none_by_count : IsCountSame s.wire s'.wire → r.lost ≡ 0
  none_by_count w =
      let c = has-causes by now line s s' r h in
      omega (
        arith,
        c.lost,
        c.rose,
        w.stands,
        w.rises,
        none-mute by now line s s' r h names answer,
        decline-none by now line s s' r h names,
      )

  none_by_ends : TellsThrough s.wire → r.lost ≡ 0
  none_by_ends w =
      let through : (cell : List ℕ) (kind : CallKind) → gets_through w.ends cell kind ≡ true =
      λ cell kind. ap (λ (d : Delivery). not (is_delivery_lost d))
      (w.through (record { actor = cell; kind = kind }) 0) in
      let steady : IsSteady s.wire.ends = subst IsSteady (sym w.told)
      (λ call n. w.through call n ∙ sym (w.through call 0)) in
      let b = by-ends by now line s s' r h w.ends names w.told steady in
      let gone = strays (rows_seen h.opens.third) h.opens.hearing.got in
      omega (
        arith,
        b.lost,
        h.reports.asked,
        h.opens.asked_is,
        h.opens.heard.asked,
        all_heard w.ends through s.reps (present (rows_seen h.opens.first) now) h.opens.hearing.got names answer
            b.heard,
        ap length b.stopped,
        all_kept (is_stopped w.ends) gone (λ a. through a.0 Stop),
        none_starts w.ends through h.opening_is.places h.opening_is.places.roomy,
      )

  -- nothing is lost where the wire loses nothing and each cell that is present has an answer
  pub none-lost : LosesNothing s.wire s'.wire → r.lost ≡ 0
  none-lost wire = ⊎_elim none_by_count none_by_ends wire

none_inside : {X : Type 0} (xs : List X) → ((x : X) → Contains xs x → ⊥) → xs ≡ []
none_inside [] h = refl
none_inside (x ∷ xs) h = absurd (h x (inside_first x xs))

pub complete-round : RoundsThatNothingDisturbsAreComplete
complete-round by now line s s' r h u = record {
  lost = none-lost by now line s s' r h u.names u.answer u.wire;
  refused = none_inside r.refused (λ x inside. u.room x inside
      (alone-refused by now line s s' r h u.names u.alone x inside));
  placed = u.placed;
  alone = u.alone;
}
