-- The cells that jobs may go to have what they answered, less what was stopped.
use Rattle.std.proofs.Common.{◌≡◌, ℕ, Bool, true, false, cond, List, [], ◌∷◌, ◌++◌, filter_map, Option, Some, None, refl, sym, ap, subst, ◌∙◌}
use Rattle.std.specs.List.{Contains, cons_option}
use Rattle.std.specs.Option.{option_to_list}
use Rattle.std.proofs.lemmas.List.{append-nil, append_assoc}
use Rattle.bbs_model.specs.PortView.{rows_seen}
use Rattle.bbs_model.specs.declared.rows.Rows.{Rows}
use Rattle.cell_records.specs.declared.answer.Answer.{Answer}
use Rattle.cell_rep.specs.Laws.{IsAnswerOf}
use Rattle.cell_rep.specs.Reps.{answer_of}
use Rattle.cell_rep.specs.declared.rep.CellRep.{CellRep}
use Rattle.convergence.specs.Strays.{strays}
use Rattle.converge_laws.proofs.Public.{inside_first, inside_rest, from_map}
use Rattle.converge_round.specs.Askings.{present, StandApart, IsHeardFrom, Hears, questions}
use Rattle.converge_round.specs.Each.{Each}
use Rattle.converge_round.specs.Places.{is_being_emptied, OpensIf, OpensOne}
use Rattle.converge_round.specs.Reps.{names_of, StandsFor}
use Rattle.converge_round.specs.Stops.{stops_at, so_far}
use Rattle.diego_names.specs.declared.instance.Instance.{Instance}
use Rattle.round_theorem.proofs.Public.{are-heard, heard_cell, heard_named}
use Rattle.round_completeness.specs.Left.{less_all, left_open, RoundsAuctionWhatIsLeft}
use Rattle.round_completeness.proofs.CellsFit.{heard_rep}
use Rattle.round_completeness.proofs.Lessened.{Answers, IsSoundAs, are-lessened, cell_of_all, epoch_of_all, sound_all}

sound_as : (p q : CellRep) (x : Answer) → p.cell ≡ q.cell → IsAnswerOf p x → IsAnswerOf q x
sound_as p q x same h = record {
  cell = h.cell ∙ same;
  rising = h.rising;
  given = h.given;
  slots = h.slots;
  memory_left = h.memory_left;
  disk_left = h.disk_left;
  slots_left = h.slots_left;
}

-- what is known of an answer once containers were stopped
record IsKnown (cells : List CellRep) (gone : List (List ℕ × Instance)) (x : Answer) : Type 0 where
  there : Contains (names_of cells) x.cell
  sound : IsSoundAs x.cell x
  answers : Answers cells (less_all gone x)

hears_so : (cells : List CellRep) (gone : List (List ℕ × Instance)) (x : Answer) (o : Option Answer)
    → StandApart (names_of cells)
    → IsKnown cells gone x → Hears cells x.cell x.epoch o → o ≡ Some (less_all gone x)
hears_so cells gone x (Some y) apart k h =
    sym h.answers ∙ k.answers h.place h.rep (subst (λ n. StandsFor cells n h.place h.rep)
    (sym (cell_of_all gone x)) h.stands)
hears_so cells gone x None apart k h =
    let m = from_map (λ (r : CellRep). r.cell) cells x.cell k.there in
    let stands : StandsFor cells x.cell m.1.0 m.0 = record { within = m.1.1; is = sym m.1.2; cell_is = m.2 } in
    absurd (h apart (less_all gone x) (record {
      place = m.1.0;
      rep = m.0;
      stands = stands;
      answers = k.answers m.1.0 m.0 (subst (λ n. StandsFor cells n m.1.0 m.0) (sym (cell_of_all gone x)) stands);
      epoch_is = epoch_of_all gone x;
      sound = sound_as (record { cell = x.cell; joined = None }) m.0 (less_all gone x) (sym m.2)
          (sound_all x.cell gone x k.sound);
    }))

opens_if : (b : Bool) (cells : List CellRep) (gone : List (List ℕ × Instance)) (x : Answer) (o : Option Answer)
    → StandApart (names_of cells) → IsKnown cells gone x → OpensIf b cells x o
    → o ≡ cond b None (Some (less_all gone x))
opens_if true cells gone x o apart k h = h
opens_if false cells gone x o apart k h = hears_so cells gone x o apart k h

listed : {X : Type 0} (o : Option X) (xs : List X) → option_to_list o ++ xs ≡ cons_option o xs
listed None xs = refl
listed (Some x) xs = refl

opens-so : (rows : Rows) (cells : List CellRep) (gone : List (List ℕ × Instance)) (got s t : List Answer)
    → StandApart (names_of cells)
    → ((x : Answer) → Contains got x → IsKnown cells gone x)
    → Each (OpensOne rows cells) got s t → t ≡ s ++ filter_map (left_open rows gone) got
opens-so rows cells gone [] s t apart known f = f ∙ sym (append-nil s)
opens-so rows cells gone (x ∷ got) s t apart known f =
    let one = opens_if (is_being_emptied rows x.cell) cells gone x f.1.now apart
    (known x (inside_first x got)) f.1.opens in
    opens-so rows cells gone got f.0 t apart (λ y inside. known y (inside_rest y x got inside)) f.2
    ∙ ap (λ xs. xs ++ filter_map (left_open rows gone) got) f.1.more
    ∙ append_assoc s (option_to_list f.1.now) (filter_map (left_open rows gone) got)
    ∙ ap (λ xs. s ++ xs) (ap (λ (o : Option Answer). option_to_list o ++ filter_map (left_open rows gone) got) one
    ∙ listed (left_open rows gone x) (filter_map (left_open rows gone) got))

-- who was heard answers so
heard_answers : (cells : List CellRep) (cell : List ℕ) (epoch : ℕ) (x : Answer) → StandApart (names_of cells)
    → IsHeardFrom cells cell epoch x → Answers cells x
heard_answers cells cell epoch x apart h at rep stands =
    ap (λ (r : CellRep). answer_of r) (heard_rep cells cell epoch x apart h at rep stands) ∙ h.answers

pub what-is-left : RoundsAuctionWhatIsLeft
what-is-left by now line s s' r h apart =
    let got = h.opens.hearing.got in
    let rows = rows_seen h.opened.view in
    let l = are-lessened (strays (rows_seen h.opens.third) got) (so_far (stops_at h.opens.wire s.reps) [])
    (so_far (stops_at h.opened.wire h.opened.reps) h.opens.stops.stopped) apart h.opens.stopped.each in
    let heard = are-heard s.reps (present (rows_seen h.opens.first) now) (questions s.wire [])
    (questions h.opens.wire got)
    h.opens.heard.got in
    let stopped : l.more ≡ r.stopped = sym (h.reports.stopped ∙ h.opens.stopped_is ∙ l.is) in
    subst (λ gone. h.opening_is.places.roomy ≡ filter_map (left_open rows gone) got) stopped
    (opens-so rows h.opened.reps l.more got [] h.opening_is.places.roomy (subst StandApart (sym l.names) apart)
    (λ x inside.
    let c = heard.from x (subst (λ xs. Contains xs x) heard.is inside) in
    record {
      there = subst (λ ns. Contains ns x.cell) (sym l.names)
          (subst (Contains (names_of s.reps)) (sym (heard_cell s.reps c.0.cell c.0.epoch x c.2))
          (heard_named s.reps c.0.cell c.0.epoch x c.2));
      sound = sound_as c.2.rep (record { cell = x.cell; joined = None }) x (sym c.2.sound.cell) c.2.sound;
      answers = l.answer x (heard_answers s.reps c.0.cell c.0.epoch x apart c.2);
    })
    h.opens.placed.open_are)
