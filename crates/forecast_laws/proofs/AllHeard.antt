-- In a round that nothing disturbs but, perhaps, want of room, just the cells that are there are heard.
use Rattle.std.proofs.Common.{◌≡◌, ℕ, ◌≤◌, ◌+◌, ◌-◌, ◌^◌, min, Bool, true, false, cond, ◌&&◌, ◌==◌, List, [], ◌∷◌, length, Option, Some, None, IsSome, is_some, refl, sym, ap, subst, ◌∙◌, arith, ⊎_elim, nat_eq, slice_get}
use Rattle.std.specs.Cmp.Lexicographic.{pointwise}
use Rattle.std.specs.List.{Contains}
use Rattle.std.proofs.lemmas.Bool.{eq-eqb}
use Rattle.std.proofs.lemmas.Cmp.{nat_list_eq_equiv}
use Rattle.std.proofs.lemmas.Option.{slice_get-get_or}
use Rattle.bbs_model.specs.PortView.{rows_seen}
use Rattle.bbs_model.specs.Tables.{cell_name_of}
use Rattle.bbs_model.specs.Work.{is_there}
use Rattle.bbs_model.specs.declared.rows.Rows.{Rows}
use Rattle.cell_records.specs.declared.answer.Answer.{Answer}
use Rattle.cell_records.specs.declared.cell_row.CellRow.{CellRow}
use Rattle.cell_rep.specs.declared.rep.CellRep.{CellRep}
use Rattle.cell_rep.specs.declared.wire.CallKind.TheVariants.{Ask}
use Rattle.convergence.specs.Containers.{answer_from, is_answer_of}
use Rattle.convergence.specs.declared.report.Report.{Report}
use Rattle.convergence.proofs.Public.{find-some}
use Rattle.converge_laws.proofs.Public.{inside_first, inside_rest}
use Rattle.converge_round.specs.Askings.{Asking, AsksOne, HearsIf, IsHeardFrom, StandApart, present, present_at, questions}
use Rattle.converge_round.specs.Each.{Each}
use Rattle.converge_round.specs.Reps.{names_of}
use Rattle.converge_round.specs.Rounds.{IsRound, Standing}
use Rattle.crash_backoff.specs.declared.moment.Moment.{Moment}
use Rattle.diego_names.proofs.Public.{IsKeyOrder-name_order}
use Rattle.diego_names.specs.Order.{name_order}
use Rattle.round_completeness.specs.Completeness.{IsCountSame, TellsThrough}
use Rattle.round_completeness.specs.Rooms.{RoundsDeclineNoStart}
use Rattle.round_theorem.proofs.Public.{are-heard, heard_cell, present-there}
use Rattle.round_theorem.specs.Losses.{RoundsHearWhatGetsThrough, RoundsLoseWhatTheWireLost, mute_among, mute_if, mute_of}
use Rattle.row_tables.proofs.Public.{Contains-find_row, key-find_row}
use Rattle.forecast_laws.specs.Losses.{AreThoseThere}
use Rattle.forecast_laws.specs.Rooms.{IsOtherwiseUndisturbed}
use Rattle.forecast_laws.proofs.Alike.{kept_inside}
use Rattle.forecast_laws.proofs.Ground.{row_there}

-- a cell that has an answer isn't mute
heard_if : (b : Bool) (cells : List CellRep) (c : CellRow) (o : Option Answer) → StandApart (names_of cells)
    → (a : Answer)
    → IsHeardFrom cells c.cell c.epoch a → HearsIf b cells c.cell c.epoch o → mute_if b o ≡ 0
heard_if true cells c None apart a heard h = absurd (h apart a heard)
heard_if true cells c (Some x) apart a heard h = refl
heard_if false cells c o apart a heard h = refl

none_mute : (cells : List CellRep) (cs : List CellRow) (s t : Asking) (f : Each (AsksOne cells) cs s t)
    → StandApart (names_of cells) → ((c : CellRow) → Contains cs c → (a : Answer) × IsHeardFrom cells c.cell c.epoch a)
    → mute_among cells cs s t f ≡ 0
none_mute cells [] s t f apart answers = refl
none_mute cells (c ∷ cs) s t f apart answers =
    let a = answers c (inside_first c cs) in
    let one = heard_if f.1.asked.reached cells c f.1.answer apart a.0 a.1 f.1.asked.heard in
    let rest = none_mute cells cs f.0 t f.2 apart (λ d inside. answers d (inside_rest d c cs inside)) in
    omega (arith, one, rest)

-- a cell whose answer is there is found under its epoch
found_under : (got : List Answer) (cell : List ℕ) (epoch : ℕ) (a : Answer) → Contains got a → a.cell ≡ cell
    → a.epoch ≡ epoch → IsSome (answer_from got cell epoch)
found_under got cell epoch a inside names epochs =
    let looks : is_answer_of cell epoch a ≡ true =
    ap (λ (n : List ℕ). pointwise nat_eq n cell && a.epoch == epoch) names
    ∙ ap (λ (b : Bool). b && a.epoch == epoch) (nat_list_eq_equiv.refl cell) ∙ eq-eqb a.epoch epoch epochs in
    let found = find-some (is_answer_of cell epoch) got a inside looks in
    ap (λ (o : Option Answer). is_some o) found.1

module _ (hears : RoundsHearWhatGetsThrough) (loses : RoundsLoseWhatTheWireLost) (declines : RoundsDeclineNoStart)
    (by : ℕ) (now : Moment) (line : ℕ) (s s' : Standing) (r : Report) (h : IsRound by now line s s' r)
    (u : IsOtherwiseUndisturbed by now line s s' r h) where
  abbrev seen : Rows
  seen = rows_seen h.opens.first

  abbrev got : List Answer
  got = h.opens.hearing.got

  abbrev IsHeard : CellRow → Type 0
  IsHeard c = (a : Answer) × Contains got a × IsHeardFrom s.reps c.cell c.epoch a

  -- where the count of losses stands, none is lost
  heard_by_count : IsCountSame s.wire s'.wire → (c : CellRow) → Contains (present seen now) c → IsHeard c
  heard_by_count w c inside =
      let causes = loses by now line s s' r h in
      let mute : mute_of by now line s s' r h ≡ 0 = none_mute s.reps (present seen now) (questions s.wire [])
      (questions h.opens.wire got) h.opens.heard.got
      u.names u.answer in
      let none : r.lost ≡ 0 =
      omega (arith, causes.lost, causes.rose, w.stands, w.rises, mute, declines by now line s s' r h u.names) in
      let all = are-heard s.reps (present seen now) (questions s.wire []) (questions h.opens.wire got)
      h.opens.heard.got in
      let lost : r.lost ≡ min (min ((h.opens.hearing.asked - length got) + h.opens.stops.lost) (2 ^ 64 - 1)
      + h.noted.tally.lost) (2 ^ 64 - 1) =
      h.reports.lost ∙ ap (λ (n : ℕ). min (n + h.noted.tally.lost) (2 ^ 64 - 1)) h.opens.lost_is in
      let enough : length (present seen now) ≤ length all.more =
      omega (arith, none, lost, h.opens.heard.asked, ap length all.is) in
      let a = all.all enough c inside in
      (a.0, subst (λ xs. Contains xs a.0) (sym all.is) a.1, a.2)

  -- where all gets through, each question does
  heard_by_ends : TellsThrough s.wire → (c : CellRow) → Contains (present seen now) c → IsHeard c
  heard_by_ends w c inside =
      let a = u.answer c inside in
      let at : slice_get (present seen now) inside.0 ≡ Some c =
      slice_get-get_or (present seen now) inside.0 c inside.1 ∙ ap (λ (x : CellRow). Some x) inside.2 in (
        a.0,
        hears by now line s s' r h w.ends u.names w.told inside.0 c at
            (w.through (record { actor = c.cell; kind = Ask }) inside.0) a.0 a.1,
        a.1,
      )

  pub heard_each : (c : CellRow) → Contains (present seen now) c → IsHeard c
  heard_each c inside =
      ⊎_elim (λ (w : IsCountSame s.wire s'.wire). heard_by_count w c inside)
      (λ (w : TellsThrough s.wire). heard_by_ends w c inside) u.wire

  heard_there : (cell : List ℕ) (epoch : ℕ) → is_there seen now cell epoch ≡ true → IsSome (answer_from got cell epoch)
  heard_there cell epoch there =
      let x = row_there seen now cell epoch there in
      let shown : present_at now x.row ≡ Some x.row = ap (λ (b : Bool). cond b (Some x.row) None) x.present in
      let inside : Contains (present seen now) x.row =
      kept_inside (present_at now) seen.cells x.row x.row
      (Contains-find_row name_order cell_name_of cell x.row seen.cells x.found) shown in
      let a = heard_each x.row inside in
      let name : x.row.cell ≡ cell = key-find_row name_order cell_name_of IsKeyOrder-name_order cell x.row seen.cells
      x.found in
      found_under got cell epoch a.0 a.1 (heard_cell s.reps x.row.cell x.row.epoch a.0 a.2 ∙ name)
      (a.2.epoch_is ∙ x.epoch_is)

  from_cell : (x : Answer) → Contains got x → (c : CellRow) × Contains (present seen now) c × IsHeardFrom s.reps
      c.cell c.epoch x
  from_cell x inside =
      let all = are-heard s.reps (present seen now) (questions s.wire []) (questions h.opens.wire got)
      h.opens.heard.got in
      all.from x (subst (λ xs. Contains xs x) all.is inside)

  pub those_there : AreThoseThere seen got now
  those_there = record {
    all = heard_there;
    only = λ x inside.
        let c = from_cell x inside in
        ap (λ (n : List ℕ). is_there seen now n x.epoch) (heard_cell s.reps c.0.cell c.0.epoch x c.2)
        ∙ ap (is_there seen now c.0.cell) c.2.epoch_is ∙ present-there seen now c.0 h.opens.heard.valid c.1;
    given = λ x inside. (from_cell x inside).2.sound.given;
    rising = λ x inside. (from_cell x inside).2.sound.rising;
  }
