-- A round, by the log of the phase at its end and each longer one.
use Rattle.std.proofs.Common.{◌≡◌, ℕ, ◌≤◌, List, [], ◌∷◌, ◌++◌, length, drop, take, Option, Some, None, refl, sym, ap, subst, ◌∙◌, append_assoc, arith, inl, inr, ⊎_elim}
use Rattle.std.specs.List.{Contains}
use Rattle.std.proofs.lemmas.List.{append_cancel_left, drop_at, length-drop, take-take}
use Rattle.std.proofs.lemmas.List.Elements.{Contains-append_left}
use Rattle.bbs_model.specs.Calls.{by_number}
use Rattle.bbs_model.specs.PortView.{IsLater, PortView, rows_seen}
use Rattle.bbs_model.specs.Replay.{command_in, replay_log, rows_at}
use Rattle.bbs_model.specs.declared.item.Item.{Item}
use Rattle.bbs_model.specs.declared.item.Item.TheVariants.{Doubt}
use Rattle.bbs_model.specs.declared.rows.Rows.{Rows}
use Rattle.cell_records.specs.declared.answer.Answer.{Answer}
use Rattle.cell_rep.specs.declared.rep.CellRep.{CellRep}
use Rattle.converge_laws.specs.Converged.{IsConverged}
use Rattle.convergence.specs.declared.report.Report.{Report}
use Rattle.converge_round.specs.Askings.{StandApart}
use Rattle.converge_round.specs.Items.{AreHeard, AreLeft, HasItems, IsAskedBetween, IsOfTable, WasSeen, WereLeft}
use Rattle.converge_round.specs.Reps.{KeepReps, names_of}
use Rattle.converge_round.specs.Rounds.{standing}
use Rattle.converge_round.specs.Sendings.{wire_at}
use Rattle.crash_backoff.specs.declared.moment.Moment.{Moment}
use Rattle.round_theorem.specs.Accounts.{HasAccount, IsItemAsked, RoundsHaveAccounts}
use Rattle.round_theorem.specs.Complete.{CompleteRoundsConverge}
use Rattle.scenario_lines.specs.declared.script.RoundLine.{RoundLine}
use Rattle.phase_actors.specs.declared.actor_state.ActorState.{ActorState}
use Rattle.phase_actors.specs.declared.actor_state.ActorState.TheVariants.{Client, Cell}
use Rattle.phase_runs.specs.Actors.{LogBegins, SeesPhase}
use Rattle.phase_runs.specs.Phases.{IsRoundCut, IsToldBy, RoundRan}
use Rattle.phase_runs.specs.Reps.{reps_of, with_reps}
use Rattle.phase_runs.specs.RoundMarks.{round_ends}
use Rattle.phase_runs.specs.Rounds.{RoundOf}
use Rattle.run_theorem.specs.Cuts.{RoundAsksIf}
use Rattle.run_theorem.specs.Phases.{between, HeldThere, IsAskedFor, IsReported, ReportAgrees, RoundAgreesIf, RoundAsks, SeesBetween}
use Rattle.run_theorem.proofs.Logs.{begins_taken, begins_then, begins_within, fresh_between}

-- the reps of actors with these reps
reps_put : (xs : List ActorState) (rs : List CellRep) → KeepReps (reps_of xs) rs → reps_of (with_reps xs rs) ≡ rs
reps_put [] [] kept = refl
reps_put [] (r ∷ rs) kept = absurd kept
reps_put (Client name ∷ xs) rs kept = reps_put xs rs kept
reps_put (Cell rep ∷ xs) [] kept = absurd kept
reps_put (Cell rep ∷ xs) (r ∷ rs) kept = ap (λ (l : List CellRep). r ∷ l) (reps_put xs rs kept.1)

module _ (base : Rows) (before fresh log : List Item) (goes : LogBegins (before ++ fresh) log) where
  abbrev from : ℕ
  from = length before

  abbrev upto : ℕ
  upto = length (before ++ fresh)

  -- the items there are those that came
  pub its_items : (by : ℕ) → by_number by (between from upto log) ≡ by_number by fresh
  its_items by = ap (by_number by) (fresh_between before fresh log goes)

  module _ (by : ℕ) (v w : PortView) (sees : SeesPhase base before fresh by v w) (later : IsLater v w) where
    last_begins : LogBegins w.seen log
    last_begins = begins_then w.seen (before ++ fresh) log sees.upto goes

    pub sees_between : SeesBetween base log from upto by v w
    sees_between = record {
      base_is = sees.base_is;
      first = sym (begins_taken v.seen log (begins_then v.seen w.seen log later.seen last_begins));
      low = begins_within before v.seen sees.from;
      last = sym (begins_taken w.seen log last_begins);
      high = begins_within w.seen (before ++ fresh) sees.upto;
      own = sees.own ∙ ap (λ (xs : List Item). v.mine ++ xs) (sym (its_items by));
    }

    -- the rows that were seen last are those of their place
    pub rows_last : rows_seen w ≡ rows_at base log (length w.seen)
    rows_last =
        ap (λ (r : Rows). replay_log r w.seen) (later.base ∙ sees.base_is)
        ∙ ap (replay_log base) (sym (begins_taken w.seen log last_begins))

    its_mine : by_number by (between from upto log) ≡ later.mine.0
    its_mine = its_items by ∙ append_cancel_left v.mine (by_number by fresh) later.mine.0 (sym sees.own ∙ later.mine.1)

  -- rows that were seen on the way, by their place
  module _ (v w : PortView) (sees : SeesPhase base before fresh 0 v w) (m : PortView) (b : IsLater v m)
      (a : IsLater m w) where
    low_there : from ≤ length m.seen
    low_there = omega (arith, begins_within before v.seen sees.from, begins_within v.seen m.seen b.seen)

    whole : before ++ fresh ≡ m.seen ++ (a.seen.0 ++ sees.upto.0)
    whole = sees.upto.1 ∙ ap (λ (xs : List Item). xs ++ sees.upto.0) a.seen.1 ∙ append_assoc m.seen a.seen.0 sees.upto.0

    high_there : length m.seen ≤ upto
    high_there = begins_within m.seen (before ++ fresh) (a.seen.0 ++ sees.upto.0, whole)

    stretch : between (length m.seen) upto log ≡ a.seen.0 ++ sees.upto.0
    stretch = ap (drop (length m.seen)) (begins_taken (before ++ fresh) log goes ∙ whole)
        ∙ drop_at m.seen (a.seen.0 ++ sees.upto.0) (length m.seen) refl

    rows_there : rows_seen m ≡ rows_at base log (length m.seen)
    rows_there = ap (λ (r : Rows). replay_log r m.seen) (b.base ∙ sees.base_is)
        ∙ ap (replay_log base) (sym (begins_taken m.seen log
        (begins_then m.seen (before ++ fresh) log (a.seen.0 ++ sees.upto.0, whole) goes)))

  module _ (now : Moment) (reps : List CellRep) (v w : PortView) (sees : SeesPhase base before fresh 0 v w)
      (items : HasItems 0 now reps v w) where
    asked_for : (i : Item) → IsAskedBetween 0 (IsOfTable items.got items.roomy now) v w i
        → IsAskedFor base log now items.got items.roomy from upto i
    asked_for i e = record {
      place = length e.read.seen;
      low = low_there v w sees e.read e.before e.after;
      behind =
          subst (λ (xs : List Item). Contains xs i) (sym (stretch v w sees e.read e.before e.after))
          (Contains-append_left e.after.seen.0 sees.upto.0 i e.behind);
      asked =
          subst (λ (r : Rows). IsOfTable items.got items.roomy now r (command_in i))
          (rows_there v w sees e.read e.before e.after) e.asked;
    }

    -- what holds of rows that were seen in between holds of those of a place
    held_there : (Of : Rows → Type 0) → WasSeen Of v w → HeldThere base log from upto Of
    held_there Of s = record {
      place = length s.read.seen;
      low = low_there v w sees s.read s.before s.after;
      high = high_there v w sees s.read s.before s.after;
      holds = subst Of (rows_there v w sees s.read s.before s.after) s.holds;
    }

    left_there : (got roomy : List Answer) → WereLeft reps got roomy v w
        → HeldThere base log from upto (λ stray_rows. HeldThere base log from upto (AreLeft reps got roomy stray_rows))
    left_there got roomy s = record {
      place = strays.place;
      low = strays.low;
      high = strays.high;
      holds = held_there (AreLeft reps got roomy (rows_at base log strays.place)) strays.holds;
    }
      where
        strays : HeldThere base log from upto (λ stray_rows. WasSeen (AreLeft reps got roomy stray_rows) v w)
        strays = held_there (λ stray_rows. WasSeen (AreLeft reps got roomy stray_rows) v w) s

    -- each item of a round was asked for
    pub round_asks : RoundAsks base log now reps from upto
    round_asks = record {
      got = items.got;
      roomy = items.roomy;
      heard = held_there (AreHeard reps now items.got) items.heard;
      left = ⊎_elim (λ none. inl none) (λ some. inr (left_there items.got items.roomy some)) items.left;
      each = λ i inside.
          asked_for i (items.asked.each i (subst (λ (xs : List Item). Contains xs i)
          (its_mine 0 v w sees items.asked.later) inside));
    }

  -- so it is without items
  none_asks : (now : Moment) (reps : List CellRep) → by_number 0 fresh ≡ [] → RoundAsks base log now reps from upto
  none_asks now reps none = record {
    got = [];
    roomy = [];
    heard = record {
      place = from;
      low = omega arith;
      high = begins_within before (before ++ fresh) (fresh, refl);
      holds = λ a inside. absurd (omega (arith, inside.1));
    };
    left = inl refl;
    each = λ i inside. absurd (nobody i (subst (λ (xs : List Item). Contains xs i) (its_items 0 ∙ none) inside));
  }
    where
      nobody : (i : Item) → Contains [] i → ⊥
      nobody i inside = omega (arith, inside.1)

  -- a round that was cut off, if the phase has one
  pub round_cut : (round : Option RoundLine) (now : Moment) (reps : List CellRep)
      → IsRoundCut round base before fresh now reps
      → RoundAsksIf round base log now reps from upto
  round_cut None now reps none = its_items 0 ∙ none
  round_cut (Some line) now reps (inl none) = none_asks now reps none
  round_cut (Some line) now reps (inr cut) = round_asks now reps cut.first cut.last cut.sees cut.items

  -- a round that was held and told may be one that was cut off
  pub round_as_cut : (round : Option RoundLine) (now : Moment) (mids news : List ActorState) (report : Option Report)
      → RoundRan round base before fresh now mids news report → RoundAsksIf round base log now (reps_of mids) from upto
  round_as_cut None now mids news report ran = its_items 0 ∙ ran.0
  round_as_cut (Some line) now mids news report ran = round_asks now
      (reps_of mids) ran.first ran.last ran.sees ran.items

  module _ (converges : CompleteRoundsConverge) (accounts : RoundsHaveAccounts) (now : Moment) (line : RoundLine)
      (olds news : List ActorState)
      (apart : StandApart (names_of (reps_of olds))) (v w : PortView) (sees : SeesPhase base before fresh 0 v w)
      (later : IsLater v w) where
    report_agrees : (r : Report) → RoundOf now line (reps_of olds) (reps_of news) v w r
        → ReportAgrees base log now line from upto olds news r
    report_agrees r h = record {
      line_is = h.round.reports.line_is;
      low = omega (arith, begins_within before v.seen sees.from, account.counts.start);
      high = omega (arith, begins_within w.seen (before ++ fresh) sees.upto, h.round.reports.end_is);
      first = v;
      last = w;
      sees = sees_between 0 v w sees later;
      ends = h.ends;
      losses = h.losses;
      round = h.round;
      account = account;
      items = λ i inside. by_account (account.items i (subst (λ (xs : List Item). Contains xs i) is_mine inside));
      stores = h.round.reports.stores;
      complete = λ is.
          subst (λ (x : Rows). IsConverged x r.stores.value now) (rows_last 0 v w sees later ∙ ap (rows_at base log)
          (sym h.round.reports.end_is))
          (converges 0 now line.line (standing v (reps_of olds) (wire_at (Some (round_ends line)) 0))
          (standing w (reps_of news) (wire_at h.ends h.losses)) r h.round apart is);
    }
      where
        account : HasAccount 0 now (standing v (reps_of olds) (wire_at (Some (round_ends line)) 0))
            (standing w (reps_of news) (wire_at h.ends h.losses)) r
        account = accounts 0 now line.line (standing v (reps_of olds) (wire_at (Some (round_ends line)) 0))
            (standing w (reps_of news) (wire_at h.ends h.losses)) r h.round

        is_mine : by_number 0 (between from upto log) ≡ account.mine
        is_mine = its_items 0 ∙ append_cancel_left v.mine (by_number 0 fresh) account.mine
            (sym sees.own ∙ account.mine_is)

        last_is : take r.end log ≡ w.seen
        last_is = ap (λ (n : ℕ). take n log) h.round.reports.end_is
            ∙ begins_taken w.seen log (begins_then w.seen (before ++ fresh) log sees.upto goes)

        by_account : {i : Item} → IsItemAsked 0 now account.got account.roomy r.start w i
            → IsAskedFor base log now account.got account.roomy r.start r.end i
        by_account {i = i} e = record {
          place = e.place;
          low = e.low;
          behind = subst (λ (xs : List Item). Contains (drop e.place xs) i) (sym last_is) e.behind;
          asked = subst (λ (r : Rows). IsOfTable account.got account.roomy now r (command_in i)) rows e.asked;
        }
          where
            short : e.place ≤ r.end
            short = omega (arith, e.behind.1, length-drop e.place w.seen, h.round.reports.end_is)

            rows : rows_at w.base w.seen e.place ≡ rows_at base log e.place
            rows = ap (λ (x : Rows). rows_at x w.seen e.place) (later.base ∙ sees.base_is)
                ∙ ap (λ (xs : List Item). replay_log base (take e.place xs)) (sym last_is)
                ∙ ap (replay_log base) (take-take e.place r.end log short)

    reported : (report : Option Report) → IsToldBy now line (reps_of olds) (reps_of news) v w fresh report
        → IsReported base log now line from upto olds news report
    reported None is = (
      is.0,
      subst (λ (xs : List Item). Contains xs (Doubt 0 is.0))
          (sym (fresh_between before fresh log goes)) is.1,
    )
    reported (Some r) is = report_agrees r is

  -- a round that was held, if the phase has one
  pub round_agrees : (converges : CompleteRoundsConverge) (accounts : RoundsHaveAccounts) (round : Option RoundLine)
      (now : Moment) (mids news : List ActorState)
      (report : Option Report) → StandApart (names_of (reps_of mids))
      → RoundRan round base before fresh now mids news report
      → RoundAgreesIf round base log now from upto mids news report
  round_agrees converges accounts None now mids news report apart ran = (its_items 0 ∙ ran.0, ran.1.0, ran.1.1)
  round_agrees converges accounts (Some line) now mids news report apart ran = record {
    asks = round_asks now (reps_of mids) ran.first ran.last ran.sees ran.items;
    news_are = ran.news_are ∙ ap (with_reps mids) (sym is);
    kept = subst (KeepReps (reps_of mids)) (sym is) ran.kept;
    reported =
        reported converges accounts now line mids news apart ran.first ran.last ran.sees ran.items.asked.later report
        (subst (λ (rs : List CellRep). IsToldBy now line (reps_of mids) rs ran.first ran.last fresh report)
        (sym is) ran.told);
  }
    where
      is : reps_of news ≡ ran.reps
      is = ap reps_of ran.news_are ∙ reps_put mids ran.reps ran.kept
