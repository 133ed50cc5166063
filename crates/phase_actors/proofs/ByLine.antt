-- The runs of a line and of lines, up to one of them and with the next.
use Rattle.std.proofs.Common.{◌≡◌, length, Option, ◌==◌, ◌<◌, ◌+◌, ℕ, Bool, List, [], ◌∷◌, ◌++◌, map, take, drop, get_or, sym, ap, subst, ◌∙◌, arith}
use Rattle.std.specs.List.{Contains, range_with_len, flat_map}
use Rattle.std.proofs.lemmas.Grind.{flat_map-append}
use Rattle.std.proofs.lemmas.List.{take-append-drop, take_more}
use Rattle.std.proofs.lemmas.List.Elements.{filter-append, Contains-append_left, Contains-append_right}
use Rattle.std.proofs.lemmas.List.FromFn.{take-map-range_with_len, map-range_with_len_more}
use Rattle.bbs_model.specs.PortView.{PortView}
use Rattle.crash_backoff.specs.declared.moment.Moment.{Moment}
use Rattle.scenario_lines.specs.declared.act.Loss.{Loss}
use Rattle.scenario_lines.specs.declared.script.Line.{Line}
use Rattle.phase_actors.specs.Runs.{IsOneActor}
use Rattle.phase_actors.specs.Turns.{CanDo, IsCutShort, lines_by, ActorStanding, Takes, Turn, mark_at, turn_at, line_turn, turns_in, turns_of}
use Rattle.phase_actors.specs.declared.actor_state.ActorState.{ActorState}
use Rattle.phase_actors.proofs.OneActor.{fits_on}
use Rattle.phase_actors.proofs.Taking.{cut_before, cut_then, takes_then}

-- the first runs of a line
abbrev pub first_turns : Line → ℕ → List Turn
first_turns l n = map (turn_at l) (range_with_len 0 n)

one_more : (l : Line) (n : ℕ) → first_turns l (n + 1) ≡ first_turns l n ++ turn_at l n ∷ []
one_more l n = map-range_with_len_more (turn_at l) 0 n n (omega arith)

all_runs : (l : Line) (n : ℕ) → n < l.times → turns_of l ≡ first_turns l (n + 1) ++ drop (n + 1) (turns_of l)
all_runs l n within =
    sym (take-append-drop (n + 1) (turns_of l))
    ∙ ap (λ (ts : List Turn). ts ++ drop (n + 1) (turns_of l))
    (take-map-range_with_len (turn_at l) 0 l.times (n + 1) (omega (arith, within)))

turns_both : (by : ℕ) (xs ys : List Line) → turns_in by (xs ++ ys) ≡ turns_in by xs ++ turns_in by ys
turns_both by xs ys =
    ap (flat_map turns_of) (filter-append (λ (l : Line). l.actor == by) xs ys)
    ∙ flat_map-append turns_of (lines_by by xs) (lines_by by ys)

module _ (by : ℕ) (now : Moment) where
  -- one run more of a line
  pub more_runs : (l : Line) (n other : ℕ) (mark : Option Loss) (s m s' : ActorStanding) → other ≡ by
      → mark ≡ mark_at l.lost n
      → Takes by now (first_turns l n) s m → Takes other now (line_turn l mark ∷ []) m s'
      → Takes by now (first_turns l (n + 1)) s s'
  more_runs l n other mark s m s' by_is mark_is first next =
      subst (λ (ts : List Turn). Takes by now ts s s') (sym (one_more l n))
      (takes_then by now (first_turns l n) (turn_at l n ∷ []) s m s' first
      (subst (λ (k : ℕ). Takes k now (turn_at l n ∷ []) m s') by_is
      (subst (λ (k : Option Loss). Takes other now (line_turn l k ∷ []) m s') mark_is next)))

  -- the next run of a line is cut off
  pub line_cut : (l : Line) (n other : ℕ) (mark : Option Loss) (s m : ActorStanding) (a' : ActorState) (w : PortView)
      → n < l.times
      → other ≡ by → mark ≡ mark_at l.lost n → Takes by now (first_turns l n) s m
      → IsCutShort other now (line_turn l mark ∷ []) m.actor m.view a' w
      → IsCutShort by now (turns_of l) s.actor s.view a' w
  line_cut l n other mark s m a' w within by_is mark_is first cut =
      subst (λ (ts : List Turn). IsCutShort by now ts s.actor s.view a' w) (sym (all_runs l n within))
      (cut_before by now (first_turns l (n + 1)) (drop (n + 1) (turns_of l)) s.actor a' s.view w
      (subst (λ (ts : List Turn). IsCutShort by now ts s.actor s.view a' w) (sym (one_more l n))
      (cut_then by now (first_turns l n) (turn_at l n ∷ []) s m m first a' w
      (subst (λ (k : ℕ). IsCutShort k now (turn_at l n ∷ []) m.actor m.view a' w) by_is
      (subst (λ (k : Option Loss). IsCutShort other now (line_turn l k ∷ []) m.actor m.view a' w) mark_is cut)))))

  module _ (lines : List Line) (i : ℕ) (d : Line) (within : i < length lines) (is : d ≡ get_or lines i d) where
    with_next : take (i + 1) lines ≡ take i lines ++ d ∷ []
    with_next = take_more lines i d within ∙ ap (λ (x : Line). take i lines ++ x ∷ []) (sym is)

    turns_more : turns_in by (take (i + 1) lines) ≡ turns_in by (take i lines) ++ turns_in by (d ∷ [])
    turns_more = ap (turns_in by) with_next ∙ turns_both by (take i lines) (d ∷ [])

    -- one line more
    pub more_lines : (s m s' : ActorStanding) → Takes by now (turns_in by (take i lines)) s m
        → Takes by now (turns_in by (d ∷ [])) m s'
        → Takes by now (turns_in by (take (i + 1) lines)) s s'
    more_lines s m s' first next =
        subst (λ (ts : List Turn). Takes by now ts s s') (sym turns_more)
        (takes_then by now (turns_in by (take i lines)) (turns_in by (d ∷ [])) s m s' first next)

    -- the next line is cut off
    pub lines_cut : (s m : ActorStanding) (a' : ActorState) (w : PortView)
        → Takes by now (turns_in by (take i lines)) s m
        → IsCutShort by now (turns_in by (d ∷ [])) m.actor m.view a' w
        → IsCutShort by now (turns_in by lines) s.actor s.view a' w
    lines_cut s m a' w first cut =
        subst (λ (ts : List Turn). IsCutShort by now ts s.actor s.view a' w) (sym whole)
        (cut_before by now (turns_in by (take (i + 1) lines)) (turns_in by (drop (i + 1) lines)) s.actor a' s.view w
        (subst (λ (ts : List Turn). IsCutShort by now ts s.actor s.view a' w) (sym turns_more)
        (cut_then by now (turns_in by (take i lines)) (turns_in by (d ∷ [])) s m m first a' w cut)))
      where
        whole : turns_in by lines ≡ turns_in by (take (i + 1) lines) ++ turns_in by (drop (i + 1) lines)
        whole = ap (turns_in by) (sym (take-append-drop (i + 1) lines)) ∙ turns_both by (take (i + 1) lines)
            (drop (i + 1) lines)

    -- an actor that can do all lines can do the next, whatever it has done
    pub can_next : (a b : ActorState) → CanDo by lines a → IsOneActor a b → CanDo by (d ∷ []) b
    can_next a b can one l has = fits_on l.act a b one (can l
        (subst (λ (ls : List Line). Contains (lines_by by ls) l) (take-append-drop (i + 1) lines) among))
      where
        mine : Line → Bool
        mine x = x.actor == by

        among : Contains (lines_by by (take (i + 1) lines ++ drop (i + 1) lines)) l
        among =
            subst (λ (ls : List Line). Contains ls l) (sym (filter-append mine (take (i + 1) lines)
            (drop (i + 1) lines)))
            (Contains-append_left (lines_by by (take (i + 1) lines)) (lines_by by (drop (i + 1) lines)) l
            (subst (λ (ls : List Line). Contains (lines_by by ls) l) (sym with_next)
            (subst (λ (ls : List Line). Contains ls l) (sym (filter-append mine (take i lines) (d ∷ [])))
            (Contains-append_right (lines_by by (take i lines)) (lines_by by (d ∷ [])) l has))))
