-- The calls of a line, of an actor's lines and of all actors, up to one of them and with the next.
use Rattle.std.proofs.Common.{◌≡◌, length, Option, ◌==◌, ◌<◌, ◌+◌, ℕ, List, [], ◌∷◌, ◌++◌, map, take, drop, get_or, sym, ap, subst, ◌∙◌, arith}
use Rattle.std.specs.Prelude.{filter}
use Rattle.std.specs.List.{range_with_len, flat_map}
use Rattle.std.proofs.lemmas.Grind.{flat_map-append}
use Rattle.std.proofs.lemmas.List.{append-nil, take-append-drop, take_more}
use Rattle.std.proofs.lemmas.List.Elements.{filter-append}
use Rattle.std.proofs.lemmas.List.FromFn.{take-map-range_with_len, map-range_with_len_more}
use Rattle.bbs_model.specs.declared.command.Command.{Command}
use Rattle.crash_backoff.specs.declared.moment.Moment.{Moment}
use Rattle.pair_lines.specs.declared.answered.PairAnswered.{PairAnswered}
use Rattle.scenario_lines.specs.declared.act.Loss.{Loss}
use Rattle.scenario_lines.specs.declared.script.Line.{Line}
use Rattle.pair_runs.specs.Served.{ServerView}
use Rattle.pair_runs.specs.Turns.{PairTurn, RunsSome, RunsTurns, joined, line_turn, mark_at, turn_at, turns_in, turns_of, turns_with}
use Rattle.pair_runs.proofs.Taking.{runs_then, some_before, some_then}

-- lists of calls, each by its number
module _ (turns : ℕ → List PairTurn) (start all : ℕ) where
  -- those of the first numbers
  abbrev pub first_turns : ℕ → List PairTurn
  first_turns n = joined (map turns (range_with_len start n))

  one_more : (n at : ℕ) → start + n ≡ at → first_turns (n + 1) ≡ first_turns n ++ turns at
  one_more n at is = ap joined (map-range_with_len_more turns start n at is)
      ∙ flat_map-append (λ (part : List PairTurn). part) (map turns (range_with_len start n)) (turns at ∷ [])
      ∙ ap (λ (l : List PairTurn). first_turns n ++ l) (append-nil (turns at))

  all_turns : (n : ℕ) → n < all
      → first_turns all ≡ first_turns (n + 1) ++ joined (drop (n + 1) (map turns (range_with_len start all)))
  all_turns n within =
      ap joined (sym (take-append-drop (n + 1) (map turns (range_with_len start all))))
      ∙ flat_map-append (λ (part : List PairTurn). part) (take (n + 1) (map turns (range_with_len start all)))
      (drop (n + 1) (map turns (range_with_len start all)))
      ∙ ap (λ (l : List (List PairTurn)). joined l ++ joined (drop (n + 1) (map turns (range_with_len start all))))
      (take-map-range_with_len turns start all (n + 1) (omega (arith, within)))

  module _ (n at : ℕ) (is : start + n ≡ at) (v m w : ServerView) (before mid after : List PairAnswered)
      (first : RunsTurns (first_turns n) v m before mid) where
    -- those of one number more
    pub more_turns : RunsTurns (turns at) m w mid after → RunsTurns (first_turns (n + 1)) v w before after
    more_turns next =
        subst (λ (ts : List PairTurn). RunsTurns ts v w before after) (sym (one_more n at is))
        (runs_then (first_turns n) (turns at) v m w before mid after first next)

    -- some of the next ones
    pub turns_cut : n < all → RunsSome (turns at) m w mid after → RunsSome (first_turns all) v w before after
    turns_cut within some =
        subst (λ (ts : List PairTurn). RunsSome ts v w before after) (sym (all_turns n within))
        (some_before (first_turns (n + 1)) (joined (drop (n + 1) (map turns (range_with_len start all)))) v w before
        after
        (subst (λ (ts : List PairTurn). RunsSome ts v w before after) (sym (one_more n at is))
        (some_then (first_turns n) (turns at) v m w before mid after first some)))

turns_both : (at : Moment) (by : ℕ) (xs ys : List Line)
    → turns_in at (xs ++ ys) by ≡ turns_in at xs by ++ turns_in at ys by
turns_both at by xs ys =
    ap (flat_map (turns_of at)) (filter-append (λ (l : Line). l.actor == by) xs ys)
    ∙ flat_map-append (turns_of at) (filter (λ (l : Line). l.actor == by) xs) (filter (λ (l : Line). l.actor == by) ys)

module _ (at : Moment) (by : ℕ) (lines : List Line) (i : ℕ) (d : Line) (within : i < length lines)
    (is : d ≡ get_or lines i d) where
  with_next : take (i + 1) lines ≡ take i lines ++ d ∷ []
  with_next = take_more lines i d within ∙ ap (λ (x : Line). take i lines ++ x ∷ []) (sym is)

  turns_more : turns_in at (take (i + 1) lines) by ≡ turns_in at (take i lines) by ++ turns_in at (d ∷ []) by
  turns_more = ap (λ (ls : List Line). turns_in at ls by) with_next ∙ turns_both at by (take i lines) (d ∷ [])

  module _ (v m w : ServerView) (before mid after : List PairAnswered)
      (first : RunsTurns (turns_in at (take i lines) by) v m before mid) where
    -- one line more
    pub more_lines : RunsTurns (turns_in at (d ∷ []) by) m w mid after
        → RunsTurns (turns_in at (take (i + 1) lines) by) v w before after
    more_lines next =
        subst (λ (ts : List PairTurn). RunsTurns ts v w before after) (sym turns_more)
        (runs_then (turns_in at (take i lines) by) (turns_in at (d ∷ []) by) v m w before mid after first next)

    -- some runs of the next line
    pub lines_cut : RunsSome (turns_in at (d ∷ []) by) m w mid after → RunsSome (turns_in at lines by) v w before after
    lines_cut some =
        subst (λ (ts : List PairTurn). RunsSome ts v w before after) (sym whole)
        (some_before (turns_in at (take (i + 1) lines) by) (turns_in at (drop (i + 1) lines) by) v w before after
        (subst (λ (ts : List PairTurn). RunsSome ts v w before after) (sym turns_more)
        (some_then (turns_in at (take i lines) by) (turns_in at (d ∷ []) by) v m w before mid after first some)))
      where
        whole : turns_in at lines by ≡ turns_in at (take (i + 1) lines) by ++ turns_in at (drop (i + 1) lines) by
        whole = ap (λ (ls : List Line). turns_in at ls by) (sym (take-append-drop (i + 1) lines))
            ∙ turns_both at by (take (i + 1) lines) (drop (i + 1) lines)

-- ---- the runs of a line

-- the first runs of a line
abbrev pub first_runs : Line → Command → ℕ → List PairTurn
first_runs l c n = map (turn_at l c) (range_with_len 0 n)

module _ (l : Line) (c : Command) (n : ℕ) (mark : Option Loss) (mark_is : mark ≡ mark_at l.lost n) (v m w : ServerView)
    (before mid after : List PairAnswered) (first : RunsTurns (first_runs l c n) v m before mid) where
  run_more : first_runs l c (n + 1) ≡ first_runs l c n ++ turn_at l c n ∷ []
  run_more = map-range_with_len_more (turn_at l c) 0 n n (omega arith)

  marked : line_turn l c mark ≡ turn_at l c n
  marked = ap (line_turn l c) mark_is

  -- one run more
  pub more_times : RunsTurns (line_turn l c mark ∷ []) m w mid after
      → RunsTurns (first_runs l c (n + 1)) v w before after
  more_times next =
      subst (λ (ts : List PairTurn). RunsTurns ts v w before after) (sym run_more)
      (runs_then (first_runs l c n) (turn_at l c n ∷ []) v m w before mid after first
      (subst (λ (t : PairTurn). RunsTurns (t ∷ []) m w mid after) marked next))

  -- the next run is cut off
  pub times_cut : n < l.times → RunsSome (line_turn l c mark ∷ []) m w mid after
      → RunsSome (turns_with l c) v w before after
  times_cut within some =
      subst (λ (ts : List PairTurn). RunsSome ts v w before after) (sym whole)
      (some_before (first_runs l c (n + 1)) (drop (n + 1) (turns_with l c)) v w before after
      (subst (λ (ts : List PairTurn). RunsSome ts v w before after) (sym run_more)
      (some_then (first_runs l c n) (turn_at l c n ∷ []) v m w before mid after first
      (subst (λ (t : PairTurn). RunsSome (t ∷ []) m w mid after) marked some))))
    where
      whole : turns_with l c ≡ first_runs l c (n + 1) ++ drop (n + 1) (turns_with l c)
      whole = sym (take-append-drop (n + 1) (turns_with l c))
          ∙ ap (λ (ts : List PairTurn). ts ++ drop (n + 1) (turns_with l c))
          (take-map-range_with_len (turn_at l c) 0 l.times (n + 1) (omega (arith, within)))
