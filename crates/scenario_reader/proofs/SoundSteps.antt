-- What was read keeps what a scenario keeps.
use Rattle.std.proofs.Common.{◌≡◌, ◌≢◌, ℕ, ◌<◌, ◌≤◌, Bool, true, false, ◌&&◌, ◌||◌, if◌then◌else◌, nat_lt, List, [], ◌∷◌, ◌++◌, length, get_or, Option, Some, None, is_some, IfSome, MatchOption, option_to_list, Result, Ok, Err, IfOk, refl, sym, ap, subst, arith}
use Rattle.std.specs.List.{All, AllPairs, list_any}
use Rattle.std.proofs.lemmas.Bool.{ltb-false}
use Rattle.std.proofs.lemmas.List.Elements.{All-nil, All-push}
use Rattle.std.proofs.lemmas.List.Quantifiers.{all_pairs_push}
use Rattle.crash_backoff.specs.declared.moment.Moment.{Moment}
use Rattle.scenario_lines.specs.Acts.{is_of_cell}
use Rattle.scenario_lines.specs.Laws.{FitsItsActor, IsActLine}
use Rattle.scenario_lines.specs.declared.actor.Actor.{Actor}
use Rattle.scenario_lines.specs.declared.content.ActLine.{ActLine}
use Rattle.scenario_lines.specs.declared.content.Content.{Content}
use Rattle.scenario_lines.specs.declared.content.Content.TheVariants.{Phase as At, Acts, Round}
use Rattle.scenario_lines.specs.declared.content.Losses.{Losses}
use Rattle.scenario_reader.specs.Actors.{with_actor}
use Rattle.scenario_reader.specs.Facts.{AllNumbers, IsBefore, IsBesideRound, IsLine, IsPhase}
use Rattle.scenario_reader.specs.Order.{is_cells_line}
use Rattle.scenario_reader.specs.Phases.{act_line, round_line}
use Rattle.scenario_reader.specs.Steps.{acted_in, begun_at, is_before, rounded_in, step, with_line, within}
use Rattle.scenario_reader.specs.declared.fault.ScriptFault.{ScriptFault}
use Rattle.scenario_reader.specs.declared.reading.Reading.{Reading}
use Rattle.scenario_lines.specs.declared.script.Line.{Line}
use Rattle.scenario_lines.specs.declared.script.Phase.{Phase}
use Rattle.scenario_lines.specs.declared.script.RoundLine.{RoundLine}
use Rattle.scenario_reader.proofs.SoundActors.{act_line-is, first_false, none_pass, phase-kept, second_false, with_actor-distinct}
use Rattle.scenario_reader.proofs.SoundPhases.{Grows, IsLast, begun_at-behind, begun_at-is, begun_at-numbers, grown-last, numbers-mapped}

-- what was read keeps what a scenario keeps, and no line has a greater number
pub record IsSound (upto : ℕ) (reading : Reading) : Type 0 where
  pub few : length reading.actors ≤ 256
  pub distinct : AllPairs (λ a b. a ≢ b) reading.actors
  pub closed : All (IsPhase reading.actors) reading.closed
  pub order : AllPairs IsBefore reading.closed
  pub below : All (AllNumbers (λ n. n ≤ upto)) reading.closed
  pub last : MatchOption reading.last (reading.closed ≡ []) (IsLast reading.actors reading.closed upto)

-- what holds where a test is false holds of the answer
ok-else : (b : Bool) (fault : ScriptFault) (r : Result Reading ScriptFault) (P : Reading → Type 0)
    → (b ≡ false → IfOk r P) → IfOk (if b then Err fault else r) P
ok-else true fault r P known = tt
ok-else false fault r P known = known refl

ok-within : (line : ℕ) (reading : Reading) (P : Reading → Type 0) → (length reading.actors ≤ 256 → P reading)
    → IfOk (within line reading) P
ok-within line reading P known =
    ok-else (nat_lt 256 (length reading.actors) || nat_lt 200000 reading.runs) _ (Ok reading) P
    (λ fails. known (ltb-false 256 (length reading.actors)
    (first_false (nat_lt 256 (length reading.actors)) (nat_lt 200000 reading.runs) fails)))

below-more : (upto n : ℕ) (phase : Phase) → upto < n → AllNumbers (λ m. m ≤ upto) phase → AllNumbers (λ m. m ≤ n) phase
below-more upto n phase less known = numbers-mapped (λ m. m ≤ upto) (λ m. m ≤ n) phase (λ m most. omega arith) known

-- a phase begins behind these
begun-sound : (upto n : ℕ) (actors : List Actor) (closed : List Phase) (last : Option Phase) (runs : ℕ) (at : Moment)
    → upto < n → is_before at last ≡ false → IsSound upto
    (record { actors = actors; closed = closed; last = last; runs = runs })
    → IsSound n (record {
      actors = actors;
      closed = closed ++ option_to_list last;
      last = Some (begun_at at);
      runs =
          runs;
    })
begun-sound upto n actors closed None runs at less isnt sound =
    let empty : closed ++ [] ≡ [] = ap (λ ps. ps ++ []) sound.last in
    record {
      few = sound.few;
      distinct = sound.distinct;
      closed = subst (All (IsPhase actors)) (sym empty) (All-nil (IsPhase actors));
      order = subst (AllPairs IsBefore) (sym empty) (λ i j d low high. absurd (omega arith));
      below = subst (All (AllNumbers (λ m. m ≤ n))) (sym empty) (All-nil (AllNumbers (λ m. m ≤ n)));
      last = record {
        own = begun_at-is actors at;
        behind = subst (All (λ p. IsBefore p (begun_at at))) (sym empty) (All-nil (λ p. IsBefore p (begun_at at)));
        below = begun_at-numbers (λ m. m ≤ n) at;
      };
    }
begun-sound upto n actors closed (Some phase) runs at less isnt sound =
    let moment : phase.at.0 ≤ at.0 = ltb-false at.0 phase.at.0 isnt in
    record {
      few = sound.few;
      distinct = sound.distinct;
      closed = All-push (IsPhase actors) closed phase sound.closed sound.last.own;
      order = all_pairs_push IsBefore closed phase sound.order sound.last.behind;
      below = All-push (AllNumbers (λ m. m ≤ n)) closed phase
          (λ k d h. below-more upto n (get_or closed k d) less (sound.below k d h))
          (below-more upto n phase less sound.last.below);
      last = record {
        own = begun_at-is actors at;
        behind = All-push (λ p. IsBefore p (begun_at at)) closed phase
            (λ k d h. begun_at-behind (get_or closed k d) at (let earlier = (sound.last.behind k d h).moment in
            omega arith))
            (begun_at-behind phase at moment);
        below = begun_at-numbers (λ m. m ≤ n) at;
      };
    }

-- the line of an actor beside the round of its phase
beside-round : (o : Option RoundLine) (lines : List Line) (line : Line) (upto : ℕ)
    → IfSome o (λ r. All (IsBesideRound r) lines) → IfSome o (λ r. r.line ≤ upto) → upto < line.line
    → (is_of_cell line.act && is_some o) ≡ false → IfSome o (λ r. All (IsBesideRound r) (lines ++ line ∷ []))
beside-round None lines line upto beside below less isnt = tt
beside-round (Some r) lines line upto beside below less isnt =
    All-push (IsBesideRound r) lines line beside (record {
      number = λ same. absurd (omega (arith, same));
      client =
          and-first (is_of_cell line.act) isnt;
    })
  where
    and-first : (b : Bool) → (b && true) ≡ false → b ≡ false
    and-first true h = h
    and-first false h = refl

line-grows : (phase : Phase) (line : Line) → Grows phase (with_line phase line) line.line
line-grows phase line P known own = record {
  lines = All-push
      (λ (l : Line). P l.line) phase.lines line known.lines own;
  round = known.round;
}

line-phase : (actors : List Actor) (phase : Phase) (line : Line) (upto : ℕ) → IsPhase actors phase → IsLine actors line
    → AllNumbers (λ m. m ≤ upto) phase → upto < line.line → (is_of_cell line.act && is_some phase.round) ≡ false
    → IsPhase actors (with_line phase line)
line-phase actors phase line upto is own below less isnt = record {
  lines = All-push (IsLine actors) phase.lines line is.lines own;
  rising = all_pairs_push (λ (a b : Line). a.line < b.line) phase.lines line is.rising
      (λ k d h. let most = below.lines k d h in omega arith);
  round = beside-round phase.round phase.lines line upto is.round below.round less isnt;
}

-- an actor acts in the last phase
acted-sound : (upto n : ℕ) (actors : List Actor) (closed : List Phase) (last : Option Phase) (runs : ℕ) (act : ActLine)
    → upto < n → IsActLine act → IsSound upto (record { actors = actors; closed = closed; last = last; runs = runs })
    → IfOk (acted_in last (record { actors = actors; closed = closed; last = last; runs = runs }) n act) (IsSound n)
acted-sound upto n actors closed None runs act less is sound = tt
acted-sound upto n actors closed (Some phase) runs act less is sound =
    let line = act_line actors n act in
    let all = with_actor actors act.actor in
    ok-else (is_of_cell act.act && is_some phase.round) _ _ (IsSound n)
    (λ isnt. ok-within n _ (IsSound n) (λ few. record {
      few = few;
      distinct = with_actor-distinct actors act.actor sound.distinct;
      closed = λ k d h. phase-kept actors act.actor (get_or closed k d) (sound.closed k d h);
      order = sound.order;
      below = λ k d h. below-more upto n (get_or closed k d) less (sound.below k d h);
      last = grown-last actors all closed phase (with_line phase line) upto n (line-grows phase line) refl less
          (line-phase all phase line upto (phase-kept actors act.actor phase sound.last.own)
          (act_line-is actors n act is) sound.last.below less isnt)
          sound.last sound.below;
    }))

round-grows : (phase : Phase) (round : RoundLine) → Grows phase (record phase { round = Some round }) round.line
round-grows phase round P known own = record { lines = known.lines; round = own }

round-phase : (actors : List Actor) (phase : Phase) (round : RoundLine) (upto : ℕ) → IsPhase actors phase
    → AllNumbers (λ m. m ≤ upto) phase → upto < round.line → list_any is_cells_line phase.lines ≡ false
    → IsPhase actors (record phase { round = Some round })
round-phase actors phase round upto is below less none = record {
  lines = is.lines;
  rising = is.rising;
  round = λ k d h. record {
    number = λ same. let most = below.lines k d h in absurd (omega (arith, same));
    client = none_pass is_cells_line phase.lines none k d h;
  };
}

-- a round is run in the last phase
rounded-sound : (upto n : ℕ) (actors : List Actor) (closed : List Phase) (last : Option Phase) (runs : ℕ)
    (losses : Losses) → upto < n → IsSound upto (record { actors = actors; closed = closed; last = last; runs = runs })
    → IfOk (rounded_in last (record { actors = actors; closed = closed; last = last; runs = runs }) n losses)
    (IsSound n)
rounded-sound upto n actors closed None runs losses less sound = tt
rounded-sound upto n actors closed (Some phase) runs losses less sound =
    let round = round_line n losses in
    ok-else (is_some phase.round || list_any is_cells_line phase.lines) _ _ (IsSound n)
    (λ isnt. ok-within n _ (IsSound n) (λ few. record {
      few = few;
      distinct = sound.distinct;
      closed = sound.closed;
      order = sound.order;
      below = λ k d h. below-more upto n (get_or closed k d) less (sound.below k d h);
      last = grown-last actors actors closed phase (record phase { round = Some round }) upto n
          (round-grows phase round) refl less
          (round-phase actors phase round upto sound.last.own sound.last.below less
          (second_false (is_some phase.round) (list_any is_cells_line phase.lines) isnt))
          sound.last sound.below;
    }))

-- whatever a line says
pub step-sound : (upto n : ℕ) (reading : Reading) (c : Content) → upto < n → FitsItsActor c → IsSound upto reading
    → IfOk (step reading n c) (IsSound n)
step-sound upto n reading (At at) less fits sound =
    ok-else (is_before at reading.last) _ _ (IsSound n) (λ isnt.
    begun-sound upto n reading.actors reading.closed reading.last reading.runs at less isnt sound)
step-sound upto n reading (Acts act) less fits sound =
    acted-sound upto n reading.actors reading.closed reading.last reading.runs act less fits sound
step-sound upto n reading (Round losses) less fits sound =
    rounded-sound upto n reading.actors reading.closed reading.last reading.runs losses less sound
