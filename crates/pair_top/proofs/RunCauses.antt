-- The causes of a run that ended so: a fault of the sink, or of a disk.
use Rattle.std.proofs.Common.{◌≡◌, ◌⊎◌, inl, inr, ◌∙◌, ℕ, ◌≤◌, Bool, true, false, List, ◌++◌, Option, refl, sym, subst, arith}
use Rattle.std.specs.Prelude.{◌||◌}
use Rattle.std.proofs.lemmas.List.Folds.{list_any-append}
use Rattle.byte_ports.specs.Cause.{Rose}
use Rattle.bbs_model.specs.declared.rows.Rows.{Rows}
use Rattle.pair_lines.specs.declared.answered.PairAnswered.{PairAnswered}
use Rattle.pair_runs.specs.Accounts.{is_any_disk}
use Rattle.pair_runs.specs.Phases.{StopsIn}
use Rattle.pair_runs.specs.declared.phases.PhasesEnded.{PhasesEnded}
use Rattle.pair_runs.specs.declared.phases.PhasesEnded.TheVariants as ended
use Rattle.program_ends.specs.Ports.{PrintsTo}
use Rattle.program_ends.specs.declared.ending.Ending.{Ending}
use Rattle.program_ends.specs.declared.ending.Ending.TheVariants as ending
use Rattle.scenario_lines.specs.declared.script.Phase.{Phase}
use Rattle.scenario_lines.specs.declared.script.Script.{Script}
use Rattle.pair_top.specs.Runs.{Finishes, RunsScript, Sums}

or_true : (a b : Bool) → b ≡ true → (a || b) ≡ true
or_true true b is = refl
or_true false b is = is

-- a disk failed in one of the calls
any_last : (first last : List PairAnswered) → is_any_disk last ≡ true → is_any_disk (first ++ last) ≡ true
any_last first last is = list_any-append _ first last ∙ or_true (is_any_disk first) (is_any_disk last) is

-- ---- the sink

-- a summary that wasn't printed whole
sum_failed : (how : Ending) (line : List ℕ) (held held' : Option (List ℕ)) (faults faults' : ℕ) → (ending.Unwritten ≡ how → ⊥)
    → Sums how ending.Unwritten line held held' faults faults' → Rose faults faults'
sum_failed how line held held' faults faults' not (inl (is, prints)) = absurd (not is)
sum_failed how line held held' faults faults' not (inr (inl (is, prints))) = prints.cause.rose refl
sum_failed how line held held' faults faults' not (inr (inr sums)) = absurd (cc (sums.0))

-- a text that was printed whole had no fault
rose_behind : (text : List ℕ) (held held' : Option (List ℕ)) (n m k : ℕ) → PrintsTo true text held held' n m → Rose m k → Rose n k
rose_behind text held held' n m k prints rose = subst (λ (i : ℕ). Rose i k) (prints.cause.stood refl) rose

module _ (script : Script) (rest : List Phase) (last : List PairAnswered) (before line : List ℕ) (extra : ℕ)
    (held mid held' : Option (List ℕ)) (n m k : ℕ) where
  -- phases that stopped so, and what stands behind them: the sink failed in a text or in the summary
  text_failed : (end : PhasesEnded) → StopsIn end script rest last before extra held mid n m
      → Finishes end ending.Unwritten line mid held' m k → Rose n k
  text_failed ended.Done stops finishes =
      rose_behind before held mid n m k stops.3
      (sum_failed ending.Done line mid held' m k (λ never. absurd (cc (never))) finishes)
  text_failed ended.Doubt stops finishes =
      rose_behind (before ++ stops.0) held mid n m k stops.4
      (sum_failed ending.Doubt line mid held' m k (λ never. absurd (cc (never))) finishes)
  text_failed ended.Unwritten stops finishes =
      subst (λ (i : ℕ). Rose n i) (sym finishes.2) (stops.2.cause.rose refl)
  text_failed ended.OutOfMemory stops finishes = absurd (cc (finishes.0))

  -- where it ends with a doubt a disk failed in the last phase
  doubt_last : (end : PhasesEnded) → StopsIn end script rest last before extra held mid n m
      → Finishes end ending.Doubt line mid held' m k → is_any_disk last ≡ true
  doubt_last ended.Done stops (inl (is, prints)) = absurd (cc (is))
  doubt_last ended.Done stops (inr (inl (is, prints))) = absurd (cc (is))
  doubt_last ended.Done stops (inr (inr sums)) = absurd (cc (sums.0))
  doubt_last ended.Doubt stops finishes = stops.2
  doubt_last ended.Unwritten stops finishes = absurd (cc (finishes.0))
  doubt_last ended.OutOfMemory stops finishes = absurd (cc (finishes.0))

-- ---- a run

rose_up_to : (n m k : ℕ) → Rose n m → m ≤ k → Rose n k
rose_up_to n m k rose le = omega (arith, rose, le)

module _ (script : Script) (k : ℕ) (base : Rows) (answers : List PairAnswered) (first : Option (List PairAnswered))
    (held held' : Option (List ℕ)) (faults faults' : ℕ) (primary primary' standby standby' : ℕ) where
  -- the sink failed
  pub run_unwritten : RunsScript script k base ending.Unwritten answers first held held' faults faults' primary primary' standby standby'
      → Rose faults faults'
  run_unwritten runs = text_failed script runs.phases.rest runs.phases.last runs.phases.text _ runs.phases.extra
      held runs.mid held' faults runs.mid_faults faults' runs.end runs.phases.stops runs.finishes

  -- a disk failed
  pub run_doubt : RunsScript script k base ending.Doubt answers first held held' faults faults' primary primary' standby standby'
      → Rose primary primary' ⊎ Rose standby standby'
  run_doubt runs =
      let last = doubt_last script runs.phases.rest runs.phases.last runs.phases.text _ runs.phases.extra
      held runs.mid held' faults runs.mid_faults faults' runs.end runs.phases.stops runs.finishes in
      elim (runs.phases.served.blames.rose (any_last runs.phases.first runs.phases.last last)) [
        | inl rose ↦ inl (rose_up_to primary runs.last.primary_faults primary' rose runs.last_primary)
        | inr rose ↦ inr (rose_up_to standby runs.last.standby_faults standby' rose runs.last_standby)
      ]
