-- How the program ends, by its words and by what the source gave.
use Rattle.std.proofs.Common.{◌≡◌, ◌⊎◌, inl, inr, ℕ, Bool, false, List, Option, Some, Err, refl, sym, ap, subst, ◌∙◌}
use Rattle.std.specs.Prelude.{◌==◌}
use Rattle.byte_ports.specs.Cause.{HasCause}
use Rattle.pair_lines.specs.Words.{AsksFor}
use Rattle.pair_lines.specs.declared.answered.PairAnswered.{PairAnswered}
use Rattle.pair_runs.specs.declared.phases.PhasesEnded.{PhasesEnded}
use Rattle.pair_runs.specs.declared.phases.PhasesEnded.TheVariants as ended
use Rattle.program_ends.specs.declared.ending.Ending.{Ending}
use Rattle.program_ends.specs.declared.ending.Ending.TheVariants as ending
use Rattle.scenario_lines.specs.declared.script.Script.{Script}
use Rattle.pair_top.specs.Endings.{EndsAs, StaysAs, status_of}
use Rattle.pair_top.specs.Reading.{ReadsPair, is_unread_pair}
use Rattle.pair_top.specs.Runs.{Finishes}
use Rattle.pair_top.specs.Top.{EndsRun, EndsUnpaired, EndsUntouched, EndsWithoutPrimary, EndsWithoutStandby, IsIdle, NumberEnds, PairEnds, PairPorts, ReadsAndRuns, ScriptEnds}
use Rattle.pair_top.specs.declared.ending.PairEnding.{PairEnding}
use Rattle.pair_top.specs.declared.ending.PairEnding.TheVariants.{Run, OtherLine}
use Rattle.pair_top.proofs.EndsGive.{not_before}

-- a run ends in one of these ways
abbrev IsRunEnd : Ending → Type 0
IsRunEnd how = (how ≡ ending.Done) ⊎ ((how ≡ ending.Doubt) ⊎ ((how ≡ ending.Unwritten) ⊎ (how ≡ ending.OutOfMemory)))

run_end : (end : PhasesEnded) (how : Ending) (line : List ℕ) (held held' : Option (List ℕ)) (writes writes' : ℕ)
    → Finishes end how line held held' writes writes' → IsRunEnd how
run_end ended.Done how line held held' writes writes' (inl sums) = inl sums.0
run_end ended.Done how line held held' writes writes' (inr (inl sums)) = inr (inr (inl sums.0))
run_end ended.Done how line held held' writes writes' (inr (inr sums)) = inr (inr (inr sums.0))
run_end ended.Doubt how line held held' writes writes' (inl sums) = inr (inl sums.0)
run_end ended.Doubt how line held held' writes writes' (inr (inl sums)) = inr (inr (inl sums.0))
run_end ended.Doubt how line held held' writes writes' (inr (inr sums)) = inr (inr (inr sums.0))
run_end ended.Unwritten how line held held' writes writes' is = inr (inr (inl is.0))
run_end ended.OutOfMemory how line held held' writes writes' is = inr (inr (inr is.0))

-- ---- a script for a pair

module _ (script : Script) (k : ℕ) (answers : List PairAnswered) (v w : PairPorts) where
  abbrev Ends : PairEnding → Type 0
  Ends how = ScriptEnds how script k answers v w

  abbrev Runs : Ending → Type 0
  Runs how = EndsRun script k how answers v w

  ran_so : (how : Ending) → IsRunEnd how → Runs how → Ends (Run how)
  ran_so how (inl is) runs = subst (λ (h : Ending). Ends (Run h)) (sym is) (subst Runs is runs)
  ran_so how (inr (inl is)) runs = subst (λ (h : Ending). Ends (Run h)) (sym is) (subst Runs is runs)
  ran_so how (inr (inr (inl is))) runs = subst (λ (h : Ending). Ends (Run h)) (sym is) (subst Runs is runs)
  ran_so how (inr (inr (inr is))) runs = subst (λ (h : Ending). Ends (Run h)) (sym is) (inl (subst Runs is runs))

  -- it ran on the pair
  pub ran_ends : (other : PairEnding) (how : Ending) → other ≡ Run how → Runs how → Ends other
  ran_ends other how is runs =
      let r = runs.runs.runs in
      subst Ends (sym is) (ran_so how
      (run_end r.end how _ r.mid w.held r.mid_faults w.write_faults r.finishes) runs)

  never : (how : Ending) → (EndsWithoutPrimary how v w → ⊥) → (EndsWithoutStandby (Run how) v w → ⊥)
      → EndsWithoutPrimary how v w ⊎ EndsWithoutStandby (Run how) v w → Ends (Run how)
  never how primary standby (inl ends) = absurd (primary ends)
  never how primary standby (inr ends) = absurd (standby ends)

  idle_so : (how : PairEnding) → IsIdle answers v w → EndsUnpaired how v w → Ends how
  idle_so (Run ending.Done) idle ends = never ending.Done (λ e. e.primary) (λ e. e.cause) ends
  idle_so (Run ending.Doubt) idle ends = never ending.Doubt (λ e. e.primary) (λ e. e.cause) ends
  idle_so (Run ending.Unwritten) idle ends = never ending.Unwritten (λ e. e.primary) (λ e. e.cause) ends
  idle_so (Run ending.OutOfMemory) idle ends = inr (idle, ends)
  idle_so how idle ends = (idle, ends)

  -- there was no pair
  pub idle_ends : (other how : PairEnding) → other ≡ how → IsIdle answers v w → EndsUnpaired how v w → Ends other
  idle_ends other how is idle ends = subst Ends (sym is) (idle_so how idle ends)

  -- the source hadn't failed
  not_read : (how : PairEnding) → Ends how → status_of how == 3 ≡ false
  not_read (Run ending.Read) ends = absurd (not_before script k answers v w (Run ending.Read) ends refl)
  not_read how ends = refl

  pub read_cause : (how : PairEnding) (n m : ℕ) → Ends how → HasCause false n m → HasCause (status_of how == 3) n m
  read_cause how n m ends cause = subst (λ (b : Bool). HasCause b n m) (sym (not_read how ends)) cause

-- ---- a source

module _ (k : ℕ) (answers : List PairAnswered) (left left' : Option (List ℕ)) (v w : PairPorts) where
  abbrev NEnds : PairEnding → Type 0
  NEnds how = NumberEnds how k answers left left' v w

  -- it gave a script for a pair
  pub script_ends : (how : PairEnding) → ReadsAndRuns how k answers left left' v w → NEnds how
  script_ends (Run (ending.Script fault)) runs =
      absurd (not_before runs.script k answers v w (Run (ending.Script fault)) runs.ends refl)
  script_ends (Run ending.Read) runs = absurd (not_before runs.script k answers v w (Run ending.Read) runs.ends refl)
  script_ends (Run ending.TooLong) runs =
      absurd (not_before runs.script k answers v w (Run ending.TooLong) runs.ends refl)
  script_ends (OtherLine line) runs = absurd (not_before runs.script k answers v w (OtherLine line) runs.ends refl)
  script_ends (Run ending.OutOfMemory) runs = inl runs
  script_ends how runs = runs

  untouched_as : (how other : PairEnding) → how ≡ other → EndsUntouched how v w → EndsUntouched other v w
  untouched_as how other is ends = subst (λ (h : PairEnding). EndsUntouched h v w) is ends

  exactly : (what : PairEnding) → ReadsPair (Err what) left left' → IsIdle answers v w → EndsUntouched what v w → NEnds what
  exactly (Run (ending.Script fault)) reads idle ends = (idle, ends, reads)
  exactly (Run ending.Read) reads idle ends = (idle, ends, reads)
  exactly (Run ending.TooLong) reads idle ends = (idle, ends, reads)
  exactly (Run ending.OutOfMemory) reads idle ends = inr (idle, ends)
  exactly (OtherLine line) reads idle ends = (idle, ends, reads)
  exactly what reads idle ends = absurd reads

  unread_so : (what how : PairEnding) → EndsAs what how → ReadsPair (Err what) left left' → IsIdle answers v w
      → EndsUntouched how v w → NEnds how
  unread_so what how (inl is) reads idle ends =
      subst NEnds (sym is) (exactly what reads idle (untouched_as how what is ends))
  unread_so what how (inr is) reads idle ends =
      subst NEnds (sym is) (inr (idle, untouched_as how (Run ending.OutOfMemory) is ends))

  -- it gave none
  pub unread_ends : (other what how : PairEnding) → other ≡ how → EndsAs what how → ReadsPair (Err what) left left'
      → IsIdle answers v w → EndsUntouched how v w → NEnds other
  unread_ends other what how same is reads idle ends = subst NEnds (sym same) (unread_so what how is reads idle ends)

not_three : (what how : PairEnding) → EndsAs what how → status_of what == 3 ≡ false → false ≡ (status_of how == 3)
not_three what how (inl is) other = sym (ap (λ (h : PairEnding). status_of h == 3) is ∙ other)
not_three what how (inr is) other = sym (ap (λ (h : PairEnding). status_of h == 3) is)

-- the source failed where the status says so
unread_same : (what how : PairEnding) (left left' : Option (List ℕ)) → EndsAs what how → StaysAs what how
    → ReadsPair (Err what) left left' → is_unread_pair (Err what) ≡ (status_of how == 3)
unread_same (Run ending.Read) how left left' is stays reads = ap (λ (h : PairEnding). status_of h == 3) (sym stays)
unread_same (Run (ending.Script fault)) how left left' is stays reads = not_three (Run (ending.Script fault)) how is refl
unread_same (Run ending.TooLong) how left left' is stays reads = not_three (Run ending.TooLong) how is refl
unread_same (Run ending.OutOfMemory) how left left' is stays reads = not_three (Run ending.OutOfMemory) how is refl
unread_same (OtherLine line) how left left' is stays reads = not_three (OtherLine line) how is refl
unread_same what how left left' is stays reads = absurd reads

pub unread_cause : (other what how : PairEnding) (left left' : Option (List ℕ)) (n m : ℕ) → other ≡ how → EndsAs what how
    → StaysAs what how → ReadsPair (Err what) left left' → HasCause (is_unread_pair (Err what)) n m
    → HasCause (status_of other == 3) n m
unread_cause other what how left left' n m same is stays reads cause =
    subst (λ (h : PairEnding). HasCause (status_of h == 3) n m) (sym same)
    (subst (λ (b : Bool). HasCause b n m) (unread_same what how left left' is stays reads) cause)

-- ---- the words

module _ (words : List (List ℕ)) (k : ℕ) (answers : List PairAnswered) (left left' : Option (List ℕ)) (v w : PairPorts) where
  -- they ask for a number
  pub number_ends : (how : PairEnding) → AsksFor words (Some k) → NumberEnds how k answers left left' v w
      → PairEnds how words answers left left' v w
  number_ends (Run ending.Usage) asks ends =
      absurd (not_before ends.script k answers v w (Run ending.Usage) ends.ends refl)
  number_ends how asks ends = (k, asks, ends)
