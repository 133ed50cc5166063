-- A script on a pair that is never given up: all that was to run ran, or memory ran out between two calls.
use Rattle.std.proofs.Common.{◌≡◌, inr, ℕ, suc, ◌+◌, ◌<◌, ◌≤◌, List, [], ◌∷◌, ◌++◌, length, Option, None, refl, sym, ap, subst, ◌∙◌, arith, length-append}
use Rattle.disk_trait.specs.Past.{Past}
use Rattle.pair_lines.specs.Answers.{summary_line}
use Rattle.pair_lines.specs.declared.answered.PairAnswered.{PairAnswered}
use Rattle.pair_runs.specs.Phases.{PhasesEnd}
use Rattle.pair_runs.specs.Served.{ServerView}
use Rattle.pair_runs.specs.declared.phases.PhasesEnded.{PhasesEnded}
use Rattle.pair_runs.specs.declared.phases.PhasesEnded.TheVariants as ended
use Rattle.program_ends.specs.declared.ending.Ending.{Ending}
use Rattle.program_ends.specs.declared.ending.Ending.TheVariants as ending
use Rattle.scenario_lines.specs.declared.script.Phase.{Phase}
use Rattle.scenario_lines.specs.declared.script.Script.{Script}
use Rattle.standby_board.specs.Calls.{IsSamePair}
use Rattle.standby_board.specs.Pairs.{PairView}
use Rattle.pair_top.specs.Boards.{LeavesBoards, LeavesPair}
use Rattle.pair_top.specs.Runs.{Finishes, IsToldTakeover, RunsScript, counts_of, fresh_server, phases_before}
use Rattle.pair_top.specs.Servers.{pair_server}
use Rattle.pair_top.specs.TakeOvers.{Starves}
use Rattle.pair_top.proofs.Lifting.{fresh_is}
use Rattle.pair_top.proofs.Joining.{ends_longer, ends_starved, none_end}
use Rattle.pair_top.proofs.Numbers.{never_due, told_never}

-- how many of the phases that were to run ran
told_few : (script : Script) (ps : List Phase) (how : PhasesEnded) (count : ℕ) (v w : ServerView)
    (answers answers' : List PairAnswered) (held held' : Option (List ℕ)) (writes writes' : ℕ) (k n : ℕ)
    → length ps ≤ phases_before k n
    → PhasesEnd script ps how count v w answers answers' held held' writes writes' → IsToldTakeover how k count 0
told_few script ps ended.Done count v w answers answers' held held' writes writes' k n few ends =
    let parts : length ps ≡ length ends.ran + length ends.rest =
    ap length ends.split ∙ length-append ends.ran ends.rest in
    told_never ended.Done k count
    (never_due k n count (omega (arith, few, parts, ends.told_is, ends.stops.2)))
told_few script ps ended.Doubt count v w answers answers' held held' writes writes' k n few ends =
    let parts : length ps ≡ length ends.ran + length ends.rest =
    ap length ends.split ∙ length-append ends.ran ends.rest in
    let some : length ends.rest ≡ suc (length ends.stops.1.later) = ap length ends.stops.1.split in
    told_never ended.Doubt k count
    (never_due k n count (omega (arith, few, parts, some, ends.told_is, ends.stops.3)))
told_few script ps ended.Unwritten count v w answers answers' held held' writes writes' k n few ends = tt
told_few script ps ended.OutOfMemory count v w answers answers' held held' writes writes' k n few ends = tt

module _ {D E : Type 0} (told : D → Option Past) (faults : D → ℕ) (told' : E → Option Past) (faults' moment' : E → ℕ)
    (script : Script) (k : ℕ) (u : PairView D E) (fresh : u.primary.log ≡ []) (fresh' : u.standby.log ≡ [])
    (level : u.missing ≡ None) where
  -- what comes of a script
  abbrev pub Comes : Ending → List PairAnswered → Option (List PairAnswered) → Option (List ℕ) → Option (List ℕ)
      → ℕ → ℕ → D → E → Type 0
  Comes how answers first held held' writes writes' primary standby =
      RunsScript script k u.primary.base how answers first held held' writes writes'
      (faults u.primary.disk) (faults primary) (faults' u.standby.disk) (faults' standby)
      × LeavesBoards told faults told' faults' moment' first u answers primary standby

  pub from_fresh : (phases : List Phase) (how : PhasesEnded) (count : ℕ) (w : ServerView) (answers : List PairAnswered)
      (held held' : Option (List ℕ)) (writes writes' : ℕ) → script.phases ≡ phases
      → PhasesEnd script phases how count (pair_server faults faults' u) w [] answers held held' writes writes'
      → PhasesEnd script script.phases how count
      (fresh_server u.primary.base (faults u.primary.disk) (faults' u.standby.disk)) w [] answers held held' writes writes'
  from_fresh phases how count w answers held held' writes writes' is ends =
      subst (λ (v : ServerView). PhasesEnd script script.phases how count v w [] answers held held' writes writes')
      (fresh_is faults faults' u fresh fresh' level)
      (subst (λ (l : List Phase). PhasesEnd script l how count (pair_server faults faults' u) w [] answers held held' writes writes')
      (sym is) ends)

  leaves_from : (v : PairView D E) (answers : List PairAnswered) (primary : D) (standby : E) → IsSamePair u v
      → LeavesPair told faults told' faults' moment' v answers primary standby
      → LeavesPair told faults told' faults' moment' u answers primary standby
  leaves_from v answers primary standby same leaves = record {
    last = leaves.last;
    same = record {
      primary = leaves.same.primary ∙ same.primary;
      standby = leaves.same.standby ∙ same.standby;
      floor = leaves.same.floor ∙ same.floor;
    };
    log = leaves.log;
    covers = leaves.covers;
    stands = leaves.stands;
    shows = leaves.shows;
    kept = leaves.kept;
    primary_is = leaves.primary_is;
    standby_is = leaves.standby_is;
  }

  module _ (v : PairView D E) (same : IsSamePair u v) (before behind : List Phase)
      (split : script.phases ≡ before ++ behind) (end : PhasesEnded) (count : ℕ) (answers : List PairAnswered)
      (held mid : Option (List ℕ)) (writes some : ℕ)
      (ends : PhasesEnd script before end count (pair_server faults faults' u) (pair_server faults faults' v)
      [] answers held mid writes some) where
    -- the pair was never given up
    pub stays : (end ≡ ended.Done → behind ≡ []) → length before ≤ phases_before k (length script.phases)
        → (how : Ending) (held' : Option (List ℕ)) (writes' : ℕ)
        → Finishes end how (summary_line (counts_of u.primary.base.next answers count 0)) mid held' some writes'
        → (primary : D) (standby : E) → (primary ≡ v.primary.disk) × (standby ≡ v.standby.disk)
        → LeavesPair told faults told' faults' moment' v answers primary standby
        → Comes how answers None held held' writes writes' primary standby
    stays none few how held' writes' finishes primary standby disks leaves = (
      record {
        end = end;
        count = count;
        last = pair_server faults faults' v;
        last_primary = omega (arith, ap faults disks.0);
        last_standby = omega (arith, ap faults' disks.1);
        mid = mid;
        mid_faults = some;
        phases = from_fresh (before ++ behind) end count (pair_server faults faults' v) answers held mid writes some split
            (ends_longer script behind before end count (pair_server faults faults' u) (pair_server faults faults' v)
            [] answers held mid writes some none ends);
        takeover = 0;
        takes = refl;
        told = told_few script before end count (pair_server faults faults' u) (pair_server faults faults' v)
            [] answers held mid writes some k (length script.phases) few ends;
        finishes = finishes;
      },
      leaves_from v answers primary standby same leaves,
    )

    starves_at : (rest : List Phase) → script.phases ≡ before ++ rest → 0 < length rest → end ≡ ended.Done
        → (how : Ending) (held' : Option (List ℕ)) (writes' : ℕ) (primary : D) (standby : E)
        → Starves told faults told' faults' moment' v answers answers how mid held' some writes' primary standby
        → Comes how answers None held held' writes writes' primary standby
    starves_at [] parts left done how held' writes' primary standby starves = absurd (omega arith)
    starves_at (q ∷ qs) parts left done how held' writes' primary standby starves = (
      record {
        end = ended.OutOfMemory;
        count = count;
        last = pair_server faults faults' v;
        last_primary = omega (arith, ap faults starves.disks.0);
        last_standby = omega (arith, ap faults' starves.disks.1);
        mid = mid;
        mid_faults = some;
        phases = from_fresh (before ++ q ∷ qs) ended.OutOfMemory count (pair_server faults faults' v) answers held mid
            writes some parts
            (ends_starved script before count (pair_server faults faults' u) (pair_server faults faults' v) []
            answers held mid writes some
            (subst (λ (e : PhasesEnded). PhasesEnd script before e count (pair_server faults faults' u)
            (pair_server faults faults' v) [] answers held mid writes some) done ends) q qs);
        takeover = 0;
        takes = refl;
        told = tt;
        finishes = (starves.how_is, starves.silent.0, starves.silent.1);
      },
      leaves_from v answers primary standby same starves.leaves,
    )

    -- memory ran out before the next call
    pub starves_behind : 0 < length behind → end ≡ ended.Done → (answers' : List PairAnswered) (how : Ending)
        (held' : Option (List ℕ)) (writes' : ℕ) (primary : D) (standby : E)
        → Starves told faults told' faults' moment' v answers answers' how mid held' some writes' primary standby
        → Comes how answers' None held held' writes writes' primary standby
    starves_behind left done answers' how held' writes' primary standby starves =
        subst (λ (l : List PairAnswered). Comes how l None held held' writes writes' primary standby)
        (sym starves.answers_are)
        (starves_at behind split left done how held' writes' primary standby
        (subst (λ (l : List PairAnswered).
        Starves told faults told' faults' moment' v answers l how mid held' some writes' primary standby)
        starves.answers_are starves))

  starves_before : (phases : List Phase) → script.phases ≡ phases → (how : Ending) (held held' : Option (List ℕ))
      (writes writes' : ℕ) (primary : D) (standby : E)
      → how ≡ ending.OutOfMemory → (held' ≡ held) × (writes' ≡ writes)
      → (primary ≡ u.primary.disk) × (standby ≡ u.standby.disk)
      → RunsScript script k u.primary.base how [] None held held' writes writes'
      (faults u.primary.disk) (faults primary) (faults' u.standby.disk) (faults' standby)
  starves_before [] none how held held' writes writes' primary standby is silent disks = record {
    end = ended.Done;
    count = 0;
    last = pair_server faults faults' u;
    last_primary = omega (arith, ap faults disks.0);
    last_standby = omega (arith, ap faults' disks.1);
    mid = held;
    mid_faults = writes;
    phases = from_fresh [] ended.Done 0 (pair_server faults faults' u) [] held held writes writes none
        (none_end script (pair_server faults faults' u) [] held writes);
    takeover = 0;
    takes = refl;
    told = told_never ended.Done k 0 (never_due k 0 0 (omega arith));
    finishes = inr (inr (is, silent.0, silent.1));
  }
  starves_before (q ∷ qs) some how held held' writes writes' primary standby is silent disks = record {
    end = ended.OutOfMemory;
    count = 0;
    last = pair_server faults faults' u;
    last_primary = omega (arith, ap faults disks.0);
    last_standby = omega (arith, ap faults' disks.1);
    mid = held;
    mid_faults = writes;
    phases = from_fresh (q ∷ qs) ended.OutOfMemory 0 (pair_server faults faults' u) [] held held writes writes some
        (ends_starved script [] 0 (pair_server faults faults' u) (pair_server faults faults' u) [] [] held held writes
        writes (none_end script (pair_server faults faults' u) [] held writes) q qs);
    takeover = 0;
    takes = refl;
    told = tt;
    finishes = (is, silent.0, silent.1);
  }

  -- memory ran out before the first call
  pub starves_first : (how : Ending) (answers : List PairAnswered) (held held' : Option (List ℕ)) (writes writes' : ℕ)
      (primary : D) (standby : E)
      → Starves told faults told' faults' moment' u [] answers how held held' writes writes' primary standby
      → Comes how answers None held held' writes writes' primary standby
  starves_first how answers held held' writes writes' primary standby starves =
      subst (λ (l : List PairAnswered). Comes how l None held held' writes writes' primary standby)
      (sym starves.answers_are) (
        starves_before script.phases refl how held held' writes writes' primary standby starves.how_is
            starves.silent starves.disks,
        starves.leaves,
      )
