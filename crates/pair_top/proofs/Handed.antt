-- A script on a pair whose standby took over: the phases ran on one server.
use Rattle.std.proofs.Common.{◌≡◌, ℕ, ◌+◌, ◌-◌, ◌<◌, ◌≤◌, List, [], ◌++◌, length, take, Option, Some, None, refl, sym, ap, subst, ◌∙◌, append_assoc, arith, length-append}
use Rattle.std.proofs.Math.Seq.{take-append_seam}
use Rattle.std.proofs.lemmas.Grind.{flat_map-append}
use Rattle.bbs_board.specs.Doubts.{doubts_in}
use Rattle.bbs_board.specs.View.{View}
use Rattle.bbs_model.specs.declared.item.Item.{Item}
use Rattle.disk_trait.specs.Past.{Past}
use Rattle.disk_trait.specs.Runs.{Extends}
use Rattle.disk_trait.specs.Steps.{Goes}
use Rattle.pair_lines.specs.Answers.{summary_line}
use Rattle.pair_lines.specs.declared.answered.PairAnswered.{PairAnswered}
use Rattle.pair_runs.specs.Accounts.{items_in, items_of}
use Rattle.pair_runs.specs.Phases.{PhasesEnd, PlaysPhases}
use Rattle.pair_runs.specs.Served.{ServerView}
use Rattle.pair_runs.specs.declared.phases.PhasesEnded.{PhasesEnded}
use Rattle.pair_runs.specs.declared.phases.PhasesEnded.TheVariants as ended
use Rattle.program_ends.specs.declared.ending.Ending.{Ending}
use Rattle.scenario_lines.specs.declared.script.Phase.{Phase}
use Rattle.scenario_lines.specs.declared.script.Script.{Script}
use Rattle.standby_board.specs.Calls.{IsSamePair}
use Rattle.standby_board.specs.Pairs.{PairView}
use Rattle.pair_top.specs.Runs.{Finishes, IsToldTakeover, TakesOver, counts_of}
use Rattle.pair_top.specs.Servers.{alone_server, pair_server}
use Rattle.pair_top.specs.TakeOvers.{RunsAlone, TakesPairOver}
use Rattle.pair_top.proofs.Calm.{calm_items}
use Rattle.pair_top.proofs.Lifting.{alone_is, ends_lifted, lifted}
use Rattle.pair_top.proofs.Joining.{counted, ends_then, given, played}
use Rattle.pair_top.proofs.Numbers.{due}
use Rattle.pair_top.proofs.Ways.{Comes, from_fresh}

-- the phases behind a take-over before phase k
told_due : (script : Script) (qs : List Phase) (how : PhasesEnded) (count : ℕ) (v w : ServerView)
    (answers answers' : List PairAnswered) (held held' : Option (List ℕ)) (writes writes' : ℕ) (k one : ℕ)
    → 1 ≤ k → one ≡ k - 1 → 0 < length qs
    → PhasesEnd script qs how count v w answers answers' held held' writes writes' → IsToldTakeover how k (one + count) k
told_due script qs ended.Done count v w answers answers' held held' writes writes' k one first is some ends =
    let parts : length qs ≡ length ends.ran + length ends.rest =
    ap length ends.split ∙ length-append ends.ran ends.rest in
    let none : length ends.rest ≡ 0 = ap length ends.stops.0 in
    sym (due k (one + count) first (omega (arith, first, is, some, parts, none, ends.told_is)))
told_due script qs ended.Doubt count v w answers answers' held held' writes writes' k one first is some ends =
    sym (due k (one + count) first (omega (arith, first, is, ends.told_is, ends.stops.3)))
told_due script qs ended.Unwritten count v w answers answers' held held' writes writes' k one first is some ends = tt
told_due script qs ended.OutOfMemory count v w answers answers' held held' writes writes' k one first is some ends = tt

module _ {D E : Type 0} (told : D → Option Past) (faults : D → ℕ) (told' : E → Option Past) (faults' moment' : E → ℕ)
    (script : Script) (k : ℕ) (u : PairView D E) (fresh : u.primary.log ≡ []) (fresh' : u.standby.log ≡ [])
    (level : u.missing ≡ None) where
  -- the standby took over behind phases that all ran
  module _ (v : PairView D E) (same : IsSamePair u v) (before behind : List Phase)
      (split : script.phases ≡ before ++ behind) (one : ℕ) (given_before : List PairAnswered)
      (held mid : Option (List ℕ)) (writes some : ℕ)
      (begun : PhasesEnd script before ended.Done one (pair_server faults faults' u) (pair_server faults faults' v)
      [] given_before held mid writes some)
      (primary_log : v.primary.log ≡ items_in given_before) (standby_log : v.standby.log ≡ items_in given_before)
      (missing : v.missing ≡ None) (alike : v.standby.base ≡ v.primary.base) (start : v.standby_start.log ≡ [])
      (first : 1 ≤ k) (within : k ≤ length script.phases) (behind_is : length before ≡ k - 1) (left : 0 < length behind)
      (answers : List PairAnswered) (how : Ending) (held' : Option (List ℕ)) (writes' : ℕ) (primary : D) (standby : E)
      (takes : TakesPairOver told faults told' faults' moment' script behind k u.primary.base.next v given_before answers how
      mid held' some writes' primary standby) where
    abbrev runs : RunsAlone told' faults' script behind k u.primary.base.next takes.board given_before answers how
        mid held' some writes' standby
    runs = takes.runs

    abbrev goes : PhasesEnd script behind runs.end runs.count (alone_server faults' takes.board) (alone_server faults' runs.last)
        given_before answers mid runs.mid some runs.mid_writes
    goes = runs.phases_end

    abbrev ran : ServerView
    ran = lifted (faults v.primary.disk) (alone_server faults' runs.last)

    one_is : one ≡ k - 1
    one_is = counted script before one (pair_server faults faults' u) (pair_server faults faults' v) [] given_before
        held mid writes some begun ∙ behind_is

    given_is : given_before ≡ begun.first
    given_is = given script before one (pair_server faults faults' u) (pair_server faults faults' v) [] given_before
        held mid writes some begun

    answers_are : answers ≡ given_before ++ (goes.first ++ goes.last)
    answers_are = goes.answers_are ∙ append_assoc given_before goes.first goes.last

    front : take (k - 1) script.phases ≡ before
    front = ap (take (k - 1)) split
        ∙ ap (λ (n : ℕ). take n (before ++ behind)) (sym behind_is) ∙ take-append_seam before behind

    takes_over : TakesOver script k given_before answers
    takes_over = record {
      within = (first, within);
      text = begun.text;
      plays = subst (λ (l : List Phase). PlaysPhases script l given_before begun.text) (sym front)
          (subst (λ (l : List PairAnswered). PlaysPhases script before l begun.text) (sym given_is)
          (played script before one (pair_server faults faults' u) (pair_server faults faults' v) [] given_before
          held mid writes some begun));
      later = goes.first ++ goes.last;
      answers_are = answers_are;
    }

    whole : PhasesEnd script (before ++ behind) runs.end (one + runs.count) (pair_server faults faults' u) ran
        [] answers held runs.mid writes runs.mid_writes
    whole = ends_then script before one (pair_server faults faults' u) (pair_server faults faults' v) [] given_before
        held mid writes some begun behind runs.end runs.count ran answers runs.mid runs.mid_writes
        (subst (λ (m : ServerView). PhasesEnd script behind runs.end runs.count m ran given_before answers mid runs.mid
        some runs.mid_writes)
        (sym (alone_is faults faults' v takes.board takes.taken.board_is start missing
        (standby_log ∙ sym primary_log) alike))
        (ends_lifted faults' (faults v.primary.disk) takes.board runs.last script behind runs.end runs.count
        given_before answers mid runs.mid some runs.mid_writes goes))

    log_is : runs.last.board.log ≡ items_in answers
    log_is = goes.served.log
        ∙ ap (λ (b : View E). b.log ++ items_in (goes.first ++ goes.last)) takes.taken.board_is
        ∙ ap (λ (l : List Item). l ++ items_in (goes.first ++ goes.last)) standby_log
        ∙ sym (flat_map-append items_of given_before (goes.first ++ goes.last)) ∙ ap items_in (sym answers_are)

    pub handed : Comes told faults told' faults' moment' script k u fresh fresh' level
        how answers (Some given_before) held held' writes writes' primary standby
    handed = (
      record {
        end = runs.end;
        count = one + runs.count;
        last = ran;
        last_primary = omega (arith, ap faults takes.primary_is);
        last_standby = omega (arith, ap faults' runs.standby_is);
        mid = runs.mid;
        mid_faults = runs.mid_writes;
        phases = from_fresh told faults told' faults' moment' script k u fresh fresh' level
            (before ++ behind) runs.end (one + runs.count) ran answers held runs.mid writes
            runs.mid_writes split whole;
        takeover = k;
        takes = (refl, takes_over);
        told = told_due script behind runs.end runs.count (alone_server faults' takes.board)
            (alone_server faults' runs.last) given_before answers mid runs.mid some runs.mid_writes k one first one_is
            left goes;
        finishes = subst (λ (n : ℕ). Finishes runs.end how
            (summary_line (counts_of u.primary.base.next answers (n + runs.count) k)) runs.mid held' runs.mid_writes
            writes') (sym one_is) runs.finishes;
      },
      record {
        last = v;
        same = same;
        log = primary_log;
        level = (missing, standby_log);
        calm = subst (λ (l : List PairAnswered). doubts_in (items_in l) ≡ 0) (sym given_is)
            (calm_items begun.first begun.calm);
        stands = takes.stands;
        primary_kept = takes.kept;
        primary_is = takes.primary_is;
        board = runs.last.board;
        base = runs.base ∙ ap (λ (b : View E). b.base) takes.taken.board_is;
        since = runs.since ∙ ap (λ (b : View E). b.since) takes.taken.board_is;
        goes = subst (λ (b : View E). Goes (told' b.disk) (told' runs.last.board.disk) Extends)
            takes.taken.board_is runs.goes;
        board_log = log_is;
        board_kept = runs.kept;
        standby_is = runs.standby_is;
      },
    )
