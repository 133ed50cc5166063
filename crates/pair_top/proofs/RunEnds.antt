-- How a run ends, by what was opened, what ran and what is left of the boards.
use Rattle.std.proofs.Common.{◌≡◌, ◌∙◌, ℕ, List, ◌++◌, Option, Some, None, sym, ap, subst}
use Rattle.std.specs.Option.{ForSome}
use Rattle.std.proofs.lemmas.Grind.{flat_map-append}
use Rattle.bbs_board.specs.Doubts.{doubts_in}
use Rattle.bbs_board.specs.View.{View, rows_of}
use Rattle.bbs_model.specs.Replay.{replay_log}
use Rattle.bbs_model.specs.declared.item.Item.{Item}
use Rattle.bbs_model.specs.declared.rows.Rows.{Rows}
use Rattle.disk_trait.specs.Past.{Past}
use Rattle.disk_trait.specs.Runs.{Extends}
use Rattle.disk_trait.specs.Shows.{Secures}
use Rattle.disk_trait.specs.Steps.{Goes}
use Rattle.disk_trait.proofs.Public.{extends_then, goes_then}
use Rattle.pair_lines.specs.declared.answered.PairAnswered.{PairAnswered}
use Rattle.pair_runs.specs.Accounts.{acknowledged_from, items_in, items_of}
use Rattle.program_ends.specs.declared.ending.Ending.{Ending}
use Rattle.scenario_lines.specs.declared.script.Script.{Script}
use Rattle.standby_board.specs.Laws.{BeginningsAreReached}
use Rattle.standby_board.specs.Pairs.{PairView}
use Rattle.pair_top.specs.Boards.{LeavesAlone, LeavesBoards, LeavesPair}
use Rattle.pair_top.specs.Disks.{GaveUp, KeepsLog, PairDisks}
use Rattle.pair_top.specs.Opening.{OpensPair}
use Rattle.pair_top.specs.Runs.{IsTakeover, RunsScript, items_before}
use Rattle.pair_top.specs.Top.{EndsRun, OpensBoth, PairPorts, ports_at}
use Rattle.pair_top.proofs.BoardsKept.{board_gave_up, board_keeps, standby_keeps}

-- a board as it was loaded, under another name
module _ {D : Type 0} (told : D → Option Past) (moment : D → ℕ) (start load : View D) (same : start ≡ load) where
  opens_at : (t0 : Option Past) → Goes t0 (told load.disk) Secures → Goes t0 (told start.disk) Secures
  opens_at t0 opens = subst (λ (b : View D). Goes t0 (told b.disk) Secures) (sym same) opens

  since_at : load.since ≡ moment load.disk → start.since ≡ moment start.disk
  since_at since = subst (λ (b : View D). b.since ≡ moment b.disk) (sym same) since

module _ {D E : Type 0} (law : BeginningsAreReached) (told : D → Option Past) (faults moment : D → ℕ)
    (told' : E → Option Past) (faults' moment' : E → ℕ)
    (timed : (d : D) (q : Past) → told d ≡ Some q → q.clock ≡ moment d)
    (timed' : (d : E) (q : Past) → told' d ≡ Some q → q.clock ≡ moment' d)
    (held : Option (List ℕ)) (writes : ℕ) (v : PairPorts) (pair : PairView D E)
    (o : OpensPair told faults moment told' faults' moment' held writes v pair) where
  -- both began with the same rows
  alike : o.standby.base ≡ o.primary.base
  alike = sym (ap (replay_log o.standby.base) o.fresh.1.log) ∙ sym o.started.equal
      ∙ ap (replay_log o.primary.base) o.fresh.0.log

  base_is : o.primary.base ≡ pair.primary.base
  base_is = sym (ap (λ (b : View D). b.base) o.started.primary_is)

  primary_opens : Goes v.primary (told o.primary.disk) Secures
  primary_opens = subst (λ (t : Option Past). Goes v.primary t Secures) (sym o.opens.second.primary.told)
      o.opens.first.primary.secures

  standby_opens : Goes v.standby (told' o.standby.disk) Secures
  standby_opens = subst (λ (t : Option Past). Goes t (told' o.standby.disk) Secures) o.opens.first.standby.told
      o.opens.second.standby.secures

  abbrev Keeps : List PairAnswered → Past → Past → Type 0
  Keeps answers p q = KeepsLog pair.primary.base (items_in answers) (acknowledged_from 0 answers) p q

  -- the pair was never given up
  pair_kept : (answers : List PairAnswered) (primary : D) (standby : E)
      → LeavesPair told faults told' faults' moment' pair answers primary standby
      → PairDisks pair.primary.base (items_in answers) (acknowledged_from 0 answers) None v.primary (told primary) v.standby (told' standby)
  pair_kept answers primary standby l =
      let same = l.same.primary ∙ o.started.primary_start in
      let same' = l.same.standby ∙ o.started.standby_start in
      let went = l.stands.primary.goes in
      record {
        primary_keeps = subst (λ (d : D). ForSome v.primary (λ p. ForSome (told d) (λ q. Keeps answers p q))) (sym l.primary_is)
            (board_keeps told moment timed v.primary l.last.primary_start l.last.primary pair.primary.base
            (opens_at told moment l.last.primary_start o.primary same v.primary primary_opens) went.disk
            (went.since ∙ since_at told moment l.last.primary_start o.primary same o.since_are.0)
            (went.base ∙ ap (λ (b : View D). b.base) same ∙ base_is) l.kept.0.kept answers l.log);
        standby_keeps = subst (λ (d : E). ForSome v.standby (λ p. ForSome (told' d) (λ q. Keeps answers p q))) (sym l.standby_is)
            (standby_keeps law told' moment' timed' v.standby l.last pair.primary.base
            (opens_at told' moment' l.last.standby_start o.standby same' v.standby standby_opens) l.stands.standby.goes.disk
            (ap rows_of same ∙ ap (replay_log o.primary.base) o.fresh.0.log ∙ base_is)
            (ap (λ (b : View D). b.log) same ∙ o.fresh.0.log) l.shows answers l.log l.covers);
      }

  -- the standby took over
  alone_kept : (first later answers : List PairAnswered) → answers ≡ first ++ later → (primary : D) (standby : E)
      → LeavesAlone told faults told' faults' moment' pair (items_in first) (items_in answers) primary standby
      → PairDisks pair.primary.base (items_in answers) (acknowledged_from 0 answers) (Some (items_in first)) v.primary (told primary)
      v.standby (told' standby)
  alone_kept first later answers split primary standby l =
      let same = l.same.primary ∙ o.started.primary_start in
      let same' = l.same.standby ∙ o.started.standby_start in
      let went = l.stands.primary.goes in
      let went' = l.stands.standby.goes in
      let all : items_in answers ≡ items_in first ++ items_in later =
      ap items_in split ∙ flat_map-append items_of first later in
      record {
        primary_keeps = subst (λ (d : D). ForSome v.primary (λ p. ForSome (told d)
            (λ q. GaveUp pair.primary.base (items_in answers) (items_in first) p q))) (sym l.primary_is)
            (subst (λ (log : List Item). ForSome v.primary (λ p. ForSome (told l.last.primary.disk)
            (λ q. GaveUp pair.primary.base log (items_in first) p q))) (sym all)
            (subst (λ (log : List Item). ForSome v.primary (λ p. ForSome (told l.last.primary.disk)
            (λ q. GaveUp pair.primary.base (log ++ items_in later) log p q))) l.log
            (board_gave_up told moment timed v.primary l.last.primary_start l.last.primary pair.primary.base
            (opens_at told moment l.last.primary_start o.primary same v.primary primary_opens) went.disk
            (went.since ∙ since_at told moment l.last.primary_start o.primary same o.since_are.0)
            (went.base ∙ ap (λ (b : View D). b.base) same ∙ base_is) l.primary_kept.kept (items_in later)
            (ap doubts_in l.log ∙ l.calm))));
        standby_keeps = subst (λ (d : E). ForSome v.standby (λ p. ForSome (told' d) (λ q. Keeps answers p q))) (sym l.standby_is)
            (board_keeps told' moment' timed' v.standby l.last.standby_start l.board pair.primary.base
            (opens_at told' moment' l.last.standby_start o.standby same' v.standby standby_opens)
            (goes_then (told' l.last.standby_start.disk) (told' l.last.standby.disk) (told' l.board.disk) Extends Extends Extends
            (λ p q r i j m. extends_then p q r) went'.disk l.goes)
            (l.since ∙ went'.since ∙ since_at told' moment' l.last.standby_start o.standby same' o.since_are.1)
            (l.base ∙ went'.base ∙ ap (λ (b : View E). b.base) same' ∙ alike ∙ base_is) l.board_kept.kept answers l.board_log);
      }

  boards_kept : (script : Script) (k takeover : ℕ) (first : Option (List PairAnswered)) (answers : List PairAnswered)
      → IsTakeover script k takeover first answers → (primary : D) (standby : E)
      → LeavesBoards told faults told' faults' moment' first pair answers primary standby
      → PairDisks pair.primary.base (items_in answers) (acknowledged_from 0 answers) (items_before first) v.primary (told primary)
      v.standby (told' standby)
  boards_kept script k takeover None answers takes primary standby l = pair_kept answers primary standby l
  boards_kept script k takeover (Some first) answers takes primary standby l =
      alone_kept first takes.1.later answers takes.1.answers_are primary standby l

  -- both were opened with the rows of the pair
  opens_alike : OpensBoth pair.primary.base pair.primary.base v
      (ports_at told faults moment told' faults' moment' held writes pair.primary.disk pair.standby.disk)
  opens_alike =
      subst (λ (b : View E). OpensBoth pair.primary.base pair.primary.base v
      (ports_at told faults moment told' faults' moment' held writes pair.primary.disk b.disk)) (sym o.started.standby_is)
      (subst (λ (b : View D). OpensBoth b.base b.base v
      (ports_at told faults moment told' faults' moment' held writes b.disk o.standby.disk)) (sym o.started.primary_is)
      (subst (λ (b : Rows). OpensBoth o.primary.base b v
      (ports_at told faults moment told' faults' moment' held writes o.primary.disk o.standby.disk)) alike o.opens))

  -- the script ran on the pair
  pub run_ends : (script : Script) (k : ℕ) (how : Ending) (first : Option (List PairAnswered)) (answers : List PairAnswered)
      (held' : Option (List ℕ)) (writes' : ℕ) (primary : D) (standby : E)
      → RunsScript script k pair.primary.base how answers first held held' writes writes'
      (faults pair.primary.disk) (faults primary) (faults' pair.standby.disk) (faults' standby)
      → LeavesBoards told faults told' faults' moment' first pair answers primary standby
      → EndsRun script k how answers v (ports_at told faults moment told' faults' moment' held' writes' primary standby)
  run_ends script k how first answers held' writes' primary standby runs leaves = record {
    base = pair.primary.base;
    mid = ports_at told faults moment told' faults' moment' held writes pair.primary.disk pair.standby.disk;
    opens = opens_alike;
    runs = record {
      first = first;
      runs = runs;
      disks = boards_kept script k runs.takeover first answers runs.takes primary standby leaves;
    };
  }
