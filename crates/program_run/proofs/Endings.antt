-- How a run ends, by what was read, what was opened and what was played.
use Rattle.std.proofs.Common.{◌≡◌, ℕ, Bool, true, false, List, Option, Err, refl, sym, subst, inl, inr}
use Rattle.byte_ports.specs.Content.{LostAtMost}
use Rattle.disk_trait.specs.Past.{Past}
use Rattle.bbs_model.specs.declared.rows.Rows.{Rows}
use Rattle.program_ends.specs.Ending.{EndsAs, line_of, status_of}
use Rattle.program_ends.specs.Opening.{EndsUnopened, Opens, is_before_board}
use Rattle.program_ends.specs.Ports.{Ports, Prints}
use Rattle.program_ends.specs.Reading.{ReadsAs, ReadsWhole, is_read, limit}
use Rattle.program_ends.specs.declared.ending.Ending.{Ending}
use Rattle.program_ends.specs.declared.ending.Ending.TheVariants as ending
use Rattle.program_ends.proofs.Public.{rests_unseen}
use Rattle.scenario_lines.specs.declared.script.Script.{Script}
use Rattle.scenario_reader.specs.Accepted.{script_of}
use Rattle.scenario_reader.specs.declared.fault.ScriptFault.{ScriptFault}
use Rattle.scenario_player.specs.Wordings.{Wording}
use Rattle.program_run.specs.Runs.{EndsUnseen, IsEmpty, PlaysOn, RunEnds, RunsScript, ScriptEnds}
use Rattle.program_run.specs.declared.ended.Ended.{Ended}

module _ {D : Type 0} (told : D → Option Past) (faults moment : D → ℕ) (wording : Wording) where
  -- ---- a scenario

  module _ (script : Script) (e : Ended) (v w : Ports) where
    -- it was played on the board that was opened
    pub played_ends : (rows : Rows) (m : Ports) → Opens rows v m → (how : Ending)
        → PlaysOn told faults moment wording script rows how e m w
        → ScriptEnds told faults moment wording script how e v w
    played_ends rows m opens ending.Done plays = record { rows = rows; between = m; opens = opens; plays = plays }
    played_ends rows m opens ending.Doubt plays = record { rows = rows; between = m; opens = opens; plays = plays }
    played_ends rows m opens ending.Unwritten plays = record { rows = rows; between = m; opens = opens; plays = plays }
    played_ends rows m opens ending.OutOfMemory plays = inl
        (record { rows = rows; between = m; opens = opens; plays = plays })
    played_ends rows m opens how plays = absurd plays.plays

    idle_ends : (how : Ending) → IsEmpty e → EndsUnopened how v w
        → ScriptEnds told faults moment wording script how e v w
    idle_ends ending.Done empty ends = absurd ends
    idle_ends ending.Doubt empty ends = absurd ends
    idle_ends ending.Unwritten empty ends = absurd ends
    idle_ends ending.OutOfMemory empty ends = inr (empty, ends)
    idle_ends how empty ends = (empty, ends)

    -- no board was opened
    pub unopened_ends : (how : Ending) → e.ending ≡ how → IsEmpty e → EndsUnopened how v w
        → ScriptEnds told faults moment wording script e.ending e v w
    unopened_ends how is empty ends =
        subst (λ (x : Ending). ScriptEnds told faults moment wording script x e v w) (sym is) (idle_ends how empty ends)

    -- it looked at the disk
    pub not_before : (how : Ending) → ScriptEnds told faults moment wording script how e v w
        → is_before_board (status_of how) ≡ true → ⊥
    not_before (ending.Script why) ends before = absurd ends.1
    not_before ending.Read ends before = absurd ends.1
    not_before ending.TooLong ends before = absurd ends.1
    not_before ending.Usage ends before = absurd ends.1
    not_before how ends before = cc

    pub not_read : (how : Ending) → ScriptEnds told faults moment wording script how e v w → is_read how ≡ false
    not_read ending.Read ends = absurd ends.1
    not_read how ends = refl

  -- ---- a run

  module _ (e : Ended) (left left' : Option (List ℕ)) (v w : Ports) where
    pub script_runs : (how : Ending) → RunsScript told faults moment wording how e left left' v w
        → RunEnds told faults moment wording how e left left' v w
    script_runs (ending.Script why) runs = absurd runs.ends.1
    script_runs ending.Read runs = absurd runs.ends.1
    script_runs ending.TooLong runs = absurd runs.ends.1
    script_runs ending.OutOfMemory runs = inl runs
    script_runs how runs = runs

    module _ (same : w.told ≡ v.told) (stands : w.disk_faults ≡ v.disk_faults) (whole : Bool) where
      unseen : (how : Ending) → IsEmpty e → Prints whole (line_of how) v w → EndsUnseen how e v w
      unseen how empty prints = (empty, record { told = same; faults = stands; whole = whole; prints = prints })

      wants : IsEmpty e → Prints whole (line_of ending.OutOfMemory) v w → LostAtMost left left' limit
          → RunEnds told faults moment wording ending.OutOfMemory e left left' v w
      wants empty prints lost = inr ((empty, rests_unseen v w same stands whole ending.OutOfMemory prints), lost)

      lost_of : (fault : ScriptFault) → ReadsWhole script_of (Err fault) left left' → LostAtMost left left' limit
      lost_of fault reads = (reads.bytes, reads.few, reads.consumes)

      as_ends : (how other : Ending) → other ≡ how → RunEnds told faults moment wording how e left left' v w
          → RunEnds told faults moment wording other e left left' v w
      as_ends how other is ends = subst (λ (x : Ending). RunEnds told faults moment wording x e left left' v w)
          (sym is) ends

      as_prints : (how other : Ending) → other ≡ how → Prints whole (line_of other) v w → Prints whole (line_of how) v w
      as_prints how other is prints = subst (λ (x : Ending). Prints whole (line_of x) v w) is prints

      unread_ends : (what how : Ending) → ReadsAs script_of (Err what) left left' → EndsAs what how → IsEmpty e
          → Prints whole (line_of how) v w
          → RunEnds told faults moment wording how e left left' v w
      unread_ends (ending.Script why) how reads (inl is) empty prints =
          as_ends (ending.Script why) how is (
            unseen (ending.Script why) empty
                (as_prints (ending.Script why) how is prints),
            reads,
          )
      unread_ends (ending.Script why) how reads (inr is) empty prints =
          as_ends ending.OutOfMemory how is (wants empty (as_prints ending.OutOfMemory how is prints)
          (lost_of why reads))
      unread_ends ending.Read how reads is empty prints =
          as_ends ending.Read how is (unseen ending.Read empty (as_prints ending.Read how is prints), reads)
      unread_ends ending.TooLong how reads is empty prints =
          as_ends ending.TooLong how is (unseen ending.TooLong empty (as_prints ending.TooLong how is prints), reads)
      unread_ends ending.OutOfMemory how reads is empty prints =
          as_ends ending.OutOfMemory how is (wants empty (as_prints ending.OutOfMemory how is prints) reads)
      unread_ends what how never is empty prints = absurd never

      -- the source gave no scenario
      pub unread : (what how : Ending) → e.ending ≡ how → ReadsAs script_of (Err what) left left' → EndsAs what how
          → IsEmpty e → Prints whole (line_of how) v w
          → RunEnds told faults moment wording e.ending e left left' v w
      unread what how is reads ends empty prints = as_ends how e.ending is
          (unread_ends what how reads ends empty prints)
