-- A script for a pair, and two boards with the same rows: without a fault all is done, unless memory runs out.
use Rattle.std.proofs.Common.{◌≡◌, ◌⊎◌, inl, inr, ℕ, List, Option, Some, Result, Ok, Err, refl}
use Rattle.byte_ports.specs.Cause.{Rose}
use Rattle.bbs_board.proofs.Public.{not_refused}
use Rattle.bbs_journal.specs.declared.load_fault.LoadFault.TheVariants as load
use Rattle.pair_lines.specs.Scripts.{IsPairScript, first_other}
use Rattle.pair_lines.specs.declared.answered.PairAnswered.{PairAnswered}
use Rattle.program_ends.specs.Ports.{IsTold}
use Rattle.program_ends.specs.declared.ending.Ending.TheVariants as ending
use Rattle.program_ends.proofs.Public.{as_told, not_too_long}
use Rattle.scenario_lines.specs.declared.script.Script.{Script}
use Rattle.scenario_reader.specs.Accepted.{script_of}
use Rattle.scenario_reader.specs.declared.fault.ScriptFault.{ScriptFault}
use Rattle.pair_top.specs.Endings.{status_of}
use Rattle.pair_top.specs.Top.{MeetsPair, PairEnds, PairPorts}
use Rattle.pair_top.specs.declared.ending.PairEnding.{PairEnding}
use Rattle.pair_top.specs.declared.ending.PairEnding.TheVariants.{Run, OtherLine, NoStandby, DamagedStandby, Unequal}
use Rattle.pair_top.proofs.EndsGive.{alike, number_twice, standby_refused, unstored_from, unwritten_from}

not_both : {X : Type 0} (x : X) (why : ScriptFault) → Ok x ≡ Err why → ⊥
not_both x why same = cc

abbrev AsRead : Script → Result Script ScriptFault
AsRead script = Ok script

-- a script that is read so is the one that is told, which has no other lines
no_other : (script script' : Script) (line : ℕ) → AsRead script ≡ AsRead script' → IsPairScript script
    → first_other script' ≡ Some line → ⊥
no_other script script' line same pair other = cc

module _ (words : List (List ℕ)) (answers : List PairAnswered) (left left' : Option (List ℕ)) (v w : PairPorts)
    (m : MeetsPair words left v.primary v.standby) (is : IsTold w.primary) (is' : IsTold w.standby)
    (sink : Rose v.write_faults w.write_faults → ⊥) (primary : Rose v.primary_faults w.primary_faults → ⊥)
    (standby : Rose v.standby_faults w.standby_faults → ⊥) where
  abbrev pub Ends : PairEnding → Type 0
  Ends how = PairEnds how words answers left left' v w

  abbrev pub IsWhole : PairEnding → Type 0
  IsWhole how = (status_of how ≡ 0) ⊎ (status_of how ≡ 7)

  no_disk : Rose v.primary_faults w.primary_faults ⊎ Rose v.standby_faults w.standby_faults → ⊥
  no_disk (inl rose) = primary rose
  no_disk (inr rose) = standby rose

  pub complete_from : (how : PairEnding) → (status_of how ≡ 3 → ⊥) → Ends how → IsWhole how
  complete_from (Run ending.Done) read h = inl refl
  complete_from (Run ending.OutOfMemory) read h = inr refl
  complete_from (Run ending.Read) read h = absurd (read refl)
  complete_from (Run ending.Unwritten) read h =
      absurd (sink (unwritten_from words answers left left' v w (Run ending.Unwritten) refl h))
  complete_from (Run ending.Unopened) read h =
      absurd (no_disk (unstored_from words answers left left' v w (Run ending.Unopened) refl h))
  complete_from (Run ending.Doubt) read h =
      absurd (no_disk (unstored_from words answers left left' v w (Run ending.Doubt) refl h))
  complete_from (Run (ending.NotABoard area)) read (k, asks, h) = elim h.ends.1 [
    | inl ends ↦ absurd (not_refused m.rows (load.NotABoard area) m.on_primary m.primary_board
        (ends.primary.refused m.on_primary m.shows_primary is))
    | inr never ↦ absurd never.cause
  ]
  complete_from (Run (ending.Damaged area at)) read (k, asks, h) = elim h.ends.1 [
    | inl ends ↦ absurd (not_refused m.rows (load.Damaged area at) m.on_primary m.primary_board
        (ends.primary.refused m.on_primary m.shows_primary is))
    | inr never ↦ absurd never.cause
  ]
  complete_from (Run ending.TooLong) read (k, asks, h) =
      absurd (not_too_long script_of left left' (Ok m.script) m.source h.2)
  complete_from (Run (ending.Script why)) read (k, asks, h) =
      absurd (not_both m.script why (as_told script_of left left' (Ok m.script) (Err why) m.source h.2))
  complete_from (Run ending.Usage) read h = absurd (number_twice words m.k m.asks h.0)
  complete_from (Run ending.Exists) read (k, asks, h) = elim h.ends.1 [
    | inl never ↦ absurd never.primary
    | inr never ↦ absurd never.cause
  ]
  complete_from (OtherLine line) read (k, asks, h) =
      let other = h.2 in
      absurd (no_other m.script other.script line
      (as_told script_of left left' (Ok m.script) (Ok other.script) m.source other.reads) m.pair other.other)
  complete_from (NoStandby area) read (k, asks, h) =
      absurd (not_refused m.rows (load.NotABoard area) m.on_standby m.standby_board
      (standby_refused v w (NoStandby area) (load.NotABoard area) m.rows m.on_standby m.shows_standby m.standby_board
      h.ends.1 h.ends.1.cause is'))
  complete_from (DamagedStandby area at) read (k, asks, h) =
      absurd (not_refused m.rows (load.Damaged area at) m.on_standby m.standby_board
      (standby_refused v w (DamagedStandby area at) (load.Damaged area at) m.rows m.on_standby m.shows_standby m.standby_board
      h.ends.1 h.ends.1.cause is'))
  complete_from Unequal read (k, asks, h) =
      absurd (alike v w m.rows m.on_primary m.on_standby m.shows_primary m.shows_standby m.primary_board m.standby_board is is'
      h.ends.1)
