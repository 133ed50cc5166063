-- What each status says, from how the program of a pair ends.
use Rattle.std.proofs.Common.{◌≡◌, ◌⊎◌, inl, inr, ◌∙◌, ℕ, true, List, [], ◌∷◌, Option, Some, None, Ok, Err, refl, sym, subst, arith}
use Rattle.byte_ports.specs.Cause.{Rose}
use Rattle.disk_trait.specs.Past.{Past, Image}
use Rattle.disk_trait.specs.Shows.{Shows}
use Rattle.bbs_board.specs.Opening.{IsBoard, Refuses}
use Rattle.bbs_board.proofs.Public.{one_board}
use Rattle.bbs_journal.specs.declared.load_fault.LoadFault.{LoadFault}
use Rattle.bbs_model.specs.declared.rows.Rows.{Rows}
use Rattle.pair_lines.specs.Words.{AsksFor}
use Rattle.pair_lines.specs.declared.answered.PairAnswered.{PairAnswered}
use Rattle.program_ends.specs.Opening.{is_before_board}
use Rattle.program_ends.specs.Ports.{IsTold}
use Rattle.program_ends.specs.declared.ending.Ending.TheVariants as ending
use Rattle.scenario_lines.specs.declared.script.Script.{Script}
use Rattle.scenario_reader.specs.declared.fault.ScriptFault.{ScriptFault}
use Rattle.pair_top.specs.Endings.{status_of}
use Rattle.pair_top.specs.Top.{EndsRun, EndsUnequal, EndsUnpaired, EndsWithoutStandby, OpensBoth, PairEnds, PairPorts, RefusesStandby, ScriptEnds}
use Rattle.pair_top.specs.declared.ending.PairEnding.{PairEnding}
use Rattle.pair_top.specs.declared.ending.PairEnding.TheVariants.{Run, OtherLine}
use Rattle.pair_top.proofs.RunCauses.{run_doubt, run_unwritten}

-- words that ask for a number are in the grammar
pub number_twice : (words : List (List ℕ)) (k : ℕ) → AsksFor words (Some k) → AsksFor words None → ⊥
number_twice (program ∷ word ∷ []) k (less, is) none = none k less is
number_twice other k some none = absurd (cc (some))

not_both : {X : Type 0} (x : X) (why : ScriptFault) → Ok x ≡ Err why → ⊥
not_both x why same = cc

-- ---- a script that was read

module _ (script : Script) (k : ℕ) (answers : List PairAnswered) (v w : PairPorts) where
  -- it looked at a disk
  pub not_before : (how : PairEnding) → ScriptEnds how script k answers v w → is_before_board (status_of how) ≡ true → ⊥
  not_before (Run (ending.Script why)) ends before = elim ends.1 [
    | inl never ↦ absurd never.primary
    | inr never ↦ absurd never.cause
  ]
  not_before (Run ending.Read) ends before = elim ends.1 [
    | inl never ↦ absurd never.primary
    | inr never ↦ absurd never.cause
  ]
  not_before (Run ending.TooLong) ends before = elim ends.1 [
    | inl never ↦ absurd never.primary
    | inr never ↦ absurd never.cause
  ]
  not_before (Run ending.Usage) ends before = elim ends.1 [
    | inl never ↦ absurd never.primary
    | inr never ↦ absurd never.cause
  ]
  not_before (OtherLine line) ends before = absurd ends.1.cause
  not_before how ends before = absurd (cc (before))

module _ (v n : PairPorts) (rows rows' : Rows) (opens : OpensBoth rows rows' v n) where
  -- neither disk had a fault at its opening, and nothing was printed
  primary_stands : n.primary_faults ≡ v.primary_faults
  primary_stands = opens.second.primary.faults ∙ opens.first.primary.no_fault

  standby_stands : n.standby_faults ≡ v.standby_faults
  standby_stands = opens.second.standby.no_fault ∙ opens.first.standby.faults

  sink_stands : n.write_faults ≡ v.write_faults
  sink_stands = opens.second.standby.same_sink.1 ∙ opens.first.primary.same_sink.1

  -- what was opened is what the disks hold
  primary_held : IsTold n.primary → (image : Image) → Shows v.primary image → IsBoard rows image
  primary_held is image shows =
      let told = subst IsTold opens.second.primary.told is in
      opens.first.primary.found image (opens.first.primary.still image shows told)

  standby_held : IsTold n.standby → (image : Image) → Shows v.standby image → IsBoard rows' image
  standby_held is image shows =
      opens.second.standby.found image (opens.second.standby.still image
      (subst (λ (t : Option Past). Shows t image) (sym opens.first.standby.told) shows) is)

module _ (v w : PairPorts) where
  -- the sink failed in a run
  unwritten_run : (script : Script) (k : ℕ) (answers : List PairAnswered) → EndsRun script k ending.Unwritten answers v w
      → Rose v.write_faults w.write_faults
  unwritten_run script k answers ends =
      subst (λ (i : ℕ). Rose i w.write_faults) (sink_stands v ends.mid ends.base ends.base ends.opens)
      (run_unwritten script k ends.base answers ends.runs.first ends.mid.held w.held ends.mid.write_faults w.write_faults
      ends.mid.primary_faults w.primary_faults ends.mid.standby_faults w.standby_faults ends.runs.runs)

  -- a disk failed in a run
  doubt_run : (script : Script) (k : ℕ) (answers : List PairAnswered) → EndsRun script k ending.Doubt answers v w
      → Rose v.primary_faults w.primary_faults ⊎ Rose v.standby_faults w.standby_faults
  doubt_run script k answers ends = elim (run_doubt script k ends.base answers ends.runs.first ends.mid.held w.held
      ends.mid.write_faults w.write_faults
      ends.mid.primary_faults w.primary_faults ends.mid.standby_faults w.standby_faults ends.runs.runs) [
        | inl rose ↦ inl (subst (λ (i : ℕ). Rose i w.primary_faults) (primary_stands v ends.mid ends.base ends.base ends.opens) rose)
        | inr rose ↦ inr (subst (λ (i : ℕ). Rose i w.standby_faults) (standby_stands v ends.mid ends.base ends.base ends.opens) rose)
      ]

  -- a disk failed at its opening
  unopened : EndsUnpaired (Run ending.Unopened) v w
      → Rose v.primary_faults w.primary_faults ⊎ Rose v.standby_faults w.standby_faults
  unopened (inl primary) = inl (primary.primary.cause.rose refl)
  unopened (inr standby) =
      inr (subst (λ (i : ℕ). Rose i w.standby_faults) standby.opens.standby.faults standby.cause)

  -- the standby was refused for what it isn't
  pub standby_refused : (how : PairEnding) (why : LoadFault) (rows : Rows) (image : Image) → Shows v.standby image → IsBoard rows image
      → (ends : EndsWithoutStandby how v w) → RefusesStandby why ends.mid w → IsTold w.standby → Refuses why image
  standby_refused how why rows image shows board ends cause is =
      cause.refused image (subst (λ (t : Option Past). Shows t image) (sym ends.opens.standby.told) shows) is

  -- the boards are alike
  pub alike : (rows : Rows) (image image' : Image) → Shows v.primary image → Shows v.standby image' → IsBoard rows image → IsBoard rows image'
      → IsTold w.primary → IsTold w.standby → EndsUnequal v w → ⊥
  alike rows image image' shows shows' board board' is is' ends =
      let told : IsTold ends.mid.primary = subst IsTold ends.rests.0.told is in
      let told' : IsTold ends.mid.standby = subst IsTold ends.rests.1.told is' in
      let one = one_board ends.primary rows image
      (primary_held v ends.mid ends.primary ends.standby ends.opens told image shows) board in
      let other = one_board ends.standby rows image'
      (standby_held v ends.mid ends.primary ends.standby ends.opens told' image' shows') board' in
      ends.apart (one ∙ sym other)

-- ---- the program

module _ (words : List (List ℕ)) (answers : List PairAnswered) (left left' : Option (List ℕ)) (v w : PairPorts) where
  abbrev pub Ends : PairEnding → Type 0
  Ends how = PairEnds how words answers left left' v w

  pub usage_from : (how : PairEnding) → status_of how ≡ 1 → Ends how → AsksFor words None
  usage_from (Run ending.Usage) n h = h.0
  usage_from how n h = absurd (omega (arith, n))

  pub usage_to : (how : PairEnding) → AsksFor words None → Ends how → status_of how ≡ 1
  usage_to (Run ending.Usage) none h = refl
  usage_to how none (k, asks, h) = absurd (number_twice words k asks none)

  pub unwritten_from : (how : PairEnding) → status_of how ≡ 4 → Ends how → Rose v.write_faults w.write_faults
  unwritten_from (Run ending.Unwritten) n (k, asks, h) = unwritten_run v w h.script k answers h.ends
  unwritten_from how n h = absurd (omega (arith, n))

  pub unstored_from : (how : PairEnding) → status_of how ≡ 5 → Ends how
      → Rose v.primary_faults w.primary_faults ⊎ Rose v.standby_faults w.standby_faults
  unstored_from (Run ending.Unopened) n (k, asks, h) = unopened v w h.ends.1
  unstored_from (Run ending.Doubt) n (k, asks, h) = doubt_run v w h.script k answers h.ends
  unstored_from how n h = absurd (omega (arith, n))
