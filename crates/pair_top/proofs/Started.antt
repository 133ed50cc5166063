-- A pair that was opened is as it was just started.
use Rattle.std.proofs.Common.{◌≡◌, ℕ, List, [], Option, None, sym, ap, ◌∙◌}
use Rattle.bbs_board.specs.View.{View, rows_of}
use Rattle.bbs_model.specs.Replay.{replay_log}
use Rattle.bbs_model.specs.declared.rows.Rows.{Rows}
use Rattle.disk_trait.specs.Past.{Past}
use Rattle.standby_board.specs.Pairs.{PairView}
use Rattle.pair_top.specs.Opening.{OpensPair}
use Rattle.pair_top.specs.Top.{PairPorts}

module _ {D E : Type 0} (told : D → Option Past) (faults moment : D → ℕ) (told' : E → Option Past) (faults' moment' : E → ℕ)
    (held : Option (List ℕ)) (writes : ℕ) (v : PairPorts) (pair : PairView D E)
    (o : OpensPair told faults moment told' faults' moment' held writes v pair) where
  empty_primary : pair.primary.log ≡ []
  empty_primary = ap (λ (b : View D). b.log) o.started.primary_is ∙ o.fresh.0.log

  pub is_empty : (pair.primary.log ≡ []) × (pair.standby.log ≡ []) × (pair.missing ≡ None)
  is_empty = (empty_primary, ap (λ (b : View E). b.log) o.started.standby_is ∙ o.fresh.1.log, o.started.missing)

  pub is_begun : (pair.primary_start ≡ pair.primary) × (pair.standby_start ≡ pair.standby)
  is_begun = (
    o.started.primary_start ∙ sym o.started.primary_is,
    o.started.standby_start ∙ sym o.started.standby_is,
  )

  -- the number of its transitions is that of the rows that it was opened with
  pub starts_at : (rows_of pair.primary).next ≡ pair.primary.base.next
  starts_at = ap (λ (r : Rows). r.next) (ap (replay_log pair.primary.base) empty_primary)

  pub is_unshown : pair.fence.greatest ≡ 0
  is_unshown = o.started.fence.greatest
