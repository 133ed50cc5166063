-- The events of a log from a place on, piece by piece.
use Rattle.std.proofs.Common.{◌≡◌, ℕ, ◌+◌, ◌-◌, ◌≤◌, List, ◌++◌, length, take, drop, Option, refl, sym, ap, ◌∙◌, arith, append_assoc}
use Rattle.std.specs.Prelude.{min}
use Rattle.std.specs.List.{flat_map}
use Rattle.std.proofs.lemmas.Grind.{flat_map-append}
use Rattle.std.proofs.lemmas.List.{append-nil, take-append-drop, take_min, drop-drop, length-drop}
use Rattle.std.proofs.Math.ListN.{drop_of_length-le}
use Rattle.bbs_laws.proofs.Public.{length-told_in}
use Rattle.bbs_model.specs.Told.{each_event, heard_from, IsHeard, told_in}
use Rattle.bbs_model.specs.declared.event.Event.{Event}
use Rattle.bbs_model.specs.declared.event.Events.{Events}
use Rattle.bbs_model.specs.declared.heard.Heard.{Heard}
use Rattle.bbs_model.specs.declared.item.Item.{Item}
use Rattle.bbs_model.specs.declared.rows.Rows.{Rows}
use Rattle.scenario_player.specs.Wordings.{events_from}

module _ (base : Rows) (log : List Item) where
  abbrev told : List (Option Events)
  told = told_in base log

  -- a piece, and all that comes behind it
  piece_then : (at max n upto : ℕ) → n ≡ min max (length log - at) → upto ≡ at + n
      → heard_from base log at max ++ events_from base log upto ≡ events_from base log at
  piece_then at max n upto count next =
      ap (λ (xs : List Event). heard_from base log at max ++ xs)
      (ap (events_from base log) next ∙ ap (flat_map each_event) (sym (drop-drop n at told)))
      ∙ sym (flat_map-append each_event (take max (drop at told)) (drop n (drop at told)))
      ∙ ap (λ (ts : List (Option Events)). flat_map each_event (ts ++ drop n (drop at told))) first
      ∙ ap (flat_map each_event) (take-append-drop n (drop at told))
    where
      left : length (drop at told) ≡ length log - at
      left = length-drop at told ∙ ap (λ (k : ℕ). k - at) (length-told_in base log)

      first : take max (drop at told) ≡ take n (drop at told)
      first = sym (take_min max (drop at told)) ∙ ap (λ (k : ℕ). take k (drop at told)) (ap (min max) left ∙ sym count)

  -- what was heard so far, with a piece more
  pub heard_more : (so_far : List Event) (from at max : ℕ) (heard : Heard)
      → so_far ++ events_from base log at ≡ events_from base log from
      → IsHeard base log at max heard
      → (so_far ++ heard.events) ++ events_from base log heard.upto ≡ events_from base log from
  heard_more so_far from at max heard sum piece =
      append_assoc so_far heard.events (events_from base log heard.upto)
      ∙ ap (λ (xs : List Event). so_far ++ xs)
      (ap (λ (xs : List Event). xs ++ events_from base log heard.upto) piece.events
      ∙ piece_then at max (min max (length log - at)) heard.upto refl piece.upto)
      ∙ sum

  -- at the end of the log all was heard
  pub heard_whole : (so_far : List Event) (from at : ℕ) → so_far ++ events_from base log at ≡ events_from base log from
      → length log ≤ at
      → so_far ≡ events_from base log from
  heard_whole so_far from at sum end =
      sym (append-nil so_far)
      ∙ ap (λ (xs : List Event). so_far ++ xs)
      (sym (ap (flat_map each_event) (drop_of_length-le told (omega (arith, end, length-told_in base log)))))
      ∙ sum
