-- The table of a run stands where its board does, and a phase is told by it.
use Rattle.std.proofs.Common.{◌≡◌, ℕ, ◌-◌, ◌≤◌, true, false, List, ◌++◌, length, take, drop, sym, ap, subst, ◌∙◌, arith}
use Rattle.std.specs.List.{flat_map}
use Rattle.std.proofs.lemmas.List.{length-drop, take_all}
use Rattle.bbs_laws.proofs.Public.{length-told_in}
use Rattle.bbs_model.specs.Replay.{IsLawful, replay_log}
use Rattle.bbs_model.specs.Told.{each_event, heard_from, told_in}
use Rattle.bbs_model.specs.declared.event.Event.{Event}
use Rattle.bbs_model.specs.declared.item.Item.{Item}
use Rattle.bbs_model.specs.declared.rows.Rows.{Rows}
use Rattle.event_laws.specs.Told.{with_events}
use Rattle.route_emitter.specs.Entries.{minus}
use Rattle.route_emitter.specs.Lines.{lines}
use Rattle.route_emitter.specs.Routing.{FollowsTheLog, IsRoutingOf, Routing}
use Rattle.route_emitter.specs.declared.entry.RouteEntry.{RouteEntry}
use Rattle.scenario_player.specs.Wordings.{events_from}
use Rattle.route_runs.specs.Wording.{routes_behind}

-- each emitter follows each lawful log
abbrev pub EmittersFollow : Type 0
EmittersFollow = (base : Rows) (log : List Item) (from upto : ℕ) → FollowsTheLog base log from upto

module _ (base : Rows) (log : List Item) (from : ℕ) where
  -- what is heard up to the end of the log
  heard_to_end : heard_from base log from (length log - from) ≡ events_from base log from
  heard_to_end =
      ap (flat_map each_event) (take_all (length log - from) (drop from (told_in base log))
      (omega (arith, length-drop from (told_in base log), length-told_in base log)))

  -- the events of a phase bring the emitter to the board's rows behind it
  pub stands_behind : EmittersFollow → IsLawful base log → from ≤ length log → (emitter : Routing)
      → IsRoutingOf (with_events (events_from base log from) (replay_log base (take from log))) emitter
      → IsRoutingOf (replay_log base log) emitter
  stands_behind law lawful within emitter is =
      subst (λ (xs : List Item). IsRoutingOf (replay_log base xs) emitter) (take_all (length log) log (omega arith))
      (law base log from (length log) lawful within emitter
      (subst (λ (events : List Event). IsRoutingOf (with_events events (replay_log base (take from log))) emitter)
      (sym heard_to_end) is))

  -- so does what takes in just these events
  pub stands_after : EmittersFollow → IsLawful base log → from ≤ length log → (events : List Event)
      → events ≡ events_from base log from
      → (old new : Routing) → IsRoutingOf (replay_log base (take from log)) old
      → ((rows : Rows) → IsRoutingOf rows old → IsRoutingOf (with_events events rows) new)
      → IsRoutingOf (replay_log base log) new
  stands_after law lawful within events all old new first follows =
      stands_behind law lawful within new
      (subst (λ (es : List Event). IsRoutingOf (with_events es (replay_log base (take from log))) new) all
      (follows (replay_log base (take from log)) first))

  -- what is told of a change from the one table to the other
  abbrev pub words : List RouteEntry → List RouteEntry → List ℕ
  words old new = lines false (minus old new) ++ lines true (minus new old)

  -- the change of the tables is that of the board's routes
  pub told_by : (old new : Routing) → IsRoutingOf (replay_log base (take from log)) old
      → IsRoutingOf (replay_log base log) new
      → (register unregister : List RouteEntry) → register ≡ minus new.table old.table
      → unregister ≡ minus old.table new.table
      → (text : List ℕ) → text ≡ lines false unregister ++ lines true register
      → text ≡ words (routes_behind base (take from log)) (routes_behind base log)
  told_by old new first last register unregister came went text is =
      is ∙ ap (λ (xs : List RouteEntry). lines false xs ++ lines true register) went
      ∙ ap (λ (xs : List RouteEntry). lines false (minus old.table new.table) ++ lines true xs) came
      ∙ ap (λ (xs : List RouteEntry). words xs new.table) first.table
      ∙ ap (λ (xs : List RouteEntry). words (routes_behind base (take from log)) xs) last.table
