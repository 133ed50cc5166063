-- What the items of a log tell leads from the rows at one place to those at another.
use Rattle.std.proofs.Common.{◌≡◌, ℕ, zero, suc, ◌+◌, ◌-◌, List, [], ◌∷◌, ◌++◌, take, drop, Option, Some, None, refl, sym, ap, subst, ◌∙◌, arith}
use Rattle.std.specs.List.{flat_map}
use Rattle.bbs_model.specs.Replay.{after_item, replay_log, rows_at, IsLawful}
use Rattle.bbs_model.specs.Step.{IsLegal}
use Rattle.bbs_model.specs.Told.{each_event, heard_from, told_by, told_in}
use Rattle.bbs_model.specs.declared.command.Command.{Command}
use Rattle.bbs_model.specs.declared.event.Change.{Change}
use Rattle.bbs_model.specs.declared.event.Change.TheVariants.{Created, Changed, Removed}
use Rattle.bbs_model.specs.declared.event.Event.{Event}
use Rattle.bbs_model.specs.declared.event.Row.{Row}
use Rattle.bbs_model.specs.declared.event.Row.TheVariants as row
use Rattle.bbs_model.specs.declared.item.Item.{Item}
use Rattle.bbs_model.specs.declared.item.Item.TheVariants.{Done, Doubt}
use Rattle.bbs_model.specs.declared.rows.Rows.{Rows}
use Rattle.event_laws.specs.Told.{with_change, with_event, with_events, with_second, both_events, TellsAll}
use Rattle.route_emitter.specs.Routing.{FollowsTheLog, IsRoutingOf}

-- the rows without their count of transitions, which no emitter reads
abbrev uncounted : Rows → Rows
uncounted rows = record rows { next = 0 }

uncounted-change : (change : Change) (r : Row) (rows : Rows)
    → uncounted (with_change change r rows) ≡ with_change change r (uncounted rows)
uncounted-change Created (row.Desired d) rows = refl
uncounted-change Changed (row.Desired d) rows = refl
uncounted-change Removed (row.Desired d) rows = refl
uncounted-change Created (row.Actual a) rows = refl
uncounted-change Changed (row.Actual a) rows = refl
uncounted-change Removed (row.Actual a) rows = refl
uncounted-change Created (row.Task t) rows = refl
uncounted-change Changed (row.Task t) rows = refl
uncounted-change Removed (row.Task t) rows = refl
uncounted-change Created (row.Cell c) rows = refl
uncounted-change Changed (row.Cell c) rows = refl
uncounted-change Removed (row.Cell c) rows = refl
uncounted-change Created (row.Domain d) rows = refl
uncounted-change Changed (row.Domain d) rows = refl
uncounted-change Removed (row.Domain d) rows = refl

uncounted-events : (es : List Event) (rows : Rows) → uncounted (with_events es rows) ≡ with_events es (uncounted rows)
uncounted-events [] rows = refl
uncounted-events (e ∷ es) rows = uncounted-events es (with_event e rows) ∙ ap (with_events es)
    (uncounted-change e.change e.row rows)

with_events-append : (es more : List Event) (rows : Rows)
    → with_events (es ++ more) rows ≡ with_events more (with_events es rows)
with_events-append [] more rows = refl
with_events-append (e ∷ es) more rows = with_events-append es more (with_event e rows)

both-each : (first : Event) (second : Option Event) → with_second first second
    ≡ each_event (Some (record { first = first; second = second }))
both-each first None = refl
both-each first (Some second) = refl

module _ (tells : (rows : Rows) (c : Command) → IsLegal rows c → TellsAll rows c) where
  -- what one item tells
  told-item : (rows : Rows) (i : Item) (log : List Item) → IsLawful rows (i ∷ log)
      → uncounted (after_item rows i) ≡ with_events (each_event (told_by rows i)) (uncounted rows)
  told-item rows (Doubt by c) log lawful = refl
  told-item rows (Done by c) log lawful =
      let t = tells rows c lawful.0 in
      ap uncounted t.tell.all
      ∙ uncounted-events (both_events t.events) rows
      ∙ ap (λ es. with_events es (uncounted rows)) (both-each t.events.first t.events.second)
      ∙ ap (λ o. with_events (each_event o) (uncounted rows)) (sym t.told)

  -- what the first items tell
  told-first : (rows : Rows) (log : List Item) (max : ℕ) → IsLawful rows log
      → with_events (flat_map each_event (take max (told_in rows log))) (uncounted rows)
      ≡ uncounted (replay_log rows (take max log))
  told-first rows [] zero lawful = refl
  told-first rows [] (suc max) lawful = refl
  told-first rows (i ∷ log) zero lawful = refl
  told-first rows (i ∷ log) (suc max) lawful =
      with_events-append (each_event (told_by rows i)) (flat_map each_event
      (take max (told_in (after_item rows i) log))) (uncounted rows)
      ∙ ap (with_events (flat_map each_event (take max (told_in (after_item rows i) log))))
      (sym (told-item rows i log lawful))
      ∙ told-first (after_item rows i) log max lawful.1

  -- what the items from a place on tell
  told-from : (rows : Rows) (log : List Item) (from max : ℕ) → IsLawful rows log
      → with_events (flat_map each_event (take max (drop from (told_in rows log))))
      (uncounted (replay_log rows (take from log))) ≡ uncounted (replay_log rows (take (from + max) log))
  told-from rows log zero max lawful =
      let all : max ≡ zero + max = omega arith in
      told-first rows log max lawful ∙ ap (λ n. uncounted (replay_log rows (take n log))) all
  told-from rows [] (suc from) zero lawful =
      let all : suc (from + zero) ≡ suc from + zero = omega arith in
      ap (λ n. uncounted (replay_log rows (take n []))) all
  told-from rows [] (suc from) (suc max) lawful =
      let all : suc (from + suc max) ≡ suc from + suc max = omega arith in
      ap (λ n. uncounted (replay_log rows (take n []))) all
  told-from rows (i ∷ log) (suc from) max lawful =
      let all : suc (from + max) ≡ suc from + max = omega arith in
      told-from (after_item rows i) log from max lawful.1
      ∙ ap (λ n. uncounted (replay_log rows (take n (i ∷ log)))) all

  pub follows-log : (base : Rows) (log : List Item) (from upto : ℕ) → FollowsTheLog base log from upto
  follows-log base log from upto lawful le e h =
      let there = rows_at base log from in
      let heard = heard_from base log from (upto - from) in
      let all : from + (upto - from) ≡ upto = omega (arith, le) in
      let at : uncounted (with_events heard there) ≡ uncounted (rows_at base log upto) =
      uncounted-events heard there ∙ told-from base log from (upto - from) lawful
      ∙ ap (λ n. uncounted (replay_log base (take n log))) all in
      let bare : IsRoutingOf (uncounted (with_events heard there)) e =
      record {
        processes = h.processes;
        places = h.places;
        desired = h.desired;
        running = h.running;
        table =
            h.table;
      } in
      let moved : IsRoutingOf (uncounted (rows_at base log upto)) e = subst (λ (r : Rows). IsRoutingOf r e) at bare in
      record {
        processes = moved.processes;
        places = moved.places;
        desired = moved.desired;
        running =
            moved.running;
        table = moved.table;
      }
