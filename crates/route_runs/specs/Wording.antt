-- What is told of a phase by the routes.
use Rattle.std.specs.Prelude.{ℕ, true, false, List, ◌++◌, Option}
use Rattle.bbs_model.specs.Replay.{replay_log}
use Rattle.bbs_model.specs.declared.item.Item.{Item}
use Rattle.bbs_model.specs.declared.rows.Rows.{Rows}
use Rattle.route_emitter.specs.Entries.{minus}
use Rattle.route_emitter.specs.Lines.{lines}
use Rattle.route_emitter.specs.Routes.{routes}
use Rattle.route_emitter.specs.declared.entry.RouteEntry.{RouteEntry}
use Rattle.scenario_player.specs.Wordings.{Wording}

-- the table of routes of a board that was opened with these rows, behind this log
abbrev pub routes_behind : Rows → List Item → List RouteEntry
routes_behind base log = routes (replay_log base log)

-- each entry that the phase took out of the table, and then each that it brought into it
abbrev pub route_wording : Wording
route_wording script phase answers report base before after =
    lines false (minus (routes_behind base before) (routes_behind base after))
    ++ lines true (minus (routes_behind base after) (routes_behind base before))
