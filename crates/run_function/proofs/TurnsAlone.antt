-- The runs of lines are made as one makes them alone.
use Rattle.std.proofs.Common.{◌≡◌, ℕ, Bool, false, List, [], ◌∷◌, ◌++◌, map, Option, Some, refl, sym, ap, subst, ◌∙◌, append_assoc}
use Rattle.std.proofs.lemmas.List.{append-nil}
use Rattle.bbs_model.specs.PortView.{IsLater, PortView}
use Rattle.bbs_model.specs.Work.{at}
use Rattle.bbs_model.specs.declared.command.Command.{Command}
use Rattle.bbs_model.proofs.Public.{later_same, later_then}
use Rattle.cell_rep.specs.Follows.{Acts, Stage, stage}
use Rattle.cell_rep.specs.Acts.{begun, plan}
use Rattle.cell_rep.specs.declared.call_end.Called.{Called}
use Rattle.cell_rep.specs.declared.rep.CellRep.{CellRep}
use Rattle.crash_backoff.specs.declared.moment.Moment.{Moment}
use Rattle.evacuation.specs.Evacuation.{Evacuates}
use Rattle.scenario_lines.specs.declared.act.Act.{Act}
use Rattle.scenario_lines.specs.declared.act.Act.TheVariants as act
use Rattle.scenario_lines.specs.declared.act.Loss.{Loss}
use Rattle.scenario_lines.specs.declared.answered.Answered.{Answered}
use Rattle.phase_actors.specs.Marks.{delivery_under, ends_under}
use Rattle.phase_actors.specs.Runs.{AsCell, HasActed, HasAsked, HasRun, is_any_starved, is_starved_end}
use Rattle.phase_actors.specs.Turns.{TakesTurns, Turn, is_any_unfed, line_answer}
use Rattle.phase_actors.specs.declared.actor_state.ActorState.{ActorState}
use Rattle.phase_actors.specs.declared.actor_state.ActorState.TheVariants as actor
use Rattle.run_function.specs.ActLaws.{LeadsAs}
use Rattle.run_function.specs.Acts.{SoleRep, act_alone, evacuate_alone}
use Rattle.run_function.specs.Boards.{board_seen}
use Rattle.run_function.specs.Quiet.{StaysCalm}
use Rattle.run_function.specs.Turns.{SoleRun, ask_alone, behind_run, rep_run, rep_under, run_alone, sole_actor, sole_run, turns_alone}
use Rattle.run_function.proofs.ActsAlone.{acted_alone, evacuated_alone, later_evacuated, later_performed}
use Rattle.run_function.proofs.Delivered.{later_delivered, sent_alone}
use Rattle.run_function.proofs.Quiets.{alone_first, alone_second, neither_first, none_first, none_mapped, none_second}

-- a client asked once
asked_alone : (by : ℕ) (c : Command) (mark : Option Loss) (name : List ℕ) (a' : ActorState) (v w : PortView)
    (new : List Called) → a' ≡ actor.Client name
    → HasAsked by c mark v w new → StaysCalm v w → is_any_starved new ≡ false
    → ask_alone by c mark name (board_seen v) ≡ sole_run a' (board_seen w) new
asked_alone by c mark name a' v w new is h alone fed =
    let fed_one : is_starved_end h.end ≡ false = neither_first (is_starved_end h.end) false
    (sym (ap is_any_starved h.new_is) ∙ fed) in
    let one = sent_alone by v c w alone (delivery_under mark) h.end h.fits_mark h.delivered fed_one in
    let calls : record { command = Some c; end = h.end } ∷ [] ≡ new = sym h.new_is in
    (λ i. sole_run (actor.Client name) (sym one.board i) (record { command = Some c; end = sym one.end_is i } ∷ []))
    ∙ (λ i. sole_run (sym is i) (board_seen w) (calls i))

-- a rep did what one does alone
ran_alone : (Does : Stage → Stage → Type 0) (alone_by : SoleRep → SoleRep) → LeadsAs Does alone_by
    → (mark : Option Loss) (rep rep' : CellRep) (v w : PortView) (new : List Called)
    → HasActed Does mark rep rep' v w new → StaysCalm v w → is_any_starved new ≡ false
    → rep_run (alone_by (rep_under mark rep (board_seen v))) ≡ sole_run (actor.Cell rep') (board_seen w) new
ran_alone Does alone_by leads mark rep rep' v w new h alone fed =
    let there = leads (stage rep v (ends_under mark) 0 []) (stage rep' w h.ends h.losses new)
    (rep_under mark rep (board_seen v)) h.does
    (record { rep_is = refl; board = refl; ends_are = refl; out_is = refl }) alone fed in
    λ i. sole_run (actor.Cell (there.rep_is i)) (there.board i) (there.out_is i)

-- the same of a cell that came to be so
cell_alone : (Does : Stage → Stage → Type 0) (alone_by : SoleRep → SoleRep) → LeadsAs Does alone_by
    → (mark : Option Loss) (rep : CellRep) (a' : ActorState) (v w : PortView) (new : List Called)
    → AsCell a' (λ rep'. HasActed Does mark rep rep' v w new) → StaysCalm v w → is_any_starved new ≡ false
    → rep_run (alone_by (rep_under mark rep (board_seen v))) ≡ sole_run a' (board_seen w) new
cell_alone Does alone_by leads mark rep (actor.Client name) v w new h alone fed = absurd h
cell_alone Does alone_by leads mark rep (actor.Cell rep') v w new h alone fed =
    ran_alone Does alone_by leads mark rep rep' v w new h alone fed

pub run_is_alone : (by : ℕ) (now : Moment) (act : Act) (mark : Option Loss) (a a' : ActorState) (v w : PortView)
    (new : List Called)
    → HasRun by now act mark a a' v w new → StaysCalm v w → is_any_starved new ≡ false
    → run_alone by now act mark a (board_seen v) ≡ sole_run a' (board_seen w) new
run_is_alone by now (act.Client op) mark (actor.Client name) a' v w new h alone fed =
    asked_alone by (at now op) mark name a' v w new h.0 h.1 alone fed
run_is_alone by now (act.Client op) mark (actor.Cell rep) a' v w new h alone fed = absurd h
run_is_alone by now (act.Cell a) mark (actor.Client name) a' v w new h alone fed = absurd h
run_is_alone by now (act.Cell a) mark (actor.Cell rep) a' v w new h alone fed =
    cell_alone (Acts by a now) (act_alone by a now) (acted_alone by a now) mark rep a' v w new h alone fed
run_is_alone by now act.Evacuate mark (actor.Client name) a' v w new h alone fed = absurd h
run_is_alone by now act.Evacuate mark (actor.Cell rep) a' v w new h alone fed =
    cell_alone (Evacuates by now) (evacuate_alone by now) (evacuated_alone by now) mark rep a' v w new h alone fed

later_cell : (Does : Stage → Stage → Type 0) → ((s s' : Stage) → Does s s' → IsLater s.view s'.view)
    → (mark : Option Loss) (rep : CellRep) (a' : ActorState) (v w : PortView) (new : List Called)
    → AsCell a' (λ rep'. HasActed Does mark rep rep' v w new) → IsLater v w
later_cell Does later mark rep (actor.Client name) v w new h = absurd h
later_cell Does later mark rep (actor.Cell rep') v w new h =
    later (stage rep v (ends_under mark) 0 []) (stage rep' w h.ends h.losses new) h.does

later_run : (by : ℕ) (now : Moment) (act : Act) (mark : Option Loss) (a a' : ActorState) (v w : PortView)
    (new : List Called)
    → HasRun by now act mark a a' v w new → IsLater v w
later_run by now (act.Client op) mark (actor.Client name) a' v w new h =
    later_delivered by v (at now op) h.1.end w h.1.delivered
later_run by now (act.Client op) mark (actor.Cell rep) a' v w new h = absurd h
later_run by now (act.Cell a) mark (actor.Client name) a' v w new h = absurd h
later_run by now (act.Cell a) mark (actor.Cell rep) a' v w new h =
    later_cell (Acts by a now)
    (λ s s' does. later_performed by s.rep.cell (plan a now s.rep) (record s { rep = begun a s.rep }) s' does)
    mark rep a' v w new h
later_run by now act.Evacuate mark (actor.Client name) a' v w new h = absurd h
later_run by now act.Evacuate mark (actor.Cell rep) a' v w new h =
    later_cell (Evacuates by now) (later_evacuated by now) mark rep a' v w new h

pub later_turns : (by : ℕ) (now : Moment) (ts : List Turn) (a a' : ActorState) (v w : PortView) (new : List Answered)
    → TakesTurns by now ts a v new a' w → IsLater v w
later_turns by now [] a a' v w new f = subst (IsLater v) (sym f.1.1) (later_same v)
later_turns by now (t ∷ ts) a a' v w new f =
    later_then v f.3 w (later_run by now t.act t.mark a f.2 v f.3 f.0 f.5) (later_turns by now ts f.2 a' f.3 w f.1 f.6)

abbrev is_unfed : Answered → Bool
is_unfed x = is_starved_end x.end

turned_alone : (by : ℕ) (now : Moment) (ts : List Turn) (a a' : ActorState) (v w : PortView) (out new : List Answered)
    → TakesTurns by now ts a v new a' w → StaysCalm v w → is_any_unfed new ≡ false
    → turns_alone by now ts (sole_actor a (board_seen v) out) ≡ sole_actor a' (board_seen w) (out ++ new)
turned_alone by now [] a a' v w out new f alone fed =
    λ i. sole_actor (sym f.1.0 i) (board_seen (sym f.1.1 i))
    ((sym (append-nil out) ∙ ap (λ (xs : List Answered). out ++ xs) (sym f.0)) i)
turned_alone by now (t ∷ ts) a a' v w out new f alone fed =
    let first : List Answered = map (line_answer by t.line) f.0 in
    let one_later = later_run by now t.act t.mark a f.2 v f.3 f.0 f.5 in
    let rest_later = later_turns by now ts f.2 a' f.3 w f.1 f.6 in
    let none = sym (ap is_any_unfed f.4) ∙ fed in
    let one = run_is_alone by now t.act t.mark a f.2 v f.3 f.0 f.5 (alone_first v f.3 w one_later rest_later alone)
    (sym (none_mapped (line_answer by t.line) is_unfed f.0) ∙ none_first is_unfed first f.1 none) in
    ap (λ (r : SoleRun). turns_alone by now ts (behind_run by t.line out r)) one
    ∙ turned_alone by now ts f.2 a' f.3 w (out ++ first) f.1 f.6 (alone_second v f.3 w one_later rest_later alone)
    (none_second is_unfed first f.1 none)
    ∙ ap (λ (xs : List Answered). sole_actor a' (board_seen w) xs)
    (append_assoc out first f.1 ∙ ap (λ (xs : List Answered). out ++ xs) (sym f.4))

pub turns_are_alone : (by : ℕ) (now : Moment) (ts : List Turn) (a a' : ActorState) (v w : PortView)
    (new : List Answered)
    → TakesTurns by now ts a v new a' w → StaysCalm v w → is_any_unfed new ≡ false
    → turns_alone by now ts (sole_actor a (board_seen v) []) ≡ sole_actor a' (board_seen w) new
turns_are_alone by now ts a a' v w new f alone fed = turned_alone by now ts a a' v w [] new f alone fed
