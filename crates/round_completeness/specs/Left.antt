-- What the cells have left that jobs may go to: their answers less what was stopped.
use Rattle.std.specs.Prelude.{◌≡◌, ℕ, not, List, [], ◌∷◌, filter, Option, Some, None, if◌then◌else◌}
use Rattle.std.specs.List.{filter_map}
use Rattle.auctioneer.specs.Stands.{same_name}
use Rattle.bbs_model.specs.PortView.{rows_seen}
use Rattle.bbs_model.specs.declared.rows.Rows.{Rows}
use Rattle.cell_records.specs.declared.answer.Answer.{Answer}
use Rattle.cell_records.specs.declared.container.Container.{Container}
use Rattle.container_store.specs.Store.{free_of}
use Rattle.convergence.specs.declared.report.Report.{Report}
use Rattle.converge_round.specs.Askings.{StandApart}
use Rattle.converge_round.specs.Places.{is_being_emptied}
use Rattle.converge_round.specs.Reps.{names_of}
use Rattle.converge_round.specs.Rounds.{Standing, IsRound}
use Rattle.crash_backoff.specs.declared.moment.Moment.{Moment}
use Rattle.diego_names.specs.declared.instance.Instance.{Instance}
use Rattle.lrp_records.specs.States.{is_same_instance}

-- a cell's answer with these containers, and what they leave free
abbrev pub answer_with : Answer → List Container → Answer
answer_with x cs = record x {
  containers = cs;
  free = free_of (record { totals = x.totals; epoch = x.epoch; containers = cs; last = x.last });
}

-- a cell's answer less a container, if that is on the cell
abbrev pub less_one : List ℕ × Instance → Answer → Answer
less_one stray x =
    if same_name stray.0 x.cell
    then answer_with x (filter (λ c. not (is_same_instance stray.1 c.instance)) x.containers) else x

-- less all these
abbrev pub less_all : List (List ℕ × Instance) → Answer → Answer
less_all [] x = x
less_all (stray ∷ gone) x = less_all gone (less_one stray x)

-- the same, unless the board knows that the cell is being emptied
abbrev pub left_open : Rows → List (List ℕ × Instance) → Answer → Option Answer
left_open rows gone x = if is_being_emptied rows x.cell then None else Some (less_all gone x)

-- where the names of the reps differ, each round holds its auction over the answers less what was stopped, without the
-- cells that are being emptied by the rows that it read last
abbrev pub RoundsAuctionWhatIsLeft : Type 0
RoundsAuctionWhatIsLeft = (by : ℕ) (now : Moment) (line : ℕ) (s s' : Standing) (r : Report)
    (h : IsRound by now line s s' r) → StandApart (names_of s.reps) →
    h.opening_is.places.roomy ≡ filter_map (left_open (rows_seen h.opened.view) r.stopped) h.opens.hearing.got
