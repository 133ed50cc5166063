-- What a round loses where the wire tells its ends, and they don't depend on the number of the delivery.
use Rattle.std.specs.Prelude.{◌≡◌, ℕ, ◌+◌, ◌-◌, ◌^◌, min, ◌&&◌, Bool, not, List, [], ◌∷◌, ◌++◌, length, filter, sum_by, Option, Some, if◌then◌else◌}
use Rattle.std.specs.Option.{option_to_list}
use Rattle.bbs_model.specs.PortView.{rows_seen}
use Rattle.cell_records.specs.declared.answer.Answer.{Answer}
use Rattle.cell_records.specs.declared.cell_row.CellRow.{CellRow}
use Rattle.cell_rep.specs.Wires.{WireEnds, is_delivery_lost, IsSteady}
use Rattle.cell_rep.specs.declared.rep.CellRep.{CellRep}
use Rattle.cell_rep.specs.declared.wire.CallKind.{CallKind}
use Rattle.cell_rep.specs.declared.wire.CallKind.TheVariants.{Ask, Stop, Start, Board}
use Rattle.convergence.specs.Strays.{strays}
use Rattle.convergence.specs.declared.report.Report.{Report}
use Rattle.converge_round.specs.Askings.{present, StandApart, HearsIf}
use Rattle.converge_round.specs.Places.{jobs_on}
use Rattle.converge_round.specs.Reps.{names_of}
use Rattle.converge_round.specs.Rounds.{Standing, IsRound}
use Rattle.converge_round.specs.declared.placing.Places.{Places}
use Rattle.crash_backoff.specs.declared.moment.Moment.{Moment}
use Rattle.diego_names.specs.declared.instance.Instance.{Instance}

-- what goes between a cell and the others in a call of that kind isn't lost
abbrev pub gets_through : WireEnds → List ℕ → CallKind → Bool
gets_through ends cell kind = not (is_delivery_lost (ends (record { actor = cell; kind = kind }) 0))

-- in the order of the cells, what those answer whose question gets through
abbrev pub AreHeardByEnds : WireEnds → List CellRep → List CellRow → List Answer → Type 0
AreHeardByEnds ends reps [] got = got ≡ []
AreHeardByEnds ends reps (c ∷ cs) got =
    (answer : Option Answer) × (rest : List Answer) × (got ≡ option_to_list answer ++ rest)
    × HearsIf (gets_through ends c.cell Ask) reps c.cell c.epoch answer × AreHeardByEnds ends reps cs rest

-- the stop of a container gets through
abbrev pub is_stopped : WireEnds → List ℕ × Instance → Bool
is_stopped ends stray = gets_through ends stray.0 Stop

-- how many starts on a cell are lost: all that go there, unless both they and their claims get through
abbrev pub starts_lost : WireEnds → Places → Answer → ℕ
starts_lost ends p x =
    if gets_through ends x.cell Start && gets_through ends x.cell Board then 0
    else length (jobs_on p.rows p.placements x.cell)

-- the answers, the stops and the losses of a round are those that these ends tell: lost are the cells that weren't
-- heard, the strays that weren't stopped, and the starts, up to the last value of the count
pub record IsByEnds (by : ℕ) (now : Moment) (line : ℕ) (s s' : Standing) (r : Report)
    (h : IsRound by now line s s' r) (ends : WireEnds) : Type 0 where
  pub heard : AreHeardByEnds ends s.reps (present (rows_seen h.opens.first) now) h.opens.hearing.got
  pub stopped : r.stopped ≡ filter (is_stopped ends) (strays (rows_seen h.opens.third) h.opens.hearing.got)
  pub lost : r.lost ≡ min ((r.asked - length h.opens.hearing.got)
      + ((length (strays (rows_seen h.opens.third) h.opens.hearing.got) - length r.stopped)
      + sum_by (starts_lost ends h.opening_is.places) h.opening_is.places.roomy)) (2 ^ 64 - 1)

-- where the names of the reps differ, and the wire tells ends that don't depend on the number, each round is so
abbrev pub RoundsLoseByTheEnds : Type 0
RoundsLoseByTheEnds = (by : ℕ) (now : Moment) (line : ℕ) (s s' : Standing) (r : Report)
    (h : IsRound by now line s s' r) (ends : WireEnds) → StandApart (names_of s.reps) →
    s.wire.ends ≡ Some ends → IsSteady s.wire.ends → IsByEnds by now line s s' r h ends
