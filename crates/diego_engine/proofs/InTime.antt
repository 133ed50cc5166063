-- Phases that ended one after another since a board was opened did so since the entry.
use Rattle.std.proofs.Common.{◌≡◌, ◌≤◌, ℕ, List, [], ◌∷◌, Option, Some, refl, sym, subst, arith}
use Rattle.std.specs.Option.{ForSome}
use Rattle.disk_trait.specs.Past.{Past, content}
use Rattle.disk_trait.specs.Runs.{Extends}
use Rattle.disk_trait.specs.Shows.{Secures, Shows}
use Rattle.disk_trait.specs.Steps.{Goes}
use Rattle.disk_trait.proofs.Public.{goes_back}
use Rattle.bbs_board.specs.Opening.{IsBoard}
use Rattle.bbs_model.specs.declared.item.Item.{Item}
use Rattle.bbs_model.specs.declared.rows.Rows.{Rows}
use Rattle.board_port.specs.Going.{LeavesBoard}
use Rattle.convergence.specs.declared.report.Report.{Report}
use Rattle.converge_round.specs.Each.{Each}
use Rattle.program_ends.specs.Opening.{Opens}
use Rattle.program_ends.specs.Ports.{Ports}
use Rattle.program_ends.specs.declared.ending.Ending.{Ending}
use Rattle.run_theorem.specs.Ends.{EndInTime, IsTimely, PhasesEndInTime}
use Rattle.run_theorem.specs.Headline.{outset}
use Rattle.run_theorem.specs.Phases.{PhaseAgrees, Point}
use Rattle.scenario_lines.specs.declared.answered.Answered.{Answered}
use Rattle.scenario_lines.specs.declared.script.Phase.{Phase}
use Rattle.scenario_lines.specs.declared.script.Script.{Script}

-- from an earlier moment on too
ends_from : (base : Rows) (log : List Item) (marks : List ℕ) (q : Past) (less from : ℕ) (phases : List Phase) (s t : Point)
    (each : Each (PhaseAgrees base log) phases s t) → less ≤ from → EndInTime base log marks q from phases s t each
    → EndInTime base log marks q less phases s t each
ends_from base log marks q less from [] s t each le ends = omega (arith, le, ends)
ends_from base log marks q less from (phase ∷ phases) s t each le ends =
    let first = ends.1 in
    (ends.0, omega (arith, le, first), ends.2, ends.3)

module _ (rows : Rows) (v between : Ports) (opens : Opens rows v between) (p m : Past) (p_is : v.told ≡ Some p)
    (m_is : between.told ≡ Some m) where
  secures : Secures p m
  secures =
      subst (λ (t : Option Past). Goes t (Some m) Secures) p_is
      (subst (λ (t : Option Past). Goes v.told t Secures) m_is opens.secures)

  -- a stop leaves nothing but the board that was opened
  leaves_opened : LeavesBoard rows m
  leaves_opened image images =
      let same : content m ≡ image = λ i. λ area. sym (secures.settled area (image area) (images area)) i in
      subst (IsBoard rows) same (opens.found (content m) (subst (λ (t : Option Past). Shows t (content m)) (sym m_is)
      (λ area. refl)))

pub in_time : (script : Script) (how : Ending) (answers : List Answered) (reports : List Report) (rows : Rows)
    (log : List Item) (marks : List ℕ) (v between : Ports) (told' : Option Past) → Opens rows v between
    → Goes between.told told' Extends
    → (timely : IsTimely script how answers reports rows log marks between.told told')
    → ForSome v.told (λ p. ForSome told' (λ q. PhasesEndInTime marks q p.clock timely.faithful))
in_time script how answers reports rows log marks v between told' opens goes timely p p_is q q_is =
    let (m, m_is, extends) = goes_back between.told told' Extends goes q q_is in
    let order = timely.faithful.order in
    ends_from rows log marks q p.clock m.clock order.ended (outset script) order.last order.each
    (secures rows v between opens p m p_is m_is).keeps.extends.later
    (timely.ends m m_is q q_is (leaves_opened rows v between opens p m p_is m_is))
