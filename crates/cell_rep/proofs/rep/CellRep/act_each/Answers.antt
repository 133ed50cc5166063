use Rattle.std.proofs.Common.{◌∙◌, sym, ap}
use Rattle.std.specs.List.{filter_map}
use Rattle.cell_rep.specs.Acts.{each_todo, or_idle}
use Rattle.cell_rep.specs.Follows.{stage}
use Rattle.cell_rep.proofs.Asked.{planned, planned_refused}
use Rattle.cell_rep.proofs.Chains.{Acts-begun}
use Rattle.cell_rep.proofs.rep.CellRep.act_each.Goals as goal
use Rattle.cell_rep.proofs.rep.CellRep.act_each.Goals.{in-Some, in-None}

pub returns-clause-acted : goal.returns-clause-acted
returns-clause-acted g c =
    let rep = c.args.self.now in
    let a = c.args.act.now in
    elim c.match-refusal.branch [
      | in-Some w ↦
          rw (w.self-is, w.port-is, w.wire-is, w.out-is)
          (Acts-begun _ a c.args.now (stage rep _ _ _ c.args.out.now.items) _ c.begin_each.new.self _
          c.reserve.new.self.items
          (planned_refused c.args.now rep w.in-Some.why a c.requires (sym w.in-Some.is ∙ c.refusal_of-refusal.ensures))
          c.begin_each.ensures.begun c.in_ok-reserve.ensures.items c.begin_each.ensures.cell w.perform.ensures.performs)
      | in-None w ↦
          let asked = w.items-in-None.ensures ∙ c.in-Ok.ensures in
          rw (w.self-is, w.port-is, w.wire-is, w.out-is)
          (Acts-begun _ a c.args.now (stage rep _ _ _ c.args.out.now.items) _ c.begin_each.new.self _
          c.reserve.new.self.items
          (ap (λ cell. or_idle (filter_map (each_todo a c.args.now cell c.is_draining.result)
          w.items-in-None.result.now)) c.begin_each.ensures.cell
          ∙ ap (λ draining. or_idle (filter_map (each_todo a c.args.now rep.cell draining) w.items-in-None.result.now))
          c.is_draining.ensures
          ∙ planned c.args.now rep w.items-in-None.result.now a c.requires asked
          (sym w.in-None.is ∙ c.refusal_of-refusal.ensures))
          c.begin_each.ensures.begun c.in_ok-reserve.ensures.items c.begin_each.ensures.cell
          w.perform_each.ensures.performs)
    ]
