use Rattle.std.proofs.Common.{◌∙◌, refl, sym, ap, subst}
use Rattle.std.proofs.lemmas.Result.{IfErr-weaker, IfOk-weaker}
use Rattle.disk_trait.specs.Shows.{KeepsContent}
use Rattle.disk_trait.specs.Steps.{Goes}
use Rattle.pair_top.specs.Endings.{EndsAs}
use Rattle.pair_top.specs.Top.{ports_at}
use Rattle.pair_top.specs.declared.ending.PairEnding.{PairEnding}
use Rattle.pair_top.proofs.Openings.{loaded_beside, no_pair, secured, without_standby}
use Rattle.pair_top.proofs.opening.open_standby.Goals as goal

pub returns-in-Ok-clause-opens : goal.returns-in-Ok-clause-opens
returns-in-Ok-clause-opens g c =
    let load = c.in-Ok.ensures in
    IfOk-weaker c.start.result _ _ (λ pair started v first. record {
      primary = c.args.primary;
      standby = c.in-Ok.standby;
      started = started.0;
      fresh = (c.requires.fresh, load.loaded.fresh);
      since_are = (c.requires.begun.0, load.loaded.since);
      faults_are = (c.requires.begun.1, load.loaded.faults);
      opens = record {
        mid = ports_at g.D.Disk.told g.D.Disk.fault_count g.D.Disk.moment g.E.Disk.told g.E.Disk.fault_count g.E.Disk.moment
            (g.K.Sink.held c.args.sink.now) (g.K.Sink.faults c.args.sink.now) c.args.primary.disk c.args.standby;
        first = first;
        second = loaded_beside g.D.Disk.told g.D.Disk.fault_count g.D.Disk.moment
            g.E.Disk.told g.E.Disk.fault_count g.E.Disk.moment c.args.primary c.in-Ok.standby c.args.standby _ _ _ _
            (λ q told. g.met.E.Disk.timed c.in-Ok.standby.disk q told) load.found load.loaded load.ok started.1 started.2;
      };
    }) c.start.ensures.started

pub returns-in-Ok-clause-ends : goal.returns-in-Ok-clause-ends
returns-in-Ok-clause-ends g c =
    let load = c.in-Ok.ensures in
    IfErr-weaker c.start.result _ _ (λ e refused v first.
    no_pair c.args.primary c.in-Ok.standby v _
    (ports_at g.D.Disk.told g.D.Disk.fault_count g.D.Disk.moment g.E.Disk.told g.E.Disk.fault_count g.E.Disk.moment
    (g.K.Sink.held c.args.sink.now) (g.K.Sink.faults c.args.sink.now) c.args.primary.disk c.in-Ok.standby.disk) _
    c.requires.fresh.log load.loaded.fresh.log first
    (loaded_beside g.D.Disk.told g.D.Disk.fault_count g.D.Disk.moment
    g.E.Disk.told g.E.Disk.fault_count g.E.Disk.moment c.args.primary c.in-Ok.standby c.args.standby _ _ _ _
    (λ q told. g.met.E.Disk.timed c.in-Ok.standby.disk q told) load.found load.loaded load.ok refl refl)
    (record { told = ap g.D.Disk.told refused.0; faults = ap g.D.Disk.fault_count refused.0 })
    (record { told = ap g.E.Disk.told refused.1; faults = ap g.E.Disk.fault_count refused.1 })
    e.0 refused.2 (refused.3, refused.4)) c.start.ensures.refused

pub returns-in-Ok-clause-still : goal.returns-in-Ok-clause-still
returns-in-Ok-clause-still g c =
    IfErr-weaker c.start.result _ _ (λ e refused. (
      refused.0,
      subst (λ (d : g.row.E.Denot). Goes (g.E.Disk.told c.args.standby) (g.E.Disk.told d) KeepsContent) (sym refused.1)
          (secured (g.E.Disk.told c.args.standby) (g.E.Disk.told c.in-Ok.standby.disk) c.in-Ok.ensures.ok),
    )) c.start.ensures.refused

pub returns-in-Err-clause-ends : goal.returns-in-Err-clause-ends
returns-in-Err-clause-ends g c v first =
    let load = c.in-Err.ensures in
    let same = c.disk_of.ensures ∙ c.close.ensures.fields.0 in
    without_standby v _ _ c.args.primary.base first
    (record { told = ap g.D.Disk.told same; faults = ap g.D.Disk.fault_count same })
    c.in-Err.fault c.ended.result
    (subst (λ (wanted : PairEnding). EndsAs wanted c.ended.result) c.standby_ending.ensures c.ended.ensures.ending)
    load.err load.cause load.refused c.ended.ensures.prints
