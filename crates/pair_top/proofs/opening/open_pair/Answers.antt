use Rattle.std.proofs.Common.{refl, sym, subst}
use Rattle.std.proofs.lemmas.Result.{IfErr-weaker, IfOk-weaker}
use Rattle.disk_trait.specs.Shows.{KeepsContent}
use Rattle.disk_trait.specs.Steps.{Goes}
use Rattle.pair_top.proofs.Openings.{not_opened, rested, secured, unopened_keeps}
use Rattle.pair_top.proofs.opening.open_pair.Goals as goal

pub returns-in-Ok-clause-opens : goal.returns-in-Ok-clause-opens
returns-in-Ok-clause-opens g c =
    IfOk-weaker c.open_standby.result _ _ (λ pair opens.
    opens _ (record { primary = c.in-Ok.ensures.opens; standby = record { told = refl; faults = refl } }))
    c.open_standby.ensures.opens

pub returns-in-Ok-clause-ends : goal.returns-in-Ok-clause-ends
returns-in-Ok-clause-ends g c =
    IfErr-weaker c.open_standby.result _ _ (λ e ends.
    ends _ (record { primary = c.in-Ok.ensures.opens; standby = record { told = refl; faults = refl } }))
    c.open_standby.ensures.ends

pub returns-in-Ok-clause-still : goal.returns-in-Ok-clause-still
returns-in-Ok-clause-still g c =
    IfErr-weaker c.open_standby.result _ _ (λ e still. (
      subst (λ (d : g.row.D.Denot). Goes (g.D.Disk.told c.args.primary) (g.D.Disk.told d) KeepsContent) (sym still.0)
          (secured (g.D.Disk.told c.args.primary) (g.D.Disk.told c.in-Ok.primary.disk) c.in-Ok.ensures.opens.secures),
      still.1,
    )) c.open_standby.ensures.still

pub returns-in-Err-clause-ends : goal.returns-in-Err-clause-ends
returns-in-Err-clause-ends g c =
    not_opened c.in-Err.ending _ _ c.in-Err.ensures.ends (record { told = refl; faults = refl })

pub returns-in-Err-clause-still : goal.returns-in-Err-clause-still
returns-in-Err-clause-still g c = (
  unopened_keeps c.in-Err.ending _ _ c.in-Err.ensures.ends,
  rested (g.E.Disk.told c.args.standby),
)
