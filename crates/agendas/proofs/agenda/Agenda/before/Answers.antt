use Rattle.std.proofs.Common.{ap, take, ◌∙◌}
use Rattle.agendas.specs.Agendas.{Planned}
use Rattle.agendas.proofs.Places.{before_place}
use Rattle.agendas.proofs.agenda.Agenda.before.Goals as goal

pub returns : goal.returns
returns g c =
    ap (take c.place-end.result) (c.as_slice.ensures.value ∙ ap (λ (s : Planned _). s.keys) c.self.view_is)
    ∙ before_place g.K.Ord.cmp c.requires c.args.key.now c.args.self.now.keys c.place-end.result c.place-end.ensures.place
