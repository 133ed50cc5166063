use Rattle.std.proofs.Common.{ap, drop, ◌∙◌}
use Rattle.agendas.specs.Agendas.{Planned}
use Rattle.agendas.proofs.Places.{all_after, since_place}
use Rattle.agendas.proofs.agenda.Agenda.since.Goals as goal

pub returns : goal.returns
returns g c =
    all_after c.as_slice.result.now c.place-start.result
    ∙ ap (drop c.place-start.result) (c.as_slice.ensures.value ∙ ap (λ (s : Planned _). s.keys) c.self.view_is)
    ∙ since_place g.K.Ord.cmp c.requires c.args.key.now c.args.self.now.keys c.place-start.result c.place-start.ensures.place
