use Rattle.container_store.proofs.Fresh.{gives_up}
use Rattle.container_store.proofs.laws.a_reservation_can_be_given_up.Goals as goal

pub returns : goal.returns
returns c = gives_up
