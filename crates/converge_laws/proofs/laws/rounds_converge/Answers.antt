use Rattle.converge_laws.proofs.WholeRound.{round-converges}
use Rattle.converge_laws.proofs.laws.rounds_converge.Goals as goal

pub returns : goal.returns
returns c = λ rows got before left after now cs valid heard worked planned without apart claimed moments places with'.
    round-converges rows got before left after now cs valid heard worked planned without apart claimed moments places
    with'
