use Rattle.converge_laws.proofs.ClaimStage.{claims-converge}
use Rattle.converge_laws.proofs.laws.claims_converge.Goals as goal

pub returns : goal.returns
returns c = λ rows before after now cs valid cleared apart taken moments places answered with'.
    claims-converge rows before after now cs (record {
      valid = valid;
      cleared = cleared;
      apart = apart;
      taken =
          taken;
      moments = moments;
      places = places;
      answered = answered;
      with_claims = with';
    })
