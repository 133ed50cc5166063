use Rattle.head_codec.proofs.HeadPlaces.{head_fault_lies}
use Rattle.head_codec.proofs.laws.head_faults_lie_within_the_bytes.Goals as goal

pub returns : goal.returns
returns c = head_fault_lies
