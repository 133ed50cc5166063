-- A piece goes from the rest into the sink.
use Rattle.std.proofs.Common.{false, ◌++◌, take}
use Rattle.std.proofs.KnownBytes.{Appends-trans}
use Rattle.byte_ports.proofs.CauseLemmas.{cause_both}
use Rattle.byte_ports.proofs.Moves.{done_grows}
use Rattle.byte_ports.proofs.writing.write_whole.Goals as goal

pub loop-rest-preserved : goal.loop-rest-preserved
loop-rest-preserved g c =
    let (done, split, appended, stood) = c.loop-rest.invariant in
    let rest = c.loop-rest.rest.now in
    let count = c.in_ok-count.count in
    let put = c.in_ok-count.ensures in (
      done ++ take count rest,
      done_grows _ done rest count split,
      Appends-trans _ _ _ done (take count rest) appended put.bytes,
      cause_both false false _ _ _ stood put.cause,
    )
