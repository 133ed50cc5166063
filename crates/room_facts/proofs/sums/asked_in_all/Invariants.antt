use Rattle.std.proofs.Common.{◌≡◌, ◌*◌, take}
use Rattle.room_facts.specs.Rooms.{amounts_of, of_tag, sums, AreUpTo}
use Rattle.room_facts.proofs.sums.asked_in_all.Given as goal

abbrev pub invariant-loop-job : goal.invariant-loop-job
invariant-loop-job l = record {
  so_far : amounts_of l.asked ≡ sums (of_tag l.tag (take l.job-index l.jobs));
  small : AreUpTo (4294967295 * l.job-index) l.asked;
}
