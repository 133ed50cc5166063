use Rattle.std.proofs.Common.{◌<◌, ◌^◌, arith}
use Rattle.what_if.proofs.SoundSites.{few_containers}
use Rattle.what_if.proofs.containers.answer_of.Goals as goal

pub containers_of-requires : goal.containers_of-requires
containers_of-requires c =
    let s = c.args.state.now in
    let small : s.totals.containers < 2 ^ 32 = omega arith in
    few_containers s c.requires small
