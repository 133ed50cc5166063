-- The laws of commands as a set, for searches.
use Rattle.bbs_codec.proofs.Commands.{command_again, command_known, command_spelled, command_ends, command_least, command_most}

pub ruleset laws = (command_again, command_known, command_spelled, command_ends, command_least, command_most)
