use Rattle.bbs_laws.proofs.KeepRuns.{replays_what_was_legal}
use Rattle.bbs_laws.proofs.laws.runs_replay_what_was_legal.Goals as goal

pub returns : goal.returns
returns c = replays_what_was_legal
