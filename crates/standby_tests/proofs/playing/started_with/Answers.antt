-- A board that was just loaded has done nothing.
use Rattle.std.proofs.Common.{inl}
use Rattle.standby_tests.proofs.playing.started_with.Goals as goal

pub started-requires : goal.started-requires
started-requires g c = inl c.in-Ok.ensures.loaded.fresh.log
