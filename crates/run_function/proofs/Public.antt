-- The lemmas that other crates may cite.
pub use Rattle.run_function.proofs.Calls.{call_alone, call_due}
pub use Rattle.run_function.proofs.TurnsAlone.{later_turns, run_is_alone, turns_are_alone}
pub use Rattle.run_function.proofs.RoundAlone.{later_round, reps_are_after, round_is_alone}
pub use Rattle.run_function.proofs.PhaseAlone.{phase_is_alone}
pub use Rattle.run_function.proofs.PhaseReps.{phase_reps, script_reps}
pub use Rattle.run_function.proofs.ScriptAlone.{ends_alone, whole_is_alone}
