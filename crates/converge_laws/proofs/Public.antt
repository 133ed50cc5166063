-- The lemmas that other crates may cite.
pub use Rattle.converge_laws.proofs.ClaimStage.{claims-converge}
pub use Rattle.converge_laws.proofs.Claims.{subject_for, claim-of_round, claim-about, claim-unsuspected, same_job_as, same_task_as, IsClaiming}
pub use Rattle.converge_laws.proofs.Frames.{kept_after, stays-ordinary, stays-evacuating, stays-suspect, stays-task, stays-cell, stays-domain, stays-wanted, stays-there, stays-fresh, state_is}
pub use Rattle.converge_laws.proofs.Held.{find_row-each, found-there, held-from, held-in, held-ground}
pub use Rattle.converge_laws.proofs.Lists.{inside_map, from_map, inside_flat_map, from_flat_map, inside_filter, from_filter, zip_back, zip_find}
pub use Rattle.converge_laws.proofs.MoveEnds.{IsUnclaimed, unclaimed, IsNowClaimed}
pub use Rattle.converge_laws.proofs.Moves.{after-suspect, after-unclaim}
pub use Rattle.converge_laws.proofs.Naming.{same_instance, instance_itself, same_job, job_itself, looked_for, looks_like, one_container, named-ordinary, named-evacuating, named-task, named-found, named-by}
pub use Rattle.converge_laws.proofs.OwnClaims.{row-taken, task-taken}
pub use Rattle.converge_laws.proofs.PlanStage.{plan-ground, plan-leaves_held}
pub use Rattle.converge_laws.proofs.PlanOps.{plan_of_round, plan-apart}
pub use Rattle.converge_laws.proofs.Rests.{running-holder, suits-presence}
pub use Rattle.converge_laws.proofs.Runs.{inside_first, inside_rest, first_or_rest, apart_from_rising, about_some, run-other, run-took, run-ground, run-valid}
pub use Rattle.converge_laws.proofs.StopStage.{alike, stray-from, stray-inside, stops-leave_none}
pub use Rattle.converge_laws.proofs.TaskMoves.{HasEnded, IsNowRunning}
pub use Rattle.converge_laws.proofs.WholeRound.{answered-ground, answered-left, round-converges}
pub use Rattle.converge_laws.proofs.WorkStage.{work-apart, work-ground, work-leaves_suspicions}
pub use Rattle.converge_laws.proofs.WorkOps.{task-step, work_of_round}
