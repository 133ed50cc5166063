-- The lemmas that other crates may cite.
pub use Rattle.convergence.proofs.About.{IsAbout, about_is, about_work}
pub use Rattle.convergence.proofs.Finds.{find-passes, find-fails, find-some}
pub use Rattle.convergence.proofs.Gathers.{Contains-cons, Contains-cons_cases, Contains-map, Contains-from_map, Contains-filter_map, Contains-from_filter_map, IsRising-append, IsRising-filter_map, IsRising-map}
pub use Rattle.convergence.proofs.Holdings.{IsKeyOrder-nat_cmp}
pub use Rattle.convergence.proofs.Indexing.{same_cell}
pub use Rattle.convergence.proofs.Lists.{asked_more, one_more}
pub use Rattle.convergence.proofs.Members.{Contains-table, Contains-from_table, same_members}
pub use Rattle.convergence.proofs.Orders.{table-from_dedup}
pub use Rattle.convergence.proofs.PlanProofs.{plan_rises, plan_is_by_subject, about_plan}
pub use Rattle.convergence.proofs.StrayOrder.{IsKeyOrder-stray_order}
pub use Rattle.convergence.proofs.SubjectOrder.{IsKeyOrder-subject_order}
pub use Rattle.convergence.proofs.WorkLaws.{work_rises, work_is_by_subject}
