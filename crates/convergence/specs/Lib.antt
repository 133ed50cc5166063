pub mod Wanted
pub mod Subjects
pub mod Containers
pub mod Plans
pub mod PlanLaws
pub mod Strays
pub mod Index
