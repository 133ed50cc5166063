pub mod Records
pub mod ReadLemmas
pub mod WriteLemmas
pub mod SyncLemmas
pub mod DiskLemmas
pub mod HonestLemmas
