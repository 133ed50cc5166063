-- How the containers of a job are found.
use Rattle.std.specs.Prelude.{ℕ, Bool, ◌&&◌, nat_lt, List, Option, Some, None, find, filter}
use Rattle.cell_records.specs.declared.container.Container.{Container}
use Rattle.cell_records.specs.declared.job_name.JobName.{JobName}
use Rattle.container_store.specs.Changes.{is_uncompleted}
use Rattle.container_store.specs.Jobs.{is_same_job, is_job_in}
use Rattle.container_store.specs.Store.{number_of}

-- the first container of a job
abbrev pub first_of : JobName → List Container → Option Container
first_of job cs = find (λ c. is_same_job job c.job) cs

-- the first of them that has not ended
abbrev pub uncompleted_of : JobName → List Container → Option Container
uncompleted_of job cs = find (λ c. is_uncompleted c.state && is_same_job job c.job) cs

-- the containers of the job that is named, or all where none is named
abbrev pub those_of : Option JobName → List Container → List Container
those_of None cs = cs
those_of (Some job) cs = filter (λ c. is_same_job job c.job) cs

-- the container is of the job that is named, or of any, and has a greater number
abbrev pub is_later : Option JobName → ℕ → Container → Bool
is_later named after c = nat_lt after (number_of c) && is_job_in named c.job
