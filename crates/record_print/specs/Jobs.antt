-- The subjects of jobs, as they are written one by one.
use Rattle.std.specs.Prelude.{List, map}
use Rattle.json.specs.Token.{Token, string}
use Rattle.cell_records.specs.declared.job_name.JobName.{JobName}
use Rattle.record_print.specs.Spelled.{job_text}

-- the subjects of some jobs, in their order
abbrev pub job_tokens : List JobName → List Token
job_tokens jobs = map (λ job. string (job_text job)) jobs
