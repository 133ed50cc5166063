-- How keys are spelled, and what a command names.
use Rattle.std.specs.Prelude.{ℕ, List, ◌++◌, Some, None, codes}
use Rattle.std.specs.Fmt.{decimal}
use Rattle.diego_names.specs.declared.key.Key.{Key}
use Rattle.cell_records.specs.declared.job_name.JobName.{JobName}
use Rattle.cell_records.specs.declared.job_name.JobName.TheVariants as job
use Rattle.bbs_model.specs.declared.command.Op.{Op}
use Rattle.bbs_model.specs.declared.command.Op.TheVariants as op
use Rattle.record_print.specs.declared.asked.Asked.{Asked}
use Rattle.record_print.specs.declared.asked.Asked.TheVariants as asked
use Rattle.record_print.specs.declared.spelled.Subject.{Subject}
use Rattle.record_print.specs.declared.spelled.Subject.TheVariants as subject

-- a key: the process, a slash, and the index
abbrev pub key_text : Key → List ℕ
key_text key = key.process ++ (codes "/" ++ decimal key.index)

-- what is named: a name alone, or a key
abbrev pub subject_words : Subject → List ℕ
subject_words (subject.Name name) = name.now
subject_words (subject.Key key) = key_text key.now

-- a job: the key of an instance, or the name of a task
abbrev pub job_text : JobName → List ℕ
job_text (job.Lrp key) = key_text key
job_text (job.Task name) = name

-- what a command names: a process, an instance of one by its key, a task, a cell, or a domain
abbrev pub subject_text : Op → List ℕ
subject_text (op.Desire desired) = desired.process
subject_text (op.Update process instances route port) = process
subject_text (op.Undesire process) = process
subject_text (op.Make key) = key_text key
subject_text (op.Claim key instance cell) = key_text key
subject_text (op.Start key instance cell) = key_text key
subject_text (op.Crash key instance) = key_text key
subject_text (op.Unclaim key instance) = key_text key
subject_text (op.Restart key) = key_text key
subject_text (op.Remove key instance) = key_text key
subject_text (op.PlaceFail key) = key_text key
subject_text (op.Evacuate key instance) = key_text key
subject_text (op.DropEvacuating key instance) = key_text key
subject_text (op.NewTask name memory disk tag) = name
subject_text (op.StartTask name instance cell) = name
subject_text (op.CompleteTask name instance failed) = name
subject_text (op.CancelTask name) = name
subject_text (op.ResolveTask name) = name
subject_text (op.DeleteTask name) = name
subject_text (op.KickTask name) = name
subject_text (op.ExpireTask name) = name
subject_text (op.Join cell zone tag totals ttl) = cell
subject_text (op.Renew cell epoch ttl) = cell
subject_text (op.Drain cell epoch) = cell
subject_text (op.Vanish cell) = cell
subject_text (op.Fresh domain ttl) = domain
subject_text (op.Forget domain) = domain
subject_text (op.Suspect key instance) = key_text key
subject_text (op.DropSuspect key instance) = key_text key

-- what an actor asked about: what its command names, or the job that its line names, or else itself
abbrev pub asked_subject : List ℕ → Asked → List ℕ
asked_subject actor (asked.Command op) = subject_text op
asked_subject actor (asked.Word word (Some job)) = job_text job
asked_subject actor (asked.Word word None) = actor
