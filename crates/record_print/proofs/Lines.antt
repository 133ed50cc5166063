-- A list of the subjects of jobs is what is written of them one by one.
use Rattle.std.proofs.Common.{◌≡◌, List, [], ◌∷◌, ◌++◌, map, Result, refl, ap, ◌∙◌, append_assoc}
use Rattle.std.specs.Result.{OnOk}
use Rattle.json.specs.Token.{Token, begin_array, end_array}
use Rattle.json.specs.Tree.{items_tokens}
use Rattle.json.specs.Written.{Written}
use Rattle.serde_json.specs.Data.{string}
use Rattle.serde_json.specs.View.{items_of}
use Rattle.serde_json.specs.Written.{items_outline}
use Rattle.cell_records.specs.declared.job_name.JobName.{JobName}
use Rattle.line_writing.specs.Writing.{AddsTokens, AddsValue}
use Rattle.line_writing.proofs.Public.{on_ok}
use Rattle.record_print.specs.Jobs.{job_tokens}
use Rattle.record_print.specs.PrintedRounds.{subjects_data}
use Rattle.record_print.specs.Spelled.{job_text}

-- the subjects of jobs, and the bracket behind them
subjects_closed : (jobs : List JobName) → job_tokens jobs ++ end_array ∷ []
    ≡ items_tokens (items_outline (items_of (map (λ job. string (job_text job)) jobs)))
subjects_closed [] = refl
subjects_closed (job ∷ jobs) = ap (λ ts. Token.string (job_text job) ∷ ts) (subjects_closed jobs)

-- a list of the subjects of jobs
list_of : {old first second new : Written} (jobs : List JobName) → AddsTokens old first (begin_array ∷ [])
    → AddsTokens first second (job_tokens jobs) → AddsTokens second new (end_array ∷ [])
    → AddsValue old new (subjects_data jobs)
list_of {old} {first} {second} {new} jobs begun added e = record {
  before = e.before ∙ added.before ∙ begun.before;
  tokens = e.tokens
      ∙ ap (λ ts. ts ++ end_array ∷ []) (added.tokens ∙ ap (λ ts. ts ++ job_tokens jobs) begun.tokens)
      ∙ append_assoc (old.tokens ++ begin_array ∷ []) (job_tokens jobs) (end_array ∷ [])
      ∙ append_assoc old.tokens (begin_array ∷ []) (job_tokens jobs ++ end_array ∷ [])
      ∙ ap (λ ts. old.tokens ++ begin_array ∷ ts) (subjects_closed jobs);
}

pub listed : {E : Type 0} {old first second : Written} (new : Written) (jobs : List JobName) (r : Result (Unit {0}) E)
    → AddsTokens old first (begin_array ∷ []) → AddsTokens first second (job_tokens jobs)
    → OnOk r (AddsTokens second new (end_array ∷ [])) → OnOk r (AddsValue old new (subjects_data jobs))
listed {E} {old} {first} {second} new jobs r begun added =
    on_ok (AddsTokens second new (end_array ∷ [])) (AddsValue old new (subjects_data jobs)) r (list_of jobs begun added)
