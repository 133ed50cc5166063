-- The causes of a subject depend on little.
use Rattle.std.proofs.Common.{◌≡◌, List, ap, refl}
use Rattle.std.specs.Option.{option_map}
use Rattle.std.specs.Prelude.{option_to_list}
use Rattle.bbs_model.specs.declared.rows.Rows.{Rows}
use Rattle.convergence.specs.Subjects.{Subject, OfCell, OfDomain, OfPlace, OfTask, OfProcess}
use Rattle.work_causes.specs.Causes.{causes_of, end_causes, lease_causes, place_causes, task_cause}
use Rattle.work_causes.specs.CauseLaws.{IsAlikeFor}

pub alike : (s : Subject) (old new : Rows) → IsAlikeFor s old new → causes_of new s ≡ causes_of old s
alike (OfCell cell) old new h = ap lease_causes h
alike (OfDomain name) old new h = ap end_causes h
alike (OfPlace place) old new h = λ i. place_causes place.1 (h.wanted i) (h.ordinary i) (h.own i)
alike (OfTask name) old new h = ap (λ row. option_to_list (option_map task_cause row)) h
alike (OfProcess process) old new h = refl
