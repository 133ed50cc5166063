use Rattle.std.proofs.Common.{ap, ◌∙◌}
use Rattle.std.specs.List.{list_any}
use Rattle.diego_names.specs.declared.key.Key.{Key}
use Rattle.what_if.specs.Stays.{same_key}
use Rattle.what_if.proofs.Agreeing.{crashed-from_keys}
use Rattle.what_if.proofs.wanting.crashed_of.Goals as goal

pub returns : goal.returns
returns c = λ key.
    c.in_ok-set.ensures key
    ∙ ap (list_any (λ (k : Key). same_key k key)) (c.deref.ensures.value ∙ c.in_ok-keys.ensures)
    ∙ crashed-from_keys c.args.rows.now key
