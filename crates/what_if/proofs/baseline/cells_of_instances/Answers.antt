use Rattle.std.proofs.Common.{ℕ, List, filter, map, ap, ◌∙◌}
use Rattle.diego_names.specs.declared.key.Key.{Key}
use Rattle.what_if.specs.Stays.{same_key}
use Rattle.what_if.specs.declared.site.Stay.{Stay}
use Rattle.what_if.proofs.Grouped.{kept_pairs}
use Rattle.what_if.proofs.Names.{key_from_test}
use Rattle.what_if.proofs.baseline.cells_of_instances.Goals as goal

pub groups_of-requires : goal.groups_of-requires
groups_of-requires c = key_from_test

pub returns : goal.returns
returns c = λ key.
    c.in_ok-cells.ensures key
    ∙ ap (λ (ps : List (Key × List ℕ)). map (λ (p : Key × List ℕ). p.1)
    (filter (λ (p : Key × List ℕ). same_key p.0 key) ps))
    (c.deref.ensures.value ∙ c.in_ok-pairs.ensures)
    ∙ kept_pairs (λ (s : Stay). s.key) (λ (s : Stay). s.cell) (λ k. same_key k key) c.args.stays.now
