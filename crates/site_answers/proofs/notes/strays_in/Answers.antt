use Rattle.std.proofs.Common.{◌≤◌, ◌&&◌, not, List, length, subst, sym, ap, ◌∙◌}
use Rattle.std.specs.HashSet.{contains}
use Rattle.std.specs.List.{count_by, flat_map, list_any, sum_by}
use Rattle.diego_names.specs.declared.key.Key.{Key}
use Rattle.dump_lines.specs.declared.cell_state.CellState.{CellState}
use Rattle.dump_lines.specs.declared.cell_state.InstanceOnCell.{InstanceOnCell}
use Rattle.site_answers.specs.Notes.{instances_of}
use Rattle.site_answers.specs.Noting.{is_stray}
use Rattle.site_answers.proofs.Named.{stray-by}
use Rattle.what_if.specs.Sites.{key_of}
use Rattle.what_if.specs.Stays.{same_key}
use Rattle.what_if.proofs.Agreeing.{count-same}
use Rattle.site_answers.proofs.notes.strays_in.Goals as goal

pub noted_in-strays-requires : goal.noted_in-strays-requires
noted_in-strays-requires c =
    subst (λ (ss : List CellState). sum_by (λ (s : CellState). length s.instances) ss ≤ 250000)
    (sym c.items-states.ensures) c.requires.limits.told

pub returns : goal.returns
returns c =
    let set = c.in_ok-set.set in
    let wanted = c.args.wanted.now in
    let told = λ (i : InstanceOnCell). not i.ended && not (contains same_key set (key_of i)) in
    c.noted_in-strays.ensures.value
    ∙ ap (λ (ss : List CellState). count_by told (flat_map (λ (s : CellState). s.instances) ss)) c.items-states.ensures
    ∙ count-same told (is_stray wanted)
    (stray-by wanted set (λ key. c.in_ok-set.ensures key ∙ ap (list_any (λ (k : Key). same_key k key))
    (c.deref.ensures.value ∙ c.in_ok-keys.ensures)))
    (instances_of c.args.dump.now)
