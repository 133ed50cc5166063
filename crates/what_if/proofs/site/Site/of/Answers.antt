use Rattle.std.proofs.Common.{◌≡◌, List, map, filter, subst, sym, ap, ◌∙◌}
use Rattle.std.specs.List.{filter_map}
use Rattle.dump_lines.specs.declared.rows.TaskRow.{TaskRow}
use Rattle.what_if.specs.Sites.{cells_of, is_some_row, silent_stay, site_of, task_job, IsSite}
use Rattle.what_if.proofs.SoundSites.{IsSite-site_of}
use Rattle.what_if.proofs.site.Site.of.Goals as goal

pub returns-clause-sound : goal.returns-clause-sound
returns-clause-sound c =
    let site : c.site_from.result ≡ site_of c.args.dump.now = (c.site_from.ensures
    ∙ (λ i. record {
      cells = (c.in_ok-cells.ensures ∙ ap cells_of c.items.ensures) i;
      silent = c.in_ok-silent.ensures i;
      silent_stays = (c.in_ok-stays.ensures ∙ (λ j. filter_map
          (silent_stay ((c.deref.ensures.value ∙ c.in_ok-silent.ensures) j)) (c.items-2.ensures j))) i;
      wanted = c.in_ok-wanted.ensures i;
      pending = (c.in_ok-pending.ensures ∙ ap (λ (ts : List TaskRow). map task_job (filter (λ t. t.waits) ts))
          c.items-3.ensures) i;
      told_desired = (c.is_some_row-told_desired.ensures ∙ ap is_some_row c.items-4.ensures) i;
    })) in
    subst IsSite (sym site) (IsSite-site_of c.args.dump.now c.requires)
