use Rattle.std.proofs.Common.{◌<◌, ◌∙◌, ◌≡◌, length, rules, find, List, Option, Some, sym, ap, subst}
use Rattle.std.specs.Ordering.{nat_cmp}
use Rattle.cell_records.specs.declared.answer.Answer.{Answer}
use Rattle.cell_records.specs.declared.container.Container.{Container}
use Rattle.container_store.specs.Store.{number_of}
use Rattle.row_tables.specs.Table.{IsRising}
use Rattle.convergence.specs.Containers.{is_container_of, container_in}
use Rattle.convergence.proofs.Indexing.{heard_is, told_none, told_some}
use Rattle.convergence.proofs.telling.told_of.Goals as goal

pub offset_bounds-answers-heard : goal.offset_bounds-answers-heard
offset_bounds-answers-heard c =
    let site = c.args.site.now in
    let within : c.in-Some.heard.now.at < length c.args.answers.now =
    (heard_is c.args.answers.now c.args.index.now c.requires
    (site.1, site.0.epoch) c.in-Some.heard.now c.in-Some.ensures.value).within in
    search rules

pub bounds-answers-heard : goal.bounds-answers-heard
bounds-answers-heard c =
    let site = c.args.site.now in
    (heard_is c.args.answers.now c.args.index.now c.requires
    (site.1, site.0.epoch) c.in-Some.heard.now c.in-Some.ensures.value).within

pub container_of-requires : goal.container_of-requires
container_of-requires c = λ noted.
    let site = c.args.site.now in
    let ordered = (heard_is c.args.answers.now c.args.index.now c.requires
    (site.1, site.0.epoch) c.in-Some.heard.now c.in-Some.ensures.value).in_order noted c.index-answers-heard.result
    in
    subst (λ (cs : List Container). IsRising nat_cmp number_of cs) (sym c.items-containers.ensures) ordered

pub returns-in-None : goal.returns-in-None
returns-in-None c = told_none c.args.answers.now c.args.index.now c.requires c.args.job.now c.args.site.now
    c.in-None.ensures.value

pub returns-in-Some : goal.returns-in-Some
returns-in-Some c =
    let site = c.args.site.now in
    let held : c.container_of.result ≡ container_in c.args.job.now site.0 c.index-answers-heard.result =
    c.container_of.ensures
    ∙ ap (find (is_container_of c.args.job.now site.0)) (c.items-containers.ensures ∙ ap (λ (x : Answer). x.containers)
    (sym c.index-answers-heard.is)) in
    ap (λ (o : Option Container). Some o) held
    ∙ told_some c.args.answers.now c.args.index.now c.requires c.args.job.now site c.in-Some.heard.now
    c.in-Some.ensures.value c.index-answers-heard.result c.index-answers-heard.is
