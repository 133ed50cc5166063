-- Which instances of the site a cell holds when others are lost: those whose rows name a cell that isn't lost.
use Rattle.std.proofs.Common.{◌≡◌, ℕ, Bool, true, false, ◌&&◌, not, List, filter, Some, refl, sym, ap, subst, ◌∙◌, ⊎_elim}
use Rattle.std.specs.List.{Contains}
use Rattle.auctioneer.specs.Stands.{has_ended, jobs_of}
use Rattle.bbs_model.specs.Tables.{find_actual}
use Rattle.bbs_model.specs.Valid.{IsValid}
use Rattle.bbs_model.specs.Work.{is_there}
use Rattle.bbs_model.specs.declared.rows.Rows.{Rows}
use Rattle.cell_records.specs.declared.answer.Answer.{Answer}
use Rattle.cell_records.specs.declared.container.Container.{Container}
use Rattle.cell_records.specs.declared.container_state.ContainerState.{ContainerState}
use Rattle.cell_records.specs.declared.container_state.ContainerState.TheVariants as box
use Rattle.cell_records.specs.declared.job_name.JobName.{JobName}
use Rattle.cell_records.specs.declared.job_name.JobName.TheVariants as job
use Rattle.container_store.specs.Changes.{is_uncompleted}
use Rattle.convergence.specs.Containers.{is_answer_of, is_container_of, site_of}
use Rattle.convergence.proofs.Public.{find-passes, same_cell}
use Rattle.converge_laws.proofs.Public.{from_filter, from_map, held-in, inside_filter, inside_map, looked_for, zip_back}
use Rattle.converge_round.specs.Places.{is_being_emptied}
use Rattle.crash_backoff.specs.declared.moment.Moment.{Moment}
use Rattle.diego_names.specs.declared.instance.Instance.{Instance}
use Rattle.diego_names.specs.declared.key.Key.{Key}
use Rattle.lrp_records.proofs.Public.{IsKeyOrder-place_order}
use Rattle.lrp_records.specs.Place.{place_of, place_order}
use Rattle.lrp_records.specs.declared.actual.Actual.{Actual}
use Rattle.lrp_records.specs.declared.presence.Presence.{Presence}
use Rattle.lrp_records.specs.declared.presence.Presence.TheVariants.{Ordinary, Evacuating}
use Rattle.row_tables.proofs.Public.{key-find_row}
use Rattle.what_if.specs.Stays.{is_held, is_lost, is_open}
use Rattle.what_if.specs.declared.site.Site.{Site}
use Rattle.forecast_laws.specs.Losses.{AreThoseThere, IsBehindALoss, IsSeenAs}
use Rattle.forecast_laws.proofs.Alike.{some_one, zip_there}
use Rattle.forecast_laws.proofs.CellsRead.{both_true}
use Rattle.forecast_laws.proofs.Ground.{not_true, still_there, was_there}
use Rattle.forecast_laws.proofs.HeldStill.{kept_still, ordinary_held}
use Rattle.forecast_laws.proofs.Holders.{held_by, held_on}
use Rattle.forecast_laws.proofs.Namers.{IsNamedOn, IsRowOn, namer}

runs_on : (s : ContainerState) → is_uncompleted s ≡ true → not (has_ended s) ≡ true
runs_on box.Reserved e = refl
runs_on box.Running e = refl
runs_on (box.Completed failed) e = absurd cc

both_ways : (b : Bool) → b ≡ true → b ≡ false → ⊥
both_ways true e f = cc
both_ways false e f = cc

-- the cell of a container that is told in two ways
same_cell_of : (p q : Instance × List ℕ) → Some p ≡ Some q → p.1 ≡ q.1
same_cell_of p q e = ap (λ (x : Instance × List ℕ). x.1) (some_one p q e)

module _ {site : Site} {lost : List (List ℕ)} {rows : Rows} {got stores : List Answer} {old now : Moment}
    (valid : IsValid rows) (those : AreThoseThere rows got now)
    (loss : IsBehindALoss site lost rows got stores old now) where
  module _ (key : Key) (a : Actual) (is : find_actual rows key Ordinary ≡ Some a) (instance : Instance) (cell : List ℕ)
      (on : site_of a.state ≡ Some (instance, cell)) where
    pub there_before : is_there rows old cell instance.epoch ≡ true
    there_before =
        let held = ordinary_held those loss key a instance cell is on in
        (held-in rows stores old (job.Lrp a.key) instance cell held).there

    -- an instance whose row names a cell that isn't lost is held
    pub held_still : is_lost lost cell ≡ false → is_held site lost key ≡ true
    held_still kept =
        let place : place_of a ≡ (key, Ordinary) =
        key-find_row place_order place_of IsKeyOrder-place_order (key, Ordinary) a rows.actual is in
        let same : a.key ≡ key = ap (λ (p : Key × Presence). p.0) place in
        let k = kept_still those loss (job.Lrp a.key) instance cell (ordinary_held those loss key a instance cell is on)
        (still_there rows lost old now loss.ended cell instance.epoch there_before kept) in
        let x = find-passes (is_answer_of cell instance.epoch) got k.answer k.in_got in
        let c = find-passes (is_container_of (job.Lrp a.key) instance) k.answer.containers k.container k.inside in
        let named : k.container.job ≡ job.Lrp key =
        sym (looked_for (job.Lrp a.key) instance k.container c.1).1 ∙ ap (λ (n : Key). job.Lrp n) same in
        let running = filter (λ (b : Container). not (has_ended b.state)) k.answer.containers in
        let inside : Contains (jobs_of k.answer.containers) (job.Lrp key) =
        subst (Contains (jobs_of k.answer.containers)) named
        (inside_map (λ (b : Container). b.job) running k.container
        (inside_filter (λ (b : Container). not (has_ended b.state)) k.answer.containers k.container c.0
        (runs_on k.container.state k.runs))) in
        let y = zip_back (IsSeenAs rows) loss.answers.cells got k.answer loss.answers.seen x.0 in
        let f = from_filter (λ (b : Answer). not (is_lost lost b.cell)) site.cells y.0 (loss.answers.kept_are.back y.0
        y.1) in
        let cells : k.answer.cell ≡ cell = ap (λ (p : List ℕ × ℕ). p.0) (same_cell k.answer (cell, instance.epoch)
        x.1) in
        let stays : y.0.evacuating ≡ false =
        sym y.2.emptied ∙ ap (is_being_emptied rows) cells ∙ loss.handed_on.ordinary key a instance cell is on in
        let opens : is_open lost y.0 ≡ true = λ i. f.1 i && not (stays i) in
        held_on site lost key y.0 (inside_filter (is_open lost) site.cells y.0 f.0 opens) (y.2.jobs.back
        (job.Lrp key) inside)

    -- its row names no other cell
    named_elsewhere : (i : Instance) (c : List ℕ) → is_lost lost cell ≡ true → is_lost lost c ≡ false
        → IsRowOn rows key Ordinary i c → ⊥
    named_elsewhere i c gone kept r =
        let one : r.row ≡ a = some_one r.row a (sym r.found ∙ is) in
        let names : c ≡ cell =
        same_cell_of (i, c) (instance, cell) (sym r.on ∙ ap (λ (b : Actual). site_of b.state) one ∙ on) in
        both_ways (is_lost lost c) (ap (is_lost lost) names ∙ gone) kept

    -- and a cell that an EVACUATING row names isn't open
    emptied_not : (i : Instance) (c : List ℕ) (b : Bool) → is_being_emptied rows c ≡ b → not b ≡ true
        → IsRowOn rows key Evacuating i c → ⊥
    emptied_not i c b same stays r =
        both_ways b (sym same ∙ loss.handed_on.evacuating key r.row i c r.found r.on) (not_true b stays)

    -- and one whose row names a lost cell isn't
    pub not_held : is_lost lost cell ≡ true → is_held site lost key ≡ true → ⊥
    not_held gone held =
        let c = held_by site lost key loss.none_silent held in
        let f = from_filter (is_open lost) site.cells c.0 c.1 in
        let both = both_true (not (is_lost lost c.0.cell)) (not c.0.evacuating) f.1 in
        let among : Contains loss.answers.cells c.0 =
        loss.answers.kept_are.there c.0 (inside_filter (λ (b : Answer). not (is_lost lost b.cell)) site.cells c.0 f.0
        both.0) in
        let y = zip_there (IsSeenAs rows) loss.answers.cells got c.0 loss.answers.seen among in
        let k = from_map (λ (b : Container). b.job) (filter (λ (b : Container). not (has_ended b.state)) y.0.containers)
        (job.Lrp key) (y.2.jobs.there (job.Lrp key) c.2) in
        let inside = from_filter (λ (b : Container). not (has_ended b.state)) y.0.containers k.0 k.1 in
        let here = was_there rows lost old now loss.ended y.0.cell y.0.epoch (those.only y.0 y.1) in
        ⊎_elim
        (λ (r : IsRowOn rows key Ordinary k.0.instance y.0.cell).
        named_elsewhere k.0.instance y.0.cell gone here.1 r)
        (λ (r : IsRowOn rows key Evacuating k.0.instance y.0.cell).
        emptied_not k.0.instance y.0.cell c.0.evacuating y.2.emptied both.1 r)
        (subst (λ (j : JobName). IsNamedOn j rows k.0.instance y.0.cell) k.2
        (namer valid those loss y.0 y.1 k.0 inside.0))
