-- What convergence asks is by subject, and rises by it.
use Rattle.std.proofs.Common.{◌≡◌, ◌↔◌, ℕ, ◌<◌, true, false, List, ◌++◌, map, Option, Some, None, refl, sym, ap, subst, ◌∙◌, ⊎_elim, arith}
use Rattle.std.proofs.lemmas.Bool.Decides.{nat_tests}
use Rattle.std.proofs.lemmas.List.Elements.{Contains-append_left, Contains-append_right, Contains-append_cases}
use Rattle.std.specs.List.{Contains, filter_map, range_with_len}
use Rattle.std.specs.Option.{option_and_then}
use Rattle.std.specs.Ordering.{nat_cmp}
use Rattle.std.specs.declared.cmp.Ordering.TheVariants.{Less}
use Rattle.cell_records.specs.declared.cell_row.CellRow.{CellRow}
use Rattle.crash_backoff.specs.declared.moment.Moment.{Moment}
use Rattle.diego_names.proofs.Public.{IsKeyOrder-name_order}
use Rattle.diego_names.specs.Order.{name_order}
use Rattle.diego_names.specs.declared.key.Key.{Key}
use Rattle.lrp_records.proofs.Public.{IsKeyOrder-place_order}
use Rattle.lrp_records.specs.Place.{place_of, place_order}
use Rattle.lrp_records.specs.declared.actual.Actual.{Actual}
use Rattle.lrp_records.specs.declared.desired.Desired.{Desired}
use Rattle.lrp_records.specs.declared.presence.Presence.{Presence}
use Rattle.lrp_records.specs.declared.presence.Presence.TheVariants.{Ordinary, Evacuating, Suspect}
use Rattle.row_tables.specs.Table.{find_row, IsRising}
use Rattle.row_tables.proofs.Public.{Contains-find_row, find_row-Contains, key-find_row, IsRising-table}
use Rattle.task_records.specs.declared.task.Task.{Task}
use Rattle.bbs_model.specs.Lrps.{is_wanted}
use Rattle.bbs_model.specs.Tables.{process_of, task_name_of, cell_name_of, domain_name_of, find_desired, find_actual, find_cell, find_domain, find_task}
use Rattle.bbs_model.specs.Valid.{IsValid}
use Rattle.bbs_model.specs.Work as told
use Rattle.bbs_model.specs.declared.command.Command.{Command}
use Rattle.bbs_model.specs.declared.command.Op.{Op}
use Rattle.bbs_model.specs.declared.command.Op.TheVariants as op
use Rattle.bbs_model.specs.declared.domain_row.DomainRow.{DomainRow}
use Rattle.bbs_model.specs.declared.rows.Rows.{Rows}
use Rattle.convergence.specs.Subjects.{Subject, OfCell, OfDomain, OfPlace, OfTask, OfProcess, subject_rank, subject_order, subject_of, subject_in, work_on, RiseBySubject}
use Rattle.convergence.proofs.About.{about_is, about_cell, about_domain, about_place, about_task}
use Rattle.convergence.proofs.Gathers.{Contains-map, Contains-from_map, Contains-flat_map, Contains-range, Contains-filter_map, Contains-from_filter_map, IsRising-append, IsRising-map, IsRising-filter_map}
use Rattle.convergence.proofs.Members.{Contains-table}

-- a subject of a lower rank stands below
ranks_decide : (x y : Subject) → nat_cmp (subject_rank x) (subject_rank y) ≡ Less → subject_order x y ≡ Less
ranks_decide (OfCell a) (OfCell b) e = absurd cc
ranks_decide (OfDomain a) (OfDomain b) e = absurd cc
ranks_decide (OfPlace a) (OfPlace b) e = absurd cc
ranks_decide (OfTask a) (OfTask b) e = absurd cc
ranks_decide (OfProcess a) (OfProcess b) e = absurd cc
ranks_decide x y e = e

-- the rank of what a command is about
abbrev IsRanked : ℕ → Op → Type 0
IsRanked n o = subject_rank (subject_of o) ≡ n

ranked_below : (m n : ℕ) → nat_cmp m n ≡ Less → (a b : Op) → IsRanked m a → IsRanked n b
    → subject_order (subject_of a) (subject_of b) ≡ Less
ranked_below m n lt a b f g =
    ranks_decide (subject_of a) (subject_of b) (ap (λ k. nat_cmp k (subject_rank (subject_of b))) f ∙ ap
    (nat_cmp m) g ∙ lt)

-- the four parts of what is asked
abbrev of_cells : Rows → Moment → List Op
of_cells rows now = filter_map (λ (c : CellRow). told.cell_work c now) rows.cells

abbrev of_domains : Rows → Moment → List Op
of_domains rows now = filter_map (λ (d : DomainRow). told.domain_work d now) rows.domains

abbrev of_places : Rows → Moment → List Op
of_places rows now = filter_map (told.place_work rows now) (told.places rows)

abbrev of_tasks : Rows → Moment → List Op
of_tasks rows now = filter_map (told.task_work rows now) rows.tasks

-- what is asked of places and tasks, and of all but cells
abbrev behind_domains : Rows → Moment → List Op
behind_domains rows now = of_places rows now ++ of_tasks rows now

abbrev behind_cells : Rows → Moment → List Op
behind_cells rows now = of_domains rows now ++ behind_domains rows now

module _ (rows : Rows) (now : Moment) where
  -- a command that is asked of a cell, a domain, a place or a task is about it
  cell_in : (o : Op) → Contains (of_cells rows now) o → (c : CellRow) × Contains rows.cells c
      × (told.cell_work c now ≡ Some o) × (subject_of o ≡ OfCell c.cell)
  cell_in o h =
      let r = Contains-from_filter_map (λ (c : CellRow). told.cell_work c now) rows.cells o h in
      (r.0, r.1, r.2, about_is (OfCell r.0.cell) (told.cell_work r.0 now) o (about_cell r.0 now) r.2)

  domain_in : (o : Op) → Contains (of_domains rows now) o
      → (d : DomainRow) × Contains rows.domains d × (told.domain_work d now ≡ Some o)
      × (subject_of o ≡ OfDomain d.domain)
  domain_in o h =
      let r = Contains-from_filter_map (λ (d : DomainRow). told.domain_work d now) rows.domains o h in
      (r.0, r.1, r.2, about_is (OfDomain r.0.domain) (told.domain_work r.0 now) o (about_domain r.0 now) r.2)

  place_in : (o : Op) → Contains (of_places rows now) o → (p : Key × Presence) × Contains (told.places rows) p
      × (told.place_work rows now p ≡ Some o) × (subject_of o ≡ OfPlace p)
  place_in o h =
      let r = Contains-from_filter_map (told.place_work rows now) (told.places rows) o h in
      (r.0, r.1, r.2, about_is (OfPlace r.0) (told.place_work rows now r.0) o (about_place rows now r.0) r.2)

  task_in : (o : Op) → Contains (of_tasks rows now) o → (t : Task) × Contains rows.tasks t
      × (told.task_work rows now t ≡ Some o) × (subject_of o ≡ OfTask t.name)
  task_in o h =
      let r = Contains-from_filter_map (told.task_work rows now) rows.tasks o h in
      (r.0, r.1, r.2, about_is (OfTask r.0.name) (told.task_work rows now r.0) o (about_task rows now r.0) r.2)

  ranked_cell : (o : Op) → Contains (of_cells rows now) o → IsRanked 0 o
  ranked_cell o h = ap subject_rank (cell_in o h).3

  ranked_domain : (o : Op) → Contains (of_domains rows now) o → IsRanked 1 o
  ranked_domain o h = ap subject_rank (domain_in o h).3

  ranked_place : (o : Op) → Contains (of_places rows now) o → IsRanked 2 o
  ranked_place o h = ap subject_rank (place_in o h).3

  ranked_task : (o : Op) → Contains (of_tasks rows now) o → IsRanked 3 o
  ranked_task o h = ap subject_rank (task_in o h).3

  -- what is of a rank below 2 stands below what is asked of places and tasks
  below_rest : (m : ℕ) → nat_cmp m 2 ≡ Less → nat_cmp m 3 ≡ Less → (a b : Op) → IsRanked m a
      → Contains (behind_domains rows now) b → subject_order (subject_of a) (subject_of b) ≡ Less
  below_rest m two three a b f g =
      ⊎_elim (λ h. ranked_below m 2 two a b f (ranked_place b h)) (λ h. ranked_below m 3 three a b f (ranked_task b h))
      (Contains-append_cases (of_places rows now) (of_tasks rows now) b g)

  below_all_behind : (a b : Op) → IsRanked 0 a → Contains (behind_cells rows now) b
      → subject_order (subject_of a) (subject_of b) ≡ Less
  below_all_behind a b f g =
      ⊎_elim (λ h. ranked_below 0 1 refl a b f (ranked_domain b h)) (λ h. below_rest 0 refl refl a b f h)
      (Contains-append_cases (of_domains rows now) (behind_domains rows now) b g)

  pub work_rises : IsValid rows → RiseBySubject (told.work rows now)
  work_rises v =
      let cells : IsRising subject_order subject_of (of_cells rows now) =
      IsRising-filter_map name_order cell_name_of subject_order subject_of OfCell
      (λ (c : CellRow). told.cell_work c now) (λ a b. refl)
      (λ c o e. about_is (OfCell c.cell) (told.cell_work c now) o (about_cell c now) e) rows.cells v.cells.rising in
      let domains : IsRising subject_order subject_of (of_domains rows now) =
      IsRising-filter_map name_order domain_name_of subject_order subject_of OfDomain
      (λ (d : DomainRow). told.domain_work d now) (λ a b. refl)
      (λ d o e. about_is (OfDomain d.domain) (told.domain_work d now) o (about_domain d now) e) rows.domains
      v.domains.rising in
      let places : IsRising subject_order subject_of (of_places rows now) =
      IsRising-filter_map place_order (λ (p : Key × Presence). p) subject_order subject_of OfPlace
      (told.place_work rows now) (λ a b. refl)
      (λ p o e. about_is (OfPlace p) (told.place_work rows now p) o (about_place rows now p) e) (told.places rows)
      (IsRising-table place_order (λ (p : Key × Presence). p) IsKeyOrder-place_order
      (told.wanted_places rows.desired ++ map place_of rows.actual)) in
      let tasks : IsRising subject_order subject_of (of_tasks rows now) =
      IsRising-filter_map name_order task_name_of subject_order subject_of OfTask (told.task_work rows now)
      (λ a b. refl)
      (λ t o e. about_is (OfTask t.name) (told.task_work rows now t) o (about_task rows now t) e) rows.tasks
      v.tasks.rising in
      IsRising-map subject_order subject_in (told.at now) (told.asked_of_all rows now)
      (IsRising-append subject_order subject_of (of_cells rows now) (behind_cells rows now) cells
      (IsRising-append subject_order subject_of (of_domains rows now) (behind_domains rows now) domains
      (IsRising-append subject_order subject_of (of_places rows now) (of_tasks rows now) places tasks
      (λ a b f g. ranked_below 2 3 refl a b (ranked_place a f) (ranked_task b g)))
      (λ a b f g. below_rest 1 refl refl a b (ranked_domain a f) g))
      (λ a b f g. below_all_behind a b (ranked_cell a f) g))

  -- what is asked is asked of its subject
  asked_behind_domains : IsValid rows → (o : Op) → Contains (behind_domains rows now) o
      → work_on rows now (subject_of o) ≡ Some o
  asked_behind_domains v o h =
      ⊎_elim
      (λ (g : Contains (of_places rows now) o). let x = place_in o g in ap (work_on rows now) x.3 ∙ x.2)
      (λ (g : Contains (of_tasks rows now) o).
      let x = task_in o g in
      ap (work_on rows now) x.3
      ∙ ap (option_and_then (told.task_work rows now)) (find_row-Contains name_order task_name_of IsKeyOrder-name_order
      x.0 rows.tasks v.tasks.rising x.1) ∙ x.2)
      (Contains-append_cases (of_places rows now) (of_tasks rows now) o h)

  asked_behind_cells : IsValid rows → (o : Op) → Contains (behind_cells rows now) o
      → work_on rows now (subject_of o) ≡ Some o
  asked_behind_cells v o h =
      ⊎_elim
      (λ (g : Contains (of_domains rows now) o).
      let x = domain_in o g in
      ap (work_on rows now) x.3
      ∙ ap (option_and_then (λ (d : DomainRow). told.domain_work d now))
      (find_row-Contains name_order domain_name_of IsKeyOrder-name_order x.0 rows.domains v.domains.rising x.1) ∙
      x.2)
      (asked_behind_domains v o)
      (Contains-append_cases (of_domains rows now) (behind_domains rows now) o h)

  asked_of_subject : IsValid rows → (o : Op) → Contains (told.asked_of_all rows now) o
      → work_on rows now (subject_of o) ≡ Some o
  asked_of_subject v o h =
      ⊎_elim
      (λ (f : Contains (of_cells rows now) o).
      let x = cell_in o f in
      ap (work_on rows now) x.3
      ∙ ap (option_and_then (λ (c : CellRow). told.cell_work c now))
      (find_row-Contains name_order cell_name_of IsKeyOrder-name_order x.0 rows.cells v.cells.rising x.1) ∙ x.2)
      (asked_behind_cells v o)
      (Contains-append_cases (of_cells rows now) (behind_cells rows now) o h)

  -- an instance that is wanted has its place
  wanted_place : (key : Key) → told.wants rows key ≡ true → Contains (told.wanted_places rows.desired) (key, Ordinary)
  wanted_place key w =
      elim (find_desired rows key.process) as (λ (s : Option Desired). find_desired rows key.process ≡ s
      → is_wanted s key.index ≡ true → Contains (told.wanted_places rows.desired) (key, Ordinary)) [
        | None ↦ λ e t. absurd cc
        | (Some d) ↦ λ e t.
            let same : d.process ≡ key.process = key-find_row name_order process_of IsKeyOrder-name_order key.process d
            rows.desired e in
            let few : key.index < d.instances = grind (arith, nat_tests) in
            let mine : Contains (map (λ (i : ℕ). (record { process = d.process; index = i }, Ordinary))
            (range_with_len 0 d.instances)) (record { process = d.process; index = key.index }, Ordinary) =
            Contains-map (λ (i : ℕ). (record { process = d.process; index = i }, Ordinary))
            (range_with_len 0 d.instances) key.index (Contains-range d.instances key.index few) in
            subst (λ (p : List ℕ). Contains (told.wanted_places rows.desired)
            (record { process = p; index = key.index }, Ordinary)) same
            (Contains-flat_map (λ (r : Desired). map (λ (i : ℕ). (record { process = r.process; index = i }, Ordinary))
            (range_with_len 0 r.instances)) rows.desired d (
              record { process = d.process; index = key.index },
              Ordinary,
            )
            (Contains-find_row name_order process_of key.process d rows.desired e) mine)
      ] refl w

  -- a row stands at its place
  standing_place : (p : Key × Presence) (a : Actual) → find_row place_order place_of p rows.actual ≡ Some a
      → Contains (map place_of rows.actual) p
  standing_place p a e =
      subst (Contains (map place_of rows.actual)) (key-find_row place_order place_of IsKeyOrder-place_order p a
      rows.actual e)
      (Contains-map place_of rows.actual a (Contains-find_row place_order place_of p a rows.actual e))

  -- an instance without a row of which something is asked is wanted
  makes_wanted : (key : Key) (o : Op) → told.ordinary_work rows now key None ≡ Some o → told.wants rows key ≡ true
  makes_wanted key o e =
      elim (told.wants rows key) as (λ b. told.asked_if b (op.Make key) ≡ Some o → b ≡ true)
      [ true ↦ λ t. refl | false ↦ λ t. absurd cc ] e

  -- a place of which something is asked has a row or is wanted
  asked_place : (p : Key × Presence) (o : Op) → told.place_work rows now p ≡ Some o
      → Contains (told.wanted_places rows.desired ++ map place_of rows.actual) p
  asked_place (key, Ordinary) o e =
      elim (find_actual rows key Ordinary) as (λ (s : Option Actual). find_actual rows key Ordinary ≡ s
      → told.ordinary_work rows now key s ≡ Some o → Contains
      (told.wanted_places rows.desired ++ map place_of rows.actual) (key, Ordinary)) [
        | None ↦ λ is t. Contains-append_left (told.wanted_places rows.desired) (map place_of rows.actual)
            (key, Ordinary) (wanted_place key (makes_wanted key o t))
        | (Some a) ↦ λ is t. Contains-append_right (told.wanted_places rows.desired) (map place_of rows.actual)
            (key, Ordinary) (standing_place (key, Ordinary) a is)
      ] refl e
  asked_place (key, Evacuating) o e =
      elim (find_actual rows key Evacuating) as (λ (s : Option Actual). find_actual rows key Evacuating ≡ s
      → told.evacuating_work rows now key s ≡ Some o → Contains
      (told.wanted_places rows.desired ++ map place_of rows.actual) (key, Evacuating)) [
        | None ↦ λ is t. absurd cc
        | (Some a) ↦ λ is t. Contains-append_right (told.wanted_places rows.desired) (map place_of rows.actual)
            (key, Evacuating) (standing_place (key, Evacuating) a is)
      ] refl e
  asked_place (key, Suspect) o e =
      elim (find_actual rows key Suspect) as (λ (s : Option Actual). find_actual rows key Suspect ≡ s
      → told.suspect_work rows now key s ≡ Some o → Contains
      (told.wanted_places rows.desired ++ map place_of rows.actual) (key, Suspect)) [
        | None ↦ λ is t. absurd cc
        | (Some a) ↦ λ is t. Contains-append_right (told.wanted_places rows.desired) (map place_of rows.actual)
            (key, Suspect) (standing_place (key, Suspect) a is)
      ] refl e

  asked_late : (o : Op) → Contains (behind_domains rows now) o → Contains (told.asked_of_all rows now) o
  asked_late o h =
      Contains-append_right (of_cells rows now) (behind_cells rows now) o
      (Contains-append_right (of_domains rows now) (behind_domains rows now) o h)

  -- what a subject is asked for is asked
  subject_is_asked : (s : Subject) (o : Op) → work_on rows now s ≡ Some o → Contains (told.asked_of_all rows now) o
  subject_is_asked (OfCell name) o e =
      elim (find_cell rows name) as (λ (s : Option CellRow). find_cell rows name ≡ s
      → option_and_then (λ (c : CellRow). told.cell_work c now) s ≡ Some o
      → Contains (told.asked_of_all rows now) o) [
        | None ↦ λ is t. absurd cc
        | (Some c) ↦ λ is t. Contains-append_left (of_cells rows now) (behind_cells rows now) o
            (Contains-filter_map (λ (r : CellRow). told.cell_work r now) rows.cells c o
            (Contains-find_row name_order cell_name_of name c rows.cells is) t)
      ] refl e
  subject_is_asked (OfDomain name) o e =
      elim (find_domain rows name) as (λ (s : Option DomainRow). find_domain rows name ≡ s
      → option_and_then (λ (d : DomainRow). told.domain_work d now) s ≡ Some o
      → Contains (told.asked_of_all rows now) o) [
        | None ↦ λ is t. absurd cc
        | (Some d) ↦ λ is t. Contains-append_right (of_cells rows now) (behind_cells rows now) o
            (Contains-append_left (of_domains rows now) (behind_domains rows now) o
            (Contains-filter_map (λ (r : DomainRow). told.domain_work r now) rows.domains d o
            (Contains-find_row name_order domain_name_of name d rows.domains is) t))
      ] refl e
  subject_is_asked (OfPlace p) o e =
      let stands = Contains-table place_order IsKeyOrder-place_order
      (told.wanted_places rows.desired ++ map place_of rows.actual) p (asked_place p o e) in
      asked_late o
      (Contains-append_left (of_places rows now) (of_tasks rows now) o
      (Contains-filter_map (told.place_work rows now) (told.places rows) p o stands e))
  subject_is_asked (OfTask name) o e =
      elim (find_task rows name) as (λ (s : Option Task). find_task rows name ≡ s
      → option_and_then (told.task_work rows now) s ≡ Some o → Contains (told.asked_of_all rows now) o) [
        | None ↦ λ is t. absurd cc
        | (Some t) ↦ λ is asked. asked_late o
            (Contains-append_right (of_places rows now) (of_tasks rows now) o
            (Contains-filter_map (told.task_work rows now) rows.tasks t o
            (Contains-find_row name_order task_name_of name t rows.tasks is) asked))
      ] refl e
  subject_is_asked (OfProcess name) o e = absurd cc

  pub work_is_by_subject : (c : Command) → IsValid rows → Contains (told.work rows now) c
      ↔ ((c.now ≡ now) × (work_on rows now (subject_in c) ≡ Some c.op))
  work_is_by_subject c v = (
    λ h.
        let r = Contains-from_map (told.at now) (told.asked_of_all rows now) c h in
        let same : r.0 ≡ c.op = ap (λ (x : Command). x.op) r.2 in (
          sym (ap (λ (x : Command). x.now) r.2),
          subst (λ (o : Op). work_on rows now (subject_of o) ≡ Some o) same
              (asked_of_subject v r.0 r.1),
        ),
    λ h.
        let is : told.at now c.op ≡ c = ap (λ (m : Moment). told.at m c.op) (sym h.0) in
        subst (Contains (told.work rows now)) is (Contains-map (told.at now) (told.asked_of_all rows now) c.op
        (subject_is_asked (subject_in c) c.op h.1)),
  )
