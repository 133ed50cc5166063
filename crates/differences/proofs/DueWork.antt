-- What is due is what convergence asks.
use Rattle.std.proofs.Common.{◌≡◌, ℕ, Bool, true, List, [], ◌++◌, length, map, option_to_list, Option, Some, None, is_some, refl, ap, sym, subst, ◌∙◌, ⊎_elim}
use Rattle.std.proofs.lemmas.Cmp.{nat_list_eq_equiv}
use Rattle.std.proofs.lemmas.List.{length-map}
use Rattle.std.proofs.lemmas.List.Elements.{Contains-append_left, Contains-append_right, Contains-append_cases}
use Rattle.std.specs.List.{Contains, filter_map}
use Rattle.std.specs.Map.{lookup}
use Rattle.std.specs.Option.{option_map_or}
use Rattle.std.specs.Ordering.{nat_cmp}
use Rattle.std.specs.declared.cmp.Ordering.{Ordering}
use Rattle.std.specs.declared.cmp.Ordering.TheVariants.{Less}
use Rattle.crash_backoff.specs.declared.moment.Moment.{Moment}
use Rattle.diego_names.proofs.Public.{IsKeyOrder-name_order}
use Rattle.diego_names.specs.Order.{name_order}
use Rattle.diego_names.specs.declared.key.Key.{Key}
use Rattle.lrp_records.proofs.Public.{IsKeyOrder-place_order}
use Rattle.lrp_records.specs.Place.{place_order}
use Rattle.lrp_records.specs.declared.presence.Presence.{Presence}
use Rattle.row_tables.specs.Table.{IsRising}
use Rattle.row_tables.proofs.Public.{IsRising-table}
use Rattle.bbs_model.specs.Valid.{IsValid}
use Rattle.bbs_model.specs.Work.{at, work}
use Rattle.bbs_model.specs.declared.command.Command.{Command}
use Rattle.bbs_model.specs.declared.command.Op.{Op}
use Rattle.bbs_model.specs.declared.rows.Rows.{Rows}
use Rattle.convergence.specs.Subjects.{Subject, OfCell, OfDomain, OfPlace, OfTask, OfProcess, subject_of, subject_in, subject_order, subject_rank, work_on}
use Rattle.convergence.proofs.Public.{about_is, about_work, Contains-filter_map, Contains-from_filter_map, Contains-from_map, Contains-map, IsKeyOrder-subject_order, IsRising-append, IsRising-filter_map, IsRising-map, same_members, work_is_by_subject, work_rises}
use Rattle.work_causes.proofs.Public.{tell}
use Rattle.work_causes.specs.Causes.{any_holds_by, end_causes, lease_causes, listed}
use Rattle.work_causes.specs.declared.cause.Cause.{Cause}
use Rattle.work_causes.specs.declared.cause.Causes.{Causes}
use Rattle.work_causes.specs.declared.cause.Lease.{Lease}
use Rattle.differences.specs.Due.{AreUnique, DueKeys, causes_of_end, causes_of_lease, due_in, keys_due, one_cause, subjects_in}
use Rattle.differences.specs.Noted.{Noted, celled, domained, ends_by, is_place, named, noted}
use Rattle.differences.specs.Standing.{StandsFor}
use Rattle.differences.proofs.DueLists.{due-from, due-in, filter_map-some, length-filter_map}
use Rattle.differences.proofs.Keys.{IsEquivalence-same, TellsApart-names, TellsApart-places}

-- a subject of a lower rank stands below
ranks_decide : (x y : Subject) → nat_cmp (subject_rank x) (subject_rank y) ≡ Less → subject_order x y ≡ Less
ranks_decide (OfCell a) (OfCell b) e = absurd cc
ranks_decide (OfDomain a) (OfDomain b) e = absurd cc
ranks_decide (OfPlace a) (OfPlace b) e = absurd cc
ranks_decide (OfTask a) (OfTask b) e = absurd cc
ranks_decide (OfProcess a) (OfProcess b) e = absurd cc
ranks_decide x y e = e

module _ (d : Noted) (rows : Rows) (now : Moment) (v : IsValid rows) (stands : StandsFor d rows)
    (once : AreUnique d) where
  abbrev due : DueKeys
  due = due_in d now

  abbrev subjects : List Subject
  subjects = subjects_in due

  -- one of the causes of a list holds by what is kept
  abbrev any : List Cause → Bool
  any = any_holds_by (ends_by d.cells d.domains) now

  -- what is kept tells whether a subject is asked for something
  kept_tell : (s : Subject) → any (noted d s) ≡ is_some (work_on rows now s)
  kept_tell s =
      (λ i. any_holds_by (record { cells = λ q. stands.cells q i; domains = λ q. stands.domains q i }) now
      (stands.causes s i))
      ∙ sym (tell rows now s v)

  -- the parts of what is due
  pub in_cells : (q : List ℕ) → Contains due.cells q → Contains subjects (OfCell q)
  in_cells q h = Contains-append_left (map OfCell due.cells) _ (OfCell q) (Contains-map OfCell due.cells q h)

  pub in_domains : (q : List ℕ) → Contains due.domains q → Contains subjects (OfDomain q)
  in_domains q h =
      Contains-append_right (map OfCell due.cells) _ (OfDomain q)
      (Contains-append_left (map OfDomain due.domains) _ (OfDomain q) (Contains-map OfDomain due.domains q h))

  pub in_places : (p : Key × Presence) → Contains due.places p → Contains subjects (OfPlace p)
  in_places p h =
      Contains-append_right (map OfCell due.cells) _ (OfPlace p)
      (Contains-append_right (map OfDomain due.domains) _ (OfPlace p)
      (Contains-append_left (map OfPlace due.places) (map OfTask due.tasks) (OfPlace p)
      (Contains-map OfPlace due.places p h)))

  pub in_tasks : (q : List ℕ) → Contains due.tasks q → Contains subjects (OfTask q)
  in_tasks q h =
      Contains-append_right (map OfCell due.cells) _ (OfTask q)
      (Contains-append_right (map OfDomain due.domains) _ (OfTask q)
      (Contains-append_right (map OfPlace due.places) (map OfTask due.tasks) (OfTask q)
      (Contains-map OfTask due.tasks q h)))

  -- what holds of the parts holds of each subject that is due
  each_due : (P : Subject → Type 0) → ((q : List ℕ) → Contains due.cells q → P (OfCell q))
      → ((q : List ℕ) → Contains due.domains q → P (OfDomain q))
      → ((p : Key × Presence) → Contains due.places p → P (OfPlace p))
      → ((q : List ℕ) → Contains due.tasks q → P (OfTask q))
      → (s : Subject) → Contains subjects s → P s
  each_due P cells domains places tasks s h =
      ⊎_elim (λ (f : Contains (map OfCell due.cells) s). let r = Contains-from_map OfCell due.cells s f in
      subst P r.2 (cells r.0 r.1))
      (λ (g : Contains (map OfDomain due.domains ++ (map OfPlace due.places ++ map OfTask due.tasks)) s).
      ⊎_elim (λ (f : Contains (map OfDomain due.domains) s). let r = Contains-from_map OfDomain due.domains s f in
      subst P r.2 (domains r.0 r.1))
      (λ (k : Contains (map OfPlace due.places ++ map OfTask due.tasks) s).
      ⊎_elim (λ (f : Contains (map OfPlace due.places) s). let r = Contains-from_map OfPlace due.places s f in
      subst P r.2 (places r.0 r.1))
      (λ (f : Contains (map OfTask due.tasks) s). let r = Contains-from_map OfTask due.tasks s f in
      subst P r.2 (tasks r.0 r.1))
      (Contains-append_cases (map OfPlace due.places) (map OfTask due.tasks) s k))
      (Contains-append_cases (map OfDomain due.domains) (map OfPlace due.places ++ map OfTask due.tasks) s g))
      (Contains-append_cases (map OfCell due.cells) (map OfDomain due.domains
      ++ (map OfPlace due.places ++ map OfTask due.tasks)) s h)

  due_cell : (q : List ℕ) (l : Option Lease) → celled d q ≡ l → any (lease_causes l) ≡ true → Contains due.cells q
  due_cell q None is e = absurd cc
  due_cell q (Some l) is e =
      due-in TellsApart-names nat_list_eq_equiv name_order IsKeyOrder-name_order causes_of_lease
      (ends_by d.cells d.domains) now d.cells q l is e

  due_domain : (q : List ℕ) (u : Option (Option ℕ)) → domained d q ≡ u → any (end_causes u) ≡ true
      → Contains due.domains q
  due_domain q None is e = absurd cc
  due_domain q (Some u) is e =
      due-in TellsApart-names nat_list_eq_equiv name_order IsKeyOrder-name_order causes_of_end
      (ends_by d.cells d.domains) now d.domains q u is e

  due_place : (p : Key × Presence) (c : Option Causes) → lookup (is_place p) d.places ≡ c
      → any (option_map_or listed c []) ≡ true → Contains due.places p
  due_place p None is e = absurd cc
  due_place p (Some c) is e =
      due-in TellsApart-places (IsEquivalence-same TellsApart-places) place_order IsKeyOrder-place_order listed
      (ends_by d.cells d.domains) now d.places p c is e

  due_task : (q : List ℕ) (c : Option Cause) → named d.tasks q ≡ c → any (option_to_list c) ≡ true
      → Contains due.tasks q
  due_task q None is e = absurd cc
  due_task q (Some c) is e =
      due-in TellsApart-names nat_list_eq_equiv name_order IsKeyOrder-name_order one_cause
      (ends_by d.cells d.domains) now d.tasks q c is e

  -- a subject of which a kept cause holds is due
  due_where : (s : Subject) → any (noted d s) ≡ true → Contains subjects s
  due_where (OfCell q) e = in_cells q (due_cell q (celled d q) refl e)
  due_where (OfDomain q) e = in_domains q (due_domain q (domained d q) refl e)
  due_where (OfPlace p) e = in_places p (due_place p (lookup (is_place p) d.places) refl e)
  due_where (OfTask q) e = in_tasks q (due_task q (named d.tasks q) refl e)
  due_where (OfProcess q) e = absurd cc

  -- and of each that is due a kept cause holds
  holds_of_due : (s : Subject) → Contains subjects s → any (noted d s) ≡ true
  holds_of_due = each_due (λ s. any (noted d s) ≡ true)
      (λ q h. let r = due-from TellsApart-names nat_list_eq_equiv name_order IsKeyOrder-name_order causes_of_lease
      (ends_by d.cells d.domains) now d.cells once.cells q h in
      ap (λ (l : Option Lease). any (lease_causes l)) r.1 ∙ r.2)
      (λ q h. let r = due-from TellsApart-names nat_list_eq_equiv name_order IsKeyOrder-name_order causes_of_end
      (ends_by d.cells d.domains) now d.domains once.domains q h in
      ap (λ (u : Option (Option ℕ)). any (end_causes u)) r.1 ∙ r.2)
      (λ p h. let r = due-from TellsApart-places (IsEquivalence-same TellsApart-places) place_order
      IsKeyOrder-place_order listed (ends_by d.cells d.domains) now d.places once.places p h in
      ap (λ (c : Option Causes). any (option_map_or listed c [])) r.1 ∙ r.2)
      (λ q h. let r = due-from TellsApart-names nat_list_eq_equiv name_order IsKeyOrder-name_order one_cause
      (ends_by d.cells d.domains) now d.tasks once.tasks q h in
      ap (λ (c : Option Cause). any (option_to_list c)) r.1 ∙ r.2)

  -- each subject that is due is asked for something
  pub due_is_asked : (s : Subject) → Contains subjects s → is_some (work_on rows now s) ≡ true
  due_is_asked s h = sym (kept_tell s) ∙ holds_of_due s h

  -- what is asked of the subjects that are due
  abbrev asked : List Op
  asked = filter_map (work_on rows now) subjects

  rising_map : {K : Type 0} (R : K → K → Ordering) (of : K → Subject)
      → ((a b : K) → subject_order (of a) (of b) ≡ R a b) → (ks : List K)
      → IsRising R (λ k. k) ks → IsRising subject_order (λ s. s) (map of ks)
  rising_map R of order ks h =
      subst (IsRising subject_order (λ s. s)) (filter_map-some of ks)
      (IsRising-filter_map R (λ k. k) subject_order (λ s. s) of (λ k. Some (of k)) order (λ k s e. cc) ks h)

  -- what is due of a kind that stands first is below the rest
  ranked : {K : Type 0} (of : K → Subject) (ks : List K) (n : ℕ) → ((k : K) → subject_rank (of k) ≡ n) → (s : Subject)
      → Contains (map of ks) s → subject_rank s ≡ n
  ranked of ks n rank s h = let r = Contains-from_map of ks s h in
      subst (λ (x : Subject). subject_rank x ≡ n) r.2 (rank r.0)

  below_by_rank : (m n : ℕ) → nat_cmp m n ≡ Less → (x y : Subject) → subject_rank x ≡ m → subject_rank y ≡ n
      → subject_order x y ≡ Less
  below_by_rank m n lt x y f g = ranks_decide x y ((λ i. nat_cmp (f i) (g i)) ∙ lt)

  subjects_rise : IsRising subject_order (λ s. s) subjects
  subjects_rise =
      let cells = rising_map name_order OfCell (λ a b. refl) due.cells
      (IsRising-table name_order (λ (k : List ℕ). k) IsKeyOrder-name_order
      (keys_due causes_of_lease (ends_by d.cells d.domains) now d.cells)) in
      let domains = rising_map name_order OfDomain (λ a b. refl) due.domains
      (IsRising-table name_order (λ (k : List ℕ). k) IsKeyOrder-name_order
      (keys_due causes_of_end (ends_by d.cells d.domains) now d.domains)) in
      let places = rising_map place_order OfPlace (λ a b. refl) due.places
      (IsRising-table place_order (λ (k : Key × Presence). k) IsKeyOrder-place_order
      (keys_due listed (ends_by d.cells d.domains) now d.places)) in
      let tasks = rising_map name_order OfTask (λ a b. refl) due.tasks
      (IsRising-table name_order (λ (k : List ℕ). k) IsKeyOrder-name_order
      (keys_due one_cause (ends_by d.cells d.domains) now d.tasks)) in
      let of_cells = ranked OfCell due.cells 0 (λ k. refl) in
      let of_domains = ranked OfDomain due.domains 1 (λ k. refl) in
      let of_places = ranked OfPlace due.places 2 (λ k. refl) in
      let of_tasks = ranked OfTask due.tasks 3 (λ k. refl) in
      IsRising-append subject_order (λ s. s) (map OfCell due.cells) _ cells
      (IsRising-append subject_order (λ s. s) (map OfDomain due.domains) _ domains
      (IsRising-append subject_order (λ s. s) (map OfPlace due.places) (map OfTask due.tasks) places tasks
      (λ x y f g. below_by_rank 2 3 refl x y (of_places x f) (of_tasks y g)))
      (λ x y f g. ⊎_elim (λ h. below_by_rank 1 2 refl x y (of_domains x f) (of_places y h))
      (λ h. below_by_rank 1 3 refl x y (of_domains x f) (of_tasks y h))
      (Contains-append_cases (map OfPlace due.places) (map OfTask due.tasks) y g)))
      (λ x y f g. ⊎_elim (λ h. below_by_rank 0 1 refl x y (of_cells x f) (of_domains y h))
      (λ k. ⊎_elim (λ h. below_by_rank 0 2 refl x y (of_cells x f) (of_places y h))
      (λ h. below_by_rank 0 3 refl x y (of_cells x f) (of_tasks y h))
      (Contains-append_cases (map OfPlace due.places) (map OfTask due.tasks) y k))
      (Contains-append_cases (map OfDomain due.domains) (map OfPlace due.places ++ map OfTask due.tasks) y g))

  asked_rises : IsRising subject_order subject_in (map (at now) asked)
  asked_rises =
      IsRising-map subject_order subject_in (at now) asked
      (IsRising-filter_map subject_order (λ s. s) subject_order subject_of (λ s. s) (work_on rows now) (λ a b. refl)
      (λ s o e. about_is s (work_on rows now s) o (about_work rows now s) e) subjects subjects_rise)

  -- a command that is asked is that of a subject which is due
  work_in : (c : Command) → Contains (work rows now) c → Contains (map (at now) asked) c
  work_in c h =
      let is = (work_is_by_subject rows now c v).0 h in
      let inside : Contains subjects (subject_in c) = due_where (subject_in c)
      (kept_tell (subject_in c) ∙ ap is_some is.1) in
      let same : at now c.op ≡ c = ap (λ (m : Moment). at m c.op) (sym is.0) in
      subst (Contains (map (at now) asked)) same
      (Contains-map (at now) asked c.op (Contains-filter_map (work_on rows now) subjects
      (subject_in c) c.op inside is.1))

  -- and the other way round
  work_from : (c : Command) → Contains (map (at now) asked) c → Contains (work rows now) c
  work_from c h =
      let r = Contains-from_map (at now) asked c h in
      let s = Contains-from_filter_map (work_on rows now) subjects r.0 r.1 in
      let about : subject_of r.0 ≡ s.0 = about_is s.0 (work_on rows now s.0) r.0 (about_work rows now s.0) s.2 in
      subst (Contains (work rows now)) r.2
      ((work_is_by_subject rows now (at now r.0) v).1 (refl, ap (work_on rows now) about ∙ s.2))

  -- what convergence asks is what is asked of the subjects that are due
  pub work_is_due : work rows now ≡ map (at now) asked
  work_is_due = same_members subject_order subject_in IsKeyOrder-subject_order (work rows now) (map (at now) asked)
      (work_rises rows now v) asked_rises work_in work_from

  -- there are as many commands as subjects that are due
  pub length-work : length (work rows now) ≡ length subjects
  length-work = ap length work_is_due ∙ length-map asked (at now) ∙ length-filter_map
      (work_on rows now) subjects due_is_asked
