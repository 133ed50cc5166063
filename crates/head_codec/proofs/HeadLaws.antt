-- What is read as a head is spelled so, and its rows are those of a board.
use Rattle.std.proofs.Common.{◌≡◌, ℕ, ◌≤◌, List, [], ◌++◌, length, Ok, sym, ap, subst, ◌∙◌, arith, append-nil, length-append}
use Rattle.std.specs.List.{flat_map}
use Rattle.std.proofs.lemmas.List.{nil_from_length}
use Rattle.diego_names.specs.Order.{name_order}
use Rattle.diego_names.proofs.Public.{IsKeyOrder-name_order}
use Rattle.lrp_records.specs.Place.{place_of, place_order}
use Rattle.lrp_records.proofs.Public.{IsKeyOrder-place_order}
use Rattle.wire_fields.specs.Laws.{IsBytes, TextStandsAt}
use Rattle.wire_fields.proofs.Public.{StandsAt-append}
use Rattle.bbs_model.specs.Tables.{process_of, task_name_of, cell_name_of, domain_name_of}
use Rattle.bbs_model.specs.Valid.{IsValid}
use Rattle.bbs_model.specs.declared.rows.Rows.{Rows}
use Rattle.bbs_codec.specs.Formats.{desired}
use Rattle.bbs_codec.specs.RowFormats.{actual_in, task_row, cell_row, domain_in}
use Rattle.head_codec.specs.Head.{Counts, counts_in, head_spelled, FitsHead, desired_keep, actual_keep, tasks_keep, cells_keep, domains_keep, counts_at, desired_at, actual_at, tasks_at, cells_at, domains_at, head_reading}
use Rattle.bbs_codec.proofs.Public.{laws-desired, laws-task_row, laws-cell_row, IsFormat-actual_in, IsFormat-domain_in}
use Rattle.head_codec.proofs.HeadParts.{rows_of, parts_found, kept_counts}
use Rattle.head_codec.proofs.ReadTables.{table_valid, table_spelled}
use Rattle.head_codec.proofs.RowLengths.{IsFormat-counts_in}
use Rattle.head_codec.proofs.Tables.{AreDesired-table, AreActual-table, AreTasks-table, AreCells-table, AreDomains-table}

-- rows that were read are those of a board
pub head_valid : (version : ℕ) (bytes : List ℕ) (rows : Rows) → head_reading version bytes ≡ Ok rows → IsValid rows
unfolding counts_at desired_at actual_at tasks_at cells_at domains_at
head_valid version bytes rows e =
    let found = parts_found version bytes rows e in
    let p = found.1 in
    let next : ℕ = p.c.0.0 in
    subst IsValid p.rows_are
    (record {
      desired = AreDesired-table next p.d.0 (table_valid name_order process_of IsKeyOrder-name_order desired_keep next
          desired laws-desired.field p.c.0.1.0.0 bytes p.c.1 p.d p.desired_are);
      actual = AreActual-table next p.a.0 (table_valid place_order place_of IsKeyOrder-place_order actual_keep next
          (actual_in version) (IsFormat-actual_in version) p.c.0.1.0.1 bytes p.d.1 p.a p.actual_are);
      tasks = AreTasks-table next p.t.0 (table_valid name_order task_name_of IsKeyOrder-name_order tasks_keep next
          task_row laws-task_row.field p.c.0.1.1.0 bytes p.a.1 p.t p.tasks_are);
      cells = AreCells-table next p.r.0 (table_valid name_order cell_name_of IsKeyOrder-name_order cells_keep next
          cell_row laws-cell_row.field p.c.0.1.1.1.0 bytes p.t.1 p.r p.cells_are);
      domains = AreDomains-table next p.m.0 (table_valid name_order domain_name_of IsKeyOrder-name_order domains_keep
          next (domain_in version) (IsFormat-domain_in version) p.c.0.1.1.1.1 bytes p.r.1 p.m p.domains_are);
      next = (kept_counts ((counts_in version).read bytes 0) p.c p.counts_are).1;
    })

same_counts : (n a b c d m e f g h k : ℕ) → a ≡ e → b ≡ f → c ≡ g → d ≡ h → m ≡ k
    → ◌≡◌ {A = Counts} (n, ((a, b), (c, (d, m)))) (n, ((e, f), (g, (h, k))))
same_counts n a b c d m e f g h k p q r s t =
    ap (λ (x : ℕ). (n, ((x, b), (c, (d, m))))) p ∙ ap (λ (x : ℕ). (n, ((e, x), (c, (d, m))))) q
    ∙ ap (λ (x : ℕ). (n, ((e, f), (x, (d, m))))) r ∙ ap (λ (x : ℕ). (n, ((e, f), (g, (x, m))))) s
    ∙ ap (λ (x : ℕ). (n, ((e, f), (g, (h, x))))) t

-- bytes that are read as a head are its one spelling
pub head_one : (version : ℕ) (bytes : List ℕ) (rows : Rows) → IsBytes bytes → head_reading version bytes ≡ Ok rows
    → (bytes ≡ head_spelled version rows) × FitsHead version rows
unfolding counts_at desired_at actual_at tasks_at cells_at domains_at head_spelled
head_one version bytes rows ib e =
    let found = parts_found version bytes rows e in
    let p = found.1 in
    let next : ℕ = p.c.0.0 in
    let k = (IsFormat-counts_in version).spelled bytes 0 p.c.0 p.c.1 ib
    (kept_counts ((counts_in version).read bytes 0) p.c p.counts_are).0 in
    let d = table_spelled name_order process_of IsKeyOrder-name_order desired_keep next desired laws-desired.field
    p.c.0.1.0.0 bytes p.c.1 p.d ib p.desired_are in
    let a = table_spelled place_order place_of IsKeyOrder-place_order actual_keep next (actual_in version)
    (IsFormat-actual_in version) p.c.0.1.0.1 bytes p.d.1 p.a ib p.actual_are in
    let t = table_spelled name_order task_name_of IsKeyOrder-name_order tasks_keep next task_row laws-task_row.field
    p.c.0.1.1.0 bytes p.a.1 p.t ib p.tasks_are in
    let r = table_spelled name_order cell_name_of IsKeyOrder-name_order cells_keep next cell_row laws-cell_row.field
    p.c.0.1.1.1.0 bytes p.t.1 p.r ib p.cells_are in
    let m = table_spelled name_order domain_name_of IsKeyOrder-name_order domains_keep next (domain_in version)
    (IsFormat-domain_in version) p.c.0.1.1.1.1 bytes p.r.1 p.m ib p.domains_are in
    let ct : List ℕ = (counts_in version).spelling p.c.0 in
    let dt : List ℕ = flat_map desired.spelling p.d.0 in
    let at : List ℕ = flat_map (actual_in version).spelling p.a.0 in
    let kt : List ℕ = flat_map task_row.spelling p.t.0 in
    let rt : List ℕ = flat_map cell_row.spelling p.r.0 in
    let mt : List ℕ = flat_map (domain_in version).spelling p.m.0 in
    let s4 = StandsAt-append bytes p.t.1 rt mt r.stands (subst (λ (n : ℕ). TextStandsAt bytes n mt) r.place m.stands) in
    let s3 = StandsAt-append bytes p.a.1 kt (rt ++ mt) t.stands
    (subst (λ (n : ℕ). TextStandsAt bytes n (rt ++ mt)) t.place s4) in
    let s2 = StandsAt-append bytes p.d.1 at (kt ++ (rt ++ mt)) a.stands
    (subst (λ (n : ℕ). TextStandsAt bytes n (kt ++ (rt ++ mt))) a.place s3) in
    let s1 = StandsAt-append bytes p.c.1 dt (at ++ (kt ++ (rt ++ mt))) d.stands
    (subst (λ (n : ℕ). TextStandsAt bytes n (at ++ (kt ++ (rt ++ mt)))) d.place s2) in
    let rest : List ℕ = dt ++ (at ++ (kt ++ (rt ++ mt))) in
    let s0 = StandsAt-append bytes 0 ct rest k.0 (subst (λ (n : ℕ). TextStandsAt bytes n rest) k.1 s1) in
    let text : List ℕ = ct ++ rest in
    let long : length bytes ≤ length text = omega (
      arith,
      found.2,
      p.after_is,
      k.1,
      d.place,
      a.place,
      t.place,
      r.place,
      m.place,
      length-append ct rest,
      length-append dt (at ++ (kt ++ (rt ++ mt))),
      length-append at (kt ++ (rt ++ mt)),
      length-append kt (rt ++ mt),
      length-append rt mt,
    ) in
    let none : s0.rest ≡ [] = nil_from_length s0.rest (omega
    (arith, long, ap length s0.parts, length-append text s0.rest)) in
    let whole : bytes ≡ text = s0.parts ∙ ap (λ (l : List ℕ). text ++ l) none ∙ append-nil text in
    let counted = same_counts next (length p.d.0) (length p.a.0) (length p.t.0) (length p.r.0)
    (length p.m.0) p.c.0.1.0.0 p.c.0.1.0.1 p.c.0.1.1.0 p.c.0.1.1.1.0 p.c.0.1.1.1.1 d.count a.count t.count r.count
    m.count in
    let spelled : bytes ≡ (counts_in version).spelling (
      next,
      ((length p.d.0, length p.a.0), (length p.t.0, (length p.r.0, length p.m.0))),
    ) ++ rest =
    whole ∙ ap (λ (n : Counts). (counts_in version).spelling n ++ rest) (sym counted) in
    let fits : FitsHead version (rows_of p.c p.d p.a p.t p.r p.m) = record {
      valid = subst IsValid (sym p.rows_are) (head_valid version bytes rows e);
      desired = d.fits;
      actual = a.fits;
      tasks = t.fits;
      cells = r.fits;
      domains = m.fits;
    } in
    subst (λ (w : Rows). (bytes ≡ head_spelled version w) × FitsHead version w) p.rows_are (spelled, fits)
