-- What a command of a round leaves as it was.
use Rattle.std.proofs.Common.{◌≡◌, ◌≢◌, ℕ, Bool, true, false, cond, ◌&&◌, ◌==◌, List, Option, Some, None, nat_lt, nat_le, refl, ap, sym, subst, ◌∙◌}
use Rattle.std.specs.Option.{option_map_or}
use Rattle.std.specs.Ordering.{eq_by_cmp}
use Rattle.cell_records.specs.Presence.{is_present}
use Rattle.cell_records.specs.declared.cell_row.CellRow.{CellRow}
use Rattle.crash_backoff.specs.declared.moment.Moment.{Moment}
use Rattle.diego_names.proofs.Public.{IsKeyOrder-name_order}
use Rattle.diego_names.specs.Order.{name_order}
use Rattle.diego_names.specs.declared.key.Key.{Key}
use Rattle.lrp_records.specs.declared.desired.Desired.{Desired}
use Rattle.lrp_records.specs.declared.presence.Presence.TheVariants.{Ordinary, Evacuating, Suspect}
use Rattle.row_tables.specs.Table.{find_row, without_row}
use Rattle.row_tables.proofs.Public.{same_from_tie, ties_itself, key-find_row, find_row-without_row_same}
use Rattle.bbs_model.specs.Attempts.{if_known, drop_row}
use Rattle.bbs_model.specs.Cells.{vanish}
use Rattle.bbs_model.specs.Domains.{holds_at, is_fresh, told_end}
use Rattle.bbs_model.specs.Found.{key_in, evacuating_in, suspect_in, task_in, domain_in}
use Rattle.bbs_model.specs.Limits.{most_transitions}
use Rattle.bbs_model.specs.Lrps.{is_wanted}
use Rattle.bbs_model.specs.Runs.{state_after, if_legal}
use Rattle.bbs_model.specs.Step.{judged, verdict_of, changed_by, attempt_of, rows_after}
use Rattle.bbs_model.specs.Tables.{cell_name_of, domain_name_of, find_actual, find_cell, find_domain, find_task}
use Rattle.bbs_model.specs.Work.{is_there, wants, fresh_in}
use Rattle.bbs_model.specs.declared.attempt.Attempt.{Attempt}
use Rattle.bbs_model.specs.declared.attempt.Attempt.TheVariants.{Refuse, Keep, Change}
use Rattle.bbs_model.specs.declared.command.Command.{Command}
use Rattle.bbs_model.specs.declared.command.Op.{Op}
use Rattle.bbs_model.specs.declared.command.Op.TheVariants as op
use Rattle.bbs_model.specs.declared.domain_row.DomainRow.{DomainRow}
use Rattle.bbs_model.specs.declared.event.Row.TheVariants as row
use Rattle.bbs_model.specs.declared.rows.Rows.{Rows}
use Rattle.bbs_model.specs.declared.verdict.BoardRefusal.TheVariants.{BoardFull, LeaseHolds}
use Rattle.bbs_model.specs.declared.verdict.Verdict.{Verdict}
use Rattle.bbs_model.specs.declared.verdict.Verdict.TheVariants.{Ok, Same, Refused}
use Rattle.convergence.specs.Subjects.{OfCell, OfDomain, OfPlace, OfTask, subject_of, subject_in, ordinary_of}
use Rattle.event_laws.specs.Frame.{own_process, own_cell, KeepsOthers}
use Rattle.event_laws.proofs.Public.{keeps_others}
use Rattle.converge_laws.specs.Accepted.{IsAccepted, IsOfRound}

-- a command of a round that may change a row is about it
ordinary_own : (o : Op) → IsOfRound o → (key : Key) → key_in o ≡ Some key → subject_of o ≡ ordinary_of key
ordinary_own (op.Make k) h key e = cc
ordinary_own (op.Claim k instance cell) h key e = cc
ordinary_own (op.Crash k instance) h key e = cc
ordinary_own (op.Unclaim k instance) h key e = cc
ordinary_own (op.Restart k) h key e = cc
ordinary_own (op.Remove k instance) h key e = cc
ordinary_own (op.PlaceFail k) h key e = cc
ordinary_own (op.Start k instance cell) h key e = absurd h
ordinary_own (op.Evacuate k instance) h key e = absurd h
ordinary_own (op.Suspect k instance) h key e = cc
ordinary_own o h key e = absurd cc

evacuating_own : (o : Op) → IsOfRound o → (key : Key) → evacuating_in o ≡ Some key
    → subject_of o ≡ OfPlace (key, Evacuating)
evacuating_own (op.DropEvacuating k instance) h key e = cc
evacuating_own (op.Evacuate k instance) h key e = absurd h
evacuating_own o h key e = absurd cc

-- it doesn't suspect an instance
abbrev pub IsNoSuspicion : Op → Type 0
IsNoSuspicion (op.Suspect k instance) = ⊥
IsNoSuspicion other = Unit {0}

-- so it is about the SUSPECT row that it changes, if it changes one
pub suspect-own : (o : Op) → IsNoSuspicion o → (key : Key) → suspect_in o ≡ Some key
    → subject_of o ≡ OfPlace (key, Suspect)
suspect-own (op.DropSuspect k instance) h key e = cc
suspect-own (op.Suspect k instance) h key e = absurd h
suspect-own o h key e = absurd cc

domain_own : (o : Op) → IsOfRound o → (name : List ℕ) → domain_in o ≡ Some name → subject_of o ≡ OfDomain name
domain_own (op.Forget n) h name e = cc
domain_own (op.Fresh n ttl) h name e = absurd h
domain_own o h name e = absurd cc

task_own : (o : Op) → IsOfRound o → (name : List ℕ) → task_in o ≡ Some name → subject_of o ≡ OfTask name
task_own (op.StartTask n instance cell) h name e = cc
task_own (op.CompleteTask n instance failed) h name e = cc
task_own (op.CancelTask n) h name e = cc
task_own (op.KickTask n) h name e = cc
task_own (op.ExpireTask n) h name e = cc
task_own (op.NewTask n memory disk tag) h name e = absurd h
task_own (op.ResolveTask n) h name e = absurd h
task_own (op.DeleteTask n) h name e = absurd h
task_own o h name e = absurd cc

cell_own : (o : Op) → IsOfRound o → (name : List ℕ) → own_cell o ≡ Some name → subject_of o ≡ OfCell name
cell_own (op.Vanish n) h name e = cc
cell_own (op.Join n zone tag totals ttl) h name e = absurd h
cell_own (op.Renew n epoch ttl) h name e = absurd h
cell_own (op.Drain n epoch) h name e = absurd h
cell_own o h name e = absurd cc

process_own : (o : Op) → IsOfRound o → (name : List ℕ) → own_process o ≢ Some name
process_own (op.Desire d) h name e = absurd h
process_own (op.Update process instances route port) h name e = absurd h
process_own (op.Undesire process) h name e = absurd h
process_own o h name e = cc

module _ (rows : Rows) (c : Command) where
  pub kept_after : KeepsOthers c.op rows (state_after rows c)
  kept_after =
      let same : KeepsOthers c.op rows rows = record {
        desired = λ q other. refl;
        actual = λ q presence other.
            refl;
        tasks = λ q other. refl;
        cells = λ q other. refl;
        domains = λ q other. refl;
      } in
      elim (verdict_of rows c) as (λ (v : Verdict). KeepsOthers c.op rows (if_legal v (rows_after rows c) rows)) [
        | Ok ↦ keeps_others rows c
        | Same ↦ same
        | (Refused why) ↦ same
      ]

  module _ (h : IsOfRound c.op) where
    pub stays-ordinary : (key : Key) → subject_in c ≢ ordinary_of key
        → find_actual (state_after rows c) key Ordinary ≡ find_actual rows key Ordinary
    stays-ordinary key other = kept_after.actual key Ordinary (λ e. other (ordinary_own c.op h key e))

    pub stays-evacuating : (key : Key) → subject_in c ≢ OfPlace (key, Evacuating)
        → find_actual (state_after rows c) key Evacuating ≡ find_actual rows key Evacuating
    stays-evacuating key other = kept_after.actual key Evacuating (λ e. other (evacuating_own c.op h key e))

    pub stays-suspect : (key : Key) → suspect_in c.op ≢ Some key
        → find_actual (state_after rows c) key Suspect ≡ find_actual rows key Suspect
    stays-suspect key other = kept_after.actual key Suspect other

    pub stays-domain : (name : List ℕ) → subject_in c ≢ OfDomain name
        → find_domain (state_after rows c) name ≡ find_domain rows name
    stays-domain name other = kept_after.domains name (λ e. other (domain_own c.op h name e))

    pub stays-task : (name : List ℕ) → subject_in c ≢ OfTask name
        → find_task (state_after rows c) name ≡ find_task rows name
    stays-task name other = kept_after.tasks name (λ e. other (task_own c.op h name e))

    pub stays-cell : (name : List ℕ) → subject_in c ≢ OfCell name
        → find_cell (state_after rows c) name ≡ find_cell rows name
    stays-cell name other = kept_after.cells name (λ e. other (cell_own c.op h name e))

    pub stays-wanted : (key : Key) → wants (state_after rows c) key ≡ wants rows key
    stays-wanted key = ap (λ (d : Option Desired). is_wanted d key.index)
        (kept_after.desired key.process (process_own c.op h key.process))

-- what an accepted command comes to
pub after_attempt : (rows : Rows) (attempt : Attempt) → IsAccepted (judged rows.next attempt)
    → if_legal (judged rows.next attempt) (changed_by rows attempt) rows ≡ changed_by rows attempt
after_attempt rows (Refuse why) h = absurd h
after_attempt rows Keep h = refl
after_attempt rows (Change first second) h =
    elim (nat_le most_transitions rows.next) as (λ (b : Bool). IsAccepted (cond b (Refused BoardFull) Ok)
    → if_legal (cond b (Refused BoardFull) Ok) (changed_by rows (Change first second)) rows
    ≡ changed_by rows (Change first second)) [
      | true ↦ λ f. absurd f
      | false ↦ λ f. refl
    ] h

pub state_is : (rows : Rows) (c : Command) → IsAccepted (verdict_of rows c)
    → state_after rows c ≡ changed_by rows (attempt_of rows c)
state_is rows c h = after_attempt rows (attempt_of rows c) h

-- the attempt isn't a refusal
abbrev pub IsTried : Attempt → Type 0
IsTried (Refuse why) = ⊥
IsTried Keep = Unit {0}
IsTried (Change first second) = Unit {0}

pub tried : (next : ℕ) (attempt : Attempt) → IsAccepted (judged next attempt) → IsTried attempt
tried next (Refuse why) h = h
tried next Keep h = tt
tried next (Change first second) h = tt

pub and_false : (b : Bool) → (b && false) ≡ false
and_false true = refl
and_false false = refl

module _ (rows : Rows) (now : Moment) (name : List ℕ) (epoch : ℕ) where
  -- what a vanish comes to leaves a cell there that was, and there was none that it takes
  there_after : Attempt → Type 0
  there_after attempt = is_there (if_legal (judged rows.next attempt) (changed_by rows attempt) rows) now name epoch
      ≡ is_there rows now name epoch

  vanish-dropped : (old : CellRow) → find_cell rows name ≡ Some old → nat_lt now.0 old.until ≡ false
      → there_after (drop_row (row.Cell old))
  unfolding there_after
  vanish-dropped old is ended =
      let here : old.cell ≡ name = key-find_row name_order cell_name_of IsKeyOrder-name_order name old rows.cells is in
      let gone : is_there rows now name epoch ≡ false =
      ap (λ (o : Option CellRow). option_map_or (λ (r : CellRow). r.epoch == epoch && is_present r now) o false) is
      ∙ ap (λ (b : Bool). old.epoch == epoch && b) ended ∙ and_false (old.epoch == epoch) in
      let none : find_row name_order cell_name_of name (without_row name_order cell_name_of old.cell rows.cells)
      ≡ None =
      subst (λ (n : List ℕ). find_row name_order cell_name_of n
      (without_row name_order cell_name_of old.cell rows.cells) ≡ None) here
      (find_row-without_row_same name_order cell_name_of IsKeyOrder-name_order old.cell rows.cells) in
      elim (nat_le most_transitions rows.next) as (λ (b : Bool).
      is_there (if_legal (cond b (Refused BoardFull) Ok) (changed_by rows (drop_row (row.Cell old))) rows) now name
      epoch ≡ is_there rows now name epoch) [
        | true ↦ refl
        | false ↦ ap (λ (o : Option CellRow). option_map_or
            (λ (r : CellRow). r.epoch == epoch && is_present r now) o false) none ∙ sym gone
      ]

  vanish-there : (o : Option CellRow) → find_cell rows name ≡ o → there_after (vanish o now)
  unfolding there_after
  vanish-there None is = refl
  vanish-there (Some old) is =
      elim (nat_lt now.0 old.until) as (λ (b : Bool). nat_lt now.0 old.until ≡ b
      → there_after (cond b (Refuse (LeaseHolds old.until)) (drop_row (row.Cell old)))) [
        | true ↦ λ e. refl
        | false ↦ λ e. vanish-dropped old is e
      ] refl

  pub there-vanish : is_there (state_after rows (record { now = now; op = op.Vanish name })) now name epoch
      ≡ is_there rows now name epoch
  unfolding there_after
  there-vanish = vanish-there (find_cell rows name) refl

-- which cells are there stays
there-by : (rows : Rows) (now : Moment) (o : Op) → IsOfRound o → (cell : List ℕ) (epoch : ℕ)
    → is_there (state_after rows (record { now = now; op = o })) now cell epoch ≡ is_there rows now cell epoch
there-by rows now (op.Vanish name) h cell epoch =
    elim (eq_by_cmp name_order cell name) as (λ (b : Bool). eq_by_cmp name_order cell name ≡ b
    → is_there (state_after rows (record { now = now; op = op.Vanish name })) now cell epoch
    ≡ is_there rows now cell epoch) [
      | true ↦ λ e.
          let same : cell ≡ name = same_from_tie name_order IsKeyOrder-name_order cell name e in
          subst (λ (n : List ℕ). is_there (state_after rows (record { now = now; op = op.Vanish name })) now n epoch
          ≡ is_there rows now n epoch) (sym same) (there-vanish rows now name epoch)
      | false ↦ λ e.
          ap (λ (o : Option CellRow). option_map_or (λ (r : CellRow). r.epoch == epoch && is_present r now) o false)
          ((kept_after rows (record { now = now; op = op.Vanish name })).cells cell (λ is.
          let same : name ≡ cell = cc in
          let ties : eq_by_cmp name_order cell name ≡ true =
          subst (λ (n : List ℕ). eq_by_cmp name_order cell n ≡ true) (sym same)
          (ties_itself name_order IsKeyOrder-name_order cell) in
          absurd cc))
    ] refl
there-by rows now (op.Join n zone tag totals ttl) h cell epoch = absurd h
there-by rows now (op.Renew n e ttl) h cell epoch = absurd h
there-by rows now (op.Drain n e) h cell epoch = absurd h
there-by rows now o h cell epoch =
    ap (λ (r : Option CellRow). option_map_or (λ (x : CellRow). x.epoch == epoch && is_present x now) r false)
    ((kept_after rows (record { now = now; op = o })).cells cell (λ is. absurd cc))

pub stays-there : (rows : Rows) (now : Moment) (c : Command) → IsOfRound c.op → c.now ≡ now
    → (cell : List ℕ) (epoch : ℕ)
    → is_there (state_after rows c) now cell epoch ≡ is_there rows now cell epoch
stays-there rows now c h e cell epoch =
    subst (λ (m : Moment). is_there (state_after rows (record { now = m; op = c.op })) now cell epoch
    ≡ is_there rows now cell epoch) (sym e) (there-by rows now c.op h cell epoch)

module _ (rows : Rows) (now : Moment) (name : List ℕ) where
  -- what a forget comes to leaves a domain fresh that was, and there was none that it takes
  fresh_after : Attempt → Type 0
  fresh_after attempt = fresh_in (if_legal (judged rows.next attempt) (changed_by rows attempt) rows) now name
      ≡ fresh_in rows now name

  forget-dropped : (old : DomainRow) → find_domain rows name ≡ Some old → holds_at old now ≡ false
      → fresh_after (drop_row (row.Domain old))
  unfolding fresh_after
  forget-dropped old is ended =
      let here : old.domain ≡ name = key-find_row name_order domain_name_of IsKeyOrder-name_order name old rows.domains
      is in
      let gone : fresh_in rows now name ≡ false = ap (λ (o : Option DomainRow). is_fresh o now) is ∙ ended in
      let none : find_row name_order domain_name_of name (without_row name_order domain_name_of old.domain rows.domains)
      ≡ None =
      subst (λ (n : List ℕ). find_row name_order domain_name_of n
      (without_row name_order domain_name_of old.domain rows.domains) ≡ None) here
      (find_row-without_row_same name_order domain_name_of IsKeyOrder-name_order old.domain rows.domains) in
      elim (nat_le most_transitions rows.next) as (λ (b : Bool).
      fresh_in (if_legal (cond b (Refused BoardFull) Ok) (changed_by rows (drop_row (row.Domain old))) rows) now
      name ≡ fresh_in rows now name) [
        | true ↦ refl
        | false ↦ ap (λ (o : Option DomainRow). is_fresh o now) none ∙ sym gone
      ]

  forget-fresh : (o : Option DomainRow) → find_domain rows name ≡ o
      → fresh_after (if_known o (λ old. cond (holds_at old now) (Refuse (LeaseHolds (told_end old.until)))
      (drop_row (row.Domain old))))
  unfolding fresh_after
  forget-fresh None is = refl
  forget-fresh (Some old) is =
      elim (holds_at old now) as (λ (b : Bool). holds_at old now ≡ b
      → fresh_after (cond b (Refuse (LeaseHolds (told_end old.until))) (drop_row (row.Domain old)))) [
        | true ↦ λ e. refl
        | false ↦ λ e. forget-dropped old is e
      ] refl

  pub fresh-forget : fresh_in (state_after rows (record { now = now; op = op.Forget name })) now name
      ≡ fresh_in rows now name
  unfolding fresh_after
  fresh-forget = forget-fresh (find_domain rows name) refl

-- which domains are fresh stays
fresh-by : (rows : Rows) (now : Moment) (o : Op) → IsOfRound o → (domain : List ℕ)
    → fresh_in (state_after rows (record { now = now; op = o })) now domain ≡ fresh_in rows now domain
fresh-by rows now (op.Forget name) h domain =
    elim (eq_by_cmp name_order domain name) as (λ (b : Bool). eq_by_cmp name_order domain name ≡ b
    → fresh_in (state_after rows (record { now = now; op = op.Forget name })) now domain ≡ fresh_in rows now domain) [
      | true ↦ λ e.
          let same : domain ≡ name = same_from_tie name_order IsKeyOrder-name_order domain name e in
          subst (λ (n : List ℕ). fresh_in (state_after rows (record { now = now; op = op.Forget name })) now n
          ≡ fresh_in rows now n) (sym same) (fresh-forget rows now name)
      | false ↦ λ e.
          ap (λ (o : Option DomainRow). is_fresh o now)
          ((kept_after rows (record { now = now; op = op.Forget name })).domains domain (λ is.
          let same : name ≡ domain = cc in
          let ties : eq_by_cmp name_order domain name ≡ true =
          subst (λ (n : List ℕ). eq_by_cmp name_order domain n ≡ true) (sym same)
          (ties_itself name_order IsKeyOrder-name_order domain) in
          absurd cc))
    ] refl
fresh-by rows now (op.Fresh name ttl) h domain = absurd h
fresh-by rows now o h domain =
    ap (λ (r : Option DomainRow). is_fresh r now)
    ((kept_after rows (record { now = now; op = o })).domains domain (λ is. absurd cc))

pub stays-fresh : (rows : Rows) (now : Moment) (c : Command) → IsOfRound c.op → c.now ≡ now → (domain : List ℕ)
    → fresh_in (state_after rows c) now domain ≡ fresh_in rows now domain
stays-fresh rows now c h e domain =
    subst (λ (m : Moment). fresh_in (state_after rows (record { now = m; op = c.op })) now domain
    ≡ fresh_in rows now domain) (sym e) (fresh-by rows now c.op h domain)
