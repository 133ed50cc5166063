-- Each edit of an attempt is of a row at one of the command's own keys, and drops a row that stands.
use Rattle.std.proofs.Common.{◌≡◌, ℕ, ◌+◌, ◌==◌, true, cond, List, ◌++◌, Option, Some, None, nat_eq, nat_lt, refl, ap, sym, ◌∙◌}
use Rattle.std.specs.Option.{option_and_then, option_eq}
use Rattle.std.specs.declared.cmp.Ordering.{Ordering}
use Rattle.cell_records.specs.declared.amounts.Amounts.{Amounts}
use Rattle.cell_records.specs.declared.cell_row.CellRow.{CellRow}
use Rattle.crash_backoff.specs.declared.moment.Moment.{Moment}
use Rattle.diego_names.specs.Order.{name_order}
use Rattle.diego_names.specs.declared.instance.Instance.{Instance}
use Rattle.diego_names.specs.declared.key.Key.{Key}
use Rattle.diego_names.proofs.Public.{IsKeyOrder-name_order}
use Rattle.lrp_records.specs.Laws.{KeepsPlace}
use Rattle.lrp_records.specs.Moves.{lrp_move}
use Rattle.lrp_records.specs.Place.{place_of, place_order}
use Rattle.lrp_records.specs.declared.actual.Actual.{Actual}
use Rattle.lrp_records.specs.declared.desired.Desired.{Desired}
use Rattle.lrp_records.specs.declared.lrp_move.LrpMove.{LrpMove}
use Rattle.lrp_records.specs.declared.lrp_move.LrpMove.TheVariants as lrp
use Rattle.lrp_records.specs.declared.move_end.MoveEnd.{MoveEnd}
use Rattle.lrp_records.specs.declared.move_end.MoveEnd.TheVariants as end
use Rattle.lrp_records.specs.declared.presence.Presence.{Presence}
use Rattle.lrp_records.specs.declared.presence.Presence.TheVariants.{Ordinary, Evacuating, Suspect}
use Rattle.lrp_records.proofs.Public.{KeepsPlace-lrp_move, IsKeyOrder-place_order}
use Rattle.row_tables.specs.Table.{IsKeyOrder, find_row}
use Rattle.row_tables.proofs.Public.{key-find_row}
use Rattle.task_records.specs.Laws.{KeepsTask}
use Rattle.task_records.specs.Moves.{task_move}
use Rattle.task_records.specs.declared.move_end.TaskEnd.{TaskEnd}
use Rattle.task_records.specs.declared.move_end.TaskEnd.TheVariants as ended
use Rattle.task_records.specs.declared.move_kind.TaskMove.{TaskMove}
use Rattle.task_records.specs.declared.move_kind.TaskMove.TheVariants as task
use Rattle.task_records.specs.declared.task.Task.{Task}
use Rattle.task_records.proofs.Public.{KeepsTask-task_move}
use Rattle.bbs_model.specs.Attempts.{Refusals, if_known, if_joined, put, drop_row, unless_refused}
use Rattle.bbs_model.specs.Cells.{join_refusals, vanish}
use Rattle.bbs_model.specs.Domains.{holds_at, lease_end, told_end, fresh_refusals, fresh_row}
use Rattle.bbs_model.specs.Found.{key_in, task_in, domain_in, found_by}
use Rattle.bbs_laws.specs.Events.{StandsIn}
use Rattle.bbs_model.specs.Lrps.{new_row, domain_of, make_refusals, moved_to, is_running_as, left_row, stays_because, aside_refusals, keeps_aside, drop_aside, lease_refusals}
use Rattle.bbs_model.specs.Processes.{desire_refusals, asks_for, resize_refusals}
use Rattle.bbs_model.specs.Step.{attempt_at, edited}
use Rattle.bbs_model.specs.Tables.{process_of, task_name_of, cell_name_of, domain_name_of, find_desired, find_actual, find_task, find_cell, find_domain}
use Rattle.bbs_model.specs.Tasks.{new_task_refusals}
use Rattle.bbs_model.specs.Tasks as tasks
use Rattle.bbs_model.specs.declared.attempt.Attempt.{Attempt}
use Rattle.bbs_model.specs.declared.attempt.Attempt.TheVariants.{Refuse, Keep, Change}
use Rattle.bbs_model.specs.declared.attempt.Edit.{Edit}
use Rattle.bbs_model.specs.declared.attempt.Edit.TheVariants.{Put, Drop}
use Rattle.bbs_model.specs.declared.command.Op.{Op}
use Rattle.bbs_model.specs.declared.command.Op.TheVariants as op
use Rattle.bbs_model.specs.declared.domain_row.DomainRow.{DomainRow}
use Rattle.bbs_model.specs.declared.event.Row.{Row}
use Rattle.bbs_model.specs.declared.event.Row.TheVariants as row
use Rattle.bbs_model.specs.declared.rows.Rows.{Rows}
use Rattle.bbs_model.specs.declared.verdict.BoardRefusal.TheVariants as why
use Rattle.bbs_laws.proofs.Public.{by_test, by_passing, by_knowing, by_joining, each-keeps_aside}
use Rattle.event_laws.specs.Frame.{own_process, own_instance, own_cell}

-- the row has one of the command's own keys
abbrev pub IsOwn : Op → Row → Type 0
IsOwn asked (row.Desired d) = own_process asked ≡ Some d.process
IsOwn asked (row.Actual a) = own_instance asked a.presence ≡ Some a.key
IsOwn asked (row.Task t) = task_in asked ≡ Some t.name
IsOwn asked (row.Cell c) = own_cell asked ≡ Some c.cell
IsOwn asked (row.Domain d) = domain_in asked ≡ Some d.domain

-- a row that is dropped stands
abbrev pub IsSound : Rows → Edit → Type 0
IsSound rows (Put r) = Unit {0}
IsSound rows (Drop r) = StandsIn rows r

abbrev pub row_in : Edit → Row
row_in (Put r) = r
row_in (Drop r) = r

pub record IsOwnEdit (rows : Rows) (asked : Op) (edit : Edit) : Type 0 where
  pub own : IsOwn asked (row_in edit)
  pub sound : IsSound rows edit

abbrev pub IsOwnAgain : Rows → Op → Option Edit → Type 0
IsOwnAgain rows asked None = Unit {0}
IsOwnAgain rows asked (Some edit) = IsOwnEdit rows asked edit

-- each edit of the attempt is
abbrev pub AreOwn : Rows → Op → Attempt → Type 0
AreOwn rows asked (Refuse because) = Unit {0}
AreOwn rows asked Keep = Unit {0}
AreOwn rows asked (Change first second) = IsOwnEdit rows asked first × IsOwnAgain (edited rows first) asked second

-- what is found at a key, if at any, has that key and stands at it
at_its_key : {K X : Type 0} (R : K → K → Ordering) (key : X → K) → IsKeyOrder R → (xs : List X) (q : Option K) (x : X)
    → option_and_then (λ k. find_row R key k xs) q ≡ Some x → (q ≡ Some (key x)) × (find_row R key (key x) xs ≡ Some x)
at_its_key R key o xs None x known = cc
at_its_key R key o xs (Some k) x known =
    let same = key-find_row R key o k x xs known in
    (ap (λ q. Some q) (sym same), ap (λ q. find_row R key q xs) same ∙ known)

module _ (rows : Rows) (now : Moment) where
  record IsFoundAs (as_asked : Presence) (q : Option Key) (a : Actual) : Type 0 where
    pub key : q ≡ Some a.key
    pub presence : a.presence ≡ as_asked
    pub stands : find_actual rows a.key a.presence ≡ Some a

  found_as : (presence : Presence) (q : Option Key) (a : Actual)
      → option_and_then (λ key. find_actual rows key presence) q ≡ Some a → IsFoundAs presence q a
  found_as presence None a known = cc
  found_as presence (Some key) a known =
      let place = key-find_row place_order place_of IsKeyOrder-place_order (key, presence) a rows.actual known in
      record {
        key = ap (λ (p : Key × Presence). Some p.0) (sym place);
        presence = ap (λ (p : Key × Presence). p.1) place;
        stands = ap (λ p. find_row place_order place_of p rows.actual) place ∙ known;
      }

  -- a put and a removal of one row
  puts : (asked : Op) (r : Row) → IsOwn asked r → AreOwn rows asked (put r)
  puts asked r own = (record { own = own; sound = tt }, tt)

  drops : (asked : Op) (r : Row) → IsOwn asked r → StandsIn rows r → AreOwn rows asked (drop_row r)
  drops asked r own stands = (record { own = own; sound = stands }, tt)

  -- processes
  desires : (d : Desired) → let asked = op.Desire d in AreOwn rows asked (attempt_at (found_by rows asked) now asked)
  desires d = let asked = op.Desire d in
      by_passing (AreOwn rows asked) (λ _. tt) (desire_refusals (found_by rows asked) d) (put (row.Desired d))
      (λ _. puts asked (row.Desired d) refl)

  updates : (process : List ℕ) (instances : ℕ) (route : Option (List ℕ)) (port : ℕ)
      → let asked = op.Update process instances route port in
      AreOwn rows asked (attempt_at (found_by rows asked) now asked)
  updates process instances route port =
      let asked = op.Update process instances route port in
      let found = found_by rows asked in
      let new = λ (old : Desired). let d : Desired = record old { instances = instances; route = route; port = port } in
      d in
      let resized = λ (old : Desired). unless_refused (resize_refusals found old instances)
      (put (row.Desired (new old))) in
      by_knowing (AreOwn rows asked) (λ _. tt) found.desired
      (λ old. cond (asks_for old instances route port) Keep (resized old)) (λ old known.
      by_test (AreOwn rows asked) (λ _. tt) (asks_for old instances route port) Keep (resized old) (λ _. tt) (λ _.
      by_passing (AreOwn rows asked) (λ _. tt) (resize_refusals found old instances) (put (row.Desired (new old))) (λ _.
      puts asked (row.Desired (new old)) (at_its_key name_order process_of IsKeyOrder-name_order rows.desired
      (Some process) old known).0)))

  undesires : (process : List ℕ) → let asked = op.Undesire process in
      AreOwn rows asked (attempt_at (found_by rows asked) now asked)
  undesires process =
      let asked = op.Undesire process in
      by_knowing (AreOwn rows asked) (λ _. tt) (found_by rows asked).desired (λ d. drop_row (row.Desired d)) (λ d known.
      let at = at_its_key name_order process_of IsKeyOrder-name_order rows.desired (Some process) d known in
      drops asked (row.Desired d) at.0 at.1)

  -- instances
  makes : (key : Key) → let asked = op.Make key in AreOwn rows asked (attempt_at (found_by rows asked) now asked)
  makes key = let asked = op.Make key in
      let new = new_row key (domain_of (find_desired rows key.process)) now in
      by_passing (AreOwn rows asked) (λ _. tt) (make_refusals (found_by rows asked) key) (put (row.Actual new)) (λ _.
      puts asked (row.Actual new) refl)

  own_as : (asked : Op) (presence : Presence) (new old : Actual) → own_instance asked presence ≡ Some old.key
      → old.presence ≡ presence → place_of new ≡ place_of old
      → own_instance asked new.presence ≡ Some new.key
  own_as asked presence new old key same place =
      ap (own_instance asked) (ap (λ (p : Key × Presence). p.1) place ∙ same) ∙ key ∙ ap
      (λ (p : Key × Presence). Some p.0) (sym place)

  moves_to : (asked : Op) (old : Actual) (e : MoveEnd) → IsFoundAs Ordinary (key_in asked) old → KeepsPlace old e
      → AreOwn rows asked (moved_to old e)
  moves_to asked old (end.Changed new) known place = puts asked (row.Actual new)
      (own_as asked Ordinary new old known.key known.presence place)
  moves_to asked old end.Gone known place = drops asked (row.Actual old)
      (own_as asked Ordinary old old known.key known.presence refl) known.stands
  moves_to asked old end.Same known place = tt
  moves_to asked old (end.Refused because) known place = tt

  moves : (asked : Op) (move : LrpMove) → AreOwn rows asked
      (if_known (found_by rows asked).ordinary (λ old. moved_to old (lrp_move old move now)))
  moves asked move =
      by_knowing (AreOwn rows asked) (λ _. tt) (found_by rows asked).ordinary
      (λ old. moved_to old (lrp_move old move now)) (λ old known.
      moves_to asked old (lrp_move old move now) (found_as Ordinary (key_in asked) old known)
      (KeepsPlace-lrp_move old move now))

  moves_by_cell : (asked : Op) (epoch : ℕ) (move : LrpMove)
      → AreOwn rows asked (if_known (found_by rows asked).ordinary
      (λ old. if_joined (found_by rows asked).cell epoch (λ cell. moved_to old (lrp_move old move now))))
  moves_by_cell asked epoch move =
      let found = found_by rows asked in
      by_knowing (AreOwn rows asked) (λ _. tt) found.ordinary
      (λ old. if_joined found.cell epoch (λ cell. moved_to old (lrp_move old move now))) (λ old known.
      by_joining (AreOwn rows asked) (λ _. tt) found.cell epoch (λ cell. moved_to old (lrp_move old move now))
      (λ cell joined same.
      moves_to asked old (lrp_move old move now) (found_as Ordinary (key_in asked) old known)
      (KeepsPlace-lrp_move old move now)))

  -- a row aside is the command's own by its presence
  keeps : (asked : Op) (presence : Presence) (key : Key) → key_in asked ≡ Some key
      → own_instance asked presence ≡ Some key → (aside : Option Actual) (refusals : Refusals) (instance : Instance)
      → AreOwn rows asked (keeps_aside presence aside refusals (found_by rows asked) instance now)
  keeps asked presence key ordinary is_own aside refusals instance =
      each-keeps_aside (AreOwn rows asked) (λ _. tt) tt presence aside refusals (found_by rows asked) instance now
      (λ old known runs passed.
      let at = found_as Ordinary (key_in asked) old known in (
        record { own = is_own ∙ sym ordinary ∙ at.key; sound = tt },
        record { own = own_as asked Ordinary (left_row old now) old at.key at.presence refl; sound = tt },
      ))

  drops_aside : (asked : Op) (presence : Presence) (key : Key) → own_instance asked presence ≡ Some key
      → (instance : Instance) → AreOwn rows asked (drop_aside (find_actual rows key presence) instance)
  drops_aside asked presence key is_own instance =
      let stays = λ (old : Actual). Refuse (stays_because old.state instance) in
      let step = λ (old : Actual). cond (is_running_as old.state instance) (drop_row (row.Actual old)) (stays old) in
      by_knowing (AreOwn rows asked) (λ _. tt) (find_actual rows key presence) step (λ old known.
      by_test (AreOwn rows asked) (λ _. tt) (is_running_as old.state instance) (drop_row (row.Actual old)) (stays old)
      (λ _.
      let at = found_as presence (Some key) old known in
      drops asked (row.Actual old) (own_as asked presence old old (is_own ∙ at.key) at.presence refl) at.stands)
      (λ _. tt))

  evacuates : (key : Key) (instance : Instance) → let asked = op.Evacuate key instance in
      AreOwn rows asked (attempt_at (found_by rows asked) now asked)
  evacuates key instance =
      let asked = op.Evacuate key instance in
      let found = found_by rows asked in
      keeps asked Evacuating key refl refl found.evacuating (aside_refusals found.evacuating found) instance

  suspects : (key : Key) (instance : Instance) → let asked = op.Suspect key instance in
      AreOwn rows asked (attempt_at (found_by rows asked) now asked)
  suspects key instance =
      let asked = op.Suspect key instance in
      let found = found_by rows asked in
      keeps asked Suspect key refl refl found.suspect
      (lease_refusals found.cell instance.epoch now ++ aside_refusals found.suspect found) instance

  -- tasks
  begins : (name : List ℕ) (memory disk : ℕ) (tag : Option (List ℕ)) → let asked = op.NewTask name memory disk tag in
      AreOwn rows asked (attempt_at (found_by rows asked) now asked)
  begins name memory disk tag = let asked = op.NewTask name memory disk tag in
      by_passing (AreOwn rows asked) (λ _. tt) (new_task_refusals (found_by rows asked)) _
      (λ _. puts asked (row.Task _) refl)

  ends_as : (asked : Op) (old : Task) (e : TaskEnd) → (task_in asked ≡ Some old.name)
      × (find_task rows old.name ≡ Some old) → KeepsTask old now e
      → AreOwn rows asked (tasks.task_moved_to old e)
  ends_as asked old (ended.Changed new) known same = puts asked (row.Task new)
      (known.0 ∙ ap (λ n. Some n) (sym same.task.name))
  ends_as asked old ended.Gone known same = drops asked (row.Task old) known.0 known.1
  ends_as asked old ended.Same known same = tt
  ends_as asked old (ended.Refused because) known same = tt

  ends : (asked : Op) (old : Task) (move : TaskMove) → (found_by rows asked).task ≡ Some old
      → AreOwn rows asked (tasks.task_moved_to old (task_move old move now))
  ends asked old move known =
      ends_as asked old (task_move old move now) (at_its_key name_order task_name_of IsKeyOrder-name_order rows.tasks
      (task_in asked) old known) (KeepsTask-task_move old move now)

  runs : (asked : Op) (move : TaskMove) → AreOwn rows asked (tasks.move_task (found_by rows asked) move now)
  runs asked move =
      by_knowing (AreOwn rows asked) (λ _. tt) (found_by rows asked).task
      (λ old. tasks.task_moved_to old (task_move old move now)) (λ old known. ends asked old move known)

  runs_by_cell : (asked : Op) (epoch : ℕ) (move : TaskMove)
      → AreOwn rows asked (tasks.move_task_by_cell (found_by rows asked) epoch move now)
  runs_by_cell asked epoch move =
      let found = found_by rows asked in
      by_knowing (AreOwn rows asked) (λ _. tt) found.task (λ old.
      if_joined found.cell epoch (λ cell. tasks.task_moved_to old (task_move old move now))) (λ old known.
      by_joining (AreOwn rows asked) (λ _. tt) found.cell epoch
      (λ cell. tasks.task_moved_to old (task_move old move now)) (λ cell joined same. ends asked old move known))

  -- cells
  joins : (cell zone : List ℕ) (tag : Option (List ℕ)) (totals : Amounts) (ttl : ℕ)
      → let asked = op.Join cell zone tag totals ttl in
      AreOwn rows asked (attempt_at (found_by rows asked) now asked)
  joins cell zone tag totals ttl = let asked = op.Join cell zone tag totals ttl in
      by_passing (AreOwn rows asked) (λ _. tt) (join_refusals (found_by rows asked)) _
      (λ _. puts asked (row.Cell _) refl)

  cell_at : (cell : List ℕ) (c : CellRow) → find_cell rows cell ≡ Some c
      → (Some cell ≡ Some c.cell) × (find_cell rows c.cell ≡ Some c)
  cell_at cell c known = at_its_key name_order cell_name_of IsKeyOrder-name_order rows.cells (Some cell) c known

  renews : (cell : List ℕ) (epoch ttl : ℕ) → let asked = op.Renew cell epoch ttl in
      AreOwn rows asked (attempt_at (found_by rows asked) now asked)
  renews cell epoch ttl =
      let asked = op.Renew cell epoch ttl in
      let new = λ (old : CellRow). let c : CellRow = record old { until = now.0 + ttl } in c in
      by_joining (AreOwn rows asked) (λ _. tt) (found_by rows asked).cell epoch
      (λ old. cond (old.until == now.0 + ttl) Keep (put (row.Cell (new old)))) (λ old known same.
      by_test (AreOwn rows asked) (λ _. tt) (old.until == now.0 + ttl) Keep (put (row.Cell (new old))) (λ _. tt)
      (λ _. puts asked (row.Cell (new old)) (cell_at cell old known).0))

  drains : (cell : List ℕ) (epoch : ℕ) → let asked = op.Drain cell epoch in
      AreOwn rows asked (attempt_at (found_by rows asked) now asked)
  drains cell epoch =
      let asked = op.Drain cell epoch in
      let new = λ (old : CellRow). let c : CellRow = record old { evacuating = true } in c in
      by_joining (AreOwn rows asked) (λ _. tt) (found_by rows asked).cell epoch
      (λ old. cond old.evacuating Keep (put (row.Cell (new old)))) (λ old known same.
      by_test (AreOwn rows asked) (λ _. tt) old.evacuating Keep (put (row.Cell (new old))) (λ _. tt)
      (λ _. puts asked (row.Cell (new old)) (cell_at cell old known).0))

  vanishes_as : (cell : List ℕ) (old : Option CellRow) → find_cell rows cell ≡ old
      → AreOwn rows (op.Vanish cell) (vanish old now)
  vanishes_as cell None known = tt
  vanishes_as cell (Some old) known =
      let asked = op.Vanish cell in
      by_test (AreOwn rows asked) (λ _. tt) (nat_lt now.0 old.until) (Refuse (why.LeaseHolds old.until))
      (drop_row (row.Cell old)) (λ _. tt) (λ _.
      let at = cell_at cell old known in drops asked (row.Cell old) at.0 at.1)

  -- domains
  puts_fresh : (domain : List ℕ) (ttl : ℕ) (old : Option DomainRow) → let asked = op.Fresh domain ttl in
      AreOwn rows asked (fresh_row old (record { domain = domain; until = lease_end ttl now }))
  puts_fresh domain ttl None =
      puts (op.Fresh domain ttl) (row.Domain (record { domain = domain; until = lease_end ttl now })) refl
  puts_fresh domain ttl (Some old) =
      let asked = op.Fresh domain ttl in
      let new : DomainRow = record { domain = domain; until = lease_end ttl now } in
      by_test (AreOwn rows asked) (λ _. tt) (option_eq nat_eq old.until new.until) Keep (put (row.Domain new))
      (λ _. tt) (λ _.
      puts asked (row.Domain new) refl)

  freshens : (domain : List ℕ) (ttl : ℕ) → let asked = op.Fresh domain ttl in
      AreOwn rows asked (attempt_at (found_by rows asked) now asked)
  freshens domain ttl =
      let asked = op.Fresh domain ttl in
      by_passing (AreOwn rows asked) (λ _. tt) (fresh_refusals (found_by rows asked)) _
      (λ _. puts_fresh domain ttl (find_domain rows domain))

  forgets : (domain : List ℕ) → let asked = op.Forget domain in
      AreOwn rows asked (attempt_at (found_by rows asked) now asked)
  forgets domain =
      let asked = op.Forget domain in
      let holds = λ (old : DomainRow). Refuse (why.LeaseHolds (told_end old.until)) in
      by_knowing (AreOwn rows asked) (λ _. tt) (find_domain rows domain)
      (λ old. cond (holds_at old now) (holds old) (drop_row (row.Domain old))) (λ old known.
      by_test (AreOwn rows asked) (λ _. tt) (holds_at old now) (holds old) (drop_row (row.Domain old)) (λ _. tt) (λ _.
      let at = at_its_key name_order domain_name_of IsKeyOrder-name_order rows.domains (Some domain) old known in
      drops asked (row.Domain old) at.0 at.1))

  pub own-attempt : (asked : Op) → AreOwn rows asked (attempt_at (found_by rows asked) now asked)
  own-attempt (op.Desire desired) = desires desired
  own-attempt (op.Update process instances route port) = updates process instances route port
  own-attempt (op.Undesire process) = undesires process
  own-attempt (op.Make key) = makes key
  own-attempt (op.Claim key instance cell) = moves_by_cell (op.Claim key instance cell) instance.epoch
      (lrp.Claim instance cell)
  own-attempt (op.Start key instance cell) = moves_by_cell (op.Start key instance cell) instance.epoch
      (lrp.Start instance cell)
  own-attempt (op.Crash key instance) = moves (op.Crash key instance) (lrp.Crash instance)
  own-attempt (op.Unclaim key instance) = moves (op.Unclaim key instance) (lrp.Unclaim instance)
  own-attempt (op.Restart key) = moves (op.Restart key) lrp.Restart
  own-attempt (op.Remove key instance) = moves (op.Remove key instance) (lrp.Remove instance)
  own-attempt (op.PlaceFail key) = moves (op.PlaceFail key) lrp.PlaceFail
  own-attempt (op.Evacuate key instance) = evacuates key instance
  own-attempt (op.DropEvacuating key instance) =
      drops_aside (op.DropEvacuating key instance) Evacuating key refl instance
  own-attempt (op.NewTask name memory disk tag) = begins name memory disk tag
  own-attempt (op.StartTask name instance cell) = runs_by_cell (op.StartTask name instance cell) instance.epoch
      (task.Start instance cell)
  own-attempt (op.CompleteTask name instance failed) = runs (op.CompleteTask name instance failed)
      (task.Complete instance failed)
  own-attempt (op.CancelTask name) = runs (op.CancelTask name) task.Cancel
  own-attempt (op.ResolveTask name) = runs (op.ResolveTask name) task.Resolve
  own-attempt (op.DeleteTask name) = runs (op.DeleteTask name) task.Delete
  own-attempt (op.KickTask name) = runs (op.KickTask name) task.Kick
  own-attempt (op.ExpireTask name) = runs (op.ExpireTask name) task.Expire
  own-attempt (op.Join cell zone tag totals ttl) = joins cell zone tag totals ttl
  own-attempt (op.Renew cell epoch ttl) = renews cell epoch ttl
  own-attempt (op.Drain cell epoch) = drains cell epoch
  own-attempt (op.Vanish cell) = vanishes_as cell (find_cell rows cell) refl
  own-attempt (op.Fresh domain ttl) = freshens domain ttl
  own-attempt (op.Forget domain) = forgets domain
  own-attempt (op.Suspect key instance) = suspects key instance
  own-attempt (op.DropSuspect key instance) = drops_aside (op.DropSuspect key instance) Suspect key refl instance
