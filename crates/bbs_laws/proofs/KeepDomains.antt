-- What is asked of domains leaves a valid board.
use Rattle.std.proofs.Common.{◌≡◌, ℕ, ◌<◌, cond, List, length, Option, Some, None, nat_eq, arith}
use Rattle.std.specs.Option.{option_eq}
use Rattle.crash_backoff.specs.declared.moment.Moment.{Moment}
use Rattle.diego_names.specs.Order.{name_order}
use Rattle.row_tables.specs.Table.{put_row, without_row}
use Rattle.bbs_model.specs.Attempts.{put, drop_row}
use Rattle.bbs_model.specs.Domains.{holds_at, lease_end, told_end, fresh_refusals, fresh_row, fresh, forget}
use Rattle.bbs_model.specs.Found.{found_by}
use Rattle.bbs_model.specs.Limits.{most_domains, most_transitions}
use Rattle.bbs_model.specs.Step.{changed_by, advanced}
use Rattle.bbs_model.specs.Tables.{domain_name_of, find_domain}
use Rattle.bbs_model.specs.Valid.{AreDomains, IsValid}
use Rattle.bbs_model.specs.declared.attempt.Attempt.{Attempt}
use Rattle.bbs_model.specs.declared.attempt.Attempt.TheVariants.{Refuse, Keep}
use Rattle.bbs_model.specs.declared.command.Op.TheVariants as op
use Rattle.bbs_model.specs.declared.domain_row.DomainRow.{DomainRow}
use Rattle.bbs_model.specs.declared.event.Row.TheVariants as row
use Rattle.bbs_model.specs.declared.rows.Rows.{Rows}
use Rattle.bbs_model.specs.declared.verdict.BoardRefusal.TheVariants.{LeaseHolds}
use Rattle.bbs_laws.proofs.KeepSteps.{room_from, by_test, by_passing, by_knowing}
use Rattle.bbs_laws.proofs.KeepTables.{AreActual-longer, AreTasks-longer, AreCells-longer, AreDomains-put, AreDomains-without}

-- other domains, and one transition more
with_domains : (rows : Rows) (domains : List DomainRow) → IsValid rows → rows.next < most_transitions
    → AreDomains domains → IsValid (advanced (record rows { domains = domains }))
with_domains rows domains valid room h = record {
  desired = valid.desired;
  actual = AreActual-longer rows.next rows.actual valid.actual;
  tasks = AreTasks-longer rows.next rows.tasks valid.tasks;
  cells = AreCells-longer rows.next rows.cells valid.cells;
  domains = h;
  next = omega arith;
}

module _ (rows : Rows) (valid : IsValid rows) (room : rows.next < most_transitions) where
  -- the rows are valid after the attempt
  abbrev Stays : Attempt → Type 0
  Stays attempt = IsValid (changed_by rows attempt)

  IsValid-put : (new : DomainRow) → (find_domain rows new.domain ≡ None → length rows.domains < most_domains)
      → IsValid (changed_by rows (put (row.Domain new)))
  IsValid-put new free =
      with_domains rows (put_row name_order domain_name_of new rows.domains) valid room
      (AreDomains-put new rows.domains valid.domains free)

  IsValid-fresh_row : (old : Option DomainRow) (new : DomainRow)
      → (find_domain rows new.domain ≡ None → length rows.domains < most_domains)
      → IsValid (changed_by rows (fresh_row old new))
  IsValid-fresh_row None new free = IsValid-put new free
  IsValid-fresh_row (Some old) new free =
      by_test Stays (λ why. valid) (option_eq nat_eq old.until new.until) Keep (put (row.Domain new)) (λ same. valid)
      (λ other. IsValid-put new free)

  pub IsValid-fresh : (domain : List ℕ) (ttl : ℕ) (now : Moment)
      → IsValid (changed_by rows (fresh (found_by rows (op.Fresh domain ttl)) domain ttl now))
  IsValid-fresh domain ttl now =
      let new : DomainRow = record { domain = domain; until = lease_end ttl now } in
      by_passing Stays (λ why. valid) (fresh_refusals (found_by rows (op.Fresh domain ttl)))
      (fresh_row (find_domain rows domain) new) (λ passed.
      IsValid-fresh_row (find_domain rows domain) new
      (room_from (find_domain rows domain) most_domains (length rows.domains) passed.0))

  pub IsValid-forget : (domain : List ℕ) (now : Moment)
      → IsValid (changed_by rows (forget (found_by rows (op.Forget domain)) now))
  IsValid-forget domain now =
      let step = λ (old : DomainRow). cond (holds_at old now) (Refuse (LeaseHolds (told_end old.until)))
      (drop_row (row.Domain old)) in
      by_knowing Stays (λ why. valid) (find_domain rows domain) step (λ old known.
      let left = without_row name_order domain_name_of old.domain rows.domains in
      by_test Stays (λ why. valid) (holds_at old now) (Refuse (LeaseHolds (told_end old.until)))
      (drop_row (row.Domain old)) (λ holds. valid) (λ ended.
      with_domains rows left valid room (AreDomains-without old.domain rows.domains valid.domains)))
