-- What is asked of domains. A client that keeps a domain fresh vouches for its list of processes.
use Rattle.std.specs.Prelude.{ℕ, ◌+◌, ◌==◌, ◌&&◌, Bool, true, false, List, [], ◌∷◌, nat_eq, nat_le, nat_lt, Option, Some, None, is_none, if◌then◌else◌}
use Rattle.std.specs.Option.{option_eq, option_map_or}
use Rattle.crash_backoff.specs.declared.moment.Moment.{Moment}
use Rattle.bbs_model.specs.Attempts.{Refusals, unless_refused, if_known, put, drop_row}
use Rattle.bbs_model.specs.Limits.{most_domains}
use Rattle.bbs_model.specs.declared.attempt.Attempt.{Attempt}
use Rattle.bbs_model.specs.declared.attempt.Attempt.TheVariants.{Refuse, Keep}
use Rattle.bbs_model.specs.declared.domain_row.DomainRow.{DomainRow}
use Rattle.bbs_model.specs.declared.event.Row.TheVariants as row
use Rattle.bbs_model.specs.declared.found.Found.{Found}
use Rattle.bbs_model.specs.declared.verdict.BoardRefusal.TheVariants.{TooMany, LeaseHolds}

-- a domain's row holds at this moment: for ever, or until a second that is still to come
abbrev pub holds_at : DomainRow → Moment → Bool
holds_at domain now = option_map_or (λ (until : ℕ). nat_lt now.0 until) domain.until true

-- the domain has a row that holds at this moment
abbrev pub is_fresh : Option DomainRow → Moment → Bool
is_fresh domain now = option_map_or (λ (d : DomainRow). holds_at d now) domain false

-- the second at which a row ends that holds for so many seconds, where 0 stands for ever
abbrev pub lease_end : ℕ → Moment → Option ℕ
lease_end ttl now = if ttl == 0 then None else Some (now.0 + ttl)

-- the second at which a row ends, as a refusal tells it: the last one there is for a row that never ends
abbrev pub told_end : Option ℕ → ℕ
told_end None = 18446744073709551615
told_end (Some until) = until

-- why a domain can't be kept fresh
abbrev pub fresh_refusals : Found → Refusals
fresh_refusals found = (is_none found.domain && nat_le most_domains found.counts.domains, TooMany most_domains) ∷ []

-- the row is put, but where one with the same end stands there already
abbrev pub fresh_row : Option DomainRow → DomainRow → Attempt
fresh_row None new = put (row.Domain new)
fresh_row (Some old) new = if option_eq nat_eq old.until new.until then Keep else put (row.Domain new)

-- the domain is fresh for so many seconds from now, or for ever
abbrev pub fresh : Found → List ℕ → ℕ → Moment → Attempt
fresh found domain ttl now = unless_refused (fresh_refusals found)
    (fresh_row found.domain (record { domain = domain; until = lease_end ttl now }))

-- the row of a domain that isn't fresh any more is dropped
abbrev pub forget : Found → Moment → Attempt
forget found now = if_known found.domain (λ old.
    if holds_at old now then Refuse (LeaseHolds (told_end old.until)) else drop_row (row.Domain old))
