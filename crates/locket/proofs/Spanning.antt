-- The leases of a life are apart, and those that were answered.
use Rattle.std.proofs.Common.{◌≡◌, ◌⊎◌, inl, inr, ⊎_elim, ℕ, zero, suc, ◌+◌, ◌<◌, ◌≤◌, List, [], ◌∷◌, ◌++◌, slice_get, Option, Some, None, refl, sym, ap, subst, ◌∙◌, arith}
use Rattle.std.proofs.lemmas.Bool.{cases_lt}
use Rattle.crash_backoff.specs.declared.moment.Moment.{Moment}
use Rattle.locket.specs.Laws.{LeasesAreApart, FencesComeOnce, OneIsHeld, GivesLease, AnswersAreLeases, HeldIsTheLast, LeasesStay}
use Rattle.locket.specs.Lives.{unused, state_after, state_from, state_of, AreChanges}
use Rattle.locket.specs.Spans.{Span, IsApart, IsSameLease, end_behind, spans_behind, span_of, spans}
use Rattle.locket.specs.Steps.{changed, next_lease, ending}
use Rattle.locket.specs.declared.command.LockCommand.{LockCommand}
use Rattle.locket.specs.declared.command.LockOp.{LockOp}
use Rattle.locket.specs.declared.command.LockOp.TheVariants.{Acquire, Renew, Release}
use Rattle.locket.specs.declared.reply.LockReply.{LockReply}
use Rattle.locket.specs.declared.reply.LockReply.TheVariants as reply
use Rattle.locket.specs.declared.state.Lease.{Lease}
use Rattle.locket.specs.declared.state.LockState.{LockState}
use Rattle.locket.proofs.Living.{after_change}
use Rattle.locket.proofs.Stepping.{HasRunOut, Happened, stepped, change_is, after_is}

-- ---- an operation at the front

-- the end of a lease behind it
abbrev op_end : ℕ → Moment → List LockCommand → LockOp → ℕ
op_end until now cs op = elim op [
  | Acquire owner ttl ↦ until
  | Renew owner fence ttl ↦ end_behind
      (now.0 + ttl) cs
  | Release owner fence ↦ now.0
]

-- the leases from it on
abbrev op_spans : ℕ → Moment → List LockCommand → LockOp → List Span
op_spans last now cs op = elim op [
  | Acquire owner ttl ↦ record { fence = last + 1; owner = owner; from = now.0; to = end_behind (now.0 + ttl) cs }
      ∷ spans_behind (last + 1) cs
  | Renew owner fence ttl ↦ spans_behind last cs
  | Release owner fence ↦ spans_behind last cs
]

-- ---- what a lawful list gives

-- each lease has a fence above the one before, begins when that has ended, and doesn't end before it begins
abbrev Chain : ℕ → ℕ → List Span → Type 0
Chain last free [] = Unit {0}
Chain last free (span ∷ rest) = (last < span.fence) × (free ≤ span.from) × (span.from ≤ span.to)
    × Chain span.fence span.to rest

-- when the lease that a state has will have ended, or now where it has none
abbrev free_at : Option Lease → ℕ → List LockCommand → ℕ
free_at None seen cs = seen
free_at (Some lease) seen cs = end_behind lease.until cs

-- no lease ends before a moment that nothing is before
end_later : (s : LockState) (cs : List LockCommand) (moment until : ℕ) → AreChanges s cs → moment ≤ s.seen.0
    → moment ≤ until → moment ≤ end_behind until cs
end_later s [] moment until are low le = le
end_later s (c ∷ cs) moment until are low le =
    let a = after_change s c are.0 in
    let later = a.later in
    let seen = a.seen in
    let now : moment ≤ c.now.0 = omega (arith, low, later) in
    elim c.op as (λ (op : LockOp). moment ≤ op_end until c.now cs op) [
      | Acquire owner ttl ↦ le
      | Renew owner fence ttl ↦ end_later (state_after s c) cs moment (c.now.0 + ttl) are.1 (omega (arith, now, seen))
          (omega (arith, now))
      | Release owner fence ↦ now
    ]

-- what ran out has ended before the next lease
ran_out_free : (held : Option Lease) (seen now : ℕ) → HasRunOut held now → seen ≤ now
    → (cs : List LockCommand) (c : LockCommand) (owner : List ℕ) (ttl : ℕ) → c.op ≡ Acquire owner ttl
    → free_at held seen (c ∷ cs) ≤ now
ran_out_free None seen now ran_out le cs c owner ttl is = le
ran_out_free (Some lease) seen now ran_out le cs c owner ttl is =
    subst (λ (op : LockOp). op_end lease.until c.now cs op ≤ now) (sym is) ran_out

chained : (s : LockState) (cs : List LockCommand) → AreChanges s cs
    → Chain s.last (free_at s.held s.seen.0 cs) (spans_behind s.last cs)
chained s [] are = tt
chained s (c ∷ cs) are =
    let v = change_is s c are.0 in
    let step = stepped s c v.next v.answer v.verdict in
    let after : state_after s c ≡ v.next = after_is s c v.next v.answer v.verdict in
    let rest : Chain v.next.last (free_at v.next.held v.next.seen.0 cs) (spans_behind v.next.last cs) =
    subst (λ (t : LockState). Chain t.last (free_at t.held t.seen.0 cs) (spans_behind t.last cs)) after
    (chained (state_after s c) cs are.1) in
    let changes : AreChanges v.next cs = subst (λ (t : LockState). AreChanges t cs) after are.1 in
    by_op c.op refl v.next v.answer step.seen step.happened changes rest
  where
    Goal : LockOp → Type 0
    Goal op = Chain s.last (free_at s.held s.seen.0 (c ∷ cs)) (op_spans s.last c.now cs op)

    by_op : (op : LockOp) → c.op ≡ op → (next : LockState) (answer : LockReply) → s.seen.0 ≤ c.now.0
        → Happened s c.now op next answer → AreChanges next cs
        → Chain next.last (free_at next.held next.seen.0 cs) (spans_behind next.last cs)
        → Chain s.last (free_at s.held s.seen.0 (c ∷ cs)) (op_spans s.last c.now cs op)
    by_op (Acquire owner ttl) is next answer seen h changes rest =
        let then : LockState = changed s c.now (s.last + 1) (Some (next_lease s c.now owner ttl)) in
        let rest_then : Chain (s.last + 1) (end_behind (c.now.0 + ttl) cs) (spans_behind (s.last + 1) cs) =
        subst (λ (t : LockState). Chain t.last (free_at t.held t.seen.0 cs) (spans_behind t.last cs)) h.made.next_is
        rest in
        let changes_then : AreChanges then cs = subst (λ (t : LockState). AreChanges t cs) h.made.next_is changes in (
          omega arith,
          ran_out_free s.held s.seen.0 c.now.0 h.ran_out seen cs c owner ttl is,
          end_later then cs c.now.0 (c.now.0 + ttl) changes_then (omega arith) (omega arith),
          rest_then,
        )
    by_op (Renew owner fence ttl) is next answer seen h changes rest =
        let then : Chain s.last (end_behind (c.now.0 + ttl) cs) (spans_behind s.last cs) =
        subst (λ (t : LockState). Chain t.last (free_at t.held t.seen.0 cs) (spans_behind t.last cs)) h.made.next_is
        rest in
        let free : free_at s.held s.seen.0 (c ∷ cs) ≡ end_behind (c.now.0 + ttl) cs =
        ap (λ (o : Option Lease). free_at o s.seen.0 (c ∷ cs)) h.held ∙ ap
        (λ (op : LockOp). op_end h.lease.until c.now cs op) is in
        subst (λ (n : ℕ). Chain s.last n (spans_behind s.last cs)) (sym free) then
    by_op (Release owner fence) is next answer seen h changes rest =
        let then : Chain s.last c.now.0 (spans_behind s.last cs) =
        subst (λ (t : LockState). Chain t.last (free_at t.held t.seen.0 cs) (spans_behind t.last cs)) h.made.next_is
        rest in
        let free : free_at s.held s.seen.0 (c ∷ cs) ≡ c.now.0 =
        ap (λ (o : Option Lease). free_at o s.seen.0 (c ∷ cs)) h.held ∙ ap
        (λ (op : LockOp). op_end h.lease.until c.now cs op) is in
        subst (λ (n : ℕ). Chain s.last n (spans_behind s.last cs)) (sym free) then

-- each lease of a chain is behind all that is before it
chain_get : (last free : ℕ) (xs : List Span) (place : ℕ) (b : Span) → Chain last free xs → slice_get xs place ≡ Some b
    → (last < b.fence) × (free ≤ b.from)
chain_get last free [] place b chain is = absurd cc
chain_get last free (x ∷ xs) zero b chain is = let same : x ≡ b = cc in
    subst (λ (y : Span). (last < y.fence) × (free ≤ y.from)) same (chain.0, chain.1)
chain_get last free (x ∷ xs) (suc place) b chain is =
    let rest = chain_get x.fence x.to xs place b chain.3 is in
    let low = chain.0 in
    let begins = chain.1 in
    let ends = chain.2 in
    let fence = rest.0 in
    let from = rest.1 in
    (omega (arith, low, fence), omega (arith, begins, ends, from))

chain_apart : (last free : ℕ) (xs : List Span) (i j : ℕ) (a b : Span) → Chain last free xs → slice_get xs i ≡ Some a
    → slice_get xs j ≡ Some b → i < j → IsApart a b
chain_apart last free [] i j a b chain ia jb lt = absurd cc
chain_apart last free (x ∷ xs) i zero a b chain ia jb lt = absurd (omega (arith, lt))
chain_apart last free (x ∷ xs) zero (suc j) a b chain ia jb lt =
    let same : x ≡ a = cc in
    let rest = chain_get x.fence x.to xs j b chain.3 jb in
    subst (λ (y : Span). IsApart y b) same (record { fences = rest.0; ends = rest.1 })
chain_apart last free (x ∷ xs) (suc i) (suc j) a b chain ia jb lt =
    chain_apart x.fence x.to xs i j a b chain.3 ia jb (omega (arith, lt))

pub leases_apart : LeasesAreApart
leases_apart life is i j a b ia jb lt = chain_apart 0 0 (spans life) i j a b (chained unused life is) ia jb lt

-- where each of two would be behind the other they are one
one_place : (i j : ℕ) → (i < j → ⊥) → (j < i → ⊥) → i ≡ j
one_place i j low high = ⊎_elim (λ lt. absurd (low lt))
    (λ ge. ⊎_elim (λ lt. absurd (high lt)) (λ le. omega (arith, ge, le)) (cases_lt j i)) (cases_lt i j)

pub fences_once : FencesComeOnce
fences_once life is i j a b ia jb same =
    one_place i j
    (λ lt. let apart = leases_apart life is i j a b ia jb lt in let fences = apart.fences in
    omega (arith, fences, same))
    (λ lt. let apart = leases_apart life is j i b a jb ia lt in let fences = apart.fences in
    omega (arith, fences, same))

pub one_held : OneIsHeld
one_held life is i j moment a b ia jb ha hb =
    let a_from = ha.0 in
    let a_to = ha.1 in
    let b_from = hb.0 in
    let b_to = hb.1 in
    one_place i j
    (λ lt. let apart = leases_apart life is i j a b ia jb lt in let ends = apart.ends in
    omega (arith, ends, a_to, b_from))
    (λ lt. let apart = leases_apart life is j i b a jb ia lt in let ends = apart.ends in
    omega (arith, ends, b_to, a_from))

-- ---- answers are leases

-- a lease that is given behind moves no end
end_more : (cs : List LockCommand) (c : LockCommand) (owner : List ℕ) (ttl : ℕ) → c.op ≡ Acquire owner ttl → (until : ℕ)
    → end_behind until (cs ++ c ∷ []) ≡ end_behind until cs
end_more [] c owner ttl is until = ap (λ (op : LockOp). op_end until c.now [] op) is
end_more (d ∷ cs) c owner ttl is until =
    elim d.op as (λ (op : LockOp). op_end until d.now (cs ++ c ∷ []) op ≡ op_end until d.now cs op) [
      | Acquire o t ↦ refl
      | Renew o f t ↦ end_more cs c owner ttl is (d.now.0 + t)
      | Release o f ↦ refl
    ]

-- the lease that is given behind is the last one
spans_more : (s : LockState) (cs : List LockCommand) (c : LockCommand) (owner : List ℕ) (ttl : ℕ)
    → c.op ≡ Acquire owner ttl → AreChanges s cs
    → spans_behind s.last (cs ++ c ∷ []) ≡ spans_behind s.last cs
    ++ record { fence = (state_from s cs).last + 1; owner = owner; from = c.now.0; to = c.now.0 + ttl } ∷ []
spans_more s [] c owner ttl is are = ap (λ (op : LockOp). op_spans s.last c.now [] op) is
spans_more s (d ∷ cs) c owner ttl is are =
    let v = change_is s d are.0 in
    let step = stepped s d v.next v.answer v.verdict in
    let after : state_after s d ≡ v.next = after_is s d v.next v.answer v.verdict in
    by_op d.op v.next v.answer step.happened after (spans_more (state_after s d) cs c owner ttl is are.1)
  where
    new : Span
    new = record { fence = (state_from s (d ∷ cs)).last + 1; owner = owner; from = c.now.0; to = c.now.0 + ttl }

    last_is : (next : LockState) → state_after s d ≡ next
        → spans_behind (state_after s d).last (cs ++ c ∷ []) ≡ spans_behind (state_after s d).last cs ++ new ∷ []
        → (last : ℕ) → next.last ≡ last → spans_behind last (cs ++ c ∷ []) ≡ spans_behind last cs ++ new ∷ []
    last_is next after rest last is =
        subst (λ (n : ℕ). spans_behind n (cs ++ c ∷ []) ≡ spans_behind n cs ++ new ∷ [])
        (ap (λ (t : LockState). t.last) after ∙ is) rest

    by_op : (op : LockOp) (next : LockState) (answer : LockReply) → Happened s d.now op next answer
        → state_after s d ≡ next
        → spans_behind (state_after s d).last (cs ++ c ∷ []) ≡ spans_behind (state_after s d).last cs ++ new ∷ []
        → op_spans s.last d.now (cs ++ c ∷ []) op ≡ op_spans s.last d.now cs op ++ new ∷ []
    by_op (Acquire o t) next answer h after rest =
        ap (λ (to : ℕ). record { fence = s.last + 1; owner = o; from = d.now.0; to = to }
        ∷ spans_behind (s.last + 1) (cs ++ c ∷ [])) (end_more cs c owner ttl is (d.now.0 + t))
        ∙ ap (λ (l : List Span). record {
          fence = s.last + 1;
          owner = o;
          from = d.now.0;
          to =
              end_behind (d.now.0 + t) cs;
        } ∷ l)
        (last_is next after rest (s.last + 1) (ap (λ (x : LockState). x.last) h.made.next_is))
    by_op (Renew o f t) next answer h after rest = last_is next after rest s.last
        (ap (λ (x : LockState). x.last) h.made.next_is)
    by_op (Release o f) next answer h after rest = last_is next after rest s.last
        (ap (λ (x : LockState). x.last) h.made.next_is)

given_span : (s : LockState) (c : LockCommand) (lease : Lease) (g : GivesLease s c lease)
    → record { fence = s.last + 1; owner = g.owner; from = c.now.0; to = c.now.0 + g.ttl } ≡ span_of c.now.0 lease
given_span s c lease g =
    let step = stepped s c g.next (reply.Ok lease) g.answers in
    let h = subst (λ (op : LockOp). Happened s c.now op g.next (reply.Ok lease)) g.asks step.happened in
    let same : lease ≡ next_lease s c.now g.owner g.ttl = let answer = h.made.answer_is in cc in
    ap (span_of c.now.0) (sym same)

pub answers_leases : AnswersAreLeases
answers_leases life is c lease g =
    spans_more unused life c g.owner g.ttl g.asks is ∙ ap (λ (x : Span). spans life ++ x ∷ [])
    (given_span (state_of life) c lease g)

-- ---- the lease that is held

-- no lease was given, and the one that was there is it
record IsOlder (held : Option Lease) (last : ℕ) (cs : List LockCommand) (lease : Lease) : Type 0 where
  none : spans_behind last cs ≡ []
  there : Lease
  held_is : held ≡ Some there
  fence : there.fence ≡ lease.fence
  owner : there.owner ≡ lease.owner
  end : end_behind there.until cs ≡ lease.until

-- the lease is the last one that was given
record IsNewer (last : ℕ) (cs : List LockCommand) (lease : Lease) : Type 0 where
  earlier : List Span
  from : ℕ
  spans_are : spans_behind last cs ≡ earlier ++ span_of from lease ∷ []

held_last : (s : LockState) (cs : List LockCommand) (lease : Lease) → AreChanges s cs
    → (state_from s cs).held ≡ Some lease → IsOlder s.held s.last cs lease ⊎ IsNewer s.last cs lease
held_last s [] lease are is = inl (record {
  none = refl;
  there = lease;
  held_is = is;
  fence = refl;
  owner = refl;
  end =
      refl;
})
held_last s (c ∷ cs) lease are is =
    let v = change_is s c are.0 in
    let step = stepped s c v.next v.answer v.verdict in
    let after : state_after s c ≡ v.next = after_is s c v.next v.answer v.verdict in
    let rest : IsOlder v.next.held v.next.last cs lease ⊎ IsNewer v.next.last cs lease =
    subst (λ (t : LockState). IsOlder t.held t.last cs lease ⊎ IsNewer t.last cs lease) after
    (held_last (state_after s c) cs lease are.1 is) in
    by_op c.op refl v.next v.answer step.happened rest
  where
    Goal : LockOp → Type 0
    Goal op = IsOlder s.held s.last (c ∷ cs) lease ⊎ IsNewer s.last (c ∷ cs) lease

    -- the leases from this command on
    spans_as : (op : LockOp) → c.op ≡ op → spans_behind s.last (c ∷ cs) ≡ op_spans s.last c.now cs op
    spans_as op same = ap (λ (o : LockOp). op_spans s.last c.now cs o) same

    newer : (op : LockOp) → c.op ≡ op → op_spans s.last c.now cs op ≡ spans_behind s.last cs → IsNewer s.last cs lease
        → IsNewer s.last (c ∷ cs) lease
    newer op same none n = record {
      earlier = n.earlier;
      from = n.from;
      spans_are =
          spans_as op same ∙ none ∙ n.spans_are;
    }

    by_op : (op : LockOp) → c.op ≡ op → (next : LockState) (answer : LockReply) → Happened s c.now op next answer
        → IsOlder next.held next.last cs lease ⊎ IsNewer next.last cs lease
        → IsOlder s.held s.last (c ∷ cs) lease ⊎ IsNewer s.last (c ∷ cs) lease
    by_op (Acquire owner ttl) same next answer h rest =
        let given : Lease = next_lease s c.now owner ttl in
        let then : IsOlder (Some given) (s.last + 1) cs lease ⊎ IsNewer (s.last + 1) cs lease =
        subst (λ (t : LockState). IsOlder t.held t.last cs lease ⊎ IsNewer t.last cs lease) h.made.next_is rest in
        inr (⊎_elim
        (λ (o : IsOlder (Some given) (s.last + 1) cs lease).
        let there_is : o.there ≡ given = let held = o.held_is in cc in
        let fence : s.last + 1 ≡ lease.fence = ap (λ (l : Lease). l.fence) (sym there_is) ∙ o.fence in
        let own : owner ≡ lease.owner = ap (λ (l : Lease). l.owner) (sym there_is) ∙ o.owner in
        let end : end_behind (c.now.0 + ttl) cs ≡ lease.until =
        ap (λ (l : Lease). end_behind l.until cs) (sym there_is) ∙ o.end in
        let first : record { fence = s.last + 1; owner = owner; from = c.now.0; to = end_behind (c.now.0 + ttl) cs }
        ≡ span_of c.now.0 lease =
        λ i. record { fence = fence i; owner = own i; from = c.now.0; to = end i } in
        record {
          earlier = [];
          from = c.now.0;
          spans_are = spans_as (Acquire owner ttl) same ∙ ap
              (λ (l : List Span). record {
                fence = s.last + 1;
                owner = owner;
                from = c.now.0;
                to =
                    end_behind (c.now.0 + ttl) cs;
              } ∷ l) o.none
              ∙ ap (λ (x : Span). x ∷ []) first;
        })
        (λ (n : IsNewer (s.last + 1) cs lease).
        let first : Span = record {
          fence = s.last + 1;
          owner = owner;
          from = c.now.0;
          to =
              end_behind (c.now.0 + ttl) cs;
        } in
        record {
          earlier = first ∷ n.earlier;
          from = n.from;
          spans_are =
              spans_as (Acquire owner ttl) same ∙ ap (λ (l : List Span). first ∷ l) n.spans_are;
        })
        then)
    by_op (Renew owner fence ttl) same next answer h rest =
        let longer : Lease = ending h.lease (c.now.0 + ttl) in
        let then : IsOlder (Some longer) s.last cs lease ⊎ IsNewer s.last cs lease =
        subst (λ (t : LockState). IsOlder t.held t.last cs lease ⊎ IsNewer t.last cs lease) h.made.next_is rest in
        ⊎_elim
        (λ (o : IsOlder (Some longer) s.last cs lease).
        let there_is : o.there ≡ longer = let held = o.held_is in cc in
        inl (record {
          none = spans_as (Renew owner fence ttl) same ∙ o.none;
          there = h.lease;
          held_is = h.held;
          fence = ap (λ (l : Lease). l.fence) (sym there_is) ∙ o.fence;
          owner = ap (λ (l : Lease). l.owner) (sym there_is) ∙ o.owner;
          end = ap (λ (p : LockOp). op_end h.lease.until c.now cs p) same ∙ ap (λ (l : Lease). end_behind l.until cs)
              (sym there_is) ∙ o.end;
        }))
        (λ (n : IsNewer s.last cs lease). inr (newer (Renew owner fence ttl) same refl n)) then
    by_op (Release owner fence) same next answer h rest =
        let then : IsOlder None s.last cs lease ⊎ IsNewer s.last cs lease =
        subst (λ (t : LockState). IsOlder t.held t.last cs lease ⊎ IsNewer t.last cs lease) h.made.next_is rest in
        ⊎_elim (λ (o : IsOlder None s.last cs lease). absurd (let held = o.held_is in cc))
        (λ (n : IsNewer s.last cs lease). inr (newer (Release owner fence) same refl n)) then

pub held_is_last : HeldIsTheLast
held_is_last life is lease held =
    ⊎_elim
    (λ (o : IsOlder None 0 life lease). absurd (let never = o.held_is in cc))
    (λ (n : IsNewer 0 life lease). record { earlier = n.earlier; from = n.from; spans_are = n.spans_are })
    (held_last unused life lease is held)

-- ---- leases stay

-- a lease at a place of one list is at that place of another
abbrev Stays : List Span → List Span → Span → ℕ → Type 0
Stays xs ys span place = slice_get xs place ≡ Some span
    → (later : Span) × (slice_get ys place ≡ Some later) × IsSameLease span later

-- a lease in front, which ends otherwise, and those behind it
first_stays : (last : ℕ) (now : Moment) (owner : List ℕ) (to to' : ℕ) (xs ys : List Span) (span : Span) (place : ℕ)
    → ((p : ℕ) → Stays xs ys span p)
    → Stays (record { fence = last; owner = owner; from = now.0; to = to } ∷ xs)
    (record { fence = last; owner = owner; from = now.0; to = to' } ∷ ys) span place
first_stays last now owner to to' xs ys span zero rest is =
    let first : Span = record { fence = last; owner = owner; from = now.0; to = to } in
    let later : Span = record { fence = last; owner = owner; from = now.0; to = to' } in
    let same : first ≡ span = cc in
    (later, refl, subst (λ (s : Span). IsSameLease s later) same (record { fence = refl; owner = refl; from = refl }))
first_stays last now owner to to' xs ys span (suc place) rest is = rest place is

stays_op : (last : ℕ) (now : Moment) (cs more : List LockCommand) (span : Span) (place : ℕ)
    → ((l p : ℕ) → Stays (spans_behind l cs) (spans_behind l (cs ++ more)) span p) → (op : LockOp)
    → Stays (op_spans last now cs op) (op_spans last now (cs ++ more) op) span place
stays_op last now cs more span place rest (Acquire owner ttl) =
    first_stays (last + 1) now owner (end_behind (now.0 + ttl) cs) (end_behind (now.0 + ttl) (cs ++ more))
    (spans_behind (last + 1) cs) (spans_behind (last + 1) (cs ++ more)) span place (λ p. rest (last + 1) p)
stays_op last now cs more span place rest (Renew owner fence ttl) = rest last place
stays_op last now cs more span place rest (Release owner fence) = rest last place

stays_behind : (last : ℕ) (cs more : List LockCommand) (place : ℕ) (span : Span)
    → Stays (spans_behind last cs) (spans_behind last (cs ++ more)) span place
stays_behind last [] more place span is = absurd cc
stays_behind last (c ∷ cs) more place span is = stays_op last c.now cs more span place
    (λ l p. stays_behind l cs more p span) c.op is

pub leases_stay : LeasesStay
leases_stay life more place span is = let s = stays_behind 0 life more place span is in
    record { later = s.0; there = s.1; same = s.2 }
