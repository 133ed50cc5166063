-- The lives that stops leave go on from what was acknowledged.
use Rattle.std.proofs.Common.{◌≡◌, ◌⊎◌, inl, inr, ℕ, zero, suc, ◌+◌, ◌≤◌, List, [], ◌∷◌, ◌++◌, length, take, slice_get, Some, refl, sym, ap, subst, ◌∙◌, arith, append_assoc, add-one}
use Rattle.payload_log.specs.Entries.{done_in}
use Rattle.payload_log.specs.declared.entry.Entry.TheVariants.{Done, Doubt}
use Rattle.payload_log.proofs.Public.{get_last}
use Rattle.locket.specs.Kept.{EndsInDoubt, IsLedTo}
use Rattle.locket.specs.Laws.{StaysLease, GoesOnFrom, LivesGoOnOverStops, LeasesStayOverStops}
use Rattle.locket.specs.Lives.{LockLog, unused, IsLife, lived}
use Rattle.locket.specs.Spans.{Span, span_of, spans}
use Rattle.locket.specs.declared.command.LockCommand.{LockCommand}
use Rattle.locket.proofs.Payloads.{locket_life}
use Rattle.locket.proofs.Living.{changes-front}
use Rattle.locket.proofs.Outcomes.{one_life}
use Rattle.locket.proofs.Spanning.{answers_leases, leases_stay}

-- what is done up to a place goes on up to a later one
done_on : (log : LockLog) (n m : ℕ) → n ≤ m → (more : List LockCommand)
    × (done_in (take m log) ≡ done_in (take n log) ++ more)
done_on log zero m le = (done_in (take m log), refl)
done_on [] (suc n) zero le = absurd (omega (arith, le))
done_on (item ∷ log) (suc n) zero le = absurd (omega (arith, le))
done_on [] (suc n) (suc m) le = ([], refl)
done_on (Done c ∷ log) (suc n) (suc m) le = let rest = done_on log n m (omega (arith, le)) in
    (rest.0, ap (λ (l : List LockCommand). c ∷ l) rest.1)
done_on (Doubt c ∷ log) (suc n) (suc m) le = done_on log n m (omega (arith, le))

-- and one place on, behind what is done there
done_suc : (log : LockLog) (place : ℕ) (c : LockCommand) → slice_get log place ≡ Some (Done c)
    → done_in (take (suc place) log) ≡ done_in (take place log) ++ c ∷ []
done_suc [] place c is = absurd cc
done_suc (Done d ∷ log) zero c is = let same : d ≡ c = cc in ap (λ (x : LockCommand). x ∷ []) same
done_suc (Doubt d ∷ log) zero c is = absurd cc
done_suc (Done d ∷ log) (suc place) c is = ap (λ (l : List LockCommand). d ∷ l) (done_suc log place c is)
done_suc (Doubt d ∷ log) (suc place) c is = done_suc log place c is

done_next : (log : LockLog) (place : ℕ) (c : LockCommand) → slice_get log place ≡ Some (Done c)
    → done_in (take (place + 1) log) ≡ done_in (take place log) ++ c ∷ []
done_next log place c is = ap (λ (n : ℕ). done_in (take n log)) (add-one place) ∙ done_suc log place c is

-- a life that the log leads to goes on from each place before
led_on : (base : List LockCommand) (log : LockLog) (from : ℕ) (life : List LockCommand) → IsLedTo base log from life
    → GoesOnFrom (lived base (take from log)) life
led_on base log from life led = by_end led.ends
  where
    on : (more : List LockCommand) × (done_in (take led.place log) ≡ done_in (take from log) ++ more)
    on = done_on log from led.place led.low

    front : lived base (take led.place log) ≡ lived base (take from log) ++ on.0
    front = ap (λ (l : List LockCommand). base ++ l) on.1 ∙ sym (append_assoc base (done_in (take from log)) on.0)

    by_end : (life ≡ lived base (take led.place log)) ⊎ EndsInDoubt base log led.place life
        → GoesOnFrom (lived base (take from log)) life
    by_end (inl is) = record { more = on.0; parts = is ∙ front }
    by_end (inr doubt) = record {
      more = on.0 ++ doubt.command ∷ [];
      parts = doubt.life_is ∙ ap (λ (l : List LockCommand). l ++ doubt.command ∷ []) front ∙ append_assoc
          (lived base (take from log)) on.0 (doubt.command ∷ []);
    }

pub lives_go_on : LivesGoOnOverStops
lives_go_on base log marks since p kept place mark c item marked image life images locket =
    let found = kept.lock_acknowledged place mark c item marked image images in
    let same : found.life ≡ life = one_life found.life life image found.locket locket in
    subst (λ (l : List LockCommand). GoesOnFrom (lived base (take (place + 1) log)) l) same
    (led_on base log (place + 1) found.life found.led)

pub leases_over_stops : LeasesStayOverStops
leases_over_stops base log marks since p kept place mark c lease item gives marked image life more images locket =
    let before : List LockCommand = lived base (take place log) in
    let on = lives_go_on base log marks since p kept place mark c item marked image life images locket in
    let up_to : lived base (take (place + 1) log) ≡ before ++ c ∷ [] =
    ap (λ (l : List LockCommand). base ++ l) (done_next log place c item) ∙ sym
    (append_assoc base (done_in (take place log)) (c ∷ [])) in
    let parts : life ≡ (before ++ c ∷ []) ++ on.more = on.parts ∙ ap (λ (l : List LockCommand). l ++ on.more) up_to in
    let lawful : IsLife before =
    changes-front unused before (c ∷ []) (changes-front unused (before ++ c ∷ []) on.more
    (subst IsLife parts (locket_life life image locket))) in
    let all : spans (before ++ c ∷ []) ≡ spans before ++ span_of c.now.0 lease ∷ [] =
    answers_leases before lawful c lease gives in
    let there : slice_get (spans (before ++ c ∷ [])) (length (spans before)) ≡ Some (span_of c.now.0 lease) =
    ap (λ (l : List Span). slice_get l (length (spans before))) all ∙ get_last (spans before) (span_of c.now.0 lease) in
    let whole : (before ++ c ∷ []) ++ (on.more ++ more) ≡ life ++ more =
    sym (append_assoc (before ++ c ∷ []) on.more more) ∙ ap (λ (l : List LockCommand). l ++ more) (sym parts) in
    subst (λ (l : List LockCommand). StaysLease (length (spans before)) (span_of c.now.0 lease) l) whole
    (leases_stay (before ++ c ∷ []) (on.more ++ more) (length (spans before)) (span_of c.now.0 lease) there)
