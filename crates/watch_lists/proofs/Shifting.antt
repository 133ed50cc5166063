-- Causes are noted anew as one term after another ends at another second.
use Rattle.std.proofs.Common.{◌≡◌, ◌≢◌, ℕ, Bool, true, false, cond, List, Option, Some, None, inl, inr, refl, ap, sym, ◌∙◌}
use Rattle.std.specs.Prelude.{nat_eq}
use Rattle.std.specs.Option.{unwrap_or}
use Rattle.std.specs.Cmp.Lexicographic.{pointwise, same_text}
use Rattle.std.proofs.lemmas.Bool.{eqb-true}
use Rattle.std.proofs.lemmas.Cmp.{nat_list_eq_equiv}
use Rattle.work_causes.specs.Causes.{Ends, end_under, until_of}
use Rattle.work_causes.specs.declared.cause.Cause.{Cause}
use Rattle.work_causes.specs.declared.cause.Cause.TheVariants.{Always, From, Past, While, Anew}
use Rattle.work_causes.specs.declared.cause.Lease.{Lease}
use Rattle.work_causes.specs.declared.cause.Term.{Term}
use Rattle.work_causes.specs.declared.cause.Term.TheVariants.{OfEpoch, OfDomain}
use Rattle.watch_lists.specs.Shifting.{IsNewEnd, IsNewLease, IsShiftedEpoch}
use Rattle.watch_lists.specs.Watched.{start_of, start_while, stop_of}
use Rattle.watch_lists.specs.Watching.{Watching, IsTimed}
use Rattle.watch_lists.proofs.Apart.{TellsApart, TellsApart-numbers, apart, decide}

-- what begins with the end of a term by one function, and what lasts up to it by another
pub mid_start : (Term → Option ℕ) → (Term → Option ℕ) → Cause → Option ℕ
mid_start u v Always = Some 0
mid_start u v (From second) = Some second
mid_start u v (Past term) = u term
mid_start u v (While term) = start_while (v term)
mid_start u v (Anew cell epoch) = Some 0

module _ (u v : Term → Option ℕ) (term : Term) (others : (s : Term) → term ≢ s → v s ≡ u s) where
  pub past_others : (d : Cause) → Past term ≢ d → mid_start v u d ≡ start_of u d
  unfolding mid_start
  past_others Always far = refl
  past_others (From second) far = refl
  past_others (Past t) far = others t (λ one. far (ap Past one))
  past_others (While t) far = refl
  past_others (Anew cell epoch) far = refl

  pub while_others : (d : Cause) → While term ≢ d → start_of v d ≡ mid_start v u d
  unfolding mid_start
  while_others Always far = refl
  while_others (From second) far = refl
  while_others (Past t) far = refl
  while_others (While t) far = ap start_while (others t (λ one. far (ap While one)))
  while_others (Anew cell epoch) far = refl

  pub stop_others : (d : Cause) → While term ≢ d → stop_of v d ≡ stop_of u d
  stop_others Always far = refl
  stop_others (From second) far = refl
  stop_others (Past t) far = refl
  stop_others (While t) far = others t (λ one. far (ap While one))
  stop_others (Anew cell epoch) far = refl

pub mid_past : (u v : Term → Option ℕ) (t : Term) → mid_start v u (Past t) ≡ v t
unfolding mid_start
mid_past u v t = refl

-- times that are told alike
module _ (u v : Term → Option ℕ) (alike : (s : Term) → v s ≡ u s) where
  start_alike : (d : Cause) → start_of v d ≡ start_of u d
  start_alike Always = refl
  start_alike (From second) = refl
  start_alike (Past t) = alike t
  start_alike (While t) = ap start_while (alike t)
  start_alike (Anew cell epoch) = refl

  stop_alike : (d : Cause) → stop_of v d ≡ stop_of u d
  stop_alike Always = refl
  stop_alike (From second) = refl
  stop_alike (Past t) = refl
  stop_alike (While t) = alike t
  stop_alike (Anew cell epoch) = refl

  pub timed_alike : {K : Type 0} (eq : Cause → Cause → Bool) (same : K → K → Bool) (w : Watching Cause K)
      → IsTimed eq same (start_of u) (stop_of u) w → IsTimed eq same (start_of v) (stop_of v) w
  timed_alike eq same w timed = record {
    starts = λ c k there m is. timed.starts c k there m (sym (start_alike c) ∙ is);
    stops = λ c k there m is. timed.stops c k there m (sym (stop_alike c) ∙ is);
  }

pub TellsApart-names : TellsApart (pointwise nat_eq)
TellsApart-names = record { exact = λ a b e. same_text a b (sym e); itself = nat_list_eq_equiv.refl }

-- the ends of terms as the first lease has got its new end, and the second hasn't yet
pub mid_until : Option Lease → Ends → Ends → Term → Option ℕ
mid_until None e e2 t = until_of e t
mid_until (Some l) e e2 (OfEpoch cell epoch) =
    cond (nat_eq l.epoch epoch) (until_of e2 (OfEpoch cell epoch)) (until_of e (OfEpoch cell epoch))
mid_until (Some l) e e2 (OfDomain name) = until_of e (OfDomain name)

module _ (cell : List ℕ) (before after : Option Lease) (e e2 : Ends) (new : IsNewLease cell before after e e2) where
  cell_apart : (c : List ℕ) (x : ℕ) → cell ≢ c → until_of e2 (OfEpoch c x) ≡ until_of e (OfEpoch c x)
  cell_apart c x far = ap (λ l. Some (end_under l x)) (new.cells c far)

  domain_alike : (name : List ℕ) → until_of e2 (OfDomain name) ≡ until_of e (OfDomain name)
  domain_alike name = ap (λ d. unwrap_or d (Some 0)) (new.domains name)

  first_far : (l : Lease) (t : Term) → OfEpoch cell l.epoch ≢ t → mid_until (Some l) e e2 t ≡ until_of e t
  unfolding mid_until
  first_far l (OfDomain name) far = refl
  first_far l (OfEpoch c x) far =
      elim (nat_eq l.epoch x) as (λ (b : Bool). nat_eq l.epoch x ≡ b
      → cond b (until_of e2 (OfEpoch c x)) (until_of e (OfEpoch c x)) ≡ until_of e (OfEpoch c x)) [
        | true ↦ λ is. cell_apart c x (λ one. far (λ i. OfEpoch (one i) (eqb-true l.epoch x is i)))
        | false ↦ λ is. refl
      ] refl

  pub first_shift : (of : Option Lease) → IsShiftedEpoch cell of before after (until_of e) (mid_until of e e2)
  unfolding mid_until
  first_shift None = λ t. refl
  first_shift (Some l) = (
    first_far l,
    ap (λ b. cond b (until_of e2 (OfEpoch cell l.epoch)) (until_of e (OfEpoch cell l.epoch)))
        (TellsApart-numbers.itself l.epoch) ∙ ap (λ r. Some (end_under r l.epoch)) new.is,
  )

  -- a lease under an epoch that has no end now
  ended : (x : ℕ) → end_under after x ≡ 0 → until_of e2 (OfEpoch cell x) ≡ Some 0
  ended x none = ap (λ l. Some (end_under l x)) new.is ∙ ap Some none

  was_ended : (l : Lease) (x : ℕ) → before ≡ Some l → nat_eq l.epoch x ≡ false → until_of e (OfEpoch cell x) ≡ Some 0
  was_ended l x is other =
      ap (λ r. Some (end_under r x)) (new.was ∙ is) ∙ ap (λ b. Some (cond b l.until 0)) other

  second_of : (of : Option Lease) → before ≡ of → (t : Term)
      → ((x : ℕ) → OfEpoch cell x ≡ t → end_under after x ≡ 0) → until_of e2 t ≡ mid_until of e e2 t
  unfolding mid_until
  second_of None is (OfDomain name) none = domain_alike name
  second_of (Some l) is (OfDomain name) none = domain_alike name
  second_of None is (OfEpoch c x) none =
      elim (decide TellsApart-names cell c) as (λ _. until_of e2 (OfEpoch c x) ≡ until_of e (OfEpoch c x)) [
        | (inl one) ↦ ap (λ d. until_of e2 (OfEpoch d x)) (sym one) ∙ ended x (none x (λ i. OfEpoch (one i) x))
            ∙ sym (ap (λ r. Some (end_under r x)) (new.was ∙ is)) ∙ ap (λ d. until_of e (OfEpoch d x)) one
        | (inr far) ↦ cell_apart c x far
      ]
  second_of (Some l) is (OfEpoch c x) none =
      elim (nat_eq l.epoch x) as (λ (b : Bool). nat_eq l.epoch x ≡ b → until_of e2 (OfEpoch c x)
      ≡ cond b (until_of e2 (OfEpoch c x)) (until_of e (OfEpoch c x))) [
        | true ↦ λ there. refl
        | false ↦ λ other. elim (decide TellsApart-names cell c) as
            (λ _. until_of e2 (OfEpoch c x) ≡ until_of e (OfEpoch c x)) [
              | (inl one) ↦ ap (λ d. until_of e2 (OfEpoch d x)) (sym one) ∙ ended x (none x (λ i. OfEpoch (one i) x))
                  ∙ sym (was_ended l x is other) ∙ ap (λ d. until_of e (OfEpoch d x)) one
              | (inr far) ↦ cell_apart c x far
            ]
      ] refl

  pub second_shift : (of : Option Lease) → after ≡ of
      → IsShiftedEpoch cell of before after (mid_until before e e2) (until_of e2)
  second_shift None is = λ t. second_of before refl t (λ x at. ap (λ l. end_under l x) is)
  second_shift (Some r) is = (
    λ t far. second_of before refl t (λ x at. ap (λ l. end_under l x) is
        ∙ ap (λ b. cond b r.until 0) (apart TellsApart-numbers r.epoch x
        (λ one. far (λ i. (ap (λ y. OfEpoch cell y) one ∙ at) i)))),
    ap (λ l. Some (end_under l r.epoch)) new.is,
  )

-- the end of a domain alone
module _ (name : List ℕ) (after : Option (Option ℕ)) (e e2 : Ends) (new : IsNewEnd name after e e2) where
  pub domain_others : (t : Term) → OfDomain name ≢ t → until_of e2 t ≡ until_of e t
  domain_others (OfEpoch cell epoch) far = ap (λ l. Some (end_under l epoch)) (new.cells cell)
  domain_others (OfDomain other) far =
      ap (λ d. unwrap_or d (Some 0)) (new.domains other (λ one. far (ap OfDomain one)))

  pub domain_end : until_of e2 (OfDomain name) ≡ unwrap_or after (Some 0)
  domain_end = ap (λ d. unwrap_or d (Some 0)) new.is
