-- Causes stay noted under their moments as keys get and lose them.
use Rattle.std.proofs.Common.{◌≡◌, ◌≢◌, ◌⊎◌, ℕ, ◌<◌, ◌&&◌, ◌||◌, not, Bool, true, false, Option, inl, inr, refl, ap, sym, subst, ◌∙◌, arith}
use Rattle.std.specs.Prelude.{nat_eq}
use Rattle.watch_lists.proofs.Apart.{TellsApart, decide}
use Rattle.watch_lists.specs.Groups.{Grouped, is_in, is_pair, len_of, IsListed}
use Rattle.watch_lists.specs.Watching.{Watching, IsNoted, IsNotedAt, IsTimed, LosesOnly}

-- one of two tests passes
either : (a b : Bool) → (a || b) ≡ true → (a ≡ true) ⊎ (b ≡ true)
either true b e = inl refl
either false b e = inr e

both : (a b : Bool) → (a && b) ≡ true → (a ≡ true) × (b ≡ true)
both true b e = (refl, e)
both false b e = absurd cc

module _ {C K : Type 0} {eq : C → C → Bool} (t : TellsApart eq) (same : K → K → Bool) where
  -- a key has got a cause, which is noted
  enter_noted : (keys new : Grouped C K) (items now : Grouped ℕ C) (cause : C) (key : K) (when : Option ℕ) (f : C → Option ℕ)
      → ((c : C) (k : K) → is_in eq same new c k ≡ (is_pair eq same (cause, key) (c, k) || is_in eq same keys c k))
      → IsNotedAt eq when cause items now → f cause ≡ when
      → ((c : C) (k : K) → is_in eq same keys c k ≡ true → IsNoted eq items c (f c))
      → (c : C) (k : K) → is_in eq same new c k ≡ true → IsNoted eq now c (f c)
  enter_noted keys new items now cause key when f enters noted tells old c k there m is =
      elim (either (is_pair eq same (cause, key) (c, k)) (is_in eq same keys c k) (sym (enters c k) ∙ there)) as
      (λ _. is_in nat_eq eq now m c ≡ true) [
        | (inl one) ↦
            let here : cause ≡ c = t.exact cause c (both (eq cause c) (same key k) one).0 in
            subst (λ d. is_in nat_eq eq now m d ≡ true) here
            (noted.here m (sym tells ∙ ap f here ∙ is))
        | (inr was) ↦ noted.others m c (old c k was m is)
      ]

  pub timed_enter : (old new : Watching C K) (cause : C) (key : K) (start stop : Option ℕ)
      → ((c : C) (k : K) → is_in eq same new.keys c k
      ≡ (is_pair eq same (cause, key) (c, k) || is_in eq same old.keys c k))
      → IsNotedAt eq start cause old.starts new.starts → IsNotedAt eq stop cause old.stops new.stops
      → (f g : C → Option ℕ) → f cause ≡ start → g cause ≡ stop → IsTimed eq same f g old → IsTimed eq same f g new
  timed_enter old new cause key start stop enters starts stops f g first last timed = record {
    starts = enter_noted old.keys new.keys old.starts new.starts cause key start f enters starts first timed.starts;
    stops = enter_noted old.keys new.keys old.stops new.stops cause key stop g enters stops last timed.stops;
  }

  -- a key has lost a cause that others still have
  pub timed_leave : (old new : Watching C K) (cause : C) (key : K)
      → ((c : C) (k : K) → is_in eq same new.keys c k
      ≡ (not (is_pair eq same (cause, key) (c, k)) && is_in eq same old.keys c k))
      → LosesOnly eq cause old.starts new.starts → LosesOnly eq cause old.stops new.stops
      → ((k : K) → is_in eq same new.keys cause k ≡ true → ⊥)
      → (f g : C → Option ℕ) → IsTimed eq same f g old → IsTimed eq same f g new
  timed_leave old new cause key leaves starts stops none f g timed =
      let was : (c : C) (k : K) → is_in eq same new.keys c k ≡ true → is_in eq same old.keys c k ≡ true =
      λ c k there. (both (not (is_pair eq same (cause, key) (c, k))) (is_in eq same old.keys c k)
      (sym (leaves c k) ∙ there)).1 in
      let other : (c : C) (k : K) → is_in eq same new.keys c k ≡ true → cause ≢ c =
      λ c k there is. none k (subst (λ d. is_in eq same new.keys d k ≡ true) (sym is) there) in
      record {
        starts = λ c k there m is. starts m c (other c k there) (timed.starts c k (was c k there) m is);
        stops = λ c k there m is. stops m c (other c k there) (timed.stops c k (was c k there) m is);
      }

  -- a key has lost a cause, and nothing else has changed
  pub timed_less : (old new : Watching C K) (cause : C) (key : K)
      → ((c : C) (k : K) → is_in eq same new.keys c k
      ≡ (not (is_pair eq same (cause, key) (c, k)) && is_in eq same old.keys c k))
      → new.starts ≡ old.starts → new.stops ≡ old.stops
      → (f g : C → Option ℕ) → IsTimed eq same f g old → IsTimed eq same f g new
  timed_less old new cause key leaves starts stops f g timed =
      let was : (c : C) (k : K) → is_in eq same new.keys c k ≡ true → is_in eq same old.keys c k ≡ true =
      λ c k there. (both (not (is_pair eq same (cause, key) (c, k))) (is_in eq same old.keys c k)
      (sym (leaves c k) ∙ there)).1 in
      record {
        starts = λ c k there. subst (λ (s : Grouped ℕ C). IsNoted eq s c (f c)) (sym starts)
            (timed.starts c k (was c k there));
        stops = λ c k there. subst (λ (s : Grouped ℕ C). IsNoted eq s c (g c)) (sym stops)
            (timed.stops c k (was c k there));
      }

  -- no key is in a group without items
  pub none_listed : (keys : Grouped C K) (c : C) → IsListed eq same keys c → len_of eq keys c ≡ 0 → (k : K)
      → is_in eq same keys c k ≡ true → ⊥
  none_listed keys c listed none k there =
      let n = listed k there in
      let lt : n.0 < 0 = subst (λ m. n.0 < m) none n.1 in
      absurd (omega (arith, lt))

  retimed : (keys new : Grouped C K) (items less now : Grouped ℕ C) (cause : C) (when : Option ℕ) (f f2 : C → Option ℕ)
      → ((c : C) (k : K) → is_in eq same new c k ≡ is_in eq same keys c k)
      → LosesOnly eq cause items less → IsNotedAt eq when cause less now
      → ((d : C) → cause ≢ d → f2 d ≡ f d) → f2 cause ≡ when
      → ((c : C) (k : K) → is_in eq same keys c k ≡ true → IsNoted eq items c (f c))
      → (c : C) (k : K) → is_in eq same new c k ≡ true → IsNoted eq now c (f2 c)
  retimed keys new items less now cause when f f2 alike loses noted others tells old c k there m is =
      elim (decide t cause c) as (λ _. is_in nat_eq eq now m c ≡ true) [
        | (inl here) ↦ subst (λ d. is_in nat_eq eq now m d ≡ true) here (noted.here m (sym tells ∙ ap f2 here ∙ is))
        | (inr apart) ↦ noted.others m c (loses m c apart
            (old c k (sym (alike c k) ∙ there) m (sym (others c apart) ∙ is)))
      ]

  -- a cause is noted under other moments
  pub timed_retime : (old new : Watching C K) (starts stops : Grouped ℕ C) (cause : C) (start stop : Option ℕ)
      → ((c : C) (k : K) → is_in eq same new.keys c k ≡ is_in eq same old.keys c k)
      → LosesOnly eq cause old.starts starts → LosesOnly eq cause old.stops stops
      → IsNotedAt eq start cause starts new.starts → IsNotedAt eq stop cause stops new.stops
      → (f g f2 g2 : C → Option ℕ) → ((d : C) → cause ≢ d → f2 d ≡ f d) → ((d : C) → cause ≢ d → g2 d ≡ g d)
      → f2 cause ≡ start → g2 cause ≡ stop → IsTimed eq same f g old → IsTimed eq same f2 g2 new
  timed_retime old new starts stops cause start stop alike loses loses2 noted noted2 f g f2 g2 others others2 first last
      timed = record {
        starts = retimed old.keys new.keys old.starts starts new.starts cause start f f2 alike loses noted others first
            timed.starts;
        stops = retimed old.keys new.keys old.stops stops new.stops cause stop g g2 alike loses2 noted2 others2 last
            timed.stops;
      }

  -- a cause that no key has may hold at any times
  pub timed_unheld : (old : Watching C K) (cause : C) → ((k : K) → is_in eq same old.keys cause k ≡ true → ⊥)
      → (f g f2 g2 : C → Option ℕ) → ((d : C) → cause ≢ d → f2 d ≡ f d) → ((d : C) → cause ≢ d → g2 d ≡ g d)
      → IsTimed eq same f g old → IsTimed eq same f2 g2 old
  timed_unheld old cause none f g f2 g2 others others2 timed =
      let other : (c : C) (k : K) → is_in eq same old.keys c k ≡ true → cause ≢ c =
      λ c k there is. none k (subst (λ d. is_in eq same old.keys d k ≡ true) (sym is) there) in
      record {
        starts = λ c k there m is. timed.starts c k there m (sym (others c (other c k there)) ∙ is);
        stops = λ c k there m is. timed.stops c k there m (sym (others2 c (other c k there)) ∙ is);
      }
