-- What is renewed by one event after another is renewed by both.
use Rattle.std.proofs.Common.{◌≡◌, ◌⊎◌, [], ◌∷◌, inl, inr, sym, ◌∙◌}
use Rattle.diego_names.specs.declared.key.Key.{Key}
use Rattle.lrp_records.specs.declared.presence.Presence.{Presence}
use Rattle.bbs_model.specs.declared.event.Row.{Row}
use Rattle.bbs_model.specs.declared.rows.Rows.{Rows}
use Rattle.differences.specs.Noted.{Keeping, causes_at, is_counted}
use Rattle.differences.specs.Renewal.{IsBlank, IsRenewed, Renews}

-- something that is renewed twice: what is apart both times is apart
pub renewed_twice : {A P Q R : Type 0} (fresh a b c : A) → IsRenewed fresh a b P → IsRenewed fresh b c Q
    → (b ≡ a → P → Q → R) → IsRenewed fresh a c R
renewed_twice fresh a b c f (inl e) join = inl e
renewed_twice fresh a b c (inl d) (inr (e, q)) join = inl (e ∙ d)
renewed_twice fresh a b c (inr (d, p)) (inr (e, q)) join = inr (e ∙ d, join d p q)

module _ (rows : Rows) (r s : Row) (a b c : Keeping) (f : Renews rows (r ∷ []) a b) (g : Renews rows (s ∷ []) b c) where
  wanted_twice : (p : Key × Presence) → causes_at b.places p ≡ causes_at a.places p
      → (is_counted b.wanted p.0 ≡ is_counted a.wanted p.0) ⊎ IsBlank a.places p
      → (is_counted c.wanted p.0 ≡ is_counted b.wanted p.0) ⊎ IsBlank b.places p
      → (is_counted c.wanted p.0 ≡ is_counted a.wanted p.0) ⊎ IsBlank a.places p
  wanted_twice p same (inl d) (inl e) = inl (e ∙ d)
  wanted_twice p same (inr blank) e = inr blank
  wanted_twice p same (inl d) (inr blank) = inr (record { aside = blank.aside; none = sym same ∙ blank.none })

  pub renews_twice : Renews rows (r ∷ s ∷ []) a c
  renews_twice = record {
    places = λ p. renewed_twice _ _ _ _ (f.places p) (g.places p)
        (λ same x y. record { apart = (x.apart.0, y.apart); wanted = wanted_twice p same x.wanted y.wanted });
    tasks = λ q. renewed_twice _ _ _ _ (f.tasks q) (g.tasks q) (λ same x y. (x.0, y));
    wanted = λ q. renewed_twice _ _ _ _ (f.wanted q) (g.wanted q) (λ same x y. (x.0, y));
    cells = λ q. renewed_twice _ _ _ _ (f.cells q) (g.cells q) (λ same x y. (x.0, y));
    domains = λ q. renewed_twice _ _ _ _ (f.domains q) (g.domains q) (λ same x y. (x.0, y));
  }
