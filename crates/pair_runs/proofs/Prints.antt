-- One text printed behind another.
use Rattle.std.proofs.Common.{◌≡◌, ℕ, Bool, true, List, [], ◌++◌, Option, Some, None, refl, sym, ap, subst, ◌∙◌, arith, append_assoc}
use Rattle.std.specs.Prelude.{not}
use Rattle.std.specs.Io.KnownBytes.{Appends}
use Rattle.std.proofs.lemmas.List.{append-nil}
use Rattle.byte_ports.specs.Cause.{HasCause}
use Rattle.program_ends.specs.Ports.{PrintsTo}

appends_none : (held : Option (List ℕ)) → Appends held held []
appends_none None = tt
appends_none (Some xs) = sym (append-nil xs)

appends_then : (held mid held' : Option (List ℕ)) (xs ys : List ℕ) → Appends held mid xs → Appends mid held' ys
    → Appends held held' (xs ++ ys)
appends_then None mid held' xs ys first second = tt
appends_then (Some a) None held' xs ys first second = absurd first
appends_then (Some a) (Some b) None xs ys first second = absurd second
appends_then (Some a) (Some b) (Some c) xs ys first second =
    second ∙ ap (λ (zs : List ℕ). zs ++ ys) first ∙ append_assoc a xs ys

-- nothing is printed
pub prints_none : (held : Option (List ℕ)) (faults : ℕ) → PrintsTo true [] held held faults faults
prints_none held faults = record {
  cause = record { later = omega arith; stood = λ still. refl; rose = λ failed. absurd (cc (failed)) };
  front = ([], [], refl, appends_none held);
  all = λ whole. appends_none held;
}

-- a text is printed whole, and then another, whole or in part
pub prints_then : (whole : Bool) (first second : List ℕ) (held mid held' : Option (List ℕ)) (faults more faults' : ℕ)
    → PrintsTo true first held mid faults more → PrintsTo whole second mid held' more faults'
    → PrintsTo whole (first ++ second) held held' faults faults'
prints_then whole first second held mid held' faults more faults' one two = record {
  cause = subst (λ (n : ℕ). HasCause (not whole) n faults') (one.cause.stood refl) two.cause;
  front = (
    first ++ two.front.0,
    two.front.1,
    ap (λ (xs : List ℕ). first ++ xs) two.front.2 ∙ sym (append_assoc first two.front.0 two.front.1),
    appends_then held mid held' first two.front.0 (one.all refl) two.front.3,
  );
  all = λ is. appends_then held mid held' first second (one.all refl) (two.all is);
}

-- the same, where nothing more was printed
pub prints_as : (whole : Bool) (text : List ℕ) (held mid held' : Option (List ℕ)) (faults more faults' : ℕ)
    → PrintsTo whole text held mid faults more → held' ≡ mid → faults' ≡ more
    → PrintsTo whole text held held' faults faults'
prints_as whole text held mid held' faults more faults' prints same_held same_faults =
    subst (λ (h : Option (List ℕ)). PrintsTo whole text held h faults faults') (sym same_held)
    (subst (λ (n : ℕ). PrintsTo whole text held mid faults n) (sym same_faults) prints)
