-- Members are told apart by their places as by their words.
use Rattle.std.proofs.Common.{◌≡◌, ◌==◌, ℕ, List, [], ◌∷◌, Bool, true, false, ◌||◌, None, Some, bytes_eq, refl, sym, ap, ◌∙◌, true≢false, subst, arith}
use Rattle.std.proofs.lemmas.Bool.{eqb-true}
use Rattle.std.proofs.lemmas.Slice.Eq.{bytes_eq-Decides}
use Rattle.std.specs.List.{list_any}
use Rattle.scenario_lines.specs.Forms.{allows, needs}
use Rattle.scenario_lines.specs.Members.{word}
use Rattle.scenario_lines.specs.Places.{member_named, place}
use Rattle.scenario_lines.specs.Shapes.{is_known, is_one_of}
use Rattle.scenario_lines.specs.declared.form.Form.{Form}
use Rattle.scenario_lines.specs.declared.member.Member.{Member}
use Rattle.scenario_lines.proofs.Kept.{by_test, named_by, none-some, place-apart, some-some, word-member_named, member_named-word}

itself : (n : ℕ) → (n == n) ≡ true
itself n = grind arith

apart : (n m : ℕ) → (n ≡ m → ⊥) → (n == m) ≡ false
apart n m differ = by_test (n == m) (λ same. absurd (differ (eqb-true n m same))) (λ other. other)

-- two members have one place where they have one word
one_place : (a b : Member) → (place a == place b) ≡ bytes_eq (word a) (word b)
one_place a b =
    by_test (bytes_eq (word a) (word b))
    (λ same.
    let one : a ≡ b = some-some a b (sym (named_by a (word b) same) ∙ member_named-word b) in
    subst (λ m. (place a == place m) ≡ true) one (itself (place a)) ∙ sym same)
    (λ other.
    apart (place a) (place b) (λ e. true≢false (sym ((bytes_eq-Decides (word a) (word b)).1
    (ap word (place-apart a b e))) ∙ other)) ∙ sym other)

-- a member is one of these, by its place or by its word
by_place_or_word : (ms : List Member) (m : Member) → list_any (λ one. place one == place m) ms ≡ is_one_of ms (word m)
by_place_or_word [] m = refl
by_place_or_word (one ∷ ms) m = rw (one_place one m, by_place_or_word ms m) refl

-- a name that is no member's is none of these
none_of : (ms : List Member) (name : List ℕ) → member_named name ≡ None → is_one_of ms name ≡ false
none_of [] name unnamed = refl
none_of (one ∷ ms) name unnamed =
    by_test (bytes_eq (word one) name)
    (λ same. none-some one (sym unnamed ∙ named_by one name same))
    (λ other. rw (other, none_of ms name unnamed) refl)

-- a member is known by its place
is_known-member : (f : Form) (name : List ℕ) (m : Member) → member_named name ≡ Some m
    → (list_any (λ one. place one == place m) (needs f) || list_any (λ one. place one == place m) (allows f))
    ≡ is_known f name
is_known-member f name m named =
    rw (by_place_or_word (needs f) m, by_place_or_word (allows f) m)
    (ap (is_known f) (sym (word-member_named name m named)))

holds_first : (a b : Bool) → a ≡ true → true ≡ (a || b)
holds_first true b holds = refl
holds_first false b holds = absurd (true≢false (sym holds))

holds_second : (a b : Bool) → a ≡ false → b ≡ (a || b)
holds_second true b fails = absurd (true≢false fails)
holds_second false b fails = refl

-- a member that the form needs is known
pub is_known-needed : (f : Form) (name : List ℕ) (m : Member) (needed : Bool) → member_named name ≡ Some m
    → needed ≡ list_any (λ one. place one == place m) (needs f) → needed ≡ true → needed ≡ is_known f name
is_known-needed f name m needed named is holds =
    holds ∙ holds_first _ (list_any (λ one. place one == place m) (allows f))
    (sym is ∙ holds) ∙ is_known-member f name m named

-- and another one where the form allows it
pub is_known-allowed : (f : Form) (name : List ℕ) (m : Member) (needed allowed : Bool) → member_named name ≡ Some m
    → needed ≡ list_any (λ one. place one == place m) (needs f) → needed ≡ false
    → allowed ≡ list_any (λ one. place one == place m) (allows f) → allowed ≡ is_known f name
is_known-allowed f name m needed allowed named is fails also =
    also ∙ holds_second _ (list_any (λ one. place one == place m) (allows f))
    (sym is ∙ fails) ∙ is_known-member f name m named

-- what is no member is unknown
pub is_known-unnamed : (f : Form) (name : List ℕ) → member_named name ≡ None → is_known f name ≡ false
is_known-unnamed f name unnamed = rw (none_of (needs f) name unnamed, none_of (allows f) name unnamed) refl
