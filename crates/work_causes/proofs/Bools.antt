-- What choices of commands come to, test by test.
use Rattle.std.proofs.Common.{◌≡◌, Bool, true, false, cond, not, ◌&&◌, ◌||◌, Option, Some, None, is_some, refl}

pub not_not : (b : Bool) → not (not b) ≡ b
not_not true = refl
not_not false = refl

pub or_false : (b : Bool) → (b || false) ≡ b
or_false true = refl
or_false false = refl

pub and_true : (b : Bool) → (b && true) ≡ b
and_true true = refl
and_true false = refl

pub and_false : (b : Bool) → (b && false) ≡ false
and_false true = refl
and_false false = refl

pub some_if : {A : Type 0} (b : Bool) (x : A) → is_some (cond b (Some x) None) ≡ b
some_if true x = refl
some_if false x = refl

module _ {A : Type 0} where
  -- a row that no container has, and that isn't tried again
  pub kept_bare : (w g : Bool) (x : A) (y : Option A) → is_some
      (cond (not w && g) (Some x) (cond false y (cond w None None))) ≡ ((not w && g) || (false || false))
  kept_bare true g x y = refl
  kept_bare false true x y = refl
  kept_bare false false x y = refl

  -- a row of a container, which is lost where its cell isn't there
  pub kept_held : (w g t : Bool) (x y : A) → is_some (cond (not w && g) (Some x)
      (cond (not t) (Some y) (cond w None None))) ≡ ((not w && g) || (not t || false))
  kept_held true g true x y = refl
  kept_held true g false x y = refl
  kept_held false true t x y = refl
  kept_held false false true x y = refl
  kept_held false false false x y = refl

  -- a row that crashed, and is tried again where it is wanted and due
  pub kept_crashed : (w g d : Bool) (x z : A) (y : Option A)
      → is_some (cond (not w && g) (Some x) (cond false y (cond w (cond d (Some z) None) None)))
      ≡ ((not w && g) || (false || (w && d)))
  kept_crashed true g true x z y = refl
  kept_crashed true g false x z y = refl
  kept_crashed false true d x z y = refl
  kept_crashed false false d x z y = refl
