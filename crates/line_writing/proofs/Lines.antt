-- What is written member by member is the object of these members, and a line with the tokens of a value is its text.
use Rattle.std.proofs.Common.{◌≡◌, ℕ, List, [], ◌∷◌, ◌++◌, Result, Ok, Err, refl, sym, ap, subst, ◌∙◌, append_assoc, append-nil}
use Rattle.std.specs.Result.{IfOk, OnOk}
use Rattle.json.specs.Print.{print}
use Rattle.json.specs.Token.{Token, begin_object, end_object, key}
use Rattle.json.specs.Tree.{json_tokens, members_tokens}
use Rattle.json.specs.Written.{Written}
use Rattle.serde_json.specs.Data.{Data, string, object, Members, no_members, member}
use Rattle.serde_json.specs.Written.{outline, members_outline}
use Rattle.serde_json.proofs.Texts.{print-outline}
use Rattle.line_writing.specs.Line.{line_text}
use Rattle.line_writing.specs.Writing.{AddsMember, AddsTokens, AddsValue}

-- one member more, behind the others
abbrev pub and_member : Members → List ℕ → Data → Members
and_member no_members k d = member k d no_members
and_member (member l e ms) k d = member l e (and_member ms k d)

-- the tokens of members, without those of the end
abbrev pub open_members : Members → List Token
open_members no_members = []
open_members (member k d ms) = key k ∷ (json_tokens (outline d) ++ open_members ms)

open_more : (ms : Members) (k : List ℕ) (d : Data) → open_members ms ++ key k ∷ json_tokens (outline d)
    ≡ open_members (and_member ms k d)
open_more no_members k d = ap (λ ts. key k ∷ ts) (sym (append-nil (json_tokens (outline d))))
open_more (member l e ms) k d =
    ap (λ ts. key l ∷ ts)
    (append_assoc (json_tokens (outline e)) (open_members ms) (key k ∷ json_tokens (outline d))
    ∙ ap (λ ts. json_tokens (outline e) ++ ts) (open_more ms k d))

open_closed : (ms : Members) → open_members ms ++ end_object ∷ [] ≡ members_tokens (members_outline ms)
open_closed no_members = refl
open_closed (member k d ms) =
    ap (λ ts. key k ∷ ts)
    (append_assoc (json_tokens (outline d)) (open_members ms) (end_object ∷ [])
    ∙ ap (λ ts. json_tokens (outline d) ++ ts) (open_closed ms))

-- an object of which these members are written
pub record IsOpen (old new : Written) (ms : Members) : Type 0 where
  pub before : new.before ≡ old.before
  pub tokens : new.tokens ≡ old.tokens ++ begin_object ∷ open_members ms

pub opened : {old new : Written} → AddsTokens old new (begin_object ∷ []) → IsOpen old new no_members
opened e = record { before = e.before; tokens = e.tokens }

pub more : {old mid new : Written} {ms : Members} {k : List ℕ} {d : Data} → IsOpen old mid ms → AddsMember mid new k d
    → IsOpen old new (and_member ms k d)
more {old} {mid} {new} {ms} {k} {d} so_far e = record {
  before = e.before ∙ so_far.before;
  tokens = e.tokens
      ∙ ap (λ ts. ts ++ key k ∷ json_tokens (outline d)) so_far.tokens
      ∙ append_assoc old.tokens (begin_object ∷ open_members ms) (key k ∷ json_tokens (outline d))
      ∙ ap (λ ts. old.tokens ++ begin_object ∷ ts) (open_more ms k d);
}

-- the same, where the value was made by a call
pub more_as : {old mid new : Written} {ms : Members} {k : List ℕ} {d e : Data} → e ≡ d → IsOpen old mid ms
    → AddsMember mid new k e → IsOpen old new (and_member ms k d)
more_as {old} {mid} {new} {ms} {k} {d} {e} same so_far added =
    more so_far (subst (λ it. AddsMember mid new k it) same added)

pub more_text : {old mid new : Written} {ms : Members} {k s t : List ℕ} → t ≡ s → IsOpen old mid ms
    → AddsMember mid new k (string t) → IsOpen old new (and_member ms k (string s))
more_text same = more_as (ap (λ t. string t) same)

closed_value : {old mid new : Written} {ms : Members} → IsOpen old mid ms → AddsTokens mid new (end_object ∷ [])
    → AddsValue old new (object ms)
closed_value {old} {mid} {new} {ms} so_far e = record {
  before = e.before ∙ so_far.before;
  tokens = e.tokens
      ∙ ap (λ ts. ts ++ end_object ∷ []) so_far.tokens
      ∙ append_assoc old.tokens (begin_object ∷ open_members ms) (end_object ∷ [])
      ∙ ap (λ ts. old.tokens ++ begin_object ∷ ts) (open_closed ms);
}

-- what holds where something is there
pub on_ok : {X E : Type 0} (A B : Type 0) (r : Result X E) → (A → B) → OnOk r A → OnOk r B
on_ok A B (Ok x) f h = f h
on_ok A B (Err e) f h = tt

-- the object, whose end was written or wanted memory
pub closed : {E : Type 0} {old mid : Written} {ms : Members} (new : Written) (r : Result (Unit {0}) E)
    → IsOpen old mid ms → OnOk r (AddsTokens mid new (end_object ∷ [])) → OnOk r (AddsValue old new (object ms))
closed {E} {old} {mid} {ms} new r so_far = on_ok (AddsTokens mid new (end_object ∷ []))
    (AddsValue old new (object ms)) r (closed_value so_far)

-- a key, and its value
keyed_value : {old mid new : Written} {k : List ℕ} {d : Data} → AddsTokens old mid (key k ∷ []) → AddsValue mid new d
    → AddsMember old new k d
keyed_value {old} {mid} {new} {k} {d} named e = record {
  before = e.before ∙ named.before;
  tokens = e.tokens
      ∙ ap (λ ts. ts ++ json_tokens (outline d)) named.tokens
      ∙ append_assoc old.tokens (key k ∷ []) (json_tokens (outline d));
}

pub keyed : {E : Type 0} {old mid : Written} {k : List ℕ} (new : Written) (d : Data) (r : Result (Unit {0}) E)
    → AddsTokens old mid (key k ∷ []) → OnOk r (AddsValue mid new d) → OnOk r (AddsMember old new k d)
keyed {E} {old} {mid} {k} new d r named = on_ok (AddsValue mid new d) (AddsMember old new k d) r (keyed_value named)

-- a line to which a value was written, and nothing else
pub line_written : {d : Data} {old new : Written} (text : List ℕ) → (old.before ≡ []) × (old.tokens ≡ [])
    → AddsValue old new d → text ≡ (new.before ++ print new.tokens) ++ 10 ∷ [] → text ≡ line_text d
line_written {d} {old} {new} text blank added is =
    is
    ∙ (λ i. (added.before i ++ print (added.tokens i)) ++ 10 ∷ [])
    ∙ (λ i. (blank.0 i ++ print (blank.1 i ++ json_tokens (outline d))) ++ 10 ∷ [])
    ∙ ap (λ t. t ++ 10 ∷ []) (print-outline d)

pub if_ok : {X E : Type 0} (P Q : X → Type 0) (r : Result X E) → ((x : X) → P x → Q x) → IfOk r P → IfOk r Q
if_ok P Q (Ok x) f h = f x h
if_ok P Q (Err e) f h = tt
