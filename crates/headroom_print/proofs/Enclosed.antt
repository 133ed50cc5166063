-- What stands between the brackets of a list or an object is what was written of it one by one.
use Rattle.std.proofs.Common.{◌≡◌, ℕ, Bool, true, false, not, cond, ◌==◌, filter, List, [], ◌∷◌, ◌++◌, map, Result, refl, ap, ◌∙◌, append_assoc}
use Rattle.std.specs.List.{flat_map}
use Rattle.std.specs.Result.{OnOk}
use Rattle.json.specs.Token.{Token, begin_array, begin_object, end_array, end_object}
use Rattle.json.specs.Tree.{items_tokens, members_tokens}
use Rattle.json.specs.Written.{Written}
use Rattle.serde_json.specs.Data.{Data, array, object}
use Rattle.serde_json.specs.View.{items_of}
use Rattle.serde_json.specs.Written.{items_outline, members_outline}
use Rattle.line_writing.specs.Writing.{AddsTokens, AddsValue}
use Rattle.line_writing.proofs.Public.{on_ok}
use Rattle.headroom_print.specs.declared.words.LackCount.{LackCount}
use Rattle.headroom_print.specs.Members.{item_tokens, lack_tokens, member_tokens}
use Rattle.headroom_print.specs.Values.{Named, count_named, members_of}
use Rattle.headroom_print.specs.Words.{counts_of, is_some_count}
use Rattle.line_writing.specs.Spelled.{whole}

-- the tokens of the items, with the bracket behind them
items_closed : (ds : List Data)
    → flat_map item_tokens ds ++ end_array ∷ [] ≡ items_tokens (items_outline (items_of ds))
items_closed [] = refl
items_closed (d ∷ ds) =
    append_assoc (item_tokens d) (flat_map item_tokens ds) (end_array ∷ [])
    ∙ ap (λ ts. item_tokens d ++ ts) (items_closed ds)

members_closed : (ms : List Named)
    → flat_map member_tokens ms ++ end_object ∷ [] ≡ members_tokens (members_outline (members_of ms))
members_closed [] = refl
members_closed (m ∷ ms) =
    append_assoc (member_tokens m) (flat_map member_tokens ms) (end_object ∷ [])
    ∙ ap (λ ts. member_tokens m ++ ts) (members_closed ms)

-- a bracket, what stands behind it, and the other bracket
enclosed : {old first second new : Written} {left right : Token} {body all : List Token}
    → body ++ right ∷ [] ≡ all → AddsTokens old first (left ∷ []) → AddsTokens first second body
    → AddsTokens second new (right ∷ []) → AddsTokens old new (left ∷ all)
enclosed {old} {first} {second} {new} {left} {right} {body} {all} closes begun added ended = record {
  before = ended.before ∙ added.before ∙ begun.before;
  tokens = ended.tokens
      ∙ ap (λ ts. ts ++ right ∷ []) (added.tokens ∙ ap (λ ts. ts ++ body) begun.tokens)
      ∙ append_assoc (old.tokens ++ left ∷ []) body (right ∷ [])
      ∙ append_assoc old.tokens (left ∷ []) (body ++ right ∷ [])
      ∙ ap (λ ts. old.tokens ++ left ∷ ts) closes;
}

array_of : {old first second new : Written} (ds : List Data)
    → AddsTokens old first (begin_array ∷ []) → AddsTokens first second (flat_map item_tokens ds)
    → AddsTokens second new (end_array ∷ []) → AddsValue old new (array (items_of ds))
array_of ds begun added ended =
    let e = enclosed (items_closed ds) begun added ended in record { before = e.before; tokens = e.tokens }

object_of : {old first second new : Written} (ms : List Named)
    → AddsTokens old first (begin_object ∷ []) → AddsTokens first second (flat_map member_tokens ms)
    → AddsTokens second new (end_object ∷ []) → AddsValue old new (object (members_of ms))
object_of ms begun added ended =
    let e = enclosed (members_closed ms) begun added ended in record { before = e.before; tokens = e.tokens }

-- the items of a list, whose end was written or wanted memory
pub listed : {E : Type 0} {old first second : Written} (new : Written) (ds : List Data) (r : Result (Unit {0}) E)
    → AddsTokens old first (begin_array ∷ []) → AddsTokens first second (flat_map item_tokens ds)
    → OnOk r (AddsTokens second new (end_array ∷ []))
    → OnOk r (AddsValue old new (array (items_of ds)))
listed {E} {old} {first} {second} new ds r begun added =
    on_ok (AddsTokens second new (end_array ∷ [])) (AddsValue old new (array (items_of ds))) r (array_of ds begun added)

-- the members of an object, whose end was written or wanted memory
pub built : {E : Type 0} {old first second : Written} (new : Written) (ms : List Named) (r : Result (Unit {0}) E)
    → AddsTokens old first (begin_object ∷ []) → AddsTokens first second (flat_map member_tokens ms)
    → OnOk r (AddsTokens second new (end_object ∷ []))
    → OnOk r (AddsValue old new (object (members_of ms)))
built {E} {old} {first} {second} new ms r begun added =
    on_ok (AddsTokens second new (end_object ∷ [])) (AddsValue old new (object (members_of ms))) r
    (object_of ms begun added)

-- a count, told where it isn't 0
lack_told : (b : Bool) (name : List ℕ) (n : ℕ) (rest : List (List ℕ × ℕ))
    → cond b [] (member_tokens (name, whole n)) ++ flat_map member_tokens (map count_named rest)
    ≡ flat_map member_tokens (map count_named (cond (not b) ((name, n) ∷ rest) rest))
lack_told true name n rest = refl
lack_told false name n rest = refl

-- the counts that aren't 0
pub lacks_told : (ls : List LackCount)
    → flat_map lack_tokens ls ≡ flat_map member_tokens (map count_named (filter is_some_count (counts_of ls)))
lacks_told [] = refl
lacks_told (l ∷ ls) =
    ap (λ ts. lack_tokens l ++ ts) (lacks_told ls)
    ∙ lack_told (l.1 == 0) l.0.now l.1 (filter is_some_count (counts_of ls))
