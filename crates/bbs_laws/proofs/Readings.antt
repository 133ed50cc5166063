-- What a log tells, item by item, and what is heard of it.
use Rattle.std.proofs.Common.{◌≡◌, ℕ, ◌+◌, List, [], ◌∷◌, ◌++◌, length, take, drop, refl, sym, ap, ◌∙◌, arith, ◌-◌, Option, Result, Ok, Err}
use Rattle.std.specs.Prelude.{min, IfOk}
use Rattle.std.proofs.lemmas.Grind.{flat_map-append}
use Rattle.std.proofs.lemmas.List.{take-append-drop, take-take, drop-take, drop-drop, take-append-le, drop-append-le, length-drop}
use Rattle.std.specs.List.{flat_map}
use Rattle.bbs_laws.specs.Hearing.{HearsOn, HearsTheSame}
use Rattle.bbs_model.specs.Replay.{after_item, replay_log}
use Rattle.bbs_model.specs.Told.{told_by, told_in, each_event, IsHeard}
use Rattle.bbs_model.specs.declared.event.Events.{Events}
use Rattle.bbs_model.specs.declared.heard.Heard.{Heard}
use Rattle.diego_names.specs.declared.memory.OutOfMemory.{OutOfMemory}
use Rattle.bbs_model.specs.declared.item.Item.{Item}
use Rattle.bbs_model.specs.declared.rows.Rows.{Rows}

pub length-told_in : (base : Rows) (log : List Item) → length (told_in base log) ≡ length log
length-told_in base [] = refl
length-told_in base (i ∷ is) = let rest = length-told_in (after_item base i) is in omega (arith, rest)

pub told_in-append : (base : Rows) (xs ys : List Item)
    → told_in base (xs ++ ys) ≡ told_in base xs ++ told_in (replay_log base xs) ys
told_in-append base [] ys = refl
told_in-append base (x ∷ xs) ys = ap (λ ts. told_by base x ∷ ts) (told_in-append (after_item base x) xs ys)

-- an item more
pub told_in-one_more : (base : Rows) (log : List Item) (i : Item)
    → told_in base (log ++ i ∷ []) ≡ told_in base log ++ told_by (replay_log base log) i ∷ []
told_in-one_more base log i = told_in-append base log (i ∷ [])

-- the first ones and those after them are the first ones of both numbers
taken : {X : Type 0} (n m : ℕ) (xs : List X) → take n xs ++ take m (drop n xs) ≡ take (n + m) xs
taken n m xs =
    ap (λ ys. ys ++ take m (drop n xs)) (sym (take-take n (n + m) xs (omega arith)))
    ∙ ap (λ ys. take n (take (n + m) xs) ++ ys) (sym (drop-take n m xs))
    ∙ take-append-drop n (take (n + m) xs)

pub hears_on : (base : Rows) (log : List Item) (from n m : ℕ) → HearsOn base log from n m
hears_on base log from n m =
    let told = told_in base log in
    ap (λ ts. flat_map each_event (take n (drop from told)) ++ flat_map each_event (take m ts))
    (sym (drop-drop n from told))
    ∙ sym (flat_map-append each_event (take n (drop from told)) (take m (drop n (drop from told))))
    ∙ ap (flat_map each_event) (taken n m (drop from told))

pub hears_the_same : (base : Rows) (log more : List Item) (from n : ℕ) → HearsTheSame base log more from n
hears_the_same base log more from n within =
    let told = told_in base log in
    let after = told_in (replay_log base log) more in
    let count = length-told_in base log in
    ap (λ ts. flat_map each_event (take n (drop from ts))) (told_in-append base log more)
    ∙ ap (λ ts. flat_map each_event (take n ts)) (drop-append-le from told after (omega (arith, count, within)))
    ∙ ap (flat_map each_event) (take-append-le n (drop from told) after
    (omega (arith, count, within, length-drop from told)))

-- what is heard where it is kept what each item told
pub heard_of_told : (base : Rows) (log : List Item) (told : List (Option Events)) (from max : ℕ)
    (r : Result Heard OutOfMemory) → told ≡ told_in base log
    → IfOk r (λ (h : Heard). h.events ≡ flat_map each_event (take max (drop from told)))
    → IfOk r (λ (h : Heard). h.upto ≡ from + min max (length told - from))
    → IfOk r (IsHeard base log from max)
heard_of_told base log told from max (Ok h) is events upto = record {
  events = events ∙ ap (λ (ts : List (Option Events)). flat_map each_event (take max (drop from ts))) is;
  upto = upto ∙ ap (λ n. from + min max (n - from)) (ap length is ∙ length-told_in base log);
}
heard_of_told base log told from max (Err want) is events upto = tt
