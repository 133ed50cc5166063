-- What is kept of an object's members, one after another.
use Rattle.std.proofs.Common.{◌≡◌, ℕ, List, [], ◌∷◌, length, Bool, true, false, if◌then◌else◌, codes, Option, Some, None, option_map, String, Global, Ordering, Less, Equal, Greater, string_bytes, nat_cmp, is_eq, nat_eq, bytes_eq, true≢false, Bor, refl, sym, ap, ◌∙◌, zero, suc, subst, unwrap_or, is_some, cond, slice_index_or}
use Rattle.std.proofs.lemmas.Map.Text.{is_eq-slice_cmp}
use Rattle.std.proofs.lemmas.Slice.Eq.{bytes_eq-Decides}
use Rattle.std.specs.Cmp.Lexicographic.{slice_cmp}
use Rattle.std.specs.List.{slice_get, slice_set}
use Rattle.serde_json.specs.View.{view}
use Rattle.serde_json.specs.declared.value.Value.{Value}
use Rattle.scenario_lines.specs.Members.{word}
use Rattle.scenario_lines.specs.Places.{member_named, place, value_named}
use Rattle.scenario_lines.specs.declared.member.Member.{Member}
use Rattle.scenario_lines.specs.declared.member.Member.TheVariants as member

abbrev pub Entry : Type 0
Entry = String Global × Value

abbrev pub Kept : Type 0
Kept = List (Option (Bor Value))

-- a member is the one that its word names
pub member_named-word : (m : Member) → member_named (word m) ≡ Some m
member_named-word member.At = refl
member_named-word member.Client = refl
member_named-word member.Cell = refl
member_named-word member.Op = refl
member_named-word member.Lost = refl
member_named-word member.Times = refl
member_named-word member.Process = refl
member_named-word member.Domain = refl
member_named-word member.Instances = refl
member_named-word member.Memory = refl
member_named-word member.Disk = refl
member_named-word member.Tag = refl
member_named-word member.Route = refl
member_named-word member.Port = refl
member_named-word member.Index = refl
member_named-word member.Name = refl
member_named-word member.Zone = refl
member_named-word member.Containers = refl
member_named-word member.Ttl = refl
member_named-word member.Failed = refl
member_named-word member.LoseAsk = refl
member_named-word member.LoseStop = refl
member_named-word member.LoseStart = refl
member_named-word member.LoseReply = refl

-- what stands at a member's place
abbrev pub kept_at : Kept → Member → Option (Option Value)
kept_at said m = option_map (option_map (λ v. v.now)) (slice_get said (place m))

-- what is kept at a place, or else what is yet to come
abbrev pub or_later : Option (Option Value) → Option Value → Option (Option Value)
or_later None later = None
or_later (Some None) later = Some later
or_later (Some (Some d)) later = Some (Some d)

or_later-none : (o : Option (Option Value)) → or_later o None ≡ o
or_later-none None = refl
or_later-none (Some None) = refl
or_later-none (Some (Some d)) = refl

-- what is kept, with the entries to come, is what all entries say
abbrev pub KeptSoFar : Kept → List Entry → List Entry → Type 0
KeptSoFar said later all = (m : Member) → or_later (kept_at said m) (value_named (word m) later)
    ≡ Some (value_named (word m) all)

-- at the end all is kept
pub all_kept : (said : Kept) (all : List Entry) → KeptSoFar said [] all → (m : Member)
    → kept_at said m ≡ Some (value_named (word m) all)
all_kept said all so_far m = sym (or_later-none (kept_at said m)) ∙ so_far m

pick_other : {X : Type 0} (o : Ordering) (x y : X) → is_eq o ≡ false → cond (is_eq o) y x ≡ x
pick_other Less x y e = refl
pick_other Equal x y e = absurd (true≢false e)
pick_other Greater x y e = refl

pick_same : {X : Type 0} (o : Ordering) (x y : X) → is_eq o ≡ true → cond (is_eq o) y x ≡ y
pick_same Less x y e = absurd (true≢false (sym e))
pick_same Equal x y e = refl
pick_same Greater x y e = absurd (true≢false (sym e))

-- an entry of another name is passed over
passed_over : (k : List ℕ) (e : Entry) (later : List Entry) → bytes_eq k (string_bytes e.0) ≡ false
    → value_named k (e ∷ later) ≡ value_named k later
passed_over k e later other = pick_other (slice_cmp nat_cmp k (string_bytes e.0)) _ _
    (is_eq-slice_cmp k (string_bytes e.0) ∙ other)

-- an entry of this name is found
found_first : (k : List ℕ) (e : Entry) (later : List Entry) → bytes_eq k (string_bytes e.0) ≡ true
    → value_named k (e ∷ later) ≡ Some e.1
found_first k e later same = pick_same (slice_cmp nat_cmp k (string_bytes e.0)) _ _
    (is_eq-slice_cmp k (string_bytes e.0) ∙ same)

-- a name that is a member's word names it
pub named_by : (m : Member) (name : List ℕ) → bytes_eq (word m) name ≡ true → member_named name ≡ Some m
named_by m name same = subst (λ w. member_named w ≡ Some m) ((bytes_eq-Decides (word m) name).0 same)
    (member_named-word m)

pub some-some : {X : Type 0} (x y : X) → Some x ≡ Some y → x ≡ y
some-some x y e = ap (λ o. unwrap_or o x) e

pub none-some : {X Y : Type 0} (x : X) → None ≡ Some x → Y
none-some x e = absurd (true≢false (sym (ap is_some e)))

word_by : (b : Bool) (name w : List ℕ) (k m : Member) (rest : Option Member) → (b ≡ true → name ≡ w) → w ≡ word k
    → (rest ≡ Some m → name ≡ word m) → (if b then Some k else rest) ≡ Some m → name ≡ word m
word_by true name w k m rest same is more e = same refl ∙ is ∙ ap word (some-some k m e)
word_by false name w k m rest same is more e = more e

one_word : (name w : List ℕ) (k m : Member) (rest : Option Member) → w ≡ word k → (rest ≡ Some m → name ≡ word m)
    → (if bytes_eq name w then Some k else rest) ≡ Some m → name ≡ word m
one_word name w k m rest = word_by (bytes_eq name w) name w k m rest (bytes_eq-Decides name w).0

-- what holds in either case holds by a test
by_either : (b : Bool) (first rest : Option Member) (m : Member) (P : Type 0) → (first ≡ Some m → P)
    → (rest ≡ Some m → P) → (if b then first else rest) ≡ Some m → P
by_either true first rest m P in_first in_rest e = in_first e
by_either false first rest m P in_first in_rest e = in_rest e

-- a member is named by its word alone
pub word-member_named : (name : List ℕ) (m : Member) → member_named name ≡ Some m → name ≡ word m
word-member_named name m =
    (by_either (nat_eq (length name) 2) _ _ m (name ≡ word m)
    (one_word name (codes "at") member.At m _ refl
    (one_word name (codes "op") member.Op m _ refl
    (λ e. none-some m e)))
    (by_either (nat_eq (length name) 3) _ _ m (name ≡ word m)
    (one_word name (codes "tag") member.Tag m _ refl
    (one_word name (codes "ttl") member.Ttl m _ refl
    (λ e. none-some m e)))
    (by_either (nat_eq (length name) 4) _ _ m (name ≡ word m)
    (one_word name (codes "cell") member.Cell m _ refl
    (one_word name (codes "lost") member.Lost m _ refl
    (one_word name (codes "disk") member.Disk m _ refl
    (one_word name (codes "port") member.Port m _ refl
    (one_word name (codes "name") member.Name m _ refl
    (one_word name (codes "zone") member.Zone m _ refl
    (λ e. none-some m e)))))))
    (by_either (nat_eq (length name) 5) _ _ m (name ≡ word m)
    (one_word name (codes "times") member.Times m _ refl
    (one_word name (codes "route") member.Route m _ refl
    (one_word name (codes "index") member.Index m _ refl
    (λ e. none-some m e))))
    (by_either (nat_eq (length name) 6) _ _ m (name ≡ word m)
    (one_word name (codes "client") member.Client m _ refl
    (one_word name (codes "domain") member.Domain m _ refl
    (one_word name (codes "memory") member.Memory m _ refl
    (one_word name (codes "failed") member.Failed m _ refl
    (λ e. none-some m e)))))
    (by_either (nat_eq (length name) 7) _ _ m (name ≡ word m)
    (one_word name (codes "process") member.Process m _ refl
    (λ e. none-some m e))
    (by_either (nat_eq (length name) 8) _ _ m (name ≡ word m)
    (one_word name (codes "lose_ask") member.LoseAsk m _ refl
    (λ e. none-some m e))
    (by_either (nat_eq (length name) 9) _ _ m (name ≡ word m)
    (one_word name (codes "instances") member.Instances m _ refl
    (one_word name (codes "lose_stop") member.LoseStop m _ refl
    (λ e. none-some m e)))
    (by_either (nat_eq (length name) 10) _ _ m (name ≡ word m)
    (one_word name (codes "containers") member.Containers m _ refl
    (one_word name (codes "lose_start") member.LoseStart m _ refl
    (one_word name (codes "lose_reply") member.LoseReply m _ refl
    (λ e. none-some m e))))
    (λ e. none-some m e))))))))))

-- the members by their places
abbrev by_place : List Member
by_place = member.At ∷ member.Client ∷ member.Cell ∷ member.Op ∷ member.Lost ∷ member.Times ∷ member.Process
    ∷ member.Domain ∷ member.Instances ∷ member.Memory ∷ member.Disk ∷ member.Tag ∷ member.Route ∷ member.Port
    ∷ member.Index ∷ member.Name ∷ member.Zone ∷ member.Containers ∷ member.Ttl ∷ member.Failed ∷ member.LoseAsk
    ∷ member.LoseStop ∷ member.LoseStart ∷ member.LoseReply ∷ []

by_place-place : (m : Member) → slice_get by_place (place m) ≡ Some m
by_place-place member.At = refl
by_place-place member.Client = refl
by_place-place member.Cell = refl
by_place-place member.Op = refl
by_place-place member.Lost = refl
by_place-place member.Times = refl
by_place-place member.Process = refl
by_place-place member.Domain = refl
by_place-place member.Instances = refl
by_place-place member.Memory = refl
by_place-place member.Disk = refl
by_place-place member.Tag = refl
by_place-place member.Route = refl
by_place-place member.Port = refl
by_place-place member.Index = refl
by_place-place member.Name = refl
by_place-place member.Zone = refl
by_place-place member.Containers = refl
by_place-place member.Ttl = refl
by_place-place member.Failed = refl
by_place-place member.LoseAsk = refl
by_place-place member.LoseStop = refl
by_place-place member.LoseStart = refl
by_place-place member.LoseReply = refl

pub place-apart : (m n : Member) → place m ≡ place n → m ≡ n
place-apart m n e = some-some m n (sym (by_place-place m) ∙ ap (slice_get by_place) e ∙ by_place-place n)

get_set_same : {X : Type 0} (xs : List X) (i : ℕ) (a x : X) → slice_get xs i ≡ Some x
    → slice_get (slice_set xs i a) i ≡ Some a
get_set_same [] i a x e = none-some x e
get_set_same (y ∷ xs) zero a x e = refl
get_set_same (y ∷ xs) (suc i) a x e = get_set_same xs i a x e

get_set_other : {X : Type 0} (xs : List X) (i j : ℕ) (a : X) → (i ≡ j → ⊥)
    → slice_get (slice_set xs i a) j ≡ slice_get xs j
get_set_other [] i j a ne = refl
get_set_other (y ∷ xs) zero zero a ne = absurd (ne refl)
get_set_other (y ∷ xs) zero (suc j) a ne = refl
get_set_other (y ∷ xs) (suc i) zero a ne = refl
get_set_other (y ∷ xs) (suc i) (suc j) a ne = get_set_other xs i j a (λ e. ne (ap suc e))

pub by_test : {X : Type 0} (b : Bool) → (b ≡ true → X) → (b ≡ false → X) → X
by_test true if_true if_false = if_true refl
by_test false if_true if_false = if_false refl

-- a place that is filled hides what is to come
full-hides : (said : Kept) (m : Member) (slot : Option (Bor Value)) → slice_get said (place m) ≡ Some slot
    → is_some slot ≡ true → (x y : Option Value) → or_later (kept_at said m) x ≡ or_later (kept_at said m) y
full-hides said m None at full x y = absurd (true≢false (sym full))
full-hides said m (Some v) at full x y = rw at refl

-- a place that is empty takes what is to come
empty-takes : (said : Kept) (m : Member) (slot : Option (Bor Value)) → slice_get said (place m) ≡ Some slot
    → is_some slot ≡ false → (x : Option Value) → or_later (kept_at said m) x ≡ Some x
empty-takes said m None at empty x = rw at refl
empty-takes said m (Some v) at empty x = absurd (true≢false empty)

-- an entry whose name is no member's changes nothing
pub unnamed_step : (said : Kept) (e : Entry) (later all : List Entry) → member_named (string_bytes e.0) ≡ None
    → KeptSoFar said (e ∷ later) all → KeptSoFar said later all
unnamed_step said e later all unnamed so_far k =
    by_test (bytes_eq (word k) (string_bytes e.0)) (λ same.
    none-some k (sym unnamed ∙ named_by k (string_bytes e.0) same))
    (λ other. ap (or_later (kept_at said k)) (sym (passed_over (word k) e later other)))
    ∙ so_far k

-- an entry whose place is filled changes nothing
pub full_step : (said : Kept) (e : Entry) (later all : List Entry) (m : Member) (slot : Option (Bor Value))
    → member_named (string_bytes e.0) ≡ Some m → slice_get said (place m) ≡ Some slot → is_some slot ≡ true
    → KeptSoFar said (e ∷ later) all → KeptSoFar said later all
full_step said e later all m slot named at full so_far k =
    by_test (bytes_eq (word k) (string_bytes e.0))
    (λ same. full-hides said k slot (subst (λ n. slice_get said (place n) ≡ Some slot)
    (some-some m k (sym named ∙ named_by k (string_bytes e.0) same)) at) full _ _)
    (λ other. ap (or_later (kept_at said k)) (sym (passed_over (word k) e later other)))
    ∙ so_far k

kept_set_same : (said : Kept) (m k : Member) (slot : Option (Bor Value)) (v : Bor Value) (x : Option Value) → m ≡ k
    → slice_get said (place m) ≡ Some slot → or_later (kept_at (slice_set said (place m) (Some v)) k) x
    ≡ Some (Some v.now)
kept_set_same said m k slot v x same at = subst (λ n. or_later (kept_at (slice_set said (place m) (Some v)) n) x
    ≡ Some (Some v.now)) same (rw (get_set_same said (place m) (Some v) slot at) refl)

kept_set_other : (said : Kept) (m k : Member) (v : Bor Value) → (m ≡ k → ⊥)
    → kept_at (slice_set said (place m) (Some v)) k ≡ kept_at said k
kept_set_other said m k v apart = ap (option_map (option_map (λ w. w.now)))
    (get_set_other said (place m) (place k) (Some v) (λ e. apart (place-apart m k e)))

-- an entry whose place is empty is kept there
pub empty_step : (said : Kept) (e : Entry) (later all : List Entry) (m : Member) (slot : Option (Bor Value))
    (v : Bor Value) → v.now ≡ e.1 → member_named (string_bytes e.0) ≡ Some m → slice_get said (place m) ≡ Some slot
    → is_some slot ≡ false → KeptSoFar said (e ∷ later) all
    → KeptSoFar (slice_set said (place m) (Some v)) later all
empty_step said e later all m slot v is named at empty so_far k =
    by_test (bytes_eq (word k) (string_bytes e.0))
    (λ same.
    let one : m ≡ k = some-some m k (sym named ∙ named_by k (string_bytes e.0) same) in
    kept_set_same said m k slot v _ one at ∙ ap (λ w. Some (Some w)) is
    ∙ sym (ap Some (found_first (word k) e later same))
    ∙ sym (empty-takes said k slot (subst (λ n. slice_get said (place n) ≡ Some slot) one at) empty _))
    (λ other.
    let apart : m ≡ k → ⊥ = λ one. true≢false (sym ((bytes_eq-Decides (word k) (string_bytes e.0)).1
    (ap word (sym one) ∙ sym (word-member_named (string_bytes e.0) m named))) ∙ other) in
    ap (λ o. or_later o (value_named (word k) later)) (kept_set_other said m k v apart)
    ∙ ap (or_later (kept_at said k)) (sym (passed_over (word k) e later other)))
    ∙ so_far k

-- 24 empty places
abbrev pub nothing : Kept
nothing = None ∷ None ∷ None ∷ None ∷ None ∷ None ∷ None ∷ None ∷ None ∷ None ∷ None ∷ None ∷ None ∷ None ∷ None ∷ None
    ∷ None ∷ None ∷ None ∷ None ∷ None ∷ None ∷ None ∷ None ∷ []

-- before the first entry nothing is kept
pub none_kept : (all : List Entry) → KeptSoFar nothing all all
none_kept all member.At = refl
none_kept all member.Client = refl
none_kept all member.Cell = refl
none_kept all member.Op = refl
none_kept all member.Lost = refl
none_kept all member.Times = refl
none_kept all member.Process = refl
none_kept all member.Domain = refl
none_kept all member.Instances = refl
none_kept all member.Memory = refl
none_kept all member.Disk = refl
none_kept all member.Tag = refl
none_kept all member.Route = refl
none_kept all member.Port = refl
none_kept all member.Index = refl
none_kept all member.Name = refl
none_kept all member.Zone = refl
none_kept all member.Containers = refl
none_kept all member.Ttl = refl
none_kept all member.Failed = refl
none_kept all member.LoseAsk = refl
none_kept all member.LoseStop = refl
none_kept all member.LoseStart = refl
none_kept all member.LoseReply = refl

now-view : (x : Option (Bor Value)) → option_map (λ v. view v.now) x ≡ option_map view (option_map (λ v. v.now) x)
now-view None = refl
now-view (Some v) = refl

-- what is read at a place stands for the value that is kept there
pub read_kept : (said : Kept) (i : ℕ) (x : Option (Bor Value)) (o : Option Value) → x ≡ slice_index_or said i x
    → option_map (option_map (λ v. v.now)) (slice_get said i) ≡ Some o
    → option_map (λ v. view v.now) x ≡ option_map view o
read_kept [] i x o is kept = none-some o kept
read_kept (y ∷ said) zero x o is kept = ap (option_map (λ v. view v.now)) is ∙ now-view y ∙ ap (option_map view)
    (some-some (option_map (λ v. v.now) y) o kept)
read_kept (y ∷ said) (suc i) x o is kept = read_kept said i x o is kept
