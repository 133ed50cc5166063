-- The payloads of a lock journal, followed one after another.
use Rattle.std.proofs.Common.{◌≡◌, ℕ, ◌+◌, Bool, true, false, List, [], ◌∷◌, ◌++◌, map, length, Option, Some, None, Result, Ok, Err, IfSome, refl, sym, ap, subst, ◌∙◌, arith, if◌then◌else◌}
use Rattle.disk_trait.specs.Past.{Image}
use Rattle.disk_trait.specs.declared.area.Area.{Area}
use Rattle.bbs_journal.specs.Opening.{IsOpening}
use Rattle.bbs_journal.specs.declared.load_fault.LoadFault.{LoadFault}
use Rattle.bbs_journal.specs.declared.load_fault.LoadFault.TheVariants.{Damaged}
use Rattle.locket.specs.Bytes.{lock_spelled, lock_reading}
use Rattle.locket.specs.Lives.{unused, is_change, left_by, IsCounted, state_after, state_from, state_of, IsChange, AreChanges, IsLife}
use Rattle.locket.specs.Opening.{is_prepared, next_of, after_read, after_payload, or_damaged, followed, locks_of, cons_read, commands_in, IsLocket}
use Rattle.locket.specs.Steps.{lock_step}
use Rattle.locket.specs.declared.command.LockCommand.{LockCommand}
use Rattle.locket.specs.declared.state.LockState.{LockState}
use Rattle.locket.specs.declared.verdict.LockVerdict.{LockVerdict}
use Rattle.locket.specs.declared.verdict.LockVerdict.TheVariants.{Changes, Stays}
use Rattle.locket.proofs.Living.{AllFit, counted_after, from-append}
use Rattle.locket.proofs.Reading.{lock_again}

-- what was read on with was there
damaged_ok : (area : Area) (at : ℕ) (o : Option LockState) (go : LockState → Result LockState LoadFault) (t : LockState)
    → or_damaged area at o go ≡ Ok t → (s : LockState) × (o ≡ Some s) × (go s ≡ Ok t)
damaged_ok area at None go t is = absurd cc
damaged_ok area at (Some s) go t is = (s, refl, is)

-- a payload that was followed is a command that changed the state
pub record IsFollowed (s : LockState) (payload : List ℕ) (next : LockState) : Type 0 where
  pub command : LockCommand
  pub read : lock_reading payload ≡ Some command
  pub change : IsChange s command
  pub after : state_after s command ≡ next

by_verdict : (s : LockState) (c : LockCommand) (v : LockVerdict) (next : LockState) → lock_step s c ≡ v
    → next_of v ≡ Some next → IsChange s c × (state_after s c ≡ next)
by_verdict s c (Changes n answer) next is e = (ap is_change is, ap (left_by s) is ∙ cc)
by_verdict s c (Stays answer) next is e = absurd cc

pub payload_followed : (s : LockState) (payload : List ℕ) (next : LockState) → after_payload s payload ≡ Some next
    → IsFollowed s payload next
payload_followed s payload next e = by_reading (lock_reading payload) refl e
  where
    by_reading : (r : Option LockCommand) → lock_reading payload ≡ r → after_read s r ≡ Some next
        → IsFollowed s payload next
    by_reading None is f = absurd cc
    by_reading (Some c) is f = let v = by_verdict s c (lock_step s c) next refl f in
        record { command = c; read = is; change = v.0; after = v.1 }

-- the state that a command changes to counts as a locket's
pub counted_next : (s : LockState) (c : LockCommand) (r : Option LockState) → IsCounted s → r ≡ next_of (lock_step s c)
    → IfSome r IsCounted
counted_next s c None counted is = tt
counted_next s c (Some next) counted is = let v = by_verdict s c (lock_step s c) next refl (sym is) in
    subst IsCounted v.1 (counted_after s c counted v.0)

-- these commands change a state to this one, and are so many
pub record IsLived (s : LockState) (cs : List LockCommand) (t : LockState) (count : ℕ) : Type 0 where
  pub changes : AreChanges s cs
  pub state_is : t ≡ state_from s cs
  pub count_is : length cs ≡ count

-- each payload is a command
pub followed_lived : (area : Area) (s t : LockState) (at : ℕ) (payloads : List (List ℕ))
    → followed area None s at payloads ≡ Ok t → IsLived s (commands_in payloads) t (length payloads)
followed_lived area s t at [] e = record { changes = tt; state_is = cc; count_is = refl }
followed_lived area s t at (payload ∷ payloads) e =
    let first = damaged_ok area at (after_payload s payload)
    (λ next. followed area None next (at + 3 + length payload) payloads) t e in
    let f = payload_followed s payload first.0 first.1 in
    let rest = followed_lived area first.0 t (at + 3 + length payload) payloads first.2 in
    let cs : List LockCommand = commands_in payloads in
    let same : f.command ∷ cs ≡ commands_in (payload ∷ payloads) =
    ap (λ (r : Option LockCommand). cons_read r cs) (sym f.read) in
    subst (λ (l : List LockCommand). IsLived s l t (length (payload ∷ payloads))) same
    (record {
      changes = (f.change, subst (λ (x : LockState). AreChanges x cs) (sym f.after) rest.changes);
      state_is = rest.state_is ∙ ap (λ (x : LockState). state_from x cs) (sym f.after);
      count_is = let count = rest.count_is in omega (arith, count);
    })

-- a change is followed
verdict_next : (s : LockState) (v : LockVerdict) → is_change v ≡ true → next_of v ≡ Some (left_by s v)
verdict_next s (Changes next answer) is = refl
verdict_next s (Stays answer) is = absurd cc

spelled_next : (s : LockState) (c : LockCommand) → lock_reading (lock_spelled c) ≡ Some c → IsChange s c
    → after_payload s (lock_spelled c) ≡ Some (state_after s c)
spelled_next s c read is = ap (after_read s) read ∙ verdict_next s (lock_step s c) is

-- commands that are spelled and change the state are followed
followed_spelled : (area : Area) (s : LockState) (at : ℕ) (cs : List LockCommand) → AllFit cs → AreChanges s cs
    → followed area None s at (map lock_spelled cs) ≡ Ok (state_from s cs)
followed_spelled area s at [] fit are = refl
followed_spelled area s at (c ∷ cs) fit are =
    ap (λ (o : Option LockState). or_damaged area at o (λ next.
    followed area None next (at + 3 + length (lock_spelled c)) (map lock_spelled cs)))
    (spelled_next s c (lock_again c fit.0) are.0)
    ∙ followed_spelled area (state_after s c) (at + 3 + length (lock_spelled c)) cs fit.1 are.1

pub followed_more : (area : Area) (s mid : LockState) (at : ℕ) (payloads : List (List ℕ)) (cs : List LockCommand)
    → followed area None s at payloads ≡ Ok mid → AllFit cs → AreChanges mid cs
    → followed area None s at (payloads ++ map lock_spelled cs) ≡ Ok (state_from mid cs)
followed_more area s mid at [] cs e fit are =
    let same : s ≡ mid = cc in
    subst (λ (x : LockState). followed area None s at (map lock_spelled cs) ≡ Ok (state_from x cs)) same
    (followed_spelled area s at cs fit (subst (λ (x : LockState). AreChanges x cs) (sym same) are))
followed_more area s mid at (payload ∷ payloads) cs e fit are =
    let first = damaged_ok area at (after_payload s payload)
    (λ next. followed area None next (at + 3 + length payload) payloads) mid e in
    ap (λ (o : Option LockState). or_damaged area at o (λ next.
    followed area None next (at + 3 + length payload) (payloads ++ map lock_spelled cs))) first.1
    ∙ followed_more area first.0 mid (at + 3 + length payload) payloads cs first.2 fit are

-- behind a defect there is no locket
broken_followed : (area : Area) (place : ℕ) (s t : LockState) (at : ℕ) (payloads : List (List ℕ))
    → followed area (Some place) s at payloads ≡ Ok t → ⊥
broken_followed area place s t at [] e = cc
broken_followed area place s t at (payload ∷ payloads) e =
    let first = damaged_ok area at (after_payload s payload)
    (λ next. followed area (Some place) next (at + 3 + length payload) payloads) t e in
    broken_followed area place first.0 t (at + 3 + length payload) payloads first.2

-- ---- the commands among payloads

cons-append : (r : Option LockCommand) (all xs ys : List LockCommand) → all ≡ xs ++ ys
    → cons_read r all ≡ cons_read r xs ++ ys
cons-append None all xs ys is = is
cons-append (Some c) all xs ys is = ap (λ (l : List LockCommand). c ∷ l) is

commands-append : (xs ys : List (List ℕ)) → commands_in (xs ++ ys) ≡ commands_in xs ++ commands_in ys
commands-append [] ys = refl
commands-append (x ∷ xs) ys = cons-append (lock_reading x) (commands_in (xs ++ ys)) (commands_in xs) (commands_in ys)
    (commands-append xs ys)

commands-spelled : (cs : List LockCommand) → AllFit cs → commands_in (map lock_spelled cs) ≡ cs
commands-spelled [] fit = refl
commands-spelled (c ∷ cs) fit =
    ap (λ (r : Option LockCommand). cons_read r (commands_in (map lock_spelled cs))) (lock_again c fit.0) ∙ ap
    (λ (l : List LockCommand). c ∷ l) (commands-spelled cs fit.1)

pub commands-more : (payloads : List (List ℕ)) (cs : List LockCommand) → AllFit cs
    → commands_in (payloads ++ map lock_spelled cs) ≡ commands_in payloads ++ cs
commands-more payloads cs fit = commands-append payloads (map lock_spelled cs) ∙ ap
    (λ (l : List LockCommand). commands_in payloads ++ l) (commands-spelled cs fit)

-- ---- the whole of an area

-- its head is prepared, and its payloads are followed
pub record IsRead (version : ℕ) (area : Area) (head : List ℕ) (payloads : List (List ℕ)) (broken : Option ℕ)
    (t : LockState) : Type 0 where
  pub prepared : is_prepared version head ≡ true
  pub follows : followed area broken unused (23 + length head) payloads ≡ Ok t

pub locks_read : (version : ℕ) (area : Area) (head : List ℕ) (payloads : List (List ℕ)) (broken : Option ℕ)
    (t : LockState) → locks_of version area head payloads broken ≡ Ok t → IsRead version area head payloads broken t
locks_read version area head payloads broken t e = by_head (is_prepared version head) refl e
  where
    by_head : (b : Bool) → is_prepared version head ≡ b →
        (if b then followed area broken unused (23 + length head) payloads else Err (Damaged area 23)) ≡ Ok t
        → IsRead version area head payloads broken t
    by_head true is f = record { prepared = is; follows = f }
    by_head false is f = absurd cc

locks_made : (version : ℕ) (area : Area) (head : List ℕ) (payloads : List (List ℕ)) (broken : Option ℕ) (t : LockState)
    → IsRead version area head payloads broken t → locks_of version area head payloads broken ≡ Ok t
locks_made version area head payloads broken t r = ap (λ (b : Bool).
    if b then followed area broken unused (23 + length head) payloads else Err (Damaged area 23)) r.prepared ∙ r.follows

-- a locket has no defect behind its frames
pub locks_unbroken : (version : ℕ) (area : Area) (head : List ℕ) (payloads : List (List ℕ)) (broken : Option ℕ)
    (t : LockState) → locks_of version area head payloads broken ≡ Ok t → broken ≡ None
locks_unbroken version area head payloads None t e = refl
locks_unbroken version area head payloads (Some place) t e =
    let r = locks_read version area head payloads (Some place) t e in
    absurd (broken_followed area place unused t (23 + length head) payloads r.follows)

-- the commands of a locket are its life
pub locks_lived : (version : ℕ) (area : Area) (head : List ℕ) (payloads : List (List ℕ)) (t : LockState)
    → locks_of version area head payloads None ≡ Ok t → IsLived unused (commands_in payloads) t (length payloads)
locks_lived version area head payloads t e = let r = locks_read version area head payloads None t e in
    followed_lived area unused t (23 + length head) payloads r.follows

-- commands behind a locket
pub locks_more : (version : ℕ) (area : Area) (head : List ℕ) (payloads : List (List ℕ)) (cs : List LockCommand)
    → locks_of version area head payloads None ≡ Ok (state_of (commands_in payloads)) → AllFit cs
    → AreChanges (state_of (commands_in payloads)) cs → locks_of version area head
    (payloads ++ map lock_spelled cs) None ≡ Ok (state_of (commands_in payloads ++ cs))
locks_more version area head payloads cs e fit are =
    let life : List LockCommand = commands_in payloads in
    let r = locks_read version area head payloads None (state_of life) e in
    locks_made version area head (payloads ++ map lock_spelled cs) None (state_of (life ++ cs)) (record {
      prepared = r.prepared;
      follows = followed_more area unused (state_of life) (23 + length head) payloads cs r.follows fit are ∙ ap Ok
          (sym (from-append unused life cs));
    })

-- an image that is opened so is a locket with that life
pub more_is_locket : (image : Image) (area : Area) (version generation : ℕ) (head : List ℕ) (payloads : List (List ℕ))
    (end : ℕ) (cs : List LockCommand)
    → locks_of version area head payloads None ≡ Ok (state_of (commands_in payloads)) → AllFit cs
    → AreChanges (state_of (commands_in payloads)) cs
    → IsOpening image area version generation head (payloads ++ map lock_spelled cs) None end
    → IsLocket (commands_in payloads ++ cs) image
more_is_locket image area version generation head payloads end cs e fit are opening = record {
  area = area;
  version = version;
  generation = generation;
  head = head;
  payloads = payloads ++ map lock_spelled cs;
  end = end;
  opening = opening;
  life_is = sym (commands-more payloads cs fit);
  state_is = locks_more version area head payloads cs e fit are;
}

pub locket_life : (life : List LockCommand) (image : Image) → IsLocket life image → IsLife life
locket_life life image l =
    let lived = locks_lived l.version l.area l.head l.payloads (state_of life) l.state_is in
    subst IsLife (sym l.life_is) lived.changes
