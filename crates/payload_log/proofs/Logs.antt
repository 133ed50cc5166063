-- Logs that grow by an entry.
use Rattle.std.proofs.Common.{◌≡◌, ◌⊎◌, inl, inr, ℕ, zero, suc, ◌<◌, ◌≤◌, List, [], ◌∷◌, ◌++◌, map, length, take, slice_get, Some, refl, sym, ap, subst, ◌∙◌, arith, length-append, take_all, append-nil}
use Rattle.std.proofs.lemmas.List.{take-append-le, map-append}
use Rattle.disk_trait.specs.Past.{Image}
use Rattle.payload_log.specs.Entries.{done_in, stored_in}
use Rattle.payload_log.specs.Kept.{RiseWithin, IsListed, ShowsDoubt}
use Rattle.payload_log.specs.Opened.{Opened, OpensBehind}
use Rattle.payload_log.specs.declared.entry.Entry.{Entry}
use Rattle.payload_log.specs.declared.entry.Entry.TheVariants.{Done, Doubt}

-- ---- places in a list

module _ {X : Type 0} where
  -- what stands at a place stands there in a longer list
  pub get_more : (xs ys : List X) (place : ℕ) (x : X) → slice_get xs place ≡ Some x
      → slice_get (xs ++ ys) place ≡ Some x
  get_more [] ys place x is = cc
  get_more (y ∷ xs) ys zero x is = is
  get_more (y ∷ xs) ys (suc place) x is = get_more xs ys place x is

  pub get_last : (xs : List X) (x : X) → slice_get (xs ++ x ∷ []) (length xs) ≡ Some x
  get_last [] x = refl
  get_last (y ∷ xs) x = get_last xs x

  -- what stands in a list that grew by one stood there before, or is the new one
  pub get_split : (xs : List X) (y : X) (place : ℕ) (x : X) → slice_get (xs ++ y ∷ []) place ≡ Some x
      → ((place < length xs) × (slice_get xs place ≡ Some x)) ⊎ ((place ≡ length xs) × (y ≡ x))
  get_split [] y zero x is = inr (refl, cc)
  get_split [] y (suc place) x is = absurd (cc)
  get_split (z ∷ xs) y zero x is = inl (omega arith, is)
  get_split (z ∷ xs) y (suc place) x is = elim (get_split xs y place x is) [
    | inl here ↦ inl (omega (arith, here.0), here.1)
    | inr last ↦ inr (omega (arith, last.0), last.1)
  ]

  -- what stands at a place stands within the list
  pub get_within : (xs : List X) (place : ℕ) (x : X) → slice_get xs place ≡ Some x → place < length xs
  get_within [] place x is = absurd (cc)
  get_within (y ∷ xs) zero x is = omega arith
  get_within (y ∷ xs) (suc place) x is = let rest = get_within xs place x is in omega (arith, rest)

  pub take_front : (xs ys : List X) (place : ℕ) → place ≤ length xs → take place (xs ++ ys) ≡ take place xs
  take_front xs ys place le = take-append-le place xs ys le

  pub take_whole : (xs ys : List X) → take (length xs) (xs ++ ys) ≡ xs
  take_whole xs ys = take_front xs ys (length xs) (omega arith) ∙ take_all (length xs) xs (omega arith)

-- ---- what is done

module _ {X : Type 0} where
  pub done-append : (xs ys : List (Entry X)) → done_in (xs ++ ys) ≡ done_in xs ++ done_in ys
  done-append [] ys = refl
  done-append (Done x ∷ xs) ys = ap (λ (l : List X). x ∷ l) (done-append xs ys)
  done-append (Doubt x ∷ xs) ys = done-append xs ys

  pub stored-done : (spelling : X → List ℕ) (log : List (Entry X)) (x : X)
      → stored_in spelling (log ++ Done x ∷ []) ≡ stored_in spelling log ++ spelling x ∷ []
  stored-done spelling log x = ap (map spelling) (done-append log (Done x ∷ [])) ∙ map-append spelling (done_in log)
      (x ∷ [])

  pub stored-doubt : (spelling : X → List ℕ) (log : List (Entry X)) (x : X)
      → stored_in spelling (log ++ Doubt x ∷ []) ≡ stored_in spelling log
  stored-doubt spelling log x = ap (map spelling) (done-append log (Doubt x ∷ []) ∙ append-nil (done_in log))

-- ---- what is listed

module _ {X : Type 0} (spelling : X → List ℕ) (start : Opened) where
  pub listed_more : (xs ys : List (Entry X)) (from : ℕ) (image : Image) → IsListed spelling start xs from image
      → IsListed spelling start (xs ++ ys) from image
  listed_more xs ys from image is = record {
    place = is.place;
    low = is.low;
    high = let high = is.high in omega (arith, high, length-append xs ys);
    opens = elim is.opens [ inl opened ↦ inl (moved opened) | inr shows ↦ inr (shown shows) ];
  }
    where
      same : stored_in spelling (take is.place xs) ≡ stored_in spelling (take is.place (xs ++ ys))
      same = ap (stored_in spelling) (sym (take_front xs ys is.place is.high))

      moved : OpensBehind start (stored_in spelling (take is.place xs)) image
          → OpensBehind start (stored_in spelling (take is.place (xs ++ ys))) image
      moved opened = subst (λ (l : List (List ℕ)). OpensBehind start l image) same opened

      shown : ShowsDoubt spelling start xs is.place image → ShowsDoubt spelling start (xs ++ ys) is.place image
      shown s = record {
        payload = s.payload;
        doubt = get_more xs ys is.place (Doubt s.payload) s.doubt;
        shown = subst (λ (l : List (List ℕ)). OpensBehind start (l ++ spelling s.payload ∷ []) image) same s.shown;
      }

  -- all that is done, from any place on
  pub listed_end : (log : List (Entry X)) (from : ℕ) (image : Image) → from ≤ length log
      → OpensBehind start (stored_in spelling log) image → IsListed spelling start log from image
  listed_end log from image le opened = record {
    place = length log;
    low = le;
    high = omega arith;
    opens = inl (subst (λ (l : List (Entry X)). OpensBehind start (stored_in spelling l) image)
        (sym (take_all (length log) log (omega arith))) opened);
  }

  -- all that is done before a doubt, and that
  pub listed_doubt : (log : List (Entry X)) (x : X) (from : ℕ) (image : Image) → from ≤ length log
      → OpensBehind start (stored_in spelling log ++ spelling x ∷ []) image
      → IsListed spelling start (log ++ Doubt x ∷ []) from image
  listed_doubt log x from image le opened = record {
    place = length log;
    low = le;
    high = omega (arith, length-append log (Doubt x ∷ []));
    opens = inr (record {
      payload = x;
      doubt = get_last log (Doubt x);
      shown = subst (λ (l : List (Entry X)). OpensBehind start (stored_in spelling l ++ spelling x ∷ []) image)
          (sym (take_whole log (Doubt x ∷ []))) opened;
    });
  }

-- ---- marks

pub rising_more : (low : ℕ) (marks : List ℕ) (high mark : ℕ) → RiseWithin low marks high → high ≤ mark
    → RiseWithin low (marks ++ mark ∷ []) mark
rising_more low [] high mark rising le = (omega (arith, rising, le), omega arith)
rising_more low (m ∷ marks) high mark rising le = (rising.0, rising_more m marks high mark rising.1 le)
