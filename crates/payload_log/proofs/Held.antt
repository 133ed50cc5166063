-- How a log stands after an entry was added.
use Rattle.std.proofs.Common.{◌≡◌, inl, inr, ⊎_elim, ℕ, ◌+◌, Bool, true, false, List, [], ◌∷◌, ◌++◌, length, Option, Some, None, Result, Ok, Err, is_ok, is_err, refl, sym, ap, subst, ◌∙◌, arith, length-append, append_assoc, if◌then◌else◌}
use Rattle.std.specs.Option.{ForSome}
use Rattle.std.specs.Prelude.{not}
use Rattle.byte_ports.specs.Cause.{HasCause}
use Rattle.disk_trait.specs.Past.{Past, now}
use Rattle.disk_trait.specs.Runs.{Extends}
use Rattle.disk_trait.specs.Steps.{Goes}
use Rattle.disk_trait.proofs.Public.{goes_back, goes_weaker}
use Rattle.bbs_journal.specs.Areas.{Ready}
use Rattle.bbs_journal.specs.Calls.{GrowsBy}
use Rattle.bbs_journal.specs.Grammar.{heading}
use Rattle.bbs_journal.specs.View.{JournalView, is_waiting}
use Rattle.payload_log.specs.Entries.{entry_of, stored_in}
use Rattle.payload_log.specs.Opened.{Opened, opened_in}
use Rattle.payload_log.specs.Puts.{IsOneOf, PutsOne, Puts}
use Rattle.payload_log.specs.View.{Holds, MayShow, IsSound}
use Rattle.payload_log.specs.declared.entry.Entry.{Entry}
use Rattle.payload_log.specs.declared.entry.Entry.TheVariants.{Done, Doubt}
use Rattle.payload_log.proofs.Doubting.{rose_more}
use Rattle.payload_log.proofs.Keeping.{acknowledged_image, each_acknowledged, kept_by, yields_still}
use Rattle.payload_log.proofs.Logs.{get_more, get_last, get_split, get_within, take_front, take_whole, stored-done, stored-doubt}

-- the place of the next gate
abbrev pub end_of : Bool → ℕ → List ℕ → ℕ
end_of ok end payload = if ok then end + 3 + length payload else end

-- how many frames there are
abbrev pub frames_of : Bool → ℕ → ℕ
frames_of ok frames = if ok then frames + 1 else frames

module _ {X : Type 0} (spelling : X → List ℕ) (log : List (Entry X)) (x : X) where
  -- a doubt that may show may show still where another payload failed
  still_shows : (one : List ℕ) → MayShow spelling log one → MayShow spelling (log ++ Doubt x ∷ []) one
  still_shows one shows = record {
    place = shows.place;
    payload = shows.payload;
    doubt = get_more log (Doubt x ∷ []) shows.place (Doubt shows.payload) shows.doubt;
    last = λ earlier y item. ⊎_elim (λ old. shows.last earlier y old.1) (λ new. absurd (cc (new.1)))
        (get_split log (Doubt x) earlier (Done y) item);
    stored =
        ap (stored_in spelling) (take_front log (Doubt x ∷ []) shows.place
        (let within = get_within log shows.place (Doubt shows.payload) shows.doubt in omega (arith, within)))
        ∙ shows.stored ∙ sym (stored-doubt spelling log x);
    bytes_are = shows.bytes_are;
  }

  -- and the new one may show
  new_shows : (one : List ℕ) → one ≡ spelling x → MayShow spelling (log ++ Doubt x ∷ []) one
  new_shows one is = record {
    place = length log;
    payload = x;
    doubt = get_last log (Doubt x);
    last = λ earlier y item. ⊎_elim (λ old. old.0) (λ new. absurd (cc (new.1)))
        (get_split log (Doubt x) earlier (Done y) item);
    stored = ap (stored_in spelling) (take_whole log (Doubt x ∷ [])) ∙ sym (stored-doubt spelling log x);
    bytes_are = is;
  }

  either_shows : (doubt : Option (List ℕ)) → ((bytes : List ℕ) → doubt ≡ Some bytes → MayShow spelling log bytes)
      → (one : List ℕ) → IsOneOf doubt (spelling x) one
      → MayShow spelling (log ++ Doubt x ∷ []) one
  either_shows doubt may_show one (inl is) = still_shows one (may_show one is)
  either_shows doubt may_show one (inr is) = new_shows one is

module _ {X : Type 0} (spelling : X → List ℕ) (start : Opened) (log : List (Entry X)) (marks : List ℕ) (since end : ℕ)
    (waits : Bool) (p q : Past) (h : Holds spelling start log marks since end waits p) (x : X) (after : Bool) where
  abbrev head_of : List ℕ
  head_of = h.gate ∷ heading start.version start.generation start.head

  abbrev before : List (List ℕ)
  before = start.payloads ++ stored_in spelling log

  more_done : before ++ spelling x ∷ [] ≡ start.payloads ++ stored_in spelling (log ++ Done x ∷ [])
  more_done = append_assoc start.payloads (stored_in spelling log) (spelling x ∷ []) ∙ ap
      (λ (l : List (List ℕ)). start.payloads ++ l) (sym (stored-done spelling log x))

  pub holds_more : (ok : Bool) → PutsOne start.area ok after head_of before h.in_doubt (spelling x) end p q
      → Holds spelling start (log ++ entry_of ok x ∷ []) (marks ++ q.clock ∷ []) since
      (end_of ok end (spelling x)) after q
  holds_more true puts = record {
    gate = h.gate;
    is_open = h.is_open;
    goes_with = h.goes_with;
    in_doubt = None;
    waits_is = puts.leaves.0;
    may_show = λ bytes is. absurd (cc (is));
    stands = subst (λ (l : List (List ℕ)). Ready head_of l (end + 3 + length (spelling x)) (now q start.area)) more_done
        puts.leaves.1;
    beside = h.beside;
    yields = yields_still spelling start log marks since end waits p h q x true after puts;
    kept = kept_by spelling start log marks since end waits p h q x true after puts
        (each_acknowledged spelling start log marks since end waits p h q x true after puts
        (λ y same image images. acknowledged_image spelling start log marks since end waits p h q x true after puts
        puts.leaves.1 image images));
  }
  holds_more false puts = record {
    gate = h.gate;
    is_open = h.is_open;
    goes_with = h.goes_with;
    in_doubt = puts.leaves.left;
    waits_is = puts.leaves.waits_is;
    may_show = λ bytes is. either_shows spelling log x h.in_doubt h.may_show bytes (puts.leaves.which bytes is);
    stands = rw stored-doubt puts.leaves.stands;
    beside = h.beside;
    yields = yields_still spelling start log marks since end waits p h q x false after puts;
    kept = kept_by spelling start log marks since end waits p h q x false after puts
        (each_acknowledged spelling start log marks since end waits p h q x false after puts
        (λ y same image images. absurd (cc (same))));
  }

-- ---- the same, where the disk may tell nothing

module _ {X : Type 0} (spelling : X → List ℕ) (t0 t1 : Option Past) (start : Opened) (log : List (Entry X))
    (marks : List ℕ) (since end : ℕ) (waits : Bool) (holds : ForSome t0
    (Holds spelling start log marks since end waits)) where
  pub holds_then : (x : X) (ok after : Bool) (mark : ℕ) → ((q : Past) → t1 ≡ Some q → q.clock ≡ mark)
      → Goes t0 t1 (Puts start.area ok waits after (spelling x) end)
      → ForSome t1 (Holds spelling start (log ++ entry_of ok x ∷ []) (marks ++ mark ∷ []) since
      (end_of ok end (spelling x)) after)
  holds_then x ok after mark timed goes q told =
      let back = goes_back t0 t1 (Puts start.area ok waits after (spelling x) end) goes q told in
      let h = holds back.0 back.1 in
      subst (λ (m : ℕ). Holds spelling start (log ++ entry_of ok x ∷ []) (marks ++ m ∷ []) since
      (end_of ok end (spelling x)) after q) (timed q told)
      (holds_more spelling start log marks since end waits back.0 q h x after ok
      (back.2 (h.gate ∷ heading start.version start.generation start.head)
      (start.payloads ++ stored_in spelling log) h.in_doubt h.waits_is h.stands))

  pub puts_extend : (ok after : Bool) (payload : List ℕ) → Goes t0 t1 (Puts start.area ok waits after payload end)
      → Goes t0 t1 Extends
  puts_extend ok after payload goes =
      goes_weaker t0 t1 (Puts start.area ok waits after payload end) Extends
      (λ p q i j puts.
      let h = holds p i in
      (puts (h.gate ∷ heading start.version start.generation start.head)
      (start.payloads ++ stored_in spelling log) h.in_doubt h.waits_is h.stands).runs.extends) goes

-- ---- and of the whole log

-- a result is no success where it is an error
pub err_is : {A E : Type 0} (r : Result A E) → is_err r ≡ not (is_ok r)
err_is (Ok x) = refl
err_is (Err e) = refl

counts_more : {X : Type 0} (spelling : X → List ℕ) (payloads : List (List ℕ)) (log : List (Entry X)) (x : X) (ok : Bool)
    (frames : ℕ) → frames ≡ length (payloads ++ stored_in spelling log)
    → frames_of ok frames ≡ length (payloads ++ stored_in spelling (log ++ entry_of ok x ∷ []))
counts_more spelling payloads log x true frames is =
    omega (
      arith,
      is,
      length-append payloads (stored_in spelling log),
      length-append payloads (stored_in spelling (log ++ Done x ∷ [])),
      ap length (stored-done spelling log x),
      length-append (stored_in spelling log) (spelling x ∷ []),
    )
counts_more spelling payloads log x false frames is = is ∙ ap (λ (l : List (List ℕ)). length (payloads ++ l))
    (sym (stored-doubt spelling log x))

pub sound_more : {D X : Type 0} (spelling : X → List ℕ) (told : D → Option Past) (fault_count : D → ℕ) (head : List ℕ)
    (payloads : List (List ℕ)) (log : List (Entry X)) (marks : List ℕ) (since faults : ℕ)
    (journal later : JournalView D) → IsSound spelling told fault_count
    (opened_in journal head payloads) log marks since faults journal
    → (x : X) (ok : Bool) (mark : ℕ) → ((q : Past) → told later.disk ≡ Some q → q.clock ≡ mark)
    → Goes (told journal.disk) (told later.disk) (Puts journal.area ok (is_waiting journal.waiting)
    (is_waiting later.waiting) (spelling x) journal.end) → GrowsBy ok (length (spelling x)) journal later
    → HasCause (not ok) (fault_count journal.disk) (fault_count later.disk)
    → IsSound spelling told fault_count (opened_in later head payloads) (log ++ entry_of ok x ∷ [])
    (marks ++ mark ∷ []) since faults later
sound_more spelling told fault_count head payloads log marks since faults journal later sound x ok mark timed puts grows
    cause = record {
      whole = grows.stays.broken ∙ sound.whole;
      own = grows.frame;
      counted = grows.frames ∙ counts_more spelling payloads log x ok journal.frames sound.counted;
      doubted = rose_more log ok x faults (fault_count journal.disk) (fault_count later.disk) sound.doubted cause;
      holds = rw (grows.stays.area, grows.stays.version, grows.stays.generation, grows.end)
          (holds_then spelling (told journal.disk) (told later.disk)
          (opened_in journal head payloads) log marks since journal.end (is_waiting journal.waiting) sound.holds x ok
          (is_waiting later.waiting) mark timed puts);
    }
