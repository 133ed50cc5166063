-- What the steps of a switch do to the area beside that of the frames.
use Rattle.std.proofs.Common.{◌≡◌, inl, inr, ℕ, ◌+◌, ◌-◌, ◌<◌, ◌^◌, Bool, true, false, None, Option, List, [], ◌∷◌, ◌++◌, length, drop, get_or, refl, sym, ap, ◌∙◌, subst, arith, append_assoc, length-append, drop-cons}
use Rattle.std.specs.Option.{ForSome}
use Rattle.std.specs.Int.{w32, w64}
use Rattle.std.proofs.lemmas.List.{append-nil}
use Rattle.wire_fields.specs.Field.{field_number}
use Rattle.disk_trait.specs.Held.{Held, Range, Has}
use Rattle.disk_trait.specs.Past.{Past, now, content, other}
use Rattle.disk_trait.specs.Runs.{Runs, Turns}
use Rattle.disk_trait.specs.Steps.{Goes, overwritten, range_of}
use Rattle.disk_trait.proofs.Public.{Bears, has_weaker, runs_there, goes_weaker}
use Rattle.disk_trait.specs.declared.area.Area.{Area}
use Rattle.disk_trait.specs.declared.area.Area.TheVariants.{A, B}
use Rattle.bbs_journal.specs.Areas.{Begins, Ready}
use Rattle.bbs_journal.specs.Beside.{unframed, IsNext, IsBeside, IsInDoubt}
use Rattle.bbs_journal.specs.Calls.{WritesSynced}
use Rattle.bbs_journal.specs.Grammar.{heading}
use Rattle.bbs_journal.specs.Header.{IsVersion, newest, mark}
use Rattle.bbs_journal.specs.Other.{IsLoose}
use Rattle.bbs_journal.specs.Switching.{ClosesOther, WritesOther, OpensOther, ClosesHeader}
use Rattle.bbs_journal.specs.View.{HoldsFrames, IsKept}
use Rattle.bbs_journal.specs.declared.other_gate.OtherGate.{OtherGate}
use Rattle.bbs_journal.specs.declared.other_gate.OtherGate.TheVariants.{Shut, Loose, Written}
use Rattle.bbs_journal.specs.declared.waiting.Waiting.TheVariants.{Nothing, Header}
use Rattle.bbs_journal.proofs.Accepted.{heading_read}
use Rattle.bbs_journal.proofs.Bytes.{bears_staged, staged_of}
use Rattle.bbs_journal.proofs.Keeping.{tells_on, front_of, ready_of}
use Rattle.bbs_journal.proofs.Kept.{length-heading}
use Rattle.bbs_journal.proofs.Turning.{turned, gate_turn}

pub other_other : (area : Area) → other (other area) ≡ area
other_other A = refl
other_other B = refl

-- what is done to the other area leaves this one
pub own_still : (P : List ℕ → Type 0) (area : Area) (p q : Past) → Runs (other area) P p q → now q area ≡ now p area
own_still P area p q runs = subst (λ (x : Area). now q x ≡ now p x) (other_other area)
    (runs_there P (other area) p q runs)

-- ---- a header gate is torn

-- a torn gate leaves a loose area loose
loose_bears : (generation : ℕ) (range : Range) → range.from ≡ 0 → range.len ≡ 1 → Bears (IsLoose generation) range
loose_bears generation range from len old new (inl short) torn are =
    inl (let most = torn.no_longer in omega (arith, most, short, from, len))
loose_bears generation range from len old new (inr older) torn are =
    let long : 0 < length new = omega (arith, ap length older.parts, torn.no_shorter) in
    let one : range.from + range.len ≡ 1 = omega (arith, from, len) in
    let after : drop 1 new ≡ older.behind = subst (λ (n : ℕ). drop n new ≡ drop n old) one torn.after ∙ ap
    (drop 1) older.parts in
    inr (record {
      gate = get_or new 0 0;
      behind = older.behind;
      version = older.version;
      older = older.older;
      parts = drop-cons new 0 0 long ∙ ap (λ (l : List ℕ). get_or new 0 0 ∷ l) after;
      header = older.header;
      below = older.below;
    })

doubt_bears : (next : List ℕ) (gate : OtherGate) (generation byte : ℕ)
    → Bears (IsInDoubt next gate generation) (range_of 0 (byte ∷ []))
doubt_bears next Shut generation byte old new never torn are = absurd never
doubt_bears next Loose generation byte old new loose torn are =
    loose_bears generation (range_of 0 (byte ∷ [])) refl refl old new loose torn are
doubt_bears next (Written size) generation byte old new (len, staged) torn are =
    (len, bears_staged [] (unframed (generation + 1) next) (range_of 0 (byte ∷ [])) refl refl old new staged torn are)

shut_over : (old : List ℕ) → Begins (0 ∷ []) (overwritten 0 (0 ∷ []) old)
shut_over old = record { rest = drop 1 old; parts = refl }

-- ---- turns

loose_closes : (area : Area) (generation : ℕ) (ok : Bool) (p q : Past) → WritesSynced ok area 0 (0 ∷ []) p q
    → Has (IsLoose generation) (now p area) → Turns area ok (IsLoose generation) (Begins (0 ∷ [])) p q
loose_closes area generation ok p q writes has =
    turned (IsLoose generation) (Begins (0 ∷ [])) area 0 (0 ∷ [])
    (loose_bears generation (range_of 0 (0 ∷ [])) refl refl) ok p q writes (omega arith) has
    (shut_over (content p area))

doubt_closes : (area : Area) (next : List ℕ) (gate : OtherGate) (generation : ℕ) (ok : Bool) (p q : Past)
    → WritesSynced ok area 0 (0 ∷ []) p q → Has (IsInDoubt next gate generation) (now p area)
    → Turns area ok (IsInDoubt next gate generation) (Begins (0 ∷ [])) p q
doubt_closes area next gate generation ok p q writes has =
    turned (IsInDoubt next gate generation) (Begins (0 ∷ [])) area 0 (0 ∷ [])
    (doubt_bears next gate generation 0) ok p q writes (omega arith) has (shut_over (content p area))

next_opens : (area : Area) (generation : ℕ) (next : List ℕ) (ok : Bool) (p q : Past)
    → WritesSynced ok area 0 (1 ∷ []) p q → Has (Begins (0 ∷ unframed (generation + 1) next)) (now p area)
    → Turns area ok (IsNext generation next) (Begins (1 ∷ unframed (generation + 1) next)) p q
next_opens area generation next ok p q writes has =
    gate_turn area [] (unframed (generation + 1) next) 0 refl 1 ok p q writes
    (has_weaker (Begins (0 ∷ unframed (generation + 1) next)) (IsNext generation next) (now p area)
    (staged_of [] (unframed (generation + 1) next) 0) has)

-- ---- an area that was gone on from is older than the next

pub older_front : (gate version generation : ℕ) (head rest bytes : List ℕ) → IsVersion version → generation < 2 ^ 64
    → Begins ((gate ∷ heading version generation head) ++ rest) bytes → IsLoose (generation + 1) bytes
older_front gate version generation head rest bytes is below b = inr (record {
  gate = gate;
  behind = (heading version generation head ++ rest) ++ b.rest;
  version = version;
  older = generation;
  parts = b.parts;
  header = heading_read version generation head rest b.rest is below;
  below = omega arith;
})

pub older_ready : (gate version generation : ℕ) (head : List ℕ) (payloads : List (List ℕ)) (end : ℕ) (held : Held)
    → IsVersion version → generation < 2 ^ 64 → Ready (gate ∷ heading version generation head) payloads end held
    → Has (IsLoose (generation + 1)) held
older_ready gate version generation head payloads end held is below ready =
    let front : List ℕ = gate ∷ heading version generation head in
    has_weaker (Begins (front ++ ready.frames ++ 0 ∷ [])) (IsLoose (generation + 1)) held
    (λ bytes b. older_front gate version generation head (ready.frames ++ 0 ∷ []) bytes is below
    (record {
      rest = b.rest;
      parts = b.parts ∙ ap (λ (l : List ℕ). l ++ b.rest)
          (append_assoc front ready.frames (0 ∷ []));
    })) ready.has

-- an open area without frames takes them
pub unframed_ready : (gate generation : ℕ) (head : List ℕ) (held : Held)
    → Has (Begins (gate ∷ unframed generation head)) held
    → Ready (gate ∷ heading newest generation head) [] (23 + length head) held
unframed_ready gate generation head held has = record {
  frames = [];
  whole = refl;
  place = omega (
    arith,
    length-append (gate ∷ heading newest generation head) [],
    length-heading newest generation head,
  );
  has = has_weaker (Begins (gate ∷ unframed generation head))
      (Begins ((gate ∷ heading newest generation head) ++ [] ++ 0 ∷ [])) held
      (λ bytes b. record {
        rest = b.rest;
        parts = b.parts ∙ ap (λ (l : List ℕ). ((gate ∷ l) ++ 0 ∷ []) ++ b.rest)
            (sym (append-nil (heading newest generation head)));
      }) has;
}

-- ---- what is known goes on being so, where the disk may tell nothing

module _ (told : Option Past) (area : Area) (version generation end frames : ℕ) (broken : Bool) where
  -- a gate that is a synced 0 is so, whatever stands behind it
  pub kept_shut : (size : ℕ) → ForSome told (IsKept area version generation end frames Nothing broken (Written size))
      → ForSome told (IsKept area version generation end frames Nothing broken Shut)
  kept_shut size kept p is =
      let k = kept p is in
      record {
        holds = k.holds;
        next = [];
        beside = has_weaker (IsBeside k.next (Written size) generation) (Begins (0 ∷ [])) (now p (other area))
            (λ bytes b. record { rest = unframed (generation + 1) k.next ++ b.1.rest; parts = b.1.parts }) k.beside;
      }

  pub shut_there : ForSome told (IsKept area version generation end frames Nothing broken Shut)
      → ForSome told (λ p. Has (Begins (0 ∷ [])) (now p (other area)))
  shut_there kept p is = (kept p is).beside

module _ (t0 t1 : Option Past) (area : Area) (version generation end frames : ℕ) (broken : Bool) where
  -- the same frames, where only the other area has changed
  frames_still : (P : List ℕ → Type 0) (p q : Past) → Runs (other area) P p q
      → (broken ≡ false → HoldsFrames area version generation end frames false p) → broken ≡ false
      → HoldsFrames area version generation end frames false q
  frames_still P p q runs holds whole =
      let h = holds whole in
      record {
        gate = h.gate;
        is_open = h.is_open;
        version_is = h.version_is;
        head = h.head;
        payloads = h.payloads;
        doubt = None;
        count = h.count;
        doubtful = refl;
        stands = subst (Ready (front_of h) h.payloads end) (sym (own_still P area p q runs))
            (ready_of area version generation end frames p h);
      }

  pub closes : (ok : Bool) → Goes t0 t1 (WritesSynced ok (other area) 0 (0 ∷ []))
      → ForSome t0 (IsKept area version generation end frames Nothing broken Loose)
      → Goes t0 t1 (ClosesOther area Loose generation ok)
  closes ok writes kept =
      goes_weaker t0 t1 (WritesSynced ok (other area) 0 (0 ∷ [])) (ClosesOther area Loose generation ok)
      (λ p q i j w. loose_closes (other area) generation ok p q w (kept p i).beside) writes

  pub kept_closed : Goes t0 t1 (ClosesOther area Loose generation true)
      → ForSome t0 (IsKept area version generation end frames Nothing broken Loose)
      → ForSome t1 (IsKept area version generation end frames Nothing broken Shut)
  kept_closed goes kept =
      tells_on t0 t1 (ClosesOther area Loose generation true)
      (IsKept area version generation end frames Nothing broken Loose)
      (IsKept area version generation end frames Nothing broken Shut)
      (λ p q turns kept. record {
        holds = frames_still (IsLoose generation) p q turns.runs kept.holds;
        next =
            [];
        beside = turns.done refl;
      }) goes kept

  pub kept_unclosed : Goes t0 t1 (ClosesOther area Loose generation false)
      → ForSome t0 (IsKept area version generation end frames Nothing broken Loose)
      → ForSome t1 (IsKept area version generation end frames Header broken Loose)
  kept_unclosed goes kept =
      tells_on t0 t1 (ClosesOther area Loose generation false)
      (IsKept area version generation end frames Nothing broken Loose)
      (IsKept area version generation end frames Header broken Loose)
      (λ p q turns kept. record {
        holds = frames_still (IsLoose generation) p q turns.runs kept.holds;
        next =
            [];
        beside = turns.failed refl;
      }) goes kept

  -- the header that was written is that of the next generation
  pub writes : (ok : Bool) (header head : List ℕ) → header ≡ mark newest
      ++ (field_number w64 (generation + 1) ++ field_number w32 (length head))
      → Goes t0 t1 (Turns (other area) ok (Begins (0 ∷ [])) (Begins (0 ∷ (header ++ head ++ 0 ∷ []))))
      → Goes t0 t1 (WritesOther area generation head ok)
  writes ok header head is goes =
      subst (λ (l : List ℕ). Goes t0 t1 (Turns (other area) ok (Begins (0 ∷ [])) (Begins (0 ∷ l))))
      (ap (λ (l : List ℕ). l ++ head ++ 0 ∷ []) is ∙ regroup) goes
    where
      regroup : (mark newest ++ (field_number w64 (generation + 1) ++ field_number w32 (length head))) ++ head ++ 0 ∷ []
          ≡ unframed (generation + 1) head
      regroup = simp append_assoc

  pub kept_written : (head : List ℕ) → Goes t0 t1 (WritesOther area generation head true)
      → ForSome t0 (IsKept area version generation end frames Nothing broken Shut)
      → ForSome t1 (IsKept area version generation end frames Nothing broken (Written (length head)))
  kept_written head goes kept =
      tells_on t0 t1 (WritesOther area generation head true)
      (IsKept area version generation end frames Nothing broken Shut)
      (IsKept area version generation end frames Nothing broken (Written (length head)))
      (λ p q turns kept. record {
        holds = frames_still (Begins (0 ∷ [])) p q turns.runs kept.holds;
        next = head;
        beside = has_weaker (Begins (0 ∷ unframed (generation + 1) head))
            (IsBeside head (Written (length head)) generation) (now q (other area)) (λ bytes b. (refl, b))
            (turns.done refl);
      }) goes kept

  pub kept_unwritten : (head : List ℕ) → Goes t0 t1 (WritesOther area generation head false)
      → ForSome t0 (IsKept area version generation end frames Nothing broken Shut)
      → ForSome t1 (IsKept area version generation end frames Nothing broken Shut)
  kept_unwritten head goes kept =
      tells_on t0 t1 (WritesOther area generation head false)
      (IsKept area version generation end frames Nothing broken Shut)
      (IsKept area version generation end frames Nothing broken Shut)
      (λ p q turns kept. record {
        holds = frames_still (Begins (0 ∷ [])) p q turns.runs kept.holds;
        next = [];
        beside =
            turns.failed refl;
      }) goes kept

  pub opens : (ok : Bool) → Goes t0 t1 (WritesSynced ok (other area) 0 (1 ∷ []))
      → Goes t0 t1 (OpensOther area generation ok)
  opens ok writes = goes_weaker t0 t1 (WritesSynced ok (other area) 0 (1 ∷ [])) (OpensOther area generation ok)
      (λ p q i j w next has. next_opens (other area) generation next ok p q w has) writes

  -- what was written there, and how long its head is
  written_there : (size : ℕ) (p : Past) (kept : IsKept area version generation end frames Nothing broken
      (Written size) p) → (length kept.next ≡ size) × Has (Begins (0 ∷ unframed (generation + 1) kept.next))
      (now p (other area))
  written_there size p kept = (
    kept.beside.reads.0,
    has_weaker (IsBeside kept.next (Written size) generation)
        (Begins (0 ∷ unframed (generation + 1) kept.next)) (now p (other area)) (λ bytes b. b.1) kept.beside,
  )

  pub kept_opened : (size : ℕ) → generation < 2 ^ 64 - 1 → broken ≡ false → Goes t0 t1 (OpensOther area generation true)
      → ForSome t0 (IsKept area version generation end frames Nothing broken (Written size))
      → ForSome t1 (IsKept (other area) newest (generation + 1) (23 + size) 0 Nothing broken Loose)
  kept_opened size below whole goes kept =
      tells_on t0 t1 (OpensOther area generation true) (IsKept area version generation end frames Nothing broken
      (Written size)) (IsKept (other area) newest (generation + 1) (23 + size) 0 Nothing broken Loose) goes_on goes
      kept
    where
      goes_on : (p q : Past) → OpensOther area generation true p q
          → IsKept area version generation end frames Nothing broken (Written size) p
          → IsKept (other area) newest (generation + 1) (23 + size) 0 Nothing broken Loose q
      goes_on p q opens kept =
          let there = written_there size p kept in
          let turns = opens kept.next there.1 in
          let h = kept.holds whole in
          let ready = ready_of area version generation end frames p h in
          record {
            holds = λ _. record {
              gate = 1;
              is_open = omega arith;
              version_is = inr refl;
              head = kept.next;
              payloads = [];
              doubt = None;
              count = refl;
              doubtful = refl;
              stands = subst (λ (n : ℕ). Ready (1 ∷ heading newest (generation + 1) kept.next) [] (23 + n)
                  (now q (other area))) there.0 (unframed_ready 1 (generation + 1) kept.next (now q (other area))
                  (turns.done refl));
            };
            next = [];
            beside = subst (Has (IsLoose (generation + 1))) (sym
                (runs_there (IsNext generation kept.next) (other area) p q turns.runs) ∙ refl)
                (subst (λ (x : Area). Has (IsLoose (generation + 1)) (now p x)) (sym (other_other area))
                (older_ready h.gate version generation h.head h.payloads end (now p area) h.version_is
                (omega (arith, below)) ready));
          }

  pub kept_unopened : (size : ℕ) → Goes t0 t1 (OpensOther area generation false)
      → ForSome t0 (IsKept area version generation end frames Nothing broken (Written size))
      → ForSome t1 (IsKept area version generation end frames Header broken (Written size))
  kept_unopened size goes kept =
      tells_on t0 t1 (OpensOther area generation false) (IsKept area version generation end frames Nothing broken
      (Written size)) (IsKept area version generation end frames Header broken (Written size))
      (λ p q opens kept.
      let there = written_there size p kept in
      let turns = opens kept.next there.1 in
      record {
        holds = frames_still (IsNext generation kept.next) p q turns.runs kept.holds;
        next = kept.next;
        beside = has_weaker (IsNext generation kept.next) (IsInDoubt kept.next (Written size) generation)
            (now q (other area)) (λ bytes b. (there.0, b)) (turns.failed refl);
      }) goes kept

  pub closes_header : (gate : OtherGate) (ok : Bool) → Goes t0 t1 (WritesSynced ok (other area) 0 (0 ∷ []))
      → Goes t0 t1 (ClosesHeader area gate generation ok)
  closes_header gate ok writes =
      goes_weaker t0 t1 (WritesSynced ok (other area) 0 (0 ∷ [])) (ClosesHeader area gate generation ok)
      (λ p q i j w next has. doubt_closes (other area) next gate generation ok p q w has) writes

  pub kept_header_mended : (gate : OtherGate) → Goes t0 t1 (ClosesHeader area gate generation true)
      → ForSome t0 (IsKept area version generation end frames Header broken gate)
      → ForSome t1 (IsKept area version generation end frames Nothing broken Shut)
  kept_header_mended gate goes kept =
      tells_on t0 t1 (ClosesHeader area gate generation true)
      (IsKept area version generation end frames Header broken gate)
      (IsKept area version generation end frames Nothing broken Shut)
      (λ p q closes kept. let turns = closes kept.next kept.beside in
      record {
        holds = frames_still (IsInDoubt kept.next gate generation) p q turns.runs kept.holds;
        next =
            [];
        beside = turns.done refl;
      }) goes kept

  pub kept_header_unmended : (gate : OtherGate) → Goes t0 t1 (ClosesHeader area gate generation false)
      → ForSome t0 (IsKept area version generation end frames Header broken gate)
      → ForSome t1 (IsKept area version generation end frames Header broken gate)
  kept_header_unmended gate goes kept =
      tells_on t0 t1 (ClosesHeader area gate generation false)
      (IsKept area version generation end frames Header broken gate)
      (IsKept area version generation end frames Header broken gate)
      (λ p q closes kept. let turns = closes kept.next kept.beside in
      record {
        holds = frames_still (IsInDoubt kept.next gate generation) p q turns.runs kept.holds;
        next =
            kept.next;
        beside = turns.failed refl;
      }) goes kept
