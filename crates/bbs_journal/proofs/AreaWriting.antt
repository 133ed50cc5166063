-- Writing a header and a head behind a closed gate: all the while a stop leaves that gate, and in the end all is there.
use Rattle.std.proofs.Common.{◌≡◌, ℕ, ◌+◌, ◌≤◌, Bool, true, false, Option, List, [], ◌∷◌, ◌++◌, length, take, drop, refl, sym, ap, ◌∙◌, subst, arith, length-append}
use Rattle.std.specs.Option.{ForSome}
use Rattle.disk_trait.specs.Held.{Has}
use Rattle.disk_trait.specs.Past.{Past, now, content}
use Rattle.disk_trait.specs.Runs.{Runs, Turns}
use Rattle.disk_trait.specs.Steps.{Goes, Changes, Wrote, overwritten, range_of}
use Rattle.disk_trait.proofs.Public.{wrote_has, wrote_content, write_fails, runs_change, runs_then, goes_then, goes_weaker, goes_back}
use Rattle.disk_trait.specs.declared.area.Area.{Area}
use Rattle.bbs_journal.specs.Areas.{Begins}
use Rattle.bbs_journal.specs.Calls.{WritesSynced}
use Rattle.bbs_journal.proofs.Bytes.{begins_take, begins_length, bears_begins}
use Rattle.bbs_journal.proofs.Turning.{turned}

-- the gate stands, whatever a stop leaves, and behind it these bytes are read
record Grows (area : Area) (front : List ℕ) (p q : Past) : Type 0 where
  runs : Runs area (Begins (0 ∷ [])) p q
  has : Has (Begins (0 ∷ [])) (now q area)
  reads : Begins (0 ∷ front) (content q area)

begins_more : (front bytes old : List ℕ) (at : ℕ) → at ≡ length front → Begins front old
    → Begins (front ++ bytes) (overwritten at bytes old)
begins_more front bytes old at is b = record {
  rest = drop (at + length bytes) old;
  parts = ap (λ (l : List ℕ). (l ++ bytes) ++ drop (at + length bytes) old)
      (ap (λ (n : ℕ). take n old) is ∙ begins_take front old b);
}

module _ (area : Area) (at : ℕ) (bytes : List ℕ) (behind : 1 ≤ at) where
  starts : (p q : Past) → Has (Begins (0 ∷ [])) (now p area) → at ≡ 1 → Changes area (Wrote true at bytes) p q
      → Grows area bytes p q
  starts p q has is wrote =
      let within : at ≤ length (content p area) = omega (arith, is, begins_length (0 ∷ []) (content p area) has.reads)
      in
      let after = wrote_has (Begins (0 ∷ [])) area at bytes
      (bears_begins (0 ∷ []) (range_of at bytes) behind) true p q wrote within has in
      record {
        runs = runs_change (Begins (0 ∷ [])) area (Wrote true at bytes) p q wrote has after;
        has = after;
        reads = subst (Begins (0 ∷ bytes)) (sym (wrote_content area at bytes p q wrote))
            (begins_more (0 ∷ []) bytes (content p area) at is has.reads);
      }

  more : (front : List ℕ) (p q r : Past) → at ≡ length (0 ∷ front) → Grows area front p q
      → Changes area (Wrote true at bytes) q r → Grows area (front ++ bytes) p r
  more front p q r is grows wrote =
      let within : at ≤ length (content q area) = omega (
        arith,
        is,
        begins_length (0 ∷ front) (content q area) grows.reads,
      ) in
      let after = wrote_has (Begins (0 ∷ [])) area at bytes
      (bears_begins (0 ∷ []) (range_of at bytes) behind) true q r wrote within grows.has in
      record {
        runs = runs_then (Begins (0 ∷ [])) area p q r grows.runs
            (runs_change (Begins (0 ∷ [])) area (Wrote true at bytes) q r wrote grows.has after);
        has = after;
        reads = subst (Begins (0 ∷ (front ++ bytes))) (sym (wrote_content area at bytes q r wrote))
            (begins_more (0 ∷ front) bytes (content q area) at is grows.reads);
      }

  -- the first write failed, or a later one
  fails_first : (Q : List ℕ → Type 0) (p q : Past) → Has (Begins (0 ∷ [])) (now p area) → at ≡ 1
      → Changes area (Wrote false at bytes) p q → Turns area false (Begins (0 ∷ [])) Q p q
  fails_first Q p q has is wrote =
      write_fails (Begins (0 ∷ [])) Q area at bytes (bears_begins (0 ∷ []) (range_of at bytes) behind) p q wrote
      (omega (arith, is, begins_length (0 ∷ []) (content p area) has.reads)) has

  fails_later : (Q : List ℕ → Type 0) (front : List ℕ) (p q r : Past) → at ≡ length (0 ∷ front) → Grows area front p q
      → Changes area (Wrote false at bytes) q r → Turns area false (Begins (0 ∷ [])) Q p r
  fails_later Q front p q r is grows wrote =
      let turns = write_fails (Begins (0 ∷ [])) Q area at bytes
      (bears_begins (0 ∷ []) (range_of at bytes) behind) q r wrote
      (omega (arith, is, begins_length (0 ∷ front) (content q area) grows.reads)) grows.has in
      record {
        runs = runs_then (Begins (0 ∷ [])) area p q r grows.runs turns.runs;
        done = turns.done;
        failed =
            turns.failed;
      }

  -- the last write, with the sync behind it
  ends : (front : List ℕ) (ok : Bool) (p q r : Past) → at ≡ length (0 ∷ front) → Grows area front p q
      → WritesSynced ok area at bytes q r → Turns area ok (Begins (0 ∷ [])) (Begins (0 ∷ (front ++ bytes))) p r
  ends front ok p q r is grows writes =
      let turns = turned (Begins (0 ∷ [])) (Begins (0 ∷ (front ++ bytes))) area at bytes
      (bears_begins (0 ∷ []) (range_of at bytes) behind) ok q r writes
      (omega (arith, is, begins_length (0 ∷ front) (content q area) grows.reads)) grows.has
      (begins_more (0 ∷ front) bytes (content q area) at is grows.reads) in
      record {
        runs = runs_then (Begins (0 ∷ [])) area p q r grows.runs turns.runs;
        done = turns.done;
        failed =
            turns.failed;
      }

-- ---- the same, where the disk may tell nothing

module _ (area : Area) (header head : List ℕ) (size : length header ≡ 22) (t0 : Option Past)
    (shut : ForSome t0 (λ p. Has (Begins (0 ∷ [])) (now p area))) where
  pub room_first : ForSome t0 (λ p. 1 ≤ length (content p area))
  room_first p is = begins_length (0 ∷ []) (content p area) (shut p is).reads

  pub fails_at_first : (t1 : Option Past) (Q : List ℕ → Type 0) → Goes t0 t1 (Changes area (Wrote false 1 header))
      → Goes t0 t1 (Turns area false (Begins (0 ∷ [])) Q)
  fails_at_first t1 Q wrote = goes_weaker t0 t1 (Changes area (Wrote false 1 header))
      (Turns area false (Begins (0 ∷ [])) Q) (λ p q i j w.
      fails_first area 1 header (omega arith) Q p q (shut p i) refl w) wrote

  module _ (t1 : Option Past) (wrote : Goes t0 t1 (Changes area (Wrote true 1 header))) where
    grows_first : Goes t0 t1 (Grows area header)
    grows_first = goes_weaker t0 t1 (Changes area (Wrote true 1 header)) (Grows area header)
        (λ p q i j w. starts area 1 header (omega arith) p q (shut p i) refl w) wrote

    pub room_second : ForSome t1 (λ p. 23 ≤ length (content p area))
    room_second q is = let back = goes_back t0 t1 (Grows area header) grows_first q is in
        omega (arith, size, begins_length (0 ∷ header) (content q area) back.2.reads)

    pub fails_at_second : (t2 : Option Past) (Q : List ℕ → Type 0) → Goes t1 t2 (Changes area (Wrote false 23 head))
        → Goes t0 t2 (Turns area false (Begins (0 ∷ [])) Q)
    fails_at_second t2 Q second =
        goes_then t0 t1 t2 (Grows area header) (Changes area (Wrote false 23 head))
        (Turns area false (Begins (0 ∷ [])) Q)
        (λ p q r i j k g w. fails_later area 23 head (omega arith) Q header p q r (omega (arith, size)) g w) grows_first
        second

    module _ (t2 : Option Past) (second : Goes t1 t2 (Changes area (Wrote true 23 head))) where
      grows_second : Goes t0 t2 (Grows area (header ++ head))
      grows_second = goes_then t0 t1 t2 (Grows area header) (Changes area (Wrote true 23 head))
          (Grows area (header ++ head))
          (λ p q r i j k g w. more area 23 head (omega arith) header p q r (omega (arith, size)) g w) grows_first second

      pub room_third : ForSome t2 (λ p. 23 + length head ≤ length (content p area))
      room_third q is =
          let back = goes_back t0 t2 (Grows area (header ++ head)) grows_second q is in
          omega (
            arith,
            size,
            length-append header head,
            begins_length (0 ∷ (header ++ head))
                (content q area) back.2.reads,
          )

      pub ends_all : (t3 : Option Past) (ok : Bool) → Goes t2 t3 (WritesSynced ok area (23 + length head) (0 ∷ []))
          → Goes t0 t3 (Turns area ok (Begins (0 ∷ [])) (Begins (0 ∷ (header ++ head ++ 0 ∷ []))))
      ends_all t3 ok third =
          goes_then t0 t2 t3 (Grows area (header ++ head)) (WritesSynced ok area (23 + length head) (0 ∷ []))
          (Turns area ok (Begins (0 ∷ [])) (Begins (0 ∷ (header ++ head ++ 0 ∷ []))))
          (λ p q r i j k g w. ends area (23 + length head) (0 ∷ []) (omega arith) (header ++ head) ok p q r
          (omega (arith, size, length-append header head)) g w) grows_second third
