-- What a prepare that the disk broke off has done.
use Rattle.std.proofs.Common.{◌≡◌, ◌⊎◌, inl, inr, ℕ, ◌≤◌, Bool, true, false, Option, List, [], ◌∷◌, length, refl, sym, ap, ◌∙◌, arith}
use Rattle.std.specs.Option.{ForSome}
use Rattle.disk_trait.specs.Held.{Held, Has}
use Rattle.disk_trait.specs.Past.{Past, now, content}
use Rattle.disk_trait.specs.Steps.{Goes, ChangesNothing, Changes, Wrote, Synced, range_of}
use Rattle.disk_trait.proofs.Public.{length_overwritten, Bears, wrote_has, sync_has, looks_has, runs_then, runs_change, runs_look, synced_content, goes_then, goes_weaker}
use Rattle.disk_trait.specs.declared.area.Area.{Area}
use Rattle.disk_trait.specs.declared.area.Area.TheVariants.{A, B}
use Rattle.bbs_journal.specs.Preparing.{IsShort, PreparesInPart}
use Rattle.disk_trait.specs.Shows.{Peeks}
use Rattle.bbs_journal.proofs.Peeking.{each_area}

-- what a stop could leave before is short
short_before : (p : Past) → Has (IsShort (now p A)) (now p A)
short_before p = record {
  reads = record { older = content p A; could = p.possible p.clock A; short = omega arith };
  leaves = λ left leaves. record { older = left; could = leaves; short = omega arith };
}

-- and so is what the write of the 52 bytes makes of it, or leaves torn
short_bears : (before : Held) (bytes : List ℕ) → length bytes ≡ 52 → Bears (IsShort before) (range_of 0 bytes)
short_bears before bytes size old new short torn are = record {
  older = short.older;
  could = short.could;
  short = let less = short.short in let long = torn.no_longer in omega (arith, less, long, size);
}

-- what a read gives after that write, over an empty area
wrote_short : (ok : Bool) (bytes : List ℕ) (old new : Held) → length bytes ≡ 52 → old.reads ≡ []
    → Wrote ok 0 bytes old new → length new.reads ≤ 52
wrote_short true bytes old new size empty wrote =
    let none = ap length empty in
    let long = length_overwritten 0 bytes old.reads (omega arith) in
    omega (arith, none, long, size, ap (λ (h : Held). length h.reads) wrote)
wrote_short false bytes old new size empty (inl same) =
    omega (arith, ap (λ (h : Held). length h.reads) same, ap length empty)
wrote_short false bytes old new size empty (inr tears) = let long = tears.torn.no_longer in
    omega (arith, long, ap length empty, size)

part_has : (p q : Past) → PreparesInPart p q → Has (IsShort (now p A)) (now q A)
part_has p q part = record {
  reads = record {
    older = content p A;
    could = p.possible p.clock A;
    short = let short = part.a in
        omega (arith, short);
  };
  leaves = λ left leaves. part.runs.each q.clock part.runs.extends.later (omega arith) left leaves;
}

-- nothing but looks so far
part_looks : (p q r : Past) → content p A ≡ [] → content p B ≡ [] → ChangesNothing p q → ChangesNothing q r
    → PreparesInPart p r
part_looks p q r a b first second =
    let has = short_before p in
    record {
      a_was = a;
      b_was = b;
      runs = runs_then (IsShort (now p A)) A p q r (runs_look (IsShort (now p A)) A p q first has)
          (runs_look (IsShort (now p A)) A q r second (looks_has (IsShort (now p A)) A p q first has));
      a = let e : content r A ≡ [] = ap (λ (h : Held). h.reads) (second.same A ∙ first.same A) ∙ a in
          omega (arith, ap length e);
      b = ap (λ (h : Held). h.reads) (second.same B ∙ first.same B) ∙ b;
    }

part_change : (p q r : Past) (Step : Held → Held → Type 0) → PreparesInPart p q → Changes A Step q r
    → Has (IsShort (now p A)) (now r A) → length (content r A) ≤ 52 → PreparesInPart p r
part_change p q r Step part changes has short = record {
  a_was = part.a_was;
  b_was = part.b_was;
  runs = runs_then (IsShort (now p A)) A p q r part.runs
      (runs_change (IsShort (now p A)) A Step q r changes (part_has p q part) has);
  a = short;
  b = ap (λ (h : Held). h.reads) changes.there ∙ part.b;
}

part_look : (p q r : Past) → PreparesInPart p q → ChangesNothing q r → PreparesInPart p r
part_look p q r part looks = record {
  a_was = part.a_was;
  b_was = part.b_was;
  runs = runs_then (IsShort (now p A)) A p q r part.runs
      (runs_look (IsShort (now p A)) A q r looks (part_has p q part));
  a = let short = part.a in omega (arith, short, ap (λ (h : Held). length h.reads) (looks.same A));
  b = ap (λ (h : Held). h.reads) (looks.same B) ∙ part.b;
}

-- the first area is empty still, and is written to
part_wrote : (ok : Bool) (bytes : List ℕ) (p q r : Past) → length bytes ≡ 52 → content q A ≡ [] → PreparesInPart p q
    → Changes A (Wrote ok 0 bytes) q r → PreparesInPart p r
part_wrote ok bytes p q r size empty part wrote =
    part_change p q r (Wrote ok 0 bytes) part wrote
    (wrote_has (IsShort (now p A)) A 0 bytes (short_bears (now p A) bytes size) ok q r wrote (omega arith)
    (part_has p q part))
    (wrote_short ok bytes (now q A) (now r A) size empty wrote.here)

part_synced : (ok : Bool) (p q r : Past) → PreparesInPart p q → Changes A (Synced ok) q r → PreparesInPart p r
part_synced ok p q r part synced =
    part_change p q r (Synced ok) part synced (sync_has (IsShort (now p A)) ok A q r synced (part_has p q part))
    (let short = part.a in omega (arith, short, ap length (synced_content ok A q r synced)))

-- a sync that failed changes nothing
unsynced_looks : (q r : Past) → Changes B (Synced false) q r → ChangesNothing q r
unsynced_looks q r synced = record {
  time = synced.time;
  same =
      each_area B (λ (x : Area). now r x ≡ now q x) synced.here synced.there;
}

empty_of : (bytes : List ℕ) (n : ℕ) → n ≡ length bytes → n ≡ 0 → bytes ≡ []
empty_of [] n is none = refl
empty_of (x ∷ bytes) n is none = absurd (omega (arith, is, none))

-- both lengths were zero
record Empty (p q : Past) : Type 0 where
  part : PreparesInPart p q
  a : content q A ≡ []

-- ---- the same, where the disk may tell nothing

module _ (t0 t1 t2 t3 : Option Past) (a b : ℕ) (bytes : List ℕ) (first : Goes t0 t1 ChangesNothing)
    (second : Goes t1 t2 ChangesNothing) (a_is : ForSome t1 (λ p. a ≡ length (content p A)))
    (b_is : ForSome t2 (λ p. b ≡ length (content p B)))
    (a_none : a ≡ 0) (b_none : b ≡ 0) (size : length bytes ≡ 52) where
  empty : Goes t0 t2 Empty
  empty = goes_then t0 t1 t2 ChangesNothing ChangesNothing Empty (λ p q r i j k f s.
      let a_here : content q A ≡ [] = empty_of (content q A) a (a_is q j) a_none in
      let a_was : content p A ≡ [] = sym (ap (λ (h : Held). h.reads) (f.same A)) ∙ a_here in
      let b_here : content r B ≡ [] = empty_of (content r B) b (b_is r k) b_none in
      let b_was : content p B ≡ [] = sym (ap (λ (h : Held). h.reads) (s.same B ∙ f.same B)) ∙ b_here in
      record { part = part_looks p q r a_was b_was f s; a = ap (λ (h : Held). h.reads) (s.same A) ∙ a_here }) first
      second

  wrote_part : (ok : Bool) → Goes t2 t3 (Changes A (Wrote ok 0 bytes)) → Goes t0 t3 PreparesInPart
  wrote_part ok wrote = goes_then t0 t2 t3 Empty (Changes A (Wrote ok 0 bytes)) PreparesInPart
      (λ p q r i j k e w. part_wrote ok bytes p q r size e.a e.part w) empty wrote

  -- the write failed
  pub broke_write : Goes t2 t3 (Changes A (Wrote false 0 bytes)) → Goes t0 t3 (λ p q. Peeks p q ⊎ PreparesInPart p q)
  broke_write wrote = goes_weaker t0 t3 PreparesInPart (λ p q. Peeks p q ⊎ PreparesInPart p q)
      (λ p q i j part. inr part) (wrote_part false wrote)

  module _ (t4 : Option Past) (wrote : Goes t2 t3 (Changes A (Wrote true 0 bytes))) where
    synced_part : (ok : Bool) → Goes t3 t4 (Changes A (Synced ok)) → Goes t0 t4 PreparesInPart
    synced_part ok synced = goes_then t0 t3 t4 PreparesInPart (Changes A (Synced ok)) PreparesInPart
        (λ p q r i j k part s. part_synced ok p q r part s) (wrote_part true wrote) synced

    -- the sync of the first area failed
    pub broke_sync : Goes t3 t4 (Changes A (Synced false)) → Goes t0 t4 (λ p q. Peeks p q ⊎ PreparesInPart p q)
    broke_sync synced = goes_weaker t0 t4 PreparesInPart (λ p q. Peeks p q ⊎ PreparesInPart p q)
        (λ p q i j part. inr part) (synced_part false synced)

    -- or that of the second
    pub broke_last : (t5 : Option Past) → Goes t3 t4 (Changes A (Synced true)) → Goes t4 t5 (Changes B (Synced false))
        → Goes t0 t5 (λ p q. Peeks p q ⊎ PreparesInPart p q)
    broke_last t5 synced last = goes_then t0 t4 t5 PreparesInPart (Changes B (Synced false))
        (λ p q. Peeks p q ⊎ PreparesInPart p q)
        (λ p q r i j k part s. inr (part_look p q r part (unsynced_looks q r s))) (synced_part true synced) last
