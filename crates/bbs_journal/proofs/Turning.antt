-- A write and its sync are a turn; two turns are an append, and one is a mend.
use Rattle.std.specs.Prelude.{not}
use Rattle.std.proofs.Common.{◌≡◌, inl, inr, ℕ, ◌+◌, ◌≤◌, Bool, true, false, Option, List, [], ◌∷◌, ◌++◌, length, refl, subst, arith, length-append}
use Rattle.disk_trait.specs.Held.{Has}
use Rattle.disk_trait.specs.Past.{Past, now, content}
use Rattle.disk_trait.specs.Runs.{Runs, Turns}
use Rattle.disk_trait.specs.Steps.{Goes, Changes, Wrote, Synced, range_of, overwritten}
use Rattle.disk_trait.proofs.Public.{Bears, write_fails, write_syncs, runs_then, runs_weaker, has_weaker, goes_then, goes_weaker}
use Rattle.disk_trait.specs.declared.area.Area.{Area}
use Rattle.bbs_journal.specs.Frames.{IsPayload, frame_spelled, Whole}
use Rattle.bbs_journal.specs.Areas.{Begins, Staged, BeforeOrAfter, Ready, Waits, body_of}
use Rattle.bbs_journal.specs.Calls.{WritesSynced, Appends, AddsFrame, Mends, Closes}
use Rattle.bbs_journal.proofs.Bytes.{begins_length, bears_begins, staged_length, staged_of, bears_staged, body_written, gate_written}
use Rattle.bbs_journal.proofs.Frames.{whole_more, framed, closed, before_or_after, place_more}

pub turned : (P Q : List ℕ → Type 0) (area : Area) (at : ℕ) (bytes : List ℕ) → Bears P (range_of at bytes)
    → (ok : Bool) (p q : Past) → WritesSynced ok area at bytes p q → at ≤ length (content p area) → Has P (now p area)
    → Q (overwritten at bytes (content p area))
    → Turns area ok P Q p q
turned P Q area at bytes bears true p q (r, wrote, synced) within has becomes =
    write_syncs P Q area at bytes bears true p r q wrote synced within has becomes
turned P Q area at bytes bears false p q (inl wrote) within has becomes =
    write_fails P Q area at bytes bears p q wrote within has
turned P Q area at bytes bears false p q (inr (r, wrote, synced)) within has becomes =
    write_syncs P Q area at bytes bears false p r q wrote synced within has becomes

module _ (area : Area) (front body : List ℕ) (end : ℕ) (is : end ≡ length front) where
  -- the body is written behind the closed gate
  body_turn : (ok : Bool) (p q : Past) → WritesSynced ok area (end + 1) body p q
      → Has (Begins (front ++ 0 ∷ [])) (now p area) → Turns area ok (Begins (front ++ 0 ∷ []))
      (Begins (front ++ 0 ∷ body)) p q
  body_turn ok p q writes has =
      let n = length-append front (0 ∷ []) in
      turned (Begins (front ++ 0 ∷ [])) (Begins (front ++ 0 ∷ body)) area (end + 1) body
      (bears_begins (front ++ 0 ∷ []) (range_of (end + 1) body) (omega (arith, is, n))) ok p q writes
      (omega (arith, is, n, begins_length (front ++ 0 ∷ []) (content p area) has.reads)) has
      (body_written front body (content p area) end is has.reads)

  -- a gate is written before its body
  pub gate_turn : (gate : ℕ) (ok : Bool) (p q : Past) → WritesSynced ok area end (gate ∷ []) p q
      → Has (Staged front body) (now p area) → Turns area ok (Staged front body) (Begins (front ++ gate ∷ body)) p q
  gate_turn gate ok p q writes has =
      turned (Staged front body) (Begins (front ++ gate ∷ body)) area end (gate ∷ [])
      (bears_staged front body (range_of end (gate ∷ [])) is refl) ok p q writes
      (omega (arith, is, staged_length front body (content p area) has.reads)) has
      (gate_written front body gate (content p area) end is has.reads)

module _ (area : Area) (head : List ℕ) (payloads : List (List ℕ)) (payload : List ℕ) (end : ℕ)
    (fits : IsPayload payload) where
  runs_before : (frames : List ℕ) (p q : Past) → Whole payloads frames
      → Runs area (Begins (head ++ frames ++ 0 ∷ [])) p q → Runs area (BeforeOrAfter head payloads payload) p q
  runs_before frames p q whole runs =
      runs_weaker (Begins (head ++ frames ++ 0 ∷ [])) (BeforeOrAfter head payloads payload) area p q
      (λ bytes b. inl (record { frames = frames; whole = whole; begins = b })) runs

  runs_gate : (frames : List ℕ) (p q : Past) → Whole payloads frames
      → Runs area (Staged (head ++ frames) (body_of payload)) p q → Runs area (BeforeOrAfter head payloads payload) p q
  runs_gate frames p q whole runs =
      runs_weaker (Staged (head ++ frames) (body_of payload)) (BeforeOrAfter head payloads payload) area p q
      (before_or_after head frames payload payloads whole fits) runs

  -- the body was not written
  body_fails : (p q : Past) → WritesSynced false area (end + 1) (body_of payload) p q
      → Ready head payloads end (now p area) → Appends area false false head payloads payload end p q
  body_fails p q writes ready =
      let turn = body_turn area (head ++ ready.frames) (body_of payload) end ready.place false p q writes ready.has in
      record {
        runs = runs_before ready.frames p q ready.whole turn.runs;
        leaves = record { frames = ready.frames; whole = ready.whole; place = ready.place; has = turn.failed refl };
      }

  -- behind a body that was written the gate is opened, or not
  gate_opens : (ok : Bool) (p q r : Past) → WritesSynced true area (end + 1) (body_of payload) p q
      → WritesSynced ok area end (1 ∷ []) q r → Ready head payloads end (now p area)
      → Appends area ok (not ok) head payloads payload end p r
  gate_opens ok p q r writes opens ready =
      let frames : List ℕ = ready.frames in
      let front : List ℕ = head ++ frames in
      let body : List ℕ = body_of payload in
      let first = body_turn area front body end ready.place true p q writes ready.has in
      let staged : Has (Staged front body) (now q area) = has_weaker (Begins (front ++ 0 ∷ body)) (Staged front body)
      (now q area) (staged_of front body 0) (first.done refl) in
      let second = gate_turn area front body end ready.place 1 ok q r opens staged in
      let runs : Runs area (BeforeOrAfter head payloads payload) p r =
      runs_then (BeforeOrAfter head payloads payload) area p q r (runs_before frames p q ready.whole first.runs)
      (runs_gate frames q r ready.whole second.runs) in
      ends ok r frames ready.whole ready.place second runs
    where
      ends : (ok : Bool) (r : Past) (frames : List ℕ) → Whole payloads frames → end ≡ length (head ++ frames)
          → Turns area ok (Staged (head ++ frames) (body_of payload))
          (Begins ((head ++ frames) ++ 1 ∷ body_of payload)) q r
          → Runs area (BeforeOrAfter head payloads payload) p r → Appends area ok (not ok) head payloads payload end p r
      ends true r frames whole place turn runs = record {
        runs = runs;
        leaves = record {
          frames = frames ++ 1 ∷ frame_spelled payload;
          whole = whole_more payloads frames payload 1 (omega arith) fits whole;
          place = place_more head frames payload end 1 place;
          has = has_weaker (Begins ((head ++ frames) ++ 1 ∷ body_of payload))
              (Begins (head ++ (frames ++ 1 ∷ frame_spelled payload) ++ 0 ∷ [])) (now r area)
              (framed head frames payload 1) (turn.done refl);
        };
      }
      ends false r frames whole place turn runs = record {
        runs = runs;
        leaves = record { frames = frames; whole = whole; fits = fits; place = place; has = turn.failed refl };
      }

  -- a gate in doubt is closed, or not
  gate_closes : (ok : Bool) (p q : Past) → WritesSynced ok area end (0 ∷ []) p q
      → Waits head payloads payload end (now p area) → Mends area ok head payloads payload end p q
  gate_closes true p q writes waits =
      let front : List ℕ = head ++ waits.frames in
      let turn = gate_turn area front (body_of payload) end waits.place 0 true p q writes waits.has in
      record {
        runs = runs_gate waits.frames p q waits.whole turn.runs;
        leaves = record {
          frames = waits.frames;
          whole = waits.whole;
          place = waits.place;
          has = has_weaker (Begins (front ++ 0 ∷ body_of payload)) (Begins (front ++ 0 ∷ [])) (now q area)
              (closed head waits.frames payload) (turn.done refl);
        };
      }
  gate_closes false p q writes waits =
      let turn = gate_turn area (head ++ waits.frames) (body_of payload) end waits.place 0 false p q writes waits.has in
      record {
        runs = runs_gate waits.frames p q waits.whole turn.runs;
        leaves = record {
          frames = waits.frames;
          whole = waits.whole;
          fits = fits;
          place = waits.place;
          has =
              turn.failed refl;
        };
      }

-- ---- the same, where the disk may tell nothing

pub refused : (t0 t1 : Option Past) (area : Area) (end : ℕ) (payload body : List ℕ) → body ≡ body_of payload
    → IsPayload payload → Goes t0 t1 (WritesSynced false area (end + 1) body)
    → Goes t0 t1 (AddsFrame area false false payload end)
refused t0 t1 area end payload body body_is fits writes =
    goes_weaker t0 t1 (WritesSynced false area (end + 1) body) (AddsFrame area false false payload end)
    (λ p q i j w head payloads ready. body_fails area head payloads payload end fits p q
    (subst (λ (b : List ℕ). WritesSynced false area (end + 1) b p q) body_is w) ready) writes

pub opened : (t0 t1 t2 : Option Past) (area : Area) (ok : Bool) (end : ℕ) (payload body : List ℕ)
    → body ≡ body_of payload → IsPayload payload
    → Goes t0 t1 (WritesSynced true area (end + 1) body) → Goes t1 t2 (WritesSynced ok area end (1 ∷ []))
    → Goes t0 t2 (AddsFrame area ok (not ok) payload end)
opened t0 t1 t2 area ok end payload body body_is fits writes opens =
    goes_then t0 t1 t2 (WritesSynced true area (end + 1) body) (WritesSynced ok area end (1 ∷ []))
    (AddsFrame area ok (not ok) payload end)
    (λ p q r i j k w o head payloads ready. gate_opens area head payloads payload end fits ok p q r
    (subst (λ (b : List ℕ). WritesSynced true area (end + 1) b p q) body_is w) o ready) writes opens

pub mended : (t0 t1 : Option Past) (area : Area) (ok : Bool) (end : ℕ) → Goes t0 t1 (WritesSynced ok area end (0 ∷ []))
    → Goes t0 t1 (Closes area ok end)
mended t0 t1 area ok end writes =
    goes_weaker t0 t1 (WritesSynced ok area end (0 ∷ [])) (Closes area ok end)
    (λ p q i j w head payloads payload waits. gate_closes area head payloads payload end waits.fits ok p q w waits)
    writes

-- a write and a sync of which each may have failed
pub write_failed : (t0 t1 : Option Past) (area : Area) (at : ℕ) (bytes : List ℕ)
    → Goes t0 t1 (Changes area (Wrote false at bytes)) → Goes t0 t1 (WritesSynced false area at bytes)
write_failed t0 t1 area at bytes wrote = goes_weaker t0 t1 (Changes area (Wrote false at bytes))
    (WritesSynced false area at bytes) (λ p q i j w. inl w) wrote

pub write_made : (t0 t1 t2 : Option Past) (area : Area) (ok : Bool) (at : ℕ) (bytes : List ℕ)
    → Goes t0 t1 (Changes area (Wrote true at bytes)) → Goes t1 t2 (Changes area (Synced ok))
    → Goes t0 t2 (WritesSynced ok area at bytes)
write_made t0 t1 t2 area true at bytes wrote synced =
    goes_then t0 t1 t2 (Changes area (Wrote true at bytes)) (Changes area (Synced true))
    (WritesSynced true area at bytes) (λ p q r i j k w s. (q, w, s)) wrote synced
write_made t0 t1 t2 area false at bytes wrote synced =
    goes_then t0 t1 t2 (Changes area (Wrote true at bytes)) (Changes area (Synced false))
    (WritesSynced false area at bytes) (λ p q r i j k w s. inr (q, w, s)) wrote synced
