-- The three steps of a switch join to one.
use Rattle.std.proofs.Common.{◌≡◌, ◌⊎◌, inl, inr, ℕ, zero, suc, ◌+◌, ◌<◌, Bool, true, false, Option, List, [], ◌∷◌, ◌++◌, length, refl, sym, ap, ◌∙◌, subst, arith, append_assoc}
use Rattle.disk_trait.specs.Held.{Held, Has, Leaves}
use Rattle.disk_trait.specs.Past.{Past, Image, ImagesSince, now, other}
use Rattle.disk_trait.specs.Runs.{Runs}
use Rattle.disk_trait.specs.Steps.{Goes}
use Rattle.disk_trait.proofs.Public.{runs_then, runs_weaker, runs_image, has_weaker, goes_then, goes_weaker}
use Rattle.disk_trait.specs.declared.area.Area.{Area}
use Rattle.bbs_journal.specs.Areas.{Begins, IsArea, Ready}
use Rattle.bbs_journal.specs.Beside.{unframed, IsNext, Beside}
use Rattle.bbs_journal.specs.Grammar.{heading, GoesWith}
use Rattle.bbs_journal.specs.Header.{newest}
use Rattle.bbs_journal.specs.Other.{IsLoose}
use Rattle.bbs_journal.specs.Stops.{OpensAs}
use Rattle.bbs_journal.specs.Switching.{ClosesOther, WritesOther, OpensOther, with_closed, with_written, with_opened, size_written}
use Rattle.bbs_journal.specs.View.{JournalView}
use Rattle.bbs_journal.specs.declared.other_gate.OtherGate.{OtherGate}
use Rattle.bbs_journal.specs.declared.other_gate.OtherGate.TheVariants.{Shut, Loose, Written}
use Rattle.bbs_journal.specs.declared.waiting.Waiting.{Waiting}
use Rattle.bbs_journal.specs.declared.waiting.Waiting.TheVariants.{Nothing, Header}
use Rattle.bbs_journal.proofs.Public.{area_opens, other_other, own_still, older_ready, unframed_ready}
use Rattle.bbs_snapshot.specs.Switches.{Switches, SwitchesAll}

-- what the other area holds meanwhile: nothing or an older area, a closed gate, or the next area behind any gate
abbrev Meanwhile : ℕ → List ℕ → List ℕ → Type 0
Meanwhile generation new bytes = IsLoose generation bytes ⊎ (Begins (0 ∷ []) bytes ⊎ IsNext generation new bytes)

module _ (area : Area) (version generation : ℕ) (new : List ℕ) where
  loose_runs : (p q : Past) → Runs (other area) (IsLoose generation) p q
      → Runs (other area) (Meanwhile generation new) p q
  loose_runs p q = runs_weaker (IsLoose generation) (Meanwhile generation new) (other area) p q
      (λ bytes loose. inl loose)

  shut_runs : (p q : Past) → Runs (other area) (Begins (0 ∷ [])) p q → Runs (other area) (Meanwhile generation new) p q
  shut_runs p q = runs_weaker (Begins (0 ∷ [])) (Meanwhile generation new) (other area) p q
      (λ bytes shut. inr (inl shut))

  next_runs : (p q : Past) → Runs (other area) (IsNext generation new) p q
      → Runs (other area) (Meanwhile generation new) p q
  next_runs p q = runs_weaker (IsNext generation new) (Meanwhile generation new) (other area) p q
      (λ bytes next. inr (inr next))

  -- closing made no call, or ran
  closed_runs : (gate : OtherGate) (p q : Past) → ClosesOther area gate generation true p q
      → (q ≡ p) ⊎ Runs (other area) (Meanwhile generation new) p q
  closed_runs Shut p q closes = inl closes.1
  closed_runs Loose p q closes = inr (loose_runs p q closes.runs)
  closed_runs (Written size) p q closes = inl closes.1

  runs_on : (p q r : Past) → (q ≡ p) ⊎ Runs (other area) (Meanwhile generation new) p q
      → Runs (other area) (Meanwhile generation new) q r → Runs (other area) (Meanwhile generation new) p r
  runs_on p q r (inl same) second = subst (λ (x : Past). Runs (other area) (Meanwhile generation new) x r) same second
  runs_on p q r (inr first) second = runs_then (Meanwhile generation new) (other area) p q r first second

  -- ---- what a stop leaves is opened as the old area or the new one

  module _ (byte : ℕ) (head : List ℕ) (payloads : List (List ℕ)) (end : ℕ) (is_open : 0 < byte)
      (goes : GoesWith version generation head) (follows : GoesWith newest (generation + 1) new) (p : Past)
      (ready : Ready (byte ∷ heading version generation head) payloads end (now p area)) where
    old_area : (bytes : List ℕ) → Leaves (now p area) bytes
        → IsArea (byte ∷ heading version generation head) payloads bytes
    old_area bytes leaves = record {
      frames = ready.frames;
      whole = ready.whole;
      begins =
          ready.has.leaves bytes leaves;
    }

    new_opens : (image : Image) (gate : ℕ) → 0 < gate → Leaves (now p area) (image area)
        → Begins (gate ∷ unframed (generation + 1) new) (image (other area))
        → OpensAs image (other area) newest (generation + 1) new []
    new_opens image gate gate_open leaves begins =
        let older : IsLoose (generation + 1) (image area) =
        (older_ready byte version generation head payloads end (now p area) goes.version_is goes.below ready).leaves
        (image area) leaves in
        area_opens image (other area) gate newest (generation + 1) new [] Loose gate_open follows
        (subst (λ (x : Area). IsLoose (generation + 1) (image x)) (sym (other_other area)) older)
        (unframed_area (image (other area)) begins)
      where
        unframed_area : (bytes : List ℕ) → Begins (gate ∷ unframed (generation + 1) new) bytes
            → IsArea (gate ∷ heading newest (generation + 1) new) [] bytes
        unframed_area bytes b = record {
          frames = [];
          whole = refl;
          begins =
              record { rest = b.rest; parts = b.parts ∙ regroup b.rest };
        }
          where
            regroup : (rest : List ℕ) → (gate ∷ unframed (generation + 1) new) ++ rest
                ≡ ((gate ∷ heading newest (generation + 1) new) ++ [] ++ 0 ∷ []) ++ rest
            regroup rest = simp append_assoc

    by_gate : (image : Image) (gate : ℕ) (rest : List ℕ) → Leaves (now p area) (image area)
        → image (other area) ≡ gate ∷ (unframed (generation + 1) new ++ rest)
        → OpensAs image area version generation head payloads
        ⊎ OpensAs image (other area) newest (generation + 1) new []
    by_gate image zero rest leaves is =
        inl (area_opens image area byte version generation head payloads Shut is_open goes
        (record { rest = unframed (generation + 1) new ++ rest; parts = is }) (old_area (image area) leaves))
    by_gate image (suc n) rest leaves is = inr (new_opens image (suc n) (omega arith) leaves
        (record { rest = rest; parts = is }))

    meanwhile_opens : (image : Image) → Leaves (now p area) (image area) → Meanwhile generation new (image (other area))
        → OpensAs image area version generation head payloads
        ⊎ OpensAs image (other area) newest (generation + 1) new []
    meanwhile_opens image leaves (inl loose) = inl (area_opens image area byte version generation head payloads Loose
        is_open goes loose (old_area (image area) leaves))
    meanwhile_opens image leaves (inr (inl shut)) = inl (area_opens image area byte version generation head payloads
        Shut is_open goes shut (old_area (image area) leaves))
    meanwhile_opens image leaves (inr (inr next)) = by_gate image next.gate next.rest leaves next.parts

    each_opens : (q : Past) → Runs (other area) (Meanwhile generation new) p q → (image : Image)
        → ImagesSince q p.clock image
        → OpensAs image area version generation head payloads
        ⊎ OpensAs image (other area) newest (generation + 1) new []
    each_opens q runs image since =
        let both = runs_image (Meanwhile generation new) (other area) p q image runs since in
        meanwhile_opens image (subst (λ (x : Area). Leaves (now p x) (image x)) (other_other area) both.1) both.0

    -- a switch that failed
    fails : (waiting : Waiting) (gate : OtherGate) (q : Past) → Runs (other area) (Meanwhile generation new) p q
        → Has (Beside new waiting gate generation) (now q (other area))
        → Switches false area version generation head payloads waiting gate new p q
    fails waiting gate q runs has = record {
      extends = runs.extends;
      each = each_opens q runs;
      done = λ never. absurd (cc (never));
      made = λ never. absurd (cc (never));
      failed = λ _. record { still = own_still (Meanwhile generation new) area p q runs; beside = has };
    }

    -- and one that was made
    makes : (waiting : Waiting) (gate : OtherGate) (q : Past) → Runs (other area) (Meanwhile generation new) p q
        → Has (Begins (1 ∷ unframed (generation + 1) new)) (now q (other area))
        → Switches true area version generation head payloads waiting gate new p q
    makes waiting gate q runs has =
        let still : now q area ≡ now p area = own_still (Meanwhile generation new) area p q runs in
        record {
          extends = runs.extends;
          each = each_opens q runs;
          done = λ is image images. new_opens image 1 (omega arith)
              (subst (λ (h : Held). Leaves h (image area)) still (images area))
              (has.leaves (image (other area)) (images (other area)));
          made = λ is. record {
            ready = unframed_ready 1 (generation + 1) new (now q (other area)) has;
            beside = subst (Has (IsLoose (generation + 1))) (sym still)
                (older_ready byte version generation head payloads end (now p area) goes.version_is goes.below ready);
          };
          failed = λ never. absurd (cc (never));
        }

-- ---- the same, where the disk may tell nothing

module _ (area : Area) (version generation : ℕ) (new : List ℕ) (t0 t1 : Option Past) (old : OtherGate) where
  unclosed : (p q : Past) (gate : OtherGate) → ClosesOther area gate generation false p q
      → SwitchesAll false area version generation Header gate new p q
  unclosed p q Shut closes = absurd (let never = closes.0 in cc)
  unclosed p q Loose closes = λ byte head payloads end is_open goes follows ready.
      fails area version generation new byte head payloads end is_open goes follows p ready Header Loose q
      (loose_runs area version generation new p q closes.runs) (closes.failed refl)
  unclosed p q (Written size) closes = absurd (let never = closes.0 in cc)

  -- closing failed
  pub fails_to_close : Goes t0 t1 (ClosesOther area old generation false)
      → Goes t0 t1 (SwitchesAll false area version generation Header old new)
  fails_to_close closes = goes_weaker t0 t1 (ClosesOther area old generation false)
      (SwitchesAll false area version generation Header old new) (λ p q i j c. unclosed p q old c) closes

  module _ (t2 : Option Past) (closes : Goes t0 t1 (ClosesOther area old generation true)) where
    -- writing failed
    pub fails_to_write : Goes t1 t2 (WritesOther area generation new false)
        → Goes t0 t2 (SwitchesAll false area version generation Nothing Shut new)
    fails_to_write writes = goes_then t0 t1 t2 (ClosesOther area old generation true)
        (WritesOther area generation new false) (SwitchesAll false area version generation Nothing Shut new)
        (λ p q r i j k c w byte head payloads end is_open goes follows ready.
        fails area version generation new byte head payloads end is_open goes follows p ready Nothing Shut r
        (runs_on area version generation new p q r (closed_runs area version generation new old p q c)
        (shut_runs area version generation new q r w.runs)) (w.failed refl)) closes writes

    -- what was written behind the gate, and what ran so far
    record Wrote (p r : Past) : Type 0 where
      runs : Runs (other area) (Meanwhile generation new) p r
      has : Has (Begins (0 ∷ unframed (generation + 1) new)) (now r (other area))

    module _ (t3 : Option Past) (writes : Goes t1 t2 (WritesOther area generation new true)) where
      wrote : Goes t0 t2 Wrote
      wrote = goes_then t0 t1 t2 (ClosesOther area old generation true) (WritesOther area generation new true) Wrote
          (λ p q r i j k c w. record {
            runs = runs_on area version generation new p q r
                (closed_runs area version generation new old p q c)
                (shut_runs area version generation new q r w.runs);
            has = w.done refl;
          }) closes writes

      -- opening failed
      pub fails_to_open : Goes t2 t3 (OpensOther area generation false)
          → Goes t0 t3 (SwitchesAll false area version generation Header (Written (length new)) new)
      fails_to_open opens = goes_then t0 t2 t3 Wrote (OpensOther area generation false)
          (SwitchesAll false area version generation Header (Written (length new)) new)
          (λ p q r i j k w o byte head payloads end is_open goes follows ready.
          let turns = o new w.has in
          fails area version generation new byte head payloads end is_open goes follows p ready Header
          (Written (length new)) r
          (runs_then (Meanwhile generation new) (other area) p q r w.runs
          (next_runs area version generation new q r turns.runs))
          (has_weaker (IsNext generation new) (Beside new Header (Written (length new)) generation) (now r (other area))
          (λ bytes next. (refl, next)) (turns.failed refl))) wrote opens

      -- all was made
      pub goes_on : (waiting : Waiting) (gate : OtherGate) → Goes t2 t3 (OpensOther area generation true)
          → Goes t0 t3 (SwitchesAll true area version generation waiting gate new)
      goes_on waiting gate opens = goes_then t0 t2 t3 Wrote (OpensOther area generation true)
          (SwitchesAll true area version generation waiting gate new)
          (λ p q r i j k w o byte head payloads end is_open goes follows ready.
          let turns = o new w.has in
          makes area version generation new byte head payloads end is_open goes follows p ready waiting gate r
          (runs_then (Meanwhile generation new) (other area) p q r w.runs
          (next_runs area version generation new q r turns.runs)) (turns.done refl)) wrote opens

-- ---- the three calls, each at the journal that the one before it left

module _ {D : Type 0} (told : D → Option Past) (v0 v1 : JournalView D) (new : List ℕ) where
  pub close_failed : v1 ≡ with_closed false v0 v1.disk → Goes (told v0.disk) (told v1.disk)
      (ClosesOther v0.area v0.gate v0.generation false)
      → Goes (told v0.disk) (told v1.disk) (SwitchesAll false v0.area v0.version v0.generation v1.waiting v1.gate new)
  close_failed left closes =
      let waiting : v1.waiting ≡ Header = ap (λ (v : JournalView D). v.waiting) left in
      let gate : v1.gate ≡ v0.gate = ap (λ (v : JournalView D). v.gate) left in
      rw (waiting, gate) (fails_to_close v0.area v0.version v0.generation new (told v0.disk)
      (told v1.disk) v0.gate closes)

  module _ (v2 : JournalView D) (calm : v0.waiting ≡ Nothing) (closed : v1 ≡ with_closed true v0 v1.disk)
      (closes : Goes (told v0.disk) (told v1.disk) (ClosesOther v0.area v0.gate v0.generation true)) where
    area_is : v1.area ≡ v0.area
    area_is = ap (λ (v : JournalView D). v.area) closed

    generation_is : v1.generation ≡ v0.generation
    generation_is = ap (λ (v : JournalView D). v.generation) closed

    here : (ok : Bool) → Goes (told v1.disk) (told v2.disk) (WritesOther v1.area v1.generation new ok)
        → Goes (told v1.disk) (told v2.disk) (WritesOther v0.area v0.generation new ok)
    here ok writes =
        subst (λ (a : Area). Goes (told v1.disk) (told v2.disk) (WritesOther a v0.generation new ok)) area_is
        (subst (λ (n : ℕ). Goes (told v1.disk) (told v2.disk) (WritesOther v1.area n new ok)) generation_is writes)

    pub write_failed : v2 ≡ with_written false (length new) v1 v2.disk
        → Goes (told v1.disk) (told v2.disk) (WritesOther v1.area v1.generation new false)
        → Goes (told v0.disk) (told v2.disk) (SwitchesAll false v0.area v0.version v0.generation v2.waiting v2.gate new)
    write_failed left writes =
        let waiting : v2.waiting ≡ Nothing = ap (λ (v : JournalView D). v.waiting) left ∙ ap
        (λ (v : JournalView D). v.waiting) closed ∙ calm in
        let gate : v2.gate ≡ Shut = ap (λ (v : JournalView D). v.gate) left ∙ ap
        (λ (v : JournalView D). v.gate) closed in
        rw (waiting, gate) (fails_to_write v0.area v0.version v0.generation new (told v0.disk) (told v1.disk) v0.gate
        (told v2.disk) closes (here false writes))

    module _ (v3 : JournalView D) (written : v2 ≡ with_written true (length new) v1 v2.disk)
        (writes : Goes (told v1.disk) (told v2.disk) (WritesOther v1.area v1.generation new true)) where
      there : (ok : Bool) → Goes (told v2.disk) (told v3.disk) (OpensOther v2.area v2.generation ok)
          → Goes (told v2.disk) (told v3.disk) (OpensOther v0.area v0.generation ok)
      there ok opens =
          subst (λ (a : Area). Goes (told v2.disk) (told v3.disk) (OpensOther a v0.generation ok))
          (ap (λ (v : JournalView D). v.area) written ∙ area_is)
          (subst (λ (n : ℕ). Goes (told v2.disk) (told v3.disk) (OpensOther v2.area n ok))
          (ap (λ (v : JournalView D). v.generation) written ∙ generation_is) opens)

      pub opened_or_not : (ok : Bool) → v3 ≡ with_opened ok (size_written v2.gate) v2 v3.disk
          → Goes (told v2.disk) (told v3.disk) (OpensOther v2.area v2.generation ok)
          → Goes (told v0.disk) (told v3.disk) (SwitchesAll ok v0.area v0.version v0.generation v3.waiting v3.gate new)
      opened_or_not true left opens =
          goes_on v0.area v0.version v0.generation new (told v0.disk) (told v1.disk) v0.gate (told v2.disk) closes
          (told v3.disk) (here true writes) v3.waiting v3.gate (there true opens)
      opened_or_not false left opens =
          let waiting : v3.waiting ≡ Header = ap (λ (v : JournalView D). v.waiting) left in
          let gate : v3.gate ≡ Written (length new) = ap (λ (v : JournalView D). v.gate) left ∙ ap
          (λ (v : JournalView D). v.gate) written in
          rw (waiting, gate) (fails_to_open v0.area v0.version v0.generation new (told v0.disk) (told v1.disk) v0.gate
          (told v2.disk) closes (told v3.disk) (here true writes) (there false opens))
