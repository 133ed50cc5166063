-- How a board stands after a switch to the other area, and what a stop leaves of it.
use Rattle.std.proofs.Common.{◌≡◌, ◌⊎◌, inl, inr, ⊎_elim, ℕ, ◌+◌, ◌<◌, ◌≤◌, ◌^◌, Bool, true, false, ◌||◌, ◌==◌, nat_lt, List, [], ◌∷◌, length, None, Result, refl, sym, ap, subst, arith, if◌then◌else◌}
use Rattle.std.proofs.lemmas.Bool.Decides.{nat_tests}
use Rattle.wire_fields.specs.Reading.{◌>>=◌}
use Rattle.wire_fields.proofs.Public.{bind_ok}
use Rattle.disk_trait.specs.Held.{Has, Leaves}
use Rattle.disk_trait.specs.Past.{Past, Image, Images, ImagesSince, now, other, content}
use Rattle.disk_trait.specs.declared.area.Area.{Area}
use Rattle.head_codec.specs.Head.{head_spelled, FitsHead}
use Rattle.bbs_journal.specs.declared.load_fault.LoadFault.{LoadFault}
use Rattle.head_codec.proofs.Public.{head_again, head_next}
use Rattle.bbs_journal.specs.Areas.{Ready}
use Rattle.bbs_journal.specs.Beside.{Beside}
use Rattle.bbs_journal.specs.Grammar.{heading}
use Rattle.bbs_journal.specs.Stops.{OpensAs}
use Rattle.bbs_journal.specs.View.{frame_waits}
use Rattle.bbs_journal.specs.Header.{newest}
use Rattle.bbs_journal.specs.declared.other_gate.OtherGate.{OtherGate}
use Rattle.bbs_journal.specs.declared.other_gate.OtherGate.TheVariants.{Loose}
use Rattle.bbs_journal.specs.declared.waiting.Waiting.{Waiting}
use Rattle.bbs_journal.specs.declared.waiting.Waiting.TheVariants.{Nothing}
use Rattle.bbs_journal.proofs.Public.{other_other}
use Rattle.bbs_snapshot.specs.Switches.{Switches}
use Rattle.bbs_model.specs.Replay.{replay_log}
use Rattle.bbs_model.specs.declared.item.Item.{Item}
use Rattle.bbs_model.specs.declared.rows.Rows.{Rows}
use Rattle.bbs_board.specs.Checkpoint.{Compacts}
use Rattle.bbs_board.specs.Kept.{IsFound, Kept}
use Rattle.bbs_board.specs.Opening.{rows_in, followed}
use Rattle.bbs_board.specs.View.{Holds, LeadsOn}
use Rattle.bbs_board.specs.Written.{Reading, OpensTo, LeadsTo, headed_instead, compacted}
use Rattle.bbs_board.proofs.Frames.{next-followed}
use Rattle.bbs_board.proofs.Settling.{next-settled, rows_read, rows_newest, few_version}
use Rattle.bbs_board.proofs.Keeping.{kept_on}
use Rattle.bbs_board.proofs.Logs.{reached_end}
use Rattle.bbs_board.proofs.Steps.{ready_where}
use Rattle.bbs_board.proofs.Storing.{holds_images}

-- ---- the head of the rows is that of a next area

module _ (base : Rows) (log : List Item) (marks : List ℕ) (since : ℕ) (area : Area) (version generation end frames : ℕ)
    (waiting : Waiting) (known : OtherGate) (p : Past) (h : Holds base log marks since area version generation end
    frames waiting known p) where
  abbrev rows : Rows
  rows = replay_log base log

  -- each generation goes with a transition at least
  pub not_above : generation + length h.payloads ≤ rows.next + version
  not_above =
      let start = bind_ok (rows_in version area h.head) (λ start.
      followed version area None start (23 + length h.head) h.payloads) rows h.rows_are in
      let read = rows_read version area h.head start.0 start.1 in
      let begins = head_next version h.head read.0 read.1 in
      let grown = next-followed version area start.0 rows (23 + length h.head) h.payloads start.2 in
      let low = h.goes_with.not_ahead begins.0 in
      omega (arith, low, begins.1, grown, next-settled version read.0, ap (λ (r : Rows). r.next) read.2)

  -- a further generation goes with the rows, as there is a frame or the version rises
  next_fits : (0 < frames) ⊎ (version ≡ 1) → generation + 1 ≤ rows.next + 2
  next_fits (inl some) =
      let count = h.count in
      omega (arith, not_above, few_version version h.goes_with.version_is, count, some)
  next_fits (inr old) = omega (arith, not_above, old)

  pub leads : (0 < frames) ⊎ (version ≡ 1) → FitsHead newest rows → length (head_spelled newest rows) < 2 ^ 32
      → LeadsOn area generation (head_spelled newest rows) rows
  leads some fits small =
      let again = head_again newest rows fits in
      let begins = head_next newest (head_spelled newest rows) rows again in
      let fit = next_fits some in
      record {
        goes_with = record {
          version_is = inr refl;
          above = omega arith;
          below = omega (arith, fit, fits.valid.next);
          fits = small;
          not_ahead = λ long. omega (arith, fit, begins.1);
        };
        rows_are = ap (λ (r : Result Rows LoadFault). r >>= λ start.
            followed newest (other area) None start (23 + length (head_spelled newest rows)) [])
            (rows_newest (other area) (head_spelled newest rows) rows again);
      }

-- ---- a switch to it

module _ (base : Rows) (log : List Item) (marks : List ℕ) (since : ℕ) (area : Area) (version generation end frames : ℕ)
    (known : OtherGate) (p q : Past) (h : Holds base log marks since area version generation end frames Nothing known p)
    (new : List ℕ) (lead : LeadsOn area generation new (replay_log base log)) where
  pub calm_ready : Ready (h.gate ∷ heading version generation h.head) h.payloads end (now p area)
  calm_ready = ready_where h.doubt (h.gate ∷ heading version generation h.head) h.payloads end
      (now p area) h.waits_is h.stands

  switch_found : (from : ℕ) → from ≤ length log → (image : Image)
      → OpensAs image area version generation h.head h.payloads
      ⊎ OpensAs image (other area) newest (generation + 1) new [] → IsFound base log from image
  switch_found from le image (inl old) = record {
    rows = replay_log base log;
    board = record {
      area = area;
      version = version;
      generation = generation;
      head = h.head;
      payloads =
          h.payloads;
      end = _;
      opening = old;
      rows_are = h.rows_are;
    };
    reached = reached_end base log from le;
  }
  switch_found from le image (inr opened) = record {
    rows = replay_log base log;
    board = record {
      area = other area;
      version = newest;
      generation = generation + 1;
      head = new;
      payloads = [];
      end =
          _;
      opening = opened;
      rows_are = lead.rows_are;
    };
    reached = reached_end base log from le;
  }

  module _ (ok : Bool) (waiting : Waiting) (left : OtherGate)
      (s : Switches ok area version generation h.head h.payloads waiting left new p q) where
    switch_kept : Kept base log marks since q
    switch_kept = kept_on version base log marks since p q h.kept s.extends
        (λ image images from le below. switch_found from le image (s.each image images))

    pub holds_there : ok ≡ true → Holds base log marks since (other area) newest (generation + 1)
        (23 + length new) 0 Nothing Loose q
    holds_there is =
        let made = s.made is in
        record {
          gate = 1;
          is_open = omega arith;
          head = new;
          payloads = [];
          count = refl;
          doubt = None;
          goes_with = lead.goes_with;
          waits_is = refl;
          may_show = λ payload never. absurd (cc (never));
          stands = made.ready;
          next = [];
          beside = subst (λ (x : Area). Has (Beside [] Nothing Loose (generation + 1)) (now q x))
              (sym (other_other area)) made.beside;
          leads_on = λ size never. absurd (cc (never));
          rows_are = lead.rows_are;
          kept = switch_kept;
        }

    pub holds_here : ok ≡ false → frame_waits waiting ≡ false
        → Holds base log marks since area version generation end frames waiting left q
    holds_here is calm =
        let failed = s.failed is in
        record {
          gate = h.gate;
          is_open = h.is_open;
          head = h.head;
          payloads = h.payloads;
          count = h.count;
          doubt = None;
          goes_with = h.goes_with;
          waits_is = calm;
          may_show = λ payload never. absurd (cc (never));
          stands = subst (Ready (h.gate ∷ heading version generation h.head) h.payloads end)
              (sym failed.still) calm_ready;
          next = new;
          beside = failed.beside;
          leads_on = λ size waits written. lead;
          rows_are = h.rows_are;
          kept = switch_kept;
        }

-- ---- what a stop leaves, to the byte

some_compact : (frames version : ℕ) → (0 < frames) ⊎ (version ≡ 1) → nat_lt 0 frames || version == 1 ≡ true
some_compact frames version (inl some) = grind (arith, nat_tests)
some_compact frames version (inr old) = grind (arith, nat_tests)

none_compact : (frames version : ℕ) → frames ≡ 0 → (version ≡ 1 → ⊥) → nat_lt 0 frames || version == 1 ≡ false
none_compact frames version none new = grind (arith, nat_tests)

instead_is : (rows : Rows) (r : Reading) → (0 < length r.payloads) ⊎ (r.version ≡ 1)
    → compacted rows r ≡ headed_instead rows r
instead_is rows r some = ap (λ (b : Bool). if b then headed_instead rows r else r)
    (some_compact (length r.payloads) r.version some)

none_instead : (rows : Rows) (r : Reading) → length r.payloads ≡ 0 → (r.version ≡ 1 → ⊥) → compacted rows r ≡ r
none_instead rows r none new = ap (λ (b : Bool). if b then headed_instead rows r else r)
    (none_compact (length r.payloads) r.version none new)

module _ (base : Rows) (log : List Item) (marks : List ℕ) (since : ℕ) (area : Area) (version generation end frames : ℕ)
    (known : OtherGate) (p : Past) (h : Holds base log marks since area version generation end frames Nothing known
    p) where
  abbrev reading : Reading
  reading = record { area = area; version = version; generation = generation; head = h.head; payloads = h.payloads }

  reads_now : (image : Image) → Images p image → OpensTo reading image
  reads_now = holds_images base log marks since area version generation end frames known p h

  still_reads : (image : Image) → ImagesSince p p.clock image → OpensTo reading image
  still_reads image images =
      let here : images.moment ≡ p.clock = let from = images.from in let to = images.to in omega (arith, from, to) in
      reads_now image (λ a. subst (λ (m : ℕ). Leaves (p.held m a) (image a)) here (images.leaves a))

  -- a checkpoint that was given up
  pub compacts_not : Compacts false (replay_log base log) p p
  compacts_not = record {
    before = reading;
    reads = reads_now (content p) (p.possible p.clock);
    leads = h.rows_are;
    each = λ image images. inl (still_reads image images);
    done = λ never. absurd (cc (never));
  }

  -- and one of an area of the newest version without frames
  pub compacts_none : frames ≡ 0 → (version ≡ 1 → ⊥) → Compacts true (replay_log base log) p p
  compacts_none none new =
      let count = h.count in
      let same : compacted (replay_log base log) reading ≡ reading =
      none_instead (replay_log base log) reading (omega (arith, count, none)) new in
      record {
        before = reading;
        reads = reads_now (content p) (p.possible p.clock);
        leads = h.rows_are;
        each = λ image images. inl (still_reads image images);
        done = λ is image images. record {
          opens = subst (λ (r : Reading). OpensTo r image) (sym same) (reads_now image images);
          leads = subst (λ (r : Reading). LeadsTo r (replay_log base log)) (sym same) h.rows_are;
        };
      }

  -- and one that was tried
  pub compacts_by : (q : Past) (ok : Bool) (waiting : Waiting) (left : OtherGate) → (0 < frames) ⊎ (version ≡ 1)
      → LeadsOn area generation (head_spelled newest (replay_log base log)) (replay_log base log)
      → Switches ok area version generation h.head h.payloads waiting left
      (head_spelled newest (replay_log base log)) p q → Compacts ok (replay_log base log) p q
  compacts_by q ok waiting left some lead s =
      let count = h.count in
      let same = instead_is (replay_log base log) reading (⊎_elim (λ frame. inl (omega (arith, count, frame)))
      (λ old. inr old) some) in
      let leads_there = subst (λ (r : Reading). LeadsTo r (replay_log base log)) (sym same) lead.rows_are in
      record {
        before = reading;
        reads = reads_now (content p) (p.possible p.clock);
        leads = h.rows_are;
        each = λ image images. ⊎_elim (λ old. inl old) (λ opened.
            inr (record { opens = subst (λ (r : Reading). OpensTo r image) (sym same) opened; leads = leads_there }))
            (s.each image images);
        done = λ is image images. record {
          opens = subst (λ (r : Reading). OpensTo r image) (sym same)
              (s.done is image images);
          leads = leads_there;
        };
      }
