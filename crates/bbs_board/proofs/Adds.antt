-- A command behind what a disk reads, or behind a checkpoint of that: the two ways in which it is stored.
use Rattle.std.proofs.Common.{◌≡◌, ◌⊎◌, inl, inr, ⊎_elim, ℕ, Bool, true, false, List, None, refl, sym, ap, subst, ◌∙◌, if◌then◌else◌}
use Rattle.disk_trait.specs.Past.{Past, Image, Images, ImagesSince, content}
use Rattle.disk_trait.specs.Runs.{Extends}
use Rattle.disk_trait.specs.declared.area.Area.{Area}
use Rattle.disk_trait.proofs.Public.{extends_then, images_split}
use Rattle.bbs_codec.specs.Command.{spelled}
use Rattle.bbs_journal.proofs.Public.{opens_once}
use Rattle.bbs_model.specs.Step.{rows_after}
use Rattle.bbs_model.specs.declared.command.Command.{Command}
use Rattle.bbs_model.specs.declared.rows.Rows.{Rows}
use Rattle.bbs_board.specs.Checkpoint.{Compacts}
use Rattle.bbs_board.specs.Stops.{OpensWith, IsOnTheWay, Stores}
use Rattle.bbs_board.specs.Written.{Reading, OpensTo, ReadsAs, LeadsTo, compacted, is_due, with_room, with_payload, stored_behind}

-- a command is put behind what was read: all the while a stop leaves that, or that and the command, and once it is
-- acknowledged only the second
pub record AddsBehind (ok : Bool) (rows : Rows) (c : Command) (p q : Past) : Type 0 where
  pub extends : Extends p q
  pub before : Reading
  pub reads : ReadsAs before p
  pub leads : LeadsTo before rows
  pub after : LeadsTo (with_payload (spelled c) before) (rows_after rows c)
  pub each : (image : Image) → ImagesSince q p.clock image
      → OpensTo before image ⊎ OpensTo (with_payload (spelled c) before) image
  pub done : ok ≡ true → (image : Image) → Images q image → OpensTo (with_payload (spelled c) before) image

-- ---- readings

abbrev reading_of : Area → ℕ → ℕ → List ℕ → List (List ℕ) → Reading
reading_of area version generation head payloads = record
    { area = area; version = version; generation = generation; head = head; payloads = payloads }

-- an image is opened in one way
pub same_reading : (image : Image) (r s : Reading) → OpensTo r image → OpensTo s image → r ≡ s
same_reading image r s one two =
    let same = opens_once image r.area s.area r.version s.version r.generation s.generation r.head s.head r.payloads
    s.payloads None None _ _ one two in
    ap (λ (a : Area). reading_of a r.version r.generation r.head r.payloads) same.area_is
    ∙ ap (λ (v : ℕ). reading_of s.area v r.generation r.head r.payloads) same.version_is
    ∙ ap (λ (g : ℕ). reading_of s.area s.version g r.head r.payloads) same.generation_is
    ∙ ap (λ (h : List ℕ). reading_of s.area s.version s.generation h r.payloads) same.head_is
    ∙ ap (λ (l : List (List ℕ)). reading_of s.area s.version s.generation s.head l) same.payloads_are

pub room_there : (rows : Rows) (r : Reading) → is_due r ≡ false → with_room rows r ≡ r
room_there rows r short = ap (λ (b : Bool). if b then compacted rows r else r) short

pub room_made : (rows : Rows) (r : Reading) → is_due r ≡ true → with_room rows r ≡ compacted rows r
room_made rows r due = ap (λ (b : Bool). if b then compacted rows r else r) due

opens_with : (rows : Rows) (r s : Reading) (image : Image) → r ≡ s → OpensTo s image → LeadsTo s rows
    → OpensWith rows r image
opens_with rows r s image same opens leads = record {
  opens =
      subst (λ (x : Reading). OpensTo x image) (sym same) opens;
  leads =
      subst (λ (x : Reading). LeadsTo x rows) (sym same) leads;
}

-- ---- a command that is stored

module _ (ok : Bool) (rows : Rows) (c : Command) (p q : Past) where
  -- behind what was read
  pub stores_short : AddsBehind ok rows c p q → ((r : Reading) → ReadsAs r p → is_due r ≡ false) → Stores ok rows c p q
  stores_short a short =
      let same : stored_behind rows c a.before ≡ with_payload (spelled c) a.before =
      ap (with_payload (spelled c)) (room_there rows a.before (short a.before a.reads)) in
      record {
        extends = a.extends;
        before = a.before;
        reads = a.reads;
        leads = a.leads;
        each = λ image images. ⊎_elim (λ old. inl old) (λ new.
            inr (inr (opens_with (rows_after rows c) (stored_behind rows c a.before)
            (with_payload (spelled c) a.before) image same new a.after))) (a.each image images);
        done = λ is image images. opens_with (rows_after rows c) (stored_behind rows c a.before)
            (with_payload (spelled c) a.before) image same (a.done is image images) a.after;
      }

  -- behind a checkpoint
  module _ (s : Past) (extends : Extends p q) (m : Compacts true rows p q) (a : AddsBehind ok rows c q s)
      (due : (r : Reading) → ReadsAs r p → is_due r ≡ true) where
    there : OpensWith rows (compacted rows m.before) (content q)
    there = m.done refl (content q) (q.possible q.clock)

    room : with_room rows m.before ≡ a.before
    room = room_made rows m.before (due m.before m.reads) ∙ same_reading (content q)
        (compacted rows m.before) a.before there.opens a.reads

    stored : stored_behind rows c m.before ≡ with_payload (spelled c) a.before
    stored = ap (with_payload (spelled c)) room

    early_image : (image : Image) → OpensTo m.before image ⊎ OpensWith rows (compacted rows m.before) image
        → IsOnTheWay rows c m.before image
    early_image image (inl old) = inl old
    early_image image (inr moved) = inr (inl (opens_with rows (with_room rows m.before) (compacted rows m.before) image
        (room_made rows m.before (due m.before m.reads)) moved.opens moved.leads))

    late_image : (image : Image) → OpensTo a.before image ⊎ OpensTo (with_payload (spelled c) a.before) image
        → IsOnTheWay rows c m.before image
    late_image image (inl moved) = inr (inl (opens_with rows
        (with_room rows m.before) a.before image room moved a.leads))
    late_image image (inr new) = inr (inr (opens_with (rows_after rows c) (stored_behind rows c m.before)
        (with_payload (spelled c) a.before) image stored new a.after))

    pub stores_moved : Stores ok rows c p s
    stores_moved = record {
      extends = extends_then p q s extends a.extends;
      before = m.before;
      reads = m.reads;
      leads = m.leads;
      each = λ image images. ⊎_elim (λ early. early_image image (m.each image early))
          (λ late. late_image image (a.each image late)) (images_split q s p.clock image a.extends images);
      done = λ is image images. opens_with (rows_after rows c) (stored_behind rows c m.before)
          (with_payload (spelled c) a.before) image stored (a.done is image images) a.after;
    }

-- a checkpoint before it failed
pub stores_unmoved : (rows : Rows) (c : Command) (p q : Past) → Extends p q → Compacts false rows p q
    → ((r : Reading) → ReadsAs r p → is_due r ≡ true) → Stores false rows c p q
stores_unmoved rows c p q extends m due = record {
  extends = extends;
  before = m.before;
  reads = m.reads;
  leads = m.leads;
  each = λ image images. ⊎_elim (λ old. inl old)
      (λ moved. inr (inl (opens_with rows (with_room rows m.before) (compacted rows m.before) image
      (room_made rows m.before (due m.before m.reads)) moved.opens moved.leads))) (m.each image images);
  done = λ never. absurd (cc (never));
}
