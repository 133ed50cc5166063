-- How a board stands after a mend.
use Rattle.std.proofs.Common.{◌≡◌, inl, inr, ⊎_elim, ℕ, ◌+◌, ◌≤◌, Bool, true, false, List, [], ◌∷◌, length, Option, Some, None, refl, sym, subst, ◌∙◌, if◌then◌else◌}
use Rattle.std.specs.Prelude.{is_some}
use Rattle.disk_trait.specs.Held.{Held, Has, Leaves}
use Rattle.disk_trait.specs.Past.{Past, Image, ImagesSince, now, other}
use Rattle.disk_trait.specs.Runs.{Extends, Runs}
use Rattle.disk_trait.proofs.Public.{runs_image, runs_there}
use Rattle.disk_trait.specs.declared.area.Area.{Area}
use Rattle.bbs_journal.specs.Areas.{Begins, IsArea, BeforeOrAfter, Ready, Stands}
use Rattle.bbs_journal.specs.Beside.{Beside}
use Rattle.bbs_journal.specs.Calls.{Closes, left_of}
use Rattle.bbs_journal.specs.Grammar.{heading}
use Rattle.bbs_journal.specs.Switching.{ClosesHeader}
use Rattle.bbs_journal.specs.declared.other_gate.OtherGate.{OtherGate}
use Rattle.bbs_journal.specs.declared.other_gate.OtherGate.TheVariants.{Shut}
use Rattle.bbs_journal.specs.declared.waiting.Waiting.TheVariants.{Nothing, Frame, Header}
use Rattle.bbs_journal.specs.declared.waiting.Waiting.{Waiting}
use Rattle.bbs_journal.proofs.Public.{other_other, own_still}
use Rattle.bbs_model.specs.Replay.{IsLawful}
use Rattle.bbs_model.specs.declared.item.Item.{Item}
use Rattle.bbs_model.specs.declared.rows.Rows.{Rows}
use Rattle.bbs_board.specs.Kept.{IsFound, Kept}
use Rattle.bbs_board.specs.View.{Holds, MayShow}
use Rattle.bbs_board.proofs.Keeping.{found, kept_on}

-- the place of the next gate, and the number of frames
abbrev pub end_of : Bool → ℕ → List ℕ → ℕ
end_of ok end payload = if ok then end + 3 + length payload else end

abbrev pub frames_of : Bool → ℕ → ℕ
frames_of ok frames = if ok then frames + 1 else frames

-- what waits after a mend, after an append, and the other gate after a mend of it
abbrev pub left_waiting : Bool → Waiting → Waiting
left_waiting ok waiting = if ok then Nothing else waiting

abbrev pub frame_left : Bool → Waiting
frame_left after = if after then Frame else Nothing

abbrev pub left_known : Bool → OtherGate → OtherGate
left_known ok known = if ok then Shut else known

-- a doubt is there where a frame waits, and only there
pub one_waits : (doubt : Option (List ℕ)) → true ≡ is_some doubt → (one : List ℕ) × (doubt ≡ Some one)
one_waits None is = absurd (cc)
one_waits (Some one) is = (one, refl)

pub none_waits : (doubt : Option (List ℕ)) → false ≡ is_some doubt → doubt ≡ None
none_waits None is = refl
none_waits (Some one) is = absurd (cc)

pub ready_where : (doubt : Option (List ℕ)) (head : List ℕ) (payloads : List (List ℕ)) (end : ℕ) (held : Held)
    → false ≡ is_some doubt → Stands head payloads doubt end held → Ready head payloads end held
ready_where None head payloads end held is stands = stands
ready_where (Some payload) head payloads end held is stands = absurd (cc)

pub ready_area : (head : List ℕ) (payloads : List (List ℕ)) (end : ℕ) (held : Held) → Ready head payloads end held
    → (bytes : List ℕ) → Leaves held bytes → IsArea head payloads bytes
ready_area head payloads end held ready bytes leaves =
    record { frames = ready.frames; whole = ready.whole; begins = ready.has.leaves bytes leaves }

-- ---- a mend of the gate behind the last frame

module _ (base : Rows) (log : List Item) (marks : List ℕ) (since : ℕ) (area : Area) (version generation end frames : ℕ)
    (known : OtherGate) (p q : Past) (h : Holds base log marks since area version generation end frames Frame known p)
    (lawful : IsLawful base log) where
  module _ (one : List ℕ) (doubted : h.doubt ≡ Some one)
      (runs : Runs area (BeforeOrAfter (h.gate ∷ heading version generation h.head) h.payloads one) p q) where
    frame_window : (image : Image) → ImagesSince q p.clock image → (from : ℕ) → from ≤ length log
        → ((payload : List ℕ) (shows : MayShow version base log payload) → from ≤ shows.place)
        → IsFound base log from image
    frame_window image images from le below =
        let both = runs_image (BeforeOrAfter (h.gate ∷ heading version generation h.head) h.payloads one) area p q image
        runs images in
        found base log marks since area version generation end frames Frame known p h lawful image
        (⊎_elim (λ is. inl is) (λ more. inr (one, doubted, more)) both.0)
        (h.beside.leaves (image (other area)) both.1) from le below

    frame_kept : Kept base log marks since q
    frame_kept = kept_on version base log marks since p q h.kept runs.extends frame_window

    frame_beside : Has (Beside h.next Frame known generation) (now q (other area))
    frame_beside = subst (Has (Beside h.next Frame known generation))
        (sym (runs_there (BeforeOrAfter (h.gate ∷ heading version generation h.head) h.payloads one) area p q runs))
        h.beside

    frame_mended : (ok : Bool) → Stands (h.gate ∷ heading version generation h.head) h.payloads (left_of ok one) end
        (now q area) → Holds base log marks since area version generation end frames (left_waiting ok Frame) known q
    frame_mended true stands = record {
      gate = h.gate;
      is_open = h.is_open;
      head = h.head;
      payloads = h.payloads;
      count = h.count;
      doubt = None;
      goes_with = h.goes_with;
      waits_is = refl;
      may_show = λ payload is. absurd (cc (is));
      stands = stands;
      next = h.next;
      beside = frame_beside;
      leads_on = λ size never. absurd (cc (never));
      rows_are = h.rows_are;
      kept = frame_kept;
    }
    frame_mended false stands = record {
      gate = h.gate;
      is_open = h.is_open;
      head = h.head;
      payloads = h.payloads;
      count = h.count;
      doubt = Some one;
      goes_with = h.goes_with;
      waits_is = refl;
      may_show = λ payload is. h.may_show payload (doubted ∙ is);
      stands = stands;
      next = h.next;
      beside = frame_beside;
      leads_on = λ size never. absurd (cc (never));
      rows_are = h.rows_are;
      kept = frame_kept;
    }

  pub holds_frame : (ok : Bool) → Closes area ok end p q
      → Extends p q × Holds base log marks since area version generation end frames (left_waiting ok Frame) known q
  holds_frame ok closes =
      let one = one_waits h.doubt h.waits_is in
      let mends = closes (h.gate ∷ heading version generation h.head) h.payloads one.0
      (subst (λ (d : Option (List ℕ)). Stands (h.gate ∷ heading version generation h.head) h.payloads d end
      (now p area)) one.1 h.stands) in
      (mends.runs.extends, frame_mended one.0 one.1 mends.runs ok mends.leaves)

-- ---- a mend of the header gate of the other area

module _ (base : Rows) (log : List Item) (marks : List ℕ) (since : ℕ) (area : Area) (version generation end frames : ℕ)
    (known : OtherGate) (p q : Past) (h : Holds base log marks since area version generation end frames Header known p)
    (lawful : IsLawful base log) where
  header_ready : Ready (h.gate ∷ heading version generation h.head) h.payloads end (now p area)
  header_ready = ready_where h.doubt (h.gate ∷ heading version generation h.head) h.payloads end
      (now p area) h.waits_is h.stands

  module _ (runs : Runs (other area) (Beside h.next Header known generation) p q) where
    header_window : (image : Image) → ImagesSince q p.clock image → (from : ℕ) → from ≤ length log
        → ((payload : List ℕ) (shows : MayShow version base log payload) → from ≤ shows.place)
        → IsFound base log from image
    header_window image images from le below =
        let both = runs_image (Beside h.next Header known generation) (other area) p q image runs images in
        let own : Leaves (now p area) (image area) = subst (λ (x : Area). Leaves (now p x) (image x))
        (other_other area) both.1 in
        found base log marks since area version generation end frames Header known p h lawful image
        (inl (ready_area (h.gate ∷ heading version generation h.head) h.payloads end (now p area) header_ready
        (image area) own)) both.0 from le below

    still_ready : Ready (h.gate ∷ heading version generation h.head) h.payloads end (now q area)
    still_ready = subst (Ready (h.gate ∷ heading version generation h.head) h.payloads end)
        (sym (own_still (Beside h.next Header known generation) area p q runs)) header_ready

    header_mended : (ok : Bool) → (ok ≡ true → Has (Begins (0 ∷ [])) (now q (other area)))
        → (ok ≡ false → Has (Beside h.next Header known generation) (now q (other area)))
        → Holds base log marks since area version generation end frames (left_waiting ok Header) (left_known ok known) q
    header_mended true done failed = record {
      gate = h.gate;
      is_open = h.is_open;
      head = h.head;
      payloads = h.payloads;
      count = h.count;
      doubt = None;
      goes_with = h.goes_with;
      waits_is = refl;
      may_show = λ payload is. absurd (cc (is));
      stands = still_ready;
      next = h.next;
      beside = done refl;
      leads_on = λ size never. absurd (cc (never));
      rows_are = h.rows_are;
      kept = kept_on version base log marks since p q h.kept runs.extends header_window;
    }
    header_mended false done failed = record {
      gate = h.gate;
      is_open = h.is_open;
      head = h.head;
      payloads = h.payloads;
      count = h.count;
      doubt = None;
      goes_with = h.goes_with;
      waits_is = refl;
      may_show = λ payload is. absurd (cc (is));
      stands = still_ready;
      next = h.next;
      beside = failed refl;
      leads_on = h.leads_on;
      rows_are = h.rows_are;
      kept = kept_on version base log marks since p q h.kept runs.extends header_window;
    }

  pub holds_header : (ok : Bool) → ClosesHeader area known generation ok p q
      → Extends p q × Holds base log marks since area version generation end frames (left_waiting ok Header)
      (left_known ok known) q
  holds_header ok closes =
      let turns = closes h.next h.beside in
      (turns.runs.extends, header_mended turns.runs ok turns.done turns.failed)
