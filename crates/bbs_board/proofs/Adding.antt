-- How a board stands after an append, and after a doubt without a call.
use Rattle.std.proofs.Common.{◌≡◌, inl, ⊎_elim, ℕ, ◌+◌, ◌≤◌, Bool, true, false, List, [], ◌∷◌, ◌++◌, length, Some, None, Ok, refl, sym, ap, subst, ◌∙◌, arith, length-append}
use Rattle.disk_trait.specs.Held.{Held, Has, Leaves}
use Rattle.disk_trait.specs.Past.{Past, Image, ImagesSince, now, other}
use Rattle.disk_trait.specs.Runs.{Extends, Runs}
use Rattle.disk_trait.proofs.Public.{runs_image, runs_there}
use Rattle.disk_trait.specs.declared.area.Area.{Area}
use Rattle.bbs_codec.specs.Command.{spelled, FitsCommand, IsReadIn}
use Rattle.bbs_journal.specs.Areas.{BeforeOrAfter, Ready}
use Rattle.bbs_journal.specs.Beside.{Beside}
use Rattle.bbs_journal.specs.Calls.{Appended, Appends, AddsFrame}
use Rattle.bbs_journal.specs.Grammar.{heading}
use Rattle.bbs_journal.specs.declared.other_gate.OtherGate.{OtherGate}
use Rattle.bbs_journal.specs.declared.waiting.Waiting.TheVariants.{Nothing}
use Rattle.bbs_journal.specs.declared.waiting.Waiting.{Waiting}
use Rattle.bbs_model.specs.Replay.{replay_log, IsLawful}
use Rattle.bbs_model.specs.Step.{IsLegal}
use Rattle.bbs_model.specs.declared.command.Command.{Command}
use Rattle.bbs_model.specs.declared.item.Item.{Item}
use Rattle.bbs_model.specs.declared.item.Item.TheVariants.{Done, Doubt}
use Rattle.bbs_model.specs.declared.rows.Rows.{Rows}
use Rattle.bbs_laws.proofs.Public.{place-within}
use Rattle.bbs_board.specs.Kept.{IsFound}
use Rattle.bbs_board.specs.Puts.{item_of}
use Rattle.bbs_board.specs.View.{Holds, MayShow}
use Rattle.bbs_board.proofs.Beside.{calm_yields}
use Rattle.bbs_board.proofs.Keeping.{found, found_more, found_new, found_done, kept_more, kept_doubted}
use Rattle.bbs_board.proofs.Logs.{get_more, get_last, get_split, rows_before, rows_behind, replay_more}
use Rattle.bbs_board.proofs.Frames.{command_more}
use Rattle.bbs_board.proofs.Steps.{end_of, frames_of, frame_left, ready_where, ready_area}

-- ---- doubts

module _ (version : ℕ) (base : Rows) (log : List Item) (by : ℕ) (c : Command) where
  -- a doubt that may show may show still where another call failed
  still_shows : (one : List ℕ) → MayShow version base log one → MayShow version base (log ++ Doubt by c ∷ []) one
  still_shows one shows = record {
    place = shows.place;
    by = shows.by;
    command = shows.command;
    item = get_more log (Doubt by c ∷ []) shows.place (Doubt shows.by shows.command) shows.item;
    rows_are = rows_before base log (Doubt by c ∷ []) shows.place
        (place-within log shows.place (Doubt shows.by shows.command) shows.item) ∙ shows.rows_are ∙ sym
        (replay_more base log (Doubt by c));
    last = λ earlier caller command item. ⊎_elim (λ old. shows.last earlier caller command old.1)
        (λ new. absurd (cc (new.1))) (get_split log (Doubt by c) earlier (Done caller command) item);
    payload_is = shows.payload_is;
    fits = shows.fits;
    read = shows.read;
  }

  -- and a new one may show
  new_shows : (one : List ℕ) → one ≡ spelled c → FitsCommand c → IsReadIn version c
      → MayShow version base (log ++ Doubt by c ∷ []) one
  new_shows one is fits read = record {
    place = length log;
    by = by;
    command = c;
    item = get_last log (Doubt by c);
    rows_are = rows_behind base log (Doubt by c ∷ []) ∙ sym (replay_more base log (Doubt by c));
    last = λ earlier caller command item. ⊎_elim (λ old. old.0) (λ new. absurd (cc (new.1)))
        (get_split log (Doubt by c) earlier (Done caller command) item);
    payload_is = is;
    fits = fits;
    read = read;
  }

-- a doubt that no call of its own stands behind
pub holds_doubted : (base : Rows) (log : List Item) (marks : List ℕ) (since : ℕ) (area : Area)
    (version generation end frames : ℕ) (waiting : Waiting) (known : OtherGate) (p : Past)
    → Holds base log marks since area version generation end frames waiting known p
    → (by : ℕ) (c : Command) → Holds base (log ++ Doubt by c ∷ [])
    (marks ++ p.clock ∷ []) since area version generation end frames waiting known p
holds_doubted base log marks since area version generation end frames waiting known p h by c =
    let same : replay_log base log ≡ replay_log base (log ++ Doubt by c ∷ []) =
    sym (replay_more base log (Doubt by c)) in
    record {
      gate = h.gate;
      is_open = h.is_open;
      head = h.head;
      payloads = h.payloads;
      count = h.count;
      doubt = h.doubt;
      goes_with = h.goes_with;
      waits_is = h.waits_is;
      may_show = λ payload is. still_shows version base log by c payload (h.may_show payload is);
      stands = h.stands;
      next = h.next;
      beside = h.beside;
      leads_on = λ size waits written. let lead = h.leads_on size waits written in
          record { goes_with = lead.goes_with; rows_are = lead.rows_are ∙ ap Ok same };
      rows_are = h.rows_are ∙ ap Ok same;
      kept = kept_doubted base log marks since p h.kept by c;
    }

-- ---- an append where nothing waits

module _ (base : Rows) (log : List Item) (marks : List ℕ) (since : ℕ) (area : Area) (version generation end frames : ℕ)
    (known : OtherGate) (p q : Past) (h : Holds base log marks since area version generation end frames Nothing known p)
    (lawful : IsLawful base log)
    (by : ℕ) (c : Command) (fits : FitsCommand c) (read : IsReadIn version c)
    (legal : IsLegal (replay_log base log) c) where
  abbrev front : List ℕ
  front = h.gate ∷ heading version generation h.head

  module _ (runs : Runs area (BeforeOrAfter front h.payloads (spelled c)) p q) where
    there : now q (other area) ≡ now p (other area)
    there = runs_there (BeforeOrAfter front h.payloads (spelled c)) area p q runs

    window : (ok : Bool) (image : Image) → ImagesSince q p.clock image → (from : ℕ) → from ≤ length log
        → ((payload : List ℕ) (shows : MayShow version base log payload) → from ≤ shows.place)
        → IsFound base (log ++ item_of ok by c ∷ []) from image
    window ok image images from le below =
        let both = runs_image (BeforeOrAfter front h.payloads (spelled c)) area p q image runs images in
        let beside = h.beside.leaves (image (other area)) both.1 in
        ⊎_elim
        (λ is. found_more base log (item_of ok by c ∷ []) from image
        (found base log marks since area version generation end frames Nothing known p h lawful image
        (inl is) beside from le below))
        (λ more. found_new base log marks since area version generation end frames Nothing known p h lawful by c fits
        read legal ok image more (calm_yields h.next Nothing known generation (image (other area)) refl beside) from
        le)
        both.0

    -- what a stop leaves after the acknowledgement
    acknowledged_image : Ready front (h.payloads ++ spelled c ∷ []) (end + 3 + length (spelled c)) (now q area)
        → (image : Image) → ImagesSince q q.clock image → IsFound base (log ++ Done by c ∷ []) (length log + 1) image
    acknowledged_image ready image images =
        let here : images.moment ≡ q.clock = let from = images.from in let to = images.to in omega (arith, from, to) in
        let leaves : (a : Area) → Leaves (now q a) (image a) = λ a.
        subst (λ (m : ℕ). Leaves (q.held m a) (image a)) here (images.leaves a) in
        let beside = h.beside.leaves (image (other area)) (subst
        (λ (held : Held). Leaves held (image (other area))) there (leaves (other area))) in
        found_done base log marks since area version generation end frames Nothing known p h lawful by c fits read legal
        image
        (ready_area front (h.payloads ++ spelled c ∷ []) (end + 3 + length (spelled c)) (now q area) ready (image area)
        (leaves area))
        (calm_yields h.next Nothing known generation (image (other area)) refl beside)

    beside_still : Has (Beside h.next Nothing known generation) (now q (other area))
    beside_still = subst (Has (Beside h.next Nothing known generation)) (sym there) h.beside

    left_standing : (after : Bool) → Appended false after front h.payloads (spelled c) end (now q area)
        → Holds base (log ++ Doubt by c ∷ []) (marks ++ q.clock ∷ []) since area version generation end frames
        (frame_left after) known q
    left_standing false left = record {
      gate = h.gate;
      is_open = h.is_open;
      head = h.head;
      payloads = h.payloads;
      count = h.count;
      doubt = None;
      goes_with = h.goes_with;
      waits_is = refl;
      may_show = λ payload is. absurd (cc (is));
      stands = left;
      next = h.next;
      beside = beside_still;
      leads_on = λ size never. absurd (cc (never));
      rows_are = h.rows_are ∙ ap Ok (sym (replay_more base log (Doubt by c)));
      kept = kept_more version base log marks since p q h.kept runs.extends (Doubt by c) (window false)
          (λ caller command never. absurd (cc (never)));
    }
    left_standing true left = record {
      gate = h.gate;
      is_open = h.is_open;
      head = h.head;
      payloads = h.payloads;
      count = h.count;
      doubt = Some (spelled c);
      goes_with = h.goes_with;
      waits_is = refl;
      may_show = λ payload is. new_shows version base log by c payload (cc (is)) fits read;
      stands = left;
      next = h.next;
      beside = beside_still;
      leads_on = λ size never. absurd (cc (never));
      rows_are = h.rows_are ∙ ap Ok (sym (replay_more base log (Doubt by c)));
      kept = kept_more version base log marks since p q h.kept runs.extends (Doubt by c) (window false)
          (λ caller command never. absurd (cc (never)));
    }

    added_standing : Ready front (h.payloads ++ spelled c ∷ []) (end + 3 + length (spelled c)) (now q area)
        → Holds base (log ++ Done by c ∷ []) (marks ++ q.clock ∷ []) since area version generation
        (end + 3 + length (spelled c)) (frames + 1) Nothing known q
    added_standing ready = record {
      gate = h.gate;
      is_open = h.is_open;
      head = h.head;
      payloads = h.payloads ++ spelled c ∷ [];
      count = let count = h.count in omega (arith, count, length-append h.payloads (spelled c ∷ []));
      doubt = None;
      goes_with = h.goes_with;
      waits_is = refl;
      may_show = λ payload is. absurd (cc (is));
      stands = ready;
      next = h.next;
      beside = beside_still;
      leads_on = λ size never. absurd (cc (never));
      rows_are = command_more version area h.head h.payloads c (replay_log base log) fits read legal h.rows_are ∙ ap Ok
          (sym (replay_more base log (Done by c)));
      kept = kept_more version base log marks since p q h.kept runs.extends (Done by c) (window true)
          (λ caller command same image images. acknowledged_image ready image images);
    }

  pub holds_added : (ok after : Bool) → (ok ≡ true → after ≡ false) → AddsFrame area ok after (spelled c) end p q
      → Extends p q × Holds base (log ++ item_of ok by c ∷ []) (marks ++ q.clock ∷ []) since area version generation
      (end_of ok end (spelled c)) (frames_of ok frames) (frame_left after) known q
  holds_added ok after calm adds = by_answer ok after calm
      (adds front h.payloads (ready_where h.doubt front h.payloads end (now p area) h.waits_is h.stands))
    where
      by_answer : (ok after : Bool) → (ok ≡ true → after ≡ false)
          → Appends area ok after front h.payloads (spelled c) end p q
          → Extends p q × Holds base (log ++ item_of ok by c ∷ []) (marks ++ q.clock ∷ []) since area version generation
          (end_of ok end (spelled c)) (frames_of ok frames) (frame_left after) known q
      by_answer true true calm appends = absurd (let never = calm refl in cc)
      by_answer true false calm appends = (appends.runs.extends, added_standing appends.runs appends.leaves)
      by_answer false after calm appends = (appends.runs.extends, left_standing appends.runs after appends.leaves)
