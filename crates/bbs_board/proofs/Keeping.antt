-- A board stays kept while its journal works, and while an item is added to its log.
use Rattle.std.proofs.Common.{◌≡◌, ◌⊎◌, inl, inr, ⊎_elim, ℕ, ◌+◌, ◌<◌, ◌≤◌, Bool, true, false, List, [], ◌∷◌, ◌++◌, length, slice_get, Some, None, Ok, refl, sym, ap, subst, ◌∙◌, arith, append_assoc, length-append}
use Rattle.std.specs.Prelude.{is_some}
use Rattle.std.proofs.lemmas.Option.{slice_get_within}
use Rattle.disk_trait.specs.Past.{Past, Image, ImagesSince, other}
use Rattle.disk_trait.specs.Runs.{Extends}
use Rattle.disk_trait.specs.declared.area.Area.{Area}
use Rattle.disk_trait.proofs.Public.{images_split}
use Rattle.bbs_codec.specs.Command.{spelled, FitsCommand, IsReadIn}
use Rattle.bbs_journal.specs.Areas.{IsArea}
use Rattle.bbs_journal.specs.Beside.{Beside}
use Rattle.bbs_journal.specs.Grammar.{heading}
use Rattle.bbs_journal.specs.Other.{IsLoose, Yields}
use Rattle.bbs_journal.specs.View.{frame_waits}
use Rattle.bbs_journal.specs.Header.{newest}
use Rattle.bbs_journal.specs.declared.other_gate.OtherGate.{OtherGate}
use Rattle.bbs_journal.specs.declared.other_gate.OtherGate.TheVariants.{Loose}
use Rattle.bbs_journal.specs.declared.waiting.Waiting.{Waiting}
use Rattle.bbs_journal.specs.declared.waiting.Waiting.TheVariants.{Header}
use Rattle.bbs_journal.proofs.Public.{area_opens, other_other, older_front}
use Rattle.bbs_model.specs.Replay.{replay_log, IsLawful, IsReached}
use Rattle.bbs_model.specs.Step.{IsLegal, rows_after}
use Rattle.bbs_model.specs.declared.command.Command.{Command}
use Rattle.bbs_model.specs.declared.item.Item.{Item}
use Rattle.bbs_model.specs.declared.item.Item.TheVariants.{Done, Doubt}
use Rattle.bbs_model.specs.declared.rows.Rows.{Rows}
use Rattle.bbs_laws.proofs.Public.{legal_at}
use Rattle.bbs_board.specs.Kept.{IsFound, Kept, RiseBetween}
use Rattle.bbs_board.specs.Opening.{board_of, IsBoard}
use Rattle.bbs_board.specs.Puts.{item_of}
use Rattle.bbs_board.specs.View.{Holds, MayShow}
use Rattle.bbs_board.proofs.Beside.{IsOpenNext, besides, unframed_area}
use Rattle.bbs_board.proofs.Logs.{get_last, get_split, rows_behind, replay_more, reached_more, reached_end, rising_more}
use Rattle.bbs_board.proofs.Frames.{command_more}

pub found_more : (base : Rows) (log more : List Item) (from : ℕ) (image : Image) → IsFound base log from image
    → IsFound base (log ++ more) from image
found_more base log more from image found = record {
  rows = found.rows;
  board = found.board;
  reached = reached_more base log more from found.rows found.reached;
}

-- ---- what a stop leaves

module _ (base : Rows) (log : List Item) (marks : List ℕ) (since : ℕ) (area : Area) (version generation end frames : ℕ)
    (waiting : Waiting) (known : OtherGate) (p : Past) (h : Holds base log marks since area version generation end
    frames waiting known p) (lawful : IsLawful base log) where
  abbrev front : List ℕ
  front = h.gate ∷ heading version generation h.head

  abbrev rows : Rows
  rows = replay_log base log

  -- the rows that an image leads to
  pub opens : (payloads : List (List ℕ)) (image : Image) (found : Rows) → IsArea front payloads (image area)
      → Yields known generation (image (other area)) → board_of version area h.head payloads None ≡ Ok found
      → IsBoard found image
  opens payloads image found is yields found_is = record {
    area = area;
    version = version;
    generation = generation;
    head = h.head;
    payloads = payloads;
    end = _;
    opening = area_opens image area h.gate version generation h.head payloads known h.is_open h.goes_with yields is;
    rows_are = found_is;
  }

  -- where the next area is open it leads to the same rows
  opens_next : (payloads : List (List ℕ)) (image : Image) → IsArea front payloads (image area)
      → IsOpenNext waiting known h.next generation (image (other area)) → IsBoard rows image
  opens_next payloads image is next =
      let lead = h.leads_on next.size next.waits next.written in
      let older : IsLoose (generation + 1) (image area) = older_front h.gate version generation h.head
      (is.frames ++ 0 ∷ []) (image area) h.goes_with.version_is h.goes_with.below
      (record {
        rest = is.begins.rest;
        parts = is.begins.parts ∙ ap (λ (l : List ℕ). l ++ is.begins.rest)
            (append_assoc front is.frames (0 ∷ []));
      }) in
      record {
        area = other area;
        version = newest;
        generation = generation + 1;
        head = h.next;
        payloads = [];
        end = _;
        opening = area_opens image (other area) next.byte newest
            (generation + 1) h.next [] Loose next.is_open lead.goes_with
            (subst (λ (x : Area). IsLoose (generation + 1) (image x)) (sym (other_other area)) older)
            (unframed_area next.byte (generation + 1) h.next (image (other area)) next.begins);
        rows_are = lead.rows_are;
      }

  -- a doubt that may show is a command that is legal now
  legal_now : (payload : List ℕ) (shows : MayShow version base log payload) → IsLegal rows shows.command
  legal_now payload shows =
      subst (λ (r : Rows). IsLegal r shows.command) shows.rows_are
      (legal_at base log shows.place (Doubt shows.by shows.command) lawful shows.item)

  -- what a stop may bring back of a doubt
  reached_doubt : (payload : List ℕ) (shows : MayShow version base log payload) (from : ℕ) → from ≤ shows.place
      → IsReached base log from (rows_after rows shows.command)
  reached_doubt payload shows from le = inr (record {
    place = shows.place;
    low = le;
    by = shows.by;
    command = shows.command;
    doubt = shows.item;
    rows_are = ap (λ (r : Rows). rows_after r shows.command) (sym shows.rows_are);
  })

  one_more : (command : Command) (payload : List ℕ) (image : Image) → FitsCommand command → IsReadIn version command
      → IsLegal rows command → payload ≡ spelled command → IsArea front (h.payloads ++ payload ∷ []) (image area)
      → Yields known generation (image (other area)) → IsBoard (rows_after rows command) image
  one_more command payload image fit read law is area_is yields =
      opens (h.payloads ++ spelled command ∷ []) image (rows_after rows command)
      (subst (λ (l : List ℕ). IsArea front (h.payloads ++ l ∷ []) (image area)) is area_is) yields
      (command_more version area h.head h.payloads command rows fit read law h.rows_are)

  -- the area holds the payloads, or those and the one in doubt
  abbrev pub MayHold : List ℕ → Type 0
  MayHold bytes = IsArea front h.payloads bytes ⊎ ((one : List ℕ) × (h.doubt ≡ Some one)
      × IsArea front (h.payloads ++ one ∷ []) bytes)

  frame_yields : (one : List ℕ) → h.doubt ≡ Some one → (bytes : List ℕ) → Beside h.next waiting known generation bytes
      → Yields known generation bytes
  frame_yields one doubted bytes beside = ⊎_elim (λ yields. yields)
      (λ next. absurd (let waits : frame_waits waiting ≡ is_some h.doubt = h.waits_is in let header : waiting ≡ Header =
      next.waits in cc))
      (besides h.next waiting known generation bytes beside)

  -- whatever of this a stop leaves, the log reaches it
  pub found : (image : Image) → MayHold (image area) → Beside h.next waiting known generation (image (other area))
      → (from : ℕ) → from ≤ length log
      → ((payload : List ℕ) (shows : MayShow version base log payload) → from ≤ shows.place)
      → IsFound base log from image
  found image (inl is) beside from le below = record {
    rows = rows;
    board = ⊎_elim (λ yields. opens h.payloads image rows is yields h.rows_are)
        (λ next. opens_next h.payloads image is next) (besides h.next waiting known generation
        (image (other area)) beside);
    reached = reached_end base log from le;
  }
  found image (inr (one, doubted, is)) beside from le below =
      let shows = h.may_show one doubted in
      record {
        rows = rows_after rows shows.command;
        board = one_more shows.command one image shows.fits shows.read (legal_now one shows) shows.payload_is is
            (frame_yields one doubted (image (other area)) beside);
        reached = reached_doubt one shows from (below one shows);
      }

  -- the new command may be found, and once it is acknowledged it is
  module _ (by : ℕ) (c : Command) (fits : FitsCommand c) (read : IsReadIn version c) (legal : IsLegal rows c) where
    reached_new : (done : Bool) (from : ℕ) → from ≤ length log
        → IsReached base (log ++ item_of done by c ∷ []) from (rows_after rows c)
    reached_new true from le =
        subst (λ (r : Rows). IsReached base (log ++ Done by c ∷ []) from r) (replay_more base log (Done by c))
        (reached_end base (log ++ Done by c ∷ []) from (omega (arith, le, length-append log (Done by c ∷ []))))
    reached_new false from le = inr (record {
      place = length log;
      low = le;
      by = by;
      command = c;
      doubt = get_last log (Doubt by c);
      rows_are = ap (λ (r : Rows). rows_after r c) (sym (rows_behind base log (Doubt by c ∷ [])));
    })

    pub found_new : (done : Bool) (image : Image) → IsArea front (h.payloads ++ spelled c ∷ []) (image area)
        → Yields known generation (image (other area)) → (from : ℕ) → from ≤ length log
        → IsFound base (log ++ item_of done by c ∷ []) from image
    found_new done image is yields from le = record {
      rows = rows_after rows c;
      board =
          one_more c (spelled c) image fits read legal refl is yields;
      reached = reached_new done from le;
    }

    pub found_done : (image : Image) → IsArea front (h.payloads ++ spelled c ∷ []) (image area)
        → Yields known generation (image (other area)) → IsFound base (log ++ Done by c ∷ []) (length log + 1) image
    found_done image is yields = record {
      rows = rows_after rows c;
      board = one_more c (spelled c) image fits read legal refl is yields;
      reached = subst (λ (r : Rows). IsReached base (log ++ Done by c ∷ []) (length log + 1) r)
          (replay_more base log (Done by c))
          (reached_end base (log ++ Done by c ∷ []) (length log + 1)
          (omega (arith, length-append log (Done by c ∷ []))));
    }

-- ---- time goes on

rising_later : (low : ℕ) (marks : List ℕ) (high later : ℕ) → RiseBetween low marks high → high ≤ later
    → RiseBetween low marks later
rising_later low [] high later rising le = omega (arith, rising, le)
rising_later low (m ∷ marks) high later rising le = (rising.0, rising_later m marks high later rising.1 le)

module _ (version : ℕ) (base : Rows) (log longer : List Item) (marks : List ℕ) (since : ℕ) (p q : Past)
    (kept : Kept base log marks since p) (extends : Extends p q)
    (lift : (from : ℕ) (image : Image) → IsFound base log from image → IsFound base longer from image)
    (window : (image : Image) → ImagesSince q p.clock image → (from : ℕ) → from ≤ length log
    → ((payload : List ℕ) (shows : MayShow version base log payload) → from ≤ shows.place)
    → IsFound base longer from image) where
  -- an item that was acknowledged before stays so
  still_acknowledged : (place mark caller : ℕ) (command : Command) → slice_get log place ≡ Some (Done caller command)
      → place < length log → slice_get marks place ≡ Some mark
      → (image : Image) → ImagesSince q mark image → IsFound base longer (place + 1) image
  still_acknowledged place mark caller command item below marked image images = ⊎_elim
      (λ early. lift (place + 1) image (kept.acknowledged place mark caller command item marked image early))
      (λ late. window image late (place + 1) (omega (arith, below))
      (λ payload shows. let last = shows.last place caller command item in omega (arith, last)))
      (images_split p q mark image extends images)

  still_found : (image : Image) → ImagesSince q since image → IsFound base longer 0 image
  still_found image images = ⊎_elim
      (λ early. lift 0 image (kept.found image early))
      (λ late. window image late 0 (omega arith) (λ payload shows. omega arith))
      (images_split p q since image extends images)

-- with the same log
pub kept_on : (version : ℕ) (base : Rows) (log : List Item) (marks : List ℕ) (since : ℕ) (p q : Past)
    → Kept base log marks since p → Extends p q
    → ((image : Image) → ImagesSince q p.clock image → (from : ℕ) → from ≤ length log
    → ((payload : List ℕ) (shows : MayShow version base log payload) → from ≤ shows.place)
    → IsFound base log from image)
    → Kept base log marks since q
kept_on version base log marks since p q kept extends window = record {
  count = kept.count;
  rising = rising_later since marks p.clock q.clock kept.rising extends.later;
  found = still_found version base log log marks since p q kept extends (λ from image found. found) window;
  acknowledged = λ place mark by command item marked image images.
      still_acknowledged version base log log marks since p q kept extends
      (λ from image found. found) window place mark by command item
      (slice_get_within log place (Done by command) item) marked image images;
}

-- with one item more
module _ (base : Rows) (log : List Item) (marks : List ℕ) (since : ℕ) (p q : Past) (kept : Kept base log marks since p)
    (later : p.clock ≤ q.clock) (item : Item)
    (first : (image : Image) → ImagesSince q since image → IsFound base (log ++ item ∷ []) 0 image)
    (old : (place mark caller : ℕ) (command : Command) → slice_get log place ≡ Some (Done caller command)
    → place < length log → slice_get marks place ≡ Some mark
    → (image : Image) → ImagesSince q mark image → IsFound base (log ++ item ∷ []) (place + 1) image)
    (new : (caller : ℕ) (command : Command) → item ≡ Done caller command → (image : Image) → ImagesSince q q.clock image
    → IsFound base (log ++ item ∷ []) (length log + 1) image) where
  each_acknowledged : (place mark caller : ℕ) (command : Command)
      → slice_get (log ++ item ∷ []) place ≡ Some (Done caller command)
      → slice_get (marks ++ q.clock ∷ []) place ≡ Some mark
      → (image : Image) → ImagesSince q mark image → IsFound base (log ++ item ∷ []) (place + 1) image
  each_acknowledged place mark caller command there marked image images = ⊎_elim
      (λ before. elim (get_split marks q.clock place mark marked) [
        | inl its ↦ old place mark caller command before.1 before.0 its.1 image images
        | inr last ↦ absurd (let count = kept.count in let low = before.0 in omega (arith, last.0, low, count))
      ])
      (λ last. elim (get_split marks q.clock place mark marked) [
        | inl its ↦ absurd (let count = kept.count in let low = its.0 in omega (arith, last.0, low, count))
        | inr mine ↦
            subst (λ (n : ℕ). IsFound base (log ++ item ∷ []) (n + 1) image) (sym last.0)
            (new caller command last.1 image (subst (λ (n : ℕ). ImagesSince q n image) (sym mine.1) images))
      ])
      (get_split log item place (Done caller command) there)

  kept_with : Kept base (log ++ item ∷ []) (marks ++ q.clock ∷ []) since q
  kept_with = record {
    count = let count = kept.count in omega (
      arith,
      count,
      length-append marks (q.clock ∷ []),
      length-append log (item ∷ []),
    );
    rising = rising_more since marks p.clock q.clock kept.rising later;
    found = first;
    acknowledged = each_acknowledged;
  }

-- after some calls
pub kept_more : (version : ℕ) (base : Rows) (log : List Item) (marks : List ℕ) (since : ℕ) (p q : Past)
    → Kept base log marks since p → Extends p q → (item : Item)
    → ((image : Image) → ImagesSince q p.clock image → (from : ℕ) → from ≤ length log
    → ((payload : List ℕ) (shows : MayShow version base log payload) → from ≤ shows.place)
    → IsFound base (log ++ item ∷ []) from image)
    → ((caller : ℕ) (command : Command) → item ≡ Done caller command → (image : Image) → ImagesSince q q.clock image
    → IsFound base (log ++ item ∷ []) (length log + 1) image)
    → Kept base (log ++ item ∷ []) (marks ++ q.clock ∷ []) since q
kept_more version base log marks since p q kept extends item window new =
    let lift = λ (from : ℕ) (i : Image) (found : IsFound base log from i).
    found_more base log (item ∷ []) from i found in
    kept_with base log marks since p q kept extends.later item
    (still_found version base log (log ++ item ∷ []) marks since p q kept extends lift window)
    (still_acknowledged version base log (log ++ item ∷ []) marks since p q kept extends lift window) new

-- and without a call, where it is a doubt
pub kept_doubted : (base : Rows) (log : List Item) (marks : List ℕ) (since : ℕ) (p : Past) → Kept base log marks since p
    → (by : ℕ) (c : Command) → Kept base (log ++ Doubt by c ∷ []) (marks ++ p.clock ∷ []) since p
kept_doubted base log marks since p kept by c =
    kept_with base log marks since p p kept (omega arith) (Doubt by c)
    (λ image images. found_more base log (Doubt by c ∷ []) 0 image (kept.found image images))
    (λ place mark caller command item below marked image images.
    found_more base log (Doubt by c ∷ []) (place + 1) image
    (kept.acknowledged place mark caller command item marked image images))
    (λ caller command never. absurd (cc (never)))
