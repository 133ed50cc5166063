-- What a stop leaves of a board while a command is stored where nothing waits, and after it.
use Rattle.std.proofs.Common.{◌≡◌, ◌⊎◌, inl, inr, ℕ, Bool, false, ◌||◌, ◌==◌, nat_le, List, [], ◌∷◌, ◌++◌, Option, Some, None, Ok, refl, sym, ap, subst, ◌∙◌, arith}
use Rattle.std.specs.Option.{ForSome}
use Rattle.disk_trait.specs.Held.{Has, Leaves}
use Rattle.disk_trait.specs.Past.{Past, Image, now, other, content, Images}
use Rattle.disk_trait.specs.Steps.{Goes}
use Rattle.disk_trait.specs.Runs.{Extends}
use Rattle.disk_trait.proofs.Public.{extends_same, goes_same, has_weaker}
use Rattle.disk_trait.specs.declared.area.Area.{Area}
use Rattle.bbs_codec.specs.Command.{spelled, FitsCommand, IsReadIn}
use Rattle.bbs_journal.specs.Areas.{Ready}
use Rattle.bbs_journal.specs.Beside.{Beside}
use Rattle.bbs_journal.specs.Calls.{Appends, AddsFrame}
use Rattle.bbs_journal.specs.Grammar.{heading}
use Rattle.bbs_journal.specs.Other.{Yields}
use Rattle.bbs_journal.specs.Stops.{OpensAs}
use Rattle.bbs_journal.specs.View.{is_waiting}
use Rattle.bbs_journal.specs.declared.other_gate.OtherGate.{OtherGate}
use Rattle.bbs_journal.specs.declared.waiting.Waiting.{Waiting}
use Rattle.bbs_journal.specs.declared.waiting.Waiting.TheVariants.{Nothing}
use Rattle.bbs_journal.proofs.Public.{accepted, stops_opened, acknowledged_opened}
use Rattle.bbs_model.specs.Replay.{replay_log}
use Rattle.bbs_model.specs.Step.{IsLegal, rows_after}
use Rattle.bbs_model.specs.declared.command.Command.{Command}
use Rattle.bbs_model.specs.declared.item.Item.{Item}
use Rattle.bbs_model.specs.declared.rows.Rows.{Rows}
use Rattle.bbs_model.specs.declared.verdict.Verdict.TheVariants as verdict
use Rattle.bbs_board.specs.Calls.{Passes}
use Rattle.bbs_board.specs.Opening.{board_of, IsBoard}
use Rattle.bbs_board.specs.KeptIn.{IsKeptIn}
use Rattle.bbs_board.specs.declared.kept_in.KeptIn.{KeptIn}
use Rattle.bbs_board.specs.Laws.{StopsLeaveBoards}
use Rattle.bbs_board.specs.Stops.{IsOnTheWay, Stores}
use Rattle.bbs_board.specs.View.{Holds}
use Rattle.bbs_board.specs.Written.{Reading, OpensTo, ReadsAs, LeadsTo, is_due, with_room, stored_behind}
use Rattle.bbs_board.proofs.Adds.{AddsBehind, same_reading}
use Rattle.bbs_board.proofs.Beside.{calm_nothing, calm_yields}
use Rattle.bbs_board.proofs.Steps.{ready_where}
use Rattle.bbs_board.proofs.Frames.{command_more}

module _ (base : Rows) (log : List Item) (marks : List ℕ) (since : ℕ) (area : Area) (version generation end frames : ℕ)
    (known : OtherGate) (p : Past) (h : Holds base log marks since area version generation end frames Nothing known
    p) where
  abbrev front : List ℕ
  front = h.gate ∷ heading version generation h.head

  ready : Ready front h.payloads end (now p area)
  ready = ready_where h.doubt front h.payloads end (now p area) h.waits_is h.stands

  gives_way : Has (Yields known generation) (now p (other area))
  gives_way = has_weaker (Beside h.next Nothing known generation) (Yields known generation) (now p (other area))
      (λ bytes beside. calm_yields h.next Nothing known generation bytes refl beside) h.beside

  abbrev reading : Reading
  reading = record { area = area; version = version; generation = generation; head = h.head; payloads = h.payloads }

  -- what a stop leaves of a board that stands is opened as its head and payloads
  pub holds_images : (image : Image) → Images p image → OpensAs image area version generation h.head h.payloads
  holds_images image leaves =
      accepted image area version generation h.head h.payloads (record {
        gate = h.gate;
        is_open = h.is_open;
        goes_with = h.goes_with;
        area_is = record {
          frames = ready.frames;
          whole = ready.whole;
          begins =
              ready.has.leaves (image area) (leaves area);
        };
        beside = known;
        yields = gives_way.leaves (image (other area)) (leaves (other area));
      })

  module _ (c : Command) (fits : FitsCommand c) (read : IsReadIn version c)
      (legal : IsLegal (replay_log base log) c) where
    after_is : board_of version area h.head (h.payloads ++ spelled c ∷ []) None
        ≡ Ok (rows_after (replay_log base log) c)
    after_is = command_more version area h.head h.payloads c (replay_log base log) fits read legal h.rows_are

    pub adds_behind : (q : Past) (ok after : Bool) → AddsFrame area ok after (spelled c) end p q
        → AddsBehind ok (replay_log base log) c p q
    adds_behind q ok after adds =
        let appends = adds front h.payloads ready in
        record {
          extends = appends.runs.extends;
          before = reading;
          reads = holds_images (content p) (p.possible p.clock);
          leads = h.rows_are;
          after = after_is;
          each = λ image since. stops_opened p q area h.gate version generation h.head h.payloads
              (spelled c) known ok after end h.is_open h.goes_with gives_way appends image since;
          done = λ is image leaves.
              acknowledged_opened p q area h.gate version generation h.head h.payloads
              (spelled c) known after end h.is_open h.goes_with gives_way
              (subst (λ (b : Bool). Appends area b after front h.payloads (spelled c) end p q) is appends) image leaves;
        }

  -- nothing is stored
  stores_none : (c : Command) → Stores false (replay_log base log) c p p
  stores_none c = record {
    extends = extends_same p;
    before = reading;
    reads = holds_images (content p) (p.possible p.clock);
    leads = h.rows_are;
    each = λ image since.
        let here : since.moment ≡ p.clock = let from = since.from in let to = since.to in omega (arith, from, to) in
        inl (holds_images image (λ a. subst (λ (m : ℕ). Leaves (p.held m a) (image a)) here (since.leaves a)));
    done = λ never. absurd (cc (never));
  }

  -- whatever is read then has as many payloads as there are frames, and the version
  pub reads_due : (r : Reading) → ReadsAs r p → is_due r ≡ (nat_le 4096 frames || version == 1)
  reads_due r reads =
      ap is_due (same_reading (content p) r reading reads (holds_images (content p) (p.possible p.clock))) ∙ ap
      (λ (n : ℕ). nat_le 4096 n || version == 1) (sym h.count)

-- ---- the same, where the disk may tell nothing

-- two things that a run does
pub goes_both : (t0 t1 : Option Past) (A B : Past → Past → Type 0) → Goes t0 t1 A → Goes t0 t1 B
    → Goes t0 t1 (λ p q. A p q × B p q)
goes_both None None A B a b = tt
goes_both None (Some q) A B a b = a
goes_both (Some p) None A B a b = a
goes_both (Some p) (Some q) A B a b = (a, b)

-- time goes on, and where nothing waits the rest is known
pub passes_both : (t0 t1 : Option Past) (waits ok : Bool) (rows : Rows) (c : Command) → Goes t0 t1 Extends
    → (waits ≡ false → Goes t0 t1 (Stores ok rows c)) → Goes t0 t1 (Passes waits verdict.Ok ok rows c)
passes_both None None waits ok rows c extends stores = tt
passes_both None (Some q) waits ok rows c extends stores = extends
passes_both (Some p) None waits ok rows c extends stores = extends
passes_both (Some p) (Some q) waits ok rows c extends stores = record { extends = extends; stores = stores }

-- where nothing is done, nothing changes
pub passes_nothing : (told : Option Past) (base : Rows) (log : List Item) (marks : List ℕ) (since : ℕ) (area : Area)
    (version generation end frames : ℕ) (waiting : Waiting) (known : OtherGate)
    → ForSome told (Holds base log marks since area version generation end frames waiting known) → (c : Command)
    → Goes told told (Passes (is_waiting waiting) verdict.Ok false (replay_log base log) c)
passes_nothing told base log marks since area version generation end frames waiting known holds c =
    passes_both told told (is_waiting waiting) false (replay_log base log) c
    (goes_same told Extends (λ p is. extends_same p))
    (λ calm.
    goes_same told (Stores false (replay_log base log) c)
    (λ p is.
    stores_none base log marks since area version generation end frames known p
    (subst (λ (w : Waiting). Holds base log marks since area version generation end frames w known p)
    (calm_nothing waiting calm) (holds p is)) c))

-- where nothing waits it is known where the board is kept
pub kept_where : (told : Option Past) (base : Rows) (log : List Item) (marks : List ℕ) (since : ℕ) (area : Area)
    (version generation end frames : ℕ) (waiting : Waiting) (known : OtherGate)
    → ForSome told (Holds base log marks since area version generation end frames waiting known)
    → is_waiting waiting ≡ false
    → (place : KeptIn) → place.area ≡ area → place.generation ≡ generation → place.frames ≡ frames
    → ForSome told (IsKeptIn place)
kept_where told base log marks since area version generation end frames waiting known holds calm place area_is
    generation_is frames_is p is =
    let h : Holds base log marks since area version generation end frames Nothing known p =
    subst (λ (w : Waiting). Holds base log marks since area version generation end frames w known p)
    (calm_nothing waiting calm) (holds p is) in
    record {
      head = h.head;
      payloads = h.payloads;
      version = version;
      opens = rw (area_is, generation_is) (holds_images base log marks since area version generation end frames known p
          h (content p) (p.possible p.clock));
      count = frames_is ∙ h.count;
    }

-- ---- and every stop leaves a board

pub stops_leave_boards : (stored : Bool) (rows : Rows) (c : Command) (p q : Past) → Stores stored rows c p q
    → StopsLeaveBoards stored rows c p q
stops_leave_boards stored rows c p q s = record {
  each = λ image since. on_the_way image (s.each image since);
  acknowledged = λ is image leaves. let later = s.done is image leaves in
      board_is (stored_behind rows c s.before) (rows_after rows c) image later.leads later.opens;
}
  where
    board_is : (r : Reading) (found : Rows) (image : Image) → LeadsTo r found → OpensTo r image → IsBoard found image
    board_is r found image leads opening = record {
      area = r.area;
      version = r.version;
      generation =
          r.generation;
      head = r.head;
      payloads = r.payloads;
      end = _;
      opening = opening;
      rows_are = leads;
    }

    on_the_way : (image : Image) → IsOnTheWay rows c s.before image
        → IsBoard rows image ⊎ IsBoard (rows_after rows c) image
    on_the_way image (inl before) = inl (board_is s.before rows image s.leads before)
    on_the_way image (inr (inl room)) = inl (board_is (with_room rows s.before) rows image room.leads room.opens)
    on_the_way image (inr (inr later)) = inr (board_is (stored_behind rows c s.before)
        (rows_after rows c) image later.leads later.opens)
