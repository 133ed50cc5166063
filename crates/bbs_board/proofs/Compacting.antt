-- A switch, and a mend before it, where the disk may tell nothing.
use Rattle.std.proofs.Common.{◌≡◌, ◌⊎◌, inl, inr, ⊎_elim, ℕ, ◌+◌, ◌<◌, ◌^◌, Bool, true, false, List, length, Option, refl, sym, ap, subst, ◌∙◌, arith}
use Rattle.std.specs.Prelude.{if◌then◌else◌}
use Rattle.std.specs.Option.{ForSome}
use Rattle.disk_trait.specs.Past.{Past, other}
use Rattle.disk_trait.specs.Runs.{Extends}
use Rattle.disk_trait.specs.Steps.{Goes}
use Rattle.disk_trait.proofs.Public.{goes_then, goes_weaker, extends_then}
use Rattle.head_codec.specs.Head.{head_spelled, FitsHead}
use Rattle.bbs_journal.specs.Calls.{Settles}
use Rattle.bbs_journal.specs.Switching.{close_calls}
use Rattle.bbs_journal.specs.View.{JournalView, is_waiting, frame_waits}
use Rattle.bbs_journal.specs.Header.{newest}
use Rattle.bbs_journal.specs.declared.other_gate.OtherGate.{OtherGate}
use Rattle.bbs_journal.specs.declared.other_gate.OtherGate.TheVariants.{Shut, Loose, Written}
use Rattle.bbs_journal.specs.declared.waiting.Waiting.{Waiting}
use Rattle.bbs_journal.specs.declared.waiting.Waiting.TheVariants.{Nothing, Frame, Header}
use Rattle.bbs_snapshot.specs.Switches.{Switches, SwitchesAll, StaysThere, KnowsAfterSwitch}
use Rattle.bbs_model.specs.Replay.{replay_log}
use Rattle.bbs_model.specs.declared.item.Item.{Item}
use Rattle.bbs_model.specs.declared.rows.Rows.{Rows}
use Rattle.bbs_board.specs.Checkpoint.{Compacts, MovesOn, MovedOn}
use Rattle.bbs_board.specs.Puts.{StandsWith, StillStands}
use Rattle.bbs_board.specs.View.{Holds, LeadsOn, StandsOn}
use Rattle.bbs_board.proofs.Beside.{calm_nothing}
use Rattle.bbs_board.proofs.Mending.{by_step, standing}
use Rattle.bbs_board.proofs.Moving.{leads, calm_ready, holds_there, holds_here, compacts_by}

header_calm : (w : Waiting) → w ≡ (if is_waiting w then Header else Nothing) → frame_waits w ≡ false
header_calm Nothing own = refl
header_calm Frame own = absurd (cc)
header_calm Header own = refl

module _ {D : Type 0} (told : D → Option Past) (v0 v1 : JournalView D) (base : Rows) (log : List Item) (marks : List ℕ)
    (since : ℕ) (calm : v0.waiting ≡ Nothing) (stands : StandsOn told base log marks since v0)
    (some : (0 < v0.frames) ⊎ (v0.version ≡ 1)) (fits : FitsHead newest (replay_log base log))
    (small : length (head_spelled newest (replay_log base log)) < 2 ^ 32) where
  abbrev new : List ℕ
  new = head_spelled newest (replay_log base log)

  abbrev Here : Past → Type 0
  Here = Holds base log marks since v0.area v0.version v0.generation v0.end v0.frames Nothing v0.gate

  here : ForSome (told v0.disk) Here
  here = subst (λ (w : Waiting). ForSome (told v0.disk) (Holds base log marks since v0.area v0.version v0.generation
      v0.end v0.frames w v0.gate)) calm stands

  lead_at : (p : Past) → Here p → LeadsOn v0.area v0.generation new (replay_log base log)
  lead_at p h = leads base log marks since v0.area v0.version v0.generation v0.end v0.frames Nothing v0.gate p h some
      fits small

  switches_at : (ok : Bool) (p q : Past) (h : Here p) → SwitchesAll ok v0.area v0.version v0.generation v1.waiting
      v1.gate new p q → Switches ok v0.area v0.version v0.generation h.head h.payloads v1.waiting v1.gate new p q
  switches_at ok p q h all =
      all h.gate h.head h.payloads v0.end h.is_open h.goes_with (lead_at p h).goes_with
      (calm_ready base log marks since v0.area v0.version v0.generation v0.end v0.frames v0.gate p q h new
      (lead_at p h))

  switched_there : KnowsAfterSwitch true (length new) v0 v1
      → Goes (told v0.disk) (told v1.disk) (SwitchesAll true v0.area v0.version v0.generation v1.waiting v1.gate new)
      → StandsWith told base log marks since v0 v1
  switched_there goes_on goes =
      let made = goes_on.made refl in
      let both = by_step (told v0.disk) (told v1.disk) (SwitchesAll true v0.area v0.version v0.generation v1.waiting
      v1.gate new) Here (Holds base log marks since (other v0.area) newest (v0.generation + 1)
      (23 + length new) 0 Nothing Loose)
      (λ p q j all h.
      let s = switches_at true p q h all in (
        s.extends,
        holds_there base log marks since v0.area v0.version v0.generation v0.end v0.frames v0.gate p q h new
            (lead_at p h) true v1.waiting v1.gate s refl,
      ))
      goes here in
      record {
        extends = both.0;
        stands = standing told base log marks since v1 (other v0.area) newest (v0.generation + 1)
            (23 + length new) 0 Nothing Loose
            (ap (λ (v : JournalView D). v.area) made) (ap (λ (v : JournalView D). v.version) made)
            (ap (λ (v : JournalView D). v.generation) made) (ap (λ (v : JournalView D). v.end) made)
            (ap (λ (v : JournalView D). v.frames) made)
            (ap (λ (v : JournalView D). v.waiting) made) (ap (λ (v : JournalView D). v.gate) made) both.1;
      }

  switched_here : KnowsAfterSwitch false (length new) v0 v1
      → Goes (told v0.disk) (told v1.disk) (SwitchesAll false v0.area v0.version v0.generation v1.waiting v1.gate new)
      → StandsWith told base log marks since v0 v1
  switched_here goes_on goes =
      let failed = goes_on.failed refl in
      let both = by_step (told v0.disk) (told v1.disk) (SwitchesAll false v0.area v0.version v0.generation v1.waiting
      v1.gate new) Here (Holds base log marks since v0.area v0.version v0.generation v0.end v0.frames v1.waiting
      v1.gate)
      (λ p q j all h.
      let s = switches_at false p q h all in (
        s.extends,
        holds_here base log marks since v0.area v0.version v0.generation v0.end v0.frames v0.gate p q h new
            (lead_at p h) false v1.waiting v1.gate s refl (header_calm v1.waiting failed.waiting),
      ))
      goes here in
      record {
        extends = both.0;
        stands = standing told base log marks since v1 v0.area v0.version v0.generation v0.end v0.frames v1.waiting
            v1.gate failed.stays.area failed.stays.version failed.stays.generation failed.end failed.frames refl refl
            both.1;
      }

  switched : (ok : Bool) → KnowsAfterSwitch ok (length new) v0 v1
      → Goes (told v0.disk) (told v1.disk) (SwitchesAll ok v0.area v0.version v0.generation v1.waiting v1.gate new)
      → StandsWith told base log marks since v0 v1
  switched true goes_on goes = switched_there goes_on goes
  switched false goes_on goes = switched_here goes_on goes

  compacted_so : (ok : Bool) → Goes (told v0.disk) (told v1.disk)
      (SwitchesAll ok v0.area v0.version v0.generation v1.waiting v1.gate new)
      → Goes (told v0.disk) (told v1.disk) (Compacts ok (replay_log base log))
  compacted_so ok goes =
      goes_weaker (told v0.disk) (told v1.disk) (SwitchesAll ok v0.area v0.version v0.generation v1.waiting v1.gate new)
      (Compacts ok (replay_log base log))
      (λ p q i j all.
      let h = here p i in
      compacts_by base log marks since v0.area v0.version v0.generation v0.end v0.frames v0.gate p h q ok v1.waiting
      v1.gate some (lead_at p h) (switches_at ok p q h all)) goes

module _ {D : Type 0} (told : D → Option Past) where
  -- a switch where nothing waits
  pub moves_switched : (v0 v1 : JournalView D) (ok : Bool) (head : List ℕ) → v0.waiting ≡ Nothing → length head < 2 ^ 32
      → KnowsAfterSwitch ok (length head) v0 v1
      → Goes (told v0.disk) (told v1.disk) (SwitchesAll ok v0.area v0.version v0.generation v1.waiting v1.gate head)
      → MovesOn told ok head v0 v1
  moves_switched v0 v1 ok head calm small goes_on goes base log marks since lawful stands some fits is =
      let few : length (head_spelled newest (replay_log base log)) < 2 ^ 32 =
      subst (λ (l : List ℕ). length l < 2 ^ 32) is small in
      let on : KnowsAfterSwitch ok (length (head_spelled newest (replay_log base log))) v0 v1 =
      subst (λ (l : List ℕ). KnowsAfterSwitch ok (length l) v0 v1) is goes_on in
      let all = subst (λ (l : List ℕ). Goes (told v0.disk) (told v1.disk)
      (SwitchesAll ok v0.area v0.version v0.generation v1.waiting v1.gate l)) is goes in (
        switched told v0 v1 base log marks since calm stands some fits few ok on all,
        λ idle. compacted_so told v0 v1 base log marks since calm stands some fits few ok all,
      )

  -- behind a mend
  pub moves_then : (v0 v1 v2 : JournalView D) (ok : Bool) (head : List ℕ) → Settles true v0 v1 → StillStands told v0 v1
      → MovesOn told ok head v1 v2 → MovesOn told ok head v0 v2
  moves_then v0 v1 v2 ok head settles still moves base log marks since lawful stands some fits is =
      let first = still base log marks since lawful stands in
      let frames : v1.frames ≡ v0.frames = settles.frames in
      let second = moves base log marks since lawful first.stands
      (⊎_elim (λ frame. inl (omega (arith, frame, frames))) (λ old. inr (settles.stays.version ∙ old)) some) fits is
      in (
        record {
          extends = goes_then (told v0.disk) (told v1.disk) (told v2.disk) Extends Extends Extends
              (λ p q r i j k a b. extends_then p q r a b) first.extends second.0.extends;
          stands = second.0.stands;
        },
        λ idle.
            let same : v1 ≡ v0 = (settles.idle (calm_nothing v0.waiting idle)).1 in
            subst (λ (v : JournalView D). Goes (told v.disk) (told v2.disk) (Compacts ok (replay_log base log))) same
            (second.1 (ap (λ (v : JournalView D). is_waiting v.waiting) same ∙ idle)),
      )

  -- the mend before it failed
  pub moves_not : (v0 v1 : JournalView D) (head : List ℕ) → Settles false v0 v1 → StillStands told v0 v1
      → MovesOn told false head v0 v1
  moves_not v0 v1 head settles still base log marks since lawful stands some fits is = (
    still base log marks since lawful stands,
    λ idle. absurd (let never = (settles.idle (calm_nothing v0.waiting idle)).0 in cc),
  )

-- ---- what the journal knows then

module _ {D : Type 0} (v0 v1 v2 : JournalView D) (whole : v0.broken ≡ false) where
  pub moved_not : Settles false v0 v1 → MovedOn false v0 v1
  moved_not settles = record {
    whole = settles.stays.broken ∙ whole;
    version = settles.stays.version;
    frames = settles.frames;
    waits = λ never. absurd (cc (never));
    frame = λ is. ap frame_waits (sym settles.waiting) ∙ is;
    generation = settles.stays.generation;
  }

  pub moved_made : (size : ℕ) → Settles true v0 v1 → KnowsAfterSwitch true size v1 v2 → MovedOn true v0 v2
  moved_made size settles on =
      let made = on.made refl in
      record {
        whole = ap (λ (v : JournalView D). v.broken) made;
        version = ap (λ (v : JournalView D). v.version) made;
        frames = ap (λ (v : JournalView D). v.frames) made;
        waits = λ is. ap (λ (v : JournalView D). is_waiting v.waiting) made;
        frame = λ is. absurd (let never : frame_waits v2.waiting ≡ false =
            ap (λ (v : JournalView D). frame_waits v.waiting) made in cc);
        generation = ap (λ (v : JournalView D). v.generation) made ∙ ap (λ (n : ℕ). n + 1) settles.stays.generation;
      }

  pub moved_left : Settles true v0 v1 → StaysThere v1 v2 → MovedOn false v0 v2
  moved_left settles there = record {
    whole = there.stays.broken ∙ settles.stays.broken ∙ whole;
    version = there.stays.version ∙ settles.stays.version;
    frames = there.frames ∙ settles.frames;
    waits = λ never. absurd (cc (never));
    frame = λ is. absurd (let never : frame_waits v2.waiting ≡ false = header_calm v2.waiting there.waiting in cc);
    generation = there.stays.generation ∙ settles.stays.generation;
  }

-- from a switch that failed
pub left_knows : {D : Type 0} (size : ℕ) (v1 v2 : JournalView D) → StaysThere v1 v2 → KnowsAfterSwitch false size v1 v2
left_knows size v1 v2 there = record { made = λ never. absurd (cc (never)); failed = λ is. there }

pub few_close_calls : (gate : OtherGate) → (close_calls gate ≡ 0) ⊎ (close_calls gate ≡ 2)
few_close_calls Shut = inl refl
few_close_calls Loose = inr refl
few_close_calls (Written size) = inl refl
