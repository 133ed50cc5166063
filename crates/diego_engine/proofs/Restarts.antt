-- What the next run finds, and what stays over all runs.
use Rattle.std.proofs.Common.{◌≡◌, ℕ, ◌+◌, List, [], ◌∷◌, refl, sym, subst, arith, inl, inr}
use Rattle.disk_trait.specs.Past.{Past, Image, Images, IsSettled, content}
use Rattle.bbs_model.specs.Replay.{IsLawful, IsReached}
use Rattle.bbs_model.specs.declared.item.Item.{Item}
use Rattle.bbs_model.specs.declared.rows.Rows.{Rows}
use Rattle.bbs_board.specs.Kept.{IsFound}
use Rattle.bbs_board.specs.Opening.{IsBoard}
use Rattle.bbs_board.proofs.Public.{one_board}
use Rattle.diego_engine.specs.Headline.{KeptSince, TakesLog}
use Rattle.diego_engine.specs.Restarts.{EachRunHandsItOn, FindsLog, HoldsOn, KeepsSettledBoards, NextRunFindsLog, NextRunHoldsAcknowledged, IsFoundBehind}

-- the rows that a log begins with are reached by it
reached_first : (rows : Rows) (log : List Item) → IsReached rows log 0 rows
reached_first rows [] = inl (record { place = 0; low = omega arith; high = omega arith; rows_are = refl })
reached_first rows (item ∷ log) = inl (record { place = 0; low = omega arith; high = omega arith; rows_are = refl })

-- what a stop may leave of a settled board is the board
is_found : (rows : Rows) (log : List Item) (p : Past) (image : Image) → IsBoard rows (content p) → IsSettled p
    → Images p image → IsFound rows log 0 image
is_found rows log p image board settled leaves =
    let same : content p ≡ image = λ i. λ area. sym (settled area (image area) (leaves area)) i in
    record {
      rows = rows;
      board = subst (IsBoard rows) same board;
      reached = reached_first rows log;
    }

pub keeps_settled : KeepsSettledBoards
keeps_settled rows log marks p q board settled kept = record {
  count = kept.count;
  rising = kept.rising;
  found = λ image images. elim (kept.found image images) [
    | inl first ↦ is_found rows log p image board settled first
    | inr found ↦ found
  ];
  acknowledged = kept.acknowledged;
}

-- the rows of a board that was found are those of the image
reached_as : (base found : Rows) (log : List Item) (from : ℕ) (image : Image) → IsBoard found image
    → IsFound base log from image → IsReached base log from found
reached_as base found log from image board is = subst (IsReached base log from)
    (one_board is.rows found image is.board board) is.reached

pub next_finds : NextRunFindsLog
next_finds rows log marks p q faults faults' found next takes board = record {
  reached = λ images. elim (takes.kept.found (content next) images) [
    | inl first ↦ inl first
    | inr is ↦ inr (reached_as rows found log 0 (content next) board is)
  ];
  acknowledged = λ place mark by command item marked images.
      reached_as rows found log (place + 1) (content next) board
      (takes.kept.acknowledged place mark by command item marked (content next) images);
}

holds_found : (base : Rows) (log : List Item) (from : ℕ) (image : Image) → IsFound base log from image
    → HoldsOn base log from image
holds_found base log from image is = record {
  rows = is.rows;
  board = is.board;
  first = is.rows;
  reached = is.reached;
  later = [];
  behind = refl;
}

pub next_holds : NextRunHoldsAcknowledged
next_holds base log marks p q faults faults' place mark by command next takes item marked begins image images =
    holds_found base log (place + 1) image (takes.kept.acknowledged place mark by command item marked image
    (begins image images))

-- one run more
holds_behind : (base : Rows) (log : List Item) (from : ℕ) (rows : Rows) (later : List Item) (entry image : Image)
    → IsBoard rows entry → IsLawful rows later
    → HoldsOn base log from entry → IsFound rows later 0 image → HoldsOn base log from image
holds_behind base log from rows later entry image board lawful held is = record {
  rows = is.rows;
  board = is.board;
  first = held.first;
  reached = held.reached;
  later = later ∷ held.later;
  behind = (
    rows,
    subst (IsFoundBehind held.first held.later)
        (one_board held.rows rows entry held.board board) held.behind,
    lawful,
    is.reached,
  );
}

pub hands_on : EachRunHandsItOn
hands_on base log from rows later marks p q faults faults' next leaves board takes begins image images =
    elim (takes.kept.found image (begins image images)) [
      | inl first ↦ leaves image first
      | inr is ↦ holds_behind base log from rows later (content p) image board takes.lawful
          (leaves (content p) (λ area. p.possible p.clock area)) is
    ]
