-- Pieces of an area that a reader has before it.
use Rattle.std.specs.Prelude.{◌≡◌, ℕ, ◌+◌, ◌-◌, ◌≤◌, min, List, length, take, drop}
use Rattle.bbs_journal.specs.declared.piece.Piece.{Piece}

-- a piece begins at this place or in front of it, and its room has 65536 bytes
pub record StartsBy (piece : Piece) (at : ℕ) : Type 0 where
  pub before : piece.from ≤ at
  pub fits : piece.count ≤ 65536
  pub size : length piece.room.items ≡ 65536

-- and it ends there or behind it
pub record Covers (piece : Piece) (at : ℕ) : Type 0 where
  pub starts : StartsBy piece at
  pub ends : at ≤ piece.from + piece.count

-- it has as many bytes from this place on as the longest frame, or all of an area of this length
abbrev pub Reaches : Piece → ℕ → ℕ → Type 0
Reaches piece at len = min 515 (len - at) ≤ piece.from + piece.count - at

-- its bytes are those of the area from its place on
pub record IsPieceOf (piece : Piece) (bytes : List ℕ) : Type 0 where
  pub taken : take piece.count piece.room.items ≡ take piece.count (drop piece.from bytes)

-- the bytes of a piece from this place on, as many as the longest frame of an area of this length may have
abbrev pub part_of : Piece → ℕ → ℕ → List ℕ
part_of piece at len = take (min (min (piece.count - (at - piece.from)) 515) (len - at)) (drop (at - piece.from) piece.room.items)
