-- What a piece of an area tells of a frame in it.
use Rattle.std.proofs.Common.{◌≡◌, ℕ, ◌+◌, ◌-◌, ◌≤◌, min, List, length, take, drop, sym, ap, ◌∙◌, subst, arith, length-drop}
use Rattle.std.proofs.lemmas.List.{take-take, drop-drop, drop-take, length-take}
use Rattle.bbs_journal.specs.Pieces.{Covers, Reaches, IsPieceOf, part_of}
use Rattle.bbs_journal.specs.Reading.{IsAt, IsFrameWithin}
use Rattle.bbs_journal.specs.declared.frame.Next.{Next}
use Rattle.bbs_journal.specs.declared.piece.Piece.{Piece}
use Rattle.bbs_journal.proofs.NextFrame.{at_whole, within_at}

part_taken : (room bytes : List ℕ) (from count k m at : ℕ) → take count room ≡ take count (drop from bytes)
    → k + m ≤ count → at ≡ from + k → take m (drop k room) ≡ take m (drop at bytes)
part_taken room bytes from count k m at same within at_is =
    sym (drop-take k m room)
    ∙ ap (drop k) (sym (take-take (k + m) count room within) ∙ ap (take (k + m)) same ∙ take-take (k + m) count
    (drop from bytes) within)
    ∙ drop-take k m (drop from bytes) ∙ ap (take m) (drop-drop k from bytes ∙ ap (λ (n : ℕ). drop n bytes) (sym at_is))

pub at_piece : (piece : Piece) (bytes : List ℕ) (at len : ℕ) (next : Next) → Covers piece at → at ≤ len
    → Reaches piece at len → len ≡ length bytes → IsPieceOf piece bytes → IsAt next (part_of piece at len)
    → IsAt next (drop at bytes)
at_piece piece bytes at len next covers within reaches len_is is here =
    let before = covers.starts.before in
    let ends = covers.ends in
    let k : ℕ = at - piece.from in
    let m : ℕ = min (min (piece.count - k) 515) (len - at) in
    let there : k + m ≤ piece.count = omega arith in
    let at_is : at ≡ piece.from + k = omega arith in
    let size : m ≡ min 515 (length (drop at bytes)) = omega (arith, length-drop at bytes) in
    at_whole m (drop at bytes) next size (subst (IsAt next)
    (part_taken piece.room.items bytes piece.from piece.count k m at is.taken there at_is) here)

pub within_piece : (piece : Piece) (at len : ℕ) (next : Next) → IsAt next (part_of piece at len)
    → IsFrameWithin next (len - at)
within_piece piece at len next here =
    let k : ℕ = at - piece.from in
    within_at next (part_of piece at len) (len - at) (omega
    (arith, length-take (min (min (piece.count - k) 515) (len - at)) (drop k piece.room.items))) here
