-- Looks one after another, and rows that still hold (serves seen_rows, opening and stopping).
use Rattle.std.proofs.Common.{◌≡◌, List, [], ◌∷◌, ◌++◌, length, refl, sym, ap, ◌∙◌, append_assoc, arith, length-append}
use Rattle.std.proofs.lemmas.List.{append-nil}
use Rattle.bbs_model.specs.PortView.{PortView, after_others, IsLater, Looks}
use Rattle.bbs_model.specs.Replay.{replay_log}
use Rattle.bbs_model.specs.declared.item.Item.{Item}
use Rattle.bbs_model.proofs.Public.{later_same, later_then}
use Rattle.converge_round.specs.SeenRows.{AreSeen, WereSeen}
use Rattle.converge_round.specs.declared.seen_rows.SeenRows.{SeenRows}

-- two looks are one
pub looks-then : (u v w : PortView) → Looks u v → Looks v w → Looks u w
looks-then u v w f g = record {
  others = f.others ++ g.others;
  is = g.is ∙ ap (λ (x : PortView). after_others x g.others) f.is
      ∙ ap (λ (xs : List Item). record u { seen = xs }) (append_assoc u.seen f.others g.others);
  few = g.few;
}

-- a list of no length is empty
nothing-left : (xs : List Item) → length xs ≡ 0 → xs ≡ []
nothing-left [] e = refl
nothing-left (x ∷ xs) e = absurd (omega (arith, e))

-- if the log is no longer than it was before they were read, they are the rows of now
pub still-seen : (v w : PortView) (s : SeenRows) → WereSeen v s → Looks v w → s.place ≡ length w.seen → AreSeen w s
still-seen v w s h looks same =
    let read = h.read in
    let since : w.seen ≡ read.seen ++ (h.since.seen.0 ++ looks.others) =
    ap (λ (x : PortView). x.seen) looks.is ∙ ap (λ (xs : List Item). xs ++ looks.others) h.since.seen.1
    ∙ append_assoc read.seen h.since.seen.0 looks.others in
    let rest = h.since.seen.0 ++ looks.others in
    let none : rest ≡ [] = nothing-left rest
    (omega (arith, ap length since, length-append read.seen rest, h.then.place, same)) in
    let seen : w.seen ≡ read.seen = since ∙ ap (λ (xs : List Item). read.seen ++ xs) none ∙ append-nil read.seen in
    let base : w.base ≡ read.base = ap (λ (x : PortView). x.base) looks.is ∙ h.since.base in
    record {
      rows = h.then.rows ∙ sym (ap (λ (b : _). replay_log b w.seen) base ∙ ap (replay_log read.base) seen);
      valid = h.then.valid;
      place = omega (arith, same);
    }

-- what was seen just now was seen before
pub seen-now : (v : PortView) (s : SeenRows) → AreSeen v s → WereSeen v s
seen-now v s h = record { read = v; since = later_same v; then = h }

-- and stays so as time goes on
pub seen-later : (v w : PortView) (s : SeenRows) → IsLater v w → WereSeen v s → WereSeen w s
seen-later v w s later h =
    record { read = h.read; since = later_then h.read v w h.since later; then = h.then }
