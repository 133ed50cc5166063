-- Following frames, one after another.
use Rattle.std.proofs.Common.{◌≡◌, ℕ, ◌+◌, List, [], ◌∷◌, ◌++◌, length, Option, Some, None, Result, Ok, Err, refl, sym, ap, ◌∙◌, arith}
use Rattle.wire_fields.specs.Reading.{◌>>=◌}
use Rattle.wire_fields.proofs.Public.{bind_ok}
use Rattle.disk_trait.specs.declared.area.Area.{Area}
use Rattle.bbs_codec.specs.Command.{reading, spelled, FitsCommand, IsReadIn}
use Rattle.bbs_codec.proofs.Public.{command_again}
use Rattle.bbs_codec.specs.declared.fault.CodecFault.{CodecFault}
use Rattle.bbs_journal.specs.declared.load_fault.LoadFault.{LoadFault}
use Rattle.bbs_model.specs.Runs.{if_legal}
use Rattle.bbs_model.specs.Step.{verdict_of, IsLegal, rows_after}
use Rattle.bbs_model.specs.declared.command.Command.{Command}
use Rattle.bbs_model.specs.declared.rows.Rows.{Rows}
use Rattle.bbs_model.specs.declared.verdict.Verdict.{Verdict}
use Rattle.bbs_model.specs.declared.verdict.Verdict.TheVariants as verdict
use Rattle.bbs_laws.proofs.Public.{next-rows_after}
use Rattle.bbs_board.specs.Opening.{rows_in, after_read, after_payload, or_damaged, followed, board_of}

-- what was read on with was there
pub damaged_ok : (area : Area) (at : ℕ) (o : Option Rows) (go : Rows → Result Rows LoadFault) (after : Rows)
    → or_damaged area at o go ≡ Ok after
    → (rows : Rows) × (o ≡ Some rows) × (go rows ≡ Ok after)
damaged_ok area at None go after is = cc
damaged_ok area at (Some rows) go after is = (rows, refl, is)

legal_some : (v : Verdict) (x y : Rows) → if_legal v (Some x) None ≡ Some y → (v ≡ verdict.Ok) × (x ≡ y)
legal_some verdict.Ok x y is = (refl, cc)
legal_some verdict.Same x y is = cc
legal_some (verdict.Refused why) x y is = cc

-- a payload that was followed is a command that was legal
pub record IsFollowed (version : ℕ) (rows : Rows) (payload : List ℕ) (after : Rows) : Type 0 where
  pub command : Command
  pub read : reading version payload ≡ Ok command
  pub legal : IsLegal rows command
  pub after_is : rows_after rows command ≡ after

by_reading : (rows after : Rows) (r : Result Command CodecFault) → after_read rows r ≡ Some after
    → (c : Command) × (r ≡ Ok c) × (IsLegal rows c) × (rows_after rows c ≡ after)
by_reading rows after (Ok c) is = let l = legal_some (verdict_of rows c) (rows_after rows c) after is in
    (c, refl, l.0, l.1)
by_reading rows after (Err fault) is = cc

pub payload_followed : (version : ℕ) (rows : Rows) (payload : List ℕ) (after : Rows)
    → after_payload version rows payload ≡ Some after → IsFollowed version rows payload after
payload_followed version rows payload after is =
    let by = by_reading rows after (reading version payload) is in
    record { command = by.0; read = by.1; legal = by.2; after_is = by.3 }

-- each payload is a transition
pub next-followed : (version : ℕ) (area : Area) (rows after : Rows) (at : ℕ) (payloads : List (List ℕ))
    → followed version area None rows at payloads ≡ Ok after
    → after.next ≡ rows.next + length payloads
next-followed version area rows after at [] is = let same : rows ≡ after = cc in
    omega (arith, ap (λ (r : Rows). r.next) same)
next-followed version area rows after at (payload ∷ payloads) is =
    let first = damaged_ok area at (after_payload version rows payload)
    (λ next. followed version area None next (at + 3 + length payload) payloads) after is in
    let step = payload_followed version rows payload first.0 first.1 in
    let one : first.0.next ≡ rows.next + 1 = ap (λ (r : Rows). r.next)
    (sym step.after_is) ∙ next-rows_after rows step.command step.legal in
    omega (arith, one, next-followed version area first.0 after (at + 3 + length payload) payloads first.2)

-- one payload more
pub followed_more : (version : ℕ) (area : Area) (rows mid after : Rows) (at : ℕ) (payloads : List (List ℕ))
    (payload : List ℕ) → followed version area None rows at payloads ≡ Ok mid
    → after_payload version mid payload ≡ Some after → followed version area None rows at (payloads ++ payload ∷ [])
    ≡ Ok after
followed_more version area rows mid after at [] payload is more =
    let same : rows ≡ mid = cc in
    let there : after_payload version rows payload ≡ Some after =
    ap (λ (r : Rows). after_payload version r payload) same ∙ more in
    ap (λ (o : Option Rows). or_damaged area at o (λ next.
    followed version area None next (at + 3 + length payload) [])) there
followed_more version area rows mid after at (p ∷ payloads) payload is more =
    let first = damaged_ok area at (after_payload version rows p)
    (λ next. followed version area None next (at + 3 + length p) payloads) mid is in
    ap (λ (o : Option Rows). or_damaged area at o (λ next.
    followed version area None next (at + 3 + length p) (payloads ++ payload ∷ []))) first.1
    ∙ followed_more version area first.0 mid after (at + 3 + length p) payloads payload first.2 more

-- behind a defect there is no board
pub broken_followed : (version : ℕ) (area : Area) (place : ℕ) (rows after : Rows) (at : ℕ) (payloads : List (List ℕ))
    → followed version area (Some place) rows at payloads ≡ Ok after → ⊥
broken_followed version area place rows after at [] is = cc
broken_followed version area place rows after at (payload ∷ payloads) is =
    let first = damaged_ok area at (after_payload version rows payload)
    (λ next. followed version area (Some place) next (at + 3 + length payload) payloads) after is in
    broken_followed version area place first.0 after (at + 3 + length payload) payloads first.2

legal_to : (v : Verdict) (x : Rows) → v ≡ verdict.Ok → if_legal v (Some x) None ≡ Some x
legal_to v x is = ap (λ (w : Verdict). if_legal w (Some x) None) is

-- a legal command's payload is followed
pub legal_followed : (version : ℕ) (rows : Rows) (payload : List ℕ) (c : Command) → reading version payload ≡ Ok c
    → IsLegal rows c → after_payload version rows payload ≡ Some (rows_after rows c)
legal_followed version rows payload c read legal =
    ap (λ (r : Result Command CodecFault). after_read rows r) read ∙ legal_to (verdict_of rows c)
    (rows_after rows c) legal

-- one payload more on a board
pub board_more : (version : ℕ) (area : Area) (head : List ℕ) (payloads : List (List ℕ)) (payload : List ℕ)
    (rows after : Rows) → board_of version area head payloads None ≡ Ok rows
    → after_payload version rows payload ≡ Some after → board_of version area head (payloads ++ payload ∷ []) None
    ≡ Ok after
board_more version area head payloads payload rows after is more =
    let first = bind_ok (rows_in version area head) (λ start.
    followed version area None start (23 + length head) payloads) rows is in
    ap (λ (r : Result Rows LoadFault). r >>= λ start. followed version area None start (23 + length head)
    (payloads ++ payload ∷ [])) first.1
    ∙ followed_more version area first.0 rows after (23 + length head) payloads payload first.2 more

-- a legal command that the area may have is a payload more
pub command_more : (version : ℕ) (area : Area) (head : List ℕ) (payloads : List (List ℕ)) (c : Command) (rows : Rows)
    → FitsCommand c → IsReadIn version c → IsLegal rows c → board_of version area head payloads None ≡ Ok rows
    → board_of version area head (payloads ++ spelled c ∷ []) None ≡ Ok (rows_after rows c)
command_more version area head payloads c rows fits read legal is =
    board_more version area head payloads (spelled c) rows (rows_after rows c) is
    (legal_followed version rows (spelled c) c (command_again version c fits read) legal)
