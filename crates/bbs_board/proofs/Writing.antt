-- What a disk reads after many calls.
use Rattle.std.proofs.Common.{◌≡◌, ℕ, true, List, [], ◌∷◌, ◌++◌, refl, sym, subst}
use Rattle.disk_trait.specs.Past.{Past, content}
use Rattle.bbs_model.specs.Replay.{after_item, replay_log}
use Rattle.bbs_model.specs.Step.{rows_after}
use Rattle.bbs_model.specs.declared.command.Command.{Command}
use Rattle.bbs_model.specs.declared.item.Item.{Item}
use Rattle.bbs_model.specs.declared.item.Item.TheVariants.{Done, Doubt}
use Rattle.bbs_model.specs.declared.rows.Rows.{Rows}
use Rattle.bbs_board.specs.Stops.{Stores}
use Rattle.bbs_board.specs.Written.{Reading, OpensTo, ReadsAs, stored_behind, written_behind, WritesOn}
use Rattle.bbs_board.proofs.Adds.{same_reading}

-- the rows that the items behind a log lead to
pub replay_behind : (base : Rows) (log more : List Item)
    → replay_log base (log ++ more) ≡ replay_log (replay_log base log) more
replay_behind base [] more = refl
replay_behind base (item ∷ log) more = replay_behind (after_item base item) log more

written_then : (rows : Rows) (r : Reading) (xs ys : List Item)
    → written_behind rows r (xs ++ ys) ≡ written_behind (replay_log rows xs) (written_behind rows r xs) ys
written_then rows r [] ys = refl
written_then rows r (Done by c ∷ xs) ys = written_then (rows_after rows c) (stored_behind rows c r) xs ys
written_then rows r (Doubt by c ∷ xs) ys = written_then rows r xs ys

pub writes_nothing : (rows : Rows) (p : Past) → WritesOn rows [] p p
writes_nothing rows p r reads = reads

pub writes_then : (rows : Rows) (xs ys : List Item) (p q s : Past) → WritesOn rows xs p q
    → WritesOn (replay_log rows xs) ys q s → WritesOn rows (xs ++ ys) p s
writes_then rows xs ys p q s first second r reads =
    subst (λ (x : Reading). ReadsAs x s) (sym (written_then rows r xs ys))
    (second (written_behind rows r xs) (first r reads))

-- a command that was stored is read behind what was read before
pub stores_writes : (by : ℕ) (rows : Rows) (c : Command) (p q : Past) → Stores true rows c p q
    → WritesOn rows (Done by c ∷ []) p q
stores_writes by rows c p q s r reads =
    let same : s.before ≡ r = same_reading (content p) s.before r s.reads reads in
    subst (λ (x : Reading). OpensTo (stored_behind rows c x) (content q)) same
    (s.done refl (content q) (q.possible q.clock)).opens
