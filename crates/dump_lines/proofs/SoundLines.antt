-- What every line that is read keeps.
use Rattle.std.proofs.Common.{◌≡◌, ℕ, zero, suc, ◌+◌, ◌<◌, ◌==◌, Bool, true, false, ◌&&◌, if◌then◌else◌, List, length, codes, IfSome, Result, Ok, Err, IfOk, refl, arith, subst}
use Rattle.std.specs.Str.{bytes_eq}
use Rattle.serde_json.specs.Data.{Data}
use Rattle.dump_lines.specs.Cells.{cell_state_in, demand_of, has_sound_amounts, place_in, state_with, whole}
use Rattle.dump_lines.specs.Facts.{IsLine, IsQuestion, IsTurnOrder}
use Rattle.dump_lines.specs.Faults.{◌>>=◌, ◌&◌, Gives, json_said, or_shape}
use Rattle.dump_lines.specs.Listing.{all_in}
use Rattle.dump_lines.specs.Lines.{kind_of, line_as, line_in, line_of}
use Rattle.dump_lines.specs.Members.{has, number_in, number_or, text_in}
use Rattle.dump_lines.specs.Questions.{as_batch, ask_in, batch_in, cells_in, drain_in, drained_in, each_in, fit_in, given_in, has_only, lose_each_in, lose_in, lose_of, order_in, order_named, process_in, question_as, question_in, some_cells, tag_given, turns_in, without_cells}
use Rattle.dump_lines.specs.Rows.{actual_in, desired_in, task_in}
use Rattle.dump_lines.specs.Values.{name_as}
use Rattle.dump_lines.specs.declared.cell.CellHead.{CellHead}
use Rattle.dump_lines.specs.declared.cell_state.CellState.{CellState}
use Rattle.dump_lines.specs.declared.cell_state.InstanceOnCell.{InstanceOnCell}
use Rattle.dump_lines.specs.declared.cell_state.TaskOnCell.{TaskOnCell}
use Rattle.dump_lines.specs.declared.dump_line.DumpLine.{DumpLine}
use Rattle.dump_lines.specs.declared.dump_line.LineKind.{LineKind}
use Rattle.dump_lines.specs.declared.dump_line.LineKind.TheVariants as kind
use Rattle.dump_lines.specs.declared.fault.LineError.{LineError}
use Rattle.dump_lines.specs.declared.fault.LineFault.{LineFault}
use Rattle.dump_lines.specs.declared.fault.LineFault.TheVariants.{BadShape}
use Rattle.dump_lines.specs.declared.question.TurnOrder.{TurnOrder}
use Rattle.dump_lines.specs.declared.question.TurnOrder.TheVariants.{Fullest, ByName}
use Rattle.dump_lines.specs.declared.question_in.Ask.{Ask}
use Rattle.dump_lines.specs.declared.question_in.Ask.TheVariants as ask

-- what holds of what follows, holds of it behind what was read
ok-then : {X Y : Type 0} (r : Result X LineFault) (f : X → Result Y LineFault) (P : X → Type 0) (Q : Y → Type 0)
    → IfOk r P → ((x : X) → P x → IfOk (f x) Q) → IfOk (r >>= f) Q
ok-then (Ok x) f P Q known more = more x known
ok-then (Err fault) f P Q known more = tt

-- nothing is known of what was read
ok-of-any : {X : Type 0} (r : Result X LineFault) → IfOk r (λ x. Unit {0})
ok-of-any (Ok x) = tt
ok-of-any (Err fault) = tt

ok-behind : {X Y : Type 0} (r : Result X LineFault) (f : X → Result Y LineFault) (Q : Y → Type 0)
    → ((x : X) → IfOk (f x) Q) → IfOk (r >>= f) Q
ok-behind r f Q more = ok-then r f (λ x. Unit {0}) Q (ok-of-any r) (λ x known. more x)

ok-either : {X : Type 0} (b : Bool) (r s : Result X LineFault) (P : X → Type 0) → (b ≡ true → IfOk r P)
    → (b ≡ false → IfOk s P) → IfOk (if b then r else s) P
ok-either true r s P here there = here refl
ok-either false r s P here there = there refl

ok-both : {X Y : Type 0} (r : Result X LineFault) (s : Result Y LineFault) (P : X → Type 0) (Q : Y → Type 0) → IfOk r P
    → IfOk s Q → IfOk (r & s) (λ p. P p.0 × Q p.1)
ok-both (Ok x) (Ok y) P Q first second = (first, second)
ok-both (Ok x) (Err fault) P Q first second = tt
ok-both (Err fault) (Ok y) P Q first second = tt
ok-both (Err fault) (Err other) P Q first second = tt

some-left : (a b : ℕ) → ((a == 0) && (b == 0)) ≡ false → 0 < a + b
some-left zero zero h = cc
some-left zero (suc b) h = omega arith
some-left (suc a) b h = omega arith

some-more : (a : ℕ) → (a == 0) ≡ false → 0 < a
some-more zero h = cc
some-more (suc a) h = omega arith

lose-sound : (cells zones : Result (List (List ℕ)) LineFault) → IfOk (lose_of cells zones) IsQuestion
unfolding lose_of
lose-sound cells zones =
    ok-behind (cells & zones) _ IsQuestion
    (λ p. ok-either ((length p.0 == 0) && (length p.1 == 0)) _ _ IsQuestion (λ h. tt)
    (λ h. some-left (length p.0) (length p.1) h))

cells-sound : (d : Data) → IfOk (cells_in d) (λ cells. 0 < length cells)
unfolding cells_in
cells-sound d =
    ok-behind (all_in name_as (codes "cells") d) some_cells (λ cells. 0 < length cells)
    (λ cells. ok-either (length cells == 0) _ _ (λ cs. 0 < length cs) (λ h. tt) (λ h. some-more (length cells) h))

given-sound : (d : Data) → IfOk (given_in d) IsTurnOrder
unfolding given_in
given-sound d =
    ok-either (has (codes "cells") d) _ _ IsTurnOrder
    (λ h. ok-then (cells_in d) _ (λ cells. 0 < length cells) IsTurnOrder (cells-sound d) (λ cells some. some))
    (λ h. tt)

without-sound : (order : TurnOrder) (d : Data) → IsTurnOrder order → IfOk (without_cells order d) IsTurnOrder
unfolding without_cells
without-sound order d is = ok-either (has (codes "cells") d) _ _ IsTurnOrder (λ h. tt) (λ h. is)

named-choice : (a b c : Bool) (d : Data) → IfOk (if a then without_cells Fullest d else
    (if b then without_cells ByName d else (if c then given_in d else Err BadShape))) IsTurnOrder
named-choice true b c d = without-sound Fullest d tt
named-choice false true c d = without-sound ByName d tt
named-choice false false true d = given-sound d
named-choice false false false d = tt

named-sound : (word : List ℕ) (d : Data) → IfOk (order_named word d) IsTurnOrder
unfolding order_named
named-sound word d = named-choice (bytes_eq word (codes "fullest")) (bytes_eq word (codes "name"))
    (bytes_eq word (codes "given")) d

order-sound : (d : Data) → IfOk (order_in d) IsTurnOrder
unfolding order_in
order-sound d = ok-behind (or_shape (text_in (codes "order") d)) _ IsTurnOrder (λ word. named-sound word d)

turns-sound : (d : Data) → IfOk (turns_in (order_in d) d) IsQuestion
unfolding turns_in
turns-sound d =
    ok-then (order_in d & number_or 1 (codes "at_least") d) _ (λ p. IsTurnOrder p.0 × Unit {0}) IsQuestion
    (ok-both (order_in d) (number_or 1 (codes "at_least") d) IsTurnOrder (λ n. Unit {0}) (order-sound d) (ok-of-any _))
    (λ p known. known.0)

drained-sound : (d : Data) → IfOk (drained_in d) (λ cells. IfSome cells (λ listed. 0 < length listed))
unfolding drained_in
drained-sound d =
    ok-either (has (codes "cells") d) _ _ (λ cells. IfSome cells (λ listed. 0 < length listed))
    (λ h. ok-then (cells_in d) _ (λ cells. 0 < length cells) (λ cells. IfSome cells (λ listed. 0 < length listed))
    (cells-sound d) (λ cells some. some))
    (λ h. tt)

batch-sound : (d : Data) → IfOk (batch_in d) (λ n. 0 < n)
unfolding batch_in
batch-sound d =
    ok-behind (number_in (codes "at_a_time") d) as_batch (λ n. 0 < n)
    (λ n. ok-either (n == 0) _ _ (λ n. 0 < n) (λ h. tt) (λ h. some-more n h))

drain-sound : (d : Data) → IfOk (drain_in (drained_in d) d) IsQuestion
unfolding drain_in
drain-sound d =
    ok-then (batch_in d & drained_in d) _ (λ p. (0 < p.0) × IfSome p.1 (λ listed. 0 < length listed)) IsQuestion
    (ok-both (batch_in d) (drained_in d) (λ n. 0 < n) (λ cells. IfSome cells (λ listed. 0 < length listed))
    (batch-sound d) (drained-sound d))
    (λ p known. known)

asks-sound : (asks : Ask) (d : Data) → IfOk (question_as asks d) IsQuestion
unfolding question_as lose_in lose_each_in fit_in
asks-sound ask.Show d = tt
asks-sound ask.Lose d = lose-sound _ _
asks-sound ask.LoseEach d = ok-behind (or_shape (each_in d)) _ IsQuestion (λ of. tt)
asks-sound ask.LoseInTurn d = turns-sound d
asks-sound ask.Drain d = drain-sound d
asks-sound ask.Fit d =
    ok-behind (process_in d & number_in (codes "instances") d & demand_of (number_in (codes "memory") d)
    (number_in (codes "disk") d) (tag_given d)) _ IsQuestion
    (λ p. tt)

question-sound : (d : Data) → IfOk (question_in d) IsQuestion
unfolding question_in
question-sound d =
    ok-behind (or_shape (ask_in d)) _ IsQuestion (λ asks.
    ok-either (has_only asks d) _ _ IsQuestion (λ h. asks-sound asks d) (λ h. tt))

-- what a cell tells has sound amounts
abbrev HasSound : CellState → Type 0
HasSound state = has_sound_amounts state ≡ true

state-sound : (head : Result CellHead LineFault) (instances : Result (List InstanceOnCell) LineFault)
    (tasks : Result (List TaskOnCell) LineFault) → IfOk (state_with head instances tasks) HasSound
unfolding state_with
state-sound head instances tasks =
    ok-behind (head & instances & tasks) _ HasSound
    (λ p. ok-either (has_sound_amounts (whole p.0.0 p.0.1 p.1)) _ _ HasSound (λ h. h) (λ h. tt))

cell-sound : (d : Data) → IfOk (cell_state_in d) HasSound
unfolding cell_state_in
cell-sound d = state-sound _ _ _

kind-sound : (k : LineKind) (d : Data) → IfOk (line_in k d) IsLine
unfolding line_in
kind-sound kind.Question d = ok-then (question_in d) _ IsQuestion IsLine (question-sound d) (λ q known. known)
kind-sound kind.State d = ok-then (cell_state_in d) _ HasSound IsLine (cell-sound d) (λ s known. known)
kind-sound kind.Listed d = ok-behind (place_in (codes "zone") d) _ IsLine (λ p. tt)
kind-sound kind.Task d = ok-behind (task_in d) _ IsLine (λ t. tt)
kind-sound kind.Desired d = ok-behind (desired_in d) _ IsLine (λ t. tt)
kind-sound kind.Actual d = ok-behind (actual_in d) _ IsLine (λ t. tt)
kind-sound kind.Domain d = tt

as-sound : (d : Data) → IfOk (line_as d) IsLine
unfolding line_as
as-sound d = ok-behind (or_shape (kind_of d)) _ IsLine (λ k. kind-sound k d)

-- what the bytes of a line are keeps what a line has to
pub line_of-sound : (bytes : List ℕ) → IfOk (line_of bytes) IsLine
unfolding line_of
line_of-sound bytes = ok-behind (json_said bytes) line_as IsLine as-sound

-- so what was read of it does
pub gives-sound : (r : Result DumpLine LineError) (bytes : List ℕ) → Gives r (line_of bytes) → IfOk r IsLine
gives-sound (Ok line) bytes gives = subst (λ (r : Result DumpLine LineFault). IfOk r IsLine) gives (line_of-sound bytes)
gives-sound (Err error) bytes gives = tt
