-- Runs, command by command.
use Rattle.std.proofs.Common.{◌≡◌, ℕ, ◌+◌, ◌<◌, take, get_or, List, [], ◌∷◌, ◌++◌, length, refl, ap, ◌∙◌, sym, subst}
use Rattle.std.specs.Prelude.{Result, Ok, Err, OnOk, OnErr}
use Rattle.bbs_model.specs.declared.command.Command.{Command}
use Rattle.bbs_model.specs.declared.rows.Rows.{Rows}
use Rattle.bbs_model.specs.declared.verdict.Verdict.{Verdict}
use Rattle.bbs_model.specs.Step.{verdict_of}
use Rattle.bbs_model.specs.Runs.{state_after, state_after_all, verdicts_of}
use Rattle.plain_step.proofs.Scans.{one_more}

-- what holds where a call ends well and where it doesn't
pub either_end : {A E X : Type 0} (P : X → Type 0) (result : Result A E) (new good old : X)
    → OnOk result (new ≡ good) → OnErr result (new ≡ old) → P good → P old → P new
either_end P (Ok a) new good old ok err p q = subst P (sym ok) p
either_end P (Err e) new good old ok err p q = subst P (sym err) q

state_after_all-append : (rows : Rows) (xs : List Command) (c : Command)
    → state_after_all rows (xs ++ c ∷ []) ≡ state_after (state_after_all rows xs) c
state_after_all-append rows [] c = refl
state_after_all-append rows (x ∷ xs) c = state_after_all-append (state_after rows x) xs c

verdicts_of-append : (rows : Rows) (xs : List Command) (c : Command)
    → verdicts_of rows (xs ++ c ∷ []) ≡ verdicts_of rows xs ++ verdict_of (state_after_all rows xs) c ∷ []
verdicts_of-append rows [] c = refl
verdicts_of-append rows (x ∷ xs) c = ap (λ (vs : List Verdict). verdict_of rows x ∷ vs)
    (verdicts_of-append (state_after rows x) xs c)

-- one command more
pub one_command_more : (start rows : Rows) (cs : List Command) (i : ℕ) (c : Command) → i < length cs → c ≡ get_or cs i c
    → rows ≡ state_after_all start (take i cs) → state_after rows c ≡ state_after_all start (take (i + 1) cs)
one_command_more start rows cs i c lt is at =
    ap (λ (r : Rows). state_after r c) at ∙ sym (state_after_all-append start (take i cs) c)
    ∙ ap (state_after_all start) (sym (one_more cs i c lt is))

pub one_verdict_more : (start rows : Rows) (cs : List Command) (i : ℕ) (c : Command) → i < length cs → c ≡ get_or cs i c
    → rows ≡ state_after_all start (take i cs)
    → verdicts_of start (take (i + 1) cs) ≡ verdicts_of start (take i cs) ++ verdict_of rows c ∷ []
one_verdict_more start rows cs i c lt is at =
    ap (verdicts_of start) (one_more cs i c lt is) ∙ verdicts_of-append start (take i cs) c
    ∙ ap (λ (r : Rows). verdicts_of start (take i cs) ++ verdict_of r c ∷ []) (sym at)
