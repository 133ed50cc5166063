-- Lists of commands about unlike rows are refused for nothing but want of room.
use Rattle.std.proofs.Common.{◌≡◌, ◌≢◌, ℕ, Bool, true, false, cond, nat_le, List, [], ◌∷◌, Option, Some, refl, sym, ap, subst, ◌∙◌, arith, inl, ⊎_elim}
use Rattle.std.specs.List.{Contains}
use Rattle.std.proofs.lemmas.List.Elements.{Contains-append_cases}
use Rattle.cell_records.specs.declared.answer.Answer.{Answer}
use Rattle.convergence.specs.Plans.{plan_of_answers}
use Rattle.convergence.specs.PlanLaws.{plan_on}
use Rattle.convergence.specs.Subjects.{Subject, work_on, subject_in}
use Rattle.convergence.proofs.Public.{work_is_by_subject, plan_is_by_subject}
use Rattle.crash_backoff.specs.declared.moment.Moment.{Moment}
use Rattle.bbs_model.specs.Found.{found_by}
use Rattle.bbs_model.specs.Limits.{most_transitions}
use Rattle.bbs_model.specs.Runs.{state_after}
use Rattle.bbs_model.specs.Step.{attempt_at, attempt_of, judged, verdict_of}
use Rattle.bbs_model.specs.Valid.{IsValid}
use Rattle.bbs_model.specs.Work.{work}
use Rattle.bbs_model.specs.declared.attempt.Attempt.{Attempt}
use Rattle.bbs_model.specs.declared.attempt.Attempt.TheVariants.{Refuse, Keep, Change}
use Rattle.bbs_model.specs.declared.command.Command.{Command}
use Rattle.bbs_model.specs.declared.command.Op.{Op}
use Rattle.bbs_model.specs.declared.rows.Rows.{Rows}
use Rattle.bbs_model.specs.declared.verdict.BoardRefusal.{BoardRefusal}
use Rattle.bbs_model.specs.declared.verdict.BoardRefusal.TheVariants.{BoardFull}
use Rattle.bbs_model.specs.declared.verdict.Verdict.TheVariants as verdict
use Rattle.converge_laws.specs.Accepted.{IsOfRound, IsApart, AreApart}
use Rattle.converge_laws.specs.Laws.{AreOfRound}
use Rattle.converge_laws.proofs.Public.{first_or_rest, inside_first, inside_rest, work_of_round, plan_of_round, work-apart, plan-apart, stays-ordinary, stays-evacuating, stays-suspect, stays-task, stays-cell, stays-domain, stays-wanted, stays-there}
use Rattle.round_theorem.specs.Alone.{refusal_by, refused_of}
use Rattle.round_theorem.specs.Lacks.{IsLack, AreRefusedForRoom}
use Rattle.round_theorem.proofs.FairMoves.{IsFair, FairIf}
use Rattle.round_theorem.proofs.FairTables.{IsAsBefore, KeepsThere, fair-work, fair-plan}

one_refusal : (c : Command) (because : BoardRefusal) (x : Command × BoardRefusal) → Contains ((c, because) ∷ []) x
    → because ≡ x.1
one_refusal c because x inside =
    ⊎_elim (λ (is : (c, because) ≡ x). ap (λ (p : Command × BoardRefusal). p.1) is)
    (λ (rest : Contains [] x). absurd (omega (arith, rest.1))) (first_or_rest x (c, because) [] inside)

full_or_not : (c : Command) (b : Bool) (x : Command × BoardRefusal)
    → Contains (refusal_by c (cond b (verdict.Refused BoardFull) verdict.Ok)) x → IsLack x.1
full_or_not c true x inside = inl (sym (one_refusal c BoardFull x inside))
full_or_not c false x inside = absurd (omega (arith, inside.1))

fair_refusal : (c : Command) (next : ℕ) (a : Attempt) (x : Command × BoardRefusal) → IsFair a
    → Contains (refusal_by c (judged next a)) x → IsLack x.1
fair_refusal c next (Refuse because) x fair inside = subst IsLack (one_refusal c because x inside) fair
fair_refusal c next Keep x fair inside = absurd (omega (arith, inside.1))
fair_refusal c next (Change first second) x fair inside = full_or_not c (nat_le most_transitions next) x inside

-- a command leaves the row of a later one that is apart
still_as : (old new : Rows) (c d : Command) → IsOfRound c.op → IsApart c d → IsAsBefore old new (subject_in d)
    → IsAsBefore old (state_after new c) (subject_in d)
still_as old new c d of apart h =
    let other : subject_in c ≢ subject_in d = λ same. apart.subject (sym same) in
    record {
      wanted = λ key. stays-wanted new c of key ∙ h.wanted key;
      ordinary = λ key is. stays-ordinary new c of key (λ same. other (same ∙ sym is)) ∙ h.ordinary key is;
      aside = λ key is. stays-evacuating new c of key (λ same. other (same ∙ sym is)) ∙ h.aside key is;
      suspect = λ key is. stays-suspect new c of key (λ changes. apart.suspect key changes is) ∙ h.suspect key is;
      tasks = λ name is. stays-task new c of name (λ same. other (same ∙ sym is)) ∙ h.tasks name is;
      cells = λ name is. stays-cell new c of name (λ same. other (same ∙ sym is)) ∙ h.cells name is;
      domains = λ name is. stays-domain new c of name (λ same. other (same ∙ sym is)) ∙ h.domains name is;
    }

pub as_itself : (rows : Rows) (s : Subject) → IsAsBefore rows rows s
as_itself rows s = record {
  wanted = λ key. refl;
  ordinary = λ key is. refl;
  aside = λ key is. refl;
  suspect = λ key is.
      refl;
  tasks = λ name is. refl;
  cells = λ name is. refl;
  domains = λ name is. refl;
}

-- commands about unlike rows, each fair while its row is as it was and the same cells are there
pub fair-run : (now : Moment) (old new : Rows) (cs : List Command) → AreApart cs → AreOfRound now cs
    → ((c : Command) → Contains cs c → (rows : Rows) → IsAsBefore old rows (subject_in c) → KeepsThere now old rows
    → IsFair (attempt_of rows c))
    → KeepsThere now old new → ((c : Command) → Contains cs c → IsAsBefore old new (subject_in c))
    → AreRefusedForRoom new cs
fair-run now old new [] apart round' fair there as' x inside = absurd (omega (arith, inside.1))
fair-run now old new (c ∷ cs) apart round' fair there as' x inside =
    ⊎_elim
    (λ here. fair_refusal c new.next (attempt_of new c) x
    (fair c (inside_first c cs) new (as' c (inside_first c cs)) there) here)
    (λ later.
    fair-run now old (state_after new c) cs apart.1
    (record {
      ops = λ d at. round'.ops d (inside_rest d c cs at);
      moments = λ d at.
          round'.moments d (inside_rest d c cs at);
    })
    (λ d at. fair d (inside_rest d c cs at))
    (λ cell epoch. stays-there new now c (round'.ops c (inside_first c cs))
    (round'.moments c (inside_first c cs)) cell epoch ∙ there cell epoch)
    (λ d at. still_as old new c d (round'.ops c (inside_first c cs)) (apart.0 d at) (as' d (inside_rest d c cs at))) x
    later)
    (Contains-append_cases (refusal_by c (verdict_of new c)) (refused_of (state_after new c) cs) x inside)

-- what is asked of a subject at a moment is fair
asked_fair : (rows : Rows) (now : Moment) (c : Command) (o : Option Op) → c.now ≡ now → o ≡ Some c.op
    → FairIf rows now o → IsFair (attempt_of rows c)
asked_fair rows now c o moment is h =
    subst (λ (m : Moment). IsFair (attempt_at (found_by rows c.op) m c.op)) (sym moment) (subst (FairIf rows now) is h)

pub work-refused : (rows : Rows) (now : Moment) → IsValid rows → AreRefusedForRoom rows (work rows now)
work-refused rows now valid =
    fair-run now rows rows (work rows now) (work-apart rows now valid) (work_of_round rows now valid)
    (λ c inside later h there. let p = (work_is_by_subject rows now c valid).0 inside in
    asked_fair later now c (work_on rows now (subject_in c)) p.0 p.1
    (fair-work rows later now valid there (subject_in c) h))
    (λ cell epoch. refl) (λ c inside. as_itself rows (subject_in c))

pub plan-refused : (rows : Rows) (got : List Answer) (now : Moment) → IsValid rows
    → AreRefusedForRoom rows (plan_of_answers rows got now)
plan-refused rows got now valid =
    fair-run now rows rows (plan_of_answers rows got now) (plan-apart rows got now valid)
    (plan_of_round rows got now valid)
    (λ c inside later h there. let p = (plan_is_by_subject rows got now c valid).0 inside in
    asked_fair later now c (plan_on rows got (subject_in c)) p.0 p.1
    (fair-plan rows later now valid got (subject_in c) h))
    (λ cell epoch. refl) (λ c inside. as_itself rows (subject_in c))
