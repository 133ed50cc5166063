-- What a legal command comes to can be done.
use Rattle.std.proofs.Common.{◌≡◌, ◌≤◌, refl, sym, ap, subst, ◌∙◌, arith}
use Rattle.bbs_model.specs.Found.{found_by}
use Rattle.bbs_model.specs.Limits.{most_wanted}
use Rattle.bbs_model.specs.Step.{attempt_at, attempt_of, judged, IsLegal, changed_by, edited}
use Rattle.bbs_model.specs.Tables.{wanted}
use Rattle.bbs_model.specs.Valid.{IsValid}
use Rattle.bbs_model.specs.declared.attempt.Attempt.{Attempt}
use Rattle.bbs_model.specs.declared.attempt.Attempt.TheVariants.{Refuse, Keep, Change}
use Rattle.bbs_model.specs.declared.command.Command.{Command}
use Rattle.bbs_model.specs.declared.found.Found.{Found}
use Rattle.bbs_model.specs.declared.rows.Rows.{Rows}
use Rattle.bbs_model.specs.declared.verdict.Verdict.TheVariants.{Ok}
use Rattle.bbs_laws.proofs.Public.{IsValid-rows_after, wanted-first}
use Rattle.bbs_transitions.specs.Stepped.{IsDoable}

module _ (rows : Rows) (c : Command) (valid : IsValid rows) (legal : IsLegal rows c) where
  by_attempt : (a : Attempt) → attempt_of rows c ≡ a → judged rows.next a ≡ Ok → IsDoable rows a
  by_attempt (Refuse why) is ok = cc
  by_attempt Keep is ok = cc
  by_attempt (Change first second) is ok =
      let most : wanted (edited rows first) ≤ most_wanted = wanted-first rows c valid legal first second is in
      record {
        fits = omega (arith, most);
        valid = subst (λ (a : Attempt). IsValid (changed_by rows a)) is (IsValid-rows_after rows c valid legal);
      }

  pub doable : (a : Attempt) → a ≡ attempt_of rows c → IsDoable rows a
  doable a is = by_attempt a (sym is) (ap (judged rows.next) is ∙ legal)

-- what was looked up, and what that comes to
module _ (rows : Rows) (c : Command) (found : Found) (a : Attempt) (found_is : found ≡ found_by rows c.op)
    (a_is : a ≡ attempt_at found c.now c.op) where
  pub attempt_is : a ≡ attempt_of rows c
  attempt_is = a_is ∙ ap (λ (f : Found). attempt_at f c.now c.op) found_is

  pub legal_by : Ok ≡ judged found.next a → IsLegal rows c
  legal_by ok =
      ap (judged rows.next) (sym attempt_is) ∙ ap (λ n. judged n a) (sym (ap (λ (f : Found). f.next) found_is)) ∙ sym ok

  pub doable_by : IsValid rows → IsLegal rows c → IsDoable rows a
  doable_by valid legal = doable rows c valid legal a attempt_is

  -- and then the rows are those of a board
  pub valid_by : (new : Rows) → IsValid rows → IsLegal rows c → new ≡ changed_by rows a → IsValid new
  valid_by new valid legal is =
      subst IsValid (sym (is ∙ ap (changed_by rows) attempt_is)) (IsValid-rows_after rows c valid legal)
