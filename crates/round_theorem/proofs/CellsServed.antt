-- The starts on all cells, where none counts a loss or a refusal.
use Rattle.std.proofs.Common.{◌≡◌, ℕ, List, [], ◌∷◌, ◌++◌, map, filter_map, Some, refl, sym, ap, subst, ◌∙◌, arith, ⊎_elim}
use Rattle.std.specs.List.{Contains, flat_map}
use Rattle.std.specs.Option.{option_map}
use Rattle.std.proofs.lemmas.List.{map-append}
use Rattle.std.proofs.lemmas.List.Elements.{Contains-append_cases}
use Rattle.cell_records.specs.declared.answer.Answer.{Answer}
use Rattle.cell_rep.specs.Reps.{answer_of, answer_in}
use Rattle.cell_rep.specs.declared.rep.CellRep.{CellRep}
use Rattle.crash_backoff.specs.declared.moment.Moment.{Moment}
use Rattle.bbs_model.specs.declared.command.Command.{Command}
use Rattle.convergence.specs.Subjects.{Subject, subject_in}
use Rattle.converge_laws.specs.Stages.{IsWith, AreWith}
use Rattle.converge_laws.proofs.Public.{inside_first, inside_rest, zip_back}
use Rattle.converge_round.specs.Askings.{StandApart}
use Rattle.converge_round.specs.Callings.{IsNoted}
use Rattle.converge_round.specs.Each.{Each}
use Rattle.converge_round.specs.Phases.{Course, ClaimsAt, ServesOne}
use Rattle.converge_round.specs.Places.{jobs_on}
use Rattle.converge_round.specs.Reps.{names_of}
use Rattle.converge_round.specs.Starts.{claiming}
use Rattle.converge_round.specs.declared.placing.Places.{Places}
use Rattle.round_theorem.proofs.Answered.{answer_cell}
use Rattle.round_theorem.proofs.ClaimLists.{IsClaimAt, with_none, with_then, with_other}
use Rattle.round_theorem.proofs.Lists.{kept_inside, zip_then, zip_same, zip_set}
use Rattle.round_theorem.proofs.RepSets.{names_set, others_named}
use Rattle.round_theorem.proofs.Losses.{lost-serves}
use Rattle.round_theorem.proofs.Starts.{in_course, tallied-serves}
use Rattle.round_theorem.proofs.ClaimsMade.{about_job, AreClaimsMade, made-claims}

pub each_append : {X S : Type 0} (Step : X → S → S → Type 0) (xs ys : List X) (s m t : S) → Each Step xs s m
    → Each Step ys m t → Each Step (xs ++ ys) s t
each_append Step [] ys s m t f g = subst (λ x. Each Step ys x t) f g
each_append Step (x ∷ xs) ys s m t f g = (f.0, f.1, each_append Step xs ys f.0 m t f.2 g)

-- what the commands for the jobs of a cell are about
abbrev pub about_cell : Places → Answer → List Subject
about_cell p x = map about_job (jobs_on p.rows p.placements x.cell)

-- the claim is of a container of a cell that answers, and of one of those that are served
pub record IsClaimOfCell (now : Moment) (answers xs : List Answer) (c : Command) : Type 0 where
  pub answer : Answer
  pub inside : Contains answers answer
  pub served : Answer
  pub among : Contains xs served
  pub cells : answer.cell ≡ served.cell
  pub claims : IsClaimAt now answer.cell answer.epoch c

-- the claims of all jobs, and what they add to the cells
pub record AreServed (by : ℕ) (now : Moment) (p : Places) (xs : List Answer) (s s' : Course) : Type 0 where
  pub claims : List Command
  pub notes : Each (IsNoted by) claims (in_course s) (in_course s')
  pub subjects : map subject_in claims ≡ flat_map (about_cell p) xs
  pub named : (c : Command) → Contains claims c → IsClaimOfCell now (filter_map answer_of s.reps) xs c
  pub names : names_of s'.reps ≡ names_of s.reps
  pub adds : AreWith claims (filter_map answer_of s.reps) (filter_map answer_of s'.reps)

none_served : (by : ℕ) (now : Moment) (p : Places) (s : Course) → AreServed by now p [] s s
none_served by now p s = record {
  claims = [];
  notes = refl;
  subjects = refl;
  named = λ c inside. absurd (omega (arith, inside.1));
  names = refl;
  adds = zip_same (IsWith []) with_none (filter_map answer_of s.reps);
}

module _ (by : ℕ) (now : Moment) (p : Places) (x : Answer) (xs : List Answer) (s m s' : Course)
    (apart : StandApart (names_of s.reps))
    (h : ClaimsAt by now x.cell (jobs_on p.rows p.placements x.cell) s m) (whole : m.tally.lost ≡ 0)
    (taken : m.tally.refused ≡ []) where
  abbrev made : AreClaimsMade by now (jobs_on p.rows p.placements x.cell) (claiming h.rep s.view s.wire)
      (claiming h.after m.view m.wire) s.tally m.tally
  made = made-claims by now (jobs_on p.rows p.placements x.cell) (claiming h.rep s.view s.wire)
      (claiming h.after m.view m.wire) h.ends s.tally m.tally h.claims h.fine h.counts whole taken

  names_one : names_of m.reps ≡ names_of s.reps
  names_one = ap names_of h.reps_are ∙ names_set s.reps h.place h.rep h.after h.stands.within h.stands.is made.cell

  adds_one : AreWith made.claims (filter_map answer_of s.reps) (filter_map answer_of m.reps)
  adds_one = subst (λ (rs : List CellRep). AreWith made.claims (filter_map answer_of s.reps) (filter_map answer_of rs))
      (sym h.reps_are)
      (zip_set (IsWith made.claims) answer_of s.reps h.place h.rep h.after h.stands.within h.stands.is made.adds
      (λ k q lt at ne y answers. with_other made.claims now x.cell y
      (λ c inside. let n = made.named c inside in (
        n.0.store.epoch,
        subst (λ (cell : List ℕ). IsClaimAt now cell n.0.store.epoch c) h.stands.cell_is n.2,
      ))
      (λ same. others_named s.reps x.cell h.place h.rep apart h.stands k q lt at ne
      (sym (answer_cell q y answers) ∙ same))))

  named_one : (c : Command) → Contains made.claims c → IsClaimOfCell now (filter_map answer_of s.reps) (x ∷ xs) c
  named_one c inside =
      let n = made.named c inside in
      let answers : answer_of h.rep ≡ Some (answer_in h.rep.cell n.0) = ap (option_map (answer_in h.rep.cell)) n.1 in
      record {
        answer = answer_in h.rep.cell n.0;
        inside = kept_inside answer_of s.reps h.rep (answer_in h.rep.cell n.0)
            (h.place, h.stands.within, sym h.stands.is) answers;
        served = x;
        among = inside_first x xs;
        cells = h.stands.cell_is;
        claims = n.2;
      }

  -- and then the other cells
  served_more : AreServed by now p xs m s' → AreServed by now p (x ∷ xs) s s'
  served_more g = record {
    claims = made.claims ++ g.claims;
    notes = each_append (IsNoted by) made.claims g.claims (in_course s) (in_course m) (in_course s') made.notes g.notes;
    subjects = map-append subject_in made.claims g.claims ∙ ap (λ ys. ys ++ map subject_in g.claims) made.subjects ∙ ap
        (λ ys. about_cell p x ++ ys) g.subjects;
    named = λ c inside. ⊎_elim (named_one c)
        (λ (later : Contains g.claims c).
        let n = g.named c later in
        let old = zip_back (IsWith made.claims) (filter_map answer_of s.reps)
        (filter_map answer_of m.reps) n.answer adds_one n.inside in
        record {
          answer = old.0;
          inside = old.1;
          served = n.served;
          among = inside_rest n.served x xs n.among;
          cells = sym old.2.same.cell ∙ n.cells;
          claims = subst (λ (q : List ℕ × ℕ). IsClaimAt now q.0 q.1 c)
              (λ i. (old.2.same.cell i, old.2.same.epoch i)) n.claims;
        })
        (Contains-append_cases made.claims g.claims c inside);
    names = g.names ∙ names_one;
    adds = zip_then (IsWith made.claims) (IsWith g.claims) (IsWith (made.claims ++ g.claims))
        (with_then made.claims g.claims)
        (filter_map answer_of s.reps) (filter_map answer_of m.reps) (filter_map answer_of s'.reps) adds_one g.adds;
  }

pub cells-served : (by : ℕ) (now : Moment) (p : Places) (xs : List Answer) (s s' : Course)
    → StandApart (names_of s.reps) → ((x : Answer) → Contains xs x → Contains (names_of s.reps) x.cell)
    → s'.tally.lost ≡ 0 → s'.tally.refused ≡ [] → Each (ServesOne by now p) xs s s' → AreServed by now p xs s s'
cells-served by now p [] s s' apart have whole taken f =
    subst (AreServed by now p [] s) (sym f) (none_served by now p s)
cells-served by now p (x ∷ xs) s s' apart have whole taken f =
    let whole-m = lost-serves by now p xs f.0 s' f.2 whole in
    let taken-m = (tallied-serves by now p xs f.0 s' f.2).refused taken in
    ⊎_elim
    (λ (h : ClaimsAt by now x.cell (jobs_on p.rows p.placements x.cell) s f.0).
    let names = names_one by now p x xs s f.0 s' apart h whole-m taken-m in
    served_more by now p x xs s f.0 s' apart h whole-m taken-m
    (cells-served by now p xs f.0 s' (subst StandApart (sym names) apart)
    (λ y inside. subst (λ ns. Contains ns y.cell) (sym names) (have y (inside_rest y x xs inside))) whole taken
    f.2))
    (λ none. absurd (none.0 (have x (inside_first x xs))))
    f.1
