-- What claims are about: some of the jobs of the cells, in order; and that reps have the epochs of their answers.
use Rattle.std.proofs.Common.{◌≡◌, ℕ, List, [], ◌∷◌, ◌++◌, map, filter_map, Option, Some, None, refl, sym, ap, subst, ◌∙◌, inl, inr}
use Rattle.std.specs.List.{Contains, flat_map}
use Rattle.std.proofs.lemmas.List.{map-append}
use Rattle.auctioneer.specs.declared.placement.Placement.{Placement}
use Rattle.cell_records.specs.declared.answer.Answer.{Answer}
use Rattle.cell_records.specs.declared.job.Job.{Job}
use Rattle.cell_rep.specs.Acts.{claim_op}
use Rattle.cell_rep.specs.Reps.{answer_of, answer_in}
use Rattle.cell_rep.specs.declared.joined.Joined.{Joined}
use Rattle.cell_rep.specs.declared.rep.CellRep.{CellRep}
use Rattle.crash_backoff.specs.declared.moment.Moment.{Moment}
use Rattle.bbs_model.specs.declared.command.Command.{Command}
use Rattle.bbs_model.specs.declared.rows.Rows.{Rows}
use Rattle.convergence.specs.Subjects.{Subject, subject_in}
use Rattle.converge_laws.proofs.Public.{inside_first, inside_rest, claim-about}
use Rattle.converge_round.specs.Askings.{StandApart}
use Rattle.converge_round.specs.Each.{Each}
use Rattle.converge_round.specs.Places.{jobs_on}
use Rattle.converge_round.specs.Reps.{names_of}
use Rattle.converge_round.specs.Stops.{Stopped, StopsOne}
use Rattle.diego_names.specs.declared.instance.Instance.{Instance}
use Rattle.round_theorem.specs.Alone.{AreClaimsOn, AreClaims}
use Rattle.round_theorem.proofs.Answered.{answers_differ}
use Rattle.round_theorem.proofs.Causes.{names_after}
use Rattle.round_theorem.proofs.ClaimLists.{claims_itself}
use Rattle.round_theorem.proofs.ClaimsMade.{about_job}
use Rattle.round_theorem.proofs.Lists.{kept_inside}
use Rattle.round_theorem.proofs.Parts.{IsPartOf, part_append}
use Rattle.round_theorem.proofs.ServesHad.{IsReady}
use Rattle.round_theorem.proofs.StartTraces.{HasEpoch}

claims_on_part : (now : Moment) (cell : List ℕ) (jobs : List Job) (n : ℕ) (cs : List Command)
    → AreClaimsOn now cell jobs n cs → IsPartOf (map subject_in cs) (map about_job jobs)
claims_on_part now cell [] n cs h = ap (map subject_in) h.1
claims_on_part now cell (job ∷ jobs) n cs (inl h) = inl (claims_on_part now cell jobs h.0 cs h.2)
claims_on_part now cell (job ∷ jobs) n cs (inr h) =
    let about : subject_in h.0 ≡ about_job job = ap subject_in h.3.1 ∙ claim-about job.job h.3.0 cell
    (claim_op cell job.job h.3.0) (claims_itself job.job h.3.0 cell) in
    inr (
      map subject_in h.1,
      ap (map subject_in) h.2 ∙ ap (λ (s : Subject). s ∷ map subject_in h.1) about,
      claims_on_part now cell jobs n h.1 h.4,
    )

pub claims-part : (now : Moment) (rows : Rows) (list : List Placement) (xs : List Answer) (n : ℕ) (cs : List Command)
    → AreClaims now rows list xs n cs
    → IsPartOf (map subject_in cs) (flat_map (λ (x : Answer). map about_job (jobs_on rows list x.cell)) xs)
claims-part now rows list [] n cs h = ap (map subject_in) h.1
claims-part now rows list (x ∷ xs) n cs h =
    subst (λ ss. IsPartOf ss (map about_job (jobs_on rows list x.cell)
    ++ flat_map (λ (y : Answer). map about_job (jobs_on rows list y.cell)) xs))
    (sym (ap (map subject_in) h.5 ∙ map-append subject_in h.2 h.3))
    (part_append (map subject_in h.2) (map about_job (jobs_on rows list x.cell)) (map subject_in h.3)
    (flat_map (λ (y : Answer). map about_job (jobs_on rows list y.cell)) xs)
    (claims_on_part now x.cell (jobs_on rows list x.cell) h.0 h.2 h.6) (claims-part now rows list xs h.1 h.3 h.7))

all_ready : (y : Answer) (rs : List CellRep) → ((r : CellRep) → Contains rs r → r.cell ≡ y.cell
    → HasEpoch y.epoch r.joined) → IsReady y rs
all_ready y [] h = tt
all_ready y (r ∷ rs) h = (h r (inside_first r rs), all_ready y rs (λ q inside. h q (inside_rest q r rs inside)))

ready_by : (reps : List CellRep) (y : Answer) (r : CellRep) (o : Option Joined) → r.joined ≡ o
    → StandApart (names_of reps) → Contains (filter_map answer_of reps) y → Contains reps r → r.cell ≡ y.cell
    → HasEpoch y.epoch o
ready_by reps y r None is apart in_y in_r same = tt
ready_by reps y r (Some j) is apart in_y in_r same =
    let answers : answer_of r ≡ Some (answer_in r.cell j) =
    ap (λ (o : Option Joined). answer_of (record r { joined = o })) is in
    let one : answer_in r.cell j ≡ y = answers_differ reps apart (answer_in r.cell j) y
    (kept_inside answer_of reps r (answer_in r.cell j) in_r answers) in_y same in
    ap (λ (a : Answer). a.epoch) one

-- the reps of an answer's cell have its epoch
pub is-ready : (reps : List CellRep) (y : Answer) → StandApart (names_of reps) → Contains (filter_map answer_of reps) y
    → IsReady y reps
is-ready reps y apart in_y = all_ready y reps (λ r in_r same. ready_by reps y r r.joined refl apart in_y in_r same)

-- stops leave the names
pub names-stopped : (strays : List (List ℕ × Instance)) (s t : Stopped) → Each StopsOne strays s t
    → names_of t.course.reps ≡ names_of s.course.reps
names-stopped [] s t f = ap (λ (x : Stopped). names_of x.course.reps) f
names-stopped (a ∷ strays) s t f = names-stopped strays f.0 t f.2 ∙ names_after f.1.stops.reached f.1.done a
    s.course.reps f.0.course.reps f.1.stops.stops
