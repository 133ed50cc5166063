-- The actors of a phase, one after another.
use Rattle.std.proofs.Common.{◌≡◌, ◌≢◌, ◌⊎◌, inl, inr, ℕ, suc, ◌+◌, ◌<◌, ◌≤◌, List, [], ◌∷◌, ◌++◌, length, get_or, set, Option, Some, refl, sym, ap, subst, ◌∙◌, arith}
use Rattle.std.specs.List.{slice_get}
use Rattle.std.proofs.lemmas.Bool.{cases_eq, cases_lt}
use Rattle.std.proofs.lemmas.List.{append-nil, length-append, length-set}
use Rattle.std.proofs.lemmas.Option.{slice_get-get_or, slice_get_within}
use Rattle.disk_trait.specs.Past.{Past}
use Rattle.bbs_board.specs.View.{View}
use Rattle.bbs_model.specs.Calls.{by_number}
use Rattle.bbs_model.specs.declared.item.Item.{Item}
use Rattle.crash_backoff.specs.declared.moment.Moment.{Moment}
use Rattle.scenario_lines.specs.declared.answered.Answered.{Answered}
use Rattle.scenario_lines.specs.declared.script.Line.{Line}
use Rattle.phase_actors.specs.Runs.{IsOneActor}
use Rattle.phase_actors.specs.Turns.{actor_standing, CanDo, IsCutShort, Takes, turns_in}
use Rattle.phase_actors.specs.declared.actor_state.ActorState.{ActorState}
use Rattle.phase_actors.proofs.Public.{one_same}
use Rattle.board_port.specs.Went.{seen_of, Went}
use Rattle.phase_runs.specs.Actors.{ActorsCut, AreByFirst, AreSameActors, CanAllDo, FirstRan, PartCut, PartRan}
use Rattle.phase_runs.specs.Boards.{IsCalledByOne}
use Rattle.board_port.proofs.Public.{goes_further, goes_nowhere}
use Rattle.phase_runs.proofs.Parts.{by_both, not_begun, part_cut, part_ran, ran_on, ran_whole}
use Rattle.phase_runs.proofs.Places.{at_last, at_set, before_last, beside_set, one_of}

module _ {D : Type 0} (told : D → Option Past) (now : Moment) (lines : List Line) (olds : List ActorState)
    (v : View D) where
  -- none had a turn
  pub none_ran : FirstRan told now lines 0 olds olds [] v v
  none_ran = record {
    fresh = [];
    goes = goes_nowhere told v;
    count_is = refl;
    ran = λ k a a' answers is is' part. absurd (omega (arith, slice_get_within none k answers part));
    still = λ k a from is. is;
    others = λ by who. refl;
    same = record {
      length_is = refl;
      one = λ k a a' is is'. subst (IsOneActor a) (one_of (slice_get olds k) a a' is is') (one_same a);
    };
  }
    where
      none : List (List Answered)
      none = []

  module _ (count : ℕ) (news : List ActorState) (parts : List (List Answered)) (m w : View D)
      (ran : FirstRan told now lines count olds news parts v m)
      (a a' : ActorState) (within : count < length news) (is : slice_get news count ≡ Some a) (one : IsOneActor a a')
      (name name' : ℕ) (went : Went told (suc count) (suc count) name name' m w) where
    its_first : slice_get olds count ≡ Some a
    its_first = ran.still count a (omega arith) is

    -- nobody else did what it did
    of_others : (by : ℕ) → by ≢ suc count → by_number by went.more ≡ []
    of_others by ne = went.others by ne

    abbrev after : List ActorState
    after = set news count a'

    same_after : AreSameActors olds after
    same_after = record {
      length_is = length-set news count a' ∙ ran.same.length_is;
      one = λ k b b' old new. same_at k b b' old new (cases_eq k count);
    }
      where
        same_at : (k : ℕ) (b b' : ActorState) → slice_get olds k ≡ Some b → slice_get after k ≡ Some b'
            → (k ≡ count) ⊎ (k ≡ count → ⊥) → IsOneActor b b'
        same_at k b b' old new (inl at) =
            subst (λ x. IsOneActor x b') (one_of (slice_get olds count) a b its_first
            (sym (ap (slice_get olds) at) ∙ old))
            (subst (IsOneActor a) (one_of (slice_get after count) a' b' (at_set news count a' within)
            (sym (ap (slice_get after) at) ∙ new)) one)
        same_at k b b' old new (inr ne) = ran.same.one k b b' old (sym (beside_set news count k a' ne) ∙ new)

    others_after : AreByFirst (suc count) (ran.fresh ++ went.more)
    others_after by (inl zero_is) =
        by_both by ran.fresh went.more ∙ ap (λ (xs : List Item). xs ++ by_number by went.more)
        (ran.others by (inl zero_is))
        ∙ of_others by (λ e. absurd (omega (arith, zero_is, e)))
    others_after by (inr behind) =
        by_both by ran.fresh went.more ∙ ap (λ (xs : List Item). xs ++ by_number by went.more)
        (ran.others by (inr (omega (arith, behind))))
        ∙ of_others by (λ e. absurd (omega (arith, behind, e)))

    -- one more had its turn
    pub one_more_ran : (out : List Answered) → Takes (suc count) now (turns_in (suc count) lines)
        (actor_standing a (seen_of (suc count) m) []) (actor_standing a' (seen_of (suc count) w) out)
        → FirstRan told now lines (count + 1) olds after (parts ++ out ∷ []) v w
    one_more_ran out takes = record {
      fresh = ran.fresh ++ went.more;
      goes = goes_further told v m w ran.fresh went.more ran.goes went.goes;
      count_is = length-append parts (out ∷ []) ∙ ap (λ n. n + 1) ran.count_is;
      ran = λ k b b' answers old new part. ran_at k b b' answers old new part (cases_eq k count);
      still = λ k b from new. ran.still k b (omega (arith, from))
          (sym (beside_set news count k a' (λ e. absurd (omega (arith, from, e)))) ∙ new);
      others = λ by who. others_after by (next who);
      same = same_after;
    }
      where
        next : {by : ℕ} → (by ≡ 0) ⊎ (count + 1 < by) → (by ≡ 0) ⊎ (suc count < by)
        next (inl e) = inl e
        next (inr l) = inr (omega (arith, l))

        ran_at : (k : ℕ) (b b' : ActorState) (answers : List Answered) → slice_get olds k ≡ Some b
            → slice_get after k ≡ Some b' → slice_get (parts ++ out ∷ []) k ≡ Some answers
            → (k ≡ count) ⊎ (k ≡ count → ⊥) → PartRan v.base now lines v.log (ran.fresh ++ went.more)
            (suc k) b b' answers
        ran_at k b b' answers old new part (inl at) =
            let b_is : a ≡ b = one_of (slice_get olds count) a b its_first (sym (ap (slice_get olds) at) ∙ old) in
            let b'_is : a' ≡ b' = one_of (slice_get after count) a' b' (at_set news count a' within)
            (sym (ap (slice_get after) at) ∙ new) in
            let out_is : out ≡ answers = at_last parts k out answers (at ∙ sym ran.count_is) part in
            subst (λ n. PartRan v.base now lines v.log (ran.fresh ++ went.more) (suc n) b b' answers) (sym at)
            (subst (λ x. PartRan v.base now lines v.log (ran.fresh ++ went.more) (suc count) x b' answers) b_is
            (subst (λ x. PartRan v.base now lines v.log (ran.fresh ++ went.more) (suc count) a x answers) b'_is
            (subst (λ x. PartRan v.base now lines v.log (ran.fresh ++ went.more) (suc count) a a' x) out_is
            (part_ran told (suc count) name name' v m w ran.fresh ran.goes
            (ran.others (suc count) (inr (omega arith))) went now lines a a' out takes))))
        ran_at k b b' answers old new part (inr ne) =
            let inside : k < length parts = omega (
              arith,
              slice_get_within (parts ++ out ∷ []) k answers part,
              length-append parts (out ∷ []),
              ran.count_is,
              ne,
            ) in
            ran_on v.base v.log ran.fresh went.more (suc k) (of_others (suc k) (λ e. ne (omega (arith, e)))) now lines b
            b' answers
            (ran.ran k b b' answers old (sym (beside_set news count k a' ne) ∙ new)
            (before_last parts k out answers inside part))

    -- one more was cut off, and those behind it have done nothing
    pub one_more_cut : length olds ≡ length news → IsCutShort (suc count) now (turns_in (suc count) lines) a
        (seen_of (suc count) m) a' (seen_of (suc count) w)
        → ActorsCut told now lines olds after v w
    one_more_cut count_is cut = record {
      fresh = ran.fresh ++ went.more;
      goes = goes_further told v m w ran.fresh went.more ran.goes went.goes;
      cut = λ k b b' old new. cut_at k b b' old new (cases_eq k count);
      others = λ by who. others_after by (behind_all who);
      same = same_after;
    }
      where
        behind_all : {by : ℕ} → (by ≡ 0) ⊎ (length olds < by) → (by ≡ 0) ⊎ (suc count < by)
        behind_all (inl e) = inl e
        behind_all (inr l) = inr (omega (arith, l, within, count_is))

        cut_other : (k : ℕ) (b b' : ActorState) → slice_get olds k ≡ Some b → slice_get news k ≡ Some b'
            → (k ≡ count → ⊥) → (k < count) ⊎ (count ≤ k)
            → PartCut v.base now lines v.log (ran.fresh ++ went.more) (suc k) b b'
        cut_other k b b' old new ne (inl before) =
            ran_whole v.base now lines v.log (ran.fresh ++ went.more) (suc k) b b' (part_of k)
            (ran_on v.base v.log ran.fresh went.more (suc k) (of_others (suc k) (λ e. ne (omega (arith, e)))) now lines
            b b' (part_of k)
            (ran.ran k b b' (part_of k) old new (has_part k (omega (arith, before, ran.count_is)))))
          where
            part_of : ℕ → List Answered
            part_of n = get_or parts n []

            has_part : (n : ℕ) → n < length parts → slice_get parts n ≡ Some (part_of n)
            has_part n inside = slice_get-get_or parts n [] inside
        cut_other k b b' old new ne (inr behind) =
            subst (PartCut v.base now lines v.log (ran.fresh ++ went.more) (suc k) b)
            (one_of (slice_get olds k) b b' old (ran.still k b' behind new))
            (not_begun v.base now lines v.log (ran.fresh ++ went.more) (suc k) b
            (by_both (suc k) ran.fresh went.more
            ∙ ap (λ (xs : List Item). xs ++ by_number (suc k) went.more)
            (ran.others (suc k) (inr (omega (arith, behind))))
            ∙ of_others (suc k) (λ e. ne (omega (arith, e)))))

        cut_at : (k : ℕ) (b b' : ActorState) → slice_get olds k ≡ Some b → slice_get after k ≡ Some b'
            → (k ≡ count) ⊎ (k ≡ count → ⊥)
            → PartCut v.base now lines v.log (ran.fresh ++ went.more) (suc k) b b'
        cut_at k b b' old new (inl at) =
            let b_is : a ≡ b = one_of (slice_get olds count) a b its_first (sym (ap (slice_get olds) at) ∙ old) in
            let b'_is : a' ≡ b' = one_of (slice_get after count) a' b' (at_set news count a' within)
            (sym (ap (slice_get after) at) ∙ new) in
            subst (λ n. PartCut v.base now lines v.log (ran.fresh ++ went.more) (suc n) b b') (sym at)
            (subst (λ x. PartCut v.base now lines v.log (ran.fresh ++ went.more) (suc count) x b') b_is
            (subst (λ x. PartCut v.base now lines v.log (ran.fresh ++ went.more) (suc count) a x) b'_is
            (part_cut told (suc count) name name' v m w ran.fresh ran.goes
            (ran.others (suc count) (inr (omega arith))) went now lines a a' cut)))
        cut_at k b b' old new (inr ne) = cut_other k b b' old (sym (beside_set news count k a' ne) ∙ new) ne
            (cases_lt k count)

-- the next actor can do its lines, since it has done nothing yet
pub one_can : (lines : List Line) (olds news : List ActorState) (count : ℕ) (d : ActorState) → CanAllDo lines olds
    → length news ≡ length olds → count < length olds
    → ((k : ℕ) (a : ActorState) → count ≤ k → slice_get news k ≡ Some a → slice_get olds k ≡ Some a)
    → CanDo (count + 1) lines (get_or news count d)
one_can lines olds news count d can same within still =
    subst (λ n. CanDo n lines (get_or news count d)) up
    (can count (get_or news count d) (still count (get_or news count d) (omega arith)
    (slice_get-get_or news count d (omega (arith, same, within)))))
  where
    up : suc count ≡ count + 1
    up = omega arith

module _ {D : Type 0} (told : D → Option Past) (now : Moment) (lines : List Line) (olds : List ActorState) (v : View D)
    (count : ℕ) (news : List ActorState)
    (parts : List (List Answered)) (m w : View D) (ran : FirstRan told now lines count olds news parts v m)
    (d a' : ActorState)
    (same : length news ≡ length olds) (within : count < length olds) (one : IsOneActor (get_or news count d) a')
    (alone : IsCalledByOne told (count + 1) m w) where
  inside : count < length news
  inside = omega (arith, same, within)

  its : slice_get news count ≡ Some (get_or news count d)
  its = slice_get-get_or news count d inside

  down : count + 1 ≡ suc count
  down = omega arith

  went : Went told (suc count) (suc count) alone.name alone.name' m w
  went = subst (λ n. Went told n n alone.name alone.name' m w) down alone.went

  -- its turn, whole
  pub one_ran : (out : List Answered)
      → Takes (count + 1) now (turns_in (count + 1) lines)
      (actor_standing (get_or news count d) (seen_of (count + 1) m) [])
      (actor_standing a' (seen_of (count + 1) w) out)
      → FirstRan told now lines (count + 1) olds (set news count a') (parts ++ out ∷ []) v w
  one_ran out takes =
      one_more_ran told now lines olds v count news parts m w ran
      (get_or news count d) a' inside its one alone.name alone.name' went out
      (subst (λ n. Takes n now (turns_in n lines) (actor_standing (get_or news count d) (seen_of n m) [])
      (actor_standing a' (seen_of n w) out)) down takes)

  -- its turn, cut off
  pub one_cut : IsCutShort (count + 1) now (turns_in (count + 1) lines) (get_or news count d) (seen_of (count + 1) m) a'
      (seen_of (count + 1) w)
      → ActorsCut told now lines olds (set news count a') v w
  one_cut cut =
      one_more_cut told now lines olds v count news parts m w ran
      (get_or news count d) a' inside its one alone.name alone.name' went (sym same)
      (subst (λ n. IsCutShort n now (turns_in n lines) (get_or news count d) (seen_of n m) a' (seen_of n w)) down cut)

  -- its turn was whole, and memory ran out behind it
  pub ran_then_cut : (first out : List Answered) → first ≡ []
      → Takes (count + 1) now (turns_in (count + 1) lines)
      (actor_standing (get_or news count d) (seen_of (count + 1) m) first)
      (actor_standing a' (seen_of (count + 1) w) out)
      → ActorsCut told now lines olds (set news count a') v w
  ran_then_cut first out none takes = one_cut (record {
    done = turns_in (count + 1) lines;
    rest = [];
    split = sym (append-nil (turns_in (count + 1) lines));
    new = takes.new;
    mid = a';
    middle = seen_of (count + 1) w;
    taken = takes.taken;
    cut = (refl, refl);
  })
