-- A call of a pair is its steps, one after another.
use Rattle.std.proofs.Common.{◌≡◌, ◌≤◌, ◌<◌, ◌⊎◌, max, ℕ, ◌+◌, Bool, true, false, not, List, [], ◌∷◌, ◌++◌, length, map, Option, Some, None, Result, Ok, Err, refl, sym, ap, subst, inl, inr, ◌∙◌, append_assoc, arith}
use Rattle.std.proofs.lemmas.List.{append-nil}
use Rattle.byte_ports.specs.Cause.{HasCause}
use Rattle.bbs_board.specs.Calls.{Grows}
use Rattle.bbs_board.specs.View.{View, rows_of}
use Rattle.bbs_model.specs.Calls.{Ends, added, is_done, is_disk_fault}
use Rattle.bbs_model.specs.Step.{verdict_of}
use Rattle.bbs_model.specs.declared.command.Command.{Command}
use Rattle.bbs_model.specs.declared.item.Item.{Item}
use Rattle.bbs_model.specs.declared.item.Item.TheVariants.{Done, Doubt}
use Rattle.bbs_model.specs.declared.reply.CallFault.{CallFault}
use Rattle.bbs_model.specs.declared.reply.Reply.{Reply}
use Rattle.bbs_model.specs.declared.verdict.Verdict.{Verdict}
use Rattle.fenced_board.specs.Fences.{FenceView, after_showing}
use Rattle.standby_board.specs.Calls.{End, Answers, Copies, Follows, HasCauses, IsPairCall, ShowsFence, gained, is_acknowledged, is_primary_fault, is_standby_fault, is_stored}
use Rattle.standby_board.specs.Pairs.{PairView, owed}
use Rattle.standby_board.specs.Steps.{CatchesUp, KeepsAll, TurnsOut, lacked_after, told_by}
use Rattle.standby_board.specs.declared.answers.PairFault.TheVariants as fault
use Rattle.standby_board.specs.declared.answers.PairReply.{PairReply}
use Rattle.standby_board.specs.declared.answers.PairReply.TheVariants as pair
use Rattle.standby_board.proofs.Composing.{answered, same_gain, same_stored, same_primary, same_standby, follows_level, acknowledges, turned_out, fails_again, follows_caught, not_stale}

module _ {D : Type 0} where
  -- nothing was done
  pub grows_nothing : (moment : ℕ) (v w : View D) → w ≡ record v { spare = w.spare } → v.spare ≤ w.spare
      → Grows false [] moment v w
  grows_nothing moment v w same more = record {
    base = ap (λ (b : View D). b.base) same;
    since = ap (λ (b : View D). b.since) same;
    faults = ap (λ (b : View D). b.faults) same;
    log = ap (λ (b : View D). b.log) same ∙ sym (append-nil v.log);
    marks = ap (λ (b : View D). b.marks) same ∙ sym (append-nil v.marks);
    room = omega (arith, more);
    idle = λ none. same;
    calm = λ done. absurd (cc (done));
  }

  -- with more room before
  pub grows_roomier : (done : Bool) (items : List Item) (moment n : ℕ) (v w : View D) → v.spare ≤ n
      → Grows done items moment (record v { spare = n }) w
      → Grows done items moment v w
  grows_roomier done items moment n v w more grows =
      let room = grows.room in
      record {
        base = grows.base;
        since = grows.since;
        faults = grows.faults;
        log = grows.log;
        marks = grows.marks;
        room = omega (arith, room, more);
        idle = grows.idle;
        calm = grows.calm;
      }

module _ {E : Type 0} (moment : E → ℕ) where
  pub copies_nothing : (v w : View E) → w ≡ record v { spare = w.spare } → Copies moment false [] v w
  copies_nothing v w same = record {
    log = ap (λ (b : View E). b.log) same ∙ sym (append-nil v.log);
    idle = λ none. same;
    earlier = [];
    later = [];
    marks = ap (λ (b : View E). b.marks) same ∙ sym (append-nil v.marks) ∙ sym (append-nil (v.marks ++ []));
    acknowledged = λ done. absurd (cc (done));
  }

  pub copies_roomier : (done : Bool) (stored : List Item) (n : ℕ) (v w : View E)
      → Copies moment done stored (record v { spare = n }) w → Copies moment done stored v w
  copies_roomier done stored n v w copies = record {
    log = copies.log;
    idle = copies.idle;
    earlier = copies.earlier;
    later = copies.later;
    marks = copies.marks;
    acknowledged = copies.acknowledged;
  }

-- the marks of a call: those of what was missing, and then those of the command
level_copies : {E : Type 0} (moment fault_count : E → ℕ) (ok : Bool) (end : Result Reply CallFault) (by : ℕ)
    (c : Command) (after : Option (ℕ × Command))
    (v w : View E) → (caught : CatchesUp moment fault_count ok (lacked_after end by c) after v w)
    → Copies moment (is_acknowledged (told_by ok end)) caught.tried v w
level_copies {E = E} moment fault_count ok end by c after v w caught = record {
  log = caught.log;
  idle = λ none. subst (λ (x : View E). x ≡ record v { spare = x.spare }) (sym (caught.idle none)) refl;
  earlier = [];
  later = map (λ item. moment w.disk) caught.tried;
  marks = caught.marks ∙ ap (λ (xs : List ℕ). xs ++ map (λ item. moment w.disk) caught.tried)
      (sym (append-nil v.marks));
  acknowledged = λ done. ap (map (λ item. moment w.disk))
      (acknowledges ok end by c after caught.tried caught.turns done);
}

both_empty : {X : Type 0} (xs ys : List X) → xs ++ ys ≡ [] → (xs ≡ []) × (ys ≡ [])
both_empty [] ys is = (refl, is)
both_empty (x ∷ xs) ys is = absurd (cc (is))

-- what was missing first, and then the command
copies_further : {E : Type 0} (moment fault_count : E → ℕ) (ok done : Bool) (before after : Option (ℕ × Command))
    (stored : List Item) (u v w : View E)
    → (caught : CatchesUp moment fault_count ok before after u v) → Copies moment done stored v w
    → Copies moment done (caught.tried ++ stored) u w
copies_further {E = E} moment fault_count ok done before after stored u v w caught copies =
    let marks : List ℕ = map (λ item. moment v.disk) caught.tried in
    record {
      log = copies.log ∙ ap (λ (xs : List Item). xs ++ stored) caught.log ∙ append_assoc u.log caught.tried stored;
      idle = λ none.
          let each = both_empty caught.tried stored none in
          copies.idle each.1 ∙ ap (λ (x : View E). record x { spare = w.spare }) (caught.idle each.0);
      earlier = marks ++ copies.earlier;
      later = copies.later;
      marks = copies.marks ∙ ap (λ (xs : List ℕ). xs ++ copies.earlier ++ copies.later) caught.marks
          ∙ ap (λ (xs : List ℕ). xs ++ copies.later) (append_assoc u.marks marks copies.earlier);
      acknowledged = copies.acknowledged;
    }

-- a fault of a disk that hadn't failed before
cause_same : (failed : Bool) (before between now : ℕ) → between ≡ before → HasCause failed between now
    → HasCause failed before now
cause_same failed before between now same = subst (λ (n : ℕ). HasCause failed n now) same

pub cause_none : (n : ℕ) → HasCause false n n
cause_none n = record { later = omega arith; stood = λ no. refl; rose = λ yes. absurd (cc (yes)) }

-- nothing was missing
pub caught_none : {E : Type 0} (moment fault_count : E → ℕ) (missing : Option (ℕ × Command)) (v : View E)
    → missing ≡ None
    → CatchesUp moment fault_count true missing missing v v
caught_none moment fault_count missing v none = record {
  tried = [];
  turns = subst (λ (m : Option (ℕ × Command)). TurnsOut true m m []) (sym none) (refl, refl, refl);
  log = sym (append-nil v.log);
  marks = sym (append-nil v.marks);
  idle = λ _. refl;
  cause = cause_none (fault_count v.disk);
}

module _ {D E : Type 0} (moment fault_count : D → ℕ) (moment' fault_count' : E → ℕ) (number by : ℕ) (c : Command) where
  -- a call of the primary where nothing is missing, and of the standby for what it has stored
  module _ (ok : Bool) (end : Result Reply CallFault) (old mid new : PairView D E)
      (missing : mid.missing ≡ lacked_after end by c) (standby : mid.standby ≡ old.standby)
      (caught : CatchesUp moment' fault_count' ok mid.missing new.missing mid.standby new.standby)
      (primary : new.primary ≡ mid.primary)
      (fence : new.fence ≡ mid.fence) where
    caught_here : CatchesUp moment' fault_count' ok (lacked_after end by c) new.missing old.standby new.standby
    caught_here =
        subst (λ (v : View E). CatchesUp moment' fault_count' ok (lacked_after end by c) new.missing v new.standby)
        standby
        (subst (λ (m : Option (ℕ × Command)). CatchesUp moment' fault_count' ok m new.missing mid.standby new.standby)
        missing caught)

    pub called_level : Ends (verdict_of (rows_of old.primary) c) (length old.primary.log) (rows_of old.primary).next end
        → Grows (is_done end) (added end by c) (moment mid.primary.disk) old.primary mid.primary
        → mid.fence.numbers ≡ old.fence.numbers ++ map (λ item. number) (added end by c) → old.missing ≡ None
        → IsPairCall moment moment' number by c old new (told_by ok end)
    called_level ends grows numbers level =
        let gain = same_gain ok end by c in
        record {
          answers = answered ok (verdict_of (rows_of old.primary) c) (length old.primary.log)
              (rows_of old.primary).next end ends;
          primary =
              subst (λ (v : View D). Grows (is_stored (told_by ok end)) (gained (told_by ok end) by c)
              (moment v.disk) old.primary v) (sym primary)
              (subst (λ (xs : List Item). Grows (is_stored (told_by ok end)) xs
              (moment mid.primary.disk) old.primary mid.primary) (sym gain)
              (subst (λ (b : Bool). Grows b (added end by c) (moment mid.primary.disk) old.primary mid.primary)
              (sym (same_stored ok end)) grows));
          numbers = ap (λ (f : FenceView). f.numbers) fence ∙ numbers
              ∙ ap (λ (xs : List Item). old.fence.numbers ++ map (λ item. number) xs) (sym gain);
          stored = caught_here.tried;
          standby = level_copies moment' fault_count' ok end by c new.missing old.standby new.standby caught_here;
          follows = subst (λ (m : Option (ℕ × Command)). Follows (told_by ok end) by c m new.missing caught_here.tried)
              (sym level)
              (follows_level ok end by c new.missing caught_here.tried caught_here.turns);
        }

    pub causes_level : HasCause (is_disk_fault end) (fault_count old.primary.disk) (fault_count mid.primary.disk)
        → HasCauses fault_count fault_count' (told_by ok end) old new
    causes_level cause = record {
      primary =
          subst (λ (v : View D). HasCause (is_primary_fault (told_by ok end)) (fault_count old.primary.disk)
          (fault_count v.disk)) (sym primary)
          (subst (λ (b : Bool). HasCause b (fault_count old.primary.disk) (fault_count mid.primary.disk))
          (sym (same_primary ok end)) cause);
      standby =
          subst (λ (b : Bool). HasCause b (fault_count' old.standby.disk) (fault_count' new.standby.disk))
          (sym (same_standby ok end by c new.missing caught_here.tried caught_here.turns)) caught_here.cause;
    }

  module _ (end : End) (old mid new : PairView D E) where
    -- where there was only more room before
    pub call_roomier : KeepsAll old mid → IsPairCall moment moment' number by c mid new end
        → IsPairCall moment moment' number by c old new end
    call_roomier keeps is =
        let grows : Grows (is_stored end) (gained end by c) (moment new.primary.disk)
        (record old.primary { spare = mid.primary.spare }) new.primary =
        subst (λ (v : View D). Grows (is_stored end) (gained end by c) (moment new.primary.disk) v new.primary)
        keeps.primary is.primary in
        let copies : Copies moment' (is_acknowledged end) is.stored
        (record old.standby { spare = mid.standby.spare }) new.standby =
        subst (λ (v : View E). Copies moment' (is_acknowledged end) is.stored v new.standby) keeps.standby is.standby in
        record {
          answers = subst (λ (v : View D). Answers (verdict_of (rows_of v) c) (length v.log) (rows_of v).next end)
              keeps.primary is.answers;
          primary = grows_roomier (is_stored end) (gained end by c)
              (moment new.primary.disk) mid.primary.spare old.primary new.primary keeps.more_primary grows;
          numbers = is.numbers ∙ ap (λ (f : FenceView). f.numbers ++ map (λ item. number) (gained end by c))
              keeps.fence;
          stored = is.stored;
          standby = copies_roomier moment' (is_acknowledged end) is.stored mid.standby.spare old.standby new.standby
              copies;
          follows = subst (λ (m : Option (ℕ × Command)). Follows end by c m new.missing is.stored) keeps.missing
              is.follows;
        }

    pub causes_roomier : KeepsAll old mid → HasCauses fault_count fault_count' end mid new
        → HasCauses fault_count fault_count' end old new
    causes_roomier keeps is = record {
      primary = subst (λ (v : View D). HasCause (is_primary_fault end) (fault_count v.disk)
          (fault_count new.primary.disk)) keeps.primary is.primary;
      standby = subst (λ (v : View E). HasCause (is_standby_fault end) (fault_count' v.disk)
          (fault_count' new.standby.disk)) keeps.standby is.standby;
    }

    -- where the standby stored what it lacked before
    module _ (caught : CatchesUp moment' fault_count' true old.missing mid.missing old.standby mid.standby)
        (primary : mid.primary ≡ old.primary)
        (fence : mid.fence ≡ old.fence) where
      pub call_caught : IsPairCall moment moment' number by c mid new end
          → IsPairCall moment moment' number by c old new end
      call_caught is =
          let turned = turned_out old.missing mid.missing caught.tried caught.turns in
          record {
            answers = subst (λ (v : View D). Answers (verdict_of (rows_of v) c) (length v.log) (rows_of v).next end)
                primary is.answers;
            primary = subst (λ (v : View D). Grows (is_stored end) (gained end by c)
                (moment new.primary.disk) v new.primary) primary is.primary;
            numbers = is.numbers ∙ ap (λ (f : FenceView). f.numbers ++ map (λ item. number) (gained end by c)) fence;
            stored = caught.tried ++ is.stored;
            standby = copies_further moment' fault_count' true
                (is_acknowledged end) old.missing mid.missing is.stored old.standby mid.standby new.standby caught
                is.standby;
            follows = follows_caught (verdict_of (rows_of mid.primary) c) (length mid.primary.log)
                (rows_of mid.primary).next end by c old.missing mid.missing
                new.missing caught.tried is.stored is.answers turned.0 turned.1 is.follows;
          }

      pub causes_caught : HasCauses fault_count fault_count' end mid new
          → HasCauses fault_count fault_count' end old new
      causes_caught is = record {
        primary = subst (λ (v : View D). HasCause (is_primary_fault end) (fault_count v.disk)
            (fault_count new.primary.disk)) primary is.primary;
        standby = cause_same (is_standby_fault end) (fault_count' old.standby.disk) (fault_count' mid.standby.disk)
            (fault_count' new.standby.disk)
            (caught.cause.stood refl) is.standby;
      }

  module _ (old new : PairView D E) where
    -- there was no memory for it
    pub call_starved : KeepsAll old new → IsPairCall moment moment' number by c old new (Err fault.OutOfMemory)
    call_starved keeps = record {
      answers = inr (inr refl);
      primary = grows_nothing (moment new.primary.disk) old.primary new.primary keeps.primary keeps.more_primary;
      numbers = ap (λ (f : FenceView). f.numbers) keeps.fence ∙ sym (append-nil old.fence.numbers);
      stored = [];
      standby = copies_nothing moment' old.standby new.standby keeps.standby;
      follows = inl (keeps.missing, refl);
    }

    pub causes_starved : KeepsAll old new → HasCauses fault_count fault_count' (Err fault.OutOfMemory) old new
    causes_starved keeps = record {
      primary = subst (λ (v : View D). HasCause false (fault_count old.primary.disk) (fault_count v.disk))
          (sym keeps.primary) (cause_none (fault_count old.primary.disk));
      standby = subst (λ (v : View E). HasCause false (fault_count' old.standby.disk) (fault_count' v.disk))
          (sym keeps.standby)
          (cause_none (fault_count' old.standby.disk));
    }

    -- the standby's disk failed while it stored what it lacked
    module _ (caught : CatchesUp moment' fault_count' false old.missing new.missing old.standby new.standby)
        (primary : new.primary ≡ old.primary) where
      pub call_behind : (place : ℕ) → place ≡ length old.primary.log → new.fence ≡ old.fence
          → IsPairCall moment moment' number by c old new (Err (fault.StandbyDisk place))
      call_behind place at fence = record {
        answers = inr (inl (ap (λ (n : ℕ). Err (fault.StandbyDisk n)) at));
        primary = subst (λ (v : View D). Grows false [] (moment v.disk) old.primary v) (sym primary)
            (grows_nothing (moment old.primary.disk) old.primary old.primary refl (omega arith));
        numbers = ap (λ (f : FenceView). f.numbers) fence ∙ sym (append-nil old.fence.numbers);
        stored = caught.tried;
        standby = record {
          log = caught.log;
          idle = λ none. subst (λ (x : View E). x ≡ record old.standby { spare = x.spare })
              (sym (caught.idle none)) refl;
          earlier = [];
          later = map (λ item. moment' new.standby.disk) caught.tried;
          marks = caught.marks ∙ ap (λ (xs : List ℕ). xs ++ map (λ item. moment' new.standby.disk) caught.tried)
              (sym (append-nil old.standby.marks));
          acknowledged = λ done. absurd (cc (done));
        };
        follows = fails_again old.missing new.missing caught.tried caught.turns;
      }

      pub causes_behind : (place : ℕ) → HasCauses fault_count fault_count' (Err (fault.StandbyDisk place)) old new
      causes_behind place = record {
        primary = subst (λ (v : View D). HasCause false (fault_count old.primary.disk) (fault_count v.disk))
            (sym primary) (cause_none (fault_count old.primary.disk));
        standby = caught.cause;
      }

-- a number was shown first
module _ {D E : Type 0} (old mid : PairView D E) (number : ℕ)
    (shown : mid ≡ record old { fence = after_showing number old.fence }) where
  pub same_stale : number < old.fence.greatest → mid ≡ old
  same_stale lower =
      let top : max old.fence.greatest number ≡ old.fence.greatest = omega (arith, lower) in
      shown ∙ ap (λ (n : ℕ). record old { fence = record old.fence { greatest = n } }) top

  pub shows_stale : number < old.fence.greatest → (end : End) → end ≡ Ok (pair.StaleFence mid.fence.greatest)
      → ShowsFence number end old.fence.greatest mid.fence.greatest
  shows_stale lower end is =
      let same : mid.fence.greatest ≡ old.fence.greatest =
      ap (λ (v : PairView D E). v.fence.greatest) (same_stale lower) in
      record {
        greatest = ap (λ (v : PairView D E). v.fence.greatest) shown;
        stale = (λ no. lower, λ no. is ∙ ap (λ (n : ℕ). Ok (pair.StaleFence n)) same);
      }

  module _ (taken : old.fence.greatest ≤ number) (new : PairView D E) (end : End) (moment fault_count : D → ℕ)
      (moment' fault_count' : E → ℕ) (by : ℕ) (c : Command) where
    top_is : mid.fence.greatest ≡ number
    top_is =
        let top : max old.fence.greatest number ≡ number = omega (arith, taken) in
        ap (λ (v : PairView D E). v.fence.greatest) shown ∙ top

    pub shows_taken : IsPairCall moment moment' mid.fence.greatest by c mid new end
        → new.fence.greatest ≡ mid.fence.greatest
        → ShowsFence number end old.fence.greatest new.fence.greatest
    shows_taken is same = record {
      greatest = same ∙ ap (λ (v : PairView D E). v.fence.greatest) shown;
      stale = (
        λ stale. absurd (not_stale (verdict_of (rows_of mid.primary) c) (length mid.primary.log)
            (rows_of mid.primary).next old.fence.greatest
            (subst (λ (e : End). Answers (verdict_of (rows_of mid.primary) c) (length mid.primary.log)
            (rows_of mid.primary).next e) stale is.answers)),
        λ lower. absurd (omega (arith, lower, taken)),
      );
    }

    pub call_shown : IsPairCall moment moment' mid.fence.greatest by c mid new end
        → IsPairCall moment moment' number by c old new end
    call_shown is =
        let numbered : IsPairCall moment moment' number by c mid new end =
        subst (λ (n : ℕ). IsPairCall moment moment' n by c mid new end) top_is is in
        let there : IsPairCall moment moment' number by c (record old { fence = after_showing number old.fence }) new
        end =
        subst (λ (v : PairView D E). IsPairCall moment moment' number by c v new end) shown numbered in
        record {
          answers = there.answers;
          primary = there.primary;
          numbers = there.numbers;
          stored = there.stored;
          standby = there.standby;
          follows = there.follows;
        }

    pub causes_shown : HasCauses fault_count fault_count' end mid new → HasCauses fault_count fault_count' end old new
    causes_shown is =
        let there : HasCauses fault_count fault_count' end (record old { fence = after_showing number old.fence }) new =
        subst (λ (v : PairView D E). HasCauses fault_count fault_count' end v new) shown is in
        record { primary = there.primary; standby = there.standby }

-- no disk was called
pub causes_idle : {D E : Type 0} (fault_count : D → ℕ) (fault_count' : E → ℕ) (greatest : ℕ) (v w : PairView D E)
    → w ≡ v
    → HasCauses fault_count fault_count' (Ok (pair.StaleFence greatest)) v w
causes_idle {D = D} {E = E} fault_count fault_count' greatest v w same = record {
  primary = subst (λ (x : PairView D E). HasCause false (fault_count v.primary.disk) (fault_count x.primary.disk))
      (sym same) (cause_none (fault_count v.primary.disk));
  standby = subst (λ (x : PairView D E). HasCause false (fault_count' v.standby.disk) (fault_count' x.standby.disk))
      (sym same) (cause_none (fault_count' v.standby.disk));
}
