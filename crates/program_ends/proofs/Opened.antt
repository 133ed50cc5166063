-- What a load comes to, in the words of the opening.
use Rattle.std.proofs.Common.{◌≡◌, ◌∙◌, Bool, true, false, Option, Some, None, List, ℕ, refl, sym, subst, inl, inr, arith}
use Rattle.byte_ports.specs.Cause.{HasCause}
use Rattle.disk_trait.specs.Past.{Past, Image}
use Rattle.disk_trait.specs.Shows.{Shows, KeepsContent, Secures}
use Rattle.disk_trait.specs.Steps.{Goes}
use Rattle.disk_trait.specs.Held.{Leaves}
use Rattle.disk_trait.proofs.Public.{extends_same, goes_same, goes_weaker}
use Rattle.bbs_journal.specs.LoadFaults.{is_load_disk_fault}
use Rattle.bbs_journal.specs.declared.load_fault.LoadFault.{LoadFault}
use Rattle.bbs_journal.specs.declared.load_fault.LoadFault.TheVariants as fault
use Rattle.program_ends.specs.Ending.{EndsAs, line_of}
use Rattle.program_ends.specs.Opening.{EndsClosed, EndsEarly, EndsRefused, OpensWhat, ending_for}
use Rattle.program_ends.specs.Ports.{Ports, IsTold, Prints, PrintsTo}
use Rattle.program_ends.specs.declared.ending.Ending.{Ending}
use Rattle.program_ends.specs.declared.ending.Ending.TheVariants as ending

-- where no content has changed, a disk that tells its past at the end shows what it showed
shown_on : (told told' : Option Past) (image : Image) → Goes told told' KeepsContent → IsTold told' → Shows told image
    → Shows told' image
shown_on None told' image keeps is shows = absurd shows
shown_on (Some p) None image keeps is shows = absurd is
shown_on (Some p) (Some q) image keeps is shows = λ area. keeps.same area ∙ shows area

pub secured_shows : (told told' : Option Past) (image : Image) → Goes told told' Secures → Shows told image
    → IsTold told' → Shows told' image
secured_shows told told' image secures shows is =
    shown_on told told' image (goes_weaker told told' Secures KeepsContent (λ p q i j s. s.keeps) secures) is shows

module _ (Explains : LoadFault → Image → Type 0) (v w : Ports) (rests : Goes v.told w.told KeepsContent)
    (whole : Bool) where
  early : (failed : Bool) (how : Ending) → Prints whole (line_of how) v w → HasCause failed v.disk_faults w.disk_faults
      → EndsEarly failed how v w
  early failed how prints cause = record { rests = rests; cause = cause; whole = whole; prints = prints }

  refuses : (why : LoadFault) (how : Ending) → Prints whole (line_of how) v w
      → HasCause false v.disk_faults w.disk_faults
      → ((image : Image) → Shows w.told image → Explains why image) → EndsRefused (Explains why) how v w
  refuses why how prints cause refused = record {
    early = early false how prints cause;
    refused = λ image shows is. refused image (shown_on v.told w.told image rests is shows);
  }

  abbrev pub Ends : Ending → Type 0
  Ends how = EndsClosed Explains how v w

  as_prints : (how other : Ending) → how ≡ other → Prints whole (line_of how) v w → Prints whole (line_of other) v w
  as_prints how other is prints = subst (λ (x : Ending). Prints whole (line_of x) v w) is prints

  pub unopened : (why : LoadFault) (how : Ending) → EndsAs (ending_for why) how → Prints whole (line_of how) v w
      → HasCause (is_load_disk_fault why) v.disk_faults w.disk_faults
      → ((image : Image) → Shows w.told image → Explains why image) → EndsClosed Explains how v w
  unopened fault.Disk how is prints cause refused = subst Ends (sym is)
      (early true ending.Unopened (as_prints how ending.Unopened is prints) cause)
  unopened (fault.NotABoard area) how is prints cause refused =
      subst Ends (sym is) (refuses (fault.NotABoard area) (ending.NotABoard area)
      (as_prints how (ending.NotABoard area) is prints) cause refused)
  unopened (fault.Damaged area at) how (inl is) prints cause refused =
      subst Ends (sym is) (refuses (fault.Damaged area at) (ending.Damaged area at)
      (as_prints how (ending.Damaged area at) is prints) cause refused)
  unopened (fault.Damaged area at) how (inr is) prints cause refused =
      subst Ends (sym is) (early false ending.OutOfMemory (as_prints how ending.OutOfMemory is prints) cause)
  unopened fault.OutOfMemory how is prints cause refused =
      subst Ends (sym is) (early false ending.OutOfMemory (as_prints how ending.OutOfMemory is prints) cause)

-- what a load comes to, whose disk it gives back or hands on: this was loaded, which is so
pub opened : (IsSo : Image → Type 0) (v w : Ports) → ((image : Image) → Shows w.told image → IsSo image)
    → ((q : Past) → w.told ≡ Some q → q.clock ≡ w.clock)
    → Goes v.told w.told Secures → (w.held ≡ v.held) × (w.write_faults ≡ v.write_faults) → w.disk_faults ≡ v.disk_faults
    → OpensWhat IsSo v w
opened IsSo v w found timed secures same stood = record {
  found = found;
  still = λ image shows is. secured_shows v.told w.told image secures shows is;
  timed = timed;
  secures = secures;
  same_sink = same;
  no_fault = stood;
}

pub keeps_same : (p : Past) → KeepsContent p p
keeps_same p = record {
  extends = extends_same p;
  same = λ area. refl;
  leaves = λ m from to area left leaves.
      let e : m ≡ p.clock = omega (arith, from, to) in subst (λ (k : ℕ). Leaves (p.held k area) left) e leaves;
}

-- a disk that wasn't looked at gives what it gave
pub rests_unseen : (v w : Ports) → w.told ≡ v.told → w.disk_faults ≡ v.disk_faults → (whole : Bool) (how : Ending)
    → Prints whole (line_of how) v w → EndsEarly false how v w
rests_unseen v w same stands whole how prints = record {
  rests = subst (λ (t : Option Past). Goes v.told t KeepsContent) (sym same)
      (goes_same v.told KeepsContent (λ p is. keeps_same p));
  cause = subst (λ (n : ℕ). HasCause false v.disk_faults n) (sym stands)
      (record { later = omega arith; stood = λ none. refl; rose = λ never. absurd (cc (never)) });
  whole = whole;
  prints = prints;
}
