-- What the opening of a pair comes to, by what the loads and the start came to.
use Rattle.std.proofs.Common.{◌≡◌, ◌∙◌, inl, inr, ℕ, List, [], Option, Some, None, refl, sym, ap, subst}
use Rattle.byte_ports.specs.Cause.{HasCause}
use Rattle.disk_trait.specs.Past.{Past, Image}
use Rattle.disk_trait.specs.Shows.{KeepsContent, Secures, Shows}
use Rattle.disk_trait.specs.Steps.{Goes}
use Rattle.disk_trait.proofs.Public.{goes_same, goes_weaker}
use Rattle.bbs_board.specs.Opening.{IsBoard, Refuses}
use Rattle.bbs_board.specs.View.{IsLoadedFrom, View, rows_of}
use Rattle.bbs_journal.specs.LoadFaults.{is_load_disk_fault}
use Rattle.bbs_journal.specs.declared.load_fault.LoadFault.{LoadFault}
use Rattle.bbs_journal.specs.declared.load_fault.LoadFault.TheVariants as load
use Rattle.bbs_model.specs.Replay.{replay_log}
use Rattle.bbs_model.specs.declared.rows.Rows.{Rows}
use Rattle.program_ends.specs.Opening.{EndsUnopened}
use Rattle.program_ends.specs.Ports.{IsTold, Ports, PrintsTo}
use Rattle.program_ends.specs.declared.ending.Ending.{Ending}
use Rattle.program_ends.specs.declared.ending.Ending.TheVariants as ending
use Rattle.program_ends.proofs.Public.{keeps_same, opened}
use Rattle.standby_board.specs.Ends.{TellsApart}
use Rattle.standby_board.specs.declared.answers.StartRefusal.{StartRefusal}
use Rattle.standby_board.specs.declared.answers.StartRefusal.TheVariants as refusal
use Rattle.pair_top.specs.Endings.{EndsAs, line_of, standby_ending, start_ending}
use Rattle.pair_top.specs.Opening.{HasStartCause}
use Rattle.pair_top.specs.Top.{EndsUnpaired, EndsWithoutStandby, HasStandbyCause, OpensPrimary, OpensStandby, PairPorts, PrimaryRests, PrintsLine, RefusesStandby, StandbyRests, ports_at, primary_ports, standby_ports}
use Rattle.pair_top.specs.declared.ending.PairEnding.{PairEnding}
use Rattle.pair_top.specs.declared.ending.PairEnding.TheVariants.{Run, NoStandby, DamagedStandby, Unequal}

-- where no content has changed, a disk that tells its past at the end shows what it showed
shown_on : (told told' : Option Past) (image : Image) → Goes told told' KeepsContent → IsTold told' → Shows told image
    → Shows told' image
shown_on None told' image keeps is shows = absurd shows
shown_on (Some p) None image keeps is shows = absurd is
shown_on (Some p) (Some q) image keeps is shows = λ area. keeps.same area ∙ shows area

-- a disk that was loaded from keeps its content
pub secured : (told told' : Option Past) → Goes told told' Secures → Goes told told' KeepsContent
secured told told' goes = goes_weaker told told' Secures KeepsContent (λ p q i j s. s.keeps) goes

-- and so does one that wasn't looked at
pub rested : (told : Option Past) → Goes told told KeepsContent
rested told = goes_same told KeepsContent (λ p is. keeps_same p)

-- and one that is no board
pub unopened_keeps : (how : Ending) (v w : Ports) → EndsUnopened how v w → Goes v.told w.told KeepsContent
unopened_keeps ending.Unopened v w ends = ends.rests
unopened_keeps (ending.NotABoard area) v w ends = ends.early.rests
unopened_keeps (ending.Damaged area at) v w ends = ends.early.rests
unopened_keeps ending.OutOfMemory v w ends = ends.rests
unopened_keeps how v w ends = absurd ends

-- why two boards are no pair, by what their start was refused for
pub start_cause : {D E : Type 0} (primary : View D) (standby : View E) (why : StartRefusal) (how : PairEnding)
    → TellsApart primary standby why → EndsAs (start_ending why) how → HasStartCause how primary standby
start_cause primary standby (refusal.Unequal next next') how apart (inl is) =
    subst (λ (h : PairEnding). HasStartCause h primary standby) (sym is) apart.0
start_cause primary standby refusal.OutOfMemory how apart (inl is) =
    subst (λ (h : PairEnding). HasStartCause h primary standby) (sym is) tt
start_cause primary standby why how apart (inr is) =
    subst (λ (h : PairEnding). HasStartCause h primary standby) (sym is) tt

-- what was printed since the sink had this was printed since it had the same
print_from : (line : List ℕ) (v m w : PairPorts) → m.held ≡ v.held → m.write_faults ≡ v.write_faults → PrintsLine line m w
    → PrintsLine line v w
print_from line v m w held faults (whole, prints) = (
  whole,
  subst (λ (h : Option (List ℕ)). PrintsTo whole line h w.held v.write_faults w.write_faults) held
      (subst (λ (n : ℕ). PrintsTo whole line m.held w.held n w.write_faults) faults prints),
)

-- the primary was no board
pub not_opened : (how : Ending) (v w : PairPorts) → EndsUnopened how (primary_ports v) (primary_ports w) → StandbyRests v w
    → EndsUnpaired (Run how) v w
not_opened ending.OutOfMemory v w ends rests = (ends.whole, ends.prints)
not_opened how v w ends rests = inl (record { primary = ends; standby = rests })

module _ (v m w : PairPorts) (rows : Rows) (opens : OpensPrimary rows v m) where
  abbrev Ends : PairEnding → Type 0
  Ends how = EndsUnpaired how v w

  -- there was no memory
  starved : (how : PairEnding) → how ≡ Run ending.OutOfMemory → PrintsLine (line_of how) m w → EndsUnpaired how v w
  starved how is prints =
      subst Ends (sym is) (print_from (line_of (Run ending.OutOfMemory)) v m w opens.primary.same_sink.0 opens.primary.same_sink.1
      (subst (λ (h : PairEnding). PrintsLine (line_of h) m w) is prints))

  module _ (rests : PrimaryRests m w) where
    lacks : (how : PairEnding) → Goes m.standby w.standby KeepsContent → HasStandbyCause how m w → PrintsLine (line_of how) m w
        → EndsWithoutStandby how v w
    lacks how content cause prints = record {
      rows = rows;
      mid = m;
      opens = opens;
      primary = rests;
      content = content;
      cause = cause;
      prints = prints;
    }

    as_ended : (how other : PairEnding) → how ≡ other → PrintsLine (line_of how) m w → PrintsLine (line_of other) m w
    as_ended how other is prints = subst (λ (h : PairEnding). PrintsLine (line_of h) m w) is prints

    -- what was refused of the standby's content is so of what it showed
    refused_by : (why : LoadFault) → Goes m.standby w.standby KeepsContent → w.standby_faults ≡ m.standby_faults
        → ((image : Image) → Shows w.standby image → Refuses why image) → RefusesStandby why m w
    refused_by why content stood refused = record {
      refused = λ image shows is. refused image (shown_on m.standby w.standby image content is shows);
      no_fault = stood;
    }

    -- the standby was no board
    pub without_standby : (why : LoadFault) (how : PairEnding) → EndsAs (standby_ending why) how
        → Goes m.standby w.standby KeepsContent → HasCause (is_load_disk_fault why) m.standby_faults w.standby_faults
        → ((image : Image) → Shows w.standby image → Refuses why image) → PrintsLine (line_of how) m w → EndsUnpaired how v w
    without_standby why how (inr is) content cause refused prints = starved how is prints
    without_standby load.Disk how (inl is) content cause refused prints =
        subst Ends (sym is) (inr (lacks (Run ending.Unopened) content (cause.rose refl)
        (as_ended how (Run ending.Unopened) is prints)))
    without_standby (load.NotABoard area) how (inl is) content cause refused prints =
        subst Ends (sym is) (lacks (NoStandby area) content (refused_by (load.NotABoard area) content (cause.stood refl) refused)
        (as_ended how (NoStandby area) is prints))
    without_standby (load.Damaged area at) how (inl is) content cause refused prints =
        subst Ends (sym is) (lacks (DamagedStandby area at) content (refused_by (load.Damaged area at) content (cause.stood refl) refused)
        (as_ended how (DamagedStandby area at) is prints))
    without_standby load.OutOfMemory how (inl is) content cause refused prints = starved how is prints

-- both were boards, but no pair
module _ {D E : Type 0} (primary : View D) (standby : View E) (v m n w : PairPorts)
    (fresh : primary.log ≡ []) (fresh' : standby.log ≡ [])
    (first : OpensPrimary primary.base v m) (second : OpensStandby standby.base m n)
    (rests : PrimaryRests n w) (rests' : StandbyRests n w) where
  apart_bases : (rows_of primary ≡ rows_of standby → ⊥) → primary.base ≡ standby.base → ⊥
  apart_bases apart same =
      apart (ap (replay_log primary.base) fresh ∙ same ∙ sym (ap (replay_log standby.base) fresh'))

  pub no_pair : (how : PairEnding) → HasStartCause how primary standby → PrintsLine (line_of how) n w → EndsUnpaired how v w
  no_pair Unequal apart prints = record {
    primary = primary.base;
    standby = standby.base;
    apart = apart_bases apart;
    mid = n;
    opens = record { mid = m; first = first; second = second };
    rests = (rests, rests');
    prints = prints;
  }
  no_pair (Run ending.OutOfMemory) starved prints =
      print_from (line_of (Run ending.OutOfMemory)) v n w
      (second.standby.same_sink.0 ∙ first.primary.same_sink.0) (second.standby.same_sink.1 ∙ first.primary.same_sink.1) prints
  no_pair how cause prints = absurd cause

-- the standby was loaded beside a primary that had been opened
module _ {D E : Type 0} (told : D → Option Past) (faults moment : D → ℕ) (told' : E → Option Past) (faults' moment' : E → ℕ)
    (primary : View D) (standby : View E) (before : E) (held held' : Option (List ℕ)) (writes writes' : ℕ)
    (timed : (q : Past) → told' standby.disk ≡ Some q → q.clock ≡ moment' standby.disk)
    (found : (image : Image) → Shows (told' standby.disk) image → IsBoard standby.base image)
    (loaded : IsLoadedFrom moment' faults' before standby) (ok : Goes (told' before) (told' standby.disk) Secures) where
  abbrev Before : PairPorts
  Before = ports_at told faults moment told' faults' moment' held writes primary.disk before

  abbrev After : PairPorts
  After = ports_at told faults moment told' faults' moment' held' writes' primary.disk standby.disk

  pub loaded_beside : held' ≡ held → writes' ≡ writes → OpensStandby standby.base Before After
  loaded_beside same same' = record {
    standby = opened (IsBoard standby.base) (standby_ports Before) (standby_ports After) found timed ok (same, same') loaded.stood;
    primary = record { told = refl; faults = refl };
  }
