-- How the program ends that ran no script, by the disks that it hands back.
use Rattle.std.proofs.Common.{◌≡◌, ℕ, Bool, List, [], Option, None, Err, refl, sym, ap, subst, ◌∙◌}
use Rattle.disk_trait.specs.Past.{Past}
use Rattle.disk_trait.specs.Shows.{KeepsContent}
use Rattle.disk_trait.specs.Steps.{Goes}
use Rattle.disk_trait.proofs.Public.{goes_same}
use Rattle.pair_lines.specs.Words.{AsksFor}
use Rattle.pair_lines.specs.declared.answered.PairAnswered.{PairAnswered}
use Rattle.program_ends.specs.Ports.{PrintsTo}
use Rattle.program_ends.specs.declared.ending.Ending.TheVariants as ending
use Rattle.program_ends.proofs.Public.{keeps_same}
use Rattle.scenario_lines.specs.declared.script.Script.{Script}
use Rattle.pair_top.specs.Endings.{EndsAs, line_of}
use Rattle.pair_top.specs.Reading.{ReadsPair}
use Rattle.pair_top.specs.Top.{EndsUnpaired, EndsUntouched, IsIdle, NumberEnds, PairEnds, PairPorts, ScriptEnds, ports_at}
use Rattle.pair_top.specs.declared.ending.PairEnding.{PairEnding}
use Rattle.pair_top.specs.declared.ending.PairEnding.TheVariants.{Run}
use Rattle.pair_top.proofs.Givings.{idle_ends, unread_ends}

module _ {D E : Type 0} (told : D → Option Past) (faults moment : D → ℕ) (told' : E → Option Past) (faults' moment' : E → ℕ)
    (answers : List PairAnswered) (none : answers ≡ []) (p q : D) (s t : E) (same : (q ≡ p) × (t ≡ s)) where
  abbrev At : Option (List ℕ) → ℕ → D → E → PairPorts
  At held writes d e = ports_at told faults moment told' faults' moment' held writes d e

  handed_back : (held : Option (List ℕ)) (writes : ℕ) → At held writes q t ≡ At held writes p s
  handed_back held writes = ap (λ (d : D). At held writes d t) same.0 ∙ ap (λ (e : E). At held writes p e) same.1

  -- there was no pair
  pub unpaired : (script : Script) (k : ℕ) (v : PairPorts) (held : Option (List ℕ)) (writes : ℕ) (how other : PairEnding)
      → other ≡ how
      → Goes v.primary (told p) KeepsContent × Goes v.standby (told' s) KeepsContent
      → EndsUnpaired how v (At held writes p s) → ScriptEnds other script k answers v (At held writes q t)
  unpaired script k v held writes how other is content ends =
      subst (λ (w : PairPorts). ScriptEnds other script k answers v w) (sym (handed_back held writes))
      (idle_ends script k answers v (At held writes p s) other how is
      (record { answers_are = none; primary = content.0; standby = content.1 }) ends)

  module _ (held held' : Option (List ℕ)) (writes writes' : ℕ) where
    untouched : (how : PairEnding) → (whole : Bool) → PrintsTo whole (line_of how) held held' writes writes'
        → EndsUntouched how (At held writes p s) (At held' writes' p s)
    untouched how whole prints = record {
      primary = record { told = refl; faults = refl };
      standby = record { told = refl; faults = refl };
      prints = (whole, prints);
    }

    idle : IsIdle answers (At held writes p s) (At held' writes' p s)
    idle = record {
      answers_are = none;
      primary = goes_same (told p) KeepsContent (λ x is. keeps_same x);
      standby = goes_same (told' s) KeepsContent (λ x is. keeps_same x);
    }

    -- the source gave no script for a pair
    pub unread : (k : ℕ) (left left' : Option (List ℕ)) (other what how : PairEnding) → other ≡ how → EndsAs what how
        → ReadsPair (Err what) left left' → (whole : Bool) → PrintsTo whole (line_of how) held held' writes writes'
        → NumberEnds other k answers left left' (At held writes p s) (At held' writes' q t)
    unread k left left' other what how is ends reads whole prints =
        subst (λ (w : PairPorts). NumberEnds other k answers left left' (At held writes p s) w)
        (sym (handed_back held' writes'))
        (unread_ends k answers left left' (At held writes p s) (At held' writes' p s) other what how is ends reads idle
        (untouched how whole prints))

    -- the words aren't in the grammar
    pub unasked : (words : List (List ℕ)) (left : Option (List ℕ)) (other how : PairEnding) → AsksFor words None
        → other ≡ how → how ≡ Run ending.Usage → (whole : Bool) → PrintsTo whole (line_of how) held held' writes writes'
        → PairEnds other words answers left left (At held writes p s) (At held' writes' q t)
    unasked words left other how asks is usage whole prints =
        subst (λ (w : PairPorts). PairEnds other words answers left left (At held writes p s) w)
        (sym (handed_back held' writes'))
        (subst (λ (h : PairEnding). PairEnds h words answers left left (At held writes p s) (At held' writes' p s))
        (sym (is ∙ usage)) (
          asks,
          idle,
          untouched (Run ending.Usage) whole
              (subst (λ (h : PairEnding). PrintsTo whole (line_of h) held held' writes writes') usage prints),
          refl,
        ))
