-- How the run of a number ends, by how that of its text did.
use Rattle.std.proofs.Common.{◌≡◌, ℕ, Bool, true, false, List, Option, refl, sym, subst, inl, inr}
use Rattle.program_ends.specs.Ports.{PrintsTo}
use Rattle.program_ends.specs.declared.ending.Ending.{Ending}
use Rattle.program_ends.specs.declared.ending.Ending.TheVariants as ending
use Rattle.program_run.specs.Runs.{IsEmpty}
use Rattle.program_run.specs.declared.ended.Ended.{Ended}
use Rattle.scenario_maker.specs.Generated.{generated}
use Rattle.large_runs.specs.Large.{LargeEnds, PrintsSummary, RanText, RanWhole, TextEnds, ending_by, is_calm}

-- a run that did nothing for want of memory
pub idle_text : (text : List ℕ) (e : Ended) (bytes : List ℕ) (how : Ending) → how ≡ ending.OutOfMemory → IsEmpty e
    → TextEnds text how e bytes
idle_text text e bytes how is empty =
    subst (λ (x : Ending). TextEnds text x e bytes) (sym is) (inr empty)

-- the same lists, whatever the ending
relisted : (text : List ℕ) (how other : Ending) (e : Ended) → RanText text how e
    → RanText text how (record e { ending = other })
relisted text how other e ran = record {
  script = ran.script;
  says = ran.says;
  lawful = ran.lawful;
  calm = ran.calm;
  marked = ran.marked;
  faithful = ran.faithful;
}

module _ (number : ℕ) (e : Ended) (held held' : Option (List ℕ)) (faults faults' : ℕ) where
  by_whole : (bytes : List ℕ) (whole : Bool) → RanWhole (generated number) e bytes
      → PrintsTo whole bytes held held' faults faults'
      → LargeEnds number (ending_by whole) (record e { ending = ending_by whole }) held held' faults faults'
  unfolding relisted
  by_whole bytes true all prints = record {
    ran = relisted (generated number) ending.Done ending.Done e all.ran;
    prints = subst (λ (line : List ℕ). PrintsTo true line held held' faults faults') all.summary prints;
  }
  by_whole bytes false all prints = record {
    ran = relisted (generated number) ending.Done ending.Unwritten e all.ran;
    prints = subst (λ (line : List ℕ). PrintsTo false line held held' faults faults') all.summary prints;
  }

  -- each phase ran, and the summary was printed
  pub printed : (e' : Ended) (bytes : List ℕ) (how : Ending) → how ≡ ending.Done
      → TextEnds (generated number) how e bytes → PrintsSummary e e' bytes held held' faults faults'
      → LargeEnds number e'.ending e' held held' faults faults'
  printed e' bytes how is ends p =
      subst (λ (x : Ended). LargeEnds number x.ending x held held' faults faults') (sym p.ended)
      (by_whole bytes p.whole (subst (λ (x : Ending). TextEnds (generated number) x e bytes) is ends) p.prints)

-- memory ran out, and what was done is told
pub starved : (number : ℕ) (e : Ended) (held : Option (List ℕ)) (faults : ℕ) (bytes : List ℕ) (how : Ending)
    → how ≡ ending.OutOfMemory → is_calm e.log.items ≡ true → TextEnds (generated number) how e bytes
    → LargeEnds number how e held held faults faults
starved number e held faults bytes how is calm ends =
    subst (λ (x : Ending). LargeEnds number x e held held faults faults) (sym is) (record {
      same_sink = (refl, refl);
      did =
          elim (subst (λ (x : Ending). TextEnds (generated number) x e bytes) is ends) [
            | inl ran ↦ inl (ran calm)
            | inr empty ↦ inr empty
          ];
    })

-- memory ran out, and nothing is told
pub idle : (number : ℕ) (e : Ended) (held : Option (List ℕ)) (faults : ℕ) (how : Ending)
    → how ≡ ending.OutOfMemory → IsEmpty e → LargeEnds number how e held held faults faults
idle number e held faults how is empty =
    subst (λ (x : Ending). LargeEnds number x e held held faults faults) (sym is) (record {
      same_sink = (refl, refl);
      did = inr empty;
    })
