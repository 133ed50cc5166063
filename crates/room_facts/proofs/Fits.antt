-- A cell fits exactly if it has the tag and lacks nothing.
use Rattle.std.proofs.Common.{◌≡◌, ℕ, ◌≤◌, ◌<◌, true, false, ◌&&◌, eqb, ltb, leb, inl, inr, sym, ap, ◌∙◌, arith}
use Rattle.std.specs.Bool.{beq}
use Rattle.std.proofs.lemmas.Bool.{cases_lt, cases_eq, and_parts, and_from, leb-true, ltb-true, le-leb, lt-leb, lt-ltb, le-ltb, eq-eqb, ne_eqb}
use Rattle.cell_records.specs.declared.job.Job.{Job}
use Rattle.auctioneer.specs.Stands.{can_take}
use Rattle.auctioneer.specs.declared.stand.Stand.{Stand}
use Rattle.room_facts.specs.Lacks.{has_tag, lacks, nothing, same_lacks}

enough : (asked free : ℕ) → leb asked free ≡ beq (ltb free asked) false
enough asked free =
    elim (cases_lt free asked) [
      | (inl less) ↦ lt-leb asked free less ∙ ap (λ b. beq b false) (sym (lt-ltb free asked less))
      | (inr more) ↦ le-leb asked free more ∙ ap (λ b. beq b false) (sym (le-ltb free asked more))
    ]

some_left : (free : ℕ) → ltb 0 free ≡ beq (eqb free 0) false
some_left free =
    elim (cases_eq free 0) [
      | (inl none) ↦ le-ltb 0 free (omega arith) ∙ ap (λ b. beq b false) (sym (eq-eqb free 0 none))
      | (inr some) ↦ lt-ltb 0 free (omega arith) ∙ ap (λ b. beq b false) (sym (ne_eqb free 0 some))
    ]

pub fits_lacking_nothing : (job : Job) (s : Stand) → can_take job s
    ≡ (has_tag job.tag s && same_lacks (lacks job s) nothing)
fits_lacking_nothing job s = λ i.
    has_tag job.tag s && (enough job.memory s.free.memory i &&
    (enough job.disk s.free.disk i && some_left s.free.containers i))

-- what a cell that fits has
pub record HasRoom (job : Job) (s : Stand) : Type 0 where
  pub tag : has_tag job.tag s ≡ true
  pub memory : job.memory ≤ s.free.memory
  pub disk : job.disk ≤ s.free.disk
  pub container : 0 < s.free.containers

pub HasRoom-can_take : (job : Job) (s : Stand) → can_take job s ≡ true → HasRoom job s
HasRoom-can_take job s e =
    let tag = and_parts _ _ e in
    let memory = and_parts _ _ tag.1 in
    let disk = and_parts _ _ memory.1 in
    record {
      tag = tag.0;
      memory = leb-true job.memory s.free.memory memory.0;
      disk = leb-true job.disk s.free.disk disk.0;
      container = ltb-true 0 s.free.containers disk.1;
    }

pub can_take-HasRoom : (job : Job) (s : Stand) → HasRoom job s → can_take job s ≡ true
can_take-HasRoom job s h =
    and_from _ _ h.tag
    (and_from _ _ (le-leb job.memory s.free.memory h.memory)
    (and_from _ _ (le-leb job.disk s.free.disk h.disk) (lt-ltb 0 s.free.containers h.container)))
