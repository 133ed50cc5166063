-- What a stop leaves while a payload is put where nothing waits, and after it.
use Rattle.std.proofs.Common.{◌≡◌, ⊎_elim, inl, inr, ℕ, Bool, true, false, List, [], ◌∷◌, ◌++◌, Option, Some, None, subst, append_assoc}
use Rattle.std.specs.Option.{ForSome}
use Rattle.std.specs.Prelude.{is_some}
use Rattle.disk_trait.specs.Held.{Held, Leaves}
use Rattle.disk_trait.specs.Past.{Past, Image, Images, now, other}
use Rattle.disk_trait.specs.Runs.{Extends}
use Rattle.disk_trait.specs.Steps.{Goes}
use Rattle.disk_trait.proofs.Public.{goes_weaker, runs_there}
use Rattle.bbs_journal.specs.Areas.{BeforeOrAfter, Ready, Stands}
use Rattle.bbs_journal.specs.Calls.{Appends, AddsFrame}
use Rattle.bbs_journal.specs.Stops.{OpensAs}
use Rattle.bbs_journal.proofs.Public.{stops_opened, acknowledged_opened}
use Rattle.payload_log.specs.Adds.{AddsOne, PassesAdd}
use Rattle.payload_log.specs.Entries.{stored_in}
use Rattle.payload_log.specs.Opened.{Opened, OpensBehind}
use Rattle.payload_log.specs.View.{Holds}
use Rattle.payload_log.specs.declared.entry.Entry.{Entry}
use Rattle.payload_log.proofs.Keeping.{front, all, opens}

-- where nothing waits nothing is in doubt
ready_where : (waits : Bool) (doubt : Option (List ℕ)) (head : List ℕ) (payloads : List (List ℕ)) (end : ℕ)
    (held : Held) → waits ≡ false → waits ≡ is_some doubt → Stands head payloads doubt end held
    → Ready head payloads end held
ready_where waits None head payloads end held calm is stands = stands
ready_where waits (Some payload) head payloads end held calm is stands = absurd (cc)

module _ {X : Type 0} (spelling : X → List ℕ) (start : Opened) (log : List (Entry X)) (marks : List ℕ) (since end : ℕ)
    (waits : Bool) (p : Past) (h : Holds spelling start log marks since end waits p) (calm : waits ≡ false) where
  abbrev area_front : List ℕ
  area_front = front spelling start log marks since end waits p h

  abbrev there : List (List ℕ)
  there = all spelling start log marks since end waits p h

  pub ready_now : Ready area_front there end (now p start.area)
  ready_now = ready_where waits h.in_doubt area_front there end (now p start.area) calm h.waits_is h.stands

  -- what a stop leaves of a log that stands, and waits for nothing, is opened with all that is done
  pub holds_images : (image : Image) → Images p image → OpensBehind start (stored_in spelling log) image
  holds_images image leaves =
      opens spelling start log marks since end waits p h (stored_in spelling log) image
      (record {
        frames = ready_now.frames;
        whole = ready_now.whole;
        begins =
            ready_now.has.leaves (image start.area) (leaves start.area);
      }) (leaves (other start.area))

  module _ (payload : List ℕ) where
    behind : (image : Image) → OpensAs image start.area start.version start.generation start.head
        (there ++ payload ∷ []) → OpensBehind start (stored_in spelling log ++ payload ∷ []) image
    behind image opened =
        subst (λ (l : List (List ℕ)). OpensAs image start.area start.version start.generation start.head l)
        (append_assoc start.payloads (stored_in spelling log) (payload ∷ [])) opened

    -- a put that was refused, and whose gate is shut
    shut : (q : Past) (ok after : Bool) → ok ≡ false → after ≡ false
        → Appends start.area ok after area_front there payload end p q → (image : Image) → Images q image
        → OpensBehind start (stored_in spelling log) image
    shut q true after refused still appends image leaves = absurd (cc)
    shut q false true refused still appends image leaves = absurd (cc)
    shut q false false refused still appends image leaves =
        let left : Ready area_front there end (now q start.area) = appends.leaves in
        opens spelling start log marks since end waits p h (stored_in spelling log) image
        (record {
          frames = left.frames;
          whole = left.whole;
          begins =
              left.has.leaves (image start.area) (leaves start.area);
        })
        (subst (λ (held : Held). Leaves held (image (other start.area)))
        (runs_there (BeforeOrAfter area_front there payload) start.area p q appends.runs)
        (leaves (other start.area)))

    pub adds_one : (q : Past) (ok after : Bool) → Appends start.area ok after area_front there payload end p q
        → AddsOne ok after start (stored_in spelling log) payload p q
    adds_one q ok after appends = record {
      each = λ image since. ⊎_elim inl (λ more. inr (behind image more))
          (stops_opened p q start.area h.gate start.version start.generation start.head there payload h.beside ok after
          end h.is_open h.goes_with h.yields appends image since);
      done = λ is image leaves. behind image
          (acknowledged_opened p q start.area h.gate start.version start.generation start.head there payload h.beside
          after end h.is_open h.goes_with h.yields
          (subst (λ (b : Bool). Appends start.area b after area_front there payload end p q) is appends) image leaves);
      undone = λ refused still image leaves. shut q ok after refused still appends image leaves;
    }

-- ---- the same, where the disk may tell nothing

-- time goes on, and where nothing waits the rest is known
passes_both : (t0 t1 : Option Past) (waited ok after : Bool) (start : Opened) (payloads : List (List ℕ))
    (payload : List ℕ) → Goes t0 t1 Extends → (waited ≡ false → Goes t0 t1 (AddsOne ok after start payloads payload))
    → Goes t0 t1 (PassesAdd waited ok after start payloads payload)
passes_both None None waited ok after start payloads payload extends adds = tt
passes_both None (Some q) waited ok after start payloads payload extends adds = extends
passes_both (Some p) None waited ok after start payloads payload extends adds = extends
passes_both (Some p) (Some q) waited ok after start payloads payload extends adds =
    record { extends = extends; adds = adds }

module _ {X : Type 0} (spelling : X → List ℕ) (told later : Option Past) (start : Opened) (log : List (Entry X))
    (marks : List ℕ) (since end : ℕ) (waits : Bool) (holds : ForSome told
    (Holds spelling start log marks since end waits)) where
  pub passes_by : (payload : List ℕ) (ok after : Bool) → Goes told later Extends
      → (waits ≡ false → Goes told later (AddsFrame start.area ok after payload end))
      → Goes told later (PassesAdd waits ok after start (stored_in spelling log) payload)
  passes_by payload ok after extends adds =
      passes_both told later waits ok after start (stored_in spelling log) payload extends
      (λ calm. goes_weaker told later (AddsFrame start.area ok after payload end)
      (AddsOne ok after start (stored_in spelling log) payload)
      (λ p q i j a.
      let h = holds p i in
      adds_one spelling start log marks since end waits p h calm payload q ok after
      (a (front spelling start log marks since end waits p h) (all spelling start log marks since end waits p h)
      (ready_now spelling start log marks since end waits p h calm)))
      (adds calm))

  pub calm_images : waits ≡ false → ForSome told (λ p. (image : Image) → Images p image
      → OpensBehind start (stored_in spelling log) image)
  calm_images calm p is image leaves = holds_images spelling start log marks since end waits p
      (holds p is) calm image leaves
