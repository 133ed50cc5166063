use Rattle.std.proofs.Common.{◌≡◌, ℕ, ◌+◌, ◌-◌, Bool, true, inl, min, List, [], ◌∷◌, ◌++◌, length, take, drop, length-drop, refl, ◌∙◌, ap, arith}
use Rattle.disk_trait.specs.Steps.{Wrote}
use Rattle.disk_trait.specs.Deeds.{undone}
use Rattle.disk_trait.specs.declared.deed.Deed.TheVariants.{Write}
use Rattle.disk_trait.specs.declared.deed.Entry.{Entry}
use Rattle.disk_trait.proofs.AreaLemmas.{adds, refused, sound_adds, area_bytes, bytes_from_fits, wrote_step}
use Rattle.disk_trait.proofs.Ranges.{torn_overwritten, bytes_overwritten}
use Rattle.disk_trait.proofs.Bytes.{undone_overwritten, over_is}
use Rattle.disk_trait.proofs.memory_area.MemoryArea.write.Goals as goal

pub returns-in_err-over : goal.returns-in_err-over
returns-in_err-over c =
    refused c.from_residual.result c.args.clock c.args.self.now _
    (λ (ok : Bool). Wrote ok c.args.at c.args.bytes.now) c.from_residual.ensures.0 c.requires.numbered refl refl
    (λ held. inl refl)

pub returns-in_err-reserve : goal.returns-in_err-reserve
returns-in_err-reserve c =
    refused c.from_residual-in_err-reserve.result c.args.clock c.args.self.now _
    (λ (ok : Bool). Wrote ok c.args.at c.args.bytes.now) c.from_residual-in_err-reserve.ensures.0
    c.requires.numbered c.reserve.ensures.items refl (λ held. inl refl)

pub returns-in_err-lay : goal.returns-in_err-lay
returns-in_err-lay c =
    refused c.from_residual-in_err-lay.result c.args.clock c.args.self.now _
    (λ (ok : Bool). Wrote ok c.args.at c.args.bytes.now) c.from_residual-in_err-lay.ensures.0 c.requires.numbered
    c.reserve.ensures.items c.in_err-lay.ensures.err (λ held. inl refl)

pub invariant_of-self-2 : goal.invariant_of-self-2
invariant_of-self-2 c =
    let old = c.args.self.now.bytes.items in
    let at = c.args.at in
    let bytes = c.args.bytes.now in
    let entry : Entry = record { call = c.args.clock + 1; deed = Write at (length bytes) c.in_ok-over.over } in
    let more = c.push_reserved.ensures.items ∙ ap (λ (l : List Entry). l ++ entry ∷ []) c.reserve.ensures.items in
    let laid = c.in_ok-lay.ensures.ok in
    let part : c.min-end.result - at ≡ min (length bytes) (length (drop at old)) = omega (arith, length-drop at old) in
    let over = c.in_ok-over.ensures.items ∙ ap (λ (l : List ℕ). take (c.min-end.result - at) (drop at l))
    c.deref.ensures.value ∙ over_is at c.min-end.result (length bytes) old part in
    let undoes : undone entry.deed c.lay.new.target.items ≡ old =
    ap (undone entry.deed) laid ∙ undone_overwritten at (length bytes) bytes old c.in_ok-over.over.items c.requires.at
    refl over in
    record {
      sound = sound_adds c.args.self.now _ c.lay.new.target.items entry more undoes
          (rw laid (torn_overwritten at bytes old c.requires.at))
          (rw laid (bytes_overwritten at bytes old (bytes_from_fits bytes c.type_inv.bytes)
          (area_bytes c.args.self.now)));
    }

pub returns : goal.returns
returns c =
    let old = c.args.self.now.bytes.items in
    let at = c.args.at in
    let bytes = c.args.bytes.now in
    let entry : Entry = record { call = c.args.clock + 1; deed = Write at (length bytes) c.in_ok-over.over } in
    let more = c.push_reserved.ensures.items ∙ ap (λ (l : List Entry). l ++ entry ∷ []) c.reserve.ensures.items in
    let laid = c.in_ok-lay.ensures.ok in
    let part : c.min-end.result - at ≡ min (length bytes) (length (drop at old)) = omega (arith, length-drop at old) in
    let over = c.in_ok-over.ensures.items ∙ ap (λ (l : List ℕ). take (c.min-end.result - at) (drop at l))
    c.deref.ensures.value ∙ over_is at c.min-end.result (length bytes) old part in
    let undoes : undone entry.deed c.lay.new.target.items ≡ old =
    ap (undone entry.deed) laid ∙ undone_overwritten at (length bytes) bytes old c.in_ok-over.over.items c.requires.at
    refl over in
    adds c.args.clock c.args.self.now _ entry (Wrote true at bytes) c.requires.numbered more refl undoes
    (λ held same. wrote_step at (length bytes) bytes old c.lay.new.target.items c.in_ok-over.over held refl laid same)
