-- The body does nothing. The borrow of the record is opened, and closed with one call more.
use Rattle.std.proofs.Common.{List, [], ◌∷◌, refl}
use Rattle.std.proofs.raw_atomic.Walks.{proved}
use mir.Syntax.{named}
use mir.Val.{Val, vunit, vptr}
use base.Logic.{id⊢}
use base.Fml.{ftrue, flft}
use types.Kit.{‵, ◌⊛◌, ◌$◌, ◌∵◌, !, qed, move, keep, drop, split, join, fsplit, fsplit3, fjoin, fjoin3, feq_i, use1, suffices, frame, done}
use types.Run.{enter, of_opd, unit_lit, returns}
use types.ByLocal.{alloc_all, pass_all, free_all, look_at, sets}
use denote.Builtin.{u8, u64}
use denote.Exit.{yes}
use denote.RattleType.{owns}
use denote.Ref.{MutRef, mut_vals, mut_Tells}
use denote.Signature.{plain}
use denote.Slice.{ShrSlice, shr_slice_vals, shr_slice_Tells}
use denote.Steps.{opens, closes}
use denote.Triple.Walked.{Stays, walk_of, says, stay_ref, stay_none_slice, Goes-ref, Goes-none_slice, ends_at}
use Rattle.file_calls.specs.declared.record.Record.{Record}
use Rattle.file_calls.specs.Note.{call_of}
use Rattle.file_calls.specs.contracts.record.Record.{the_row as R}
use Rattle.file_calls.specs.contracts.record.Record.note as f
use Rattle.file_calls.proofs.record.Record.note.Statement.{statement}
use Rattle.file_calls.proofs.record.Record.note.Code as code

abbrev stayed : Stays f.ended.signature.params f.ended.kept
stayed = (
  stay_ref (0 ∷ []) tt (plain (λ _. R)),
  (
    stay_none_slice (1 ∷ []) tt (plain (λ _. u64)) yes,
    (stay_none_slice (2 ∷ []) tt (plain (λ _. u8)) yes, tt),
  ),
)

pub note_spec : {M : Type 1} → statement M
note_spec 𝓤 𝓛 𝓜 𝓡 wired =
    let c = f.clauses 𝓛 𝓜.mem 𝓡.returns in let W = walk_of 𝓛 f.ended stayed c in
    proved 𝓛 f.ended stayed c 𝓜 𝓡 (
      Goes-ref 𝓛 3 0 tt (plain (λ _. R)),
      (
        Goes-none_slice 𝓛 3 (1 ∷ []) tt (plain (λ _. u64)) yes,
        (Goes-none_slice 𝓛 3 (2 ∷ []) tt (plain (λ _. u8)) yes, tt),
      ),
    )
    f.Key.name code.function (code.unfolded 𝓤 𝓛.H 𝓜 𝓡 wired)
    (λ κs. (mut_vals, (shr_slice_vals, (shr_slice_vals, tt))))
    (λ κs. (
      mut_Tells (named 0) κs.0 R,
      (
        shr_slice_Tells (named 1) κs.1.0 u64,
        (shr_slice_Tells (named 2) κs.1.1.0 u8, tt),
      ),
    )) (λ κs qs bounds a g are.
    let self = a.0 in let b = self.ref_ptr.0 in let o = self.ref_ptr.1 in
    let numbers = a.1.0 in let bytes = a.1.1.0 in
    let more : Record = record { marker = self.now.marker; calls = call_of numbers.now bytes.now ∷ self.now.calls } in
    let at = vptr b o ∷ [] in let vs : List Val × (List Val × (List Val × Unit {0})) =
    (at, (shr_slice_vals numbers, (shr_slice_vals bytes, tt))) in
    let y : W.Ghost = ((κs, qs, bounds, a, vs), g) in
    let slices = owns (ShrSlice (named 1) κs.1.0 u64 ∷ ShrSlice (named 2) κs.1.1.0 u8 ∷ []) a.1 vs.1 in
    qed 𝓛 (((‵ (flft κs.0 qs.0) ⊛ ‵ (flft κs.1.0 qs.1.0) ⊛ ‵ (flft κs.1.1.0 qs.1.1.0) ⊛ ‵ ftrue)
    ⊛ ‵ (owns (MutRef (named 0) κs.0 R ∷ ShrSlice (named 1) κs.1.0 u64 ∷ ShrSlice (named 2) κs.1.1.0 u8 ∷ []) a vs))
    ∷ ‵ ftrue ∷ []) ∵
    split ! $ split ! $ move ! (2 ∷ []) $ fsplit ! $ fsplit3 ! $ drop ! $ move ! (0 ∷ 1 ∷ 3 ∷ []) $
    -- [the record's last value; its borrow; the token; the slices; the other tokens; the empty clause]
    enter ! _ _ _ _ _ $ alloc_all ! (λ l. pass_all ! refl (
      (tt, tt),
      (
        (tt, (tt, (record { fits = are.1.0.0.1.0 }, tt))),
        ((tt, (tt, (record { fits = are.1.1.0.0.1.0 }, tt))), tt),
      ),
    ) $
    opens ! tt R {h = self.now} b o (λ us.
    sets ! (of_opd ! (unit_lit !)) refl (tt, tt) $
    move ! (1 ∷ []) $ use1 𝓛 (‵ (R.own_val more us)) (id⊢ 𝓤 _) $ move ! (1 ∷ 0 ∷ []) $ closes ! tt R more us b o $
    returns ! (look_at ! 0 refl) $ free_all ! refl $ keep ! (0 ∷ 1 ∷ 2 ∷ 3 ∷ 4 ∷ []) $
    suffices ! _ (ends_at 𝓛 f.ended stayed c y vunit tt (more, (tt, (tt, tt))) (tt, (tt, (tt, tt)))) $ says ! refl $
    move ! (2 ∷ 4 ∷ []) $ join ! $ frame ! $ feq_i ! (List Val) at at refl $ fjoin3 ! $ fjoin ! $
    feq_i ! (List Val) (vunit ∷ []) (vunit ∷ []) refl $ move ! (1 ∷ 0 ∷ []) $ done !)))
