-- One row more, as a loop reads it.
use Rattle.std.proofs.Common.{◌≡◌, ℕ, zero, suc, ◌+◌, ◌-◌, ◌<◌, ◌≤◌, Bool, List, Result, Ok, sym, ap, subst, ◌∙◌, arith}
use Rattle.wire_fields.specs.Reading.{◌>>=◌}
use Rattle.head_codec.specs.Head.{row_kept, head_rows_at}
use Rattle.bbs_codec.specs.RowFormats.{Reads}
use Rattle.head_codec.specs.Seen.{BlamesHead}
use Rattle.bbs_codec.specs.declared.fault.CodecFault.{CodecFault}
use Rattle.head_codec.specs.declared.fault.HeadFault.{HeadFault}
use Rattle.head_codec.specs.declared.fault.HeadFault.TheVariants.{Codec, OutOfMemory}

-- the first fault is that of the whole
pub Blames-bind : {A B : Type 0} (fault : HeadFault) (t : Result A CodecFault) (g : A → Result B CodecFault)
    → BlamesHead fault t → BlamesHead fault (t >>= g)
Blames-bind (Codec f) t g e = ap (λ r. r >>= g) e
Blames-bind OutOfMemory t g e = tt

-- what comes after a value that was read
pub bind_is : {A B : Type 0} (t : Result A CodecFault) (x : A) (g : A → Result B CodecFault) → t ≡ Ok x
    → (t >>= g) ≡ g x
bind_is t x g e = ap (λ r. r >>= g) e

pub Blames-behind : {A B : Type 0} (fault : HeadFault) (t : Result A CodecFault) (x : A) (g : A → Result B CodecFault)
    → t ≡ Ok x → BlamesHead fault (g x) → BlamesHead fault (t >>= g)
Blames-behind fault t x g e h = subst (BlamesHead fault) (sym (bind_is t x g e)) h

module _ {X : Type 0} (read : Reads X) (follows : List X → X → Bool) (n i : ℕ) (bytes : List ℕ)
    (done : List X × ℕ) where
  more_is : i < n → head_rows_at read follows (n - i) bytes done
      ≡ head_rows_at read follows (suc (n - (i + 1))) bytes done
  more_is lt = let e : n - i ≡ suc (n - (i + 1)) = omega arith in ap (λ m. head_rows_at read follows m bytes done) e

  pub rows_step : i < n → (more : List X × ℕ) → row_kept follows done (read bytes done.1) ≡ Ok more
      → head_rows_at read follows (n - i) bytes done ≡ head_rows_at read follows (n - (i + 1)) bytes more
  rows_step lt more e = more_is lt ∙ bind_is (row_kept follows done (read bytes done.1)) more
      (λ d. head_rows_at read follows (n - (i + 1)) bytes d) e

  pub rows_stop : i < n → (fault : HeadFault) → BlamesHead fault (row_kept follows done (read bytes done.1))
      → BlamesHead fault (head_rows_at read follows (n - i) bytes done)
  rows_stop lt fault h =
      subst (BlamesHead fault) (sym (more_is lt))
      (Blames-bind fault (row_kept follows done (read bytes done.1))
      (λ d. head_rows_at read follows (n - (i + 1)) bytes d) h)

  pub rows_done : n ≤ i → head_rows_at read follows (n - i) bytes done ≡ Ok done
  rows_done le = let e : n - i ≡ zero = omega arith in ap (λ m. head_rows_at read follows m bytes done) e

pub rows_begin : {X : Type 0} (read : Reads X) (follows : List X → X → Bool) (n : ℕ) (bytes : List ℕ)
    (done : List X × ℕ)
    → head_rows_at read follows n bytes done ≡ head_rows_at read follows (n - 0) bytes done
rows_begin read follows n bytes done = let e : n ≡ n - 0 = omega arith in
    ap (λ m. head_rows_at read follows m bytes done) e
