-- What is read as a command is spelled so, and what is spelled so is read.
use Rattle.std.proofs.Common.{◌≡◌, ℕ, ◌+◌, ◌^◌, ◌<◌, ◌≤◌, Bool, true, false, cond, List, [], ◌++◌, length, drop, Result, Ok, Err, refl, sym, ap, subst, ◌∙◌, arith, append-nil, length-append}
use Rattle.std.specs.Prelude.{nat_lt}
use Rattle.std.specs.Int.{w8, w32}
use Rattle.std.proofs.lemmas.Bool.Decides.{nat_tests}
use Rattle.std.proofs.lemmas.List.{nil_from_length, drop_at}
use Rattle.wire_fields.specs.declared.fault.FieldFault.{FieldFault}
use Rattle.wire_fields.specs.Field.{field_number}
use Rattle.wire_fields.specs.Laws.{IsBytes, TextStandsAt}
use Rattle.wire_fields.specs.Reading.{◌>>=◌, number_at}
use Rattle.wire_fields.proofs.Public.{length-field_u8, length-field_u32, IsField-u8, IsField-u32, bind_ok, StandsAt-append, StandsAt-front, StandsAt-back}
use Rattle.bbs_model.specs.declared.command.Command.{Command}
use Rattle.bbs_model.specs.declared.command.Op.{Op}
use Rattle.bbs_codec.specs.Command.{FitsCommand, IsReadIn, spelled, as_part, most_kind, is_kind, kind_at, command_at, ended, reading}
use Rattle.bbs_codec.specs.Ops.{said, op_at}
use Rattle.bbs_codec.specs.declared.fault.CodecFault.{CodecFault}
use Rattle.bbs_codec.specs.declared.fault.CodecFault.TheVariants.{BadKind, Trailing}
use Rattle.bbs_codec.proofs.OpLaws.{Stands, op_spelled, IsOp-each}

-- a part that was read
part_ok : {X : Type 0} (r : Result X FieldFault) (x : X) → as_part r ≡ Ok x → r ≡ Ok x
part_ok (Ok y) x e = let same : y ≡ x = cc in ap (λ (z : _). Ok z) same
part_ok (Err fault) x e = absurd cc

-- what stands behind the kind
abbrev behind_kind : ℕ → ℕ × ℕ → Result (ℕ × ℕ) CodecFault
behind_kind version kind = cond (is_kind version kind.0) (Ok kind) (Err (BadKind 0))

-- what stands behind a command's moment
abbrev behind_now : List ℕ → ℕ → ℕ × ℕ → Result (Command × ℕ) CodecFault
behind_now bytes kind now = as_part (op_at kind bytes now.1) >>= λ op.
    Ok (record { now = record { 0 = now.0 }; op = op.0 }, op.1)

-- what stands behind the test of the kind
abbrev behind_test : List ℕ → Result (ℕ × ℕ) CodecFault → Result (Command × ℕ) CodecFault
behind_test bytes read = read >>= λ kind. as_part (number_at w32 bytes kind.1) >>= behind_now bytes kind.0

-- a kind that a version may have is one
is_known : (version kind : ℕ) → 1 ≤ kind → kind ≤ most_kind version → is_kind version kind ≡ true
is_known version kind known few = grind (arith, nat_tests, known, few)

-- areas of version 2 may have each command
pub command_known : (c : Command) → IsReadIn 2 c
command_known c = (IsOp-each c.op).few

-- a command that is spelled in front is read there
pub front_again : (version : ℕ) (bytes : List ℕ) (c : Command) → FitsCommand c → IsReadIn version c
    → TextStandsAt bytes 0 (spelled c) → command_at version bytes ≡ Ok (c, length (spelled c))
unfolding spelled kind_at command_at
front_again version bytes c fits few stands =
    let kind : ℕ = (said c.op).kind in
    let first : List ℕ = field_number w8 kind in
    let second : List ℕ = field_number w32 c.now.0 in
    let third : List ℕ = (said c.op).fields in
    let op = IsOp-each c.op in
    let rest = StandsAt-back bytes 0 first (second ++ third) stands in
    let small : kind < 2 ^ 8 = omega (arith, op.few) in
    let e1 = IsField-u8.again bytes 0 kind small (StandsAt-front bytes 0 first (second ++ third) stands) in
    let e2 = IsField-u32.again bytes (0 + length first) c.now.0 fits.now
    (StandsAt-front bytes (0 + length first) second third rest) in
    let e3 = op.again bytes (0 + length first + length second) fits.op
    (StandsAt-back bytes (0 + length first) second third rest) in
    let place : 0 + length first + length second + length third ≡ length (first ++ (second ++ third)) =
    omega (arith, length-append first (second ++ third), length-append second third) in
    let read : ℕ × ℕ = (kind, 0 + length first) in
    ap (λ (r : Result (ℕ × ℕ) FieldFault). behind_test bytes (as_part r >>= behind_kind version)) e1
    ∙ ap (λ (b : Bool). behind_test bytes (cond b (Ok read) (Err (BadKind 0)))) (is_known version kind op.known few)
    ∙ ap (λ (r : Result (ℕ × ℕ) FieldFault). as_part r >>= behind_now bytes kind) e2
    ∙ ap (λ (r : Result (Op × ℕ) FieldFault). as_part r >>= λ op.
    Ok (record { now = record { 0 = c.now.0 }; op = op.0 }, op.1)) e3
    ∙ ap (λ (n : ℕ). Ok (c, n)) place

ended_there : (bytes : List ℕ) (c : Command) (at : ℕ) → at ≡ length bytes → ended bytes (c, at) ≡ Ok c
ended_there bytes c at e = by_test (nat_lt at (length bytes)) refl
  where
    by_test : (b : Bool) → nat_lt at (length bytes) ≡ b → cond b (Err (Trailing at)) (Ok c) ≡ Ok c
    by_test true h = absurd (grind (arith, nat_tests, h, e))
    by_test false h = refl

-- a command that was spelled is read back in the versions that may have it
pub command_again : (version : ℕ) (c : Command) → FitsCommand c → IsReadIn version c
    → reading version (spelled c) ≡ Ok c
unfolding reading
command_again version c fits few =
    ap (λ (r : Result (Command × ℕ) CodecFault). r >>= ended (spelled c))
    (front_again version (spelled c) c fits few (record { rest = []; parts = sym (append-nil (spelled c)) }))
    ∙ ended_there (spelled c) c (length (spelled c)) refl

-- a command that the version may have stands in front, and the place is behind it
pub record Fronts (version : ℕ) (bytes : List ℕ) (c : Command) (after : ℕ) : Type 0 where
  pub stands : TextStandsAt bytes 0 (spelled c)
  pub place : after ≡ length (spelled c)
  pub fits : FitsCommand c
  pub few : IsReadIn version c

kind_found : (version : ℕ) (k l : ℕ × ℕ) (b : Bool) → is_kind version k.0 ≡ b → cond b (Ok k) (Err (BadKind 0)) ≡ Ok l
    → (is_kind version k.0 ≡ true) × (k ≡ l)
kind_found version k l true e h = (e, cc)
kind_found version k l false e h = absurd cc

-- the kind that was read stands in front
record IsFirst (version : ℕ) (bytes : List ℕ) (k : ℕ × ℕ) : Type 0 where
  stands : TextStandsAt bytes 0 (field_number w8 k.0)
  place : k.1 ≡ 0 + length (field_number w8 k.0)
  known : 1 ≤ k.0
  few : k.0 ≤ most_kind version

kind_spelled : (version : ℕ) (bytes : List ℕ) (k : ℕ × ℕ) → IsBytes bytes → kind_at version bytes ≡ Ok k
    → IsFirst version bytes k
unfolding kind_at
kind_spelled version bytes k ib e =
    let m = bind_ok (as_part (number_at w8 bytes 0)) (behind_kind version) k e in
    let known = kind_found version m.0 k (is_kind version m.0.0) refl m.2 in
    let found = IsField-u8.spelled bytes 0 m.0.0 m.0.1 ib (part_ok (number_at w8 bytes 0) m.0 m.1) in
    subst (IsFirst version bytes) known.1 (record {
      stands = found.0;
      place = found.1;
      known = from_one m.0.0 known.0;
      few = at_most m.0.0 known.0;
    })
  where
    from_one : (n : ℕ) → is_kind version n ≡ true → 1 ≤ n
    from_one n e = grind (arith, nat_tests, e)

    at_most : (n : ℕ) → is_kind version n ≡ true → n ≤ most_kind version
    at_most n e = grind (arith, nat_tests, e)

-- a kind, a moment and an operation, one behind the other, are a command
put_together : (version : ℕ) (bytes : List ℕ) (k n : ℕ × ℕ) (op : Op) (after : ℕ) → IsFirst version bytes k
    → TextStandsAt bytes k.1 (field_number w32 n.0)
    → n.1 ≡ k.1 + length (field_number w32 n.0) → n.0 < 2 ^ 32 → Stands k.0 bytes n.1 op after
    → Fronts version bytes (record { now = record { 0 = n.0 }; op = op }) after
unfolding spelled
put_together version bytes k n op after kind stands place small is =
    let first : List ℕ = field_number w8 (said op).kind in
    let second : List ℕ = field_number w32 n.0 in
    let third : List ℕ = (said op).fields in
    let front : TextStandsAt bytes 0 first = subst (λ (m : ℕ). TextStandsAt bytes 0 (field_number w8 m))
    (sym is.kind) kind.stands in
    let start : k.1 ≡ 0 + length first = omega (arith, kind.place, length-field_u8 k.0, length-field_u8 (said op).kind)
    in
    let middle : TextStandsAt bytes (0 + length first) second =
    subst (λ (m : ℕ). TextStandsAt bytes m second) start stands in
    let next : n.1 ≡ 0 + length first + length second = omega (arith, place, start) in
    let back : TextStandsAt bytes (0 + length first + length second) third =
    subst (λ (m : ℕ). TextStandsAt bytes m third) next is.stands in
    record {
      stands = StandsAt-append bytes 0 first (second ++ third) front
          (StandsAt-append bytes (0 + length first) second third middle back);
      place = omega (arith, is.place, next, length-append first (second ++ third), length-append second third);
      fits = record { now = small; op = is.fits };
      few = subst (λ (m : ℕ). m ≤ most_kind version) (sym is.kind) kind.few;
    }

same_ok : {X : Type 0} (x y : X) → ◌≡◌ {A = Result X CodecFault} (Ok x) (Ok y) → x ≡ y
same_ok x y e = cc

-- what is read as a command in front is spelled there
pub front_spelled : (version : ℕ) (bytes : List ℕ) (c : Command) (after : ℕ) → IsBytes bytes
    → command_at version bytes ≡ Ok (c, after) → Fronts version bytes c after
unfolding command_at
front_spelled version bytes c after ib e =
    let k = bind_ok (kind_at version bytes) (λ kind. as_part (number_at w32 bytes kind.1) >>= behind_now bytes kind.0)
    (c, after) e in
    let n = bind_ok (as_part (number_at w32 bytes k.0.1)) (behind_now bytes k.0.0) (c, after) k.2 in
    let o = bind_ok (as_part (op_at k.0.0 bytes n.0.1)) (λ op.
    Ok (record { now = record { 0 = n.0.0 }; op = op.0 }, op.1)) (c, after) n.2 in
    let kind = kind_spelled version bytes k.0 ib k.1 in
    let now = IsField-u32.spelled bytes k.0.1 n.0.0 n.0.1 ib (part_ok (number_at w32 bytes k.0.1) n.0 n.1) in
    let op = (op_spelled k.0.0 kind.known).spelled bytes n.0.1 o.0.0 o.0.1 ib
    (part_ok (op_at k.0.0 bytes n.0.1) o.0 o.1) in
    let pair : ◌≡◌ {A = Command × ℕ} (record { now = record { 0 = n.0.0 }; op = o.0.0 }, o.0.1) (c, after) =
    same_ok {X = Command × ℕ} (record { now = record { 0 = n.0.0 }; op = o.0.0 }, o.0.1) (c, after) o.2 in
    subst (λ (p : Command × ℕ). Fronts version bytes p.0 p.1) pair
    (put_together version bytes k.0 n.0 o.0.0 o.0.1 kind now.0 now.1 now.2 op)

ended_found : (bytes : List ℕ) (read : Command × ℕ) (c : Command) → ended bytes read ≡ Ok c
    → (length bytes ≤ read.1) × (read.0 ≡ c)
ended_found bytes read c e = by_test (nat_lt read.1 (length bytes)) refl e
  where
    by_test : (b : Bool) → nat_lt read.1 (length bytes) ≡ b → cond b (Err (Trailing read.1)) (Ok read.0) ≡ Ok c
        → (length bytes ≤ read.1) × (read.0 ≡ c)
    by_test true h e = absurd cc
    by_test false h e = (grind (arith, nat_tests, h), cc)

-- bytes that are read as a command are its one spelling, and the version may have it
pub command_spelled : (version : ℕ) (bytes : List ℕ) (c : Command) → IsBytes bytes → reading version bytes ≡ Ok c
    → (bytes ≡ spelled c) × FitsCommand c × IsReadIn version c
unfolding reading
command_spelled version bytes c ib e =
    let r = bind_ok (command_at version bytes) (ended bytes) c e in
    let t = ended_found bytes r.0 c r.2 in
    let f = front_spelled version bytes r.0.0 r.0.1 ib r.1 in
    let text : List ℕ = spelled r.0.0 in
    let none : f.stands.rest ≡ [] = nil_from_length f.stands.rest
    (omega (arith, t.0, f.place, ap length f.stands.parts, length-append text f.stands.rest)) in
    let whole : bytes ≡ text = f.stands.parts ∙ ap (λ (l : List ℕ). text ++ l) none ∙ append-nil text in
    subst (λ (d : Command). (bytes ≡ spelled d) × FitsCommand d × IsReadIn version d) t.1 (whole, f.fits, f.few)

-- no spelling begins another
pub command_ends : (a b : Command) (x y : List ℕ) → FitsCommand a → FitsCommand b → spelled a ++ x ≡ spelled b ++ y
    → (a ≡ b) × (x ≡ y)
command_ends a b x y fits_a fits_b e =
    let bytes : List ℕ = spelled a ++ x in
    let read_a = front_again 2 bytes a fits_a (command_known a) (record { rest = x; parts = refl }) in
    let read_b = front_again 2 bytes b fits_b (command_known b) (record { rest = y; parts = e }) in
    let pair = same_ok {X = Command × ℕ} (a, length (spelled a)) (b, length (spelled b)) (sym read_a ∙ read_b) in
    let same : a ≡ b = ap (λ (p : Command × ℕ). p.0) pair in
    let text : List ℕ = spelled b in (
      same,
      sym (drop_at text x (length text) refl)
          ∙ ap (drop (length text)) (ap (λ (c : Command). spelled c ++ x) (sym same) ∙ e)
          ∙ drop_at text y (length text) refl,
    )

-- a spelling has at least and at most so many bytes
pub command_least : (c : Command) → FitsCommand c → 7 ≤ length (spelled c)
unfolding spelled
command_least c fits =
    let first : List ℕ = field_number w8 (said c.op).kind in
    let second : List ℕ = field_number w32 c.now.0 in
    omega (
      arith,
      length-append first (second ++ (said c.op).fields),
      length-append second (said c.op).fields,
      length-field_u8 (said c.op).kind,
      length-field_u32 c.now.0,
      (IsOp-each c.op).least fits.op,
    )

pub command_most : (c : Command) → FitsCommand c → length (spelled c) ≤ 343
unfolding spelled
command_most c fits =
    let first : List ℕ = field_number w8 (said c.op).kind in
    let second : List ℕ = field_number w32 c.now.0 in
    omega (
      arith,
      length-append first (second ++ (said c.op).fields),
      length-append second (said c.op).fields,
      length-field_u8 (said c.op).kind,
      length-field_u32 c.now.0,
      (IsOp-each c.op).most fits.op,
    )
