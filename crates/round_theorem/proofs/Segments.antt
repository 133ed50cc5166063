-- Parts of a round one after another, and what was seen at their places.
use Rattle.std.proofs.Common.{◌≡◌, ℕ, ◌+◌, ◌≤◌, List, [], ◌∷◌, ◌++◌, length, take, drop, map, refl, sym, ap, subst, ◌∙◌, arith, append_assoc, length-append}
use Rattle.std.proofs.lemmas.List.{append-nil, map-append}
use Rattle.bbs_model.specs.PortView.{PortView, rows_seen, Looks, IsLater, IsQuiet}
use Rattle.bbs_model.specs.Replay.{replay_log}
use Rattle.bbs_model.specs.Runs.{if_legal, state_after, state_after_all, legal_ones}
use Rattle.bbs_model.specs.Step.{verdict_of}
use Rattle.bbs_model.specs.declared.command.Command.{Command}
use Rattle.bbs_model.specs.declared.rows.Rows.{Rows}
use Rattle.bbs_model.specs.declared.verdict.BoardRefusal.{BoardRefusal}
use Rattle.bbs_model.specs.declared.verdict.Verdict.{Verdict}
use Rattle.bbs_model.specs.declared.verdict.Verdict.TheVariants as verdict
use Rattle.bbs_model.proofs.Public.{later_looks, later_then, quiet_first, quiet_second, quiet_looks}
use Rattle.converge_round.specs.Each.{Each}
use Rattle.round_theorem.specs.Alone.{rows_then, items_of, refusal_by, refused_of}
use Rattle.round_theorem.proofs.Had.{Had, IsHad, AreTurns, AreCountedIn, later-had, turns-had, counted-had, done_by}

take_front : {X : Type 0} (xs ys : List X) → take (length xs) (xs ++ ys) ≡ xs
take_front [] ys = refl
take_front (x ∷ xs) ys = ap (λ zs. x ∷ zs) (take_front xs ys)

drop_front : {X : Type 0} (xs ys : List X) → drop (length xs) (xs ++ ys) ≡ ys
drop_front [] ys = refl
drop_front (x ∷ xs) ys = drop_front xs ys

-- the rows at the place of an earlier look
pub then-seen : (v z : PortView) → IsLater v z → rows_then z (length v.seen) ≡ rows_seen v
then-seen v z later =
    ap (λ (b : Rows). replay_log b (take (length v.seen) z.seen)) later.base
    ∙ ap (replay_log v.base) (ap (take (length v.seen)) later.seen.1 ∙ take_front v.seen later.seen.0)

-- what came after it
pub after-seen : (v z : PortView) (later : IsLater v z) → drop (length v.seen) z.seen ≡ later.seen.0
after-seen v z later = ap (drop (length v.seen)) later.seen.1 ∙ drop_front v.seen later.seen.0

pub seen-grows : (v z : PortView) → IsLater v z → length v.seen ≤ length z.seen
seen-grows v z later = omega (arith, ap length later.seen.1, length-append v.seen later.seen.0)

legal_split : (c : Command) (xs ys : List Command) (x : Verdict)
    → if_legal x (c ∷ (xs ++ ys)) (xs ++ ys) ≡ if_legal x (c ∷ xs) xs ++ ys
legal_split c xs ys verdict.Ok = refl
legal_split c xs ys verdict.Same = refl
legal_split c xs ys (verdict.Refused why) = refl

legal_append : (rows : Rows) (xs ys : List Command) → legal_ones rows (xs ++ ys) ≡ legal_ones rows xs
    ++ legal_ones (state_after_all rows xs) ys
legal_append rows [] ys = refl
legal_append rows (c ∷ xs) ys =
    ap (λ zs. if_legal (verdict_of rows c) (c ∷ zs) zs) (legal_append (state_after rows c) xs ys)
    ∙ legal_split c (legal_ones (state_after rows c) xs) (legal_ones (state_after_all (state_after rows c) xs) ys)
    (verdict_of rows c)

pub after_append : (rows : Rows) (xs ys : List Command)
    → state_after_all rows (xs ++ ys) ≡ state_after_all (state_after_all rows xs) ys
after_append rows [] ys = refl
after_append rows (c ∷ xs) ys = after_append (state_after rows c) xs ys

items_append : (by : ℕ) (rows : Rows) (xs ys : List Command)
    → items_of by rows (xs ++ ys) ≡ items_of by rows xs ++ items_of by (state_after_all rows xs) ys
items_append by rows xs ys = ap (map (done_by by)) (legal_append rows xs ys) ∙ map-append (done_by by)
    (legal_ones rows xs) (legal_ones (state_after_all rows xs) ys)

pub refused_append : (rows : Rows) (xs ys : List Command)
    → refused_of rows (xs ++ ys) ≡ refused_of rows xs ++ refused_of (state_after_all rows xs) ys
refused_append rows [] ys = refl
refused_append rows (c ∷ xs) ys =
    ap (λ zs. refusal_by c (verdict_of rows c) ++ zs) (refused_append (state_after rows c) xs ys)
    ∙ sym (append_assoc (refusal_by c (verdict_of rows c)) (refused_of (state_after rows c) xs)
    (refused_of (state_after_all (state_after rows c) xs) ys))

-- a part of a round in which these commands are called
pub record IsPart (by : ℕ) (cs : List Command) (s s' : Had) : Type 0 where
  pub later : IsLater s.view s'.view
  pub counted : s.own ≤ length s.view.seen → AreCountedIn s s'
  pub turns : IsQuiet s.view s'.view → AreTurns by cs s s'

abbrev pub had_at : PortView → ℕ → List (Command × BoardRefusal) → Had
had_at view own refused = record { view = view; own = own; refused = refused }

pub part-looks : (by : ℕ) (v w : PortView) (own : ℕ) (refused : List (Command × BoardRefusal)) → Looks v w
    → IsPart by [] (had_at v own refused) (had_at w own refused)
part-looks by v w own refused h = record {
  later = later_looks v w h;
  counted = λ few.
      let seen : length w.seen ≡ length v.seen + length h.others =
      ap (λ (x : PortView). length x.seen) h.is ∙ length-append v.seen h.others in
      record { own = omega (arith, ap (λ (x : PortView). length x.mine) h.is); few = omega (arith, few, seen) };
  turns = λ q.
      let seen : w.seen ≡ v.seen = ap (λ (x : PortView). x.seen) h.is ∙ ap (λ xs. v.seen ++ xs)
      (quiet_looks v w h q) ∙ append-nil v.seen in
      record {
        items = seen ∙ sym (append-nil v.seen);
        refused = sym (append-nil refused);
        rows_are = ap (λ (b : Rows). replay_log b w.seen) (ap (λ (x : PortView). x.base) h.is) ∙ ap
            (replay_log v.base) seen;
      };
}

pub part-each : (by : ℕ) (cs : List Command) (s s' : Had) → Each (IsHad by) cs s s' → IsPart by cs s s'
part-each by cs s s' f = record {
  later = later-had by cs s s' f;
  counted = counted-had by cs s s' f;
  turns =
      turns-had by cs s s' f;
}

turns_then : (by : ℕ) (xs ys : List Command) (a b c : Had) → AreTurns by xs a b → AreTurns by ys b c
    → AreTurns by (xs ++ ys) a c
turns_then by xs ys a b c f g =
    let rows : Rows = rows_seen a.view in
    record {
      items = g.items ∙ ap (λ (x : Rows). b.view.seen ++ items_of by x ys) f.rows_are ∙ ap
          (λ zs. zs ++ items_of by (state_after_all rows xs) ys) f.items
          ∙ append_assoc a.view.seen (items_of by rows xs) (items_of by (state_after_all rows xs) ys) ∙ ap
          (λ zs. a.view.seen ++ zs) (sym (items_append by rows xs ys));
      refused = g.refused ∙ ap (λ (x : Rows). b.refused ++ refused_of x ys) f.rows_are ∙ ap
          (λ zs. zs ++ refused_of (state_after_all rows xs) ys) f.refused
          ∙ append_assoc a.refused (refused_of rows xs) (refused_of (state_after_all rows xs) ys) ∙ ap
          (λ zs. a.refused ++ zs) (sym (refused_append rows xs ys));
      rows_are = g.rows_are ∙ ap (λ (x : Rows). state_after_all x ys) f.rows_are ∙ sym (after_append rows xs ys);
    }

pub part-then : (by : ℕ) (xs ys : List Command) (a b c : Had) → IsPart by xs a b → IsPart by ys b c
    → IsPart by (xs ++ ys) a c
part-then by xs ys a b c f g = record {
  later = later_then a.view b.view c.view f.later g.later;
  counted = λ few.
      let one = f.counted few in
      let two = g.counted one.few in
      record { own = omega (arith, one.own, two.own); few = two.few };
  turns = λ q. turns_then by xs ys a b c (f.turns (quiet_first a.view b.view c.view f.later g.later q))
      (g.turns (quiet_second a.view b.view c.view f.later g.later q));
}

-- a part in which nothing is called adds no command
pub part-end : (by : ℕ) (xs : List Command) (a b c : Had) → IsPart by xs a b → IsPart by [] b c → IsPart by xs a c
part-end by xs a b c f g = subst (λ zs. IsPart by zs a c) (append-nil xs) (part-then by xs [] a b c f g)
