-- What a caller alone did to a board.
use Rattle.std.specs.Prelude.{◌≡◌, ◌≢◌, ◌==◌, ℕ, List, [], ◌++◌, Option, refl}
use Rattle.std.proofs.Common.{sym, ◌∙◌, ap}
use Rattle.std.proofs.lemmas.List.Elements.{filter-append}
use Rattle.disk_trait.specs.Past.{Past}
use Rattle.bbs_model.specs.Calls.{by_of, by_number}
use Rattle.bbs_model.specs.PortView.{PortView}
use Rattle.bbs_model.specs.declared.item.Item.{Item}
use Rattle.bbs_board.specs.View.{View}
use Rattle.board_port.specs.Further.{goes_further, goes_nowhere}
use Rattle.board_port.specs.Going.{BoardGoesOn}

-- what its one caller has seen of a board: all of the log
abbrev pub seen_of : {D : Type 0} → ℕ → View D → PortView
seen_of by v = record { base = v.base; seen = v.log; mine = by_number by v.log }

-- the caller is the same and so is the reference to the board, which went on by more items, of this caller alone
pub record Went {D : Type 0} (told : D → Option Past) (by by' name name' : ℕ) (v w : View D) : Type 0 where
  pub by_is : by' ≡ by
  pub name_is : name' ≡ name
  pub more : List Item
  pub goes : BoardGoesOn told more v w
  pub own : by_number by more ≡ more
  pub others : (n : ℕ) → n ≢ by → by_number n more ≡ []

pub went_same : {D : Type 0} (told : D → Option Past) (by name : ℕ) (v : View D) → Went told by by name name v v
went_same told by name v = record {
  by_is = refl;
  name_is = refl;
  more = [];
  goes = goes_nowhere told v;
  own = refl;
  others = λ n ne. refl;
}

pub went_on : {D : Type 0} (told : D → Option Past) (by by' by'' name name' name'' : ℕ) (u v w : View D)
    → Went told by by' name name' u v → Went told by' by'' name' name'' v w → Went told by by'' name name'' u w
went_on told by by' by'' name name' name'' u v w f g = record {
  by_is = g.by_is ∙ f.by_is;
  name_is = g.name_is ∙ f.name_is;
  more = f.more ++ g.more;
  goes = goes_further told u v w f.more g.more f.goes g.goes;
  own = of_both by ∙ ap (λ (xs : List Item). xs ++ by_number by g.more) f.own
      ∙ ap (λ (xs : List Item). f.more ++ xs) (ap (λ (n : ℕ). by_number n g.more) (sym f.by_is) ∙ g.own);
  others = λ n ne. of_both n ∙ ap (λ (xs : List Item). xs ++ by_number n g.more) (f.others n ne)
      ∙ g.others n (λ is. ne (is ∙ f.by_is));
}
  where
    of_both : (n : ℕ) → by_number n (f.more ++ g.more) ≡ by_number n f.more ++ by_number n g.more
    of_both n = filter-append (λ (i : Item). by_of i == n) f.more g.more
