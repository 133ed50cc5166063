use Rattle.std.proofs.Common.{◌≡◌, ℕ, List, [], filter, Option, Some, ap, ◌∙◌}
use Rattle.std.specs.Option.{option_eq}
use Rattle.std.proofs.lemmas.List.Elements.{filter_agree}
use Rattle.diego_names.specs.declared.key.Key.{Key}
use Rattle.auctioneer.specs.Stands.{same_name}
use Rattle.what_if.specs.Baselines.{cells_in, does_hold}
use Rattle.what_if.specs.Holders.{found, IsHolders}
use Rattle.what_if.specs.Stays.{holder_in, stays}
use Rattle.what_if.specs.declared.site.Stay.{Stay}
use Rattle.what_if.specs.declared.site.Wanted.{Wanted}
use Rattle.what_if.proofs.Holding.{waits-by_holders}
use Rattle.what_if.proofs.baseline.baseline_of.Goals as goal

pub returns-clause-sound : goal.returns-clause-sound
returns-clause-sound c =
    let site = c.args.site.now in
    let holders = c.in_ok-before.before in
    let holds : IsHolders (stays site []) holders =
    λ key. c.in_ok-before.ensures key ∙ ap (λ (ss : List Stay). holder_in ss key) (c.deref.ensures.value
    ∙ c.in_ok-list.ensures) in
    record {
      sound = c.requires;
      before = holds;
      waiting = c.in_ok-waiting.ensures ∙ waits-by_holders site [] holders holds;
      cells = λ key.
          c.in_ok-cells.ensures key ∙ ap (λ (ss : List Stay). cells_in ss key) (c.deref-2.ensures.value
          ∙ c.in_ok-list.ensures);
      held = λ cell.
          c.in_ok-held.ensures cell
          ∙ ap (filter (λ (w : Wanted). option_eq same_name (found holders w.key) (Some cell))) c.items.ensures
          ∙ filter_agree (λ (w : Wanted). option_eq same_name (found holders w.key) (Some cell)) (does_hold site cell)
          (λ w. ap (λ (o : Option (List ℕ)). option_eq same_name o (Some cell)) (holds w.key)) site.wanted;
    }
