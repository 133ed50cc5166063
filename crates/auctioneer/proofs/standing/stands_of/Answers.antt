use Rattle.std.proofs.Common.{◌≡◌, ◌++◌, ◌∷◌, [], List, map, take, get_or, sym, ap, subst, ◌∙◌, rules, take_all}
use Rattle.std.specs.List.{All}
use Rattle.std.specs.List.Sorted.{IsPermutation}
use Rattle.std.proofs.lemmas.List.{map-append, take_more}
use Rattle.std.proofs.lemmas.List.Elements.{All-push, All-get_or}
use Rattle.std.proofs.lemmas.List.Sorted.{answers_always}
use Rattle.auctioneer.specs.Asked.{IsSoundStand, IsSoundAnswer}
use Rattle.auctioneer.specs.Stands.{stand_of}
use Rattle.auctioneer.specs.declared.stand.Stand.{Stand}
use Rattle.auctioneer.proofs.Standings.{stands_of-sorted, AreStands-sorted}
use Rattle.auctioneer.proofs.standing.stands_of.Goals as goal

pub loop-answer-preserved : goal.loop-answer-preserved
loop-answer-preserved c = record {
  value =
      let answers = c.args.answers.now in
      let i = c.loop-answer.answer-index in
      let a = c.answer-item.result in
      let one : c.in_ok-stand_of.field-0 ≡ stand_of a = c.in_ok-stand_of.ensures.value in
      c.in_ok-push.ensures.items
      ∙ ap (λ (xs : List Stand). xs ++ c.in_ok-stand_of.field-0 ∷ []) c.loop-answer.invariant.value
      ∙ ap (λ (x : Stand). map stand_of (take i answers) ++ x ∷ []) (one ∙ ap stand_of c.answer-item.is)
      ∙ sym (map-append stand_of (take i answers) (get_or answers i a ∷ []))
      ∙ ap (map stand_of) (sym (take_more answers i a c.loop-answer-test.true));
  sound = subst (All IsSoundStand) (sym c.in_ok-push.ensures.items)
      (All-push IsSoundStand c.loop-answer.stands.items c.in_ok-stand_of.field-0 c.loop-answer.invariant.sound
      c.in_ok-stand_of.ensures.sound);
}

pub stand_of-requires : goal.stand_of-requires
stand_of-requires c =
    subst IsSoundAnswer (sym c.answer-item.is) (All-get_or IsSoundAnswer c.args.answers.now c.loop-answer.answer-index
    c.answer-item.result c.loop-answer-test.true c.requires.each)

pub returns-clause-value : goal.returns-clause-value
returns-clause-value c =
    let answers = c.args.answers.now in
    let made : c.loop-answer.stands.items ≡ map stand_of answers =
    c.loop-answer.invariant.value ∙ ap (map stand_of) (take_all c.loop-answer.answer-index answers
    c.loop-answer-test.false) in
    stands_of-sorted answers c.sort_unstable_by_key.new.self.items c.requires
    (c.sort_unstable_by_key.ensures.sorted (λ (s : Stand). s.cell) (answers_always _ _ _ (λ f a r g h. search rules)))
    (subst (λ xs. IsPermutation xs c.sort_unstable_by_key.new.self.items) made
    c.sort_unstable_by_key.ensures.permutation)

pub returns-clause-sound : goal.returns-clause-sound
returns-clause-sound c =
    let answers = c.args.answers.now in
    let made : c.loop-answer.stands.items ≡ map stand_of answers =
    c.loop-answer.invariant.value ∙ ap (map stand_of) (take_all c.loop-answer.answer-index answers
    c.loop-answer-test.false) in
    AreStands-sorted answers c.sort_unstable_by_key.new.self.items c.requires
    (c.sort_unstable_by_key.ensures.sorted (λ (s : Stand). s.cell) (answers_always _ _ _ (λ f a r g h. search rules)))
    (subst (λ xs. IsPermutation xs c.sort_unstable_by_key.new.self.items) made
    c.sort_unstable_by_key.ensures.permutation)
    (subst (All IsSoundStand) made c.loop-answer.invariant.sound)
