use Rattle.std.proofs.Common.{◌≡◌, ◌∙◌, ◌-◌, ◌^◌, ◌++◌, ◌∷◌, [], List, ℕ, arith, ap, append_assoc, append-nil, length, subst, sym}
use Rattle.std.proofs.lemmas.List.{nil_from_length}
use Rattle.std.specs.Vec.Iter.{into_iter_items}
use Rattle.acct_types.specs.declared.item.Item.{Item}
use Rattle.collect_core.specs.Given.{Take}
use Rattle.collect_core.specs.Loads.{given_to}
use Rattle.collect_core.proofs.GivenLemmas.{room_for_one, take_more}
use Rattle.collect_core.proofs.give.give_loads.Goals as goal

pub give_load-requires : goal.give_load-requires
give_load-requires g c =
    let at = c.loop-number in
    let load : ℕ × Item = (c.in-Some.number, c.in-Some.item) in
    let first : into_iter_items at.number-iterator ≡ load ∷ into_iter_items c.next.new.self = c.in-Some.ensures.steps.0 in
    record {
      room = λ d here. room_for_one c.args.plugins.now at.plugins c.args.loads at.yielded (into_iter_items c.next.new.self) load (2 ^ 32 - 1) d c.requires.room at.invariant.given
          (append_assoc at.yielded (load ∷ []) (into_iter_items c.next.new.self) ∙ ap (λ (rest : List (ℕ × Item)). at.yielded ++ rest) (sym first) ∙ at.invariant.all) here;
    }

pub loop-number-preserved : goal.loop-number-preserved
loop-number-preserved g c =
    let at = c.loop-number in
    let load : ℕ × Item = (c.in-Some.number, c.in-Some.item) in
    let first : into_iter_items at.number-iterator ≡ load ∷ into_iter_items c.next.new.self = c.in-Some.ensures.steps.0 in
    let gone = c.in-Some.ensures.steps.1 in
    record {
      all = append_assoc at.yielded (load ∷ []) (into_iter_items c.next.new.self) ∙ ap (λ (rest : List (ℕ × Item)). at.yielded ++ rest) (sym first) ∙ at.invariant.all;
      left = omega (arith, at.invariant.left, gone, ap length first);
      given = take_more c.args.plugins.now at.plugins c.give_load.new.plugins at.yielded load at.invariant.given c.give_load.ensures;
    }

pub returns : goal.returns
returns g c =
    let at = c.loop-number in
    let none : into_iter_items at.number-iterator ≡ [] = nil_from_length (into_iter_items at.number-iterator) (sym at.invariant.left ∙ c.in-None.ensures.steps.0) in
    let all : at.yielded ≡ c.args.loads = sym (append-nil at.yielded) ∙ ap (λ (rest : List (ℕ × Item)). at.yielded ++ rest) (sym none) ∙ at.invariant.all in
    subst (λ (loads : List (ℕ × Item)). Take c.args.plugins.now at.plugins (λ place. given_to place loads)) all at.invariant.given
