use Rattle.std.proofs.Common.{◌≡◌, ◌∙◌, ◌+◌, ◌++◌, ◌∷◌, [], List, length, length-append, sym, ap, arith}
use Rattle.std.specs.Prelude.{reverse}
use Rattle.std.proofs.lemmas.List.{reverse-append}
use Rattle.std.proofs.lemmas.List.Elements.{All-head, All-tail, All-weaker, All-same}
use Rattle.flow_templates.specs.declared.change.TemplateChange.{TemplateChange}
use Rattle.flow_templates.specs.Changes.{after_all, found}
use Rattle.flow_templates.specs.Domains.{HasRoomFor, entries_of}
use Rattle.flow_templates.proofs.DomainLemmas.{less_room, more_room_for}
use Rattle.flow_templates.proofs.store.apply_all.Goals as goal

pub apply-requires : goal.apply-requires
apply-requires c =
    let old = c.loop-change.domains.entries in
    let count = length c.loop-change.rest.items in
    let items : c.loop-change.rest.items ≡ c.pop.new.self.items ++ c.in-Some.change ∷ [] = c.in-Some.ensures.items in
    let next : reverse c.loop-change.rest.items ≡ c.in-Some.change ∷ reverse c.pop.new.self.items = ap reverse items ∙ reverse-append c.pop.new.self.items (c.in-Some.change ∷ []) in
    let some = ap length items ∙ length-append c.pop.new.self.items (c.in-Some.change ∷ []) in
    more_room_for old old count 1 (λ domain. less_room old domain count 1 (omega (arith, some))) c.in-Some.change
    (All-head (HasRoomFor old count) c.in-Some.change (reverse c.pop.new.self.items) (All-same (HasRoomFor old count) _ _ (sym next) c.loop-change.invariant.room))

pub loop-change-preserved : goal.loop-change-preserved
loop-change-preserved c =
    let old = c.loop-change.domains.entries in
    let new = c.apply.new.domains.entries in
    let left = c.pop.new.self.items in
    let items : c.loop-change.rest.items ≡ left ++ c.in-Some.change ∷ [] = c.in-Some.ensures.items in
    let next : reverse c.loop-change.rest.items ≡ c.in-Some.change ∷ reverse left = ap reverse items ∙ reverse-append left (c.in-Some.change ∷ []) in
    let count : length c.loop-change.rest.items ≡ length left + 1 = ap length items ∙ length-append left (c.in-Some.change ∷ []) in
    record {
      left = λ key.
          ap (after_all (reverse left) key) (c.apply.ensures.changed key)
          ∙ sym (ap (λ (changes : List TemplateChange). after_all changes key (found (entries_of old) key)) next)
          ∙ c.loop-change.invariant.left key;
      room = All-weaker (HasRoomFor old (length c.loop-change.rest.items)) (HasRoomFor new (length left))
          (more_room_for old new (length c.loop-change.rest.items) (length left) (λ domain. rw count (c.apply.ensures.room domain (length left)))) (reverse left)
          (All-tail (HasRoomFor old (length c.loop-change.rest.items)) c.in-Some.change (reverse left) (All-same (HasRoomFor old (length c.loop-change.rest.items)) _ _ (sym next) c.loop-change.invariant.room));
      one = λ h. c.apply.ensures.one (c.loop-change.invariant.one h);
      unique = c.apply.ensures.unique;
    }
