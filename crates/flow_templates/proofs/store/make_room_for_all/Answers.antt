use Rattle.std.proofs.Common.{◌∙◌, ◌+◌, length, take, take_all, sym, ap, subst}
use Rattle.std.proofs.lemmas.List.Elements.{All-more, All-same, All-weaker}
use Rattle.indexmap.specs.IndexMap.{IsUnique}
use Rattle.flow_templates.specs.contracts.template.DomainPartialEq.TheImpl as domain_equality
use Rattle.flow_templates.specs.Domains.{HasRoomFor, HaveOneAnId, HaveRoom, entries_of}
use Rattle.flow_templates.proofs.DomainLemmas.{more_room_for, room_for_none}
use Rattle.flow_templates.proofs.store.make_room_for_all.Goals as goal
use Rattle.flow_templates.proofs.store.make_room_for_all.Goals.{in-Put+in_ok-make_room, in_default}

pub loop-change-preserved : goal.loop-change-preserved
loop-change-preserved c =
    let changes = c.args.changes.now in
    let count = length changes in
    let at = c.loop-change.change-index in
    let old = c.loop-change.domains.entries in
    elim c.match-change.branch [
      | in-Put+in_ok-make_room w ↦
          (let new = w.make_room.new.domains.entries in
          record {
            entries = ap (λ m. entries_of m.entries) w.domains-is ∙ w.make_room.ensures.entries ∙ c.loop-change.invariant.entries;
            room = subst (λ m. HaveRoom m.entries count (take (at + 1) changes)) (sym w.domains-is)
                (All-more (HasRoomFor new count) changes at c.change-item.result c.loop-change-test.true
                (All-weaker (HasRoomFor old count) (HasRoomFor new count) (more_room_for old new count count (λ domain. w.make_room.ensures.room domain count)) (take at changes) c.loop-change.invariant.room)
                (subst (HasRoomFor new count) (sym w.in-Put.is ∙ c.change-item.is) w.in_ok-make_room.ensures.ok));
            one = λ h. subst (λ m. HaveOneAnId m.entries) (sym w.domains-is) (w.make_room.ensures.one (c.loop-change.invariant.one h));
            unique = subst (λ m. IsUnique (domain_equality.eq-value).it m) (sym w.domains-is) w.make_room.ensures.unique;
          })
      | in_default w ↦ record {
        entries = ap (λ m. entries_of m.entries) w.domains-is ∙ c.loop-change.invariant.entries;
        room = subst (λ m. HaveRoom m.entries count (take (at + 1) changes)) (sym w.domains-is)
            (All-more (HasRoomFor old count) changes at c.change-item.result c.loop-change-test.true c.loop-change.invariant.room
            (subst (HasRoomFor old count) c.change-item.is (room_for_none old count c.change-item.result w.in_default.not-Put)));
        one = λ h. subst (λ m. HaveOneAnId m.entries) (sym w.domains-is) (c.loop-change.invariant.one h);
        unique = subst (λ m. IsUnique (domain_equality.eq-value).it m) (sym w.domains-is) c.loop-change.invariant.unique;
      }
    ]

pub returns-clause-ok : goal.returns-clause-ok
returns-clause-ok c =
    All-same (HasRoomFor c.loop-change.domains.entries (length c.args.changes.now)) c.args.changes.now (take c.loop-change.change-index c.args.changes.now)
    (sym (take_all c.loop-change.change-index c.args.changes.now c.loop-change-test.false)) c.loop-change.invariant.room
