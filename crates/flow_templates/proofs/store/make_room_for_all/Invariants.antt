use Rattle.std.proofs.Common.{◌≡◌, length, take}
use Rattle.indexmap.specs.IndexMap.{IsUnique}
use Rattle.flow_templates.specs.contracts.template.DomainPartialEq.TheImpl as domain_equality
use Rattle.flow_templates.specs.Domains.{HaveOneAnId, HaveRoom, entries_of}
use Rattle.flow_templates.proofs.store.make_room_for_all.Given as goal

-- there is room for what the changes put that were seen
abbrev pub invariant-loop-change : goal.invariant-loop-change
invariant-loop-change l = record {
  entries : entries_of l.domains.entries ≡ entries_of l.fn.domains.entries;
  room : HaveRoom l.domains.entries (length l.changes) (take l.change-index l.changes);
  one : HaveOneAnId l.fn.domains.entries → HaveOneAnId l.domains.entries;
  unique : IsUnique (domain_equality.eq-value).it l.domains;
}
