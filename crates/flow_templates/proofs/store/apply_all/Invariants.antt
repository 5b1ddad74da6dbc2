use Rattle.std.proofs.Common.{◌≡◌, length}
use Rattle.std.specs.Prelude.{reverse}
use Rattle.indexmap.specs.IndexMap.{IsUnique}
use Rattle.flow_templates.specs.contracts.template.DomainPartialEq.TheImpl as domain_equality
use Rattle.flow_templates.specs.declared.template.TemplateKey.{TemplateKey}
use Rattle.flow_templates.specs.Changes.{after_all, found}
use Rattle.flow_templates.specs.Domains.{HaveOneAnId, HaveRoom, entries_of}
use Rattle.flow_templates.proofs.store.apply_all.Given as goal

-- what is left, the last first, leads from here to where all changes lead
abbrev pub invariant-loop-change : goal.invariant-loop-change
invariant-loop-change l = record {
  left : (key : TemplateKey) → after_all (reverse l.rest.items) key (found (entries_of l.domains.entries) key) ≡ after_all l.fn.changes.items key (found (entries_of l.fn.domains.entries) key);
  room : HaveRoom l.domains.entries (length l.rest.items) (reverse l.rest.items);
  one : HaveOneAnId l.fn.domains.entries → HaveOneAnId l.domains.entries;
  unique : IsUnique (domain_equality.eq-value).it l.domains;
}

abbrev pub decreases-loop-change : goal.decreases-loop-change
decreases-loop-change l = length l.rest.items
