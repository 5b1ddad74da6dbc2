use Rattle.std.proofs.Common.{sym, subst}
use Rattle.flow_templates.specs.Changes.{AreDefined}
use Rattle.flow_templates.specs.Domains.{entries_of}
use Rattle.flow_templates.proofs.DomainLemmas.{apart_by}
use Rattle.flow_templates.proofs.StoreLemmas.{all_stay_defined}
use Rattle.flow_templates.proofs.store.TemplateStore.change.Goals as goal

pub invariant_of-self-2 : goal.invariant_of-self-2
invariant_of-self-2 c = record {
  apart = apart_by c.apply_all.new.domains.entries c.apply_all.ensures.unique;
  one = c.apply_all.ensures.one (c.make_room_for_all.ensures.one c.self.invariant.one);
  defined = all_stay_defined (entries_of c.make_room_for_all.new.domains.entries) (entries_of c.apply_all.new.domains.entries) c.args.changes.items c.requires c.apply_all.ensures.changed
      (subst AreDefined (sym c.make_room_for_all.ensures.entries) c.self.invariant.defined);
}
