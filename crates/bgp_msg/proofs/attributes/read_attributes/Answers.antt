use Rattle.std.proofs.Common.{◌<◌, ◌∙◌, [], ap, arith, length, length-drop, refl, sym}
use Rattle.std.proofs.lemmas.List.{length-set}
use Rattle.bgp_msg.specs.Attributes.{attribute_size}
use Rattle.bgp_msg.specs.Pieces.{pieces}
use Rattle.bgp_msg.proofs.AttributeLemmas.{formed, leads_begin, leads_end, leads_found, leads_next}
use Rattle.bgp_msg.proofs.FormLemmas.{have_forms}
use Rattle.bgp_msg.proofs.ValueLemmas.{keeps_begin, keeps_end, keeps_next}
use Rattle.bgp_msg.proofs.attributes.read_attributes.Goals as goal

pub loop-rest-init : goal.loop-rest-init
loop-rest-init c = record {
  leads = leads_begin c.args.agreed c.args.start c.args.octets.now;
  keeps = keeps_begin c.none-values.result (pieces attribute_size c.args.octets.now) c.none-values.ensures;
  few = c.requires;
  all = refl;
}

pub returns-in-Some-clause-fault : goal.returns-in-Some-clause-fault
returns-in-Some-clause-fault c =
    let kind = c.from-kind.ensures ∙ c.type_of.ensures in
    let within : c.from-kind.result < 256 = omega (arith, c.from-kind.ensures, c.type_of.type_inv) in
    rw c.fault.ensures (sym (leads_found c.args.agreed c.args.start c.attribute_size-size.result c.from-kind.result c.in-Some.subcode c.args.octets.now c.loop-rest.rest.now c.front-attribute.result.now
    c.loop-rest.seen c.loop-rest.place c.loop-rest.invariant.leads kind within c.loop-rest-test.ensures c.attribute_size-size.ensures.size c.front-attribute.ensures.piece c.in-Some.ensures))

pub loop-rest-preserved : goal.loop-rest-preserved
loop-rest-preserved c =
    let kind = c.from-kind.ensures ∙ c.type_of.ensures in
    let within : c.from-kind.result < 256 = omega (arith, c.from-kind.ensures, c.type_of.type_inv) in
    let left = ap length c.behind-rest.ensures.rest in
    let dropped = length-drop c.attribute_size-size.result c.loop-rest.rest.now in
    record {
      leads = leads_next c.args.agreed c.args.start c.attribute_size-size.result c.from-kind.result c.args.octets.now c.loop-rest.rest.now c.front-attribute.result.now c.behind-rest.result.now
          c.loop-rest.seen c.loop-rest.place c.loop-rest.invariant.leads c.loop-rest.invariant.all kind within c.loop-rest-test.ensures c.attribute_size-size.ensures.size
          c.front-attribute.ensures.piece c.behind-rest.ensures.rest (λ before again. sym (c.attribute_fault.ensures before again) ∙ c.in_default.is);
      keeps = keeps_next c.attribute_size-size.result c.loop-rest.values c.keep.new.self c.loop-rest.rest.now c.front-attribute.result.now c.behind-rest.result.now _
          c.loop-rest-test.ensures c.attribute_size-size.ensures.size c.front-attribute.ensures.piece c.behind-rest.ensures.rest c.keep.ensures c.loop-rest.invariant.keeps;
      few = omega (arith, c.loop-rest.invariant.few, c.front-attribute.ensures.length, left, dropped);
      all = length-set c.loop-rest.seen c.from-kind.result _ ∙ c.loop-rest.invariant.all;
    }

pub returns : goal.returns
returns c =
    let attributes = pieces attribute_size c.args.octets.now in
    let good = sym (leads_end c.args.agreed c.args.start c.args.octets.now c.loop-rest.rest.now c.loop-rest.seen c.loop-rest.place c.loop-rest.invariant.leads c.loop-rest-test.ensures) in
    let kept = keeps_end c.loop-rest.values c.loop-rest.rest.now attributes c.loop-rest-test.ensures c.loop-rest.invariant.keeps in
    record {
      good = good;
      values = kept;
      forms = have_forms c.args.agreed attributes c.loop-rest.values (formed c.args.agreed [] c.args.start attributes good) kept;
      fault = tt;
    }
