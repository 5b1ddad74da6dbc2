use Rattle.std.proofs.Common.{◌≡◌, ◌≤◌, ◌∙◌, List, length, length-drop, ap, arith}
use Rattle.flow_templates.specs.declared.template.FieldSpec.{FieldSpec}
use Rattle.flow_sets.specs.Fields.{end_of_all, record_length}
use Rattle.flow_sets.specs.Records.{data_said}
use Rattle.flow_sets.specs.Saying.{nothing_said}
use Rattle.flow_sets.proofs.DataLemmas.{begins, ends, is_cut, judged_on}
use Rattle.flow_sets.proofs.SayingLemmas.{said_ok}
use Rattle.flow_sets.proofs.WidthLemmas.{accepted, least_record}
use Rattle.flow_sets.proofs.data.failure_of.Goals as goal

pub loop-rest-init : goal.loop-rest-init
loop-rest-init c = record {
  leads = λ known. (nothing_said, begins c.args.domain.now known c.args.template.now c.args.octets.now nothing_said);
  fits = c.requires.fits;
}

pub returns-in_default : goal.returns-in_default
returns-in_default c known =
    let version = c.args.domain.now.version in
    let rest = c.loop-rest.rest.now in
    let some = (accepted version c.args.template.now c.requires.accepted).some in
    let so = c.loop-rest.invariant.leads known in
    let whole : end_of_all version c.as_slice-fields.result.now rest 0 ≡ record_length version c.args.template.now rest =
    ap (λ (fields : List FieldSpec). end_of_all version fields rest 0) c.as_slice-fields.ensures in
    is_cut c.args.domain.now known c.args.template.now c.args.octets.now nothing_said rest so.0 so.1 some
    (omega (arith, c.least_length-least.ensures, c.loop-rest-test.true)) (omega (arith, whole, c.in_default.ensures))

pub loop-rest-smaller : goal.loop-rest-smaller
loop-rest-smaller c =
    let version = c.args.domain.now.version in
    let rest = c.loop-rest.rest.now in
    let some = (accepted version c.args.template.now c.requires.accepted).some in
    let whole : end_of_all version c.as_slice-fields.result.now rest 0 ≡ record_length version c.args.template.now rest =
    ap (λ (fields : List FieldSpec). end_of_all version fields rest 0) c.as_slice-fields.ensures in
    let is : c.in-Some.used ≡ end_of_all version c.as_slice-fields.result.now rest 0 = c.in-Some.ensures.0 in
    omega (arith, some, whole, is, least_record version c.args.template.now.fields rest 0, c.in-Some.ensures.1, ap length c.after-rest.ensures, length-drop c.in-Some.used rest)

pub loop-rest-preserved : goal.loop-rest-preserved
loop-rest-preserved c =
    let version = c.args.domain.now.version in
    let rest = c.loop-rest.rest.now in
    let some = (accepted version c.args.template.now c.requires.accepted).some in
    let whole : end_of_all version c.as_slice-fields.result.now rest 0 ≡ record_length version c.args.template.now rest =
    ap (λ (fields : List FieldSpec). end_of_all version fields rest 0) c.as_slice-fields.ensures in
    let is : c.in-Some.used ≡ record_length version c.args.template.now rest = c.in-Some.ensures.0 ∙ whole in
    let long : 1 ≤ c.in-Some.used = omega (arith, some, is, least_record version c.args.template.now.fields rest 0) in
    record {
      leads = λ known.
          let so = c.loop-rest.invariant.leads known in
          judged_on c.args.domain.now known c.args.template.now c.args.octets.now rest c.after-rest.result.now so.0 c.in-Some.used so.1 some
          (omega (arith, c.least_length-least.ensures, c.loop-rest-test.true)) is c.in-Some.ensures.1 long c.after-rest.ensures;
      fits = omega (arith, ap length c.after-rest.ensures, length-drop c.in-Some.used rest, c.loop-rest.invariant.fits);
    }

pub returns : goal.returns
returns c known =
    let so = c.loop-rest.invariant.leads known in
    said_ok (data_said c.args.domain.now known c.args.template.now c.args.octets.now) so.0
    (ends c.args.domain.now known c.args.template.now c.args.octets.now nothing_said c.loop-rest.rest.now so.0 so.1 (omega (arith, c.least_length-least.ensures, c.loop-rest-test.false)))
