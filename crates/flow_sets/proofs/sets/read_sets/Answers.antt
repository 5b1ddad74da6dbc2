use Rattle.std.proofs.Common.{◌≡◌, ◌∙◌, ℕ, drop, length, length-drop, ap, subst, arith}
use Rattle.std.specs.Prelude.{Result, Ok}
use Rattle.flow_templates.specs.declared.refusal.Cause.{Cause}
use Rattle.flow_templates.specs.Decoding.{FailsAs, Said}
use Rattle.flow_templates.specs.Known.{known_after, known_in}
use Rattle.flow_sets.specs.Saying.{behind, so_far}
use Rattle.flow_sets.proofs.JoinLemmas.{front_more, no_front, some_accepted}
use Rattle.flow_sets.proofs.SetLemmas.{begins_empty, wanted_ok, begins, goes_on, is_refused, same_front}
use Rattle.flow_sets.proofs.sets.read_sets.Goals as goal

pub loop-rest-init : goal.loop-rest-init
loop-rest-init c =
    let none = ap length c.new.ensures in
    record {
      leads = begins c.args.domain.now (known_in c.args.stores.now) c.args.octets.now _ c.args.staged.now c.new.ensures c.new-2.ensures c.requires.unstaged;
      front = no_front c.args.domain.now (known_in c.args.stores.now) c.args.octets.now _ (begins_empty _ c.args.staged.now c.new.ensures c.new-2.ensures c.requires.unstaged);
      few = omega (arith, none);
      counts = λ k d h. absurd (omega (arith, none, h));
      fits = c.requires.fits;
      number = omega (arith, c.requires.fits);
    }

pub returns-in-Err-clause-answer : goal.returns-in-Err-clause-answer
returns-in-Err-clause-answer c =
    let known = known_after (known_in c.args.stores.now) c.loop-rest.staged in
    let size = c.from-length.ensures ∙ c.u16_at.ensures in
    is_refused c.args.domain.now (known_in c.args.stores.now) c.args.octets.now c.loop-rest.number c.loop-rest.rest.now (so_far c.loop-rest.decoded c.loop-rest.staged) c.in-Err.undecodable
    c.loop-rest.invariant.leads c.if-rest-lt4.false (omega (arith, size, c.if-length-lt4.false)) (omega (arith, size, c.if-rest-length.false))
    (subst (λ (said : Result Said Cause). FailsAs c.in-Err.undecodable said)
    (same_front c.args.domain.now known c.loop-rest.number c.u16_at-id.result c.from-length.result c.loop-rest.rest.now c.between-content.result.now c.u16_at-id.ensures size c.between-content.ensures.content)
    c.in-Err.ensures.answer)

pub returns-in-Err-clause-memory : goal.returns-in-Err-clause-memory
returns-in-Err-clause-memory c wants =
    let known = known_after (known_in c.args.stores.now) c.loop-rest.staged in
    let size = c.from-length.ensures ∙ c.u16_at.ensures in
    let fails = subst (λ (said : Result Said Cause). FailsAs c.in-Err.undecodable said)
    (same_front c.args.domain.now known c.loop-rest.number c.u16_at-id.result c.from-length.result c.loop-rest.rest.now c.between-content.result.now c.u16_at-id.ensures size c.between-content.ensures.content)
    c.in-Err.ensures.answer in
    some_accepted c.args.domain.now (known_in c.args.stores.now) c.args.octets.now c.loop-rest.number c.loop-rest.rest.now (so_far c.loop-rest.decoded c.loop-rest.staged)
    c.loop-rest.invariant.front c.if-rest-lt4.false (omega (arith, size, c.if-length-lt4.false)) (omega (arith, size, c.if-rest-length.false))
    (wanted_ok c.in-Err.undecodable _ wants fails)

pub loop-rest-preserved : goal.loop-rest-preserved
loop-rest-preserved c =
    let kept = c.loop-rest.invariant in
    let known = known_after (known_in c.args.stores.now) c.loop-rest.staged in
    let size = c.from-length.ensures ∙ c.u16_at.ensures in
    let next = c.after-rest.ensures ∙ ap (λ (n : ℕ). drop n c.loop-rest.rest.now) size in
    let left = ap length c.after-rest.ensures in
    let dropped = length-drop c.from-length.result c.loop-rest.rest.now in
    let content = c.between-content.ensures.length in
    let more = c.in-Ok.ensures.few in
    record {
      leads = goes_on c.args.domain.now (known_in c.args.stores.now) c.args.octets.now c.loop-rest.number c.loop-rest.rest.now c.after-rest.result.now
          (so_far c.loop-rest.decoded c.loop-rest.staged) (so_far c.read_set.new.decoded c.read_set.new.staged) kept.leads c.if-rest-lt4.false
          (omega (arith, size, c.if-length-lt4.false)) (omega (arith, size, c.if-rest-length.false))
          (subst (λ (said : Result Said Cause). behind (so_far c.loop-rest.decoded c.loop-rest.staged) said ≡ Ok (so_far c.read_set.new.decoded c.read_set.new.staged))
          (same_front c.args.domain.now known c.loop-rest.number c.u16_at-id.result c.from-length.result c.loop-rest.rest.now c.between-content.result.now c.u16_at-id.ensures size c.between-content.ensures.content)
          c.in-Ok.ensures.answer)
          next;
      front = front_more c.args.domain.now (known_in c.args.stores.now) c.args.octets.now c.loop-rest.number c.loop-rest.rest.now c.after-rest.result.now
          (so_far c.loop-rest.decoded c.loop-rest.staged) (so_far c.read_set.new.decoded c.read_set.new.staged) kept.front c.if-rest-lt4.false
          (omega (arith, size, c.if-length-lt4.false)) (omega (arith, size, c.if-rest-length.false))
          (subst (λ (said : Result Said Cause). behind (so_far c.loop-rest.decoded c.loop-rest.staged) said ≡ Ok (so_far c.read_set.new.decoded c.read_set.new.staged))
          (same_front c.args.domain.now known c.loop-rest.number c.u16_at-id.result c.from-length.result c.loop-rest.rest.now c.between-content.result.now c.u16_at-id.ensures size c.between-content.ensures.content)
          c.in-Ok.ensures.answer)
          next;
      few = omega (arith, more, content, left, dropped, kept.few, c.if-length-lt4.false, c.if-rest-length.false);
      counts = c.in-Ok.ensures.counts;
      fits = omega (arith, left, dropped, kept.fits);
      number = omega (arith, left, dropped, kept.number, c.if-length-lt4.false, c.if-rest-length.false);
    }
