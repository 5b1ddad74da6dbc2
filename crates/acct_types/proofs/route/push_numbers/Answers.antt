use Rattle.std.proofs.Common.{decimal, get_or, refl}
use Rattle.acct_types.specs.Routes.{numbers_text}
use Rattle.acct_types.proofs.RouteLemmas.{all_joined, further_on, nothing_joined}
use Rattle.acct_types.proofs.route.push_numbers.Goals as goal

pub returns-in_default-clause-ok : goal.returns-in_default-clause-ok
unfolding numbers_text
returns-in_default-clause-ok c = nothing_joined decimal c.args.numbers.now c.args.out.now c.in_default.len_below

pub returns-in_err-push_number-2-clause-kept : goal.returns-in_err-push_number-2-clause-kept
returns-in_err-push_number-2-clause-kept c =
    further_on c.args.out.now c.loop-number.out c.push.new.self c.push_number-in-loop-number.new.out _ c.loop-number.invariant.kept c.in_ok-push.ensures.ok
    c.push_number-in-loop-number.ensures.kept

pub returns-clause-ok : goal.returns-clause-ok
unfolding numbers_text
returns-clause-ok c =
    all_joined decimal c.args.numbers.now (get_or c.args.numbers.now 0 0) 0 c.args.out.now c.push_number.new.out c.loop-number.out c.loop-number.number-index
    c.in-len1-up.len_at_least refl c.in_ok-push_number.ensures.ok c.loop-number.invariant.text c.loop-number-test.false
