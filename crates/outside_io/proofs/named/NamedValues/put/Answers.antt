use Rattle.std.proofs.Common.{◌<◌, ◌≤◌, length, arith, ap, set, get_or, ◌∙◌, ◌++◌, ◌∷◌, []}
use Rattle.outside_io.proofs.NamedLemmas.{PutsNamed-set, PutsNamed-push}
use Rattle.outside_io.proofs.named.NamedValues.put.Goals as goal

pub returns-then-place-len-clause-ok : goal.returns-then-place-len-clause-ok
returns-then-place-len-clause-ok g c =
    let item = c.index_mut.result.now in
    let place = c.place-place.result in
    let within : place < length c.args.self.now = omega (arith, ap length c.self.view_is) in
    PutsNamed-set c.args.self.now _ item c.args.name.now c.args.value place c.place-place.ensures within
    (c.index_mut.ensures.value ∙ ap (λ items. get_or items place item) c.self.view_is)
    (ap (λ items. set items place (record item { value = c.args.value })) c.self.view_is)

pub returns-in_ok-push-clause-ok : goal.returns-in_ok-push-clause-ok
returns-in_ok-push-clause-ok g c =
    let past : length c.args.self.now ≤ c.place-place.result = omega (arith, ap length c.self.view_is) in
    PutsNamed-push c.args.self.now _ c.in_ok-name.name c.args.name.now c.args.value c.in_ok-name.ensures (omega (arith, c.place-place.ensures))
    (c.in_ok-push.ensures.items ∙ ap (λ items. items ++ record { name = c.in_ok-name.name; value = c.args.value } ∷ []) c.self.view_is)
