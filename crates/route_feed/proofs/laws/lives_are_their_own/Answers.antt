use Rattle.std.proofs.Common.{◌∙◌, ap}
use Rattle.acct_types.specs.declared.route_event.Act.{Act}
use Rattle.route_feed.specs.Lives.{life_of}
use Rattle.route_feed.specs.Steps.{life_after}
use Rattle.route_feed.specs.Told.{unexpired}
use Rattle.route_feed.proofs.LifeLemmas.{of_others, of_session}
use Rattle.route_feed.proofs.laws.lives_are_their_own.Goals as goal

pub returns : goal.returns
returns c = record {
  others = of_others;
  up = λ local address event earlier mine is. of_session local address event earlier mine
      ∙ ap (λ (act : Act). life_after event.moment act (unexpired local event.moment (life_of local earlier address))) is;
  down = λ local address event earlier mine is. of_session local address event earlier mine
      ∙ ap (λ (act : Act). life_after event.moment act (unexpired local event.moment (life_of local earlier address))) is;
}
