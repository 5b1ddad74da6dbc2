use Rattle.std.proofs.Common.{◌≡◌, Ok, subst, sym, arith}
use Rattle.std.proofs.lemmas.List.{length-take-le}
use Rattle.capture_file.specs.Holds.{standing_in}
use Rattle.capture_file.specs.Standing.{Standing, judged_at}
use Rattle.capture_file.proofs.Standing.{stands}
use Rattle.capture_file.proofs.reading.Reading.take_event.Goals as goal

pub slice_bounds-octets-end : goal.slice_bounds-octets-end
slice_bounds-octets-end g c =
    let whole = stands (standing_in c.self.inside) c.args.width (subst (λ (s : Standing). judged_at s ≡ Ok c.args.width) (sym c.self.view_is) c.requires) in
    sym (length-take-le c.args.width _ (rw c.as_slice-octets.ensures.value whole.here))

pub stamp_of-stamp-requires-clause-some : goal.stamp_of-stamp-requires-clause-some
stamp_of-stamp-requires-clause-some g c =
    let whole = stands (standing_in c.self.inside) c.args.width (subst (λ (s : Standing). judged_at s ≡ Ok c.args.width) (sym c.self.view_is) c.requires) in
    rw c.as_slice-octets.ensures.value whole.some

pub stamp_of-stamp-requires-clause-header : goal.stamp_of-stamp-requires-clause-header
stamp_of-stamp-requires-clause-header g c =
    let whole = stands (standing_in c.self.inside) c.args.width (subst (λ (s : Standing). judged_at s ≡ Ok c.args.width) (sym c.self.view_is) c.requires) in
    rw c.as_slice-octets.ensures.value whole.header

pub read-requires-clause-some : goal.read-requires-clause-some
read-requires-clause-some g c =
    let whole = stands (standing_in c.self.inside) c.args.width (subst (λ (s : Standing). judged_at s ≡ Ok c.args.width) (sym c.self.view_is) c.requires) in
    rw c.as_slice-octets.ensures.value whole.some

pub read-requires-clause-header : goal.read-requires-clause-header
read-requires-clause-header g c =
    let whole = stands (standing_in c.self.inside) c.args.width (subst (λ (s : Standing). judged_at s ≡ Ok c.args.width) (sym c.self.view_is) c.requires) in
    rw c.as_slice-octets.ensures.value whole.header

pub overflow_add-self : goal.overflow_add-self
overflow_add-self g c =
    let whole = stands (standing_in c.self.inside) c.args.width (subst (λ (s : Standing). judged_at s ≡ Ok c.args.width) (sym c.self.view_is) c.requires) in
    omega (arith, whole.within, c.self.invariant.places)

pub skip-requires : goal.skip-requires
skip-requires g c = (stands (standing_in c.self.inside) c.args.width (subst (λ (s : Standing). judged_at s ≡ Ok c.args.width) (sym c.self.view_is) c.requires)).here

pub invariant_of-self : goal.invariant_of-self
invariant_of-self g c = record {
  places = c.self.invariant.places;
  within = (stands (standing_in c.self.inside) c.args.width (subst (λ (s : Standing). judged_at s ≡ Ok c.args.width) (sym c.self.view_is) c.requires)).within;
}
