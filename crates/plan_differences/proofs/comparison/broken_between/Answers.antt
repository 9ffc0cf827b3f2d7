use Rattle.std.proofs.Common.{◌≡◌, ◌∙◌, ◌+◌, ◌-◌, ◌<◌, ◌≤◌, ◌&&◌, true, ℕ, ap, ap₂, arith, get_or, length, subst, sym}
use Rattle.std.specs.Prelude.{IsTrue, nat_le, nat_lt, count_by}
use Rattle.std.specs.List.{range_with_len}
use Rattle.std.proofs.lemmas.Bool.Decides.{nat_tests}
use Rattle.std.proofs.lemmas.List.{get_or_default}
use Rattle.problem_data.specs.Places.{depot_count, is_client_place, place_count}
use Rattle.genetic_model.specs.BrokenPairs.{left, right}
use Rattle.plan_differences.specs.declared.flanks.Flanks.{Flanks}
use Rattle.plan_differences.specs.declared.flanks.TheConstants.{NONE}
use Rattle.plan_differences.specs.Beside.{flanks_at}
use Rattle.plan_differences.specs.inside.Comparing.{sides_apart}
use Rattle.plan_differences.proofs.ComparedEntries.{counts-next, differ, sides-are, sides-few}
use Rattle.plan_differences.proofs.comparison.broken_between.Goals as goal

-- a place that is no depot's is a client's
a-client : (depots places place : ℕ) → depots ≤ place → place < places → (nat_le depots place && nat_lt place places) ≡ true
a-client depots places place h k = grind (arith, nat_tests)

abbrev nothing : Flanks
nothing = record { left = 0; right = 0 }

pub loop-place-preserved : goal.loop-place-preserved
loop-place-preserved c =
    let p = c.args.given.now in
    let place = c.loop-place.place in
    let is = c.loop-place.invariant in
    let begun = is.begun in
    let few = is.few in
    let a = c.args.a.now in
    let b = c.args.b.now in
    let there : place < place_count p = subst (λ (n : ℕ). place < n) c.client_places-clients.ensures.end c.loop-place-test.true in
    let two : c.sides_apart-broken.result ≤ 2 = subst (λ (n : ℕ). n ≤ 2) (sym c.sides_apart-broken.ensures) (sides-few (get_or a place nothing) (get_or b place nothing)) in
    let long = c.requires.a in
    let long' = c.requires.b in
    let entry : get_or a place nothing ≡ flanks_at a place = get_or_default a place nothing (record { left = NONE; right = NONE }) (omega arith) in
    let entry' : get_or b place nothing ≡ flanks_at b place = get_or_default b place nothing (record { left = NONE; right = NONE }) (omega arith) in
    let client : IsTrue (is_client_place p place) = a-client (depot_count p) (place_count p) place begun there in
    record {
      begun = omega arith;
      few = omega arith;
      pairs = λ x y of_x of_y.
          counts-next (differ x y left) (differ x y right) (depot_count p) place c.loop-place.broken c.sides_apart-broken.result begun (is.pairs x y of_x of_y)
          (c.sides_apart-broken.ensures
          ∙ (ap₂ (λ (f g : Flanks). sides_apart f g) entry entry' ∙ sides-are x y place (flanks_at a place) (flanks_at b place) (of_x.clients place client) (of_y.clients place client)));
    }

pub returns-clause-pairs : goal.returns-clause-pairs
returns-clause-pairs c = λ x y of_x of_y.
    let p = c.args.given.now in
    let start = c.client_places-clients.ensures.start in
    let end = c.client_places-clients.ensures.end in
    let done : c.loop-place.place - depot_count p ≡ length p.clients = omega arith in
    c.loop-place.invariant.pairs x y of_x of_y
    ∙ ap (λ (n : ℕ). count_by (differ x y left) (range_with_len (depot_count p) n) + count_by (differ x y right) (range_with_len (depot_count p) n)) done
