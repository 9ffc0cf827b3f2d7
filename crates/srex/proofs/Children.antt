-- The children of an exchange can be costed.
use Rattle.std.proofs.Common.{◌≡◌, ℕ, ◌<◌, ◌≤◌, true, false, IsTrue, arith, subst, sym}
use mir.Syntax.{w128}
use mir.Val.{SFits, of_z, to_z}
use Rattle.std.specs.Int.Signed.{lt_z}
use Rattle.std.specs.Prelude.{ℤ, pos, nat_lt}
use Rattle.std.proofs.lemmas.Bool.Decides.{nat_tests}
use Rattle.std.proofs.lemmas.Int.{ints}
use Rattle.problem_data.specs.declared.problem.Problem.{Problem}
use Rattle.problem_data.specs.Valid.{IsValid}
use Rattle.routing_model.specs.declared.weights.Weights.{Weights}
use Rattle.routing_model.specs.Lawful.{is_lawful}
use Rattle.routing_model.specs.Routes.{Routes}
use Rattle.routing_model.proofs.LawfulFacts.{lawful-facts}
use Rattle.route_cache.proofs.LawfulLists.{lawful-listed}
use Rattle.genetic_model.specs.Insertion.{completed}
use Rattle.genetic_model.proofs.LawfulExchange.{completed-lawful}
use Rattle.genetic_model.proofs.SoundChildren.{IsSound}
use Rattle.penalty_cost.specs.Plans.{IsDrivablePlan}
use Rattle.least_insertions.proofs.Growths.{is-less, is-no_less}

pub drivable : (p : Problem) (routes : Routes) → IsValid p → IsTrue (is_lawful p routes) → IsDrivablePlan p routes
drivable p routes valid lawful = record {
  one_list_each = (lawful-facts p routes lawful).one_list_each;
  listed = lawful-listed p routes valid lawful;
  at_most_once = (lawful-facts p routes lawful).visits_at_most_once;
}

-- a completed child can be driven
pub completed-drivable : (p : Problem) (w : Weights) (child made : Routes) → IsValid p → IsSound p child → made ≡ completed p w child → IsDrivablePlan p made
completed-drivable p w child made valid sound is = subst (IsDrivablePlan p) (sym is) (drivable p (completed p w child) valid (completed-lawful p w child valid sound))

cheaper-test : (m n : ℕ) → m < n → nat_lt m n ≡ true
cheaper-test m n h = grind (arith, nat_tests)

no-cheaper-test : (m n : ℕ) → n ≤ m → nat_lt m n ≡ false
no-cheaper-test m n h = grind (arith, nat_tests)

-- costs of 128 bits are compared as they are
pub cheaper : (m n : ℕ) (a b : ℤ) → SFits w128 a → SFits w128 b → a ≡ pos m → b ≡ pos n → lt_z (to_z w128 (of_z w128 a)) (to_z w128 (of_z w128 b)) ≡ true → nat_lt m n ≡ true
cheaper m n a b fa fb e k h = let less = is-less a b fa fb h in cheaper-test m n (omega (arith, ints))

pub no-cheaper : (m n : ℕ) (a b : ℤ) → SFits w128 a → SFits w128 b → a ≡ pos m → b ≡ pos n → lt_z (to_z w128 (of_z w128 a)) (to_z w128 (of_z w128 b)) ≡ false → nat_lt m n ≡ false
no-cheaper m n a b fa fb e k h = let more = is-no_less a b fa fb h in no-cheaper-test m n (omega (arith, ints))
