-- An example of a gain: with a fixed cost of 50 the first vehicle becomes unused, and the plan costs 63 in place of 120.
use Rattle.std.proofs.Common.{◌≡◌, ℕ, ◌≤◌, [], ◌∷◌, refl, lit≤, lit<, arith}
use Rattle.std.specs.Prelude.{All, IsFalse, IsTrue, zero, suc, Some, None, negsuc, pos}
use Rattle.std.proofs.lemmas.Bool.Decides.{nat_tests}
use Rattle.std.proofs.lemmas.List.Elements.{All-cons, All-nil}
use Rattle.list_words.specs.Lists.{is_in}
use Rattle.problem_data.specs.declared.problem.Problem.{Problem}
use Rattle.problem_data.specs.declared.visit.Visit.TheVariants as visit
use Rattle.routing_model.specs.Routes.{Routes, has_client, list_at, visit_count}
use Rattle.routing_model.proofs.Examples.{tiny, weights, plain_client, plain_type}
use Rattle.routing_model.proofs.PlainCost.{solution_cost-easy}
use Rattle.search_model.specs.declared.candidate.Candidate.{Candidate}
use Rattle.search_model.specs.declared.candidate.Candidate.TheVariants.{Node}
use Rattle.search_model.specs.declared.candidate.Target.TheVariants.{After}
use Rattle.search_model.specs.declared.kind.Kind.TheVariants.{Exchange10}
use Rattle.search_model.proofs.MoveExamples.{lists, visits}
use Rattle.gain_model.specs.declared.part.Part.TheVariants.{Run, Client, Reload}
use Rattle.gain_model.specs.CandidateVehicles.{vehicles_of}
use Rattle.gain_model.specs.Gains.{GainState, GainSide, HasAmount, IsPartWithin, IsSideWithin, IsWithin, MayBeApplied, made, part_visits}
use Rattle.gain_model.specs.Operators.{HasItsVehicles, IsEvaluation, bettered}
use Rattle.gain_model.specs.Proposals.{IsListedIn, IsRightFor, Lender, Proposed, SpeaksOf, side_vehicles, with_lists}

abbrev p : Problem
p = tiny (plain_client 0 ∷ plain_client 0 ∷ []) (record (plain_type 2 10) { fixed = 50 })

abbrev before : Routes
before = lists ((1 ∷ []) ∷ (2 ∷ []) ∷ [])

abbrev after : Routes
after = lists ([] ∷ (2 ∷ 1 ∷ []) ∷ [])

-- the first vehicle has no part left, and the second one its own visit and the client
abbrev saved : GainState
saved = record {
  first = record { vehicle = 0; parts = [] };
  second = Some (record { vehicle = 1; parts = Run 1 0 1 ∷ Client 1 ∷ [] });
  amount = negsuc 56;
}

saved_plan : made saved before ≡ after
saved_plan = refl

-- the parts are those of the plan before, on both sides
abbrev swapped : GainState
swapped = record { first = record { vehicle = 0; parts = Run 1 0 1 ∷ [] }; second = Some (record { vehicle = 1; parts = Run 0 0 1 ∷ [] }); amount = pos 0 }

swapped_plan : made swapped before ≡ lists ((2 ∷ []) ∷ (1 ∷ []) ∷ [])
swapped_plan = refl

-- of one side
abbrev turned : GainState
turned = record { first = record { vehicle = 1; parts = Run 1 1 2 ∷ Run 1 0 1 ∷ [] }; second = None; amount = pos 0 }

turned_plan : made turned after ≡ lists ([] ∷ (1 ∷ 2 ∷ []) ∷ [])
turned_plan = refl

reload_part : part_visits before (Reload 0) ≡ visit.Reload 0 ∷ []
reload_part = refl

saved_amount : HasAmount p weights before saved
saved_amount = rw (solution_cost-easy p weights before refl, solution_cost-easy p weights after refl) refl

run_within : IsPartWithin before (Run 1 0 1)
run_within = record { vehicle_there = lit< tt; in_order = lit≤ tt; in_list = lit≤ tt }

client_within : All (IsPartWithin before) (Client 1 ∷ [])
client_within = All-cons (IsPartWithin before) (Client 1) [] tt (All-nil (IsPartWithin before))

first_within : IsSideWithin before saved.first
first_within = record { vehicle_there = lit< tt; parts_within = All-nil (IsPartWithin before) }

abbrev receiver : GainSide
receiver = record { vehicle = 1; parts = Run 1 0 1 ∷ Client 1 ∷ [] }

second_within : IsSideWithin before receiver
second_within = record { vehicle_there = lit< tt; parts_within = All-cons (IsPartWithin before) (Run 1 0 1) (Client 1 ∷ []) run_within client_within }

is_within : IsWithin saved before
is_within = All-cons (IsSideWithin before) saved.first (receiver ∷ []) first_within
    (All-cons (IsSideWithin before) receiver [] second_within (All-nil (IsSideWithin before)))

may_be_applied : MayBeApplied p weights before saved
may_be_applied = record { within = is_within; lowers = omega arith; amount = saved_amount; lawful = refl }

-- the candidate's move is that gain
abbrev candidate : Candidate
candidate = Node Exchange10 1 (After 2)

better : bettered p weights before candidate ≡ Some after
better = rw (solution_cost-easy p weights before refl, solution_cost-easy p weights after refl) refl

-- its two sides are the vehicles of the candidate
abbrev IsOwn : GainSide → Type 0
IsOwn side = IsTrue (is_in (vehicles_of p before candidate) side.vehicle)

own : HasItsVehicles p before candidate saved
own = All-cons IsOwn saved.first (receiver ∷ []) refl (All-cons IsOwn receiver [] refl (All-nil IsOwn))

answer : IsEvaluation p weights before candidate (Some saved)
answer = record { within = is_within; makes = better; amount = saved_amount; vehicles = own }

-- back again it costs more
none_back : IsEvaluation p weights after (Node Exchange10 2 (After 1)) None
none_back = rw (solution_cost-easy p weights (lists ([] ∷ (1 ∷ 2 ∷ []) ∷ [])) refl, solution_cost-easy p weights after refl) refl

-- the proposal that it comes of
abbrev proposed : Proposed
proposed = record {
  sides = record { vehicle = 0; list = visits (1 ∷ []) } ∷ record { vehicle = 1; list = visits (2 ∷ []) } ∷ [];
  lenders = record { vehicle = 1; list = visits (2 ∷ []) } ∷ [];
  lists = [] ∷ visits (2 ∷ 1 ∷ []) ∷ [];
}

proposed_plan : with_lists proposed before ≡ made saved before
proposed_plan = refl

abbrev first_lender : Lender
first_lender = record { vehicle = 0; list = visits (1 ∷ []) }

abbrev second_lender : Lender
second_lender = record { vehicle = 1; list = visits (2 ∷ []) }

once : (client : ℕ) → visit_count before client ≤ 1
once client = grind (arith, nat_tests)

all_listed : All (IsListedIn before) (first_lender ∷ second_lender ∷ second_lender ∷ [])
all_listed =
    let none = All-nil (IsListedIn before) in
    let last = All-cons (IsListedIn before) second_lender [] refl none in
    All-cons (IsListedIn before) first_lender (second_lender ∷ second_lender ∷ []) refl (All-cons (IsListedIn before) second_lender (second_lender ∷ []) refl last)

elsewhere : (client vehicle : ℕ) → IsFalse (is_in (side_vehicles proposed) vehicle) → IsFalse (has_client client (list_at before vehicle))
elsewhere client zero apart = cc
elsewhere client (suc zero) apart = cc
elsewhere client (suc (suc vehicle)) apart = refl

speaks_of : SpeaksOf proposed before
speaks_of = record { once = once; listed = all_listed; not_elsewhere = λ client vehicle new apart. elsewhere client vehicle apart }

right_for : IsRightFor p weights proposed saved before
right_for = record { within = is_within; makes = refl; amount = saved_amount }
