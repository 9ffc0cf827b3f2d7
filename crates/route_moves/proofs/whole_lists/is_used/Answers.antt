use Rattle.std.proofs.Common.{◌≡◌, ◌≤◌, ◌∙◌, ℕ, true, nat_lt, List, [], ◌∷◌, length, refl, sym, ap, arith}
use Rattle.std.proofs.lemmas.Bool.Decides.{nat_tests}
use Rattle.problem_data.specs.declared.visit.Visit.{Visit}
use Rattle.routing_model.specs.Routes.{is_used, list_at}
use Rattle.routing_model.specs.Tidy.{is_tidy}
use Rattle.search_model.proofs.ExchangeMoves.{all-at}
use Rattle.search_model.proofs.LawfulMoves.{plan-tidy}
use Rattle.penalty_cost.proofs.UsedCosts.{tidy-used}
use Rattle.route_moves.specs.inside.Wholes.{whole_candidate}
use Rattle.route_moves.proofs.whole_lists.is_used.Goals as goal

-- a tidy list is used where it has visits
used : (visits : List Visit) → is_tidy visits ≡ true → nat_lt 0 (length visits) ≡ is_used visits
used [] tidy = refl
used (x ∷ visits) tidy = some (length (x ∷ visits)) (omega arith) ∙ sym (tidy-used (x ∷ visits) (omega arith) tidy)
  where
    some : (n : ℕ) → 1 ≤ n → nat_lt 0 n ≡ true
    some n h = grind (arith, nat_tests)

pub returns : goal.returns
returns c =
    let s = c.args.search.now in
    let tidy : is_tidy (list_at s.routes c.args.vehicle) ≡ true = all-at s.routes c.args.vehicle (plan-tidy s.problem s.weights s.routes (whole_candidate 0 0) c.size.ensures.sound.lawful) in
    ap (nat_lt 0) c.size.ensures.size ∙ used (list_at s.routes c.args.vehicle) tidy
