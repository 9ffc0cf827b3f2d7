-- A client that has a position is visited.
use Rattle.std.proofs.Common.{◌≡◌, ℕ, ◌-◌, true, Some}
use Rattle.problem_data.specs.declared.problem.Problem.{Problem}
use Rattle.routing_model.specs.Lawful.{is_lawful}
use Rattle.routing_model.specs.Routes.{Routes, is_visited}
use Rattle.search_model.specs.Edits.{position_of}
use Rattle.search_model.proofs.ClientPlaces.{stands-at, visited-at}
use Rattle.search_model.proofs.RunMoves.{lawful-once}

pub has-position : (p : Problem) (routes : Routes) (client : ℕ) (at : ℕ × ℕ) → is_lawful p routes ≡ true → position_of routes client ≡ Some at → is_visited routes client ≡ true
has-position p routes client at lawful e =
    let there = stands-at routes client at.0 at.1 e in
    visited-at routes client at.0 (at.1 - 1) (lawful-once p routes lawful client) there.1
