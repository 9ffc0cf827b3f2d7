-- The rises over descents one behind the other.
use Rattle.std.proofs.Common.{◌+◌, ℕ, List, [], ◌++◌, length, refl, arith, subst, sym}
use Rattle.std.specs.Prelude.{slice_index, slice_index_or}
use Rattle.std.proofs.lemmas.List.Sums.{sum_by-append}
use Rattle.problem_data.specs.declared.problem.Problem.{Problem}
use Rattle.search_model.specs.declared.kind.Kind.{Kind}
use Rattle.search_model.specs.Kinds.{all_kinds}
use Rattle.search_model.specs.Search.{route_tries, route_moves, moves_of_kind}
use Rattle.genetic_model.specs.declared.params.NeighbourhoodParams.{NeighbourhoodParams}
use Rattle.genetic_model.specs.RandomDescent.{Start, candidates_of}
use Rattle.genetic_model.specs.RunTotals.{move_total}
use Rattle.move_core.specs.declared.tally.Tally.{Tally}
use Rattle.local_search.specs.Counts.{RoseBy, all_applied, all_tried}
use Rattle.local_search.proofs.Rises.{rose_both, rose_not, together_both, together_none}
use Rattle.random_descents.specs.Rises.{RoseOver}

module _ (p : Problem) (near : NeighbourhoodParams) where
  -- no descent, no rise
  pub rose_over-none : (ts : List Tally) → RoseOver p near [] ts ts
  rose_over-none ts = record {
    asked = 0;
    least = omega arith;
    most = omega arith;
    rose = together_none (all_tried ts) (all_tried ts) refl;
    applied = λ k d l. rose_not (slice_index (all_applied ts) k);
  }

  moves_at : Kind → Start → ℕ
  moves_at kind s = moves_of_kind kind (route_moves p s.weights (candidates_of p near s) s.routes)

  -- two after each other
  pub rose_over-both : (xs ys : List Start) (ts us vs : List Tally) → RoseOver p near xs ts us → RoseOver p near ys us vs → RoseOver p near (xs ++ ys) ts vs
  unfolding moves_at
  rose_over-both xs ys ts us vs a b = record {
    asked = a.asked + b.asked;
    least = omega (arith, a.least, b.least, sum_by-append (λ (s : Start). length (candidates_of p near s)) xs ys);
    most = omega (arith, a.most, b.most, sum_by-append (λ (s : Start). length (route_tries p s.weights (candidates_of p near s) s.routes)) xs ys);
    rose = together_both a.asked b.asked (all_tried ts) (all_tried us) (all_tried vs) a.rose b.rose;
    applied = λ k d l.
        let kind : Kind = slice_index_or all_kinds k d in
        subst (λ n. RoseBy n (slice_index (all_applied ts) k) (slice_index (all_applied vs) k)) (sym (sum_by-append (moves_at kind) xs ys))
        (rose_both (move_total p near kind xs) (move_total p near kind ys) (slice_index (all_applied ts) k) (slice_index (all_applied us) k) (slice_index (all_applied vs) k) (a.applied k d l) (b.applied k d l));
  }
