-- Where two numbers of a memory are below a pair's moment, the pair is untouched.
use Rattle.std.proofs.Common.{◌≡◌, ◌⊎◌, inl, inr, ℕ, ◌<◌, true, ◌&&◌, length, get_or, arith, subst}
use Rattle.std.specs.Prelude.{nat_lt, slice_index}
use Rattle.problem_data.specs.declared.problem.Problem.{Problem}
use Rattle.problem_data.specs.Places.{type_of, vehicle_count}
use Rattle.routing_model.specs.Routes.{Routes}
use Rattle.search_model.specs.declared.candidate.Candidate.TheVariants.{Routes as Pair}
use Rattle.search_model.specs.declared.kind.Kind.TheVariants.{SwapRoutes, SwapStar}
use Rattle.descent_memory.specs.Memories.{IsMemoryOf, MemoryState, last_count}
use Rattle.descent_memory.specs.Pairs.{pair_place}
use Rattle.descent_memory.specs.Touching.{IsUntouched}
use Rattle.descent_memory.proofs.PairPlaces.{place-in_range}
use Rattle.local_search.specs.inside.Screens.{IsPairUntouched}
use Rattle.local_search.specs.inside.Stages.{moment_of_pair}
use Rattle.local_search.proofs.Keeping.{below, both_below}

-- a type's least unused vehicle is untouched since a moment
abbrev IsUntouchedType : MemoryState → ℕ → ℕ → Type 0
IsUntouchedType m type moment = get_or m.touches.types type last_count < moment

module _ (p : Problem) (routes : Routes) (m : MemoryState) (is : IsMemoryOf p routes m) (i j place : ℕ) (order : i < j) (there : j < vehicle_count p) (here : place ≡ pair_place (vehicle_count p) i j) where
  pub place_there : place < length m.moments.pairs
  place_there = rw (is.pairs, here) (place-in_range (vehicle_count p) i j order there)

  pub first_listed : i < length m.touches.lists
  first_listed = rw is.lists (omega (arith, order, there))

  pub second_listed : j < length m.touches.lists
  second_listed = rw is.lists there

  pub lists_untouched : (nat_lt (slice_index m.touches.lists i) (slice_index m.moments.pairs place) && nat_lt (slice_index m.touches.lists j) (slice_index m.moments.pairs place)) ≡ true →
      IsUntouched p m.touches (moment_of_pair p m i j) (Pair SwapStar i j)
  lists_untouched test =
      let h = both_below (slice_index m.touches.lists i) (slice_index m.touches.lists j) (slice_index m.moments.pairs place) test in
      subst (λ (k : ℕ). IsUntouched p m.touches (slice_index m.moments.pairs k) (Pair SwapStar i j)) here
      (below m.touches.lists i (slice_index m.moments.pairs place) first_listed h.0, (below m.touches.lists j (slice_index m.moments.pairs place) second_listed h.1, tt))

  -- with vehicles of one type, or with untouched types
  pub one_type : (nat_lt (slice_index m.touches.lists i) (slice_index m.moments.pairs place) && nat_lt (slice_index m.touches.lists j) (slice_index m.moments.pairs place)) ≡ true → type_of p i ≡ type_of p j →
      IsPairUntouched p m i j
  one_type test same = record { lists = lists_untouched test; types = inl same }

  pub two_types : (nat_lt (slice_index m.touches.lists i) (slice_index m.moments.pairs place) && nat_lt (slice_index m.touches.lists j) (slice_index m.moments.pairs place)) ≡ true →
      (a b : ℕ) → a ≡ type_of p i → b ≡ type_of p j → a < length p.types → b < length p.types →
      (nat_lt (slice_index m.touches.types a) (slice_index m.moments.pairs place) && nat_lt (slice_index m.touches.types b) (slice_index m.moments.pairs place)) ≡ true →
      IsPairUntouched p m i j
  two_types lists a b is_a is_b la lb types =
      let l = both_below (slice_index m.touches.lists i) (slice_index m.touches.lists j) (slice_index m.moments.pairs place) lists in
      let t = both_below (slice_index m.touches.types a) (slice_index m.touches.types b) (slice_index m.moments.pairs place) types in
      record {
        lists = lists_untouched lists;
        types = inr (subst (λ (k : ℕ). IsUntouched p m.touches (slice_index m.moments.pairs k) (Pair SwapRoutes i j)) here (
          below m.touches.lists i (slice_index m.moments.pairs place) first_listed l.0,
          (
            below m.touches.lists j (slice_index m.moments.pairs place) second_listed l.1,
            (
              subst (λ (k : ℕ). IsUntouchedType m k (slice_index m.moments.pairs place)) is_a (below m.touches.types a (slice_index m.moments.pairs place) (rw is.types la) t.0),
              (subst (λ (k : ℕ). IsUntouchedType m k (slice_index m.moments.pairs place)) is_b (below m.touches.types b (slice_index m.moments.pairs place) (rw is.types lb) t.1), tt),
            ),
          ),
        ));
      }
