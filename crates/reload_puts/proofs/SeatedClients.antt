-- A client and its neighbour where they stand in a search's plan: their lists are tidy, their positions are there, and so is what is left
-- of the client's list without it.
use Rattle.std.proofs.Common.{◌≡◌, ◌≢◌, ℕ, ◌+◌, ◌-◌, ◌<◌, ◌≤◌, true, cond, Bool, List, ◌++◌, length, set, refl, sym, ◌∙◌, ap, subst, arith, Some, slice_get, slice_range}
use Rattle.std.proofs.lemmas.List.{map-set}
use Rattle.std.proofs.lemmas.Option.{slice_get_within}
use Rattle.problem_data.specs.declared.visit.Visit.{Visit}
use Rattle.problem_data.specs.declared.visit.Visit.TheVariants.{Client}
use Rattle.problem_data.specs.Places.{is_client_place}
use Rattle.routing_model.specs.Routes.{Routes, list_at}
use Rattle.routing_model.specs.Tidy.{is_tidy, tidied, tidied_routes}
use Rattle.search_model.specs.Edits.{vehicle_of}
use Rattle.search_model.proofs.ClientMoves.{client-named}
use Rattle.search_model.proofs.ClientPlaces.{Once, visited-at}
use Rattle.search_model.proofs.ExchangeMoves.{all-at}
use Rattle.search_model.proofs.LawfulMoves.{plan-tidy, tidy-stays}
use Rattle.search_model.proofs.RunMoves.{lawful-once, tidied-without}
use Rattle.search_model.proofs.TailMoves.{vehicle_of-at}
use Rattle.gain_model.specs.declared.part.Part.TheVariants as part
use Rattle.gain_model.specs.MoveReads.{profile_of}
use Rattle.gain_model.specs.Gains.{part_visits}
use Rattle.gain_model.proofs.StandsOnce.{same_test}
use Rattle.route_cache.proofs.Gaps.{gap_joint, left_by, right_by}
use Rattle.move_core.specs.Searches.{IsSound, SearchState}
use Rattle.new_lists.specs.Reads.{foreign_visits}
use Rattle.list_changes.specs.declared.gap.Gap.{Gap}
use Rattle.list_changes.specs.Gaps.{IsGap}
use Rattle.list_changes.proofs.GapLists.{gap-left, gap-list, gap-right}
use Rattle.reload_puts.specs.declared.beside.Beside.TheVariants.{Before}
use Rattle.reload_puts.specs.declared.seats.Seats.{Seats}
use Rattle.reload_puts.specs.Puts.{put_candidate}
use Rattle.reload_puts.specs.Seats.{AreSeats}

-- no visit of its own list is foreign to a vehicle
pub foreign-own : (s : SearchState) (v first end : ℕ) → foreign_visits s v (part.Run v first end) ≡ 0
foreign-own s v first end = ap (λ (b : Bool). cond b 0 (length (part_visits s.routes (part.Run v first end)))) (same_test (profile_of s.problem v) (profile_of s.problem v) refl)

module _ (s : SearchState) (sound : IsSound s) where
  pub once : Once s.routes
  once = lawful-once s.problem s.routes sound.lawful

  pub tidy-at : (v : ℕ) → is_tidy (list_at s.routes v) ≡ true
  tidy-at v = all-at s.routes v (plan-tidy s.problem s.weights s.routes (put_candidate Before 0 0) sound.lawful)

  -- tidying a plan with one new list
  pub one-tidied : (a : ℕ) (xs : List Visit) → tidied_routes (set s.routes a xs) ≡ set s.routes a (tidied xs)
  one-tidied a xs =
      map-set tidied s.routes a xs
      ∙ ap (λ (rs : Routes). set rs a (tidied xs)) (tidy-stays s.routes (plan-tidy s.problem s.weights s.routes (put_candidate Before 0 0) sound.lawful))

  module _ (seats : Seats) (are : AreSeats s seats) where
    pub position-there : seats.position + 1 ≤ length (list_at s.routes seats.vehicle)
    position-there = let e : seats.position < length (list_at s.routes seats.vehicle) = slice_get_within (list_at s.routes seats.vehicle) seats.position (Client seats.client) are.at_client in omega arith

    pub behind-there : seats.behind ≤ length (list_at s.routes seats.other)
    behind-there =
        let e : seats.behind - 1 < length (list_at s.routes seats.other) = slice_get_within (list_at s.routes seats.other) (seats.behind - 1) (Client seats.neighbour) are.at_neighbour in
        let some = are.some in
        omega arith

    pub behind-it : seats.behind - 1 + 1 ≡ seats.behind
    behind-it = let some = are.some in omega arith

    pub client-there : is_client_place s.problem seats.client ≡ true
    client-there = client-named s.problem s.routes sound.lawful seats.client (visited-at s.routes seats.client seats.vehicle seats.position (once seats.client) are.at_client)

    pub of-client : vehicle_of s.routes seats.client ≡ Some seats.vehicle
    of-client = vehicle_of-at s.routes seats.client seats.vehicle seats.position (once seats.client) are.at_client

    pub of-neighbour : vehicle_of s.routes seats.neighbour ≡ Some seats.other
    of-neighbour = vehicle_of-at s.routes seats.neighbour seats.other (seats.behind - 1) (once seats.neighbour) are.at_neighbour

    -- what is left of the client's list
    module _ (gap : Gap) (gone : IsGap (list_at s.routes seats.vehicle) seats.position (seats.position + 1) gap) where
      pub left-is : left_by (gap_joint (list_at s.routes seats.vehicle) seats.position (seats.position + 1)) seats.position ≡ gap.left
      left-is =
          sym (ap (λ (g : Gap). g.left) gone.is ∙ gap-left (gap_joint (list_at s.routes seats.vehicle) seats.position (seats.position + 1)) seats.position (seats.position + 1))

      pub right-is : right_by (gap_joint (list_at s.routes seats.vehicle) seats.position (seats.position + 1)) (seats.position + 1) ≡ gap.right
      right-is =
          sym (ap (λ (g : Gap). g.right) gone.is ∙ gap-right (gap_joint (list_at s.routes seats.vehicle) seats.position (seats.position + 1)) seats.position (seats.position + 1))

      pub without-client : tidied (slice_range (list_at s.routes seats.vehicle) 0 seats.position ++ slice_range (list_at s.routes seats.vehicle) (seats.position + 1) (length (list_at s.routes seats.vehicle)))
          ≡ slice_range (list_at s.routes seats.vehicle) 0 gap.left ++ slice_range (list_at s.routes seats.vehicle) gap.right (length (list_at s.routes seats.vehicle))
      without-client =
          tidied-without (list_at s.routes seats.vehicle) (tidy-at seats.vehicle) seats.position (seats.position + 1) (omega arith) position-there
          ∙ gap-list (list_at s.routes seats.vehicle) seats.position (seats.position + 1) gap gone (let e = position-there in omega arith) position-there

    -- both in one list
    module _ (own : seats.other ≡ seats.vehicle) where
      pub neighbour-there : slice_get (list_at s.routes seats.vehicle) (seats.behind - 1) ≡ Some (Client seats.neighbour)
      neighbour-there = subst (λ (v : ℕ). slice_get (list_at s.routes v) (seats.behind - 1) ≡ Some (Client seats.neighbour)) own are.at_neighbour

      pub own-there : seats.behind ≤ length (list_at s.routes seats.vehicle)
      own-there = subst (λ (v : ℕ). seats.behind ≤ length (list_at s.routes v)) own behind-there

      pub not-same : seats.position ≢ seats.behind - 1
      not-same e =
          let x : Some (Client seats.client) ≡ Some (Client seats.neighbour) = sym are.at_client ∙ ap (slice_get (list_at s.routes seats.vehicle)) e ∙ neighbour-there in
          let y : seats.client ≡ seats.neighbour = cc in
          are.differ y
