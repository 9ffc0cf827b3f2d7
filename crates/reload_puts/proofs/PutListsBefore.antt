-- The new lists of a client that is put behind another one with a reload directly before it make the plan with the reload, tidied.
use Rattle.std.proofs.Common.{◌≡◌, ◌≢◌, ℕ, ◌+◌, ◌-◌, ◌<◌, ◌≤◌, true, List, [], ◌∷◌, ◌++◌, length, set, refl, sym, ◌∙◌, ap, ap₂, arith, Some, slice_get, slice_range}
use Rattle.std.proofs.lemmas.List.{map-set}
use Rattle.problem_data.specs.declared.visit.Visit.{Visit}
use Rattle.problem_data.specs.declared.visit.Visit.TheVariants.{Client, Reload}
use Rattle.problem_data.specs.Places.{is_client_place, is_depot_place}
use Rattle.routing_model.specs.Routes.{Routes, list_at}
use Rattle.routing_model.specs.Tidy.{tidied, tidied_routes}
use Rattle.search_model.specs.declared.candidate.Target.TheVariants.{After}
use Rattle.search_model.specs.declared.kind.Kind.TheVariants.{DepotBefore}
use Rattle.gain_model.specs.declared.part.Part.TheVariants as part
use Rattle.route_cache.proofs.Slices.{slice-none}
use Rattle.move_core.specs.Searches.{IsSound, SearchState}
use Rattle.new_lists.specs.declared.new_list.NewLists.TheVariants.{One, Two}
use Rattle.new_lists.proofs.MadeLists.{has-part}
use Rattle.list_changes.specs.declared.gap.Gap.{Gap}
use Rattle.list_changes.specs.Gaps.{IsGap}
use Rattle.list_changes.proofs.NodeVehicles.{node-one, node-two}
use Rattle.reload_puts.specs.declared.beside.Beside.TheVariants.{Before}
use Rattle.reload_puts.specs.declared.seats.Seats.{Seats}
use Rattle.reload_puts.specs.Puts.{put_plan}
use Rattle.reload_puts.specs.PutLists.{ArePut}
use Rattle.reload_puts.specs.inside.Lists.{earlier_list, joined_list, later_list, left_list, same_list}
use Rattle.reload_puts.specs.Seats.{AreSeats}
use Rattle.reload_puts.proofs.ReloadPuts.{put-across, put-earlier, put-later}
use Rattle.reload_puts.proofs.SeatedClients.{behind-it, behind-there, client-there, foreign-own, left-is, neighbour-there, not-same, of-client, of-neighbour, once, one-tidied, own-there, position-there, right-is, tidy-at, without-client}
use Rattle.reload_puts.proofs.TidyPutsBefore.{put-before, put-behind, put-last}

module _ (s : SearchState) (sound : IsSound s) (seats : Seats) (are : AreSeats s seats) (depot : ℕ) (is_depot : is_depot_place s.problem depot ≡ true) where
  abbrev A : List Visit
  A = list_at s.routes seats.vehicle

  abbrev B : List Visit
  B = list_at s.routes seats.other

  abbrev new : List Visit
  new = Reload depot ∷ Client seats.client ∷ []

  room : seats.position + 1 ≤ length A
  room = position-there s sound seats are

  within : seats.behind ≤ length B
  within = behind-there s sound seats are

  there : seats.behind - 1 + 1 ≡ seats.behind
  there = behind-it s sound seats are

  named : is_client_place s.problem seats.client ≡ true
  named = client-there s sound seats are

  module _ (gap : Gap) (gone : IsGap A seats.position (seats.position + 1) gap) where
    -- in another list
    pub put-in-other : seats.other ≢ seats.vehicle → ArePut s Before seats depot (Two (left_list seats gap) (joined_list seats depot))
    put-in-other apart = record {
      parts = record {
        first = has-part s seats.vehicle gap.left (part.Run seats.vehicle 0 0) gap.right are.in_range (let e = gone.left in omega arith) gone.in_list
            (record { in_range = are.in_range; in_order = omega arith; in_list = omega arith });
        second = record {
          in_range = are.other_in_range;
          left = within;
          right = within;
          one = is_depot;
          two = named;
          three = record { in_range = are.other_in_range; in_order = omega arith; in_list = omega arith };
        };
        apart = apart;
      };
      makes = sym plan;
      at = refl;
      own = node-two s DepotBefore seats.client (After seats.neighbour) seats.vehicle (of-client s sound seats are) seats.other (of-neighbour s sound seats are);
      few = (let e = foreign-own s seats.vehicle 0 0 in let f = foreign-own s seats.other 0 0 in omega (arith, e, f));
    }
      where
        plan : put_plan s Before seats.client seats.neighbour depot
            ≡ set (set s.routes seats.vehicle (slice_range A 0 gap.left ++ slice_range A gap.right (length A))) seats.other (slice_range B 0 seats.behind ++ (new ++ slice_range B seats.behind (length B)))
        plan =
            ap tidied_routes (put-across seats.client seats.neighbour are.differ new s.routes (once s sound) seats.vehicle seats.position are.at_client seats.other (seats.behind - 1) are.at_neighbour apart)
            ∙ map-set tidied (set s.routes seats.vehicle (slice_range A 0 seats.position ++ slice_range A (seats.position + 1) (length A))) seats.other
            (slice_range B 0 (seats.behind - 1 + 1) ++ (new ++ slice_range B (seats.behind - 1 + 1) (length B)))
            ∙ ap₂ (λ (rs : Routes) (ys : List Visit). set rs seats.other ys)
            (one-tidied s sound seats.vehicle (slice_range A 0 seats.position ++ slice_range A (seats.position + 1) (length A)) ∙ ap (set s.routes seats.vehicle) (without-client s sound seats are gap gone))
            (put-last B (tidy-at s sound seats.other) (seats.behind - 1) seats.neighbour are.at_neighbour depot seats.client (seats.behind - 1 + 1) (let e = within in let f = there in omega arith))
            ∙ ap (λ (x : ℕ). set (set s.routes seats.vehicle (slice_range A 0 gap.left ++ slice_range A gap.right (length A))) seats.other (slice_range B 0 x ++ (new ++ slice_range B x (length B)))) there

    -- in its own list
    module _ (own : seats.other ≡ seats.vehicle) where
      at-own : slice_get A (seats.behind - 1) ≡ Some (Client seats.neighbour)
      at-own = neighbour-there s sound seats are own

      own-within : seats.behind ≤ length A
      own-within = own-there s sound seats are own

      -- further behind
      pub put-in-later : seats.position < seats.behind → ArePut s Before seats depot (One (later_list seats gap depot))
      put-in-later order =
          let other = not-same s sound seats are own in
          let some = are.some in
          let before : seats.position < seats.behind - 1 = omega arith in
          let left = gone.left in
          let near = gone.near_right in
          let inside = own-within in
          record {
            parts = record {
              in_range = are.in_range;
              left = omega arith;
              right = own-within;
              one = record { in_range = are.in_range; in_order = omega arith; in_list = own-within };
              two = is_depot;
              three = named;
            };
            makes = sym (plan before);
            at = sym own;
            own = node-one s DepotBefore seats.client (After seats.neighbour) seats.vehicle (of-client s sound seats are);
            few = (let e = foreign-own s seats.vehicle gap.right seats.behind in omega (arith, e));
          }
        where
          plan : seats.position < seats.behind - 1 → put_plan s Before seats.client seats.neighbour depot
              ≡ set s.routes seats.vehicle (slice_range A 0 gap.left ++ (slice_range A gap.right seats.behind ++ (new ++ slice_range A seats.behind (length A))))
          plan before =
              ap tidied_routes (put-later seats.client seats.neighbour are.differ new s.routes (once s sound) seats.vehicle seats.position are.at_client (seats.behind - 1) at-own before)
              ∙ one-tidied s sound seats.vehicle (slice_range A 0 seats.position ++ (slice_range A (seats.position + 1) (seats.behind - 1 + 1) ++ (new ++ slice_range A (seats.behind - 1 + 1) (length A))))
              ∙ ap (set s.routes seats.vehicle) (put-behind A (tidy-at s sound seats.vehicle) (seats.behind - 1) seats.neighbour at-own depot seats.client seats.position before)
              ∙ ap₂ (λ (x y : ℕ). set s.routes seats.vehicle (slice_range A 0 x ++ (slice_range A y (seats.behind - 1 + 1) ++ (new ++ slice_range A (seats.behind - 1 + 1) (length A))))) (left-is s sound seats are gap gone) (right-is s sound seats are gap gone)
              ∙ ap (λ (x : ℕ). set s.routes seats.vehicle (slice_range A 0 gap.left ++ (slice_range A gap.right x ++ (new ++ slice_range A x (length A))))) there

      -- further before
      pub put-in-earlier : seats.behind < seats.position → ArePut s Before seats depot (One (earlier_list seats gap depot))
      put-in-earlier order =
          let left = gone.left in
          let near = gone.near_left in
          let inside = room in
          record {
            parts = record {
              in_range = are.in_range;
              left = own-within;
              right = gone.in_list;
              one = is_depot;
              two = named;
              three = record { in_range = are.in_range; in_order = omega arith; in_list = omega arith };
            };
            makes = sym plan;
            at = sym own;
            own = node-one s DepotBefore seats.client (After seats.neighbour) seats.vehicle (of-client s sound seats are);
            few = (let e = foreign-own s seats.vehicle seats.behind gap.left in omega (arith, e));
          }
        where
          before : seats.behind - 1 < seats.position
          before = omega arith

          front : seats.behind - 1 + 1 < seats.position
          front = let some = are.some in omega arith

          plan : put_plan s Before seats.client seats.neighbour depot
              ≡ set s.routes seats.vehicle (slice_range A 0 seats.behind ++ (new ++ (slice_range A seats.behind gap.left ++ slice_range A gap.right (length A))))
          plan =
              ap tidied_routes (put-earlier seats.client seats.neighbour are.differ new s.routes (once s sound) seats.vehicle seats.position are.at_client (seats.behind - 1) at-own before)
              ∙ one-tidied s sound seats.vehicle (slice_range A 0 (seats.behind - 1 + 1) ++ (new ++ (slice_range A (seats.behind - 1 + 1) seats.position ++ slice_range A (seats.position + 1) (length A))))
              ∙ ap (set s.routes seats.vehicle) (put-before A (tidy-at s sound seats.vehicle) (seats.behind - 1) seats.neighbour at-own depot seats.client seats.position front room)
              ∙ ap₂ (λ (x y : ℕ). set s.routes seats.vehicle (slice_range A 0 (seats.behind - 1 + 1) ++ (new ++ (slice_range A (seats.behind - 1 + 1) x ++ slice_range A y (length A))))) (left-is s sound seats are gap gone) (right-is s sound seats are gap gone)
              ∙ ap (λ (x : ℕ). set s.routes seats.vehicle (slice_range A 0 x ++ (new ++ (slice_range A x gap.left ++ slice_range A gap.right (length A))))) there

      -- where it stands
      pub put-in-place : seats.behind ≡ seats.position → ArePut s Before seats depot (One (same_list seats depot))
      put-in-place same =
          record {
            parts = record {
              in_range = are.in_range;
              left = own-within;
              right = room;
              one = is_depot;
              two = named;
              three = record { in_range = are.in_range; in_order = omega arith; in_list = omega arith };
            };
            makes = sym plan;
            at = sym own;
            own = node-one s DepotBefore seats.client (After seats.neighbour) seats.vehicle (of-client s sound seats are);
            few = (let e = foreign-own s seats.vehicle 0 0 in omega (arith, e));
          }
        where
          before : seats.behind - 1 < seats.position
          before = let some = are.some in omega arith

          here : seats.behind - 1 + 1 ≡ seats.position
          here = there ∙ same

          plan : put_plan s Before seats.client seats.neighbour depot ≡ set s.routes seats.vehicle (slice_range A 0 seats.behind ++ (new ++ slice_range A (seats.position + 1) (length A)))
          plan =
              ap tidied_routes (put-earlier seats.client seats.neighbour are.differ new s.routes (once s sound) seats.vehicle seats.position are.at_client (seats.behind - 1) at-own before)
              ∙ one-tidied s sound seats.vehicle (slice_range A 0 (seats.behind - 1 + 1) ++ (new ++ (slice_range A (seats.behind - 1 + 1) seats.position ++ slice_range A (seats.position + 1) (length A))))
              ∙ ap (λ (x : ℕ). set s.routes seats.vehicle (tidied (slice_range A 0 (seats.behind - 1 + 1) ++ (new ++ (slice_range A x seats.position ++ slice_range A (seats.position + 1) (length A)))))) here
              ∙ ap (λ (xs : List Visit). set s.routes seats.vehicle (tidied (slice_range A 0 (seats.behind - 1 + 1) ++ (new ++ (xs ++ slice_range A (seats.position + 1) (length A)))))) (slice-none A seats.position)
              ∙ ap (set s.routes seats.vehicle) (put-last A (tidy-at s sound seats.vehicle) (seats.behind - 1) seats.neighbour at-own depot seats.client (seats.position + 1) room)
              ∙ ap (λ (x : ℕ). set s.routes seats.vehicle (slice_range A 0 x ++ (new ++ slice_range A (seats.position + 1) (length A)))) there
