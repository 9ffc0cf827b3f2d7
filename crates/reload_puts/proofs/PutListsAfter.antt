-- The new lists of a client that is put behind another one with a reload directly after it make the plan with the reload, tidied.
use Rattle.std.proofs.Common.{◌≡◌, ◌≢◌, ℕ, ◌+◌, ◌-◌, ◌<◌, ◌≤◌, ◌⊎◌, inl, inr, true, false, cond, Bool, List, [], ◌∷◌, ◌++◌, length, get_or, set, refl, sym, ◌∙◌, ap, ap₂, subst, arith, Option, Some, slice_get, slice_range}
use Rattle.std.proofs.lemmas.List.{map-set}
use Rattle.std.proofs.lemmas.Option.{slice_get-get_or}
use Rattle.problem_data.specs.declared.visit.Visit.{Visit}
use Rattle.problem_data.specs.declared.visit.Visit.TheVariants.{Client, Reload}
use Rattle.problem_data.specs.Places.{is_depot_place, vehicle_count}
use Rattle.routing_model.specs.Routes.{Routes, list_at}
use Rattle.routing_model.specs.Tidy.{tidied, tidied_routes}
use Rattle.search_model.specs.declared.candidate.Target.TheVariants as target
use Rattle.search_model.specs.declared.kind.Kind.TheVariants.{DepotAfter}
use Rattle.gain_model.specs.declared.part.Part.TheVariants as part
use Rattle.gain_model.specs.Gains.{part_visits}
use Rattle.route_cache.proofs.Slices.{slice-none}
use Rattle.move_core.specs.Searches.{IsSound, SearchState}
use Rattle.new_lists.specs.declared.new_list.NewLists.TheVariants.{One, Two}
use Rattle.new_lists.specs.NewLists.{IsPart, list_of}
use Rattle.new_lists.specs.Reads.{foreign_visits}
use Rattle.new_lists.proofs.MadeLists.{has-part}
use Rattle.list_changes.specs.declared.gap.Gap.{Gap}
use Rattle.list_changes.specs.Gaps.{IsGap}
use Rattle.list_changes.proofs.NodeVehicles.{node-one, node-two}
use Rattle.reload_puts.specs.declared.beside.Beside.TheVariants.{After}
use Rattle.reload_puts.specs.declared.ending.Ending.{Ending}
use Rattle.reload_puts.specs.declared.seats.Seats.{Seats}
use Rattle.reload_puts.specs.PutLists.{ArePut}
use Rattle.reload_puts.specs.Puts.{put_plan}
use Rattle.reload_puts.specs.Seats.{AreSeats}
use Rattle.reload_puts.specs.inside.Endings.{ending_by}
use Rattle.reload_puts.specs.inside.Lists.{left_list}
use Rattle.reload_puts.specs.inside.ListsAfter.{earlier_list_after, joined_list_after, kept_part, later_list_after, same_list_after}
use Rattle.reload_puts.proofs.EndingLists.{ended, ending-behind, ending-inside}
use Rattle.reload_puts.proofs.ReloadPuts.{put-across, put-earlier, put-later}
use Rattle.reload_puts.proofs.SeatedClients.{behind-it, behind-there, client-there, foreign-own, left-is, neighbour-there, not-same, of-client, of-neighbour, once, one-tidied, own-there, position-there, right-is, tidy-at, without-client}
use Rattle.reload_puts.proofs.TidyPutsAfter.{after-before, after-behind, after-last, after-reload}

-- the reload where it stays is there, is no visit of another list, and is laid
kept-part : (s : SearchState) (v depot : ℕ) (stays : Bool) → v < vehicle_count s.problem → is_depot_place s.problem depot ≡ true → IsPart s (kept_part v depot stays)
kept-part s v depot true in_range is = is
kept-part s v depot false in_range is = record { in_range = in_range; in_order = omega arith; in_list = omega arith }

kept-own : (s : SearchState) (v depot : ℕ) (stays : Bool) → foreign_visits s v (kept_part v depot stays) ≡ 0
kept-own s v depot true = refl
kept-own s v depot false = foreign-own s v 0 0

kept-visits : (routes : Routes) (v depot : ℕ) (stays : Bool) → part_visits routes (kept_part v depot stays) ≡ cond stays (Reload depot ∷ []) []
kept-visits routes v depot true = refl
kept-visits routes v depot false = refl

same_or_before : (k n : ℕ) → k ≤ n → (k ≡ n) ⊎ (k < n)
same_or_before k n h = grind arith

module _ (s : SearchState) (sound : IsSound s) (seats : Seats) (are : AreSeats s seats) (depot : ℕ) (is_depot : is_depot_place s.problem depot ≡ true) where
  abbrev A : List Visit
  A = list_at s.routes seats.vehicle

  abbrev B : List Visit
  B = list_at s.routes seats.other

  abbrev new : List Visit
  new = Client seats.client ∷ Reload depot ∷ []

  room : seats.position + 1 ≤ length A
  room = position-there s sound seats are

  within : seats.behind ≤ length B
  within = behind-there s sound seats are

  there : seats.behind - 1 + 1 ≡ seats.behind
  there = behind-it s sound seats are

  module _ (gap : Gap) (gone : IsGap A seats.position (seats.position + 1) gap) where
    -- in another list
    module _ (ending : Ending) (is : ending ≡ ending_by (slice_get B seats.behind) seats.behind) where
      pub after-in-other : seats.other ≢ seats.vehicle → ArePut s After seats depot (Two (left_list seats gap) (joined_list_after seats ending depot))
      after-in-other apart = record {
        parts = record {
          first = has-part s seats.vehicle gap.left (part.Run seats.vehicle 0 0) gap.right are.in_range (let e = gone.left in omega arith) gone.in_list
              (record { in_range = are.in_range; in_order = omega arith; in_list = omega arith });
          second = record {
            in_range = are.other_in_range;
            left = within;
            right = subst (λ (e : Ending). e.right ≤ length B) (sym is) (ending-inside B seats.behind within);
            one = client-there s sound seats are;
            two = kept-part s seats.other depot ending.stays are.other_in_range is_depot;
            three = record { in_range = are.other_in_range; in_order = omega arith; in_list = omega arith };
          };
          apart = apart;
        };
        makes = ap (set (set s.routes seats.vehicle (slice_range A 0 gap.left ++ slice_range A gap.right (length A))) seats.other) laid ∙ sym plan;
        at = refl;
        own = node-two s DepotAfter seats.client (target.After seats.neighbour) seats.vehicle (of-client s sound seats are) seats.other (of-neighbour s sound seats are);
        few = (let e = foreign-own s seats.vehicle 0 0 in let f = foreign-own s seats.other 0 0 in let g = kept-own s seats.other depot ending.stays in omega (arith, e, f, g));
      }
        where
          laid : list_of s.routes (joined_list_after seats ending depot) ≡ slice_range B 0 seats.behind ++ (Client seats.client ∷ ended B depot ending)
          laid =
              ap (λ (xs : List Visit). slice_range B 0 seats.behind ++ (Client seats.client ∷ (xs ++ slice_range B ending.right (length B)))) (kept-visits s.routes seats.other depot ending.stays)

          plan : put_plan s After seats.client seats.neighbour depot
              ≡ set (set s.routes seats.vehicle (slice_range A 0 gap.left ++ slice_range A gap.right (length A))) seats.other (slice_range B 0 seats.behind ++ (Client seats.client ∷ ended B depot ending))
          plan =
              ap tidied_routes (put-across seats.client seats.neighbour are.differ new s.routes (once s sound) seats.vehicle seats.position are.at_client seats.other (seats.behind - 1) are.at_neighbour apart)
              ∙ map-set tidied (set s.routes seats.vehicle (slice_range A 0 seats.position ++ slice_range A (seats.position + 1) (length A))) seats.other
              (slice_range B 0 (seats.behind - 1 + 1) ++ (new ++ slice_range B (seats.behind - 1 + 1) (length B)))
              ∙ ap₂ (λ (rs : Routes) (ys : List Visit). set rs seats.other ys)
              (one-tidied s sound seats.vehicle (slice_range A 0 seats.position ++ slice_range A (seats.position + 1) (length A)) ∙ ap (set s.routes seats.vehicle) (without-client s sound seats are gap gone))
              (after-last B (tidy-at s sound seats.other) (seats.behind - 1) seats.neighbour are.at_neighbour depot seats.client (seats.behind - 1 + 1) (let e = within in let f = there in omega arith))
              ∙ ap (λ (x : ℕ). set (set s.routes seats.vehicle (slice_range A 0 gap.left ++ slice_range A gap.right (length A))) seats.other (slice_range B 0 x ++ (Client seats.client ∷ ended B depot (ending_by (slice_get B x) x)))) there
              ∙ ap (λ (e : Ending). set (set s.routes seats.vehicle (slice_range A 0 gap.left ++ slice_range A gap.right (length A))) seats.other (slice_range B 0 seats.behind ++ (Client seats.client ∷ ended B depot e))) (sym is)

    -- in its own list
    module _ (own : seats.other ≡ seats.vehicle) where
      at-own : slice_get A (seats.behind - 1) ≡ Some (Client seats.neighbour)
      at-own = neighbour-there s sound seats are own

      own-within : seats.behind ≤ length A
      own-within = own-there s sound seats are own

      module _ (ending : Ending) (is : ending ≡ ending_by (slice_get B seats.behind) seats.behind) where
        is-own : ending ≡ ending_by (slice_get A seats.behind) seats.behind
        is-own = subst (λ (v : ℕ). ending ≡ ending_by (slice_get (list_at s.routes v) seats.behind) seats.behind) own is

        -- further behind
        pub after-in-later : seats.position < seats.behind → ArePut s After seats depot (One (later_list_after seats gap ending depot))
        after-in-later order =
            let other = not-same s sound seats are own in
            let some = are.some in
            let before : seats.position < seats.behind - 1 = omega arith in
            let left = gone.left in
            let near = gone.near_right in
            let inside = own-within in
            record {
              parts = record {
                in_range = are.in_range;
                left = omega arith;
                right = subst (λ (e : Ending). e.right ≤ length A) (sym is-own) (ending-inside A seats.behind own-within);
                one = record { in_range = are.in_range; in_order = omega arith; in_list = own-within };
                two = client-there s sound seats are;
                three = kept-part s seats.vehicle depot ending.stays are.in_range is_depot;
              };
              makes = ap (set s.routes seats.vehicle) laid ∙ sym (plan before);
              at = sym own;
              own = node-one s DepotAfter seats.client (target.After seats.neighbour) seats.vehicle (of-client s sound seats are);
              few = (let e = foreign-own s seats.vehicle gap.right seats.behind in let f = kept-own s seats.vehicle depot ending.stays in omega (arith, e, f));
            }
          where
            laid : list_of s.routes (later_list_after seats gap ending depot) ≡ slice_range A 0 gap.left ++ (slice_range A gap.right seats.behind ++ (Client seats.client ∷ ended A depot ending))
            laid =
                ap (λ (xs : List Visit). slice_range A 0 gap.left ++ (slice_range A gap.right seats.behind ++ (Client seats.client ∷ (xs ++ slice_range A ending.right (length A)))))
                (kept-visits s.routes seats.vehicle depot ending.stays)

            plan : seats.position < seats.behind - 1 → put_plan s After seats.client seats.neighbour depot
                ≡ set s.routes seats.vehicle (slice_range A 0 gap.left ++ (slice_range A gap.right seats.behind ++ (Client seats.client ∷ ended A depot ending)))
            plan before =
                ap tidied_routes (put-later seats.client seats.neighbour are.differ new s.routes (once s sound) seats.vehicle seats.position are.at_client (seats.behind - 1) at-own before)
                ∙ one-tidied s sound seats.vehicle (slice_range A 0 seats.position ++ (slice_range A (seats.position + 1) (seats.behind - 1 + 1) ++ (new ++ slice_range A (seats.behind - 1 + 1) (length A))))
                ∙ ap (set s.routes seats.vehicle) (after-behind A (tidy-at s sound seats.vehicle) (seats.behind - 1) seats.neighbour at-own depot seats.client seats.position before)
                ∙ ap₂ (λ (x y : ℕ). set s.routes seats.vehicle (slice_range A 0 x ++ (slice_range A y (seats.behind - 1 + 1)
                ++ (Client seats.client ∷ ended A depot (ending_by (slice_get A (seats.behind - 1 + 1)) (seats.behind - 1 + 1)))))) (left-is s sound seats are gap gone) (right-is s sound seats are gap gone)
                ∙ ap (λ (x : ℕ). set s.routes seats.vehicle (slice_range A 0 gap.left ++ (slice_range A gap.right x ++ (Client seats.client ∷ ended A depot (ending_by (slice_get A x) x))))) there
                ∙ ap (λ (e : Ending). set s.routes seats.vehicle (slice_range A 0 gap.left ++ (slice_range A gap.right seats.behind ++ (Client seats.client ∷ ended A depot e)))) (sym is-own)

        -- further before
        pub after-in-earlier : seats.behind ≤ seats.position → ending.right < seats.position → ArePut s After seats depot (One (earlier_list_after seats gap ending.right depot))
        after-in-earlier order more =
            let left = gone.left in
            let near = gone.near_left in
            let inside = room in
            record {
              parts = record {
                in_range = are.in_range;
                left = own-within;
                right = gone.in_list;
                one = client-there s sound seats are;
                two = is_depot;
                three = record { in_range = are.in_range; in_order = omega arith; in_list = omega arith };
              };
              makes = sym plan;
              at = sym own;
              own = node-one s DepotAfter seats.client (target.After seats.neighbour) seats.vehicle (of-client s sound seats are);
              few = (let e = foreign-own s seats.vehicle ending.right gap.left in omega (arith, e));
            }
          where
            behind : seats.behind ≤ ending.right
            behind = subst (λ (e : Ending). seats.behind ≤ e.right) (sym is-own) (ending-behind (slice_get A seats.behind) seats.behind)

            before : seats.behind - 1 < seats.position
            before = let e = behind in omega arith

            front : seats.behind - 1 + 1 < seats.position
            front = let e = behind in let f = there in omega arith

            more-there : (ending_by (slice_get A (seats.behind - 1 + 1)) (seats.behind - 1 + 1)).right < seats.position
            more-there = subst (λ (x : ℕ). (ending_by (slice_get A x) x).right < seats.position) (sym there) (subst (λ (e : Ending). e.right < seats.position) is-own more)

            plan : put_plan s After seats.client seats.neighbour depot
                ≡ set s.routes seats.vehicle (slice_range A 0 seats.behind ++ (new ++ (slice_range A ending.right gap.left ++ slice_range A gap.right (length A))))
            plan =
                ap tidied_routes (put-earlier seats.client seats.neighbour are.differ new s.routes (once s sound) seats.vehicle seats.position are.at_client (seats.behind - 1) at-own before)
                ∙ one-tidied s sound seats.vehicle
                (slice_range A 0 (seats.behind - 1 + 1) ++ (new ++ (slice_range A (seats.behind - 1 + 1) seats.position ++ slice_range A (seats.position + 1) (length A))))
                ∙ ap (set s.routes seats.vehicle) (after-before A (tidy-at s sound seats.vehicle) (seats.behind - 1) seats.neighbour at-own depot seats.client seats.position front room more-there)
                ∙ ap₂ (λ (x y : ℕ). set s.routes seats.vehicle (slice_range A 0 (seats.behind - 1 + 1)
                ++ (new ++ (slice_range A (ending_by (slice_get A (seats.behind - 1 + 1)) (seats.behind - 1 + 1)).right x ++ slice_range A y (length A))))) (left-is s sound seats are gap gone) (right-is s sound seats are gap gone)
                ∙ ap (λ (x : ℕ). set s.routes seats.vehicle (slice_range A 0 x ++ (new ++ (slice_range A (ending_by (slice_get A x) x).right gap.left ++ slice_range A gap.right (length A))))) there
                ∙ ap (λ (e : Ending). set s.routes seats.vehicle (slice_range A 0 seats.behind ++ (new ++ (slice_range A e.right gap.left ++ slice_range A gap.right (length A))))) (sym is-own)

        -- where it stands
        pub after-in-place : seats.behind ≤ seats.position → seats.position ≤ ending.right → (rest : Ending) → rest ≡ ending_by (slice_get A (seats.position + 1)) (seats.position + 1) →
            ArePut s After seats depot (One (same_list_after seats rest depot))
        after-in-place order near rest rest-is =
            record {
              parts = record {
                in_range = are.in_range;
                left = own-within;
                right = subst (λ (e : Ending). e.right ≤ length A) (sym rest-is) (ending-inside A (seats.position + 1) room);
                one = client-there s sound seats are;
                two = kept-part s seats.vehicle depot rest.stays are.in_range is_depot;
                three = record { in_range = are.in_range; in_order = omega arith; in_list = omega arith };
              };
              makes = ap (set s.routes seats.vehicle) laid ∙ sym plan;
              at = sym own;
              own = node-one s DepotAfter seats.client (target.After seats.neighbour) seats.vehicle (of-client s sound seats are);
              few = (let e = foreign-own s seats.vehicle 0 0 in let f = kept-own s seats.vehicle depot rest.stays in omega (arith, e, f));
            }
          where
            back : List Visit
            back = slice_range A (seats.position + 1) (length A)

            laid : list_of s.routes (same_list_after seats rest depot) ≡ slice_range A 0 seats.behind ++ (Client seats.client ∷ ended A depot rest)
            laid =
                ap (λ (xs : List Visit). slice_range A 0 seats.behind ++ (Client seats.client ∷ (xs ++ slice_range A rest.right (length A)))) (kept-visits s.routes seats.vehicle depot rest.stays)

            before : seats.behind - 1 < seats.position
            before = let some = are.some in omega arith

            -- nothing stands in between
            beside : seats.behind ≡ seats.position → tidied (slice_range A 0 (seats.behind - 1 + 1) ++ (new ++ (slice_range A (seats.behind - 1 + 1) seats.position ++ back)))
                ≡ slice_range A 0 (seats.behind - 1 + 1) ++ (Client seats.client ∷ ended A depot (ending_by (slice_get A (seats.position + 1)) (seats.position + 1)))
            beside same =
                ap (λ (x : ℕ). tidied (slice_range A 0 (seats.behind - 1 + 1) ++ (new ++ (slice_range A x seats.position ++ back)))) (there ∙ same)
                ∙ ap (λ (xs : List Visit). tidied (slice_range A 0 (seats.behind - 1 + 1) ++ (new ++ (xs ++ back)))) (slice-none A seats.position)
                ∙ after-last A (tidy-at s sound seats.vehicle) (seats.behind - 1) seats.neighbour at-own depot seats.client (seats.position + 1) room

            -- one reload does
            across-reload : (other : ℕ) → slice_get A seats.behind ≡ Some (Reload other) → seats.behind + 1 ≡ seats.position →
                tidied (slice_range A 0 (seats.behind - 1 + 1) ++ (new ++ (slice_range A (seats.behind - 1 + 1) seats.position ++ back)))
                ≡ slice_range A 0 (seats.behind - 1 + 1) ++ (Client seats.client ∷ ended A depot (ending_by (slice_get A (seats.position + 1)) (seats.position + 1)))
            across-reload other reload next =
                let e : seats.position ≡ seats.behind - 1 + 1 + 1 = let f = there in omega arith in
                ap (λ (x : ℕ). tidied (slice_range A 0 (seats.behind - 1 + 1) ++ (new ++ (slice_range A (seats.behind - 1 + 1) x ++ back)))) e
                ∙ after-reload A (tidy-at s sound seats.vehicle) (seats.behind - 1) seats.neighbour at-own depot seats.client (seats.position + 1) other room (ap (slice_get A) there ∙ reload)

            ends : (x : Visit) → slice_get A seats.behind ≡ Some x → seats.position ≤ (ending_by (Some x) seats.behind).right
            ends x at = subst (λ (o : Option Visit). seats.position ≤ (ending_by o seats.behind).right) at (subst (λ (e : Ending). seats.position ≤ e.right) is-own near)

            between : (x : Visit) → slice_get A seats.behind ≡ Some x → seats.behind < seats.position → tidied (slice_range A 0 (seats.behind - 1 + 1) ++ (new ++ (slice_range A (seats.behind - 1 + 1) seats.position ++ back)))
                ≡ slice_range A 0 (seats.behind - 1 + 1) ++ (Client seats.client ∷ ended A depot (ending_by (slice_get A (seats.position + 1)) (seats.position + 1)))
            between (Client place) at less = absurd (let e : seats.position ≤ seats.behind = ends (Client place) at in omega (arith, e, less))
            between (Reload other) at less = across-reload other at (let e : seats.position ≤ seats.behind + 1 = ends (Reload other) at in omega (arith, e, less))

            list-tidied : ((seats.behind ≡ seats.position) ⊎ (seats.behind < seats.position)) → tidied (slice_range A 0 (seats.behind - 1 + 1) ++ (new ++ (slice_range A (seats.behind - 1 + 1) seats.position ++ back)))
                ≡ slice_range A 0 (seats.behind - 1 + 1) ++ (Client seats.client ∷ ended A depot (ending_by (slice_get A (seats.position + 1)) (seats.position + 1)))
            list-tidied (inl same) = beside same
            list-tidied (inr less) = between (get_or A seats.behind (Client 0)) (slice_get-get_or A seats.behind (Client 0) (let e = room in omega arith)) less

            plan : put_plan s After seats.client seats.neighbour depot ≡ set s.routes seats.vehicle (slice_range A 0 seats.behind ++ (Client seats.client ∷ ended A depot rest))
            plan =
                ap tidied_routes (put-earlier seats.client seats.neighbour are.differ new s.routes (once s sound) seats.vehicle seats.position are.at_client (seats.behind - 1) at-own before)
                ∙ one-tidied s sound seats.vehicle
                (slice_range A 0 (seats.behind - 1 + 1) ++ (new ++ (slice_range A (seats.behind - 1 + 1) seats.position ++ back)))
                ∙ ap (set s.routes seats.vehicle) (list-tidied (same_or_before seats.behind seats.position order))
                ∙ ap (λ (x : ℕ). set s.routes seats.vehicle (slice_range A 0 x ++ (Client seats.client ∷ ended A depot (ending_by (slice_get A (seats.position + 1)) (seats.position + 1))))) there
                ∙ ap (λ (e : Ending). set s.routes seats.vehicle (slice_range A 0 seats.behind ++ (Client seats.client ∷ ended A depot e))) (sym rest-is)
