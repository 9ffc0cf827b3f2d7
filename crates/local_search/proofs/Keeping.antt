-- What is remembered stays true, and tells which candidates give nothing.
use Rattle.std.proofs.Common.{◌≡◌, ◌⊎◌, inl, inr, ℕ, zero, suc, ◌<◌, Bool, true, false, ◌&&◌, List, [], ◌∷◌, length, get_or, None, refl, sym, arith, subst}
use Rattle.std.specs.Prelude.{slice_index, flat_map, nat_lt}
use Rattle.std.specs.List.{AllByRecursion, range_with_len}
use Rattle.std.proofs.lemmas.Bool.Decides.{nat_tests}
use Rattle.std.proofs.lemmas.List.{get_or_default}
use Rattle.std.proofs.lemmas.List.FromFn.{length-range_with_len}
use Rattle.problem_data.specs.declared.problem.Problem.{Problem}
use Rattle.problem_data.specs.Places.{place_count, type_of, vehicle_count}
use Rattle.routing_model.specs.declared.weights.Weights.{Weights}
use Rattle.search_model.specs.declared.candidate.Candidate.{Candidate}
use Rattle.search_model.specs.declared.candidate.Candidate.TheVariants.{Routes as Pair}
use Rattle.search_model.specs.declared.kind.Kind.{Kind}
use Rattle.search_model.specs.declared.kind.Kind.TheVariants.{SwapRoutes}
use Rattle.search_model.specs.Basis.{Part, client_part, group_parts, unused_part}
use Rattle.gain_model.specs.Operators.{bettered}
use Rattle.descent_memory.specs.Memories.{Moments, Touches, last_count}
use Rattle.descent_memory.specs.Pairs.{pair_place}
use Rattle.descent_memory.specs.Touching.{IsUntouched, IsUntouchedPart}
use Rattle.local_search.specs.inside.Screens.{IsPairUntouched}
use Rattle.local_search.specs.inside.Stages.{IsStage, Keeps, KeepsPairs, RestsSince, Stage, Tried, moment_of_pair}
use Rattle.local_search.specs.inside.Turns.{alone_candidates, empty_candidates, kind_at, kind_candidates, leaving_candidates, moving_candidates, pair_candidates}
use Rattle.local_search.proofs.JoinedTries.{AllNothing}
use Rattle.local_search.proofs.NoMoves.{same_type_nothing}
use Rattle.local_search.proofs.Rests.{first_all, second_all}
use Rattle.local_search.proofs.Tries.{left_out, rests_first}
use Rattle.local_search.proofs.TurnLists.{number_at}

-- facts of all items of joined lists, at one of them
all_at : {X Y : Type 0} (P : Y → Type 0) (f : X → List Y) (xs : List X) (i : ℕ) (d : X) → i < length xs → AllByRecursion P (flat_map f xs) → AllByRecursion P (f (get_or xs i d))
all_at P f [] i d l h = absurd (omega (arith, l))
all_at P f (x ∷ xs) zero d l h = first_all P (f x) (flat_map f xs) h
all_at P f (x ∷ xs) (suc i) d l h = all_at P f xs i d (omega (arith, l)) (second_all P (f x) (flat_map f xs) h)

-- what holds under a condition of all items holds where they all meet it
all_apply : {X : Type 0} (P Q : X → Type 0) (xs : List X) → AllByRecursion (λ x. P x → Q x) xs → AllByRecursion P xs → AllByRecursion Q xs
all_apply P Q [] f h = tt
all_apply P Q (x ∷ xs) f h = (f.0 h.0, all_apply P Q xs f.1 h.1)

module _ (p : Problem) (w : Weights) where
  -- a candidate gives nothing unless it is touched since a moment
  abbrev RestsIn : ℕ → Stage → Candidate → Type 0
  RestsIn moment s c = IsUntouched p s.memory.touches moment c → bettered p w s.search.routes c ≡ None

  -- of nested candidates, those of one item
  pub rests_item : {X : Type 0} (moment : ℕ) (f : X → List Candidate) (xs : List X) (i : ℕ) (d : X) (s : Stage) → i < length xs → RestsSince p w moment (flat_map f xs) s → RestsSince p w moment (f (get_or xs i d)) s
  rests_item moment f xs i d s l r = record { past = r.past; counted = r.counted; rests = all_at (RestsIn moment s) f xs i d l r.rests }

  pub rests_number : (moment : ℕ) (f : ℕ → List Candidate) (n i : ℕ) (s : Stage) → i < n → RestsSince p w moment (flat_map f (range_with_len 0 n)) s → RestsSince p w moment (f i) s
  rests_number moment f n i s l r =
      subst (λ (m : ℕ). RestsSince p w moment (f m) s) (number_at n i l) (rests_item moment f (range_with_len 0 n) i 0 s (rw length-range_with_len l) r)

  -- untouched candidates give nothing
  pub untouched_nothing : (moment : ℕ) (cs : List Candidate) (s : Stage) → RestsSince p w moment cs s → AllByRecursion (IsUntouched p s.memory.touches moment) cs → AllNothing p w cs s.search.routes
  untouched_nothing moment cs s r h = all_apply (IsUntouched p s.memory.touches moment) (λ c. bettered p w s.search.routes c ≡ None) cs r.rests h

-- of the search's own problem and weights
rests_own : (p : Problem) (w : Weights) (moment : Problem → ℕ) (ds : Problem → List Candidate) (s : Stage) → IsStage p w s → RestsSince p w (moment p) (ds p) s →
    RestsSince s.search.problem s.search.weights (moment s.search.problem) (ds s.search.problem) s
rests_own p w moment ds s at r =
    subst (λ (q : Problem). RestsSince q s.search.weights (moment q) (ds q) s) (sym at.problem)
    (subst (λ (v : Weights). RestsSince p v (moment p) (ds p) s) (sym at.weights) r)

pub keeps_own : (p : Problem) (w : Weights) (turn : Problem → ℕ → List Candidate) (s : Stage) → IsStage p w s → Keeps p w (turn p) s → Keeps s.search.problem s.search.weights (turn s.search.problem) s
keeps_own p w turn s at k =
    subst (λ (q : Problem). Keeps q s.search.weights (turn q) s) (sym at.problem)
    (subst (λ (v : Weights). Keeps p v (turn p) s) (sym at.weights) k)

pub keeps_of : (p : Problem) (w : Weights) (turn : Problem → ℕ → List Candidate) (s t : Stage) → IsStage p w s → Keeps s.search.problem s.search.weights (turn s.search.problem) t → Keeps p w (turn p) t
keeps_of p w turn s t at k =
    subst (λ (q : Problem). Keeps q w (turn q) t) at.problem
    (subst (λ (v : Weights). Keeps s.search.problem v (turn s.search.problem) t) at.weights k)

pub pairs_own : (p : Problem) (w : Weights) (s : Stage) → IsStage p w s → KeepsPairs p w s → KeepsPairs s.search.problem s.search.weights s
pairs_own p w s at k =
    subst (λ (q : Problem). KeepsPairs q s.search.weights s) (sym at.problem)
    (subst (λ (v : Weights). KeepsPairs p v s) (sym at.weights) k)

pub pairs_of : (p : Problem) (w : Weights) (s t : Stage) → IsStage p w s → KeepsPairs s.search.problem s.search.weights t → KeepsPairs p w t
pairs_of p w s t at k =
    subst (λ (q : Problem). KeepsPairs q w t) at.problem
    (subst (λ (v : Weights). KeepsPairs s.search.problem v t) at.weights k)

module _ (p : Problem) (w : Weights) (kinds : List Kind) (each : Bool) (cs : List Candidate) (a b : Stage) (f : Tried p w kinds each cs a b) where
  -- what rested still does where candidates are tried
  pub rests_after : (moment : ℕ) (ds : List Candidate) → RestsSince p w moment ds a → RestsSince p w moment ds b
  rests_after moment ds r = rests_first p w kinds moment ds cs b (f.rests moment ds r)

  -- and so does what rested since a turn's moment, as the moments stay
  pub still_rests : (moment : Problem → Moments → ℕ) (ds : Problem → List Candidate) → b.memory.moments ≡ a.memory.moments → RestsSince p w (moment p a.memory.moments) (ds p) a →
      RestsSince b.search.problem b.search.weights (moment b.search.problem b.memory.moments) (ds b.search.problem) b
  still_rests moment ds same r =
      rests_own p w (λ (q : Problem). moment q b.memory.moments) ds b f.stage
      (subst (λ (ms : Moments). RestsSince p w (moment p ms) (ds p) b) (sym same) (rests_after (moment p a.memory.moments) (ds p) r))

  -- what is kept stays true
  pub keeps_after : (turn : ℕ → List Candidate) → b.memory.moments.clients ≡ a.memory.moments.clients → Keeps p w turn a → Keeps p w turn b
  keeps_after turn e k client l =
      subst (λ (ms : List ℕ). RestsSince p w (slice_index ms client) (turn client) b) (sym e)
      (rests_after (slice_index a.memory.moments.clients client) (turn client) (k client l))

  pub pairs_after : b.memory.moments.pairs ≡ a.memory.moments.pairs → KeepsPairs p w a → KeepsPairs p w b
  pairs_after e k i j l m =
      subst (λ (ms : List ℕ). RestsSince p w (slice_index ms (pair_place (vehicle_count p) i j)) (pair_candidates i j) b) (sym e)
      (rests_after (moment_of_pair p a.memory i j) (pair_candidates i j) (k i j l m))

-- the candidates of the kinds at some places of a kit don't depend on groups
abbrev NeedsNoGroup : Problem → ℕ → Type 0
NeedsNoGroup p at = (u : ℕ) → group_parts p (kind_at at) u ≡ []

first_need_none : (p : Problem) → AllByRecursion (NeedsNoGroup p) (range_with_len 0 12)
first_need_none p = ((λ u. refl), ((λ u. refl), ((λ u. refl), ((λ u. refl), ((λ u. refl), ((λ u. refl), ((λ u. refl), ((λ u. refl), ((λ u. refl), ((λ u. refl), ((λ u. refl), ((λ u. refl), tt))))))))))))

module _ (p : Problem) (touches : Touches) (moment : ℕ) where
  abbrev Untouched : Part → Type 0
  Untouched part = IsUntouchedPart touches moment part

  no_group : (at u : ℕ) → NeedsNoGroup p at → AllByRecursion Untouched (group_parts p (kind_at at) u)
  no_group at u n = subst (λ (parts : List Part). AllByRecursion Untouched parts) (sym (n u)) tt

  -- the kinds of an untouched client and an untouched neighbour
  neighbour_untouched : (ats : List ℕ) (u v : ℕ) → AllByRecursion (NeedsNoGroup p) ats → Untouched (client_part u) → Untouched (client_part v) →
      AllByRecursion (IsUntouched p touches moment) (flat_map (kind_candidates u v) ats)
  neighbour_untouched [] u v n hu hv = tt
  neighbour_untouched (at ∷ ats) u v n hu hv = ((hu, (hv, no_group at u n.0)), ((hu, (hv, no_group at u n.0)), neighbour_untouched ats u v n.1 hu hv))

  -- the kinds of an untouched client and a type whose least unused vehicle is untouched
  unused_untouched : (ats : List ℕ) (u type : ℕ) → AllByRecursion (NeedsNoGroup p) ats → Untouched (client_part u) → Untouched (unused_part type) →
      AllByRecursion (IsUntouched p touches moment) (flat_map (empty_candidates u type) ats)
  unused_untouched [] u type n hu ht = tt
  unused_untouched (at ∷ ats) u type n hu ht = ((hu, (ht, no_group at u n.0)), unused_untouched ats u type n.1 hu ht)

pub below : (xs : List ℕ) (i m : ℕ) → i < length xs → get_or xs i 0 < m → get_or xs i last_count < m
below xs i m l h = subst (λ n. n < m) (get_or_default xs i 0 last_count l) h

pub is_below : (a m : ℕ) → nat_lt a m ≡ true → a < m
is_below a m e = grind (arith, nat_tests)

pub both_below : (a b m : ℕ) → (nat_lt a m && nat_lt b m) ≡ true → (a < m) × (b < m)
both_below a b m e = (grind (arith, nat_tests), grind (arith, nat_tests))

module _ (p : Problem) (w : Weights) (kinds : List Kind) (s : Stage) (at : IsStage p w s) (each : Bool) (later : each ≡ false) where
  -- candidates that give nothing are left out
  pub leave_out : (cs : List Candidate) → AllNothing p w cs s.search.routes → Tried p w kinds each cs s s
  leave_out cs h = subst (λ (b : Bool). Tried p w kinds b cs s s) (sym later) (left_out p w kinds cs s at h)

  module _ (u : ℕ) (there : u < place_count p) where
    abbrev moment : ℕ
    moment = slice_index s.memory.moments.clients u

    -- those with an untouched neighbour
    pub neighbour_left_out : (v : ℕ) → v < place_count p → RestsSince p w (slice_index s.memory.moments.clients u) (moving_candidates u v) s →
        (nat_lt (slice_index s.memory.touches.clients u) (slice_index s.memory.moments.clients u) && nat_lt (slice_index s.memory.touches.clients v) (slice_index s.memory.moments.clients u)) ≡ true →
        Tried p w kinds each (moving_candidates u v) s s
    neighbour_left_out v lv r test =
        let h = both_below (slice_index s.memory.touches.clients u) (slice_index s.memory.touches.clients v) moment test in
        leave_out (moving_candidates u v)
        (untouched_nothing p w moment (moving_candidates u v) s r
        (neighbour_untouched p s.memory.touches moment (range_with_len 0 12) u v (first_need_none p)
        (below s.memory.touches.clients u moment (rw at.memory.clients there) h.0)
        (below s.memory.touches.clients v moment (rw at.memory.clients lv) h.1)))

    -- those with a type whose least unused vehicle is untouched
    pub type_left_out : (type : ℕ) → type < length p.types → RestsSince p w (slice_index s.memory.moments.clients u) (leaving_candidates u type) s →
        (nat_lt (slice_index s.memory.touches.clients u) (slice_index s.memory.moments.clients u) && nat_lt (slice_index s.memory.touches.types type) (slice_index s.memory.moments.clients u)) ≡ true →
        Tried p w kinds each (leaving_candidates u type) s s
    type_left_out type l r test =
        let h = both_below (slice_index s.memory.touches.clients u) (slice_index s.memory.touches.types type) moment test in
        leave_out (leaving_candidates u type)
        (untouched_nothing p w moment (leaving_candidates u type) s r
        (unused_untouched p s.memory.touches moment (range_with_len 0 12) u type (first_need_none p)
        (below s.memory.touches.clients u moment (rw at.memory.clients there) h.0)
        (below s.memory.touches.types type moment (rw at.memory.types l) h.1)))

    -- and an untouched client alone
    pub alone_left_out : RestsSince p w (slice_index s.memory.moments.clients u) (alone_candidates u) s →
        nat_lt (slice_index s.memory.touches.clients u) (slice_index s.memory.moments.clients u) ≡ true → Tried p w kinds each (alone_candidates u) s s
    alone_left_out r test =
        let h = below s.memory.touches.clients u moment (rw at.memory.clients there) (is_below (slice_index s.memory.touches.clients u) moment test) in
        leave_out (alone_candidates u) (untouched_nothing p w moment (alone_candidates u) s r ((h, tt), ((h, tt), tt)))

  -- those of an untouched pair of vehicles
  pub pair_left_out : (i j : ℕ) → IsPairUntouched p s.memory i j → RestsSince p w (moment_of_pair p s.memory i j) (pair_candidates i j) s → Tried p w kinds each (pair_candidates i j) s s
  pair_left_out i j untouched r = leave_out (pair_candidates i j) (swapped untouched.types, (r.rests.1.0 untouched.lists, tt))
    where
      swapped : (type_of p i ≡ type_of p j) ⊎ IsUntouched p s.memory.touches (moment_of_pair p s.memory i j) (Pair SwapRoutes i j) → bettered p w s.search.routes (Pair SwapRoutes i j) ≡ None
      swapped (inl e) = same_type_nothing p w s.search.routes i j e
      swapped (inr h) = r.rests.0 h
