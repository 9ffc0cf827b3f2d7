-- Whether a visit clashes with some clients, by marks.
use Rattle.std.proofs.Common.{◌≡◌, ◌∙◌, ℕ, ◌<◌, ◌||◌, Bool, false, List, [], ◌∷◌, IsTrue, Option, Some, None, ap, ap₂, refl, sym}
use Rattle.std.specs.Prelude.{nat_le, nat_lt}
use Rattle.std.specs.List.{list_any}
use Rattle.std.proofs.lemmas.Bool.{and_parts, ltb-true}
use Rattle.list_words.specs.Lists.{is_in}
use Rattle.problem_data.specs.declared.problem.Problem.{Problem}
use Rattle.problem_data.specs.declared.visit.Visit.{Visit}
use Rattle.problem_data.specs.declared.visit.Visit.TheVariants.{Client}
use Rattle.problem_data.specs.Places.{client_at, depot_count, is_client_place, place_count}
use Rattle.random_model.specs.Groups.{is_same_group}
use Rattle.genetic_model.specs.RouteChildren.{clashes}

pub client-below : (p : Problem) (place : ℕ) → IsTrue (is_client_place p place) → place < place_count p
client-below p place h = let both = and_parts (nat_le (depot_count p) place) (nat_lt place (place_count p)) h in ltb-true place (place_count p) both.1

module _ (p : Problem) (clients : List ℕ) (place : ℕ) (visit : Visit) (is : visit ≡ Client place) (not_one : is_in clients place ≡ false) where
  by-group : (o : Option ℕ) → (client_at p place).group ≡ o → clashes p clients visit ≡ list_any (λ c. is_same_group o (client_at p c).group) clients
  by-group o e =
      ap (clashes p clients) is
      ∙ ap₂ (λ (b : Bool) (g : Option ℕ). b || list_any (λ c. is_same_group g (client_at p c).group) clients) not_one e

  -- of a client in a group
  pub clash-in_group : (group : ℕ) (b : Bool) → (client_at p place).group ≡ Some group → b ≡ list_any (λ c. is_same_group (Some group) (client_at p c).group) clients → b ≡ clashes p clients visit
  clash-in_group group b e h = h ∙ sym (by-group (Some group) e)

  -- of a client without a group
  pub clash-alone : (client_at p place).group ≡ None → false ≡ clashes p clients visit
  clash-alone e = sym (by-group None e ∙ none clients)
    where
      none : (cs : List ℕ) → list_any (λ c. is_same_group None (client_at p c).group) cs ≡ false
      none [] = refl
      none (c ∷ cs) = none cs
