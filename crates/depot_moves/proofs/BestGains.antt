-- The best of some gains, with one more.
use Rattle.std.proofs.Common.{◌≡◌, ℕ, ◌<◌, ◌≤◌, inl, inr, Bool, true, false, cond, List, [], ◌∷◌, ◌++◌, refl, sym, ◌∙◌, ap, subst, arith, None, Some, ℤ, pos, ◌-ℤ◌, ◌<ℤ◌, ◌≤ℤ◌}
use Rattle.std.specs.Prelude.{All}
use Rattle.std.proofs.lemmas.Int.{ints}
use Rattle.std.proofs.lemmas.List.{append-nil}
use Rattle.std.proofs.lemmas.List.Elements.{All-append, All-cons, All-nil, filter-append}
use Rattle.list_words.specs.Order.{first_least}
use Rattle.routing_model.specs.Lawful.{is_lawful}
use Rattle.routing_model.specs.Routes.{Routes}
use Rattle.search_model.specs.declared.candidate.Candidate.{Candidate}
use Rattle.gain_model.specs.Gains.{GainState, made}
use Rattle.move_core.specs.Searches.{SearchState}
use Rattle.depot_moves.specs.inside.Gains.{IsBest, IsOwnGain, IsTried, lawful_of, plan_cost}
use Rattle.depot_moves.proofs.LeastPlans.{least-first, least-new, least-old}

module _ (s : SearchState) (candidate : Candidate) (plans : List Routes) (plan : Routes) where
  -- the lawful ones, with one that isn't, and with one that is
  more-without : is_lawful s.problem plan ≡ false → lawful_of s (plans ++ plan ∷ []) ≡ lawful_of s plans
  more-without unlawful =
      filter-append (is_lawful s.problem) plans (plan ∷ [])
      ∙ ap (λ (t : Bool). lawful_of s plans ++ cond t (plan ∷ []) []) unlawful
      ∙ append-nil (lawful_of s plans)

  more-with : is_lawful s.problem plan ≡ true → lawful_of s (plans ++ plan ∷ []) ≡ lawful_of s plans ++ plan ∷ []
  more-with is = filter-append (is_lawful s.problem) plans (plan ∷ []) ∙ ap (λ (t : Bool). lawful_of s plans ++ cond t (plan ∷ []) []) is

  -- a gain's plan costs less
  costs-less : (made_plan : Routes) (gain : GainState) → IsOwnGain s candidate made_plan gain → plan_cost s (made gain s.routes) < plan_cost s s.routes
  costs-less made_plan gain is = less (plan_cost s (made gain s.routes)) (plan_cost s s.routes) gain.amount is.gains.amount is.gains.lowers
    where
      less : (m n : ℕ) (z : ℤ) → z ≡ pos m -ℤ pos n → z <ℤ pos 0 → m < n
      less m n z e h = omega (arith, ints)

  -- as its amount tells
  by-amount : (made_plan other_plan : Routes) (gain other : GainState) → IsOwnGain s candidate made_plan gain → IsOwnGain s candidate other_plan other →
      gain.amount <ℤ other.amount → plan_cost s (made gain s.routes) < plan_cost s (made other s.routes)
  by-amount made_plan other_plan gain other is is' less =
      below (plan_cost s (made gain s.routes)) (plan_cost s (made other s.routes)) (plan_cost s s.routes) gain.amount other.amount is.gains.amount is'.gains.amount less
    where
      below : (m n k : ℕ) (y z : ℤ) → y ≡ pos m -ℤ pos k → z ≡ pos n -ℤ pos k → y <ℤ z → m < n
      below m n k y z e f h = omega (arith, ints)

  by-amount-not : (made_plan other_plan : Routes) (gain other : GainState) → IsOwnGain s candidate made_plan gain → IsOwnGain s candidate other_plan other →
      other.amount ≤ℤ gain.amount → plan_cost s (made other s.routes) ≤ plan_cost s (made gain s.routes)
  by-amount-not made_plan other_plan gain other is is' more =
      below (plan_cost s (made other s.routes)) (plan_cost s (made gain s.routes)) (plan_cost s s.routes) other.amount gain.amount is'.gains.amount is.gains.amount more
    where
      below : (m n k : ℕ) (y z : ℤ) → y ≡ pos m -ℤ pos k → z ≡ pos n -ℤ pos k → y ≤ℤ z → m ≤ n
      below m n k y z e f h = omega (arith, ints)

  own-made : (gain : GainState) → IsOwnGain s candidate plan gain → IsOwnGain s candidate (made gain s.routes) gain
  own-made gain is = subst (λ (rs : Routes). IsOwnGain s candidate rs gain) (sym is.gains.makes) is

  abbrev Dear : Routes → Type 0
  Dear rs = plan_cost s s.routes ≤ plan_cost s rs

  -- the new plan gains nothing
  pub still-none : IsBest s candidate plans None → IsTried s candidate plan None → IsBest s candidate (plans ++ plan ∷ []) None
  still-none dear tried = by (is_lawful s.problem plan) refl tried
    where
      by : (b : Bool) → is_lawful s.problem plan ≡ b → IsTried s candidate plan None → IsBest s candidate (plans ++ plan ∷ []) None
      by false e tried = subst (All Dear) (sym (more-without e)) dear
      by true e (inl unlawful) = let z : true ≡ false = sym e ∙ unlawful in absurd (let w : ⊥ = cc in w)
      by true e (inr more) = subst (All Dear) (sym (more-with e)) (All-append Dear (lawful_of s plans) (plan ∷ []) dear (All-cons Dear plan [] more (All-nil Dear)))

  pub still-best : (old : GainState) → IsBest s candidate plans (Some old) → IsTried s candidate plan None → IsBest s candidate (plans ++ plan ∷ []) (Some old)
  still-best old best tried = record { least = by (is_lawful s.problem plan) refl tried; gains = best.gains }
    where
      by : (b : Bool) → is_lawful s.problem plan ≡ b → IsTried s candidate plan None → first_least (plan_cost s) (lawful_of s (plans ++ plan ∷ [])) ≡ Some (made old s.routes)
      by false e tried = ap (first_least (plan_cost s)) (more-without e) ∙ best.least
      by true e (inl unlawful) = let z : true ≡ false = sym e ∙ unlawful in absurd (let w : ⊥ = cc in w)
      by true e (inr more) =
          let less = costs-less (made old s.routes) old best.gains in
          ap (first_least (plan_cost s)) (more-with e) ∙ least-old (plan_cost s) (lawful_of s plans) (made old s.routes) plan best.least (omega (arith, less, more))

  -- it is the first that gains something
  pub first-best : (new : GainState) → IsBest s candidate plans None → IsTried s candidate plan (Some new) → IsBest s candidate (plans ++ plan ∷ []) (Some new)
  first-best new dear tried =
      let less : plan_cost s plan < plan_cost s s.routes = subst (λ (rs : Routes). plan_cost s rs < plan_cost s s.routes) tried.gains.makes (costs-less plan new tried) in
      record {
        least = ap (first_least (plan_cost s)) (more-with tried.lawful) ∙ least-first (plan_cost s) (lawful_of s plans) (plan_cost s s.routes) plan dear less
            ∙ ap (λ (rs : Routes). Some rs) (sym tried.gains.makes);
        gains = own-made new tried;
      }

  -- it gains more than the best one, and no more
  pub new-best : (old new : GainState) → IsBest s candidate plans (Some old) → IsTried s candidate plan (Some new) → new.amount <ℤ old.amount → IsBest s candidate (plans ++ plan ∷ []) (Some new)
  new-best old new best tried less =
      let below : plan_cost s plan < plan_cost s (made old s.routes) =
      subst (λ (rs : Routes). plan_cost s rs < plan_cost s (made old s.routes)) tried.gains.makes (by-amount plan (made old s.routes) new old tried best.gains less) in
      record {
        least = ap (first_least (plan_cost s)) (more-with tried.lawful) ∙ least-new (plan_cost s) (lawful_of s plans) (made old s.routes) plan best.least below
            ∙ ap (λ (rs : Routes). Some rs) (sym tried.gains.makes);
        gains = own-made new tried;
      }

  pub old-best : (old new : GainState) → IsBest s candidate plans (Some old) → IsTried s candidate plan (Some new) → old.amount ≤ℤ new.amount → IsBest s candidate (plans ++ plan ∷ []) (Some old)
  old-best old new best tried more =
      let above : plan_cost s (made old s.routes) ≤ plan_cost s plan =
      subst (λ (rs : Routes). plan_cost s (made old s.routes) ≤ plan_cost s rs) tried.gains.makes (by-amount-not plan (made old s.routes) new old tried best.gains more) in
      record {
        least = ap (first_least (plan_cost s)) (more-with tried.lawful) ∙ least-old (plan_cost s) (lawful_of s plans) (made old s.routes) plan best.least above;
        gains = best.gains;
      }
