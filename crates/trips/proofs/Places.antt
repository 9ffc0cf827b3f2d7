-- Where lists of stops begin and end, and the leg from one to the next.
use Rattle.std.proofs.Common.{◌≡◌, ℕ, max, List, [], ◌∷◌, ◌++◌, refl, ◌∙◌, ap, sym, Option, Some, None}
use Rattle.routing_model.specs.Clock.{Stop, joint, last_place, released_at}

-- the place of the first stop
abbrev pub first_of : List Stop → Option ℕ
first_of [] = None
first_of (x ∷ xs) = Some x.place

-- the place of the last stop
abbrev pub last_of : List Stop → Option ℕ
last_of [] = None
last_of (x ∷ xs) = Some (last_place x xs)

-- the leg from a place to a place, 0 where one is missing
abbrev leg_between : (ℕ → ℕ → ℕ) → Option ℕ → Option ℕ → ℕ
leg_between leg None to = 0
leg_between leg (Some from) None = 0
leg_between leg (Some from) (Some to) = leg from to

joint-by_places : (leg : ℕ → ℕ → ℕ) (xs ys : List Stop) → joint leg xs ys ≡ leg_between leg (last_of xs) (first_of ys)
joint-by_places leg [] ys = refl
joint-by_places leg (x ∷ xs) [] = refl
joint-by_places leg (x ∷ xs) (y ∷ ys) = refl

-- a leg depends on the places of two stops alone
pub same_joint : (leg : ℕ → ℕ → ℕ) (xs xs' ys ys' : List Stop) → last_of xs ≡ last_of xs' → first_of ys ≡ first_of ys' → joint leg xs ys ≡ joint leg xs' ys'
same_joint leg xs xs' ys ys' lasts firsts =
    joint-by_places leg xs ys ∙ (λ i. leg_between leg (lasts i) (firsts i)) ∙ sym (joint-by_places leg xs' ys')

-- the leg from a place to itself
pub joint_at : (leg : ℕ → ℕ → ℕ) (xs ys : List Stop) (place : ℕ) → last_of xs ≡ Some place → first_of ys ≡ Some place → leg place place ≡ 0 → joint leg xs ys ≡ 0
joint_at leg xs ys place lasts firsts rest =
    joint-by_places leg xs ys ∙ (λ i. leg_between leg (lasts i) (firsts i)) ∙ rest

pub joint-nothing : (leg : ℕ → ℕ → ℕ) (xs : List Stop) → joint leg xs [] ≡ 0
joint-nothing leg [] = refl
joint-nothing leg (x ∷ xs) = refl

pub first_of-append : (xs ys : List Stop) (place : ℕ) → first_of xs ≡ Some place → first_of (xs ++ ys) ≡ Some place
first_of-append [] ys place h = absurd_none h
  where
    absurd_none : None ≡ Some place → first_of ys ≡ Some place
    absurd_none h = cc
first_of-append (x ∷ xs) ys place h = h

pub first_of-released : (moment : ℕ) (xs : List Stop) → first_of (released_at moment xs) ≡ first_of xs
first_of-released moment [] = refl
first_of-released moment (x ∷ xs) = refl

pub last_place-same : (x y : Stop) (xs : List Stop) → x.place ≡ y.place → last_place x xs ≡ last_place y xs
last_place-same x y [] e = e
last_place-same x y (next ∷ xs) e = refl

pub last_of-released : (moment : ℕ) (xs : List Stop) → last_of (released_at moment xs) ≡ last_of xs
last_of-released moment [] = refl
last_of-released moment (x ∷ xs) = ap (λ (place : ℕ). Some place) (last_place-same (record x { gate = max x.gate moment }) x xs refl)

-- behind some stops the last one is the last
last_place-append : (x : Stop) (xs : List Stop) (y : Stop) (ys : List Stop) → last_place x (xs ++ y ∷ ys) ≡ last_place y ys
last_place-append x [] y ys = refl
last_place-append x (next ∷ xs) y ys = last_place-append next xs y ys

pub last_of-append : (xs : List Stop) (y : Stop) (ys : List Stop) → last_of (xs ++ y ∷ ys) ≡ last_of (y ∷ ys)
last_of-append [] y ys = refl
last_of-append (x ∷ xs) y ys = ap (λ (place : ℕ). Some place) (last_place-append x xs y ys)
