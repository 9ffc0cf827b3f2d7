-- Walks from a clock that already shows a duration and a warp, and walks whose first stop is changed.
use Rattle.std.proofs.Common.{◌≡◌, ℕ, ◌+◌, ◌-◌, ◌≤◌, max, List, [], ◌∷◌, ◌++◌, refl, ◌∙◌, ap, arith}
use Rattle.routing_model.specs.Clock.{Stop, Clock, waited, turned_back, passed, served, walked, drive, joint, released_at}
use Rattle.routing_model.proofs.Walks.{started, walked-append}

-- the clock with so much more duration and warp
abbrev pub shifted : ℕ → ℕ → Clock → Clock
shifted duration warp c = record { time = c.time; duration = duration + c.duration; warp = warp + c.warp }

-- clocks are one that show the same
same_clock : (a b : Clock) → a.time ≡ b.time → a.duration ≡ b.duration → a.warp ≡ b.warp → a ≡ b
same_clock a b t d w = λ i. record { time = t i; duration = d i; warp = w i }

waited-shifted : (d w moment : ℕ) (c : Clock) → waited moment (shifted d w c) ≡ shifted d w (waited moment c)
waited-shifted d w moment c = same_clock _ _ refl (omega arith) refl

turned_back-shifted : (d w moment : ℕ) (c : Clock) → turned_back moment (shifted d w c) ≡ shifted d w (turned_back moment c)
turned_back-shifted d w moment c = same_clock _ _ refl refl (omega arith)

passed-shifted : (d w span : ℕ) (c : Clock) → passed span (shifted d w c) ≡ shifted d w (passed span c)
passed-shifted d w span c = same_clock _ _ refl (omega arith) refl

served-shifted : (d w : ℕ) (stop : Stop) (c : Clock) → served stop (shifted d w c) ≡ shifted d w (served stop c)
served-shifted d w stop c =
    ap (λ (b : Clock). passed stop.service (turned_back stop.late (waited stop.early b))) (waited-shifted d w stop.gate c)
    ∙ ap (λ (b : Clock). passed stop.service (turned_back stop.late b)) (waited-shifted d w stop.early _)
    ∙ ap (λ (b : Clock). passed stop.service b) (turned_back-shifted d w stop.late _)
    ∙ passed-shifted d w stop.service _

-- a walk adds to what the clock shows
pub walked-shifted : (leg : ℕ → ℕ → ℕ) (stops : List Stop) (d w : ℕ) (c : Clock) → walked leg stops (shifted d w c) ≡ shifted d w (walked leg stops c)
walked-shifted leg [] d w c = refl
walked-shifted leg (stop ∷ []) d w c = served-shifted d w stop c
walked-shifted leg (stop ∷ next ∷ rest) d w c =
    ap (λ (b : Clock). walked leg (next ∷ rest) (passed (leg stop.place next.place) b)) (served-shifted d w stop c)
    ∙ ap (λ (b : Clock). walked leg (next ∷ rest) b) (passed-shifted d w (leg stop.place next.place) (served stop c))
    ∙ walked-shifted leg (next ∷ rest) d w (passed (leg stop.place next.place) (served stop c))

-- two walks that differ at the first stop alone, which the one leaves as the other does, so much later in duration and warp
walked-first : (leg : ℕ → ℕ → ℕ) (x y : Stop) (xs : List Stop) (d w : ℕ) (a b : Clock) → x.place ≡ y.place →
    served x a ≡ shifted d w (served y b) → walked leg (x ∷ xs) a ≡ shifted d w (walked leg (y ∷ xs) b)
walked-first leg x y [] d w a b place same = same
walked-first leg x y (next ∷ rest) d w a b place same =
    ap (λ (c : Clock). walked leg (next ∷ rest) (passed (leg x.place next.place) c)) same
    ∙ ap (λ (p : ℕ). walked leg (next ∷ rest) (passed (leg p next.place) (shifted d w (served y b)))) place
    ∙ ap (λ (c : Clock). walked leg (next ∷ rest) c) (passed-shifted d w (leg y.place next.place) (served y b))
    ∙ walked-shifted leg (next ∷ rest) d w (passed (leg y.place next.place) (served y b))

-- Where the first stop's gate is open and its window closed at some moment, a later start takes that much more warp, and nothing else changes.
pub walked-late : (leg : ℕ → ℕ → ℕ) (x : Stop) (xs : List Stop) (moment later : ℕ) → x.gate ≤ moment → x.early ≤ x.late → x.late ≤ moment →
    walked leg (x ∷ xs) (started (moment + later)) ≡ shifted 0 later (walked leg (x ∷ xs) (started moment))
walked-late leg x xs moment later gate in_order late =
    walked-first leg x x xs 0 later (started (moment + later)) (started moment) refl
    (same_clock _ _ (omega arith) (omega arith) (omega arith))

-- To hold the first stop back until a moment is to wait until it, and to start then.
pub walked-released : (leg : ℕ → ℕ → ℕ) (x : Stop) (xs : List Stop) (moment start : ℕ) →
    walked leg (released_at moment (x ∷ xs)) (started start) ≡ shifted (moment - start) 0 (walked leg (x ∷ xs) (started (max start moment)))
walked-released leg x xs moment start =
    walked-first leg (record x { gate = max x.gate moment }) x xs (moment - start) 0 (started start) (started (max start moment)) refl
    (same_clock _ _ (omega arith) (omega arith) (omega arith))

-- a walk of two lists, from the end of the first
pub walked-joined : (leg : ℕ → ℕ → ℕ) (xs ys : List Stop) (start : ℕ) →
    walked leg (xs ++ ys) (started start)
    ≡ shifted ((drive leg xs start).duration + joint leg xs ys) (drive leg xs start).warp (walked leg ys (started ((walked leg xs (started start)).time + joint leg xs ys)))
walked-joined leg xs ys start =
    walked-append leg xs ys (started start)
    ∙ ap (λ (c : Clock). walked leg ys c) (same_clock _ _ refl (omega arith) (omega arith))
    ∙ walked-shifted leg ys ((drive leg xs start).duration + joint leg xs ys) (drive leg xs start).warp (started ((walked leg xs (started start)).time + joint leg xs ys))
