-- The trials that a look speaks of: what they change, and their new lists.
use Rattle.std.proofs.Common.{◌≡◌, ◌≢◌, ℕ, suc, ◌+◌, ◌-◌, ◌≤◌, refl, ◌∙◌, ap, subst, arith, None}
use Rattle.problem_data.specs.Places.{leg_distance}
use Rattle.routing_model.specs.Routes.{list_at}
use Rattle.search_model.specs.declared.candidate.Target.TheVariants.{After}
use Rattle.search_model.specs.Edits.{piece}
use Rattle.search_model.proofs.ClientPlaces.{stands-at}
use Rattle.move_core.specs.Searches.{IsSound, SearchState}
use Rattle.list_changes.specs.declared.change.Change.TheVariants.{Two}
use Rattle.list_changes.specs.declared.gap.Gap.{Gap}
use Rattle.exchange_screens.specs.declared.lent.Lent.{Lent}
use Rattle.exchange_screens.specs.declared.seat.Seat.{Seat}
use Rattle.exchange_screens.specs.declared.trial.Trial.{Trial}
use Rattle.list_changes.specs.Changes.{CostsNoLess, IsSide}
use Rattle.exchange_screens.specs.Trials.{IsAnswer, IsChange}
use Rattle.list_changes.specs.Aims.{IsAim}
use Rattle.list_changes.specs.Gaps.{IsGap}
use Rattle.list_changes.specs.Bounds.{IsPaid}
use Rattle.exchange_screens.specs.inside.Lents.{IsLent, layout_of}
use Rattle.exchange_screens.specs.inside.Pieces.{IsPieceFrom}
use Rattle.exchange_screens.specs.inside.Seats.{IsSeat, IsTaken, piece_at, place_in}
use Rattle.list_changes.specs.Layouts.{left_layout, lent_layout}
use Rattle.exchange_screens.proofs.Changes.{across-change, swap-across}
use Rattle.exchange_screens.proofs.DearTrials.{dear-answer}
use Rattle.exchange_screens.proofs.PutLaws.{no-piece}
use Rattle.exchange_screens.proofs.SwapLaws.{no-first, no-second}

-- the trial of an exchange behind a client
abbrev pub behind : ℕ → ℕ → ℕ → ℕ → Trial
behind n m client neighbour = record { n = n; m = m; client = client; target = After neighbour }

module _ (s : SearchState) (sound : IsSound s) (u v : Seat) (is : IsSeat s u) (is' : IsSeat s v) (n : ℕ) (some : 1 ≤ n) (few : n ≤ 3) where
  -- a piece that isn't there goes nowhere
  pub put-none : piece s.routes n u.client ≡ None → IsAnswer s (behind n 0 u.client v.client) None
  put-none none = no-piece s sound (behind n 0 u.client v.client) refl some few none

  -- behind the other client
  aim : IsAim s (After v.client) (record { vehicle = v.vehicle; place = v.place })
  aim = record { in_range = is'.in_range; names = record { some = is'.some; stands = (stands-at s.routes v.client v.vehicle v.place is'.position).1 } }

  module _ (apart : v.vehicle ≢ u.vehicle) where
    pub put-change : IsPieceFrom s u.client n (piece_at u n) → (gap : Gap) → IsGap (list_at s.routes u.vehicle) (u.place - 1) (u.place - 1 + n) gap →
        IsChange s (behind n 0 u.client v.client) (Two u.vehicle v.vehicle (left_layout gap.left gap.right) (lent_layout v.place v.place (u.place - 1) (u.place - 1 + n)))
    put-change there gap gone = across-change s sound (behind n 0 u.client v.client) some few (piece_at u n) there refl (record { vehicle = v.vehicle; place = v.place }) aim gap gone apart

    module _ (m : ℕ) (other : 1 ≤ m) (fewer : m ≤ n) where
      least : m ≡ suc (m - 1)
      least = omega arith

      pub swap-change : IsPieceFrom s u.client n (piece_at u n) → IsPieceFrom s v.client m (piece_at v m) →
          IsChange s (behind n m u.client v.client)
          (Two u.vehicle v.vehicle (lent_layout (u.place - 1) (u.place - 1 + n) (v.place - 1) (v.place - 1 + m)) (lent_layout (v.place - 1) (v.place - 1 + m) (u.place - 1) (u.place - 1 + n)))
      swap-change there there' = swap-across s sound (behind n m u.client v.client) some few (piece_at u n) there (m - 1) v.client least fewer refl (piece_at v m) there' apart

  module _ (m : ℕ) (other : 1 ≤ m) (fewer : m ≤ n) where
    more : m ≡ suc (m - 1)
    more = omega arith

    pub swap-no_first : piece s.routes n u.client ≡ None → IsAnswer s (behind n m u.client v.client) None
    swap-no_first none = no-first s sound (behind n m u.client v.client) (m - 1) v.client more some few fewer refl none

    pub swap-no_second : piece s.routes m v.client ≡ None → IsAnswer s (behind n m u.client v.client) None
    swap-no_second none = no-second s sound (behind n m u.client v.client) (m - 1) v.client more some few fewer refl none

-- a list with the piece of m of another client in the place of a client's own piece of n
pub is-replaced : (s : SearchState) (u v : Seat) → IsSeat s u → IsSeat s v → (n m paid come : ℕ) → IsTaken s u n paid → 1 ≤ m →
    come ≡ leg_distance s.problem u.profile (place_in s u.vehicle (u.place - 1)) (place_in s v.vehicle v.place) →
    IsSide s u.vehicle v.vehicle (lent_layout (u.place - 1) (u.place - 1 + n) (v.place - 1) (v.place - 1 + m)) →
    IsLent s (record { seat = u; left = u.place - 1; right = u.place - 1 + n; first = v.place - 1; end = v.place - 1 + m; paid = paid; come = come }) v.vehicle
is-replaced s u v is is' n m paid come taken other leg side = record {
  seat = is;
  side = side;
  some = omega arith;
  goes = record { cut = taken.goes.cut; holds = taken.goes.holds };
  come = leg ∙ ap (λ (i : ℕ). leg_distance s.problem u.profile (place_in s u.vehicle (u.place - 1)) (place_in s v.vehicle i)) (at v.place is'.some);
}
  where
    at : (k : ℕ) → 1 ≤ k → k ≡ k - 1 + 1
    at k some = omega arith

-- and with it behind a client
pub is-put : (s : SearchState) (u v : Seat) → IsSeat s u → IsSeat s v → (n paid come : ℕ) → IsPaid s v.vehicle (left_layout v.place v.place) paid → 1 ≤ n →
    come ≡ leg_distance s.problem v.profile (place_in s v.vehicle v.place) (place_in s u.vehicle u.place) →
    IsSide s v.vehicle u.vehicle (lent_layout v.place v.place (u.place - 1) (u.place - 1 + n)) →
    IsLent s (record { seat = v; left = v.place; right = v.place; first = u.place - 1; end = u.place - 1 + n; paid = paid; come = come }) u.vehicle
is-put s u v is is' n paid come goes some leg side = record {
  seat = is';
  side = side;
  some = omega arith;
  goes = record { cut = goes.cut; holds = goes.holds };
  come = leg ∙ ap (λ (i : ℕ). leg_distance s.problem v.profile (place_in s v.vehicle v.place) (place_in s u.vehicle i)) (at u.place is.some);
}
  where
    at : (k : ℕ) → 1 ≤ k → k ≡ k - 1 + 1
    at k some = omega arith

-- nothing, where two vehicles cost no less with such lists
pub lent-answer : (s : SearchState) (trial : Trial) (one two x y : Lent) → x ≡ one → y ≡ two → IsChange s trial (Two one.seat.vehicle two.seat.vehicle (layout_of one) (layout_of two)) →
    CostsNoLess s (Two x.seat.vehicle y.seat.vehicle (layout_of x) (layout_of y)) → IsAnswer s trial None
lent-answer s trial one two x y e f change dear =
    dear-answer s trial (Two one.seat.vehicle two.seat.vehicle (layout_of one) (layout_of two)) change
    (subst (λ (l : Lent). CostsNoLess s (Two l.seat.vehicle two.seat.vehicle (layout_of l) (layout_of two))) e
    (subst (λ (l : Lent). CostsNoLess s (Two x.seat.vehicle l.seat.vehicle (layout_of x) (layout_of l))) f dear))
