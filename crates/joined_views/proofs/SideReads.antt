-- How many legs a new list's views take.
use Rattle.std.proofs.Common.{◌≡◌, ℕ, zero, suc, ◌+◌, ◌-◌, ◌<◌, ◌≤◌, Bool, true, false, ◌||◌, List, [], ◌∷◌, length, get_or, map, take, drop, refl, ◌∙◌, ap, sym, arith, None}
use Rattle.std.specs.Prelude.{sum_by, if◌then◌else◌}
use Rattle.std.specs.List.{list_any}
use Rattle.std.proofs.Math.Seq.{drop-cons}
use Rattle.std.proofs.lemmas.List.{drop_all, length-map, take-append-drop, take_more}
use Rattle.std.proofs.lemmas.List.Sums.{sum_by-append, sum_by-cons}
use Rattle.std.proofs.lemmas.List.Elements.{All-get_or}
use Rattle.problem_data.specs.declared.problem.Problem.{Problem}
use Rattle.problem_data.specs.declared.problem.VehicleType.{VehicleType}
use Rattle.gain_model.specs.GainReads.{SeenView, anew_reads, joint_reads, own_stop}
use Rattle.route_cache.specs.Lending.{IsLendable}
use Rattle.route_cache.specs.Routes.{ViewState}
use Rattle.joined_views.specs.Views.{seen_view}
use Rattle.joined_views.specs.Views.{ArePlaced, IsNewList, anew_in, views_reads}
use Rattle.joined_views.specs.inside.Joined.{anew_at, anew_before, anew_behind, begun_count, is_ended, open_count}
use Rattle.joined_views.proofs.SideRuns.{begun-first, ended-last, no-test, open-all, open-less, open-most, some-ended, starts-first}

module _ (p : Problem) (t : VehicleType) (views : List ViewState) where
  pub anew-one : (k : ℕ) (none : ViewState) → k < length views → anew_at p t views k ≡ anew_in p t (get_or views k none)
  anew-one k none inside =
      ap (λ (vs : List ViewState). sum_by (anew_in p t) (take 1 vs)) (drop-cons views k none inside) ∙ (sum_by-cons (anew_in p t) (get_or views k none) [] ∙ nothing (anew_in p t (get_or views k none)))
    where
      nothing : (n : ℕ) → n + 0 ≡ n
      nothing n = omega arith

  pub anew-here : (k : ℕ) (view : ViewState) → k < length views → view ≡ get_or views k view → anew_at p t views k ≡ anew_in p t view
  anew-here k view inside is = anew-one k view inside ∙ ap (anew_in p t) (sym is)

  pub anew-more : (k : ℕ) (none : ViewState) → k < length views → anew_before p t views (k + 1) ≡ anew_before p t views k + anew_at p t views k
  anew-more k none inside =
      ap (λ (vs : List ViewState). sum_by (anew_in p t) vs) (take_more views k none inside)
      ∙ (sum_by-append (anew_in p t) (take k views) (get_or views k none ∷ [])
      ∙ ap (λ (n : ℕ). anew_before p t views k + n) (ap (λ (vs : List ViewState). sum_by (anew_in p t) (take 1 vs)) (sym (drop-cons views k none inside))))

  -- a view that stands for nothing
  abbrev no-view : ViewState
  no-view = record { problem = p; vehicle = None; list = []; first = 0; end = 0; starts = false; ends = false }

  pub anew-next : (k : ℕ) → k < length views → anew_before p t views (k + 1) ≡ anew_before p t views k + anew_at p t views k
  anew-next k inside = anew-more k no-view inside

  pub anew-last : (k : ℕ) (view : ViewState) → k + 1 ≡ length views → view ≡ get_or views k view → anew_behind p t views k ≡ anew_in p t view
  anew-last k view last is =
      ap (λ (vs : List ViewState). sum_by (anew_in p t) vs) (drop-cons views k view (omega arith))
      ∙ (sum_by-cons (anew_in p t) (get_or views k view) (drop (suc k) views)
      ∙ (ap (λ (vs : List ViewState). anew_in p t (get_or views k view) + sum_by (anew_in p t) vs) (drop_all (suc k) views (omega arith))
      ∙ (nothing (anew_in p t (get_or views k view)) ∙ ap (anew_in p t) (sym is))))
    where
      nothing : (n : ℕ) → n + 0 ≡ n
      nothing n = omega arith

  anew-all : (k : ℕ) → anew_before p t views k + anew_behind p t views k ≡ sum_by (anew_in p t) views
  anew-all k = sym (sum_by-append (anew_in p t) (take k views) (drop k views)) ∙ ap (λ (vs : List ViewState). sum_by (anew_in p t) vs) (take-append-drop k views)

-- the same over views as they are seen
seen-sum : (p : Problem) (t : VehicleType) (views : List ViewState) → sum_by (anew_reads t.profile) (map (seen_view p) views) ≡ sum_by (anew_in p t) views
seen-sum p t [] = refl
seen-sum p t (view ∷ rest) =
    let first = sum_by-cons (anew_reads t.profile) (seen_view p view) (map (seen_view p) rest) in
    let all = sum_by-cons (anew_in p t) view rest in
    let others = seen-sum p t rest in
    omega arith

none-starts : (p : Problem) (views : List ViewState) (none : ViewState) → ((i : ℕ) → i < length views → (get_or views i none).starts ≡ false) →
    list_any (λ (v : SeenView). v.starts) (map (seen_view p) views) ≡ false
none-starts p [] none each = refl
none-starts p (view ∷ rest) none each = neither view.starts _ (each 0 (omega arith)) (none-starts p rest none (λ i h. each (suc i) (omega arith)))
  where
    neither : (a b : Bool) → a ≡ false → b ≡ false → (a || b) ≡ false
    neither a b h k = cc

none-ends : (p : Problem) (views : List ViewState) (none : ViewState) → ((i : ℕ) → i < length views → (get_or views i none).ends ≡ false) →
    list_any (λ (v : SeenView). v.ends) (map (seen_view p) views) ≡ false
none-ends p [] none each = refl
none-ends p (view ∷ rest) none each = neither view.ends _ (each 0 (omega arith)) (none-ends p rest none (λ i h. each (suc i) (omega arith)))
  where
    neither : (a b : Bool) → a ≡ false → b ≡ false → (a || b) ≡ false
    neither a b h k = cc

begun-most : (views : List ViewState) → begun_count views ≤ 1
begun-most [] = omega arith
begun-most (view ∷ rest) = by view.starts
  where
    by : (b : Bool) → (if b then 1 else 0) ≤ 1
    by true = omega arith
    by false = omega arith

module _ (p : Problem) (vehicle : ℕ) (views : List ViewState) (none : ViewState) (placed : ArePlaced p vehicle views) where
  -- where no first view has the start, the start is read to
  start-read : 1 ≤ own_stop (list_any (λ (v : SeenView). v.starts) (map (seen_view p) views)) + begun_count views
  start-read = by (begun_count views) refl (begun-most views)
    where
      by : (n : ℕ) → begun_count views ≡ n → n ≤ 1 → 1 ≤ own_stop (list_any (λ (v : SeenView). v.starts) (map (seen_view p) views)) + begun_count views
      by zero e h =
          let all = none-starts p views none (λ i inside. no-test (get_or views i none).starts (λ starts.
          let first = placed.begins i none inside starts in
          let one = begun-first views none (omega arith) (ap (λ (k : ℕ). (get_or views k none).starts) (sym first) ∙ starts) in
          omega arith)) in
          let stop : own_stop (list_any (λ (v : SeenView). v.starts) (map (seen_view p) views)) ≡ 1 = ap own_stop all in
          omega arith
      by (suc n) e h = omega arith

  -- where no last view has the end, the end is read to
  end-read : length views + 1 ≤ own_stop (list_any (λ (v : SeenView). v.ends) (map (seen_view p) views)) + (length views + (length views - open_count views))
  end-read = by (is_ended views) refl
    where
      by : (b : Bool) → is_ended views ≡ b → length views + 1 ≤ own_stop (list_any (λ (v : SeenView). v.ends) (map (seen_view p) views)) + (length views + (length views - open_count views))
      by true e = let less = open-less views e in let some = some-ended views e in omega arith
      by false e =
          let all = none-ends p views none (λ i inside. no-test (get_or views i none).ends (λ ends. never (sym e ∙ (sym (ended-last views i none (placed.ends i none inside ends)) ∙ ends)))) in
          let stop : own_stop (list_any (λ (v : SeenView). v.ends) (map (seen_view p) views)) ≡ 1 = ap own_stop all in
          omega arith
        where
          never : false ≡ true → ⊥
          never h = cc

  pub begun-open : begun_count views ≤ open_count views
  begun-open = by (is_ended views) refl
    where
      by : (b : Bool) → is_ended views ≡ b → begun_count views ≤ open_count views
      by true e =
          let less = open-less views e in
          let some = some-ended views e in
          let few = begun-most views in
          more (length views) refl less some few
        where
          more : (n : ℕ) → length views ≡ n → open_count views ≡ length views - 1 → 0 < length views → begun_count views ≤ 1 → begun_count views ≤ open_count views
          more zero long less some few = omega arith
          more (suc zero) long less some few = one (begun_count views) refl
            where
              one : (m : ℕ) → begun_count views ≡ m → begun_count views ≤ open_count views
              one zero h = omega arith
              one (suc m) h = absurd (both (starts-first views none (λ z. let k = h in omega arith)).1 (ended-last views 0 none (omega arith) ∙ e))
                where
                  both : (get_or views 0 none).starts ≡ true → (get_or views 0 none).ends ≡ true → ⊥
                  both starts ends = never (sym ((All-get_or IsLendable views 0 none (omega arith) placed.lendable).not_both starts) ∙ ends)
                    where
                      never : false ≡ true → ⊥
                      never h = cc
          more (suc (suc n)) long less some few = omega arith
      by false e = let all = open-all views e in few-of views all
        where
          few-of : (vs : List ViewState) → open_count vs ≡ length vs → begun_count vs ≤ open_count vs
          few-of [] all = omega arith
          few-of (view ∷ rest) all = let most = begun-most (view ∷ rest) in omega arith

  -- all joints together
  pub joints : (open_count views - begun_count views) + 1 ≤ joint_reads (map (seen_view p) views)
  joints =
      let start = start-read in
      let end = end-read in
      let order = begun-open in
      let few = begun-most views in
      let most = open-most views in
      let long : length (map (seen_view p) views) ≡ length views = length-map views (seen_view p) in
      omega arith

all-reads : (p : Problem) (t : VehicleType) (views : List ViewState) (none : ViewState) → IsNewList p t views →
    (open_count views - begun_count views + anew_before p t views (open_count views)) + (1 + anew_behind p t views (open_count views)) ≤ views_reads p t views
all-reads p t views none new =
    let legs = joints p new.vehicle views none new.placed in
    let anew = anew-all p t views (open_count views) in
    let seen = seen-sum p t views in
    omega arith

pub begun-within : (p : Problem) (t : VehicleType) (views : List ViewState) → IsNewList p t views → begun_count views ≤ open_count views
begun-within p t views new = begun-open p new.vehicle views (record { problem = p; vehicle = None; list = []; first = 0; end = 0; starts = false; ends = false }) new.placed

pub every-read : (p : Problem) (t : VehicleType) (views : List ViewState) → IsNewList p t views →
    (open_count views - begun_count views + anew_before p t views (open_count views)) + (1 + anew_behind p t views (open_count views)) ≤ views_reads p t views
every-read p t views new = all-reads p t views (record { problem = p; vehicle = None; list = []; first = 0; end = 0; starts = false; ends = false }) new
