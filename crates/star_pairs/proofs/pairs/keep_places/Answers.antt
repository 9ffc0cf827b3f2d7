use Rattle.std.proofs.Common.{◌≡◌, ◌⊎◌, inl, inr, ℕ, ◌+◌, ◌*◌, ◌<◌, List, length, get_or, set, sym, ◌∙◌, ap, subst, arith}
use Rattle.std.proofs.lemmas.List.{get_or-set_other, get_or-set_same, length-set}
use Rattle.problem_data.specs.declared.visit.Visit.{Visit}
use Rattle.route_cache.specs.Routes.{RouteState}
use Rattle.star_places.specs.declared.places.ThreePlaces.{ThreePlaces}
use Rattle.star_places.specs.Growths.{growth_of, place_of}
use Rattle.star_places.specs.Places.{AreThree}
use Rattle.star_pairs.specs.inside.Pairs.{AreKept}
use Rattle.star_pairs.proofs.pairs.keep_places.Goals as goal

-- the places of one client more
more : (a b : RouteState) (n client : ℕ) (kept : List ThreePlaces) (three : ThreePlaces) → AreKept a b n kept → n < length kept → client ≡ place_of a (n + 1) →
    AreThree (growth_of b client) (length b.visits + 1) three → AreKept a b (n + 1) (set kept n three)
more a b n client kept three are there is new = λ k none h. by k none (last k n h)
  where
    last : (k n : ℕ) → k < n + 1 → (k < n) ⊎ (k ≡ n)
    last k n h = grind arith

    by : (k : ℕ) (none : ThreePlaces) → (k < n) ⊎ (k ≡ n) → AreThree (growth_of b (place_of a (k + 1))) (length b.visits + 1) (get_or (set kept n three) k none)
    by k none (inl l) = subst (AreThree (growth_of b (place_of a (k + 1))) (length b.visits + 1)) (sym (get_or-set_other kept n k three none (λ e. absurd (omega (arith, l, e))))) (are k none l)
    by k none (inr e) =
        subst (λ (m : ℕ). AreThree (growth_of b (place_of a (m + 1))) (length b.visits + 1) (get_or (set kept n three) m none)) (sym e)
        (subst (AreThree (growth_of b (place_of a (n + 1))) (length b.visits + 1)) (sym (get_or-set_same kept n three none there))
        (subst (λ (x : ℕ). AreThree (growth_of b x) (length b.visits + 1) three) is new))

one_more : (n each : ℕ) → n * each + each ≡ (n + 1) * each
one_more n each = grind arith

pub loop-at-preserved : goal.loop-at-preserved
loop-at-preserved c =
    let a = c.args.first.now in
    let b = c.args.second.now in
    let n = c.loop-at.at in
    let long : length c.visits-at-end.result.now ≡ length a.visits = ap (λ (xs : List Visit). length xs) c.visits-at-end.ensures.visits in
    let room = c.requires.room in
    let same = c.loop-at.invariant.room in
    let there : n < length c.loop-at.kept = omega (arith, long, room, same) in
    record {
      kept = more a b n c.client_at.result c.loop-at.kept c.three_places.result c.loop-at.invariant.kept there c.client_at.ensures.client c.three_places.ensures.three;
      room = length-set c.loop-at.kept n c.three_places.result ∙ same;
      reads =
          let before = c.loop-at.invariant.reads in
          let read = c.three_places.ensures.reads in
          let all = one_more n (2 * (length b.visits + 1)) in
          record { kept = omega (arith, before.kept, read.kept); most = omega (arith, before.most, read.most, all) };
    }
