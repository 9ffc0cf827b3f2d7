-- How many visits new lists have, and their runs.
use Rattle.std.proofs.Common.{◌≡◌, ◌≢◌, ℕ, ◌+◌, ◌-◌, ◌≤◌, true, false, ◌&&◌, List, [], ◌∷◌, ◌++◌, length, refl, sym, ◌∙◌, ap, arith, append_assoc, drop, slice_range}
use Rattle.std.specs.Prelude.{◌==◌}
use Rattle.std.proofs.lemmas.Bool.Decides.{nat_tests}
use Rattle.std.proofs.lemmas.List.{length-append, length-drop, length-take-le}
use Rattle.problem_data.specs.declared.visit.Visit.{Visit}
use Rattle.list_changes.specs.declared.layout.Layout.{Layout}
use Rattle.list_changes.specs.declared.layout.Span.{Span}
use Rattle.list_changes.specs.Layouts.{IsLayout, IsSpan, has_no_visit, laid_out, runs_of, span_of}

pub slice-size : {X : Type 0} (xs : List X) (a b : ℕ) → b ≤ length xs → length (slice_range xs a b) ≡ b - a
slice-size xs a b inside = let long = length-drop a xs in length-take-le (b - a) (drop a xs) (omega arith)

pub none-is : (xs : List Visit) → length xs ≡ 0 → xs ≡ []
none-is [] e = refl
none-is (x ∷ xs) e = absurd (omega (arith, e))

module _ (own lender : List Visit) (layout : Layout) (laid : IsLayout own lender layout) where
  -- the runs stand together
  pub runs-together : laid_out own lender layout ≡ slice_range own 0 layout.left ++ (runs_of lender layout ++ slice_range own layout.right (length own))
  runs-together =
      let a : List Visit = span_of lender layout.one in
      let b : List Visit = span_of lender layout.two in
      let c : List Visit = span_of lender layout.three in
      let d : List Visit = slice_range own layout.right (length own) in
      ap (λ (xs : List Visit). slice_range own 0 layout.left ++ xs)
      (sym (append_assoc a (b ++ c) d ∙ ap (λ (xs : List Visit). a ++ xs) (append_assoc b c d)))

  span-size : (span : Span) → IsSpan lender span → length (span_of lender span) ≡ span.end - span.first
  span-size span is = slice-size lender span.first span.end is.in_list

  -- how many visits the runs have, and the new list
  runs-size : length (runs_of lender layout) ≡ (layout.one.end - layout.one.first) + ((layout.two.end - layout.two.first) + (layout.three.end - layout.three.first))
  runs-size =
      let b = span-size layout.one laid.one in
      let c = span-size layout.two laid.two in
      let d = span-size layout.three laid.three in
      let f = length-append (span_of lender layout.two) (span_of lender layout.three) in
      let g = length-append (span_of lender layout.one) (span_of lender layout.two ++ span_of lender layout.three) in
      omega arith

  laid-size : length (laid_out own lender layout) ≡ layout.left + (length (runs_of lender layout) + (length own - layout.right))
  laid-size =
      let order = laid.in_order in
      let right = laid.right in
      let a = slice-size own 0 layout.left (omega arith) in
      let e = slice-size own layout.right (length own) (omega arith) in
      let behind : List Visit = slice_range own layout.right (length own) in
      let g = length-append (runs_of lender layout) behind in
      let h = length-append (slice_range own 0 layout.left) (runs_of lender layout ++ behind) in
      let k : length (laid_out own lender layout) ≡ length (slice_range own 0 layout.left ++ (runs_of lender layout ++ behind)) = ap (λ (xs : List Visit). length xs) runs-together in
      omega arith

  -- a new list with no visit
  pub none-left : has_no_visit layout (length own) ≡ true → (layout.left ≡ 0) × (layout.right ≡ length own) × (length (runs_of lender layout) ≡ 0) × (length (laid_out own lender layout) ≡ 0)
  none-left none =
      let all = tests layout.left 0 layout.right (length own) layout.one.first layout.one.end layout.two.first layout.two.end layout.three.first layout.three.end none in
      let runs = runs-size in
      let size = laid-size in
      (all.0, all.1, omega (arith, all, runs), omega (arith, all, runs, size))
    where
      tests : (a b c d e f g h k l : ℕ) → ((a == b) && ((c == d) && ((e == f) && ((g == h) && (k == l))))) ≡ true → (a ≡ b) × (c ≡ d) × (e ≡ f) × (g ≡ h) × (k ≡ l)
      tests a b c d e f g h k l all = grind (arith, nat_tests)

  -- and one with visits
  pub some-left : has_no_visit layout (length own) ≡ false → length (laid_out own lender layout) ≢ 0
  some-left some none =
      let order = laid.in_order in
      let right = laid.right in
      let one = laid.one.in_order in
      let two = laid.two.in_order in
      let three = laid.three.in_order in
      let runs = runs-size in
      let size = laid-size in
      let all : true ≡ false =
      sym (tests layout.left 0 layout.right (length own) layout.one.first layout.one.end layout.two.first layout.two.end layout.three.first layout.three.end
      (omega arith) (omega arith) (omega arith) (omega arith) (omega arith)) ∙ some in
      cc
    where
      tests : (a b c d e f g h k l : ℕ) → a ≡ b → c ≡ d → e ≡ f → g ≡ h → k ≡ l → ((a == b) && ((c == d) && ((e == f) && ((g == h) && (k == l))))) ≡ true
      tests a b c d e f g h k l p q r s t = grind (arith, nat_tests)
