-- The new lists of a change, by parts of a plan: they can be made, and reading what they improve takes no more legs.
use Rattle.std.proofs.Common.{◌≡◌, ℕ, ◌+◌, ◌≤◌, Bool, true, false, cond, length, refl, ◌++◌, arith, Option}
use Rattle.std.specs.Prelude.{nat_eq}
use Rattle.std.proofs.lemmas.List.{length-append}
use Rattle.gain_model.specs.declared.part.Part.TheVariants.{Run}
use Rattle.gain_model.specs.Gains.{GainState}
use Rattle.gain_model.specs.MoveReads.{profile_of}
use Rattle.gain_model.proofs.StandsOnce.{same_test}
use Rattle.routing_model.specs.Lawful.{is_lawful}
use Rattle.routing_model.specs.Routes.{list_at}
use Rattle.move_core.specs.Searches.{SearchState}
use Rattle.new_lists.specs.Improvements as new
use Rattle.new_lists.specs.NewLists.{AreNewLists, IsNewList, IsPart, plan_of}
use Rattle.new_lists.specs.Reads as parts
use Rattle.list_changes.specs.declared.change.Change.{Change}
use Rattle.list_changes.specs.declared.change.Change.TheVariants.{One, Two}
use Rattle.list_changes.specs.declared.layout.Layout.{Layout}
use Rattle.list_changes.specs.declared.layout.Span.{Span}
use Rattle.list_changes.specs.Changes.{IsLaid, IsSide, new_plan}
use Rattle.list_changes.specs.Improvements.{IsImprovement}
use Rattle.list_changes.specs.Layouts.{IsSpan, runs_of, span_of}
use Rattle.list_changes.specs.NewLists.{laid_list, lists_of}
use Rattle.list_changes.specs.Reads.{foreign_visits, improve_reads}

module _ (s : SearchState) where
  -- the parts are there
  is-run : (v lender : ℕ) (layout : Layout) → IsSide s v lender layout → (span : Span) → IsSpan (list_at s.routes lender) span → IsPart s (Run lender span.first span.end)
  is-run v lender layout side span is = record { in_range = side.lender_in_range; in_order = is.in_order; in_list = is.in_list }

  is-new-list : (v lender : ℕ) (layout : Layout) → IsSide s v lender layout → IsNewList s (laid_list v lender layout)
  is-new-list v lender layout side =
      let order = side.laid.in_order in
      let inside = side.laid.right in
      record {
        in_range = side.in_range;
        left = omega (arith, order, inside);
        right = inside;
        one = is-run v lender layout side layout.one side.laid.one;
        two = is-run v lender layout side layout.two side.laid.two;
        three = is-run v lender layout side layout.three side.laid.three;
        listed = side.listed;
      }

  pub are-new-lists : (change : Change) → IsLaid s change → AreNewLists s (lists_of change)
  are-new-lists (One v layout) side = is-new-list v v layout side
  are-new-lists (Two a b one two) sides = record { apart = sides.apart; first = is-new-list a b one sides.first_side; second = is-new-list b a two sides.second_side }

  -- the plans are the same
  pub lawful-lists : (change : Change) → is_lawful s.problem (new_plan s.routes change) ≡ true → is_lawful s.problem (plan_of s.routes (lists_of change)) ≡ true
  lawful-lists (One v layout) lawful = lawful
  lawful-lists (Two a b one two) lawful = lawful

  pub of-lists : (change : Change) (found : Option GainState) → new.IsImprovement s (lists_of change) found → IsImprovement s change found
  of-lists (One v layout) found improves = improves
  of-lists (Two a b one two) found improves = improves

  -- the legs
  own-reads : (v : ℕ) (layout : Layout) → parts.list_reads s (laid_list v v layout) ≤ 6
  own-reads v layout = by (nat_eq (profile_of s.problem v) (profile_of s.problem v)) (same_test (profile_of s.problem v) (profile_of s.problem v) refl)
      (length (span_of (list_at s.routes v) layout.one)) (length (span_of (list_at s.routes v) layout.two)) (length (span_of (list_at s.routes v) layout.three))
    where
      by : (b : Bool) → b ≡ true → (x y z : ℕ) → 6 + cond b 0 x + cond b 0 y + cond b 0 z ≤ 6
      by true e x y z = omega arith
      by false e x y z = cc

  lent-reads : (v lender : ℕ) (layout : Layout) → parts.list_reads s (laid_list v lender layout) ≤ 6 + foreign_visits s v lender layout
  lent-reads v lender layout =
      let some = length-append (span_of (list_at s.routes lender) layout.two) (span_of (list_at s.routes lender) layout.three) in
      let all = length-append (span_of (list_at s.routes lender) layout.one) (span_of (list_at s.routes lender) layout.two ++ span_of (list_at s.routes lender) layout.three) in
      by (nat_eq (profile_of s.problem lender) (profile_of s.problem v)) (length (span_of (list_at s.routes lender) layout.one)) (length (span_of (list_at s.routes lender) layout.two))
      (length (span_of (list_at s.routes lender) layout.three)) (length (runs_of (list_at s.routes lender) layout)) (omega (arith, some, all))
    where
      by : (b : Bool) (x y z all : ℕ) → all ≡ x + (y + z) → 6 + cond b 0 x + cond b 0 y + cond b 0 z ≤ 6 + cond b 0 all
      by true x y z all e = omega arith
      by false x y z all e = omega arith

  pub no-more-reads : (change : Change) → parts.improve_reads s (lists_of change) ≤ improve_reads s change
  no-more-reads (One v layout) = own-reads v layout
  no-more-reads (Two a b one two) = let first = lent-reads a b one in let second = lent-reads b a two in omega (arith, first, second)
