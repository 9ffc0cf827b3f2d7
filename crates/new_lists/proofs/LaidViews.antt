-- The last view may come behind those of the parts.
use Rattle.std.proofs.Common.{◌≡◌, false, List, ◌++◌, refl, sym, ◌∙◌, ap, subst, Option, Some}
use Rattle.std.specs.Prelude.{All, option_map}
use Rattle.gain_model.specs.declared.part.Part.{Part}
use Rattle.gain_model.specs.declared.part.Side.{Side}
use Rattle.gain_model.specs.declared.part.Side.TheVariants.{First, Second}
use Rattle.penalty_cost.specs.Proposals.{CanPush, MayFollow, ProposalState, SideState, pushed, side_at, with_view}
use Rattle.route_cache.specs.Routes.{ViewState}
use Rattle.move_core.specs.Searches.{SearchState}
use Rattle.new_lists.specs.declared.new_list.NewList.{NewList}
use Rattle.new_lists.specs.Views.{added, back_view, empty_side, front_view, front_views, part_views, route_at, with_more}
use Rattle.new_lists.proofs.NewViews.{all-part, all-three}

-- a side with a view more, and with some more
side-pushed : (q : ProposalState) (side : Side) (view : ViewState) (x : SideState) → side_at q side ≡ Some x → side_at (pushed q side view) side ≡ Some (with_view view x)
side-pushed q First view x at = ap (option_map (with_view view)) at
side-pushed q Second view x at = ap (option_map (with_view view)) at

side-added : (q : ProposalState) (side : Side) (views : List ViewState) (x : SideState) → side_at q side ≡ Some x → side_at (added q side views) side ≡ Some (with_more views x)
side-added q First views x at = ap (option_map (with_more views)) at
side-added q Second views x at = ap (option_map (with_more views)) at

problem-pushed : (q : ProposalState) (side : Side) (view : ViewState) → (pushed q side view).problem ≡ q.problem
problem-pushed q First view = refl
problem-pushed q Second view = refl

problem-added : (q : ProposalState) (side : Side) (views : List ViewState) → (added q side views).problem ≡ q.problem
problem-added q First views = refl
problem-added q Second views = refl

module _ (s : SearchState) (list : NewList) (side : Side) (none begun one two three : ProposalState) (problem : none.problem ≡ s.problem) (at : side_at none side ≡ Some (empty_side (route_at s list.vehicle)))
    (is_begun : begun ≡ pushed none side (front_view (route_at s list.vehicle) list.left)) (is_one : one ≡ added begun side (part_views s list.one)) (is_two : two ≡ added one side (part_views s list.two))
    (is_three : three ≡ added two side (part_views s list.three)) where
  abbrev views : List ViewState
  views = ((front_views s list ++ part_views s list.one) ++ part_views s list.two) ++ part_views s list.three

  abbrev laid : SideState
  laid = with_more views (empty_side (route_at s list.vehicle))

  begun-at : side_at begun side ≡ Some (with_view (front_view (route_at s list.vehicle) list.left) (empty_side (route_at s list.vehicle)))
  begun-at = ap (λ (q : ProposalState). side_at q side) is_begun ∙ side-pushed none side (front_view (route_at s list.vehicle) list.left) (empty_side (route_at s list.vehicle)) at

  one-at : side_at one side ≡ Some (with_more (front_views s list ++ part_views s list.one) (empty_side (route_at s list.vehicle)))
  one-at = ap (λ (q : ProposalState). side_at q side) is_one ∙ side-added begun side (part_views s list.one) (with_more (front_views s list) (empty_side (route_at s list.vehicle))) begun-at

  two-at : side_at two side ≡ Some (with_more ((front_views s list ++ part_views s list.one) ++ part_views s list.two) (empty_side (route_at s list.vehicle)))
  two-at = ap (λ (q : ProposalState). side_at q side) is_two ∙ side-added one side (part_views s list.two) (with_more (front_views s list ++ part_views s list.one) (empty_side (route_at s list.vehicle))) one-at

  three-at : side_at three side ≡ Some laid
  three-at =
      ap (λ (q : ProposalState). side_at q side) is_three
      ∙ side-added two side (part_views s list.three) (with_more ((front_views s list ++ part_views s list.one) ++ part_views s list.two) (empty_side (route_at s list.vehicle))) two-at

  same-problem : three.problem ≡ s.problem
  same-problem =
      ap (λ (q : ProposalState). q.problem) is_three ∙ problem-added two side (part_views s list.three)
      ∙ ap (λ (q : ProposalState). q.problem) is_two ∙ problem-added one side (part_views s list.two)
      ∙ ap (λ (q : ProposalState). q.problem) is_one ∙ problem-added begun side (part_views s list.one)
      ∙ ap (λ (q : ProposalState). q.problem) is_begun ∙ problem-pushed none side (front_view (route_at s list.vehicle) list.left)
      ∙ problem

  goes-on : All (λ (view : ViewState). view.ends ≡ false) views
  goes-on = all-three (λ (view : ViewState). view.ends ≡ false) s list refl (part list.one) (part list.two) (part list.three)
    where
      part : (p : Part) → All (λ (view : ViewState). view.ends ≡ false) (part_views s p)
      part p = all-part (λ (view : ViewState). view.ends ≡ false) s p (λ vehicle first end. refl) (λ visit. refl)

  pub last-view : (back : ViewState) → back ≡ back_view (route_at s list.vehicle) list.right → CanPush three side back
  last-view back is_back =
      subst (CanPush three side) (sym is_back)
      (subst (λ (o : Option SideState). MayFollow three.problem o (back_view (route_at s list.vehicle) list.right)) (sym three-at)
      (record {
        problem = sym same-problem;
        goes_on = goes-on;
        first = λ e. cc;
        own_start = λ e. cc;
        own_end = λ e. refl;
      }))
