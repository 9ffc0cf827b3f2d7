use Rattle.std.proofs.Common.{◌≡◌, ◌+◌, ◌∙◌, All, [], ◌∷◌, ap, length, map, refl, subst, sym}
use Rattle.std.proofs.lemmas.List.{length_push}
use Rattle.std.proofs.lemmas.List.Elements.{All-append, All-cons, All-nil}
use Rattle.search_model.specs.declared.kind.Kind.{Kind}
use Rattle.search_model.specs.declared.kind.Kind.TheVariants.{DepotAfter, DepotBefore, Insert, Remove, RemoveDepot, Replace, SwapRoutes, SwapStar, SwapTails}
use Rattle.search_model.specs.Kinds.{all_kinds}
use Rattle.exchange_screens.specs.Exchanges.{exchange_kind}
use Rattle.node_moves.specs.Exchanges.{ExchangeState}
use Rattle.recording_operators.specs.contracts.runs.are_kits.{dyn-1-ghosts}
use Rattle.recording_operators.proofs.runs.recorded_run.OwnLists.{own-1, lawful-own-1}
use Rattle.recording_operators.proofs.runs.recorded_run.Hidden.{sends-own-1}
use Rattle.recording_operators.proofs.runs.recorded_run.Goals as goal

abbrev kind_of-exchange : ExchangeState → Kind
kind_of-exchange o = exchange_kind o.n o.m

-- a kit more
pub loop-preserved : goal.loop-preserved
loop-preserved g c =
    let k1 = c.in_ok-recorded.ensures ∙ ap kind_of-exchange c.new-in-loop.ensures in
    let k2 = c.in_ok-recorded-2.ensures ∙ ap kind_of-exchange c.new-in-loop-2.ensures in
    let k3 = c.in_ok-recorded-3.ensures ∙ ap kind_of-exchange c.new-in-loop-3.ensures in
    let k4 = c.in_ok-recorded-4.ensures ∙ ap kind_of-exchange c.new-in-loop-4.ensures in
    let k5 = c.in_ok-recorded-5.ensures ∙ ap kind_of-exchange c.new-in-loop-5.ensures in
    let k6 = c.in_ok-recorded-6.ensures ∙ ap kind_of-exchange c.new-in-loop-6.ensures in
    let k7 = c.in_ok-recorded-7.ensures ∙ ap kind_of-exchange c.new-in-loop-7.ensures in
    let k8 = c.in_ok-recorded-8.ensures ∙ ap kind_of-exchange c.new-in-loop-8.ensures in
    let k9 = c.in_ok-recorded-9.ensures ∙ ap kind_of-exchange c.new-in-loop-9.ensures in
    let k10 = subst (λ v. (x : ((dyn-1-ghosts (own-1, lawful-own-1, sends-own-1)).0.entry v).0.Denot) → ((dyn-1-ghosts (own-1, lawful-own-1, sends-own-1)).0.entry v).1.kind_of x ≡ SwapTails) (sym c.into_dyn_box.ensures.0) (λ x. refl) c.into_dyn_box.result.value in
    let k11 = subst (λ v. (x : ((dyn-1-ghosts (own-1, lawful-own-1, sends-own-1)).0.entry v).0.Denot) → ((dyn-1-ghosts (own-1, lawful-own-1, sends-own-1)).0.entry v).1.kind_of x ≡ DepotBefore) (sym c.into_dyn_box-in_ok-new-3.ensures.0) (λ x. refl) c.into_dyn_box-in_ok-new-3.result.value in
    let k12 = subst (λ v. (x : ((dyn-1-ghosts (own-1, lawful-own-1, sends-own-1)).0.entry v).0.Denot) → ((dyn-1-ghosts (own-1, lawful-own-1, sends-own-1)).0.entry v).1.kind_of x ≡ DepotAfter) (sym c.into_dyn_box-in_ok-new-4.ensures.0) (λ x. refl) c.into_dyn_box-in_ok-new-4.result.value in
    let k13 = subst (λ v. (x : ((dyn-1-ghosts (own-1, lawful-own-1, sends-own-1)).0.entry v).0.Denot) → ((dyn-1-ghosts (own-1, lawful-own-1, sends-own-1)).0.entry v).1.kind_of x ≡ RemoveDepot) (sym c.into_dyn_box-in_ok-new-5.ensures.0) (λ x. refl) c.into_dyn_box-in_ok-new-5.result.value in
    let k14 = subst (λ v. (x : ((dyn-1-ghosts (own-1, lawful-own-1, sends-own-1)).0.entry v).0.Denot) → ((dyn-1-ghosts (own-1, lawful-own-1, sends-own-1)).0.entry v).1.kind_of x ≡ Insert) (sym c.into_dyn_box-in_ok-new-6.ensures.0) (λ x. refl) c.into_dyn_box-in_ok-new-6.result.value in
    let k15 = subst (λ v. (x : ((dyn-1-ghosts (own-1, lawful-own-1, sends-own-1)).0.entry v).0.Denot) → ((dyn-1-ghosts (own-1, lawful-own-1, sends-own-1)).0.entry v).1.kind_of x ≡ Remove) (sym c.into_dyn_box-in_ok-new-7.ensures.0) (λ x. refl) c.into_dyn_box-in_ok-new-7.result.value in
    let k16 = subst (λ v. (x : ((dyn-1-ghosts (own-1, lawful-own-1, sends-own-1)).0.entry v).0.Denot) → ((dyn-1-ghosts (own-1, lawful-own-1, sends-own-1)).0.entry v).1.kind_of x ≡ Replace) (sym c.into_dyn_box-in_ok-new-8.ensures.0) (λ x. refl) c.into_dyn_box-in_ok-new-8.result.value in
    let k17 = subst (λ v. (x : ((dyn-1-ghosts (own-1, lawful-own-1, sends-own-1)).0.entry v).0.Denot) → ((dyn-1-ghosts (own-1, lawful-own-1, sends-own-1)).0.entry v).1.kind_of x ≡ SwapRoutes) (sym c.into_dyn_box-in_ok-new-9.ensures.0) (λ x. refl) c.into_dyn_box-in_ok-new-9.result.value in
    let k18 = subst (λ v. (x : ((dyn-1-ghosts (own-1, lawful-own-1, sends-own-1)).0.entry v).0.Denot) → ((dyn-1-ghosts (own-1, lawful-own-1, sends-own-1)).0.entry v).1.kind_of x ≡ SwapStar) (sym c.into_dyn_box-in_ok-new-10.ensures.0) (λ x. refl) c.into_dyn_box-in_ok-new-10.result.value in
    let kit : map (λ b. ((dyn-1-ghosts (own-1, lawful-own-1, sends-own-1)).0.entry b.vtable).1.kind_of b.value) c.in_ok-from_array.field-0.items ≡ all_kinds =
    ap (map (λ b. ((dyn-1-ghosts (own-1, lawful-own-1, sends-own-1)).0.entry b.vtable).1.kind_of b.value)) c.in_ok-from_array.ensures.items ∙ (λ i. k1 i ∷ k2 i ∷ k3 i ∷ k4 i ∷ k5 i ∷ k6 i ∷ k7 i ∷ k8 i ∷ k9 i ∷ k10 i ∷ k11 i ∷ k12 i ∷ k13 i ∷ k14 i ∷ k15 i ∷ k16 i ∷ k17 i ∷ k18 i ∷ []) in
    record {
      count = ap length c.in_ok-push.ensures.items ∙ (length_push _ _ ∙ ap (λ n. n + 1) c.loop.invariant.count);
      kinds = subst (All (λ kit. map (λ b. ((dyn-1-ghosts (own-1, lawful-own-1, sends-own-1)).0.entry b.vtable).1.kind_of b.value) kit.items ≡ all_kinds)) (sym c.in_ok-push.ensures.items)
          (All-append (λ kit. map (λ b. ((dyn-1-ghosts (own-1, lawful-own-1, sends-own-1)).0.entry b.vtable).1.kind_of b.value) kit.items ≡ all_kinds) c.loop.kits.items (c.in_ok-from_array.field-0 ∷ []) c.loop.invariant.kinds (All-cons (λ kit. map (λ b. ((dyn-1-ghosts (own-1, lawful-own-1, sends-own-1)).0.entry b.vtable).1.kind_of b.value) kit.items ≡ all_kinds) c.in_ok-from_array.field-0 [] kit (All-nil (λ kit. map (λ b. ((dyn-1-ghosts (own-1, lawful-own-1, sends-own-1)).0.entry b.vtable).1.kind_of b.value) kit.items ≡ all_kinds))));
    }
