use Rattle.std.proofs.Common.{◌≡◌, ◌∙◌, ◌++◌, ◌+◌, ◌∷◌, [], ℕ, Bool, List, Vec, Global, not, cond, take, get_or, ap, sym}
use Rattle.std.proofs.lemmas.List.{append-nil}
use Rattle.std.proofs.lemmas.List.Elements.{filter_more}
use Rattle.problem_data.specs.declared.visit.Visit.{Visit}
use Rattle.problem_data.specs.declared.visit.Visit.TheVariants.{Client}
use Rattle.genetic_model.specs.RouteChildren.{clashes, without_clashes}
use Rattle.exchange_children.proofs.clashes.Clashes.without.Goals.{then-not-clash+in_ok-push, else-not-clash}
use Rattle.exchange_children.proofs.clashes.Clashes.without.Goals as goal

pub loop-visit-preserved : goal.loop-visit-preserved
loop-visit-preserved c = λ clients are.
    let p = c.args.given.now in
    let visits : List Visit = c.args.visits.now in
    let k : ℕ = c.loop-visit.visit-index in
    let v : Visit = get_or visits k (Client 0) in
    let before = c.loop-visit.invariant clients are in
    let with : Bool → List Visit = λ (b : Bool). without_clashes p clients (take k visits) ++ cond (not b) (v ∷ []) [] in
    let more : without_clashes p clients (take (k + 1) visits) ≡ with (clashes p clients v) = filter_more (λ w. not (clashes p clients w)) visits k (Client 0) c.loop-visit-test.true in
    elim c.if-not-clash.branch [
      | then-not-clash+in_ok-push w ↦ ap (λ (l : Vec Visit Global). l.items) w.list-is ∙ (w.in_ok-push.ensures.items ∙ (ap (λ (xs : List Visit). xs ++ v ∷ []) before
          ∙ (ap with (sym w.if-not-clash.true ∙ c.clash.ensures clients are) ∙ sym more)))
      | else-not-clash w ↦ ap (λ (l : Vec Visit Global). l.items) w.list-is ∙ (before ∙ (sym (append-nil (without_clashes p clients (take k visits)))
          ∙ (ap with (sym w.if-not-clash.false ∙ c.clash.ensures clients are) ∙ sym more)))
    ]
