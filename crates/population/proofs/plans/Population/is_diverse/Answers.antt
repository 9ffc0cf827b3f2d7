use Rattle.std.proofs.Common.{◌≡◌, ◌∙◌, ap₂, ℕ, ◌*◌, ◌/◌, ◌-◌, ◌<◌, ◌≤◌, ◌&&◌, length, arith}
use Rattle.std.specs.Prelude.{nat_le}
use Rattle.std.proofs.lemmas.Bool.Decides.{nat_tests}
use Rattle.genetic_model.specs.Fitness.{item_at}
use Rattle.genetic_model.specs.Population.{items_of}
use Rattle.population.specs.Populations.{population_of}
use Rattle.population.proofs.plans.Population.is_diverse.Goals as goal

high-enough : (least share most : ℕ) → least ≤ share → nat_le share most ≡ (nat_le least share && nat_le share most)
high-enough least share most h = grind (arith, nat_tests)

too-low : (least share most : ℕ) → share < least → nat_le least share ≡ (nat_le least share && nat_le share most)
too-low least share most h = grind (arith, nat_tests)

pub returns-then-self-share : goal.returns-then-self-share
returns-then-self-share c =
    let p = c.args.given.now in
    let plans = items_of (population_of c.args.self.now) in
    let params = c.args.self.now.params in
    let broken = c.broken_between-broken.ensures.pairs (item_at plans c.args.first) (item_at plans c.args.second) c.flanks.ensures c.flanks-2.ensures in
    let count : c.client_places-clients.result.end - c.client_places-clients.result.start ≡ length p.clients = omega arith in
    let share = ap₂ (λ (b n : ℕ). b * 1000 / (2 * n)) broken count in
    high-enough params.lb_diversity (c.broken_between-broken.result * 1000 / (2 * (c.client_places-clients.result.end - c.client_places-clients.result.start))) params.ub_diversity c.if-self-share.true
    ∙ ap₂ (λ (m n : ℕ). nat_le params.lb_diversity m && nat_le n params.ub_diversity) share share

pub returns-else-self-share : goal.returns-else-self-share
returns-else-self-share c =
    let p = c.args.given.now in
    let plans = items_of (population_of c.args.self.now) in
    let params = c.args.self.now.params in
    let broken = c.broken_between-broken.ensures.pairs (item_at plans c.args.first) (item_at plans c.args.second) c.flanks.ensures c.flanks-2.ensures in
    let count : c.client_places-clients.result.end - c.client_places-clients.result.start ≡ length p.clients = omega arith in
    let share = ap₂ (λ (b n : ℕ). b * 1000 / (2 * n)) broken count in
    too-low params.lb_diversity (c.broken_between-broken.result * 1000 / (2 * (c.client_places-clients.result.end - c.client_places-clients.result.start))) params.ub_diversity c.if-self-share.false
    ∙ ap₂ (λ (m n : ℕ). nat_le params.lb_diversity m && nat_le n params.ub_diversity) share share
