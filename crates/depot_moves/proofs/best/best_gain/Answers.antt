use Rattle.std.proofs.Common.{◌≡◌, ℕ, suc, ◌+◌, List, [], ◌∷◌, ◌++◌, get_or, map, take, sym, ◌∙◌, ap, subst, arith}
use Rattle.std.proofs.lemmas.List.{map-append, take_all}
use Rattle.std.proofs.Math.Seq.{take-suc}
use Rattle.problem_data.specs.declared.problem.Problem.{Problem}
use Rattle.problem_data.specs.declared.problem.VehicleType.{VehicleType}
use Rattle.routing_model.specs.Listed.{type_of_vehicle}
use Rattle.routing_model.specs.Routes.{Routes}
use Rattle.reload_puts.specs.Puts.{put_candidate, put_plan}
use Rattle.depot_moves.specs.inside.Gains.{IsBest, put_plans}
use Rattle.depot_moves.proofs.best.best_gain.Goals as goal

pub loop-k-preserved : goal.loop-k-preserved
loop-k-preserved c =
    let s = c.args.search.now in
    let before = c.loop-k.invariant.reads in
    let read = c.gain_at-found.ensures.reads in
    let depots = c.items-depots.result.now in
    let put : ℕ → Routes = put_plan s c.args.beside c.args.seats.client c.args.seats.neighbour in
    let more : map put (take (c.loop-k.k + 1) depots) ≡ map put (take c.loop-k.k depots) ++ put (get_or depots c.loop-k.k 0) ∷ [] =
    ap (λ (n : ℕ). map put (take n depots)) (let one : c.loop-k.k + 1 ≡ suc c.loop-k.k = omega arith in one)
    ∙ ap (map put) (take-suc depots c.loop-k.k 0 c.loop-k-test.true) ∙ map-append put (take c.loop-k.k depots) (get_or depots c.loop-k.k 0 ∷ []) in
    record {
      best = subst (λ (plans : List Routes). IsBest s (put_candidate c.args.beside c.args.seats.client c.args.seats.neighbour) plans c.better-best.result) (sym more)
          (c.better-best.ensures s (put_candidate c.args.beside c.args.seats.client c.args.seats.neighbour) (map put (take c.loop-k.k depots)) (put (get_or depots c.loop-k.k 0)) c.loop-k.invariant.best c.gain_at-found.ensures.gain);
      reads = record { kept = omega (arith, before.kept, read.kept); most = omega (arith, before.most, read.most) };
    }

pub returns-clause-gain : goal.returns-clause-gain
returns-clause-gain c =
    let s = c.args.search.now in
    let depots = c.items-depots.result.now in
    let all : take c.loop-k.k depots ≡ (type_of_vehicle s.problem c.args.seats.other).reload_depots =
    take_all c.loop-k.k depots (omega arith)
    ∙ c.items-depots.ensures
    ∙ ap (λ (t : VehicleType). t.reload_depots) (c.vehicle_type.ensures.vehicle_type ∙ ap (λ (p : Problem). type_of_vehicle p c.args.seats.other) c.data.ensures.problem) in
    subst (λ (ds : List ℕ). IsBest s (put_candidate c.args.beside c.args.seats.client c.args.seats.neighbour) (put_plans s c.args.beside c.args.seats ds) c.loop-k.best) all c.loop-k.invariant.best
