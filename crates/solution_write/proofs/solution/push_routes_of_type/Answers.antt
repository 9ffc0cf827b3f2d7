use Rattle.std.proofs.Common.{◌≡◌, ◌+◌, ◌++◌, [], ◌∷◌, length, List, get_or, take, ap, sym, ◌∙◌, arith}
use Rattle.problem_data.specs.declared.visit.Visit.{Visit}
use Rattle.solution_write.specs.inside.Lines.{used_of_type}
use Rattle.solution_write.proofs.LineLaws.{length-used_of_type, lines_more, used_of_type-more}
use Rattle.std.proofs.lemmas.List.{length-take, length-append}
use Rattle.solution_write.proofs.solution.push_routes_of_type.Goals as goal

pub push_if_used-requires-clause-number : goal.push_if_used-requires-clause-number
push_if_used-requires-clause-number c =
    let few = length-used_of_type c.args.type_number (take c.loop-visits.visits-index c.args.routes.now) in
    let first = length-take c.loop-visits.visits-index c.args.routes.now in
    omega arith

pub loop-visits-preserved : goal.loop-visits-preserved
loop-visits-preserved c =
    let type = c.args.type_number in
    let i = c.loop-visits.visits-index in
    let visits = c.items.result.now in
    let read : visits ≡ get_or c.args.routes.now i visits =
    c.items.ensures ∙ c.visits-item.is ∙ ap (λ (other : List Visit). get_or c.args.routes.now i other) (sym c.items.ensures) in
    let done = used_of_type type (take i c.args.routes.now) in
    let one = used_of_type type (visits ∷ []) in
    let all = used_of_type type (take (i + 1) c.args.routes.now) in
    let more : all ≡ done ++ one = used_of_type-more type i c.args.routes.now visits c.loop-visits-test.true read in
    let longer : length all ≡ length done + length one = ap length more ∙ length-append done one in
    let number : c.loop-visits.count + 1 ≡ c.args.written + 1 + length done = omega arith in
    let count : c.in_ok-count.count ≡ c.args.written + length all = omega (arith, c.in_ok-count.ensures.count) in
    record {
      text = lines_more c.args.problem.now (c.args.written + 1) (c.loop-visits.count + 1) done one _ _ _ _
          c.loop-visits.invariant.text number c.in_ok-count.ensures.text more;
      count = count;
    }
