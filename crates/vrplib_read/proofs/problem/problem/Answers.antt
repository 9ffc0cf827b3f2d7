use Rattle.std.proofs.Common.{◌∙◌}
use Rattle.vrplib_read.proofs.WholeLaws.{problem_is}
use Rattle.vrplib_read.proofs.problem.problem.Goals as goal

pub returns : goal.returns
returns c = λ all st.
    problem_is c.args.reading.now all st c.args.depot_count (c.requires.depots all st)
    c.from_vec.result c.from_vec-2.result c.from_vec-3.result c.from_vec-4.result c.from_vec-5.result c.from_vec-6.result
    (c.from_vec.ensures ∙ c.requires.places all st) (c.from_vec-2.ensures ∙ c.in_ok-depots.ensures all st) (c.from_vec-3.ensures ∙ c.in_ok-clients.ensures all st)
    (c.from_vec-4.ensures ∙ c.requires.types all st) (c.from_vec-5.ensures ∙ c.requires.profiles all st) (c.from_vec-6.ensures ∙ c.requires.groups all st)
