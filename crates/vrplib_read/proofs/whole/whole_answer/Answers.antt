use Rattle.std.proofs.Common.{◌≡◌, ◌-◌, ◌∙◌, true, sym, ap}
use Rattle.std.specs.List.{list_any}
use Rattle.std.proofs.lemmas.Option.{MatchOption-at_none, MatchOption-at_some}
use Rattle.vrplib_model.specs.Legs.{profiles}
use Rattle.vrplib_model.specs.WholeText.{has_long_leg}
use Rattle.vrplib_read.proofs.WholeLaws.{fault_missing, fault_depots, fault_parts, fault_legs, no_fault, depots_counted, clients_counted}
use Rattle.vrplib_read.proofs.whole.whole_answer.Goals as goal

pub returns-in-Some : goal.returns-in-Some
returns-in-Some c = λ all st.
    fault_missing c.args.reading.now.mode all c.in-Some.rule (sym (c.missing_key.ensures.missing all st) ∙ c.in-Some.is)

pub returns-in_default-depot_count : goal.returns-in_default-depot_count
returns-in_default-depot_count c = λ all st.
    fault_depots c.args.reading.now.mode all (sym (c.missing_key.ensures.missing all st) ∙ c.in_default.is) (c.in_default-depot_count.ensures.depots all st)

pub types-requires : goal.types-requires
types-requires c = λ all st.
    let d = c.in-Some-depot_count.depots in
    clients_counted c.args.reading.now all st d (c.in-Some-depot_count.ensures.depots all st).1 ∙ ap (λ n. n - d) (sym c.node_count.ensures.known)

pub returns-in-Some-fault_of_parts : goal.returns-in-Some-fault_of_parts
returns-in-Some-fault_of_parts c = λ all st.
    let mode = c.args.reading.now.mode in
    let d = c.in-Some-depot_count.depots in
    fault_parts mode all d c.deref.result.now c.deref-2.result.now c.in-Some-fault_of_parts.rule
    (sym (c.missing_key.ensures.missing all st) ∙ c.in_default.is) (c.in-Some-depot_count.ensures.depots all st).0
    (depots_counted mode all d (c.in-Some-depot_count.ensures.depots all st).1)
    (c.deref.ensures.value ∙ c.in_ok-types.ensures all st) (c.deref-2.ensures.value ∙ c.in_ok-groups.ensures all st)
    (sym (c.fault_of_parts.ensures all st) ∙ c.in-Some-fault_of_parts.is)

pub returns-in_default-2 : goal.returns-in_default-2
returns-in_default-2 c = λ all st.
    let mode = c.args.reading.now.mode in
    let d = c.in-Some-depot_count.depots in
    fault_legs mode all d c.deref.result.now c.deref-2.result.now
    (sym (c.missing_key.ensures.missing all st) ∙ c.in_default.is) (c.in-Some-depot_count.ensures.depots all st).0
    (depots_counted mode all d (c.in-Some-depot_count.ensures.depots all st).1)
    (c.deref.ensures.value ∙ c.in_ok-types.ensures all st) (c.deref-2.ensures.value ∙ c.in_ok-groups.ensures all st)
    (sym (c.fault_of_parts.ensures all st) ∙ c.in_default-fault_of_parts.is)
    (MatchOption-at_none (list_any has_long_leg (profiles mode all) ≡ true) _ c.in_default-2.is (c.in_ok-profiles.ensures all st))

pub returns : goal.returns
returns c = λ all st.
    let mode = c.args.reading.now.mode in
    let d = c.in-Some-depot_count.depots in
    let short = MatchOption-at_some (list_any has_long_leg (profiles mode all) ≡ true) _ c.in-Some-2.profiles c.in-Some-2.is (c.in_ok-profiles.ensures all st) in (
      no_fault mode all d c.deref.result.now c.deref-2.result.now
          (sym (c.missing_key.ensures.missing all st) ∙ c.in_default.is) (c.in-Some-depot_count.ensures.depots all st).0
          (depots_counted mode all d (c.in-Some-depot_count.ensures.depots all st).1)
          (c.deref.ensures.value ∙ c.in_ok-types.ensures all st) (c.deref-2.ensures.value ∙ c.in_ok-groups.ensures all st)
          (sym (c.fault_of_parts.ensures all st) ∙ c.in_default-fault_of_parts.is) short.1,
      c.in_ok-problem.ensures all st,
    )
