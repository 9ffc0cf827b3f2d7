-- The first fault of a whole text, by its checks, and its problem by its parts.
use Rattle.std.proofs.Common.{◌≡◌, ◌+◌, ◌-◌, ℕ, true, false, List, [], ◌∷◌, length, map, refl, sym, ◌∙◌, ap, Option, Some, None}
use Rattle.std.specs.List.{list_any}
use Rattle.problem_data.specs.declared.problem.Place.{Place}
use Rattle.problem_data.specs.declared.problem.Depot.{Depot}
use Rattle.problem_data.specs.declared.problem.Client.{Client}
use Rattle.problem_data.specs.declared.problem.VehicleType.{VehicleType}
use Rattle.problem_data.specs.declared.problem.Profile.{Profile}
use Rattle.vrp_num.specs.declared.rounding.Rounding.{Rounding}
use Rattle.vrplib_read.specs.declared.reading.Reading.{Reading}
use Rattle.vrplib_model.specs.declared.rule.Rule.{Rule}
use Rattle.vrplib_model.specs.declared.rule.Rule.TheVariants.{BadDepot, BadVehicle, BadGroup, EmptyWindow, Limit}
use Rattle.vrplib_model.specs.LineKinds.{Line}
use Rattle.vrplib_model.specs.Checks.{broken_if, first_of}
use Rattle.vrplib_model.specs.Entries.{counted, coordinates, nodes, depot_nodes, depot_count, client_count, client_nodes}
use Rattle.vrplib_model.specs.Fleet.{types}
use Rattle.vrplib_model.specs.Legs.{profiles}
use Rattle.vrplib_model.specs.Meaning.{groups, depot, client, problem_of}
use Rattle.vrplib_read.specs.inside.Stands.{Stands}
use Rattle.vrplib_read.specs.inside.OfText.{known_nodes, has_bad_depots}
use Rattle.vrplib_model.specs.WholeText.{missing_key, has_wrong_reference, is_depot_place, has_missed_shift, has_long_leg, whole_fault}
use Rattle.vrplib_model.proofs.WholeFacts.{length-counted}
use Rattle.vrplib_read.proofs.Standing.{nodes_stand}

pub fault_missing : (mode : Rounding) (all : List Line) (rule : Rule) → missing_key all ≡ Some rule → whole_fault mode all ≡ Some rule
unfolding whole_fault
fault_missing mode all rule e = rw e refl

pub fault_depots : (mode : Rounding) (all : List Line) → missing_key all ≡ None → has_bad_depots mode all ≡ true → whole_fault mode all ≡ Some BadDepot
unfolding whole_fault
fault_depots mode all missing bad = rw (missing, bad) refl

-- the checks of vehicle types and groups, for d depots
abbrev pub parts_fault : Rounding → List Line → ℕ → List VehicleType → List (List ℕ) → Option Rule
parts_fault mode all d kinds lists = first_of (
    broken_if (list_any (has_wrong_reference d (length (profiles mode all))) kinds) BadVehicle
    ∷ broken_if (list_any (list_any (is_depot_place d)) lists) BadGroup
    ∷ broken_if (list_any (has_missed_shift mode all) kinds) EmptyWindow
    ∷ [])

behind : (a b c d : Option Rule) → first_of (a ∷ b ∷ c ∷ d ∷ []) ≡ first_of (first_of (a ∷ b ∷ c ∷ []) ∷ d ∷ [])
behind (Some x) b c d = refl
behind None (Some x) c d = refl
behind None None (Some x) d = refl
behind None None None d = refl

-- the fault where no key is missing and the depots are right
pub fault_of : (mode : Rounding) (all : List Line) (d : ℕ) (kinds : List VehicleType) (lists : List (List ℕ)) → missing_key all ≡ None → has_bad_depots mode all ≡ false →
    depot_count mode all ≡ d → kinds ≡ types mode all → lists ≡ groups mode all →
    whole_fault mode all ≡ first_of (parts_fault mode all d kinds lists ∷ broken_if (list_any has_long_leg (profiles mode all)) Limit ∷ [])
unfolding whole_fault
fault_of mode all d kinds lists missing right count hk hl =
    let legs = broken_if (list_any has_long_leg (profiles mode all)) Limit in
    rw (missing, right) (behind
    (broken_if (list_any (has_wrong_reference (depot_count mode all) (length (profiles mode all))) (types mode all)) BadVehicle)
    (broken_if (list_any (list_any (is_depot_place (depot_count mode all))) (groups mode all)) BadGroup)
    (broken_if (list_any (has_missed_shift mode all) (types mode all)) EmptyWindow) legs
    ∙ ap (λ m. first_of (parts_fault mode all m (types mode all) (groups mode all) ∷ legs ∷ [])) count
    ∙ ap (λ ks. first_of (parts_fault mode all d ks (groups mode all) ∷ legs ∷ [])) (sym hk)
    ∙ ap (λ gs. first_of (parts_fault mode all d kinds gs ∷ legs ∷ [])) (sym hl))

pub fault_parts : (mode : Rounding) (all : List Line) (d : ℕ) (kinds : List VehicleType) (lists : List (List ℕ)) (rule : Rule) → missing_key all ≡ None → has_bad_depots mode all ≡ false →
    depot_count mode all ≡ d → kinds ≡ types mode all → lists ≡ groups mode all → parts_fault mode all d kinds lists ≡ Some rule → whole_fault mode all ≡ Some rule
fault_parts mode all d kinds lists rule missing right count hk hl e = fault_of mode all d kinds lists missing right count hk hl ∙ rw e refl

pub fault_legs : (mode : Rounding) (all : List Line) (d : ℕ) (kinds : List VehicleType) (lists : List (List ℕ)) → missing_key all ≡ None → has_bad_depots mode all ≡ false →
    depot_count mode all ≡ d → kinds ≡ types mode all → lists ≡ groups mode all → parts_fault mode all d kinds lists ≡ None →
    list_any has_long_leg (profiles mode all) ≡ true → whole_fault mode all ≡ Some Limit
fault_legs mode all d kinds lists missing right count hk hl e long = fault_of mode all d kinds lists missing right count hk hl ∙ rw (e, long) refl

pub no_fault : (mode : Rounding) (all : List Line) (d : ℕ) (kinds : List VehicleType) (lists : List (List ℕ)) → missing_key all ≡ None → has_bad_depots mode all ≡ false →
    depot_count mode all ≡ d → kinds ≡ types mode all → lists ≡ groups mode all → parts_fault mode all d kinds lists ≡ None →
    list_any has_long_leg (profiles mode all) ≡ false → whole_fault mode all ≡ None
no_fault mode all d kinds lists missing right count hk hl e short = fault_of mode all d kinds lists missing right count hk hl ∙ rw (e, short) refl

-- as many depots as first nodes
pub depots_counted : (mode : Rounding) (all : List Line) (d : ℕ) → depot_nodes mode all ≡ counted 1 d → depot_count mode all ≡ d
depots_counted mode all d e = ap length e ∙ length-counted 1 d

pub clients_counted : (r : Reading) (all : List Line) → Stands r.mode all r → (d : ℕ) → depot_nodes r.mode all ≡ counted 1 d → client_count r.mode all ≡ known_nodes r - d
clients_counted r all st d e = rw (nodes_stand r all st, depots_counted r.mode all d e) refl

-- the problem by its parts
pub problem_is : (r : Reading) (all : List Line) → Stands r.mode all r → (d : ℕ) → depot_nodes r.mode all ≡ counted 1 d →
    (ps : List Place) (ds : List Depot) (cs : List Client) (ts : List VehicleType) (fs : List Profile) (gs : List (List ℕ)) →
    ps ≡ map (coordinates r.mode all) (nodes r.mode all) → ds ≡ map (depot r.mode all) (counted 1 d) →
    cs ≡ map (client r.mode all) (counted (d + 1) (known_nodes r - d)) → ts ≡ types r.mode all → fs ≡ profiles r.mode all → gs ≡ groups r.mode all →
    record { places = ps; depots = ds; clients = cs; types = ts; profiles = fs; groups = gs } ≡ problem_of r.mode all
unfolding problem_of
problem_is r all st d e ps ds cs ts fs gs hp hd hc ht hf hg =
    let nodes_of_clients : counted (d + 1) (known_nodes r - d) ≡ client_nodes r.mode all =
    sym (ap (λ m. counted (m + 1) (client_count r.mode all)) (depots_counted r.mode all d e) ∙ ap (counted (d + 1)) (clients_counted r all st d e)) in
    let hd' : ds ≡ map (depot r.mode all) (depot_nodes r.mode all) = hd ∙ ap (map (depot r.mode all)) (sym e) in
    let hc' : cs ≡ map (client r.mode all) (client_nodes r.mode all) = hc ∙ ap (map (client r.mode all)) nodes_of_clients in
    rw (hp, hd', hc', ht, hf, hg) refl
