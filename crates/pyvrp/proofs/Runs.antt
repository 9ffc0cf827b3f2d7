-- What a run answers, from what its parts answer.
use Rattle.std.proofs.Common.{◌≡◌, ℕ, List, [], ◌∷◌, refl, sym, ◌∙◌, ap, subst, inl, inr, arith}
use Rattle.std.specs.Prelude.{Option, Some, None}
use Rattle.outside_model.specs.Delivery.{Delivers, Effects}
use Rattle.move_core.specs.declared.tally.Tally.{Tally}
use Rattle.outside_model.specs.Sinks.{IsGiven, IsUntouched, SinkOfCall}
use Rattle.batch_run.specs.Loads.{FilesOfCall}
use Rattle.command_model.specs.Command.{effects_of, refused_words}
use Rattle.command_model.specs.Outcomes as model
use Rattle.command_model.specs.Words.{Asked, base_name}
use Rattle.pyvrp.specs.declared.outcome.Instance.{Instance}
use Rattle.pyvrp.specs.declared.run.Texts.{Texts}
use Rattle.pyvrp.specs.inside.Report.{StandsFor, TellsErrors, TellsOutput, TellsStatus}
use Rattle.pyvrp.specs.Run.{RefusesWords, Runs, RunsInstance}
use Rattle.pyvrp.specs.inside.Texts.{HasTextsOf, IsEffects}

-- the texts of an instance's name are those of its path
pub is_effects : (path name : List ℕ) (shown : Instance) (texts : Texts) (errors : List ℕ) → name ≡ base_name path → texts.err.items ≡ errors
    → TellsOutput name shown texts.out.items → TellsErrors name shown errors → TellsStatus shown texts.status
    → (outcome : model.Outcome) → StandsFor outcome shown → IsEffects (effects_of ((base_name path, outcome) ∷ [])) texts
is_effects path name shown texts errors named same output faults status outcome stands =
    let of_name : List ℕ → Effects = λ (n : List ℕ). effects_of ((n, outcome) ∷ []) in
    record {
      out_is = output outcome stands ∙ ap (λ (n : List ℕ). (of_name n).out) named;
      err_is = same ∙ (faults outcome stands ∙ ap (λ (n : List ℕ). (of_name n).err) named);
      status_is = status (base_name path) outcome stands;
    }

-- wrong words
pub runs-refused : (asked : Option Asked) (files : FilesOfCall) (out err : SinkOfCall) (before after : List (List Tally)) (text : List ℕ) → None ≡ asked
    → files.faults_after ≡ files.faults_before → files.holding_after ≡ files.holding_before → IsUntouched out
    → text ≡ refused_words.err → IsGiven text err → after ≡ [] → Runs asked files out err before after 2
runs-refused asked files out err before after text none no_fault kept untouched is given no_kit =
    subst (λ (a : Option Asked). Runs a files out err before after 2) none
    (let refuses : RefusesWords files out err after 2 = record {
      answered = refl;
      no_fault = no_fault;
      kept = kept;
      out_untouched = untouched;
      err_given = subst (λ (t : List ℕ). IsGiven t err) is given;
      no_kit = no_kit;
    } in refuses)

-- right words
pub runs-instance : (asked : Option Asked) (a : Asked) (files : FilesOfCall) (out err : SinkOfCall) (before after : List (List Tally)) (status : ℕ) (texts : Texts)
    → Some a ≡ asked → HasTextsOf a files before after texts
    → ((effects : Effects) → IsEffects effects texts → Delivers effects out err status) → Runs asked files out err before after status
runs-instance asked a files out err before after status texts some has delivers =
    subst (λ (o : Option Asked). Runs o files out err before after status) some
    (let runs : RunsInstance a files out err before after status = record {
      load = has.load;
      outcome = has.outcome;
      answer = has.answer;
      comes = has.comes;
      feasible = has.feasible;
      effects = delivers (effects_of ((base_name a.path, has.outcome) ∷ [])) has.effects;
      kits = has.kits;
    } in runs)

status-small : (name : List ℕ) (outcome : model.Outcome) → (effects_of ((name, outcome) ∷ [])).status ≡ 3 → ⊥
status-small name model.unreadable e = omega arith
status-small name model.oversized e = omega arith
status-small name (model.refused refusal) e = omega arith
status-small name (model.solved problem found) e = omega arith

-- a run that delivers its texts isn't one without memory
pub never-3 : (a : Asked) (files : FilesOfCall) (out err : SinkOfCall) (before after : List (List Tally)) (status : ℕ) (texts : Texts)
    → HasTextsOf a files before after texts
    → ((effects : Effects) → IsEffects effects texts → Delivers effects out err status) → status ≡ 3 → ⊥
never-3 a files out err before after status texts has delivers three =
    elim (delivers (effects_of ((base_name a.path, has.outcome) ∷ [])) has.effects).answered [
      | inl usual ↦ status-small (base_name a.path) has.outcome (sym usual.0 ∙ three)
      | inr failed ↦ let four : status ≡ 4 = failed.0 in omega arith
    ]
