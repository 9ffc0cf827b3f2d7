-- A walk over the clients, one step at a time.
use Rattle.std.proofs.Common.{◌≡◌, ◌∙◌, sym, refl, ap, ℕ, ◌+◌, ◌<◌, Bool, true, false, cond, List, [], ◌∷◌, ◌++◌, length, take, fold, get_or, append_assoc}
use Rattle.std.proofs.lemmas.List.{append-nil}
use Rattle.std.proofs.lemmas.List.Sums.{fold_more}
use Rattle.problem_data.specs.declared.problem.Problem.{Problem}
use Rattle.vrp_num.specs.Words.{State}
use Rattle.random_model.specs.RandomSolution.{Choice, chosen, passed_over, by_draw, Walk, walked_by, walk_step, walk, choice_of}
use Rattle.random_model.proofs.DrawnClients.{met_by}
use Rattle.random_plans.specs.inside.Choices.{is_taken, state_past}

-- what a step makes of the three parts of a walk
picked_by : (choice : Choice) (w : Walk) (c : ℕ) → (walked_by choice w c).picked ≡ cond (is_taken choice w.state) (w.picked ++ c ∷ []) w.picked
picked_by chosen w c = refl
picked_by passed_over w c = refl
picked_by by_draw w c = refl

state_by : (choice : Choice) (w : Walk) (c : ℕ) → (walked_by choice w c).state ≡ state_past choice w.state
state_by chosen w c = refl
state_by passed_over w c = refl
state_by by_draw w c = refl

-- a walk meets its order
walk-met : (p : Problem) (order : List ℕ) (w : Walk) → (fold (walk_step p) w order).met ≡ w.met ++ order
walk-met p [] w = sym (append-nil w.met)
walk-met p (c ∷ order) w =
    walk-met p order (walk_step p w c)
    ∙ ap (λ (l : List ℕ). l ++ order) (met_by (choice_of p w.met c) w c)
    ∙ append_assoc w.met (c ∷ []) order

-- the walk over the first places of an order
abbrev pub walked : Problem → List ℕ → State → ℕ → Walk
walked p order s i = walk p (take i order) s

-- the choice at a place of the order
abbrev pub choice_next : Problem → List ℕ → ℕ → Choice
choice_next p order i = choice_of p (take i order) (get_or order i 0)

walk_next : (p : Problem) (order : List ℕ) (s : State) (i : ℕ) → i < length order →
    walked p order s (i + 1) ≡ walked_by (choice_next p order i) (walked p order s i) (get_or order i 0)
walk_next p order s i h =
    fold_more (walk_step p) (record { met = []; picked = []; state = s }) order i 0 h
    ∙ ap (λ (met : List ℕ). walked_by (choice_of p met (get_or order i 0)) (walked p order s i) (get_or order i 0)) (walk-met p (take i order) (record { met = []; picked = []; state = s }))

pub picked-more : (p : Problem) (order : List ℕ) (s : State) (i : ℕ) → i < length order →
    (walked p order s (i + 1)).picked ≡ cond (is_taken (choice_next p order i) (walked p order s i).state) ((walked p order s i).picked ++ get_or order i 0 ∷ []) (walked p order s i).picked
picked-more p order s i h = ap (λ (w : Walk). w.picked) (walk_next p order s i h) ∙ picked_by (choice_next p order i) (walked p order s i) (get_or order i 0)

pub state-more : (p : Problem) (order : List ℕ) (s : State) (i : ℕ) → i < length order →
    (walked p order s (i + 1)).state ≡ state_past (choice_next p order i) (walked p order s i).state
state-more p order s i h = ap (λ (w : Walk). w.state) (walk_next p order s i h) ∙ state_by (choice_next p order i) (walked p order s i) (get_or order i 0)

-- the chosen after a client that is chosen, and after one that isn't
pub picked-yes : (p : Problem) (order : List ℕ) (s : State) (i : ℕ) (xs : List ℕ) → i < length order →
    is_taken (choice_next p order i) (walked p order s i).state ≡ true → xs ≡ (walked p order s i).picked →
    xs ++ get_or order i 0 ∷ [] ≡ (walked p order s (i + 1)).picked
picked-yes p order s i xs h t e =
    ap (λ (l : List ℕ). l ++ get_or order i 0 ∷ []) e
    ∙ sym (picked-more p order s i h ∙ ap (λ (b : Bool). cond b ((walked p order s i).picked ++ get_or order i 0 ∷ []) (walked p order s i).picked) t)

pub picked-no : (p : Problem) (order : List ℕ) (s : State) (i : ℕ) (xs : List ℕ) → i < length order →
    is_taken (choice_next p order i) (walked p order s i).state ≡ false → xs ≡ (walked p order s i).picked →
    xs ≡ (walked p order s (i + 1)).picked
picked-no p order s i xs h t e =
    e ∙ sym (picked-more p order s i h ∙ ap (λ (b : Bool). cond b ((walked p order s i).picked ++ get_or order i 0 ∷ []) (walked p order s i).picked) t)
