-- The sections that are kept, by name, behind a change.
use Rattle.std.proofs.Common.{◌≡◌, ℕ, ◌⊎◌, inl, inr, true, false, List, refl, sym, ◌∙◌, ap, cond, Option, Some, None}
use Rattle.std.specs.Prelude.{if◌then◌else◌, option_map, is_some}
use Rattle.std.specs.Option.{ForSome}
use Rattle.std.specs.Map.{lookup}
use denote.Enum.Bare.{sameb}
use Rattle.vrplib_model.specs.contracts.section.Section.{the_type}
use Rattle.vrplib_model.specs.declared.section.Section.{Section}
use Rattle.vrplib_model.specs.Sections.{same_section}
use Rattle.vrplib_rows.specs.KeptRows.{Listed}
use Rattle.vrplib_read.specs.inside.Steps.{kind_of}
use Rattle.vrplib_read.proofs.ReadingLaws.{same_section-true}
use Rattle.vrplib_read.proofs.SectionKeys.{same_test, same_lookup}

abbrev Entries : Type 0
Entries = List (Section × Listed)

pub lookup-same : (s : Section) (es : Entries) → lookup (sameb the_type s) es ≡ lookup (same_section s) es
lookup-same s es = same_lookup (sameb the_type s) (same_section s) (same_test s) es

-- one section's rows are others, and the rest stays
pub lookup-updated : (es fs : Entries) (section : Section) (w : Option Listed)
    → ((q : Section) → lookup (sameb the_type q) fs ≡ cond (sameb the_type section q) w (lookup (sameb the_type q) es))
    → (s : Section) → lookup (same_section s) fs ≡ (if same_section section s then w else lookup (same_section s) es)
lookup-updated es fs section w h s =
    sym (lookup-same s fs) ∙ (h s ∙ rw (same_test section s, lookup-same s es) refl)

pub either-updated : (section s : Section) (new old : Option Listed) (rows : Listed) → new ≡ (if same_section section s then Some rows else old)
    → (new ≡ old) ⊎ ((section ≡ s) × (new ≡ Some rows))
either-updated section s new old rows h =
    elim (same_section section s) as (λ v. same_section section s ≡ v → new ≡ (if v then Some rows else old) → (new ≡ old) ⊎ ((section ≡ s) × (new ≡ Some rows))) [
      | true ↦ λ e same. inr (same_section-true section s e, same)
      | false ↦ λ e same. inl same
    ] refl h

-- the kinds of all rows stay where that of the one section's does
pub kinds-kept : (section s : Section) (new old : Option Listed) (rows was : Listed) → new ≡ (if same_section section s then Some rows else old)
    → (section ≡ s → old ≡ Some was) → kind_of rows ≡ kind_of was → option_map kind_of new ≡ option_map kind_of old
kinds-kept section s new old rows was h found kind =
    elim (same_section section s) as (λ v. same_section section s ≡ v → new ≡ (if v then Some rows else old) → option_map kind_of new ≡ option_map kind_of old) [
      | true ↦ λ e same. ap (option_map kind_of) same ∙ (ap Some kind ∙ ap (option_map kind_of) (sym (found (same_section-true section s e))))
      | false ↦ λ e same. ap (option_map kind_of) same
    ] refl h

-- what holds of a section's kind, or whether it is there, stays where the kinds do
pub keyed-kept : (s : Section) (n : ℕ) (new old : Option Listed) → option_map kind_of new ≡ option_map kind_of old
    → ForSome old (λ l. (l.section ≡ s) × (l.nodes ≡ n)) → ForSome new (λ l. (l.section ≡ s) × (l.nodes ≡ n))
keyed-kept s n new None e h = λ x there. let none : None ≡ Some (kind_of x) = sym e ∙ ap (option_map kind_of) there in absurd (cc)
keyed-kept s n new (Some y) e h = λ x there.
    let kinds : Some (kind_of y) ≡ Some (kind_of x) = sym e ∙ ap (option_map kind_of) there in
    let kind : kind_of y ≡ kind_of x = cc in
    let was = h y refl in
    (ap (λ k. k.0) (sym kind) ∙ was.0, ap (λ k. k.1) (sym kind) ∙ was.1)

pub some-kept : (new old : Option Listed) → option_map kind_of new ≡ option_map kind_of old → is_some new ≡ is_some old
some-kept None None e = refl
some-kept None (Some y) e = absurd (cc)
some-kept (Some x) None e = absurd (cc)
some-kept (Some x) (Some y) e = refl

pub sized-kept : (P : Type 0) (new old : Option Listed) → option_map kind_of new ≡ option_map kind_of old → ForSome old (λ _. P) → ForSome new (λ _. P)
sized-kept P new None e h = λ x there. let none : None ≡ Some (kind_of x) = sym e ∙ ap (option_map kind_of) there in absurd (cc)
sized-kept P new (Some y) e h = λ x there. h y refl

-- the same where rows are put there
pub keyed-put : (section s : Section) (n : ℕ) (new old : Option Listed) (rows : Listed) → rows.section ≡ section → rows.nodes ≡ n
    → (new ≡ old) ⊎ ((section ≡ s) × (new ≡ Some rows)) → ForSome old (λ l. (l.section ≡ s) × (l.nodes ≡ n)) → ForSome new (λ l. (l.section ≡ s) × (l.nodes ≡ n))
keyed-put section s n new old rows same nodes (inl e) h = λ x there. h x (sym e ∙ there)
keyed-put section s n new old rows same nodes (inr e) h = λ x there.
    let found : Some rows ≡ Some x = sym e.1 ∙ there in
    let is : rows ≡ x = cc in
    (ap (λ l. l.section) (sym is) ∙ (same ∙ e.0), ap (λ l. l.nodes) (sym is) ∙ nodes)

pub some-put : (section s : Section) (new old : Option Listed) (rows : Listed) → (new ≡ old) ⊎ ((section ≡ s) × (new ≡ Some rows)) → is_some old ≡ true → is_some new ≡ true
some-put section s new old rows (inl e) h = ap is_some e ∙ h
some-put section s new old rows (inr e) h = ap is_some e.1
