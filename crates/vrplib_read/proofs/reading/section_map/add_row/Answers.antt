use Rattle.std.proofs.Common.{◌≡◌, Some, sym, ◌∙◌, ap, refl, subst}
use Rattle.std.specs.Prelude.{if◌then◌else◌, is_some}
use Rattle.std.specs.Map.{lookup}
use Rattle.std.proofs.lemmas.Result.{IfOk-weaker}
use Rattle.vrplib_model.specs.RowFaults.{fault_of_row}
use Rattle.vrplib_model.specs.Lines.{tokens}
use Rattle.vrplib_model.specs.declared.section.Section.{Section}
use Rattle.vrplib_model.specs.Sections.{same_section}
use Rattle.vrplib_read.proofs.SectionMaps.{lookup-same, lookup-updated, kinds-kept}
use Rattle.vrplib_read.proofs.reading.section_map.add_row.Goals as goal

-- the rows before
found : (c : goal.After-sections-in-Some-1) → lookup (same_section c.args.section) c.args.sections.now.entries ≡ Some c.in-Some.rows.now
found c = sym (c.in-Some.ensures.value ∙ lookup-same c.args.section c.args.sections.now.entries)

-- the rows behind it
written : (c : goal.After-sections-in-Some-1) (s : Section) → lookup (same_section s) (c.get_mut.follows.lender c.read_row.new.self).entries
    ≡ (if same_section c.args.section s then Some c.read_row.new.self else lookup (same_section s) c.args.sections.now.entries)
written c =
    lookup-updated c.args.sections.now.entries (c.get_mut.follows.lender c.read_row.new.self).entries c.args.section (Some c.read_row.new.self)
    ((c.get_mut.follows.holds c.read_row.new.self).3 (ap is_some (sym c.in-Some.ensures.value))).0

pub returns-clause-fault : goal.returns-clause-fault
returns-clause-fault c = IfOk-weaker c.read_row.result _ _
    (λ fault h l e. let same : Some l ≡ Some c.in-Some.rows.now = sym e ∙ found c in let listed : l ≡ c.in-Some.rows.now = cc in
    h ∙ ap (λ l. fault_of_row c.args.mode l.section (tokens c.args.line.now) l.nodes c.args.weights l.rows) (sym listed)) c.read_row.ensures.fault

pub returns-clause-added : goal.returns-clause-added
returns-clause-added c = λ none s.
    written c s ∙ rw (c.read_row.ensures.taken none, found c) refl

pub returns-clause-kept : goal.returns-clause-kept
returns-clause-kept c = λ s.
    kinds-kept c.args.section s _ _ c.read_row.new.self c.in-Some.rows.now (written c s) (λ same. subst (λ s. lookup (same_section s) c.args.sections.now.entries ≡ Some c.in-Some.rows.now) same (found c)) (rw (c.read_row.ensures.kept.0, c.read_row.ensures.kept.1) refl)
