use Rattle.std.proofs.Common.{◌≡◌, ◌+◌, ℕ, List, [], ◌∷◌, ◌++◌, ℤ, length, None, Ok, sym, ◌∙◌, ap, subst, rules}
use Rattle.std.proofs.lemmas.List.{with_items_is}
use Rattle.vrplib_rows.specs.inside.RowTables.{AreOwned, IsKeptAs, rows_cut}
use Rattle.vrplib_model.specs.inside.FaultlessRows.{IsRow}
use Rattle.vrplib_rows.specs.KeptRows.{Listed}
use Rattle.vrplib_rows.specs.inside.NextRows.{numbers_fault}
use Rattle.vrplib_model.specs.RowFaults.{nodes_named}
use Rattle.vrplib_model.specs.Rows.{row_numbers}
use Rattle.vrplib_model.specs.Lines.{tokens}
use Rattle.vrplib_rows.proofs.RowStages.{IsRead, by_shape, cut_more, faultless_row, kept_more, later_stage, numbers_stage, token_stage}
use Rattle.vrplib_rows.proofs.rows.Rows.read_row.Goals as goal

pub returns-in-Some-clause-fault : goal.returns-in-Some-clause-fault
returns-in-Some-clause-fault c =
    let l = c.args.self.now in
    by_shape c.args.mode l.section (tokens c.args.line.now) l.nodes c.args.weights l.rows c.in-Some.rule c.in-Some.ensures.fault

pub returns-in-Some-long_fault-clause-fault : goal.returns-in-Some-long_fault-clause-fault
returns-in-Some-long_fault-clause-fault c =
    later_stage c.args.mode c.next_row-next.result (tokens c.args.line.now) c.args.weights c.self.inside.nodes c.args.self.now c.in-Some-long_fault.rule c.next_row-next.ensures.section c.next_row-next.ensures.follows c.in_default.ensures.fault
    (ap (λ (m : Listed). m.nodes) c.self.view_is) c.in-Some-long_fault.ensures

pub returns-in-Some-2-clause-fault : goal.returns-in-Some-2-clause-fault
returns-in-Some-2-clause-fault c =
    let l = c.args.self.now in
    let read : IsRead c.args.mode c.next_row-next.result (tokens c.args.line.now) c.args.weights l c.in_ok-rule.field-0 c.read_numbers.new.row.items = record {
      section_is = c.next_row-next.ensures.section;
      follows = c.next_row-next.ensures.follows;
      shaped = c.in_default.ensures.fault;
      token = c.in_ok-rule.ensures.fault;
      numbers = λ e. c.in_ok-rule.ensures.numbers (ap Ok e);
    } in
    token_stage c.args.mode c.next_row-next.result (tokens c.args.line.now) c.args.weights l c.in_ok-rule.field-0 c.read_numbers.new.row.items c.in-Some-2.rule read c.in-Some-2.is

pub returns-then-is_some-clause-fault : goal.returns-then-is_some-clause-fault
returns-then-is_some-clause-fault c =
    let l = c.args.self.now in
    let read : IsRead c.args.mode c.next_row-next.result (tokens c.args.line.now) c.args.weights l c.in_ok-rule.field-0 c.read_numbers.new.row.items = record {
      section_is = c.next_row-next.ensures.section;
      follows = c.next_row-next.ensures.follows;
      shaped = c.in_default.ensures.fault;
      token = c.in_ok-rule.ensures.fault;
      numbers = λ e. c.in_ok-rule.ensures.numbers (ap Ok e);
    } in
    let Owned : Listed → Type 0 = λ m. AreOwned m.section m.nodes m.rows c.deref-4.result.now in
    let OwnedBy : List ℕ → Type 0 = λ os. AreOwned c.self.inside.section c.self.inside.nodes (rows_cut 0 c.self.inside.ends.items c.self.inside.numbers.items) os in
    let stage = numbers_stage c.args.mode c.next_row-next.result (tokens c.args.line.now) c.args.weights c.self.inside.nodes l c.in_ok-rule.field-0 c.numbers_fault-fault.result c.read_numbers.new.row.items c.deref-2.result.now c.deref-4.result.now
    read c.in_default-2.is c.deref-2.ensures.value (ap (λ (m : Listed). m.nodes) c.self.view_is) (subst Owned c.self.view_is (subst OwnedBy (sym c.deref-4.ensures.value) c.self.invariant.owners_are)) c.numbers_fault-fault.ensures.answer in
    stage.1

pub invariant_of-self-2 : goal.invariant_of-self-2
invariant_of-self-2 c =
    let l = c.args.self.now in
    let row : List ℤ = c.read_numbers.new.row.items in
    let read : IsRead c.args.mode c.next_row-next.result (tokens c.args.line.now) c.args.weights l c.in_ok-rule.field-0 row = record {
      section_is = c.next_row-next.ensures.section;
      follows = c.next_row-next.ensures.follows;
      shaped = c.in_default.ensures.fault;
      token = c.in_ok-rule.ensures.fault;
      numbers = λ e. c.in_ok-rule.ensures.numbers (ap Ok e);
    } in
    let Owned : Listed → Type 0 = λ m. AreOwned m.section m.nodes m.rows c.deref-4.result.now in
    let OwnedBy : List ℕ → Type 0 = λ os. AreOwned c.self.inside.section c.self.inside.nodes (rows_cut 0 c.self.inside.ends.items c.self.inside.numbers.items) os in
    let stage = faultless_row c.args.mode c.next_row-next.result (tokens c.args.line.now) c.args.weights c.self.inside.nodes l c.in_ok-rule.field-0 c.numbers_fault-fault.result row c.deref-2.result.now c.deref-4.result.now
    read c.in_default-2.is c.deref-2.ensures.value (ap (λ (m : Listed). m.nodes) c.self.view_is) (subst Owned c.self.view_is (subst OwnedBy (sym c.deref-4.ensures.value) c.self.invariant.owners_are)) c.numbers_fault-fault.ensures.answer
    (sym c.is_some.ensures ∙ c.if-is_some.false) in
    let rows : List (List ℤ) = rows_cut 0 c.self.inside.ends.items c.self.inside.numbers.items in
    let IsGood : Listed → Type 0 = λ m. IsRow m.section m.nodes row × (None ≡ numbers_fault m.nodes m.section row m.rows) in
    let good = subst IsGood (sym c.self.view_is) (stage.0, stage.1) in
    let Marked : ℕ → Type 0 = λ m. IsKeptAs c.self.inside.section c.self.inside.nodes c.self.inside.numbers.items c.self.inside.ends.items c.self.inside.owners.items m in
    let kept = subst Marked (sym c.numbers_fault-fault.ensures.kept) c.self.invariant in
    let section_is : c.next_row-next.result.section ≡ c.self.inside.section = c.next_row-next.ensures.section ∙ sym (ap (λ (m : Listed). m.section) c.self.view_is) in
    let named : c.name_nodes.new.named.items ≡ nodes_named c.self.inside.section row = c.in_ok-name_nodes.ensures ∙ ap (λ ns. nodes_named c.next_row-next.result.section ns) c.deref.ensures.value ∙ ap (λ s. nodes_named s row) section_is in
    let same : c.in-Ok.number ≡ c.next_row-next.result.number = search rules in
    let number : c.in-Ok.number ≡ length rows + 1 = same ∙ c.next_row-next.ensures.follows.number ∙ sym (ap (λ (m : Listed). length m.rows + 1) c.self.view_is) in
    let Kept : List ℕ → Type 0 = λ os. IsKeptAs c.self.inside.section c.self.inside.nodes c.append_row.new.numbers.items c.append_row.new.ends.items os c.numbers_fault-fault.new.marks in
    subst Kept (sym (with_items_is c.self.inside.owners c.own.new.owners (c.own.auto.owners ∙ c.deref_mut.ensures.len)))
    (kept_more c.self.inside.section c.self.inside.nodes c.numbers_fault-fault.new.marks c.self.inside.numbers.items c.append_row.new.numbers.items row c.self.inside.ends.items c.append_row.new.ends.items
    c.self.inside.owners.items c.own.new.owners c.name_nodes.new.named.items c.in-Ok.number
    kept (c.in_ok-append_row.ensures.taken.0 ∙ ap (λ ns. c.self.inside.numbers.items ++ ns) c.deref-5.ensures.value)
    (c.in_ok-append_row.ensures.taken.1 ∙ ap (λ ns. c.self.inside.ends.items ++ (length c.self.inside.numbers.items + length ns) ∷ []) c.deref-5.ensures.value)
    good.0 good.1 named number (c.own.auto.owners ∙ ap length c.deref_mut.ensures.value)
    (λ n. rw (c.deref_mut.ensures.value, c.deref-6.ensures.value) at (c.own.ensures n)))

pub returns-clause-fault : goal.returns-clause-fault
returns-clause-fault c =
    let l = c.args.self.now in
    let row : List ℤ = c.read_numbers.new.row.items in
    let read : IsRead c.args.mode c.next_row-next.result (tokens c.args.line.now) c.args.weights l c.in_ok-rule.field-0 row = record {
      section_is = c.next_row-next.ensures.section;
      follows = c.next_row-next.ensures.follows;
      shaped = c.in_default.ensures.fault;
      token = c.in_ok-rule.ensures.fault;
      numbers = λ e. c.in_ok-rule.ensures.numbers (ap Ok e);
    } in
    let Owned : Listed → Type 0 = λ m. AreOwned m.section m.nodes m.rows c.deref-4.result.now in
    let OwnedBy : List ℕ → Type 0 = λ os. AreOwned c.self.inside.section c.self.inside.nodes (rows_cut 0 c.self.inside.ends.items c.self.inside.numbers.items) os in
    let stage = faultless_row c.args.mode c.next_row-next.result (tokens c.args.line.now) c.args.weights c.self.inside.nodes l c.in_ok-rule.field-0 c.numbers_fault-fault.result row c.deref-2.result.now c.deref-4.result.now
    read c.in_default-2.is c.deref-2.ensures.value (ap (λ (m : Listed). m.nodes) c.self.view_is) (subst Owned c.self.view_is (subst OwnedBy (sym c.deref-4.ensures.value) c.self.invariant.owners_are)) c.numbers_fault-fault.ensures.answer
    (sym c.is_some.ensures ∙ c.if-is_some.false) in
    stage.2

pub returns-clause-taken : goal.returns-clause-taken
returns-clause-taken c =
    let l = c.args.self.now in
    let row : List ℤ = c.read_numbers.new.row.items in
    let read : IsRead c.args.mode c.next_row-next.result (tokens c.args.line.now) c.args.weights l c.in_ok-rule.field-0 row = record {
      section_is = c.next_row-next.ensures.section;
      follows = c.next_row-next.ensures.follows;
      shaped = c.in_default.ensures.fault;
      token = c.in_ok-rule.ensures.fault;
      numbers = λ e. c.in_ok-rule.ensures.numbers (ap Ok e);
    } in
    let Owned : Listed → Type 0 = λ m. AreOwned m.section m.nodes m.rows c.deref-4.result.now in
    let OwnedBy : List ℕ → Type 0 = λ os. AreOwned c.self.inside.section c.self.inside.nodes (rows_cut 0 c.self.inside.ends.items c.self.inside.numbers.items) os in
    let stage = faultless_row c.args.mode c.next_row-next.result (tokens c.args.line.now) c.args.weights c.self.inside.nodes l c.in_ok-rule.field-0 c.numbers_fault-fault.result row c.deref-2.result.now c.deref-4.result.now
    read c.in_default-2.is c.deref-2.ensures.value (ap (λ (m : Listed). m.nodes) c.self.view_is) (subst Owned c.self.view_is (subst OwnedBy (sym c.deref-4.ensures.value) c.self.invariant.owners_are)) c.numbers_fault-fault.ensures.answer
    (sym c.is_some.ensures ∙ c.if-is_some.false) in
    let rows : List (List ℤ) = rows_cut 0 c.self.inside.ends.items c.self.inside.numbers.items in
    let cut : rows_cut 0 c.append_row.new.ends.items c.append_row.new.numbers.items ≡ rows ++ row ∷ [] =
    cut_more c.self.inside.numbers.items c.append_row.new.numbers.items row c.self.inside.ends.items c.append_row.new.ends.items c.self.invariant.ordered
    (c.in_ok-append_row.ensures.taken.0 ∙ ap (λ ns. c.self.inside.numbers.items ++ ns) c.deref-5.ensures.value)
    (c.in_ok-append_row.ensures.taken.1 ∙ ap (λ ns. c.self.inside.ends.items ++ (length c.self.inside.numbers.items + length ns) ∷ []) c.deref-5.ensures.value) in
    let with_rows : List (List ℤ) → Listed = λ rs. record { section = c.self.inside.section; nodes = c.self.inside.nodes; rows = rs } in
    let Taken : Listed → Type 0 = λ m. with_rows (rows_cut 0 c.append_row.new.ends.items c.append_row.new.numbers.items)
    ≡ record { section = m.section; nodes = m.nodes; rows = m.rows ++ row_numbers c.args.mode l.section l.rows (tokens c.args.line.now) ∷ [] } in
    λ _. subst Taken c.self.view_is (ap with_rows (cut ∙ ap (λ r. rows ++ r ∷ []) stage.3))
