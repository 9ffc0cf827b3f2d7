use Rattle.std.proofs.Common.{◌≡◌, ◌∙◌, ◌<◌, ℕ, IsTrue, None, Some, ap, arith, false, length, subst, sym}
use Rattle.std.proofs.lemmas.List.{get_or_default}
use Rattle.problem_data.specs.declared.problem.Client.{Client}
use Rattle.problem_data.specs.declared.visit.Visit.{Visit}
use Rattle.problem_data.specs.Places.{client_at, is_client_place}
use Rattle.routing_model.specs.Lawful.{names_place}
use Rattle.random_model.proofs.GroupMembers.{group_in_range}
use Rattle.exchange_children.proofs.ClashTests.{clash-alone, clash-in_group, client-below}
use Rattle.exchange_children.proofs.clashes.Clashes.clash.Goals as goal

pub index-requires-in-Some : goal.index-requires-in-Some
index-requires-in-Some c =
    let p = c.args.given.now in
    let place : ℕ = c.in-Client.place in
    let e : (client_at p place).group ≡ Some c.in-Some.group = sym (ap (λ (x : Client). x.group) c.client.ensures.client) ∙ c.in-Some.is in
    let there = group_in_range p place c.in-Some.group c.validity.ensures (subst (λ (v : Visit). IsTrue (names_place p v)) c.in-Client.is c.requires.named) e in
    let marks = c.requires.marks.groups in
    let long = c.args.self.now.groups.ok.0 in
    omega arith

pub returns-in-Some : goal.returns-in-Some
returns-in-Some c = λ clients are.
    let p = c.args.given.now in
    let place : ℕ = c.in-Client.place in
    let group : ℕ = c.in-Some.group in
    let marks = c.args.self.now.clients.items in
    let groups = c.args.self.now.groups.items in
    let named : IsTrue (is_client_place p place) = subst (λ (v : Visit). IsTrue (names_place p v)) c.in-Client.is c.requires.named in
    let e : (client_at p place).group ≡ Some group = sym (ap (λ (x : Client). x.group) c.client.ensures.client) ∙ c.in-Some.is in
    let here : place < length marks = subst (λ (n : ℕ). place < n) (sym c.requires.marks.places) (client-below p place named) in
    let there : group < length groups = subst (λ (n : ℕ). group < n) (sym c.requires.marks.groups) (group_in_range p place group c.validity.ensures named e) in
    clash-in_group p clients place c.args.visit c.in-Client.is
    (sym (are.marked place here) ∙ (get_or_default marks place false c.index.result.now here ∙ (sym c.index.ensures ∙ c.if-index.false)))
    group c.index-in-Some.result.now e
    (c.index-in-Some.ensures ∙ (get_or_default groups group c.index-in-Some.result.now false there ∙ are.groups group there))

pub returns-in-None : goal.returns-in-None
returns-in-None c = λ clients are.
    let p = c.args.given.now in
    let place : ℕ = c.in-Client.place in
    let marks = c.args.self.now.clients.items in
    let named : IsTrue (is_client_place p place) = subst (λ (v : Visit). IsTrue (names_place p v)) c.in-Client.is c.requires.named in
    let e : (client_at p place).group ≡ None = sym (ap (λ (x : Client). x.group) c.client.ensures.client) ∙ c.in-None.is in
    let here : place < length marks = subst (λ (n : ℕ). place < n) (sym c.requires.marks.places) (client-below p place named) in
    clash-alone p clients place c.args.visit c.in-Client.is
    (sym (are.marked place here) ∙ (get_or_default marks place false c.index.result.now here ∙ (sym c.index.ensures ∙ c.if-index.false))) e
