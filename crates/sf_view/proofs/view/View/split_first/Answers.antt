use Rattle.sf_view.proofs.Splitting.{members_split, members_end, entries_split, entries_end}
use Rattle.sf_view.proofs.Splitting.{items_split, items_end, params_split, params_end}
use Rattle.sf_view.proofs.view.View.split_first.Goals as goal

pub returns-in_default-clause-members : goal.returns-in_default-clause-members
returns-in_default-clause-members c = λ d ms t.
    members_end d c.args.self.now.text.now c.args.self.now.nodes.now ms c.in_default.ensures.none t

pub returns-in_default-clause-entries : goal.returns-in_default-clause-entries
returns-in_default-clause-entries c = λ d ps t.
    entries_end d c.args.self.now.text.now c.args.self.now.nodes.now ps c.in_default.ensures.none t

pub returns-in_default-clause-items : goal.returns-in_default-clause-items
returns-in_default-clause-items c = λ d is t.
    items_end d c.args.self.now.text.now c.args.self.now.nodes.now is c.in_default.ensures.none t

pub returns-in_default-clause-params : goal.returns-in_default-clause-params
returns-in_default-clause-params c = λ d r ps t.
    params_end d c.args.self.now.text.now r c.args.self.now.nodes.now ps c.in_default.ensures.none t

pub returns-clause-members : goal.returns-clause-members
returns-clause-members c = λ d ms t.
    let h = c.in-Some in
    members_split d c.args.self.now.text.now c.args.self.now.nodes.now ms h.field-0-0.now
    h.prefix.now h.later.now h.ensures.hop t

pub returns-clause-entries : goal.returns-clause-entries
returns-clause-entries c = λ d ps t.
    let h = c.in-Some in
    entries_split d c.args.self.now.text.now c.args.self.now.nodes.now ps h.field-0-0.now
    h.prefix.now h.later.now h.ensures.hop t

pub returns-clause-items : goal.returns-clause-items
returns-clause-items c = λ d is t.
    let h = c.in-Some in
    items_split d c.args.self.now.text.now c.args.self.now.nodes.now is h.field-0-0.now
    h.prefix.now h.later.now h.ensures.hop t

pub returns-clause-params : goal.returns-clause-params
returns-clause-params c = λ d r ps t.
    let h = c.in-Some in
    params_split d c.args.self.now.text.now r c.args.self.now.nodes.now ps h.field-0-0.now
    h.prefix.now h.later.now h.ensures.hop t
