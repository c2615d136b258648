use Rattle.std.proofs.Common.{◌≡◌, ◌∙◌, [], ap, Some, None}
use Rattle.std.specs.Option.{option_map}
use Rattle.sf_value.specs.declared.dialect.Dialect.{Dialect}
use Rattle.sf_value.specs.declared.value.Field.{Field}
use Rattle.sf_value.specs.declared.value.Field.TheVariants as field
use Rattle.sf_value.specs.Grammar.Valid.{Valid, ValidItem}
use Rattle.sf_value.proofs.Settling.{settle-distinct}
use Rattle.sf_view.specs.declared.node_types.Role.TheVariants as role_is
use Rattle.sf_view.specs.Copies.{dict_of}
use Rattle.sf_view.specs.View.{DescribesField}
use Rattle.sf_view.proofs.Copying.{copy_is, viewed_is}
use Rattle.sf_view.proofs.view.View.to_field.Goals.{In_ok-item-in-Item, In_ok-list-in-List}
use Rattle.sf_view.proofs.view.View.to_field.Goals.{In_ok-dict-in-Dict}
use Rattle.sf_view.proofs.view.View.to_field.Goals as goal

item : (c : In_ok-item-in-Item) (d : Dialect) (v : Field)
    → DescribesField d c.args.self.now.text.now c.args.self.now.nodes.now v
    → Valid d c.args.kind v → option_map field.Item c.in_ok-item-in-Item.field-0 ≡ Some v
item c d (field.Item i) t valid =
    let k = rw c.in-Item.is at valid in
    ap (option_map field.Item)
    (copy_is (ValidItem d i) i _
    (c.in_ok-item-in-Item.ensures.copy d role_is.Member [] i t k.1.1) k)
item c d v t valid = absurd (rw c.in-Item.is at valid)

list : (c : In_ok-list-in-List) (d : Dialect) (v : Field)
    → DescribesField d c.args.self.now.text.now c.args.self.now.nodes.now v
    → Valid d c.args.kind v → option_map field.List c.in_ok-list-in-List.field-0 ≡ Some v
list c d (field.List l) t valid =
    ap (option_map field.List)
    (c.in_ok-list-in-List.ensures d l.members t (rw c.in-List.is at valid))
list c d v t valid = absurd (rw c.in-List.is at valid)

dict : (c : In_ok-dict-in-Dict) (d : Dialect) (v : Field)
    → DescribesField d c.args.self.now.text.now c.args.self.now.nodes.now v
    → Valid d c.args.kind v → option_map field.Dict c.in_ok-dict-in-Dict.field-0 ≡ Some v
dict c d (field.Dict m) t valid =
    let k = rw c.in-Dict.is at valid in
    ap (option_map field.Dict)
    (c.in_ok-dict-in-Dict.ensures d m.members t k.0
    ∙ ap (λ ps. Some (dict_of ps)) (settle-distinct m.members k.1))
dict c d v t valid = absurd (rw c.in-Dict.is at valid)

pub returns-in_default-clause-copy : goal.returns-in_default-clause-copy
returns-in_default-clause-copy c = λ d v t valid.
    let e = item (goal.at.returns-in_default-clause-copy c).In_ok-item-in-Item d v t valid in
    let is = c.in_default.is in
    cc

pub returns-in-Item-clause-copy : goal.returns-in-Item-clause-copy
returns-in-Item-clause-copy c = λ d v t valid.
    let is = c.in-Some.is in
    let some : Some c.in-Some.item ≡ c.in_ok-item-in-Item.field-0 = cc in
    ap (option_map field.Item) some
    ∙ item (goal.at.returns-in-Item-clause-copy c).In_ok-item-in-Item d v t valid

pub returns-in_default-2-clause-copy : goal.returns-in_default-2-clause-copy
returns-in_default-2-clause-copy c = λ d v t valid.
    let e = list (goal.at.returns-in_default-2-clause-copy c).In_ok-list-in-List d v t valid in
    let is = c.in_default-2.is in
    cc

pub returns-in-List-clause-copy : goal.returns-in-List-clause-copy
returns-in-List-clause-copy c = λ d v t valid.
    let is = c.in-Some-2.is in
    let some : Some c.in-Some-2.list ≡ c.in_ok-list-in-List.field-0 = cc in
    ap (option_map field.List) some
    ∙ list (goal.at.returns-in-List-clause-copy c).In_ok-list-in-List d v t valid

pub returns-in_default-3-clause-copy : goal.returns-in_default-3-clause-copy
returns-in_default-3-clause-copy c = λ d v t valid.
    let e = dict (goal.at.returns-in_default-3-clause-copy c).In_ok-dict-in-Dict d v t valid in
    let is = c.in_default-3.is in
    cc

pub returns-in-Dict-clause-copy : goal.returns-in-Dict-clause-copy
returns-in-Dict-clause-copy c = λ d v t valid.
    let is = c.in-Some-3.is in
    let some : Some c.in-Some-3.dict ≡ c.in_ok-dict-in-Dict.field-0 = cc in
    ap (option_map field.Dict) some
    ∙ dict (goal.at.returns-in-Dict-clause-copy c).In_ok-dict-in-Dict d v t valid

pub returns-in_default-clause-scanned : goal.returns-in_default-clause-scanned
returns-in_default-clause-scanned c = λ d t w.
    viewed_is d c.args.kind t c.args.self.now None w (returns-in_default-clause-copy c d)

pub returns-in-Item-clause-scanned : goal.returns-in-Item-clause-scanned
returns-in-Item-clause-scanned c = λ d t w.
    viewed_is d c.args.kind t c.args.self.now (Some (field.Item c.in-Some.item)) w
    (returns-in-Item-clause-copy c d)

pub returns-in_default-2-clause-scanned : goal.returns-in_default-2-clause-scanned
returns-in_default-2-clause-scanned c = λ d t w.
    viewed_is d c.args.kind t c.args.self.now None w (returns-in_default-2-clause-copy c d)

pub returns-in-List-clause-scanned : goal.returns-in-List-clause-scanned
returns-in-List-clause-scanned c = λ d t w.
    viewed_is d c.args.kind t c.args.self.now (Some (field.List c.in-Some-2.list)) w
    (returns-in-List-clause-copy c d)

pub returns-in_default-3-clause-scanned : goal.returns-in_default-3-clause-scanned
returns-in_default-3-clause-scanned c = λ d t w.
    viewed_is d c.args.kind t c.args.self.now None w (returns-in_default-3-clause-copy c d)

pub returns-in-Dict-clause-scanned : goal.returns-in-Dict-clause-scanned
returns-in-Dict-clause-scanned c = λ d t w.
    viewed_is d c.args.kind t c.args.self.now (Some (field.Dict c.in-Some-3.dict)) w
    (returns-in-Dict-clause-copy c d)
