-- What lists of parts describe, a part at a time, and how many parts they have.
use Rattle.std.proofs.Common.{◌≡◌, ℕ, ◌+◌, ◌<◌, List, [], ◌∷◌, ◌++◌, length, drop, get_or, refl, ap}
use Rattle.std.proofs.Common.{◌∙◌, add-one, drop-cons, length-append, arith}
use Rattle.sf_value.specs.declared.value.Bare.{Bare}
use Rattle.sf_value.specs.declared.value.Inner.{Inner}
use Rattle.sf_value.specs.declared.value.Item.{Item}
use Rattle.sf_value.specs.declared.value.Member.{Member}
use Rattle.sf_value.specs.Grammar.Pairs.{Pairs}
use Rattle.sf_view.specs.declared.node_types.Role.{Role}
use Rattle.sf_view.specs.declared.node_types.Role.TheVariants.{InnerItem, InnerParameter, Parameter}
use Rattle.sf_nodes.specs.Nodes.{params_content, item_content, items_content, inside_content}
use Rattle.sf_nodes.specs.Nodes.{member_content, members_content}

-- the next of the Items
pub next_content : (items : List Item) (i : ℕ) (x : Item) → i < length items → x ≡ get_or items i x
    → items_content (drop i items)
    ≡ item_content InnerItem [] x ++ items_content (drop (i + 1) items)
next_content items i x h e = ap items_content (drop-cons items i x h) ∙ rw (add-one, ← e)

-- the next of the members
pub next_member : (ms : List Member) (i : ℕ) (x : Member) → i < length ms → x ≡ get_or ms i x
    → members_content (drop i ms) ≡ member_content [] x ++ members_content (drop (i + 1) ms)
next_member ms i x h e = ap members_content (drop-cons ms i x h) ∙ rw (add-one, ← e)

-- a node for each parameter
pub length_params : (role : Role) (ps : Pairs Bare) → length (params_content role ps) ≡ length ps
length_params role [] = refl
length_params role (p ∷ ps) = let e = length_params role ps in omega arith

-- an Item has a node and one for each parameter
pub length_next : (items : List Item) (i : ℕ) (x : Item) → i < length items
    → x ≡ get_or items i x
    → length (items_content (drop i items))
    ≡ (1 + length x.params) + length (items_content (drop (i + 1) items))
length_next items i x h e =
    let next = ap length (next_content items i x h e) in
    let both = length-append (item_content InnerItem [] x) (items_content (drop (i + 1) items)) in
    let params = length_params Parameter x.params in
    omega arith

-- what is inside an Inner List
pub length_inside : (l : Inner)
    → length (inside_content l) ≡ length (items_content l.items) + length l.params
length_inside l =
    let both = length-append (items_content l.items) (params_content InnerParameter l.params) in
    let params = length_params InnerParameter l.params in
    omega arith
