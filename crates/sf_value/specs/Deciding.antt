-- The tests of equality decide ≡, so each is an equivalence: what `==` has to be.
use Rattle.std.proofs.Common.{◌≡◌, ℕ, Bool, true, false, ◌&&◌, List as Seq, refl, ap, ◌∙◌, sym}
use Rattle.std.proofs.Common.{subst, true≢false}
use Rattle.std.specs.Bool.{Decides}
use Rattle.std.specs.Cmp.{signed_Decides, booleans_Decides, first_so, second_so, decided}
use Rattle.std.specs.Cmp.{IsEquivalence}
use Rattle.std.specs.Cmp.Lexicographic.{pointwise, pointwise_decides, bytes_decides}
use Rattle.std.specs.Str.{bytes_eq}
use Rattle.sf_value.specs.declared.value.Bare.{Bare}
use Rattle.sf_value.specs.declared.value.Bare.TheVariants.{Integer, Decimal, Text, Token}
use Rattle.sf_value.specs.declared.value.Bare.TheVariants.{Blob, Boolean, Date, Shown}
use Rattle.sf_value.specs.declared.value.Item.{Item}
use Rattle.sf_value.specs.declared.value.Inner.{Inner}
use Rattle.sf_value.specs.declared.value.List.{List}
use Rattle.sf_value.specs.declared.value.Dict.{Dict}
use Rattle.sf_value.specs.declared.value.Member.{Member}
use Rattle.sf_value.specs.declared.value.Member.TheVariants as member
use Rattle.sf_value.specs.declared.value.Field.{Field}
use Rattle.sf_value.specs.declared.value.Field.TheVariants as field
use Rattle.sf_value.specs.Grammar.Items.{item}
use Rattle.sf_value.specs.Grammar.InnerLists.{inner}
use Rattle.sf_value.specs.Grammar.Pairs.{Pairs}
use Rattle.sf_value.specs.Equality.{bare_eq, entry_eq, item_eq, inner_eq, member_eq, list_eq}
use Rattle.sf_value.specs.Equality.{dict_eq, field_eq}

-- a test that is true for equal values, and for no others, decides equality
decides_by : {K : Type 0} (test : K → K → Bool) → ((a b : K) → test a b ≡ true → a ≡ b)
    → ((a : K) → test a a ≡ true) → (a b : K) → Decides (test a b) (a ≡ b)
decides_by test tells itself a b = (
  tells a b,
  λ e. subst (λ c. test a c ≡ true) e (itself a),
)

never : {P : Type 0} → false ≡ true → P
never e = absurd (true≢false (sym e))

both : (s t : Bool) → s ≡ true → t ≡ true → (s && t) ≡ true
both true t a b = b
both false t a b = a

same_bare : (a b : Bare) → bare_eq a b ≡ true → a ≡ b
same_bare (Integer a) (Integer b) e = ap Integer ((signed_Decides a b).0 e)
same_bare (Decimal a) (Decimal b) e = ap Decimal ((signed_Decides a b).0 e)
same_bare (Text a) (Text b) e = ap Text ((bytes_decides a b).0 e)
same_bare (Token a) (Token b) e = ap Token ((bytes_decides a b).0 e)
same_bare (Blob a) (Blob b) e = ap Blob ((bytes_decides a b).0 e)
same_bare (Boolean a) (Boolean b) e = ap Boolean ((booleans_Decides a b).0 e)
same_bare (Date a) (Date b) e = ap Date ((signed_Decides a b).0 e)
same_bare (Shown a) (Shown b) e = ap Shown ((bytes_decides a b).0 e)
same_bare a b e = never e

bare_itself : (a : Bare) → bare_eq a a ≡ true
bare_itself (Integer a) = (signed_Decides a a).1 refl
bare_itself (Decimal a) = (signed_Decides a a).1 refl
bare_itself (Text a) = (bytes_decides a a).1 refl
bare_itself (Token a) = (bytes_decides a a).1 refl
bare_itself (Blob a) = (bytes_decides a a).1 refl
bare_itself (Boolean a) = (booleans_Decides a a).1 refl
bare_itself (Date a) = (signed_Decides a a).1 refl
bare_itself (Shown a) = (bytes_decides a a).1 refl

pub bare_decides : (a b : Bare) → Decides (bare_eq a b) (a ≡ b)
bare_decides = decides_by bare_eq same_bare bare_itself

entry_decides : {V : Type 0} (test : V → V → Bool)
    → ((a b : V) → Decides (test a b) (a ≡ b))
    → (a b : Seq ℕ × V) → Decides (entry_eq test a b) (a ≡ b)
entry_decides {V} test d =
    decides_by (entry_eq test)
    (λ a b e.
    let key = (bytes_decides a.0 b.0).0 (first_so (bytes_eq a.0 b.0) (test a.1 b.1) e) in
    let value = (d a.1 b.1).0 (second_so (bytes_eq a.0 b.0) (test a.1 b.1) e) in
    let pair : Seq ℕ → V → Seq ℕ × V = λ k v. (k, v) in
    ap (λ k. pair k a.1) key ∙ ap (λ v. pair b.0 v) value)
    (λ a.
    both (bytes_eq a.0 a.0) (test a.1 a.1) ((bytes_decides a.0 a.0).1 refl)
    ((d a.1 a.1).1 refl))

pub pairs_decide : {V : Type 0} (test : V → V → Bool)
    → ((a b : V) → Decides (test a b) (a ≡ b))
    → (a b : Pairs V) → Decides (pointwise (entry_eq test) a b) (a ≡ b)
pairs_decide test d = pointwise_decides (entry_decides test d)

pub params_decides : (a b : Pairs Bare) → Decides (pointwise (entry_eq bare_eq) a b) (a ≡ b)
params_decides = pairs_decide bare_eq bare_decides

pub item_decides : (a b : Item) → Decides (item_eq a b) (a ≡ b)
item_decides =
    decides_by item_eq
    (λ a b e.
    let rest = pointwise (entry_eq bare_eq) a.params b.params in
    let x = (bare_decides a.bare b.bare).0 (first_so (bare_eq a.bare b.bare) rest e) in
    let ps = (params_decides a.params b.params).0
    (second_so (bare_eq a.bare b.bare) rest e) in
    ap (λ x. item x a.params) x ∙ ap (λ ps. item b.bare ps) ps)
    (λ a.
    both (bare_eq a.bare a.bare) (pointwise (entry_eq bare_eq) a.params a.params)
    ((bare_decides a.bare a.bare).1 refl) ((params_decides a.params a.params).1 refl))

items_decides : (a b : Seq Item) → Decides (pointwise item_eq a b) (a ≡ b)
items_decides = pointwise_decides item_decides

pub inner_decides : (a b : Inner) → Decides (inner_eq a b) (a ≡ b)
inner_decides =
    decides_by inner_eq
    (λ a b e.
    let prefix = pointwise item_eq a.items b.items in
    let rest = pointwise (entry_eq bare_eq) a.params b.params in
    let is = (items_decides a.items b.items).0 (first_so prefix rest e) in
    let ps = (params_decides a.params b.params).0 (second_so prefix rest e) in
    ap (λ is. inner is a.params) is ∙ ap (λ ps. inner b.items ps) ps)
    (λ a.
    both (pointwise item_eq a.items a.items) (pointwise (entry_eq bare_eq) a.params a.params)
    ((items_decides a.items a.items).1 refl) ((params_decides a.params a.params).1 refl))

same_member : (a b : Member) → member_eq a b ≡ true → a ≡ b
same_member (member.Item a) (member.Item b) e = ap member.Item ((item_decides a b).0 e)
same_member (member.Inner a) (member.Inner b) e = ap member.Inner ((inner_decides a b).0 e)
same_member a b e = never e

member_itself : (a : Member) → member_eq a a ≡ true
member_itself (member.Item a) = (item_decides a a).1 refl
member_itself (member.Inner a) = (inner_decides a a).1 refl

pub member_decides : (a b : Member) → Decides (member_eq a b) (a ≡ b)
member_decides = decides_by member_eq same_member member_itself

pub members_decide : (a b : Seq Member) → Decides (pointwise member_eq a b) (a ≡ b)
members_decide = pointwise_decides member_decides

pub entries_decide : (a b : Pairs Member) → Decides (pointwise (entry_eq member_eq) a b) (a ≡ b)
entries_decide = pairs_decide member_eq member_decides

list : Seq Member → List
list ms = record { members = ms }

dict : Pairs Member → Dict
dict ps = record { members = ps }

pub list_decides : (a b : List) → Decides (list_eq a b) (a ≡ b)
unfolding list
list_decides =
    decides_by list_eq (λ a b e. ap list ((members_decide a.members b.members).0 e))
    (λ a. (members_decide a.members a.members).1 refl)

pub dict_decides : (a b : Dict) → Decides (dict_eq a b) (a ≡ b)
unfolding dict
dict_decides =
    decides_by dict_eq (λ a b e. ap dict ((entries_decide a.members b.members).0 e))
    (λ a. (entries_decide a.members a.members).1 refl)

same_field : (a b : Field) → field_eq a b ≡ true → a ≡ b
same_field (field.Item a) (field.Item b) e = ap field.Item ((item_decides a b).0 e)
same_field (field.List a) (field.List b) e = ap field.List ((list_decides a b).0 e)
same_field (field.Dict a) (field.Dict b) e = ap field.Dict ((dict_decides a b).0 e)
same_field a b e = never e

field_itself : (a : Field) → field_eq a a ≡ true
field_itself (field.Item a) = (item_decides a a).1 refl
field_itself (field.List a) = (list_decides a a).1 refl
field_itself (field.Dict a) = (dict_decides a a).1 refl

pub field_decides : (a b : Field) → Decides (field_eq a b) (a ≡ b)
field_decides = decides_by field_eq same_field field_itself

pub bare_equiv : IsEquivalence bare_eq
bare_equiv = decided bare_eq bare_decides

pub item_equiv : IsEquivalence item_eq
item_equiv = decided item_eq item_decides

pub inner_equiv : IsEquivalence inner_eq
inner_equiv = decided inner_eq inner_decides

pub member_equiv : IsEquivalence member_eq
member_equiv = decided member_eq member_decides

pub list_equiv : IsEquivalence list_eq
list_equiv = decided list_eq list_decides

pub dict_equiv : IsEquivalence dict_eq
dict_equiv = decided dict_eq dict_decides

pub field_equiv : IsEquivalence field_eq
field_equiv = decided field_eq field_decides
