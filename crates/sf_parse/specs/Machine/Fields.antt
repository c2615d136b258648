-- The machine that reads whole fields.
use Rattle.std.specs.Option.{option_and_then, option_map, option_or}
use Rattle.std.specs.Prelude.{◌≡◌, ℕ, List, [], ◌∷◌, ◌++◌, Option, Some, None}
use Rattle.sf_value.specs.declared.value.Field.TheVariants as field
use Rattle.sf_value.specs.declared.value.Kind.TheVariants as kind
use Rattle.sf_value.specs.Grammar.Words.{allow}
use Rattle.sf_value.specs.Grammar.Classes.{is_sp}
use Rattle.sf_value.specs.Grammar.Pairs.{Pairs, settle, put}
use Rattle.sf_value.specs.Grammar.Items.{SpellsItem}
use Rattle.sf_value.specs.Grammar.InnerLists.{SpellsMember}
use Rattle.sf_value.specs.Grammar.Fields.{list_of, dict_of, SpellsEntry}
use Rattle.sf_value.specs.declared.dialect.Dialect.{Dialect}
use Rattle.sf_value.specs.declared.value.Item.{Item}
use Rattle.sf_value.specs.declared.value.Member.{Member}
use Rattle.sf_value.specs.declared.value.Field.{Field}
use Rattle.sf_value.specs.declared.value.Kind.{Kind}
use Rattle.sf_parse.specs.Machine.Language.{Then, MapValues, Past, Nothing, onward}
use Rattle.sf_parse.specs.Machine.Items.{ResidualItem, GoodItem, item_start, item_step, item_finish}
use Rattle.sf_parse.specs.Machine.Members.{MemberState}
use Rattle.sf_parse.specs.Machine.Series.{Begin, Series, ResidualSeries, GoodSeries, series_step}
use Rattle.sf_parse.specs.Machine.Series.{SeriesState, series_finish}
use Rattle.sf_parse.specs.Machine.States.{State}
use Rattle.sf_parse.specs.Machine.States.{BeforeItem, InsideItem, AfterItem, InList}
use Rattle.sf_parse.specs.Machine.States.{InDict}
use Rattle.sf_parse.specs.Machine.Members.{ResidualMember, GoodMember, member_start, member_step}
use Rattle.sf_parse.specs.Machine.Members.{member_finish}
use Rattle.sf_parse.specs.Machine.Entries.{EntryState, ResidualEntry, GoodEntry, entry_start}
use Rattle.sf_parse.specs.Machine.Entries.{entry_step}
use Rattle.sf_parse.specs.Machine.Entries.{entry_finish}

abbrev pub list_series : Dialect → Series MemberState Member (List Member)
list_series d = record {
  Spells = SpellsMember d;
  Residual = ResidualMember d;
  Good = GoodMember;
  Settled = λ ms. Unit {0};
  start = member_start d;
  step = member_step d;
  finish = member_finish;
  none = [];
  add = λ ms m. ms ++ m ∷ [];
  all = λ ms more. ms ++ more;
}

abbrev pub dict_series : Dialect → Series EntryState (List ℕ × Member) (Pairs Member)
dict_series d = record {
  Spells = SpellsEntry d;
  Residual = ResidualEntry d;
  Good = GoodEntry;
  Settled = λ ps. settle ps ≡ ps;
  start = entry_start;
  step = entry_step d;
  finish = entry_finish;
  none = [];
  add = λ ps p. put ps p.0 p.1;
  all = λ ps raw. settle (ps ++ raw);
}

-- spaces after an item
abbrev pub Tail : Item → List ℕ → Field → Type 0
Tail i = Past is_sp (Nothing (field.Item i))

abbrev pub Residual : Dialect → State → List ℕ → Field → Type 0
Residual d BeforeItem = Past is_sp (Then (SpellsItem d) Tail)
Residual d (InsideItem s) = Then (ResidualItem d s) Tail
Residual d (AfterItem i) = Tail i
Residual d (InList s) = MapValues list_of (ResidualSeries (list_series d) s)
Residual d (InDict s) = MapValues dict_of (ResidualSeries (dict_series d) s)

abbrev pub Good : State → Type 0
Good BeforeItem = Unit {0}
Good (InsideItem s) = GoodItem s
Good (AfterItem i) = Unit {0}
Good (InList s) = GoodSeries GoodMember (λ ms. Unit {0}) s
Good (InDict s) = GoodSeries GoodEntry (λ ps. settle ps ≡ ps) s

abbrev pub step : Dialect → State → ℕ → Option State
step d BeforeItem b = option_or (allow (is_sp b) BeforeItem) (option_map InsideItem (item_start d b))
step d (InsideItem s) b = onward InsideItem (item_step d s b) (item_finish s)
    (λ i. allow (is_sp b) (AfterItem i))
step d (AfterItem i) b = allow (is_sp b) (AfterItem i)
step d (InList s) b = option_map InList (series_step (list_series d) s b)
step d (InDict s) b = option_map InDict (series_step (dict_series d) s b)

-- the members of a List or a Dictionary that may end
abbrev pub list_finish : SeriesState MemberState (List Member) → Option (List Member)
list_finish s = series_finish member_finish [] (λ ms m. ms ++ m ∷ []) s

abbrev pub dict_finish : SeriesState EntryState (Pairs Member) → Option (Pairs Member)
dict_finish s = series_finish entry_finish [] (λ ps p. put ps p.0 p.1) s

abbrev pub finish : State → Option Field
finish BeforeItem = None
finish (InsideItem s) = option_and_then (λ i. Some (field.Item i)) (item_finish s)
finish (AfterItem i) = Some (field.Item i)
finish (InList s) = option_map list_of (list_finish s)
finish (InDict s) = option_map dict_of (dict_finish s)

abbrev pub begin : Kind → State
begin kind.Item = BeforeItem
begin kind.List = InList Begin
begin kind.Dict = InDict Begin
