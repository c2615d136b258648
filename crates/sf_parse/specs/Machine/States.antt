-- The states of whole fields.
use Rattle.std.specs.Prelude.{List}
use Rattle.sf_value.specs.declared.value.Item.{Item}
use Rattle.sf_value.specs.declared.value.Member.{Member}
use Rattle.sf_value.specs.Grammar.Pairs.{Pairs}
use Rattle.sf_parse.specs.Machine.Items.{ItemState}
use Rattle.sf_parse.specs.Machine.Members.{MemberState}
use Rattle.sf_parse.specs.Machine.Entries.{EntryState}
use Rattle.sf_parse.specs.Machine.Series.{SeriesState}

pub data State : Type 0 where
  BeforeItem : State
  InsideItem : (state : ItemState) → State
  -- after a space after an Item
  AfterItem : (whole : Item) → State
  InList : (state : SeriesState MemberState (List Member)) → State
  InDict : (state : SeriesState EntryState (Pairs Member)) → State
