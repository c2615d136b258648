use Rattle.std.proofs.Common.{◌≡◌, []}
use Rattle.sf_value.specs.declared.dialect.Dialect.{Dialect}
use Rattle.sf_value.specs.declared.value.Field.{Field}
use Rattle.sf_value.specs.declared.value.Field.TheVariants as field
use Rattle.sf_value.specs.Grammar.Canonical.{canon}
use Rattle.sf_value.specs.Grammar.Fields.{kind_of}
use Rattle.sf_write.specs.Writing.{Follows}
use Rattle.sf_view.specs.declared.node_types.Role.TheVariants as role_is
use Rattle.sf_view.specs.View.{DescribesField}
use Rattle.sf_view.proofs.writing.put_view.Goals as goal

pub returns-in-Item : goal.returns-in-Item
returns-in-Item g c = by
  where
    by : (d : Dialect) (v : Field)
        → DescribesField d c.args.view.now.text.now c.args.view.now.nodes.now v
        → kind_of v ≡ c.args.kind
        → Follows g.W.Sink.state g.W.Sink.send_gives c.args.out.now c.put_item.new.out c.args.before
        c.put_item.result (canon v)
    by d (field.Item i) t e = c.put_item.ensures d role_is.Member [] i t
    by d v t e = let is = c.in-Item.is in absurd cc

pub returns-in-List : goal.returns-in-List
returns-in-List g c = by
  where
    by : (d : Dialect) (v : Field)
        → DescribesField d c.args.view.now.text.now c.args.view.now.nodes.now v
        → kind_of v ≡ c.args.kind
        → Follows g.W.Sink.state g.W.Sink.send_gives c.args.out.now c.put_members.new.out
        c.args.before c.put_members.result (canon v)
    by d (field.List l) t e = c.put_members.ensures d l.members t
    by d v t e = let is = c.in-List.is in absurd cc

pub returns-in-Dict : goal.returns-in-Dict
returns-in-Dict g c = by
  where
    by : (d : Dialect) (v : Field)
        → DescribesField d c.args.view.now.text.now c.args.view.now.nodes.now v
        → kind_of v ≡ c.args.kind
        → Follows g.W.Sink.state g.W.Sink.send_gives c.args.out.now c.put_entries.new.out
        c.args.before c.put_entries.result (canon v)
    by d (field.Dict m) t e = c.put_entries.ensures d m.members t
    by d v t e = let is = c.in-Dict.is in absurd cc
