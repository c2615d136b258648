-- The text that is written for nodes.
use Rattle.std.specs.Prelude.{◌≡◌, ℕ, List, Some}
use Rattle.sf_value.specs.declared.dialect.Dialect.{Dialect}
use Rattle.sf_value.specs.declared.value.Field.{Field}
use Rattle.sf_value.specs.declared.value.Kind.{Kind}
use Rattle.sf_value.specs.Grammar.Canonical.{canon}
use Rattle.sf_parse.specs.Parsers.{IsOnly}
use Rattle.sf_view.specs.declared.node.Node.{Node}
use Rattle.sf_view.specs.Building.{IsField, IsWrongAt}
use Rattle.sf_view.specs.View.{DescribesField}
use Rattle.sf_c.specs.declared.status.Status.{Status}
use Rattle.sf_c.specs.declared.status.Status.TheVariants.{Answered, Short, OutOfMemory, Invalid}
use Rattle.sf_c.specs.TextBuffers.{PutsText, TextBuffer}

-- what writing nodes may write to
pub record NodesOutput : Type 0 where
  pub buffer : List ℕ
  pub required : ℕ
  pub invalid : ℕ

-- the buffer of a call that writes nodes
abbrev pub text_buffer : NodesOutput → TextBuffer
text_buffer o = record { buffer = o.buffer; required = o.required }

-- the canonical text of the valid field that the nodes describe, which spells that field and no
-- other, is put into a buffer that is long enough; or the nodes are wrong at an index. Everything
-- else is unchanged
abbrev pub WritesNodes : NodesOutput → NodesOutput → List Node → List ℕ → Dialect → Kind → Status
    → Type 0
WritesNodes old new nodes source d k Answered =
    (v : Field)
    × DescribesField d source nodes v
    × IsOnly d k (canon v) v
    × PutsText (text_buffer old) (text_buffer new) (canon v) (Some Answered)
    × (new.invalid ≡ old.invalid)
WritesNodes old new nodes source d k Short =
    (v : Field)
    × DescribesField d source nodes v
    × IsOnly d k (canon v) v
    × PutsText (text_buffer old) (text_buffer new) (canon v) (Some Short)
    × (new.invalid ≡ old.invalid)
WritesNodes old new nodes source d k Invalid =
    IsWrongAt (IsField d k source) nodes new.invalid
    × (new.buffer ≡ old.buffer)
    × (new.required ≡ old.required)
WritesNodes old new nodes source d k OutOfMemory = new ≡ old
WritesNodes old new nodes source d k status = ⊥
