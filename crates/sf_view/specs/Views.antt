-- What a view describes.
use Rattle.std.specs.Prelude.{◌≡◌, ℕ, ◌≤◌, ◌<◌, ◌^◌, Bool, true, false, List as Seq}
use Rattle.std.specs.Prelude.{Option, Some, None}
use Rattle.sf_value.specs.declared.dialect.Dialect.{Dialect}
use Rattle.sf_value.specs.declared.value.Field.{Field}
use Rattle.sf_value.specs.declared.value.Kind.{Kind}
use Rattle.sf_parse.specs.Parsers.{IsOnly}
use Rattle.sf_view.specs.declared.view.View.{View as PartView}
use Rattle.sf_view.specs.declared.view.Unviewed.{Unviewed}
use Rattle.sf_view.specs.declared.view.Unviewed.TheVariants.{Declined, ShortBuffer, TooLong}
use Rattle.sf_value.specs.declared.value.Bare.{Bare}
use Rattle.sf_value.specs.declared.value.Bare.TheVariants.{Integer, Decimal, Text, Token}
use Rattle.sf_value.specs.declared.value.Bare.TheVariants.{Blob, Boolean, Date, Shown}
use Rattle.sf_view.specs.declared.node.Node.{Node}
use Rattle.sf_view.specs.declared.view.BareView.{BareView}
use Rattle.sf_view.specs.declared.view.BareView.TheVariants as view_is
use Rattle.sf_view.specs.NodeTypes.{type_number, is_coded}
use Rattle.sf_view.specs.View.{type_of, number_of, DescribesText, DescribesField}

-- the view is of the text, and its nodes describe the only field that the text spells
pub record IsViewed (d : Dialect) (kind : Kind) (t : Seq ℕ) (v : PartView) : Type 0 where
  pub text : v.text.now ≡ t
  pub value : Field
  pub only : IsOnly d kind t value
  pub describes : DescribesField d t v.nodes.now value

-- a text of this length has no view for this reason, in a buffer of this many nodes
abbrev pub IsReason : ℕ → ℕ → Unviewed → Type 0
IsReason size capacity Declined = (size < 2 ^ 32) × (size ≤ capacity)
IsReason size capacity ShortBuffer = (size < 2 ^ 32) × (capacity < size)
IsReason size capacity TooLong = 2 ^ 32 ≤ size

-- Declined if the buffer has a node for each byte of the text, otherwise ShortBuffer
abbrev pub reason : Bool → Unviewed
reason true = Declined
reason false = ShortBuffer

-- a node that points to these bytes describes this bare item
pub record NodeShows (d : Dialect) (n : Node) (bytes : Seq ℕ) (x : Bare) : Type 0 where
  pub node_type : n.node_type ≡ type_number (type_of x)
  pub number : n.number ≡ number_of x
  pub text : DescribesText d (is_coded n.coded) bytes x

-- the bare item that is borrowed: its bytes or, if they are coded, its whole text
abbrev pub IsBorrowed : Dialect → BareView → Bare → Type 0
IsBorrowed d (view_is.Integer n) x = x ≡ Integer n
IsBorrowed d (view_is.Decimal n) x = x ≡ Decimal n
IsBorrowed d (view_is.Text s) x =
    (t : Seq ℕ) × (x ≡ Text t) × DescribesText d s.coded s.bytes.now (Text t)
IsBorrowed d (view_is.Token s) x = x ≡ Token s.now
IsBorrowed d (view_is.Blob s) x =
    (t : Seq ℕ) × (x ≡ Blob t) × DescribesText d s.coded s.bytes.now (Blob t)
IsBorrowed d (view_is.Boolean b) x = x ≡ Boolean b
IsBorrowed d (view_is.Date n) x = x ≡ Date n
IsBorrowed d (view_is.Shown s) x =
    (t : Seq ℕ) × (x ≡ Shown t) × DescribesText d s.coded s.bytes.now (Shown t)

-- the bare item is borrowed
abbrev pub ShowsBare : Dialect → Option BareView → Bare → Type 0
ShowsBare d None x = ⊥
ShowsBare d (Some b) x = IsBorrowed d b x
