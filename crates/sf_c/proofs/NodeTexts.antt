-- What is written of nodes, and of a Dictionary with another priority.
use Rattle.std.proofs.Common.{◌≡◌, ℕ, List, Some}
use Rattle.sf_value.specs.declared.dialect.Dialect.{Dialect}
use Rattle.sf_value.specs.declared.dialect.Dialect.TheVariants.{Rfc9651}
use Rattle.sf_value.specs.declared.value.Dict.{Dict as Dictionary}
use Rattle.sf_value.specs.declared.value.Field.{Field}
use Rattle.sf_value.specs.declared.value.Field.TheVariants as field
use Rattle.sf_value.specs.declared.value.Kind.{Kind}
use Rattle.sf_value.specs.declared.value.Kind.TheVariants as kind
use Rattle.sf_value.specs.Grammar.Canonical.{canon}
use Rattle.sf_value.specs.Grammar.Valid.{Valid}
use Rattle.sf_value.proofs.CanonicalTexts.{canon_spells}
use Rattle.sf_parse.specs.Parsers.{IsOnly}
use Rattle.sf_parse.proofs.GrammarLaws.{one_value}
use Rattle.sf_use.specs.PriorityUpdate.{updated}
use Rattle.sf_view.specs.declared.node.Node.{Node}
use Rattle.sf_view.specs.View.{DescribesField}
use Rattle.sf_c.specs.declared.priority.PriorityFlags.{PriorityFlags}
use Rattle.sf_c.specs.declared.status.Status.{Status}
use Rattle.sf_c.specs.declared.status.Status.TheVariants.{Answered, Short}
use Rattle.sf_c.specs.Normal.{TextOutput}
use Rattle.sf_c.specs.Priorities.{params_of_flags}
use Rattle.sf_c.specs.PriorityChanges.{ChangesBy}
use Rattle.sf_c.specs.PriorityChanges as change
use Rattle.sf_c.specs.TextBuffers.{PutsText}
use Rattle.sf_c.specs.Writing.{WritesNodes, NodesOutput, text_buffer}

-- the canonical text of a valid field spells that field and no other
pub canon_only : (d : Dialect) (k : Kind) (v : Field) → Valid d k v → IsOnly d k (canon v) v
canon_only d k v valid =
    let spelled = canon_spells d k v valid in
    record { spelled = spelled; only = λ w s. one_value d k (canon v) w v s spelled }

pub writes_nodes : (old new : NodesOutput) (nodes : List Node) (source : List ℕ) (d : Dialect)
    (k : Kind) (v : Field) (s : Status) → DescribesField d source nodes v → Valid d k v
    → PutsText (text_buffer old) (text_buffer new) (canon v) (Some s)
    → new.invalid ≡ old.invalid → WritesNodes old new nodes source d k s
writes_nodes old new nodes source d k v Answered t h w e = (v, t, canon_only d k v h, w, e)
writes_nodes old new nodes source d k v Short t h w e = (v, t, canon_only d k v h, w, e)
writes_nodes old new nodes source d k v s t h w e = absurd w

pub changes_priority : (old new : TextOutput) (t : List ℕ) (p : PriorityFlags) (m : Dictionary)
    (s : Status) → IsOnly Rfc9651 kind.Dict t (field.Dict m)
    → Valid Rfc9651 kind.Dict (field.Dict (updated (params_of_flags p) m))
    → PutsText (change.text_buffer old) (change.text_buffer new)
    (canon (field.Dict (updated (params_of_flags p) m))) (Some s)
    → new.refusal ≡ old.refusal → ChangesBy old new t p (Some s)
changes_priority old new t p m Answered h v w e =
    (m, h, canon_only Rfc9651 kind.Dict (field.Dict (updated (params_of_flags p) m)) v, w, e)
changes_priority old new t p m Short h v w e = (m, h, w, e)
changes_priority old new t p m s h v w e = absurd w
