use Rattle.std.proofs.Common.{◌≡◌, ℕ, Bool, List, [], sym, subst, Option, Some, None, Err, IfSome}
use Rattle.sf_value.specs.declared.dialect.Dialect.{Dialect}
use Rattle.sf_value.specs.declared.value.Bare.{Bare}
use Rattle.sf_value.specs.declared.value.Field.{Field}
use Rattle.sf_value.specs.declared.value.Field.TheVariants as field
use Rattle.sf_value.specs.declared.value.Kind.TheVariants as kind
use Rattle.sf_value.specs.Grammar.BareItems.{SpellsBare}
use Rattle.sf_value.specs.Grammar.Fields.{SpellsField}
use Rattle.sf_value.specs.Grammar.Items.{item}
use Rattle.sf_parse.specs.declared.refusal.Refusal.TheVariants.{Syntax}
use Rattle.sf_parse.specs.Parsers.{Parses}
use Rattle.sf_view.specs.Building.{IsTight}
use Rattle.sf_view.proofs.Tight.{bare_tight, alone_spells, bare_alone}
use Rattle.sf_view.proofs.single.spelled.Goals as goal

pub returns-then-not-is_tight-clause-only : goal.returns-then-not-is_tight-clause-only
returns-then-not-is_tight-clause-only c = λ x b.
    let t = c.is_tight.ensures.loose (bare_tight c.args.source.dialect c.args.text.now x b) in
    let f = c.if-not-is_tight.true in
    absurd cc

pub returns-in-Ok-clause-only : goal.returns-in-Ok-clause-only
returns-in-Ok-clause-only c = λ x b.
    c.alone.ensures.none x
    (sym
    (c.in-Ok.ensures.parses.only (field.Item (item x []))
    (bare_alone c.args.source.dialect c.args.text.now x b)))

alone_is : (d : Dialect) (t : List ℕ) (v : Field) (o : Option Bare) → SpellsField d kind.Item t v
    → IsTight t → IfSome o (λ x. v ≡ field.Item (item x [])) → IfSome o (SpellsBare d t)
alone_is d t v None s w h = tt
alone_is d t v (Some x) s w h = alone_spells d t x (subst (SpellsField d kind.Item t) h s) w

pub returns-in-Ok-clause-spelled : goal.returns-in-Ok-clause-spelled
returns-in-Ok-clause-spelled c =
    let f = c.if-not-is_tight.false in
    alone_is c.args.source.dialect c.args.text.now c.in-Ok.field c.alone.result
    c.in-Ok.ensures.parses.spelled (c.is_tight.ensures.tight cc) c.alone.ensures.some

unspelled : (d : Dialect) (t : List ℕ) (place : ℕ) (found : Option ℕ) (expected : ℕ) (ends : Bool)
    → Parses d kind.Item t (Err (Syntax place found expected ends)) → (v : Field)
    → SpellsField d kind.Item t v → ⊥
unspelled d t place None expected ends h v s = h.1.unspelled v s
unspelled d t place (Some b) expected ends h v s = h.unspelled v s

pub returns-in-Err-Syntax-clause-only : goal.returns-in-Err-Syntax-clause-only
returns-in-Err-Syntax-clause-only c = λ x b.
    let h = c.in-Err-Syntax in
    let d = c.args.source.dialect in
    let t = c.args.text.now in
    absurd
    (unspelled d t h.field-0-0 h.field-0-1 h.field-0-2 h.field-0-3
    (subst (λ e. Parses d kind.Item t (Err e)) h.field-0-is h.ensures.parses)
    (field.Item (item x [])) (bare_alone d t x b))
