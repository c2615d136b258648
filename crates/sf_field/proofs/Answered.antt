-- From what was fed to what is answered.
use Rattle.std.proofs.Common.{◌≡◌, ℕ, ◌-◌, ◌^◌, List, [], Some, None, Result, Ok, Err, sym, subst}
use Rattle.std.proofs.Common.{◌∙◌, append-nil, take, length, ◌<◌, arith}
use Rattle.sf_value.specs.declared.dialect.Dialect.{Dialect}
use Rattle.sf_value.specs.declared.value.Field.{Field}
use Rattle.sf_value.specs.declared.value.Kind.{Kind}
use Rattle.sf_value.specs.Grammar.Lines.{join, Viable}
use Rattle.sf_parse.specs.declared.refusal.Refusal.{Refusal}
use Rattle.sf_parse.specs.declared.refusal.Refusal.TheVariants.{OutOfMemory, Syntax, TooLong}
use Rattle.sf_parse.specs.declared.refusal.Refusal.TheVariants.{ReadFault}
use Rattle.sf_parse.specs.Parsers.{Progress, HasTaken, RefusedFor, Feeds, Finishes}
use Rattle.sf_field.specs.Lines.{ParsesLines}

-- a refusal of the joined text by a new parser
pub refused_lines : (d : Dialect) (kind : Kind) (p q : Progress) (e : Refusal)
    (lines : List (List ℕ)) → p.dialect ≡ d → p.kind ≡ kind → p.max ≡ 2 ^ 64 - 1 → HasTaken p []
    → Feeds p q (Err e) (join lines) → ParsesLines d kind lines (Err e)
refused_lines d kind p q e lines x y z k f =
    at e
    (subst (λ n. RefusedFor d kind n (join lines) e) z
    (subst (λ n. RefusedFor d n p.max (join lines) e) y
    (subst (λ n. RefusedFor n p.kind p.max (join lines) e) x
    (subst (λ n. RefusedFor p.dialect p.kind p.max n e) (append-nil (join lines))
    (f.answer.1 [] k [])))))
  where
    at : (e : Refusal) → RefusedFor d kind (2 ^ 64 - 1) (join lines) e
        → ParsesLines d kind lines (Err e)
    at OutOfMemory h = (tt, tt)
    at (Syntax place None expected may) h = absurd h
    at (Syntax place (Some b) expected may) h = (h.1, h.0)
    at (TooLong limit) h = (
      h.0,
      subst (λ n. n < length (join lines)) (sym h.0) h.1,
      subst (λ n. Viable d kind (take n (join lines))) (sym h.0) h.2,
    )
    at (ReadFault place) h = absurd h

-- the end of the joined text that a new parser was fed
pub finished_lines : (d : Dialect) (kind : Kind) (p q : Progress) (r : Result Field Refusal)
    (lines : List (List ℕ)) → p.dialect ≡ d → p.kind ≡ kind → p.max ≡ 2 ^ 64 - 1 → HasTaken p []
    → Feeds p q (Ok tt) (join lines)
    → ((s : List ℕ) → HasTaken q s → Finishes q.dialect q.kind s r) → ParsesLines d kind lines r
finished_lines d kind p q r lines x y z k f h =
    let fed = f.answer.1 [] k in
    let took = fed.2 in
    let within = fed.0 in
    let short : length (join lines) < 2 ^ 64 = omega arith in
    at r short
    (subst (λ n. Finishes d n (join lines) r) (f.settings.kind ∙ y)
    (subst (λ n. Finishes n q.kind (join lines) r) (f.settings.dialect ∙ x)
    (h (join lines) took)))
  where
    at : (r : Result Field Refusal) → length (join lines) < 2 ^ 64
        → Finishes d kind (join lines) r → ParsesLines d kind lines r
    at (Ok v) n h = (h, n)
    at (Err OutOfMemory) n h = (tt, tt)
    at (Err (Syntax place None expected may)) n h = ((h.1, h.2), n)
    at (Err (Syntax place (Some b) expected may)) n h = absurd h
    at (Err (TooLong limit)) n h = absurd h
    at (Err (ReadFault place)) n h = absurd h
