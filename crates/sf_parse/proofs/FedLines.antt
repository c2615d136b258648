-- One chunk fed after another, and a field line after another.
use Rattle.std.proofs.Common.{◌≡◌, ℕ, ◌+◌, ◌≤◌, Bool, true, false, List, ◌∷◌, ◌++◌, [], length}
use Rattle.std.proofs.Common.{Result}
use Rattle.std.proofs.Common.{Ok, Err, sym, ap, ◌∙◌, subst, arith, append_assoc, length-append}
use Rattle.sf_value.specs.Grammar.Lines.{Viable}
use Rattle.sf_parse.specs.declared.refusal.Refusal.{Refusal}
use Rattle.sf_parse.specs.Parsers.{Progress, HasTaken, RefusedFor, SameSettings, Feeds, FeedAnswer}
use Rattle.sf_parse.specs.Parsers.{in_line}

joined_settings : (a b c : Progress) → SameSettings a b → SameSettings b c → SameSettings a c
joined_settings a b c p q = record {
  dialect = q.dialect ∙ p.dialect;
  kind = q.kind ∙ p.kind;
  max = q.max ∙ p.max;
}

-- a refusal under the settings of p is one under those of o
same_refused : (o p : Progress) (t : List ℕ) (e : Refusal) → SameSettings o p
    → RefusedFor p.dialect p.kind p.max t e → RefusedFor o.dialect o.kind o.max t e
same_refused o p t e k x =
    subst (λ y. RefusedFor y o.kind o.max t e) k.dialect
    (subst (λ y. RefusedFor p.dialect y o.max t e) k.kind
    (subst (λ y. RefusedFor p.dialect p.kind y t e) k.max x))

same_viable : (o p : Progress) (t : List ℕ) → SameSettings o p
    → Viable p.dialect p.kind t → Viable o.dialect o.kind t
same_viable o p t k x =
    subst (λ y. Viable y o.kind t) k.dialect (subst (λ y. Viable p.dialect y t) k.kind x)

-- one chunk after another
pub fed_after : (o p q : Progress) (r : Result (Unit {0}) Refusal) (x y : List ℕ)
    → Feeds o p (Ok tt) x → Feeds p q r y → Feeds o q r (x ++ y)
fed_after o p q r x y a f = record {
  settings = joined_settings o p q a.settings f.settings;
  counted =
      let m : p.count ≤ o.count + length x = a.counted in
      let n : q.count ≤ p.count + length y = f.counted in
      omega (arith, length-append x y);
  answer = at r f.answer;
}
  where
    at : (r : Result (Unit {0}) Refusal) → FeedAnswer p q r y → FeedAnswer o q r (x ++ y)
    at (Ok u) g = (
      g.0 ∙ a.answer.0,
      λ s t.
          let k = g.1 (s ++ x) (a.answer.1 s t).2 in
          let e : (s ++ x) ++ y ≡ s ++ (x ++ y) = append_assoc s x y in (
            subst (λ z. length z ≤ o.max) e
                (subst (λ z. length ((s ++ x) ++ y) ≤ z) a.settings.max k.0),
            subst (Viable o.dialect o.kind) e (same_viable o p ((s ++ x) ++ y) a.settings k.1),
            subst (HasTaken q) e k.2,
          ),
    )
    at (Err e) g = (
      g.0,
      λ s t more.
          let k = g.1 (s ++ x) (a.answer.1 s t).2 more in
          subst (λ z. RefusedFor o.dialect o.kind o.max (z ++ more) e) (append_assoc s x y)
          (same_refused o p (((s ++ x) ++ y) ++ more) e a.settings k),
    )

-- a refusal remains, whatever comes after
pub fed_before : (o q : Progress) (e : Refusal) (x y : List ℕ)
    → Feeds o q (Err e) x → Feeds o q (Err e) (x ++ y)
fed_before o q e x y f = record {
  settings = f.settings;
  counted =
      let m : q.count ≤ o.count + length x = f.counted in
      omega (arith, length-append x y);
  answer = (
    f.answer.0,
    λ s t more.
        subst (λ z. RefusedFor o.dialect o.kind o.max z e)
        (sym (append_assoc (s ++ x) y more) ∙ ap (λ z. z ++ more) (append_assoc s x y))
        (f.answer.1 s t (y ++ more)),
  );
}

-- that a line was fed changes nothing else
pub fed_line : (o p q : Progress) (x : List ℕ) → q ≡ record p { after_line = true }
    → Feeds o p (Ok tt) x → Feeds o q (Ok tt) x
fed_line o p q x e f =
    subst (λ z. Feeds o z (Ok tt) x) (sym e)
    (record {
      settings = record {
        dialect = f.settings.dialect;
        kind = f.settings.kind;
        max = f.settings.max;
      };
      counted = f.counted;
      answer = (
        f.answer.0,
        λ s t.
            let k = f.answer.1 s t in
            (k.0, k.1, record { count = k.2.count; completes = k.2.completes; unrefused = k.2.unrefused }),
      );
    })

-- a line after another: the comma and the space are refused
pub comma_refused : (o q : Progress) (e : Refusal) (after : Bool) (line : List ℕ) → after ≡ true
    → Feeds o q (Err e) (44 ∷ 32 ∷ []) → Feeds o q (Err e) (in_line after line)
comma_refused o q e after line t f =
    subst (λ b. Feeds o q (Err e) (in_line b line)) (sym t)
    (fed_before o q e (44 ∷ 32 ∷ []) line f)

-- a line after another: they are taken, and then the line is fed
pub line_after : (o p q : Progress) (r : Result (Unit {0}) Refusal) (after : Bool) (line : List ℕ)
    → after ≡ true → Feeds o p (Ok tt) (44 ∷ 32 ∷ []) → Feeds p q r line
    → Feeds o q r (in_line after line)
line_after o p q r after line t f g =
    subst (λ b. Feeds o q r (in_line b line)) (sym t) (fed_after o p q r (44 ∷ 32 ∷ []) line f g)

-- the first line
pub line_first : (o q : Progress) (r : Result (Unit {0}) Refusal) (after : Bool) (line : List ℕ)
    → after ≡ false → Feeds o q r line → Feeds o q r (in_line after line)
line_first o q r after line t f = subst (λ b. Feeds o q r (in_line b line)) (sym t) f
