-- What a parser took, a byte longer, and where it stops.
use Rattle.std.proofs.Common.{◌≡◌, ℕ, ◌+◌, ◌<◌, ◌≤◌, ◌↔◌, Bool, false, List, [], ◌∷◌, ◌++◌, length}
use Rattle.std.proofs.Common.{take, drop, get_or, Option, Some, None, Ok, Err, refl, sym, ap, ◌∙◌}
use Rattle.std.proofs.Common.{subst, append_assoc, length-append, arith, take-append-drop}
use Rattle.std.proofs.Common.{length-take}
use Rattle.std.proofs.lemmas.List.{take_more}
use Rattle.std.proofs.Math.Seq.{take-append_seam}
use Rattle.sf_value.specs.declared.value.Field.{Field}
use Rattle.sf_value.specs.Grammar.Fields.{SpellsField}
use Rattle.sf_value.specs.Grammar.Lines.{Viable}
use Rattle.sf_parse.specs.declared.refusal.Refusal.{Refusal}
use Rattle.sf_parse.specs.declared.refusal.Refusal.TheVariants.{Syntax, TooLong}
use Rattle.sf_parse.specs.Machine.Fields.{Residual, step, finish, begin}
use Rattle.sf_parse.specs.Machine.Tests.{takes, may_end}
use Rattle.sf_parse.specs.Reaching.{IsReachedBy}
use Rattle.sf_scan.specs.Sets.{Marks}
use Rattle.sf_parse.specs.Parsers.{Progress, HasTaken, Sound, RefusedFor}
use Rattle.sf_value.specs.Grammar.Refusals.{IsSyntax}
use Rattle.sf_parse.specs.Parsers.{SameSettings, Feeds, FeedAnswer, Finishes, Refuses, StandsAt}
use Rattle.sf_parse.specs.AllocationFreeParsers.{IsOther}
use Rattle.std.specs.Option.{option_map}
use Rattle.std.proofs.Common.{is_some}
use Rattle.sf_parse.specs.Machine.States.{State}
use Rattle.sf_parse.specs.MemberEnds.{some_map}
use Rattle.sf_parse.proofs.Marks.{marks_same}
use Rattle.sf_parse.proofs.Reaching.{reached_nothing, reached_viable}
use Rattle.sf_parse.proofs.Refusals.{stops_exact, ends_exact, ends_only}

-- what a sound parser took, as the machine's laws say it
pub taken : (p : Progress) (s : List ℕ) → Sound p.refusal p.state p.count p.max → HasTaken p s
    → IsReachedBy p.dialect p.kind p.state s
taken p s g t = record {
  good = (subst (λ r. Sound r p.state p.count p.max) t.unrefused g).0;
  completes = t.completes;
}

within_max : (p : Progress) (s : List ℕ) → Sound p.refusal p.state p.count p.max → HasTaken p s
    → p.count ≤ p.max
within_max p s g t = (subst (λ r. Sound r p.state p.count p.max) t.unrefused g).1

pub new_took : (p : Progress) → p.state ≡ begin p.kind → p.count ≡ 0 → p.refusal ≡ None → HasTaken p []
new_took p e c r = record {
  count = c;
  completes = λ u v.
      subst (λ s. Residual p.dialect s u v ↔ SpellsField p.dialect p.kind ([] ++ u) v) (sym e)
      ((reached_nothing p.dialect p.kind).completes u v);
  unrefused = r;
}

stops_at : (p : Progress) (s q : List ℕ) (b bits : ℕ) (may : Bool)
    → Sound p.refusal p.state p.count p.max → HasTaken p s → step p.dialect p.state b ≡ None
    → Marks bits (takes p.dialect p.state) → may ≡ may_end p.state
    → IsSyntax p.dialect p.kind ((s ++ b ∷ []) ++ q) p.count (Some b) bits may
stops_at p s q b bits may g t n m e =
    let joined : (s ++ b ∷ []) ++ q ≡ s ++ b ∷ q = append_assoc s (b ∷ []) q in
    subst (λ y. IsSyntax p.dialect p.kind y p.count (Some b) bits may) (sym joined)
    (subst (λ c. IsSyntax p.dialect p.kind (s ++ b ∷ q) c (Some b) bits may) (sym t.count)
    (stops_exact p.dialect p.kind p.state s q b bits may (taken p s g t) n m e))

-- a refusal of a state is where it is said to be, and is not out of memory
pub refuses_at : (takes : ℕ → Bool) (ends : Bool) (place max : ℕ) (found : Option ℕ) (e : Refusal)
    → Refuses takes ends place found e → StandsAt e place max
refuses_at takes ends place max found e r = subst (λ y. StandsAt y place max) (sym r.syntax) refl

pub refuses_other : (takes : ℕ → Bool) (ends : Bool) (place : ℕ) (found : Option ℕ) (e : Refusal)
    → Refuses takes ends place found e → IsOther e
refuses_other takes ends place found e r = subst IsOther (sym r.syntax) tt

-- the same of the machine of fields
pub refuses_above : {S : Type 0} (next : S → ℕ → Option S) (above : State → ℕ → Option State)
    (into : S → State) → ((s : S) (b : ℕ) → above (into s) b ≡ option_map into (next s b))
    → (s : S) (x y : Bool) (place : ℕ) (found : Option ℕ) (e : Refusal) → x ≡ y
    → Refuses (λ b. is_some (next s b)) x place found e
    → Refuses (λ b. is_some (above (into s) b)) y place found e
refuses_above next above into h s x y place found e k r = record {
  expected = r.expected;
  marks = marks_same r.expected _ _ (λ b. ap is_some (h s b) ∙ some_map into (next s b)) r.marks;
  syntax = r.syntax ∙ ap (Syntax place found r.expected) k;
}

-- a byte was refused
pub fed_stop : (p q : Progress) (b : ℕ) (e : Refusal) → Sound p.refusal p.state p.count p.max
    → p.count < p.max → step p.dialect p.state b ≡ None
    → Refuses (takes p.dialect p.state) (may_end p.state) p.count (Some b) e → SameSettings p q
    → q.count ≡ p.count → q.refusal ≡ Some e → Feeds p q (Err e) (b ∷ [])
fed_stop p q b e g h n m same c r =
    subst (λ y. Feeds p q (Err y) (b ∷ [])) (sym m.syntax) (record {
      settings = same;
      counted = omega arith;
      answer = (
        r ∙ ap Some m.syntax,
        λ s t more. (h, stops_at p s more b m.expected (may_end p.state) g t n m.marks refl),
      );
    })

-- a byte is past the limit
pub fed_past : (p q : Progress) (b : ℕ) → Sound p.refusal p.state p.count p.max
    → p.max ≤ p.count → SameSettings p q → q.count ≡ p.count → q.refusal ≡ Some (TooLong p.max)
    → Feeds p q (Err (TooLong p.max)) (b ∷ [])
fed_past p q b g h same c r = record {
  settings = same;
  counted = omega arith;
  answer = (
    r,
    λ s t more.
        let n : p.max ≡ length s =
        let k : p.count ≡ length s = t.count in let w = within_max p s g t in omega arith in
        let joined : (s ++ b ∷ []) ++ more ≡ s ++ b ∷ more = append_assoc s (b ∷ []) more in
        let prefix : take p.max ((s ++ b ∷ []) ++ more) ≡ s =
        ap (λ y. take y ((s ++ b ∷ []) ++ more)) n ∙ ap (take (length s)) joined
        ∙ take-append_seam s (b ∷ more) in (
          refl,
          omega (arith, length-append (s ++ b ∷ []) more, length-append s (b ∷ [])),
          subst (Viable p.dialect p.kind) (sym prefix)
              (reached_viable p.dialect p.kind p.state s (taken p s g t)),
        ),
  );
}

pub finish_stop : (p : Progress) (e : Refusal) → Sound p.refusal p.state p.count p.max
    → Refuses (takes p.dialect p.state) (may_end p.state) p.count None e
    → false ≡ may_end p.state
    → (s : List ℕ) → HasTaken p s → Finishes p.dialect p.kind s (Err e)
finish_stop p e g m n s t =
    subst (λ y. Finishes p.dialect p.kind s (Err y))
    (ap (Syntax p.count None m.expected) n ∙ sym m.syntax) (
      t.count,
      refl,
      subst (λ c. IsSyntax p.dialect p.kind s c None m.expected false) (sym t.count)
          (ends_exact p.dialect p.kind p.state s m.expected (taken p s g t) m.marks n),
    )

pub finish_with : (p : Progress) (v : Field) → Sound p.refusal p.state p.count p.max
    → finish p.state ≡ Some v → (s : List ℕ) → HasTaken p s → Finishes p.dialect p.kind s (Ok v)
finish_with p v g e s t = ends_only p.dialect p.kind p.state s v (taken p s g t) e

-- what a prefix of the chunk made of the parser
pub record FedPrefix (o p : Progress) (x : List ℕ) : Type 0 where
  pub settings : SameSettings o p
  pub counted : p.count ≤ o.count + length x
  pub answer : FeedAnswer o p (Ok tt) x

next_piece : (s chunk : List ℕ) (i : ℕ) → i < length chunk
    → (s ++ take i chunk) ++ get_or chunk i 0 ∷ [] ≡ s ++ take (i + 1) chunk
next_piece s chunk i h =
    append_assoc s (take i chunk) (get_or chunk i 0 ∷ [])
    ∙ ap (λ y. s ++ y) (sym (take_more chunk i 0 h))

joined_settings : (a b c : Progress) → SameSettings a b → SameSettings b c → SameSettings a c
joined_settings a b c p q = record {
  dialect = q.dialect ∙ p.dialect;
  kind = q.kind ∙ p.kind;
  max = q.max ∙ p.max;
}

length-take_more : (chunk : List ℕ) (i : ℕ) → i < length chunk
    → length (take (i + 1) chunk) ≡ length (take i chunk) + 1
length-take_more chunk i h =
    ap length (take_more chunk i 0 h) ∙ length-append (take i chunk) (get_or chunk i 0 ∷ [])

whole_piece : (s chunk more : List ℕ) (i : ℕ) → i < length chunk
    → ((s ++ take i chunk) ++ get_or chunk i 0 ∷ []) ++ (drop (i + 1) chunk ++ more)
    ≡ (s ++ chunk) ++ more
whole_piece s chunk more i h =
    ap (λ y. y ++ (drop (i + 1) chunk ++ more)) (next_piece s chunk i h)
    ∙ append_assoc s (take (i + 1) chunk) (drop (i + 1) chunk ++ more)
    ∙ ap (λ y. s ++ y) (sym (append_assoc (take (i + 1) chunk) (drop (i + 1) chunk) more)
    ∙ ap (λ y. y ++ more) (take-append-drop (i + 1) chunk))
    ∙ sym (append_assoc s chunk more)

prefix_short : (chunk : List ℕ) (i : ℕ) → i < length chunk → length (take i chunk) + 1
    ≤ length chunk
prefix_short chunk i h =
    let l = length-take_more chunk i h in
    let w : length (take (i + 1) chunk) ≤ length chunk = grind (arith, length-take) in
    omega arith

pub stopped_in : (o p q : Progress) (chunk : List ℕ) (i : ℕ) (e : Refusal) → i < length chunk
    → FedPrefix o p (take i chunk) → Feeds p q (Err e) (get_or chunk i 0 ∷ [])
    → Feeds o q (Err e) chunk
stopped_in o p q chunk i e h a f =
    let k = a.settings in
    record {
      settings = joined_settings o p q a.settings f.settings;
      counted =
          let x = a.counted in
          let y : q.count ≤ p.count + 1 = f.counted in
          let l = prefix_short chunk i h in
          omega arith;
      answer = (
        f.answer.0,
        λ s t more.
            let x = f.answer.1 (s ++ take i chunk) (a.answer.1 s t).2 (drop (i + 1) chunk ++ more)
            in
            let whole = whole_piece s chunk more i h in
            let here = ((s ++ take i chunk) ++ get_or chunk i 0 ∷ []) ++ (drop (i + 1) chunk ++
            more) in
            subst (λ y. RefusedFor o.dialect o.kind o.max y e) whole
            (subst (λ y. RefusedFor y o.kind o.max here e) k.dialect
            (subst (λ y. RefusedFor p.dialect y o.max here e) k.kind
            (subst (λ y. RefusedFor p.dialect p.kind y here e) k.max x))),
      );
    }
