-- A reader's text, read and fed block by block.
use Rattle.std.proofs.Common.{◌≡◌, ℕ, ◌+◌, ◌^◌, ◌<◌, ◌≤◌, List, [], ◌++◌, length}
use Rattle.std.proofs.Common.{Some, None, inl, inr}
use Rattle.std.proofs.Common.{Result, Ok, Err, refl, sym, ◌∙◌, subst, append-nil, append_assoc}
use Rattle.std.proofs.Common.{length-append, arith}
use Rattle.sf_value.specs.Devices.{SourceState, capped, Gives, GivesOnce, EndsOnce, FailsOnce}
use Rattle.sf_value.specs.declared.dialect.Dialect.TheVariants.{Rfc9651}
use Rattle.sf_value.specs.declared.value.Field.{Field}
use Rattle.sf_value.specs.declared.value.Kind.{Kind}
use Rattle.sf_value.specs.Grammar.Lines.{Viable}
use Rattle.sf_parse.specs.declared.refusal.Refusal.{Refusal}
use Rattle.sf_parse.specs.declared.refusal.Refusal.TheVariants.{OutOfMemory, Syntax, TooLong}
use Rattle.sf_parse.specs.declared.refusal.Refusal.TheVariants.{ReadFault}
use Rattle.sf_parse.specs.Machine.Fields.{begin}
use Rattle.sf_parse.specs.Parsers.{Progress, HasTaken, Feeds, RefusedFor, Finishes}
use Rattle.sf_parse.specs.AllocationFree.{TakesNoMemory}
use Rattle.sf_parse.specs.AllocationFreeParsers.{IsAllocationFree, IsOther, NotForMemory}
use Rattle.sf_parse.specs.Reading.{GivesAll, AllocationFailed, ReadAndParsed}
use Rattle.sf_parse.proofs.Reaching.{reached_nothing, reached_viable}
use Rattle.sf_value.proofs.Gives.{gives_none, gives_more}

-- what was given so far, and taken by the parser
pub record ReadSoFar (old now : SourceState) (kind : Kind) (max given : ℕ) (p : Progress)
    : Type 0 where
  pub text : List ℕ
  pub gives : Gives old now text
  pub took : HasTaken p text
  pub count : length text ≡ given
  pub dialect : p.dialect ≡ Rfc9651
  pub same_kind : p.kind ≡ kind
  pub same_max : p.max ≡ max
  pub within : given ≤ max
  pub viable : Viable Rfc9651 kind text
  -- while what was given begins a text that does not allocate, the parser does not either
  pub allocation_free : (more : List ℕ) → TakesNoMemory kind (text ++ more) → IsAllocationFree p more

pub reads_start : (s : SourceState) (kind : Kind) (max : ℕ) (p : Progress) → HasTaken p []
    → p.dialect ≡ Rfc9651 → p.kind ≡ kind → p.max ≡ max
    → ((text : List ℕ) → TakesNoMemory kind text → IsAllocationFree p text)
    → ReadSoFar s s kind max 0 p
reads_start s kind max p t d k m allocation_free = record {
  text = [];
  gives = gives_none s;
  took = t;
  count = refl;
  dialect = d;
  same_kind = k;
  same_max = m;
  within = omega arith;
  viable = reached_viable Rfc9651 kind (begin kind) [] (reached_nothing Rfc9651 kind);
  allocation_free = allocation_free;
}

pub reads_more : (old a b : SourceState) (kind : Kind) (max given n : ℕ) (p q : Progress)
    (ys : List ℕ) → ReadSoFar old a kind max given p → GivesOnce a b ys → length ys ≡ n
    → Feeds p q (Ok tt) ys
    → ((more : List ℕ) → IsAllocationFree p (ys ++ more) → IsAllocationFree q more)
    → ReadSoFar old b kind max (given + n) q
reads_more old a b kind max given n p q ys r g e f allocation_free =
    let fed = f.answer.1 r.text r.took in
    let same = f.settings in
    let count : length (r.text ++ ys) ≡ given + n =
    let l = length-append r.text ys in let c = r.count in omega arith in
    record {
      text = r.text ++ ys;
      gives = gives_more old a b r.text ys r.gives g;
      took = fed.2;
      count = count;
      dialect = same.dialect ∙ r.dialect;
      same_kind = same.kind ∙ r.same_kind;
      same_max = same.max ∙ r.same_max;
      within = let l = fed.0 in let m = r.same_max in omega arith;
      viable =
          subst (λ k. Viable Rfc9651 k (r.text ++ ys)) r.same_kind
          (subst (λ d. Viable d p.kind (r.text ++ ys)) r.dialect fed.1);
      allocation_free = λ more h.
          allocation_free more (r.allocation_free (ys ++ more)
          (subst (TakesNoMemory kind) (append_assoc r.text ys more) h));
    }

at_most : (m n k given top : ℕ) → m ≡ given → k ≡ m + n → given + n ≤ top → k ≤ top
at_most m n k given top c e l = omega arith

pub reads_refused : (old a b : SourceState) (kind : Kind) (max given : ℕ) (p q : Progress)
    (ys : List ℕ) (e : Refusal) → ReadSoFar old a kind max given p → GivesOnce a b ys
    → given + length ys ≤ capped (max + 1) → Feeds p q (Err e) ys
    → ((more : List ℕ) → IsAllocationFree p (ys ++ more) → IsOther e)
    → ReadAndParsed Rfc9651 kind old b max (Err e)
reads_refused old a b kind max given p q ys e r g l f allocation_free = at e refused other
  where
    text : List ℕ
    text = r.text ++ ys

    gives : Gives old b text
    gives = gives_more old a b r.text ys r.gives g

    bound : length text ≤ capped (max + 1)
    bound = at_most (length r.text) (length ys) (length text) given (capped (max + 1)) r.count
        (length-append r.text ys) l

    refused : (more : List ℕ) → RefusedFor Rfc9651 kind max (text ++ more) e
    refused more =
        subst (λ d. RefusedFor d kind max (text ++ more) e) r.dialect
        (subst (λ k. RefusedFor p.dialect k max (text ++ more) e) r.same_kind
        (subst (λ m. RefusedFor p.dialect p.kind m (text ++ more) e) r.same_max
        (f.answer.1 r.text r.took more)))

    other : TakesNoMemory kind text → IsOther e
    other h =
        allocation_free [] (r.allocation_free (ys ++ [])
        (subst (λ y. TakesNoMemory kind (r.text ++ y)) (sym (append-nil ys)) h))

    at : (e : Refusal) → ((more : List ℕ) → RefusedFor Rfc9651 kind max (text ++ more) e)
        → (TakesNoMemory kind text → IsOther e) → ReadAndParsed Rfc9651 kind old b max (Err e)
    at OutOfMemory h o = (text, (o, inl (gives, bound)))
    at (Syntax place None expected may) h o = absurd (h [])
    at (Syntax place (Some c) expected may) h o =
        (text, gives, bound, (h []).0, λ more. (h more).1)
    at (TooLong limit) h o =
        let none = append-nil text in
        let k = subst (λ y. RefusedFor Rfc9651 kind max y (TooLong limit)) none (h []) in
        (text, gives, (let m = k.1 in let w = bound in omega arith), k.0, k.2)
    at (ReadFault place) h o = absurd (h [])

pub reads_failed : (old a b : SourceState) (kind : Kind) (max given : ℕ) (p : Progress)
    → ReadSoFar old a kind max given p → FailsOnce a b
    → ReadAndParsed Rfc9651 kind old b max (Err (ReadFault given))
reads_failed old a b kind max given p r f =
    (r.text, record { mid = a; gives = r.gives; failed = f }, r.count, r.within, r.viable)

allocation_failed : (old b : SourceState) (kind : Kind) (max : ℕ) (text : List ℕ) → GivesAll old b text
    → length text ≤ max → max < 2 ^ 64 → ¬ (TakesNoMemory kind text) → AllocationFailed kind old b max text
allocation_failed old b kind max text g l m n =
    elim g [ inl e ↦ (n, inr (e, l)) | inr f ↦ (n, inl (f.0, omega arith)) ]

ended : (old b : SourceState) (kind : Kind) (max : ℕ) (text : List ℕ) (r : Result Field Refusal)
    → GivesAll old b text → length text ≤ max → max < 2 ^ 64
    → (TakesNoMemory kind text → NotForMemory r)
    → Finishes Rfc9651 kind text r → ReadAndParsed Rfc9651 kind old b max r
ended old b kind max text (Ok v) g l m n f = (text, g, l, f)
ended old b kind max text (Err OutOfMemory) g l m n f =
    (text, allocation_failed old b kind max text g l m n)
ended old b kind max text (Err (Syntax place None expected may)) g l m n f = (text, g, l, f)
ended old b kind max text r g l m n f = absurd f

finished : (kind : Kind) (max given : ℕ) (old a : SourceState) (p : Progress)
    (r : Result Field Refusal) (k : ReadSoFar old a kind max given p)
    → ((s : List ℕ) → HasTaken p s → Finishes p.dialect p.kind s r) → Finishes Rfc9651 kind k.text r
finished kind max given old a p r k f =
    subst (λ y. Finishes Rfc9651 y k.text r) k.same_kind
    (subst (λ d. Finishes d p.kind k.text r) k.dialect (f k.text k.took))

-- as many bytes were given as a count holds
pub reads_full : (old a : SourceState) (kind : Kind) (max given limit : ℕ) (p : Progress)
    (r : Result Field Refusal) → ReadSoFar old a kind max given p → max < 2 ^ 64
    → limit ≡ capped (max + 1) → limit ≤ given → (IsAllocationFree p [] → NotForMemory r)
    → ((s : List ℕ) → HasTaken p s → Finishes p.dialect p.kind s r)
    → ReadAndParsed Rfc9651 kind old a max r
reads_full old a kind max given limit p r k m e l n f =
    let c = k.count in
    let w = k.within in
    ended old a kind max k.text r (inr (k.gives, omega arith)) (omega arith) m
    (λ h. n (k.allocation_free [] (subst (TakesNoMemory kind) (sym (append-nil k.text)) h)))
    (finished kind max given old a p r k f)

-- the reader came to its end
pub reads_ended : (old a b : SourceState) (kind : Kind) (max given : ℕ) (p : Progress)
    (r : Result Field Refusal) → ReadSoFar old a kind max given p → max < 2 ^ 64 → EndsOnce a b
    → (IsAllocationFree p [] → NotForMemory r)
    → ((s : List ℕ) → HasTaken p s → Finishes p.dialect p.kind s r)
    → ReadAndParsed Rfc9651 kind old b max r
reads_ended old a b kind max given p r k m e n f =
    let c = k.count in
    let w = k.within in
    ended old b kind max k.text r (inl (record { mid = a; gives = k.gives; ended = e }))
    (omega arith) m
    (λ h. n (k.allocation_free [] (subst (TakesNoMemory kind) (sym (append-nil k.text)) h)))
    (finished kind max given old a p r k f)
