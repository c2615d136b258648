-- Languages, and machines that read them a byte at a time.
use Rattle.std.specs.Option.{option_and_then}
use Rattle.std.specs.Prelude.{◌≡◌, ℕ, Bool, true, false, List, [], ◌∷◌, ◌++◌, Option, Some, None}
use Rattle.std.specs.Prelude.{◌⊎◌}
use Rattle.sf_value.specs.Ascii.{tab, space, close_bracket, comma, semicolon}
use Rattle.sf_value.specs.Grammar.Words.{Every}
use Rattle.sf_value.specs.Grammar.Classes.{is_one_of}

-- a prefix with the value x, and a suffix with the value v after x
abbrev pub Then : {X V : Type 0} → (List ℕ → X → Type 0) → (X → List ℕ → V → Type 0) → List ℕ → V
    → Type 0
Then {X = X} A B t v = (x : X) × (prefix suffix : List ℕ) × (t ≡ prefix ++ suffix) × A prefix x
    × B x suffix v

-- the texts of A, with f of their values
abbrev pub MapValues : {X V : Type 0} → (X → V) → (List ℕ → X → Type 0) → List ℕ → V → Type 0
MapValues {X = X} f A t v = (x : X) × A t x × (v ≡ f x)

-- continues in the first part if that takes the byte, otherwise in what follows its value
abbrev pub onward : {S T X : Type 0} → (S → T) → Option S → Option X → (X → Option T) → Option T
onward into (Some s) end after = Some (into s)
onward into None (Some x) after = after x
onward into None None after = None

-- The texts of L are read by next and end: a byte leads to a state whose residual is that of L, and
-- end is the value of the empty text.
pub record Reads (S V : Type 0) (Good : S → Type 0) (Residual : S → List ℕ → V → Type 0)
    (L : List ℕ → V
    → Type 0) (next : ℕ → Option S) (end : Option V) : Type 0 where
  pub taken : (b : ℕ) (u : List ℕ) (v : V) → L (b ∷ u) v → (s : S) × (next b ≡ Some s)
      × Residual s u v
  pub gives : (b : ℕ) (u : List ℕ) (v : V) (s : S) → next b ≡ Some s → Residual s u v → L (b ∷ u) v
  pub good : (b : ℕ) (s : S) → next b ≡ Some s → Good s
  pub ends : (v : V) → L [] v → end ≡ Some v
  pub ended : (v : V) → end ≡ Some v → L [] v

-- either language
abbrev pub Either : {V : Type 0} → (List ℕ → V → Type 0) → (List ℕ → V → Type 0) → List ℕ → V
    → Type 0
Either A B t v = A t v ⊎ B t v

-- this byte, then A
abbrev pub After : {V : Type 0} → ℕ → (List ℕ → V → Type 0) → List ℕ → V → Type 0
After c A t v = (suffix : List ℕ) × (t ≡ c ∷ suffix) × A suffix v

-- the empty text, with this value
abbrev pub Nothing : {V : Type 0} → V → List ℕ → V → Type 0
Nothing x t v = (t ≡ []) × (v ≡ x)

-- any number of bytes that pass the test, then A
abbrev pub Past : {V : Type 0} → (ℕ → Bool) → (List ℕ → V → Type 0) → List ℕ → V → Type 0
Past p A t v = (prefix suffix : List ℕ) × (t ≡ prefix ++ suffix) × Every p prefix × A suffix v

-- the texts of A if the test is true
abbrev pub Where : {V : Type 0} → Bool → (List ℕ → V → Type 0) → List ℕ → V → Type 0
Where c A t v = (c ≡ true) × A t v

-- o if the test is true
abbrev pub only : {S : Type 0} → Bool → Option S → Option S
only true o = o
only false o = None

-- the state after a text
abbrev pub run : {S : Type 0} → (S → ℕ → Option S) → S → List ℕ → Option S
run step s [] = Some s
run step s (b ∷ t) = option_and_then (λ s'. run step s' t) (step s b)

-- the language L has a text
pub record Live (V : Type 0) (L : List ℕ → V → Type 0) : Type 0 where
  pub text : List ℕ
  pub value : V
  pub whole : L text value

-- A machine that reads its own residuals, and that is stuck in no good state.
pub record Machine (S V : Type 0) (Good : S → Type 0) (Residual : S → List ℕ → V → Type 0)
    (step : S → ℕ
    → Option S) (finish : S → Option V) : Type 0 where
  pub reads : (s : S) → Good s → Reads S V Good Residual (Residual s) (step s) (finish s)
  pub lives : (s : S) → Good s → Live V (Residual s)

-- a step in place took the byte, or can't take it and changed nothing
abbrev pub Steps : {S : Type 0} → Bool → Option S → S → S → Type 0
Steps true next old new = next ≡ Some new
Steps false next old new = (next ≡ None) × (new ≡ old)

-- the bytes that may follow a bare item
abbrev pub is_follow : ℕ → Bool
is_follow b = is_one_of (tab ∷ space ∷ close_bracket ∷ comma ∷ semicolon ∷ []) b

-- the bytes that may follow an item
abbrev pub is_after : ℕ → Bool
is_after b = is_one_of (tab ∷ space ∷ close_bracket ∷ comma ∷ []) b
