-- Serialising keys, Tokens and Strings: the classes of characters.
use Rattle.std.specs.List.{list_all}
use Rattle.std.proofs.Common.{◌≡◌, ℕ, Bool, true, false, not, ◌||◌, ◌==◌, List, [], ◌∷◌, ◌++◌}
use Rattle.std.proofs.Common.{Some, refl, ap, ap₂, ◌∙◌, arith}
use Rattle.std.specs.Prelude.{codes}
use Rattle.std.proofs.lemmas.Bool.Decides.{nat_tests}
use Rattle.sf_value.specs.Grammar.Words.{Every}
use Rattle.sf_value.specs.Grammar.Classes.{is_one_of, is_key_start, is_in_key, is_visible}
use Rattle.sf_value.specs.Grammar.Classes.{is_byte}
use Rattle.sf_value.specs.Grammar.Classes.{is_lower, is_digit, is_alpha, is_tchar, is_token_start}
use Rattle.sf_value.specs.Grammar.Classes.{is_in_token}
use Rattle.sf_value.specs.Grammar.Strings.{is_escaped, escaped}
use Rattle.sf_value.specs.Grammar.Tokens.{IsKey, IsToken}
use Rattle.sf_rfc.specs.Rfc9651.Alphabets.{is_any_of, is_ascii, is_unprintable}
use Rattle.sf_rfc.specs.Rfc9651.Alphabets.{in_range}
use Rattle.sf_rfc.specs.Rfc9651.Alphabets.{can_be_in_key, can_start_token}
use Rattle.sf_rfc.specs.Rfc9651.Alphabets.{can_be_in_token}
use Rattle.sf_rfc.specs.Rfc9651.SerialisingBare.{serialise_string, string_characters}
use Rattle.sf_rfc.specs.Rfc9651.SerialisingBare.{serialise_token}
use Rattle.sf_rfc.specs.Rfc9651.Alphabets as rfc
use Rattle.sf_rfc.specs.Rfc9651.Serialising.{serialise_key}

-- what every byte passes, all are that pass
pub every_all : (p q : ℕ → Bool) → ((c : ℕ) → p c ≡ true → q c ≡ true) → (s : List ℕ) → Every p s
    → list_all q s ≡ true
every_all p q f [] h = refl
every_all p q f (c ∷ s) h = rw (f c h.0) (every_all p q f s h.1)

equal_other : (a b : ℕ) → (a == b) ≡ (b == a)
equal_other a b = grind (arith, nat_tests)

one_of : (xs : List ℕ) (c : ℕ) → is_any_of xs c ≡ is_one_of xs c
one_of [] c = refl
one_of (x ∷ xs) c = ap₂ (λ a b. a || b) (equal_other x c) (one_of xs c)

or_swap : (a b : Bool) → (a || b) ≡ (b || a)
or_swap a b = grind arith

or_turn : (a b c : Bool) → (a || b || c) ≡ (c || b || a)
or_turn a b c = grind arith

pub key_rest : (c : ℕ) → can_be_in_key c ≡ is_in_key c
key_rest c = ap (λ x. is_lower c || is_digit c || x) (one_of (codes "_-.*") c)

alpha : (c : ℕ) → rfc.is_ALPHA c ≡ is_alpha c
alpha c = or_swap (in_range 65 90 c) (in_range 97 122 c)

pub token_start : (c : ℕ) → can_start_token c ≡ is_token_start c
token_start c = ap (λ x. x || c == 42) (alpha c)

pub tchar : (c : ℕ) → rfc.is_tchar c ≡ is_tchar c
tchar c =
    ap₂ (λ x y. x || rfc.is_DIGIT c || y) (one_of (codes "!#$%&'*+-.^_`|~") c) (alpha c)
    ∙ or_turn (is_one_of (codes "!#$%&'*+-.^_`|~") c) (is_digit c) (is_alpha c)

pub token_rest : (c : ℕ) → can_be_in_token c ≡ is_in_token c
token_rest c = ap (λ x. x || c == 58 || c == 47) (tchar c)

-- the characters of keys and of Tokens are ASCII
key_start_ascii : (c : ℕ) → is_key_start c ≡ true → is_ascii c ≡ true
key_start_ascii c h = grind (arith, nat_tests)

key_start_rest : (c : ℕ) → is_key_start c ≡ true → can_be_in_key c ≡ true
key_start_rest c h = grind (arith, nat_tests)

key_rest_ascii : (c : ℕ) → is_in_key c ≡ true → is_ascii c ≡ true
key_rest_ascii c h = grind (arith, nat_tests)

token_start_ascii : (c : ℕ) → is_token_start c ≡ true → is_ascii c ≡ true
token_start_ascii c h = grind (arith, nat_tests)

token_rest_ascii : (c : ℕ) → is_in_token c ≡ true → is_ascii c ≡ true
token_rest_ascii c h = grind (arith, nat_tests)

pub key_serialised : (k : List ℕ) → IsKey k → serialise_key k ≡ Some k
key_serialised [] h = absurd h
key_serialised (c ∷ k) h =
    rw (
      key_start_ascii c h.0,
      every_all is_in_key is_ascii key_rest_ascii k h.1,
      key_start_rest c h.0,
      every_all is_in_key can_be_in_key (λ x e. key_rest x ∙ e) k h.1,
      h.0,
    ) refl

pub token_serialised : (s : List ℕ) → IsToken s → serialise_token s ≡ Some s
token_serialised [] h = absurd h
token_serialised (c ∷ s) h =
    rw (
      token_start_ascii c h.0,
      every_all is_in_token is_ascii token_rest_ascii s h.1,
      token_start c ∙ h.0,
      every_all is_in_token can_be_in_token (λ x e. token_rest x ∙ e) s h.1,
    ) refl

-- Strings
visible_ascii : (c : ℕ) → is_visible c ≡ true → is_ascii c ≡ true
visible_ascii c h = grind (arith, nat_tests)

visible_printable : (c : ℕ) → is_visible c ≡ true → not (is_unprintable c) ≡ true
visible_printable c h = grind (arith, nat_tests)

characters_escaped : (s : List ℕ) → string_characters s ≡ escaped s
characters_escaped [] = refl
characters_escaped (c ∷ s) = go (is_escaped c) refl (characters_escaped s)
  where
    go : (x : Bool) → is_escaped c ≡ x → string_characters s ≡ escaped s
        → string_characters (c ∷ s) ≡ escaped (c ∷ s)
    go true e h = rw (or_swap (c == 92) (c == 34) ∙ e, string_characters, e, h) refl
    go false e h = rw (or_swap (c == 92) (c == 34) ∙ e, string_characters, e, h) refl

pub string_serialised : (s : List ℕ) → Every is_visible s
    → serialise_string s ≡ Some (34 ∷ (escaped s ++ 34 ∷ []))
string_serialised s h =
    rw (
      every_all is_visible is_ascii visible_ascii s h,
      every_all is_visible (λ c. not (is_unprintable c)) visible_printable s h,
      characters_escaped s,
    )
    refl

-- bytes
byte_range : (c : ℕ) → is_byte c ≡ true → in_range 0 255 c ≡ true
byte_range c h = grind (arith, nat_tests)

pub bytes_all : (s : List ℕ) → Every is_byte s → list_all (in_range 0 255) s ≡ true
bytes_all = every_all is_byte (in_range 0 255) byte_range
