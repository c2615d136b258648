-- The notation of ABNF (RFC 5234), and the rules that RFC 9651 takes from RFC 5234 (appendix B.1)
-- and RFC 9110. Sections without an RFC are those of RFC 5234. A rule is the texts that it matches.
-- Nothing here uses a definition of the algorithms.
use Rattle.std.specs.Prelude.{◌≡◌, ℕ, zero, suc, ◌≤◌, ◌⊎◌, List, [], ◌∷◌, ◌++◌, codes}

abbrev pub Rule : Type 1
Rule = List ℕ → Type 0

-- "text" (RFC 5234 section 2.3; RFC 9651 quotes no letters, so case makes no difference), and %xNN
abbrev pub text : List ℕ → Rule
text w t = t ≡ w

-- %xLOW-HIGH (section 3.4)
abbrev pub range : ℕ → ℕ → Rule
range low high t = (c : ℕ) × (t ≡ c ∷ []) × (low ≤ c) × (c ≤ high)

-- P Q (section 3.1)
abbrev pub then : Rule → Rule → Rule
then P Q t = (prefix suffix : List ℕ) × (t ≡ prefix ++ suffix) × P prefix × Q suffix

-- P / Q (section 3.2)
abbrev pub either : Rule → Rule → Rule
either P Q t = P t ⊎ Q t

-- one of these characters: "a" / "b" / ..
abbrev pub one_of : List ℕ → Rule
one_of [] t = ⊥
one_of (c ∷ cs) t = (t ≡ c ∷ []) ⊎ one_of cs t

-- nP (section 3.7)
abbrev pub times : ℕ → Rule → Rule
times zero P t = t ≡ []
times (suc n) P t = then P (times n P) t

-- low*highP (section 3.6)
abbrev pub repeated : ℕ → ℕ → Rule → Rule
repeated low high P t = (n : ℕ) × (low ≤ n) × (n ≤ high) × times n P t

-- *P (section 3.6)
abbrev pub many : Rule → Rule
many P t = (n : ℕ) × times n P t

-- 1*P (section 3.6)
abbrev pub some : Rule → Rule
some P t = (n : ℕ) × (1 ≤ n) × times n P t

-- [ P ] (section 3.8)
abbrev pub optional : Rule → Rule
optional P t = (t ≡ []) ⊎ P t

-- ALPHA = %x41-5A / %x61-7A (RFC 5234 appendix B.1)
abbrev pub ALPHA : Rule
ALPHA = either (range 0x41 0x5a) (range 0x61 0x7a)

-- DIGIT = %x30-39
abbrev pub DIGIT : Rule
DIGIT = range 0x30 0x39

-- DQUOTE = %x22
abbrev pub DQUOTE : Rule
DQUOTE = text (0x22 ∷ [])

-- HTAB = %x09
abbrev pub HTAB : Rule
HTAB = text (0x09 ∷ [])

-- SP = %x20
abbrev pub SP : Rule
SP = text (0x20 ∷ [])

-- OWS = *( SP / HTAB ) (RFC 9110 section 5.6.3)
abbrev pub OWS : Rule
OWS = many (either SP HTAB)

-- tchar = "!" / "#" / "$" / "%" / "&" / "'" / "*" / "+" / "-" / "." / "^" / "_" / "`" / "|" / "~"
--         / DIGIT / ALPHA (RFC 9110 section 5.6.2)
abbrev pub tchar : Rule
tchar = either (one_of (codes "!#$%&'*+-.^_`|~")) (either DIGIT ALPHA)
