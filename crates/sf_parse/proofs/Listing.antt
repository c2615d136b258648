-- The names of a set, listed while the next one is known.
use Rattle.std.proofs.Common.{◌≡◌, ℕ, List, [], ◌∷◌, ◌++◌, Option, None, Some}
use Rattle.std.proofs.Common.{sym, ap, ◌∙◌, append_assoc}
use Rattle.std.specs.Prelude.{MatchOption}
use Rattle.sf_parse.specs.declared.names.Name.{Name}
use Rattle.sf_parse.specs.Names.{joint}

-- the names that remain with the next one
abbrev pub from_next : Option Name → List Name → List Name
from_next None names = []
from_next (Some name) names = name ∷ names

-- the next name is the first of those that remained
pub taken_next : (next : Option Name) (left rest : List Name)
    → MatchOption next (left ≡ []) (λ name. left ≡ name ∷ rest) → left ≡ from_next next rest
taken_next None left rest e = e
taken_next (Some name) left rest e = e

-- and tells the joint before it
pub joint_next : (next : Option Name) (left rest : List Name) (text : List ℕ)
    → MatchOption next (left ≡ []) (λ name. left ≡ name ∷ rest)
    → MatchOption next (text ≡ joint []) (λ name. text ≡ joint (name ∷ [])) → text ≡ joint left
joint_next None left rest text e f = f ∙ sym (ap joint e)
joint_next (Some name) left rest text e f = f ∙ sym (ap joint e)

-- what is shown, with a joint and a name after it
pub regroup : (shown text name rest whole : List ℕ) → shown ++ (text ++ (name ++ rest)) ≡ whole
    → ((shown ++ text) ++ name) ++ rest ≡ whole
regroup shown text name rest whole h =
    append_assoc (shown ++ text) name rest ∙ append_assoc shown text (name ++ rest) ∙ h
