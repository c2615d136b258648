-- The error messages of refusals.
use Rattle.std.specs.Prelude.{ℕ, List, [], ◌∷◌, ◌++◌}
use Rattle.sf_parse.specs.RefusalTexts.{refusal_text}
use Rattle.sf_parse.specs.Spots.{marked_text, stands_at}
use Rattle.sf_c.specs.declared.refusal.SyntaxRefusal.{SyntaxRefusal}
use Rattle.sf_c.specs.Refusals.{refusal_by}

-- the error message of a struct's refusal, then the text as the only line, with a caret below the
-- place
abbrev pub shown_by : SyntaxRefusal → List ℕ → List ℕ
shown_by r text =
    refusal_text (refusal_by r) ++ marked_text (stands_at (refusal_by r) (text ∷ []))
