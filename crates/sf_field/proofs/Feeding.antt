-- Feeding a text piece by piece, and lines one by one.
use Rattle.std.proofs.Common.{◌≡◌, ℕ, ◌+◌, ◌<◌, Bool, true, false, List, [], ◌∷◌, ◌++◌, length}
use Rattle.std.proofs.Common.{drop, get_or}
use Rattle.std.proofs.lemmas.List.{drop_more}
use Rattle.std.proofs.Common.{Ok, Err, refl, sym, ap, ◌∙◌, subst, append-nil, append_assoc}
use Rattle.sf_value.specs.Grammar.Lines.{join}
use Rattle.sf_parse.specs.declared.refusal.Refusal.{Refusal}
use Rattle.sf_parse.specs.Parsers.{Progress, Feeds, in_line}
use Rattle.sf_parse.specs.AllocationFreeParsers.{IsAllocationFree}
use Rattle.sf_parse.proofs.FedLines.{fed_after, fed_before}

-- lines as they are fed: after a line, each has a comma and a space before it
abbrev pub behind : Bool → List (List ℕ) → List ℕ
behind after [] = []
behind after (l ∷ ls) = in_line after l ++ behind true ls

join_after : (l : List ℕ) (ls : List (List ℕ)) → join (l ∷ ls) ≡ l ++ behind true ls
join_after l [] = sym (append-nil l)
join_after l (m ∷ ls) = ap (λ t. l ++ 44 ∷ 32 ∷ t) (join_after m ls)

pub joined : (ls : List (List ℕ)) → join ls ≡ behind false ls
joined [] = refl
joined (l ∷ ls) = join_after l ls

-- a line was appended to the text of the lines before it
pub appended : (text new line item whole : List ℕ) (after : Bool) (lines : List (List ℕ)) (i : ℕ)
    → i < length lines → text ++ behind after (drop i lines) ≡ whole
    → item ≡ get_or lines i item → line ≡ item → new ≡ text ++ in_line after line
    → new ++ behind true (drop (i + 1) lines) ≡ whole
appended text new line item whole after lines i h so_far is same added =
    ap (λ z. z ++ behind true (drop (i + 1) lines))
    (added ∙ ap (λ z. text ++ in_line after z) (same ∙ is))
    ∙ append_assoc text (in_line after (get_or lines i item)) (behind true (drop (i + 1) lines))
    ∙ ap (λ ls. text ++ behind after ls) (sym (drop_more lines i item h)) ∙ so_far

-- a prefix of all was fed, and this is left
pub record FedSoFar (o p : Progress) (all left : List ℕ) : Type 0 where
  pub prefix : List ℕ
  pub split : all ≡ prefix ++ left
  pub fed : Feeds o p (Ok tt) prefix

-- nothing was fed yet
pub fed_nothing : (o p : Progress) (all : List ℕ) → Feeds o p (Ok tt) [] → FedSoFar o p all all
fed_nothing o p all f = record { prefix = []; split = refl; fed = f }

-- the first line was fed
pub fed_first : (o p : Progress) (line : List ℕ) (ls : List (List ℕ)) → o.after_line ≡ false
    → p.after_line ≡ true → Feeds o p (Ok tt) (in_line o.after_line line)
    → FedSoFar o p (join (line ∷ ls)) (behind p.after_line ls)
fed_first o p line ls n t f =
    subst (λ b. FedSoFar o p (join (line ∷ ls)) (behind b ls)) (sym t)
    (record {
      prefix = line;
      split = join_after line ls;
      fed = subst (λ b. Feeds o p (Ok tt) (in_line b line)) n f;
    })

-- the first line was refused
pub first_refused : (o q : Progress) (e : Refusal) (line : List ℕ) (ls : List (List ℕ))
    → o.after_line ≡ false → Feeds o q (Err e) (in_line o.after_line line)
    → Feeds o q (Err e) (join (line ∷ ls))
first_refused o q e line ls n f =
    subst (Feeds o q (Err e)) (sym (join_after line ls))
    (fed_before o q e line (behind true ls) (subst (λ b. Feeds o q (Err e) (in_line b line)) n f))

-- the lines do not allocate: the first one, and what is left
pub free_first : (o : Progress) (line : List ℕ) (ls : List (List ℕ)) → o.after_line ≡ false
    → IsAllocationFree o (join (line ∷ ls))
    → IsAllocationFree o (in_line o.after_line line ++ behind true ls)
free_first o line ls n h =
    subst (λ b. IsAllocationFree o (in_line b line ++ behind true ls)) (sym n)
    (subst (IsAllocationFree o) (join_after line ls) h)

-- a further piece was fed
pub fed_piece : (o p q : Progress) (all left chunk more : List ℕ) → FedSoFar o p all left
    → left ≡ chunk ++ more → Feeds p q (Ok tt) chunk → FedSoFar o q all more
fed_piece o p q all left chunk more l e f = record {
  prefix = l.prefix ++ chunk;
  split = l.split ∙ ap (λ z. l.prefix ++ z) e ∙ sym (append_assoc l.prefix chunk more);
  fed = fed_after o p q (Ok tt) l.prefix chunk l.fed f;
}

-- a further line was fed
pub fed_line : (o p q : Progress) (all left line : List ℕ) (ls : List (List ℕ)) (after : Bool)
    → q.after_line ≡ true → FedSoFar o p all left → left ≡ in_line after line ++ behind true ls
    → Feeds p q (Ok tt) (in_line after line) → FedSoFar o q all (behind q.after_line ls)
fed_line o p q all left line ls after t l e f =
    subst (λ b. FedSoFar o q all (behind b ls)) (sym t)
    (fed_piece o p q all left (in_line after line) (behind true ls) l e f)

-- a further piece was refused
pub fed_refused : (o p q : Progress) (e : Refusal) (all left chunk more : List ℕ)
    → FedSoFar o p all left → left ≡ chunk ++ more → Feeds p q (Err e) chunk → Feeds o q (Err e) all
fed_refused o p q e all left chunk more l s f =
    subst (Feeds o q (Err e))
    (append_assoc l.prefix chunk more ∙ sym (l.split ∙ ap (λ z. l.prefix ++ z) s))
    (fed_before o q e (l.prefix ++ chunk) more (fed_after o p q (Err e) l.prefix chunk l.fed f))

-- what is left allocates no more once a line was fed
pub free_next : (p : Progress) (ls : List (List ℕ)) → p.after_line ≡ true
    → IsAllocationFree p (behind true ls) → IsAllocationFree p (behind p.after_line ls)
free_next p ls t h = subst (λ b. IsAllocationFree p (behind b ls)) (sym t) h
