-- Parts are written one after another.
use Rattle.std.proofs.Common.{◌≡◌, ℕ, ◌+◌, ◌-◌, ◌*◌, ◌/◌, ◌%◌, ◌≤◌, true, false, List, [], ◌∷◌}
use Rattle.std.proofs.Common.{◌++◌, length, refl, sym, ap, ◌∙◌, subst, inl, inr, append_assoc}
use Rattle.std.proofs.Common.{append-nil, arith, length-append, replicate, take, drop}
use Rattle.std.proofs.Math.Seq.{take-append_seam, drop-append_seam, take-length}
use Rattle.std.proofs.lemmas.List.{length-replicate}
use Rattle.sf_value.specs.Ascii.{quote, percent}
use Rattle.sf_value.specs.declared.dialect.Dialect.{Dialect}
use Rattle.sf_value.specs.declared.value.Bare.{Bare}
use Rattle.sf_value.specs.Grammar.Words.{Every}
use Rattle.sf_value.specs.Grammar.Strings.{escaped}
use Rattle.sf_value.specs.Grammar.ByteSequences.{letter, unpadded, needed, Pads, Sextets}
use Rattle.sf_value.specs.Grammar.DisplayStrings.{hex, is_unencoded, EncodedBytes}
use Rattle.sf_value.specs.Grammar.Canonical.{canon_base64, canon_shown, canon_value, canon_params}
use Rattle.std.specs.Prelude.{IsTrue, Result}
use Rattle.sf_value.specs.declared.value.Bare.TheVariants.{Integer, Decimal, Text, Token}
use Rattle.sf_value.specs.declared.value.Bare.TheVariants.{Blob, Boolean, Date, Shown}
use Rattle.sf_value.specs.Grammar.Canonical.{canon_bare}
use Rattle.sf_value.specs.Devices.{SinkState}
use Rattle.sf_write.proofs.CanonSteps.{value_written}
use Rattle.sf_write.proofs.Following.{Remains, remains_less, remains_none, nothing}
use Rattle.sf_write.specs.declared.sending.WriteFault.{WriteFault}
use Rattle.sf_write.specs.Writing.{Follows}
use Rattle.sf_value.specs.Grammar.Pairs.{Pairs}
use Rattle.sf_view.specs.declared.node.Node.{Node}
use Rattle.sf_view.specs.declared.node_types.Role.{Role}
use Rattle.sf_view.specs.View.{DescribesParams}
use Rattle.sf_view.specs.Decoding.{TakesByte}
use Rattle.sf_view.specs.Parts.{SplitsOff}
use Rattle.sf_value.specs.Grammar.Strings.{is_unescaped}
use Rattle.sf_scan.proofs.Escapes.{escaped_run}
use Rattle.sf_view.specs.declared.view.BareView.{BareView}
use Rattle.sf_view.specs.declared.view.BareView.TheVariants as view_is
use Rattle.sf_view.specs.Views.{IsBorrowed}
use Rattle.sf_view.specs.CanonicalParts.{canon_param, encoding, is_flag, CanonicalRun}
use Rattle.sf_view.specs.CanonicalParts.{IsNeededEscape}
use Rattle.sf_view.specs.declared.view.View.{View}

-- of these parts some are written, and what f gives of the others, which the view describes, is
-- still to be written
pub record Unwritten {X : Type 0} (T : List ℕ → List Node → List X → Type 0)
    (f : List X → List ℕ) (view : View) (R : List ℕ → Type 0) : Type 0 where
  pub left : List X
  pub describes : T view.text.now view.nodes.now left
  pub rest : R (f left)

module _ {S X : Type 0} {state : S → SinkState} {gives : S → List ℕ → S → Type 0}
    (T : List ℕ → List Node → List X → Type 0) (f : List X → List ℕ) (view : View) where
  -- one more part is written
  pub unwritten_less : {start now next : S} {before sent after : Result ℕ WriteFault}
      {all : List ℕ} (P : List ℕ → List Node → X → Type 0) (g : List X → List ℕ)
      (chunk : X → List ℕ) → ((x : X) (xs : List X) → f (x ∷ xs) ≡ chunk x ++ g xs)
      → (part others : View) → Unwritten T f view (Remains state gives start now before sent all)
      → (part.text.now ≡ view.text.now) × (others.text.now ≡ view.text.now)
      → ((xs : List X) → T view.text.now view.nodes.now xs
      → SplitsOff (P view.text.now) (T view.text.now) xs part.nodes.now others.nodes.now)
      → ((x : X) → P part.text.now part.nodes.now x
      → Follows state gives now next sent after (chunk x))
      → Unwritten T g others (Remains state gives start next before after all)
  unwritten_less P g chunk e part others w text splits write =
      let h = splits w.left w.describes in
      record {
        left = h.others;
        describes = rw text.1 h.rest;
        rest =
            remains_less w.rest (ap f h.parts ∙ e h.value h.others)
            (write h.value (rw text.0 h.first));
      }

  -- no part is left
  pub unwritten_none : {start now : S} {before sent : Result ℕ WriteFault} {all : List ℕ}
      → Unwritten T f view (Remains state gives start now before sent all)
      → ((xs : List X) → T view.text.now view.nodes.now xs → xs ≡ []) → f [] ≡ []
      → Follows state gives start now before sent all
  unwritten_none w none e = remains_none w.rest (ap f (none w.left w.describes) ∙ e)

-- a parameter and the others
pub params_are : (p : List ℕ × Bare) (ps : Pairs Bare)
    → canon_params (p ∷ ps) ≡ canon_param p ++ canon_params ps
params_are p ps = ap (λ t. 59 ∷ t) (sym (append_assoc p.0 (canon_value p.1) (canon_params ps)))

-- without nodes there are no parameters, and nothing is written
pub no_params : {S : Type 0} {state : S → SinkState} {gives : S → List ℕ → S → Type 0} {s : S}
    {x : Result ℕ WriteFault} (d : Dialect) (source : List ℕ) (r : Role) (ns : List Node)
    (ps : Pairs Bare) → DescribesParams d source r ns ps → length ns ≡ 0
    → Follows state gives s s x x (canon_params ps)
no_params d source r ns [] h e = nothing
no_params d source r [] (p ∷ ps) (n, ms, f, b, h) e = absurd cc
no_params d source r (m ∷ ns) (p ∷ ps) h e = absurd cc

-- after a key Boolean true is not written, and any other bare item is
pub flag_value : (d : Dialect) (v : BareView) (x : Bare) → IsBorrowed d v x → true ≡ is_flag v
    → canon_value x ≡ []
flag_value d (view_is.Boolean true) x h e = ap canon_value h
flag_value d v x h e = absurd cc

no_flag : (x y : Bare) → x ≡ y → (y ≡ Boolean true → IsTrue false) → canon_value x ≡ 61 ∷ canon_bare x
no_flag x y e h = value_written x (λ f. h (sym e ∙ f))

pub other_value : (d : Dialect) (v : BareView) (x : Bare) → IsBorrowed d v x → false ≡ is_flag v
    → canon_value x ≡ 61 ∷ canon_bare x
other_value d (view_is.Integer n) x h e = no_flag x (Integer n) h (λ f. absurd cc)
other_value d (view_is.Decimal m) x h e = no_flag x (Decimal m) h (λ f. absurd cc)
other_value d (view_is.Text s) x h e = no_flag x (Text h.0) h.1 (λ f. absurd cc)
other_value d (view_is.Token s) x h e = no_flag x (Token s.now) h (λ f. absurd cc)
other_value d (view_is.Blob s) x h e = no_flag x (Blob h.0) h.1 (λ f. absurd cc)
other_value d (view_is.Boolean true) x h e = absurd cc
other_value d (view_is.Boolean false) x h e = no_flag x (Boolean false) h (λ f. absurd cc)
other_value d (view_is.Date n) x h e = no_flag x (Date n) h (λ f. absurd cc)
other_value d (view_is.Shown s) x h e = no_flag x (Shown h.0) h.1 (λ f. absurd cc)

-- whole groups of base64, which are canonical, and what the rest spells, of at most three bytes
pub record Groups (text t : List ℕ) : Type 0 where
  pub prefix : List ℕ
  pub last : List ℕ
  pub left : List ℕ
  pub split : text ≡ prefix ++ last
  pub size : length prefix ≡ (length text - 2) / 4 * 4
  pub remains : Sextets last left
  pub few : length left ≤ 3
  pub canonical : canon_base64 t ≡ prefix ++ canon_base64 left

pads_length : (n : ℕ) (suffix : List ℕ) → Pads n suffix → (1 ≤ length suffix) × (length suffix ≤ n + 1)
pads_length n suffix (m, le, e) =
    let pads : List ℕ = replicate m 61 in
    let colon : List ℕ = 58 ∷ [] in
    let size : length suffix ≡ length pads + length colon = ap length e ∙ length-append pads colon in
    let many : length pads ≡ m = length-replicate m 61 in
    (omega arith, omega arith)

one_group : (text t : List ℕ) → Sextets text t → length text ≤ 5 → length t ≤ 3 → Groups text t
one_group text t h short few = record {
  prefix = [];
  last = text;
  left = t;
  split = refl;
  size = omega arith;
  remains = h;
  few = few;
  canonical = refl;
}

abbrev four : ℕ → ℕ → ℕ → List ℕ → List ℕ
four a b c t =
    letter (a / 4) ∷ letter (a % 4 * 16 + b / 16) ∷ letter (b % 16 * 4 + c / 64) ∷ letter (c % 64)
    ∷ t

four_more : (a b c : ℕ) (t : List ℕ) → length (four a b c t) ≡ 4 + length t
four_more a b c t = omega arith

long_rest : (low x : ℕ) (s suffix : List ℕ) → 1 ≤ length suffix
    → 3 ≤ length (unpadded low (x ∷ s) ++ suffix)
long_rest low x (y ∷ z ∷ s) suffix h = omega arith
long_rest low x s suffix h = omega arith

next_group : (a b c : ℕ) (s : List ℕ)
    → ((text : List ℕ) → Sextets text s → Groups text s)
    → (text : List ℕ) → Sextets text (a ∷ b ∷ c ∷ s) → Groups text (a ∷ b ∷ c ∷ s)
next_group a b c [] groups text (low, suffix, lt, e, f, p) =
    let size = ap length e in
    let pads = pads_length 0 suffix p in
    one_group text (a ∷ b ∷ c ∷ []) (low, suffix, lt, e, f, p) (omega arith) (omega arith)
next_group a b c (x ∷ s) groups text (low, suffix, lt, e, f, p) =
    let rest : List ℕ = unpadded low (x ∷ s) ++ suffix in
    let g : Groups rest (x ∷ s) = groups rest (low, suffix, lt, refl, f.1.1.1, p) in
    let size : length text ≡ 4 + length rest = ap length e ∙ four_more a b c rest in
    let least : 3 ≤ length rest = long_rest low x s suffix (pads_length (needed (x ∷ s)) suffix p).0 in
    let inner = g.size in
    let outer = four_more a b c g.prefix in
    record {
      prefix = four a b c g.prefix;
      last = g.last;
      left = g.left;
      split = e ∙ ap (four a b c) g.split;
      size = omega arith;
      remains = g.remains;
      few = g.few;
      canonical = ap (four a b c) g.canonical;
    }

pub groups_of : (text t : List ℕ) → Sextets text t → Groups text t
groups_of text [] (low, suffix, lt, e, f, p) =
    let size = ap length e in
    let pads = pads_length 0 suffix p in
    one_group text [] (low, suffix, lt, e, f, p) (omega arith) (omega arith)
groups_of text (a ∷ []) (low, suffix, lt, e, f, p) =
    let size = ap length e in
    let pads = pads_length 2 suffix p in
    one_group text (a ∷ []) (low, suffix, lt, e, f, p) (omega arith) (omega arith)
groups_of text (a ∷ b ∷ []) (low, suffix, lt, e, f, p) =
    let size = ap length e in
    let pads = pads_length 1 suffix p in
    one_group text (a ∷ b ∷ []) (low, suffix, lt, e, f, p) (omega arith) (omega arith)
groups_of text (a ∷ b ∷ c ∷ s) h = next_group a b c s (λ u k. groups_of u s k) text h

-- so many bytes of base64 are whole groups, and the rest spells at most three bytes
pub record LastGroup (prefix rest t : List ℕ) : Type 0 where
  pub left : List ℕ
  pub remains : Sextets rest left
  pub few : length left ≤ 3
  pub canonical : canon_base64 t ≡ prefix ++ canon_base64 left

pub last_group : (text t : List ℕ) (n : ℕ) (prefix rest : List ℕ) → Sextets text t
    → n ≡ (length text - 2) / 4 * 4 → prefix ≡ take n text → rest ≡ drop n text
    → LastGroup prefix rest t
last_group text t n prefix rest h e f r =
    let g = groups_of text t h in
    let size : n ≡ length g.prefix = e ∙ sym g.size in
    let own : prefix ≡ g.prefix =
    f ∙ ap (λ y. take y text) size ∙ ap (take (length g.prefix)) g.split
    ∙ take-append_seam g.prefix g.last in
    let after : rest ≡ g.last =
    r ∙ ap (λ y. drop y text) size ∙ ap (drop (length g.prefix)) g.split
    ∙ drop-append_seam g.prefix g.last in
    record {
      left = g.left;
      remains = subst (λ y. Sextets y g.left) (sym after) g.remains;
      few = g.few;
      canonical = g.canonical ∙ ap (λ y. y ++ canon_base64 g.left) (sym own);
    }

-- bytes of a Display String that stand for themselves are canonical
no_plain : (b : ℕ) → is_unencoded b ≡ true → b ≡ quote → ⊥
no_plain b h e = let never : false ≡ true = rw e at h in cc

no_plain_percent : (b : ℕ) → is_unencoded b ≡ true → b ≡ percent → ⊥
no_plain_percent b h e = let never : false ≡ true = rw e at h in cc

pub run_of : (rest run stop s : List ℕ) → rest ≡ run ++ stop → Every is_unencoded run
    → EncodedBytes rest s → CanonicalRun run stop s
run_of rest [] stop s e h p = record {
  left = s;
  remains = subst (λ y. EncodedBytes y s) e p;
  canonical = refl;
}
run_of rest (b ∷ run) stop [] e h p =
    let same : b ∷ (run ++ stop) ≡ quote ∷ [] = sym e ∙ p in
    absurd (no_plain b h.0 cc)
run_of rest (b ∷ run) stop (c ∷ s) e h (suffix, inl (u, k), p) =
    let same : b ∷ (run ++ stop) ≡ c ∷ suffix = sym e ∙ k in
    let byte : b ≡ c = cc in
    let tail : suffix ≡ run ++ stop = cc in
    let r = run_of suffix run stop s tail h.1 p in
    let here : canon_shown (c ∷ s) ≡ c ∷ canon_shown s = rw u refl in
    record {
      left = r.left;
      remains = r.remains;
      canonical =
          here ∙ ap (λ t. c ∷ t) r.canonical ∙ ap (λ y. y ∷ (run ++ canon_shown r.left)) (sym byte);
    }
run_of rest (b ∷ run) stop (c ∷ s) e h (suffix, inr (u, k), p) =
    let same : b ∷ (run ++ stop) ≡ percent ∷ (hex (c / 16) ∷ hex (c % 16) ∷ suffix) = sym e ∙ k in
    absurd (no_plain_percent b h.0 cc)

-- a byte and those after it
pub shown_byte : (b : ℕ) (s : List ℕ) → canon_shown (b ∷ s) ≡ encoding b ++ canon_shown s
shown_byte b s = grind arith

-- the rest of the text spells bytes whose canonical text is still to be written
pub record Unencoded (rest : List ℕ) (R : List ℕ → Type 0) : Type 0 where
  pub left : List ℕ
  pub remains : EncodedBytes rest left
  pub unsent : R (canon_shown left)

-- the bytes of a String, none of which needs a backslash
pub unescaped_text : (bytes prefix rest t : List ℕ) → bytes ≡ prefix ++ rest
    → Every is_unescaped prefix → rest ≡ [] → bytes ≡ t → bytes ≡ escaped t
unescaped_text bytes prefix rest t e h none same =
    let whole : bytes ≡ prefix = e ∙ ap (λ y. prefix ++ y) none ∙ append-nil prefix in
    whole ∙ sym (escaped_run prefix h) ∙ ap escaped (sym whole ∙ same)

-- the first byte of a text
pub no_first : (text rest : List ℕ) (b : ℕ) → text ≡ [] → text ≡ b ∷ rest → ⊥
no_first text rest b e f = let g : [] ≡ b ∷ rest = sym e ∙ f in cc

pub same_rest : (text rest more : List ℕ) (a b : ℕ) → text ≡ a ∷ rest → text ≡ b ∷ more
    → rest ≡ more
same_rest text rest more a b e f = let g : a ∷ rest ≡ b ∷ more = sym e ∙ f in cc

-- a text begins with canonical bytes of a Display String, and goes on with the rest
pub record Canonical (text rest : List ℕ) : Type 0 where
  pub prefix : List ℕ
  pub split : text ≡ prefix ++ rest
  pub run : (t : List ℕ) → EncodedBytes text t → CanonicalRun prefix rest t

pub canonical_none : (text : List ℕ) → Canonical text text
canonical_none text = record {
  prefix = [];
  split = refl;
  run = λ t h. record { left = t; remains = h; canonical = refl };
}

-- two runs, one after the other
runs_join : (prefix more rest t u : List ℕ) → canon_shown t ≡ prefix ++ canon_shown u
    → CanonicalRun more rest u → CanonicalRun (prefix ++ more) rest t
runs_join prefix more rest t u e r = record {
  left = r.left;
  remains = r.remains;
  canonical =
      e ∙ ap (λ y. prefix ++ y) r.canonical ∙ sym (append_assoc prefix more (canon_shown r.left));
}

pub canonical_more : (text mid more rest : List ℕ) → Canonical text mid → mid ≡ more ++ rest
    → ((t : List ℕ) → EncodedBytes mid t → CanonicalRun more rest t) → Canonical text rest
canonical_more text mid more rest c e run = record {
  prefix = c.prefix ++ more;
  split = c.split ∙ ap (λ y. c.prefix ++ y) e ∙ sym (append_assoc c.prefix more rest);
  run = λ t h. let a = c.run t h in
      runs_join c.prefix more rest t a.left a.canonical (run a.left a.remains);
}

pub canonical_plain : (text mid plain rest : List ℕ) → Canonical text mid → mid ≡ plain ++ rest
    → Every is_unencoded plain → Canonical text rest
canonical_plain text mid plain rest c e h =
    canonical_more text mid plain rest c e (λ t k. run_of mid plain rest t e h k)

pub canonical_escape : (text mid rest : List ℕ) → Canonical text mid → IsNeededEscape mid rest
    → Canonical text rest
canonical_escape text mid rest c i = canonical_more text mid i.prefix rest c i.split i.run

-- the prefix by its length
pub canonical_cut : (text rest : List ℕ) (n : ℕ) (prefix suffix : List ℕ) → Canonical text rest
    → n ≡ length text - length rest → prefix ≡ take n text → suffix ≡ drop n text
    → (t : List ℕ) → EncodedBytes text t → CanonicalRun prefix suffix t
canonical_cut text rest n prefix suffix c e f b t h =
    let sizes = ap length c.split ∙ length-append c.prefix rest in
    let size : n ≡ length c.prefix = omega arith in
    let own : prefix ≡ c.prefix =
    f ∙ ap (λ y. take y text) size ∙ ap (take (length c.prefix)) c.split
    ∙ take-append_seam c.prefix rest in
    let after : suffix ≡ rest =
    b ∙ ap (λ y. drop y text) size ∙ ap (drop (length c.prefix)) c.split
    ∙ drop-append_seam c.prefix rest in
    let a = c.run t h in
    record {
      left = a.left;
      remains = subst (λ y. EncodedBytes y a.left) (sym after) a.remains;
      canonical = a.canonical ∙ ap (λ y. y ++ canon_shown a.left) (sym own);
    }

-- an escape of a byte that needs one
escape_run : (text rest t : List ℕ) (x y z b : ℕ) → text ≡ x ∷ y ∷ z ∷ rest
    → is_unencoded b ≡ false → EncodedBytes text (b ∷ t)
    → CanonicalRun (x ∷ y ∷ z ∷ []) rest (b ∷ t)
escape_run text rest t x y z b e n (suffix, inl (u, k), p) =
    let never : true ≡ false = sym u ∙ n in
    absurd cc
escape_run text rest t x y z b e n (suffix, inr (u, k), p) =
    let same : x ∷ y ∷ z ∷ rest ≡ percent ∷ hex (b / 16) ∷ hex (b % 16) ∷ suffix = sym e ∙ k in
    let one : x ≡ percent = cc in
    let two : y ≡ hex (b / 16) = cc in
    let three : z ≡ hex (b % 16) = cc in
    let after : rest ≡ suffix = cc in
    let here : canon_shown (b ∷ t) ≡ percent ∷ hex (b / 16) ∷ hex (b % 16) ∷ canon_shown t =
    rw n refl in
    record {
      left = t;
      remains = subst (λ s. EncodedBytes s t) (sym after) p;
      canonical = here ∙ rw (one, two, three) refl;
    }

pub needed_is : (text rest : List ℕ) (x y z b : ℕ) (P : List ℕ → Type 0)
    → text ≡ x ∷ y ∷ z ∷ rest → is_unencoded b ≡ false
    → ((t : List ℕ) → EncodedBytes text t → TakesByte b P t) → IsNeededEscape text rest
needed_is text rest x y z b P e n takes = record {
  prefix = x ∷ y ∷ z ∷ [];
  split = e;
  run = λ t h. let s = takes t h in
      subst (CanonicalRun (x ∷ y ∷ z ∷ []) rest) (sym s.split)
      (escape_run text rest s.left x y z b e n (subst (EncodedBytes text) s.split h));
}

pub needed_cut : (text : List ℕ) (b : ℕ) (P : List ℕ → Type 0) → 3 ≤ length text
    → is_unencoded b ≡ false → ((t : List ℕ) → EncodedBytes text t → TakesByte b P t)
    → IsNeededEscape text (take (length text - 3) (drop 3 text))
needed_cut (x ∷ y ∷ z ∷ rest) b P h n takes =
    let size : length (x ∷ y ∷ z ∷ rest) - 3 ≡ length rest = omega arith in
    let whole : take (length (x ∷ y ∷ z ∷ rest) - 3) rest ≡ rest =
    ap (λ m. take m rest) size ∙ take-length rest in
    subst (IsNeededEscape (x ∷ y ∷ z ∷ rest)) (sym whole)
    (needed_is (x ∷ y ∷ z ∷ rest) rest x y z b P refl n takes)
needed_cut text b P h n takes = absurd (omega arith)
